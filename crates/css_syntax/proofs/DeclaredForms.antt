-- A piece is read as the declaration that it says.
use Rattle.std.proofs.Common.{◌≡◌, ℕ, suc, List, [], ◌∷◌, ◌++◌, map, length, Bool, true, false, cond, ◌&&◌}
use Rattle.std.proofs.Common.{refl, sym, ap, subst, ◌∙◌, append_assoc}
use Rattle.std.specs.Prelude.{◌==◌, Option, Some, None, codes}
use Rattle.std.specs.List.{list_any}
use Rattle.std.proofs.lemmas.Bool.{true≢false, and_parts, ne_eqb}
use Rattle.css_data.specs.declared.rule.RawDeclaration.{RawDeclaration}
use Rattle.css_data.specs.declared.token.CssToken.{CssToken}
use Rattle.css_tokens.specs.declared.lexeme.Lexeme.{Lexeme}
use Rattle.css_tokens.specs.declared.lexeme.Symbol.{Symbol}
use Rattle.css_tokens.specs.declared.lexeme.Symbol.TheVariants.{Ident, Hash, Quoted, Number, Percent, Dimension, Function, Delim}
use Rattle.css_tokens.specs.declared.lexeme.Symbol.TheVariants.{Space, Broken}
use Rattle.css_tokens.specs.Facts.{is_space, is_space_in, is_delim, is_word, ident_in, ident_of, begins_space, behind_spaces}
use Rattle.css_syntax.specs.Tokens.{token_of}
use Rattle.css_syntax.specs.Blocks.{trimmed, last, before_last, is_this, ends_with, names_important, is_important, ends_important}
use Rattle.css_syntax.specs.Blocks.{parted, is_escape, first_name, declared_as, valued, named, declaration_of}
use Rattle.css_syntax.specs.Styling.{ends_space, IsValue, Declares}
use Rattle.css_syntax.proofs.BlockFaults.{is_symbol}
use Rattle.css_syntax.proofs.Trimming.{Fronted, fronted, spaces_back, cut, trimmed_cut, cut_ended, cut_back, last_back}
use Rattle.css_syntax.proofs.Trimming.{front_back, lasting, ends_other}

abbrev parts : List Lexeme → Bool → List Lexeme × Bool
parts xs b = (xs, b)

-- !important

abbrev test : List Lexeme → Bool
test xs = ends_important xs && ends_with 33 (trimmed (before_last xs))

abbrev without : List Lexeme → List Lexeme
without xs = trimmed (before_last (trimmed (before_last xs)))

record Word (w : Lexeme) : Type 0 where
  name : List ℕ
  named : ident_of w ≡ Some name
  is : is_word name (codes "important") ≡ true

word_of_test : (w : Lexeme) → names_important (ident_of w) ≡ true → Word w
word_of_test w h = by_ident (ident_of w) refl h
  where
    by_ident : (o : Option (List ℕ)) → ident_of w ≡ o → names_important o ≡ true → Word w
    by_ident None e h = absurd cc
    by_ident (Some name) e h = record { name = name; named = e; is = h }

-- the last, where it passes a test
record Last (xs : List Lexeme) : Type 0 where
  front : List Lexeme
  final : Lexeme
  whole : xs ≡ front ++ final ∷ []
  is : last xs ≡ Some final
  before : before_last xs ≡ front

some_last : (x : Lexeme) (xs : List Lexeme) → Last (x ∷ xs)
some_last x xs =
    let l = lasting x xs in
    record {
      front = l.front;
      final = l.final;
      whole = l.whole;
      is = ap last l.whole ∙ last_back l.front l.final;
      before = ap before_last l.whole ∙ front_back l.front l.final;
    }

important_last : (xs : List Lexeme) → ends_important xs ≡ true → Last xs
important_last [] h = absurd cc
important_last (x ∷ xs) h = some_last x xs

marked_last : (xs : List Lexeme) → ends_with 33 xs ≡ true → Last xs
marked_last [] h = absurd cc
marked_last (x ∷ xs) h = some_last x xs

regroup : (a b : List Lexeme) (m : Lexeme) (c : List Lexeme) (w : Lexeme)
    → (((a ++ b) ++ m ∷ []) ++ c) ++ w ∷ [] ≡ a ++ (b ++ (m ∷ (c ++ w ∷ [])))
regroup a b m c w = simp append_assoc

important_found : (xs : List Lexeme) → test xs ≡ true → IsValue xs (without xs) true
important_found xs h =
    let a = and_parts (ends_important xs) (ends_with 33 (trimmed (before_last xs))) h in
    let l = important_last xs a.0 in
    let word = word_of_test l.final (sym (ap is_important l.is) ∙ a.0) in
    let inner : trimmed (before_last xs) ≡ cut l.front = ap trimmed l.before ∙ trimmed_cut l.front in
    let e = cut_ended l.front in
    let marked : ends_with 33 (cut l.front) ≡ true = sym (ap (ends_with 33) inner) ∙ a.1 in
    let m = marked_last (cut l.front) marked in
    let value_is : without xs ≡ cut m.front = ap (λ (y : List Lexeme). trimmed (before_last y)) inner ∙ ap trimmed m.before
    ∙ trimmed_cut m.front in
    let v = cut_ended m.front in
    subst (λ (y : List Lexeme). IsValue xs y true) (sym value_is) (
      v.white,
      m.final ∷ (e.white ++ l.final ∷ []),
      l.whole ∙ ap (λ (y : List Lexeme). y ++ l.final ∷ [])
          (e.whole ∙ ap (λ (y : List Lexeme). y ++ e.white) (m.whole ∙ ap (λ (y : List Lexeme). y ++ m.final ∷ []) v.whole))
          ∙ regroup (cut m.front) v.white m.final e.white l.final,
      v.stops,
      v.spaces,
      record {
        mark = m.final;
        white = e.white;
        word = l.final;
        name = word.name;
        whole = refl;
        marked = sym (ap (is_this 33) m.is) ∙ marked;
        spaces = e.spaces;
        named = word.named;
        is = word.is;
      },
    )

mark_is_no_space : (x : Lexeme) (c : ℕ) → is_delim c x ≡ true → is_space x ≡ false
mark_is_no_space x c h = ap is_space_in (is_symbol x c h)

important_back : (xs value : List Lexeme) → IsValue xs value true → (test xs ≡ true) × (without xs ≡ value)
important_back xs value h =
    let white = h.0 in
    let i = h.5 in
    let body = value ++ white in
    let marked = body ++ i.mark ∷ [] in
    let front = marked ++ i.white in
    let e : xs ≡ front ++ i.word ∷ [] = h.2 ∙ ap (λ (y : List Lexeme). value ++ (white ++ y)) i.whole
    ∙ sym (regroup value white i.mark i.white i.word) in
    let important : ends_important xs ≡ true = ap is_important (ap last e ∙ last_back front i.word) ∙ ap names_important i.named
    ∙ i.is in
    let before : before_last xs ≡ front = ap before_last e ∙ front_back front i.word in
    let other : ends_space marked ≡ false = ends_other body i.mark (mark_is_no_space i.mark 33 i.marked) in
    let inner : trimmed (before_last xs) ≡ marked = ap trimmed before ∙ trimmed_cut front
    ∙ cut_back marked i.white other i.spaces in
    let mark : ends_with 33 (trimmed (before_last xs)) ≡ true = ap (ends_with 33) inner ∙ ap (is_this 33) (last_back body i.mark)
    ∙ i.marked in (
      ap (λ (b : Bool). b && ends_with 33 (trimmed (before_last xs))) important ∙ mark,
      ap (λ (y : List Lexeme). trimmed (before_last y)) inner ∙ ap trimmed (front_back body i.mark) ∙ trimmed_cut body
          ∙ cut_back value white h.3 h.4,
    )

parted_found : (xs : List Lexeme) → IsValue xs (parted xs).0 (parted xs).1
parted_found xs = by_test (test xs) refl
  where
    by_test : (b : Bool) → test xs ≡ b
        → IsValue xs (cond b (parts (without xs) true) (parts xs false)).0 (cond b (parts (without xs) true) (parts xs false)).1
    by_test true h = important_found xs h
    by_test false h = (
      refl,
      λ front final e i.
          let t = cut_ended front in
          let whole : xs ≡ cut front ++ (t.white ++ final) = e ∙ ap (λ (y : List Lexeme). y ++ final) t.whole
          ∙ append_assoc (cut front) t.white final in
          let back = important_back xs (cut front) (t.white, final, whole, t.stops, t.spaces, i) in
          true≢false (sym back.0 ∙ h),
    )

parted_back : (xs value : List Lexeme) (b : Bool) → IsValue xs value b → parted xs ≡ parts value b
parted_back xs value true h =
    let back = important_back xs value h in
    ap (λ (b : Bool). cond b (parts (without xs) true) (parts xs false)) back.0 ∙ ap (λ (y : List Lexeme). parts y true) back.1
parted_back xs value false h = ap (λ (b : Bool). cond b (parts (without xs) true) (parts xs false)) (by_test (test xs) refl)
    ∙ ap (λ (y : List Lexeme). parts y false) h.0
  where
    by_test : (b : Bool) → test xs ≡ b → test xs ≡ false
    by_test true e =
        let f = important_found xs e in
        absurd (h.1 (without xs ++ f.0) f.1 (f.2 ∙ sym (append_assoc (without xs) f.0 f.1)) f.5)
    by_test false e = e

-- Declarations.

abbrev declared : List ℕ → ℕ → List Lexeme → Bool → RawDeclaration
declared name at value important = record { name = name; value = map token_of value; important = important; offset = at }

name_is_no_space : (x : Lexeme) (name : List ℕ) → ident_of x ≡ Some name → is_space x ≡ false
name_is_no_space x name h = by_symbol x.symbol h
  where
    by_symbol : (y : Symbol) → ident_in y ≡ Some name → is_space_in y ≡ false
    by_symbol (Ident text) h = refl
    by_symbol (Hash text) h = refl
    by_symbol (Quoted text) h = refl
    by_symbol (Number digits) h = refl
    by_symbol (Percent digits) h = refl
    by_symbol (Dimension digits unit) h = refl
    by_symbol (Function f paren) h = refl
    by_symbol (Delim d) h = refl
    by_symbol Space h = absurd cc
    by_symbol (Broken rule) h = refl

pub declares_found : (p : List Lexeme) (d : RawDeclaration) → declaration_of p ≡ Some d → Declares p d
unfolding declaration_of
declares_found p d h = by_escape (list_any is_escape p) refl h
  where
    f : Fronted p
    f = fronted p

    by_length : (n : Lexeme) (name : List ℕ) (zs : List Lexeme) (k : Lexeme) (vs : List Lexeme) → list_any is_escape p ≡ false
        → behind_spaces p ≡ n ∷ zs → ident_of n ≡ Some name
        → behind_spaces zs ≡ k ∷ vs → is_delim 58 k ≡ true → (v : List Lexeme × Bool) → v ≡ parted (trimmed (behind_spaces vs))
        → (b : Bool) → (length v.0 == 0) ≡ b → cond b None (Some (declared name n.at v.0 v.1)) ≡ Some d → Declares p d
    by_length n name zs k vs escape first ident second colon v e true some h = absurd cc
    by_length n name zs k vs escape first ident second colon v e false some h =
        let g = fronted zs in
        let w = fronted vs in
        let r = behind_spaces vs in
        let t = cut_ended r in
        let valued : IsValue (cut r) v.0 v.1 =
        subst (λ (y : List Lexeme × Bool). IsValue (cut r) y.0 y.1) (ap parted (sym (trimmed_cut r)) ∙ sym e)
        (parted_found (cut r)) in
        let same : declared name n.at v.0 v.1 ≡ d = cc in
        subst (Declares p) same (record {
          before = f.white;
          name = n;
          between = g.white;
          colon = k;
          white = w.white;
          rest = cut r;
          last = t.white;
          value = v.0;
          whole = f.whole ∙ ap (λ (y : List Lexeme). f.white ++ y)
              (first ∙ ap (λ (y : List Lexeme). n ∷ y)
              (g.whole ∙ ap (λ (y : List Lexeme). g.white ++ y)
              (second ∙ ap (λ (y : List Lexeme). k ∷ y) (w.whole ∙ ap (λ (y : List Lexeme). w.white ++ y) t.whole))));
          spaces = (f.spaces, g.spaces, w.spaces, t.spaces);
          begins = front_cut r t.white t.whole w.stops;
          ends = t.stops;
          named = ident;
          stands = refl;
          parted = colon;
          valued = valued;
          some = λ none. true≢false (ap (λ (y : List Lexeme). length y == 0) (sym none) ∙ some);
          value_is = refl;
          no_escape = escape;
        })
      where
        front_cut : (xs white : List Lexeme) → xs ≡ cut xs ++ white → begins_space xs ≡ false → begins_space (cut xs) ≡ false
        front_cut xs white e h = by_list (cut xs) (sym (ap begins_space e) ∙ h)
          where
            by_list : (ys : List Lexeme) → begins_space (ys ++ white) ≡ false → begins_space ys ≡ false
            by_list [] h = refl
            by_list (y ∷ ys) h = h

    by_colon : (n : Lexeme) (name : List ℕ) (zs : List Lexeme) → list_any is_escape p ≡ false → behind_spaces p ≡ n ∷ zs
        → ident_of n ≡ Some name
        → (us : List Lexeme) → behind_spaces zs ≡ us → valued name n.at us ≡ Some d → Declares p d
    by_colon n name zs escape first ident [] second h = absurd cc
    by_colon n name zs escape first ident (k ∷ vs) second h = by_sign (is_delim 58 k) refl h
      where
        v : List Lexeme × Bool
        v = parted (trimmed (behind_spaces vs))

        by_sign : (b : Bool) → is_delim 58 k ≡ b → cond b (declared_as name n.at v) None ≡ Some d → Declares p d
        by_sign true colon h = by_length n name zs k vs escape first ident second colon v refl (length v.0 == 0) refl h
        by_sign false colon h = absurd cc

    by_name : (n : Lexeme) (zs : List Lexeme) → list_any is_escape p ≡ false → behind_spaces p ≡ n ∷ zs → (o : Option (List ℕ))
        → ident_of n ≡ o → named o (n ∷ zs) ≡ Some d → Declares p d
    by_name n zs escape first None ident h = absurd cc
    by_name n zs escape first (Some name) ident h = by_colon n name zs escape first ident (behind_spaces zs) refl h

    by_first : list_any is_escape p ≡ false → (ys : List Lexeme) → behind_spaces p ≡ ys → named (first_name ys) ys ≡ Some d
        → Declares p d
    by_first escape [] first h = absurd cc
    by_first escape (n ∷ zs) first h = by_name n zs escape first (ident_of n) refl h

    by_escape : (b : Bool) → list_any is_escape p ≡ b
        → cond b None (named (first_name (behind_spaces p)) (behind_spaces p)) ≡ Some d → Declares p d
    by_escape true e h = absurd cc
    by_escape false e h = by_first e (behind_spaces p) refl h

pub declares_back : (p : List Lexeme) (d : RawDeclaration) → Declares p d → declaration_of p ≡ Some d
unfolding declaration_of
declares_back p d h =
    ap (λ (b : Bool). cond b None (named (first_name (behind_spaces p)) (behind_spaces p))) h.no_escape
    ∙ ap (λ (y : List Lexeme). named (first_name y) y) first
    ∙ ap (λ (o : Option (List ℕ)). named o (h.name ∷ after_name)) h.named
    ∙ ap (valued d.name h.name.at) second
    ∙ ap (λ (b : Bool). cond b (declared_as d.name h.name.at (parted (trimmed (behind_spaces after_colon)))) None) h.parted
    ∙ ap (declared_as d.name h.name.at) value
    ∙ ap (λ (b : Bool). cond b None (Some (declared d.name h.name.at h.value d.important))) (no_length h.value h.some)
    ∙ ap (λ (n : ℕ). Some (declared d.name n h.value d.important)) (sym h.stands)
    ∙ ap (λ (v : List CssToken). Some (record { name = d.name; value = v; important = d.important; offset = d.offset }))
    (sym h.value_is)
  where
    after_colon : List Lexeme
    after_colon = h.white ++ (h.rest ++ h.last)

    after_name : List Lexeme
    after_name = h.between ++ (h.colon ∷ after_colon)

    first : behind_spaces p ≡ h.name ∷ after_name
    first = ap behind_spaces h.whole
        ∙ spaces_back h.before (h.name ∷ after_name) h.spaces.0 (name_is_no_space h.name d.name h.named)

    second : behind_spaces after_name ≡ h.colon ∷ after_colon
    second = spaces_back h.between (h.colon ∷ after_colon) h.spaces.1 (mark_is_no_space h.colon 58 h.parted)

    begins_rest : (ys zs : List Lexeme) → begins_space ys ≡ false → (ys ≡ [] → ⊥) → begins_space (ys ++ zs) ≡ false
    begins_rest [] zs e some = absurd (some refl)
    begins_rest (y ∷ ys) zs e some = e

    -- the value and what belongs to it isn't empty
    some_rest : (b : Bool) → IsValue h.rest h.value b → h.rest ≡ [] → ⊥
    some_rest true v e = h.some (front_empty h.value (v.0 ++ v.1) (sym v.2 ∙ e))
      where
        front_empty : (a b : List Lexeme) → a ++ b ≡ [] → a ≡ []
        front_empty [] b e = refl
        front_empty (x ∷ a) b e = absurd cc
    some_rest false v e = h.some (sym v.0 ∙ e)

    trimmed_is : trimmed (behind_spaces after_colon) ≡ h.rest
    trimmed_is =
        ap trimmed (spaces_back h.white (h.rest ++ h.last) h.spaces.2
        (begins_rest h.rest h.last h.begins (some_rest d.important h.valued)))
        ∙ trimmed_cut (h.rest ++ h.last) ∙ cut_back h.rest h.last h.ends h.spaces.3

    value : parted (trimmed (behind_spaces after_colon)) ≡ parts h.value d.important
    value = ap parted trimmed_is ∙ parted_back h.rest h.value d.important h.valued

    no_length : (ys : List Lexeme) → (ys ≡ [] → ⊥) → (length ys == 0) ≡ false
    no_length [] some = absurd (some refl)
    no_length (y ∷ ys) some = ne_eqb (suc (length ys)) 0 (λ e. absurd cc)

pub declares_none : (p : List Lexeme) → ((d : RawDeclaration) → Declares p d → ⊥) → declaration_of p ≡ None
declares_none p h = by_option (declaration_of p) refl
  where
    by_option : (o : Option RawDeclaration) → declaration_of p ≡ o → declaration_of p ≡ None
    by_option None e = e
    by_option (Some d) e = absurd (h d (declares_found p d e))
