-- What is read has its form.
use Rattle.std.proofs.Common.{◌≡◌, ℕ, zero, suc, List, [], ◌∷◌, ◌++◌, length, Bool, true, false, cond, refl, sym, ap, ◌∙◌}
use Rattle.std.proofs.Common.{Option, Some, None, append_assoc, arith}
use Rattle.std.proofs.lemmas.Bool.{ne_eqb}
use lib.Dec.{eqb}
use Rattle.mc_base.specs.declared.refusal.Found.{Found}
use Rattle.css_data.specs.declared.selector.Selector.{Selector}
use Rattle.css_data.specs.declared.selector.Compound.{Compound}
use Rattle.css_data.specs.declared.selector.Test.{Test}
use Rattle.css_data.specs.declared.selector.Join.{Join}
use Rattle.css_data.specs.declared.selector.Join.TheVariants as joins
use Rattle.css_tokens.specs.declared.lexeme.Lexeme.{Lexeme}
use Rattle.css_tokens.specs.Facts.{is_delim, ident_of, begins_space, behind_spaces}
use Rattle.css_prelude.specs.declared.pseudo.Tested.{Tested}
use Rattle.css_prelude.specs.declared.compound.Tests.{Tests}
use Rattle.css_prelude.specs.declared.compound.Element.{Element}
use Rattle.css_prelude.specs.declared.compound.Compounded.{Compounded}
use Rattle.css_prelude.specs.declared.selecting.Selecting.{Selecting}
use Rattle.css_prelude.specs.declared.selecting.Selectors.{Selectors}
use Rattle.css_prelude.specs.declared.selecting.Follow.{Follow}
use Rattle.css_prelude.specs.declared.selecting.Follow.TheVariants as follows
use Rattle.css_prelude.specs.Options.{◌>>=◌}
use Rattle.css_prelude.specs.Words.{or_found}
use Rattle.css_prelude.specs.Compounds.{begins_test, test_at, no_tests, with_test, tests_from, element_at, element_named, joined}
use Rattle.css_prelude.specs.Compounds.{compound_at}
use Rattle.css_prelude.specs.Selecting.{follow_at, follow_behind, join_sign, joined_or_spaced, nothing_yet, with_compound}
use Rattle.css_prelude.specs.Selecting.{finished, with_join, followed, turned, turn, whole, continued, list_from, selectors_of}
use Rattle.selector_laws.specs.Forms.{IsJoin, IsElement, AreTests, named, tests_in, found_among}
use Rattle.selector_laws.specs.Forms.{IsSome, IsCompound, Row, Last, Joined, Comma, IsRow, first_in, others_in, found_in}
use Rattle.selector_laws.specs.Forms.{AreSelectors}
use Rattle.selector_laws.specs.Spaces.{AreSpaces, Spaced, IsSign}
use Rattle.selector_laws.proofs.TestsSaid.{parts, gap_of, test_said}

append_nil : (xs : List Lexeme) → xs ++ [] ≡ xs
append_nil [] = refl
append_nil (x ∷ xs) = ap (λ (ys : List Lexeme). x ∷ ys) (append_nil xs)

all_spaces : (xs : List Lexeme) → Spaced xs [] → AreSpaces xs
all_spaces xs g = transport AreSpaces (sym (g.1 ∙ append_nil g.0)) g.2
  where
    transport : (P : List Lexeme → Type 0) → {a b : List Lexeme} → a ≡ b → P a → P b
    transport P e h = rw (← e) h

-- what a way to follow a compound selector stands for
abbrev pub Meant : Follow → List Lexeme → List Lexeme → Type 0
Meant follows.End xs rest = AreSpaces xs
Meant follows.Comma xs rest = IsSign 44 xs rest
Meant (follows.Joined join) xs rest = IsJoin join xs rest
Meant follows.Nothing xs rest = Unit {0}

pub follow_said : (xs : List Lexeme) → Meant (follow_at xs).0 xs (follow_at xs).1
follow_said xs = by_rest (behind_spaces xs) (gap_of xs) refl
  where
    spaced_join : (xs ys : List Lexeme) → behind_spaces xs ≡ ys → begins_space xs ≡ true → IsJoin joins.Descendant xs ys
    spaced_join [] ys e h = absurd cc
    spaced_join (x ∷ xs) ys e h =
        let k : behind_spaces xs ≡ ys = sym (ap (λ (b : Bool). cond b (behind_spaces xs) (x ∷ xs)) h) ∙ e in
        (x, xs, refl, h, rw (← k) (gap_of xs))

    signed : (c : ℕ) (y : Lexeme) (ys : List Lexeme) → Spaced xs (y ∷ ys) → is_delim c y ≡ true
        → IsSign c xs (behind_spaces ys)
    signed c y ys g h = (y, ys, g, h, gap_of ys)

    by_sign : (y : Lexeme) (ys : List Lexeme) → Spaced xs (y ∷ ys) → behind_spaces xs ≡ y ∷ ys → (a b c s : Bool)
        → is_delim 62 y ≡ a → is_delim 43 y ≡ b → is_delim 126 y ≡ c → begins_space xs ≡ s
        → let f = joined_or_spaced s (cond a (Some joins.Child) (cond b (Some joins.Next)
        (cond c (Some joins.Later) None))) (y ∷ ys) in Meant f.0 xs f.1
    by_sign y ys g e true b c s ha hb hc hs = signed 62 y ys g ha
    by_sign y ys g e false true c s ha hb hc hs = signed 43 y ys g hb
    by_sign y ys g e false false true s ha hb hc hs = signed 126 y ys g hc
    by_sign y ys g e false false false true ha hb hc hs = spaced_join xs (y ∷ ys) e hs
    by_sign y ys g e false false false false ha hb hc hs = tt

    by_comma : (y : Lexeme) (ys : List Lexeme) → Spaced xs (y ∷ ys) → behind_spaces xs ≡ y ∷ ys → (b : Bool)
        → is_delim 44 y ≡ b → let f = cond b (follows.Comma, behind_spaces ys)
        (joined_or_spaced (begins_space xs) (join_sign (y ∷ ys)) (y ∷ ys)) in Meant f.0 xs f.1
    by_comma y ys g e true h = signed 44 y ys g h
    by_comma y ys g e false h = by_sign y ys g e (is_delim 62 y) (is_delim 43 y) (is_delim 126 y) (begins_space xs)
        refl refl refl refl

    by_rest : (ys : List Lexeme) → Spaced xs ys → behind_spaces xs ≡ ys
        → Meant (follow_behind (begins_space xs) ys).0 xs (follow_behind (begins_space xs) ys).1
    by_rest [] g e = all_spaces xs g
    by_rest (y ∷ ys) g e = by_comma y ys g e (is_delim 44 y) refl

-- tests
abbrev pub with_tests : Tests → List Tested → Tests
with_tests all [] = all
with_tests all (t ∷ ts) = with_tests (with_test all t) ts

pub found_assoc : (a b c : Option Found) → or_found (or_found a b) c ≡ or_found a (or_found b c)
found_assoc None b c = refl
found_assoc (Some a) b c = refl

found_none : (a : Option Found) → or_found a None ≡ a
found_none None = refl
found_none (Some a) = refl

tests_none : (xs : List Test) → xs ++ [] ≡ xs
tests_none [] = refl
tests_none (x ∷ xs) = ap (λ (ys : List Test). x ∷ ys) (tests_none xs)

abbrev tests_of : List Test → Option Found → Tests
tests_of xs f = record { tests = xs; found = f }

pub with_tests_is : (all : Tests) (ts : List Tested)
    → with_tests all ts ≡ tests_of (all.tests ++ tests_in ts) (or_found all.found (found_among ts))
with_tests_is all [] = ap (λ (x : List Test). tests_of x all.found) (sym (tests_none all.tests))
    ∙ ap (tests_of (all.tests ++ [])) (sym (found_none all.found))
with_tests_is all (t ∷ ts) = with_tests_is (with_test all t) ts
    ∙ ap (λ (x : List Test). tests_of x (or_found (or_found all.found t.found) (found_among ts)))
    (append_assoc all.tests (t.test ∷ []) (tests_in ts))
    ∙ ap (tests_of (all.tests ++ (t.test ∷ tests_in ts))) (found_assoc all.found t.found (found_among ts))

pub tests_said : (n : ℕ) (all then : Tests) (xs rest : List Lexeme) → tests_from n all xs ≡ Some (then, rest)
    → (ts : List Tested) × AreTests ts xs rest × (then ≡ with_tests all ts)
unfolding tests_from
tests_said zero all then xs rest h = let p = parts (all, xs) (then, rest) h in ([], p.1, sym p.0)
tests_said (suc n) all then xs rest h = by_begins (tests_said n) (begins_test xs) refl h
  where
    by_test : ((all then : Tests) (xs rest : List Lexeme) → tests_from n all xs ≡ Some (then, rest)
        → (ts : List Tested) × AreTests ts xs rest × (then ≡ with_tests all ts)) → (o : Option (Tested × List Lexeme))
        → test_at xs ≡ o → begins_test xs ≡ true → (o >>= λ t. tests_from n (with_test all t.0) t.1) ≡ Some (then, rest)
        → (ts : List Tested) × AreTests ts xs rest × (then ≡ with_tests all ts)
    by_test below None e b h = absurd cc
    by_test below (Some t) e b h =
        let m = below (with_test all t.0) then t.1 rest h in
        (t.0 ∷ m.0, (t.1, test_said xs t b e, m.1), m.2)

    by_begins : ((all then : Tests) (xs rest : List Lexeme) → tests_from n all xs ≡ Some (then, rest)
        → (ts : List Tested) × AreTests ts xs rest × (then ≡ with_tests all ts)) → (b : Bool) → begins_test xs ≡ b
        → cond b (test_at xs >>= λ t. tests_from n (with_test all t.0) t.1) (Some (all, xs)) ≡ Some (then, rest)
        → (ts : List Tested) × AreTests ts xs rest × (then ≡ with_tests all ts)
    by_begins below true e h = by_test below (test_at xs) refl e h
    by_begins below false e h = let p = parts (all, xs) (then, rest) h in ([], p.1, sym p.0)

-- compound selectors
abbrev pub element_of : Option (Option (List ℕ)) → Element
element_of None = record { written = false; name = None }
element_of (Some name) = record { written = true; name = name }

pub element_said : (xs : List Lexeme) → (e : Option (Option (List ℕ))) × IsElement e xs (element_at xs).1
    × ((element_at xs).0 ≡ element_of e)
element_said [] = (None, refl, refl)
element_said (x ∷ xs) = by_star (is_delim 42 x) refl
  where
    by_name : (o : Option (List ℕ)) → ident_of x ≡ o → (e : Option (Option (List ℕ)))
        × IsElement e (x ∷ xs) (element_named o (x ∷ xs)).1 × ((element_named o (x ∷ xs)).0 ≡ element_of e)
    by_name None h = (None, refl, refl)
    by_name (Some name) h = (Some (Some name), (x, refl, h), refl)

    by_star : (b : Bool) → is_delim 42 x ≡ b
        → let r = cond b (record { written = true; name = None }, xs) (element_named (ident_of x) (x ∷ xs)) in
        (e : Option (Option (List ℕ))) × IsElement e (x ∷ xs) r.1 × (r.0 ≡ element_of e)
    by_star true h = (Some None, (x, refl, h), refl)
    by_star false h = by_name (ident_of x) refl

abbrev pub compounded : Option (Option (List ℕ)) → List Tested → Compounded
compounded e ts = record { compound = record { element = named e; tests = tests_in ts }; found = found_among ts }

abbrev pub tests_as : List Tested → Tests
tests_as ts = record { tests = tests_in ts; found = found_among ts }

abbrev pub in_front : List Lexeme → Option Compounded → Option (Compounded × List Lexeme)
in_front rest o = o >>= λ c. Some (c, rest)

pub some_tests : (t : Tested) (ts : List Tested) (after : List Lexeme)
    → in_front after (joined (element_of None) (tests_as (t ∷ ts))) ≡ Some (compounded None (t ∷ ts), after)
some_tests t ts after = ap (λ (b : Bool). in_front after (cond b None (Some (compounded None (t ∷ ts)))))
    (nonzero (length (tests_in ts)))
  where
    nonzero : (n : ℕ) → eqb (suc n) 0 ≡ false
    nonzero n = ne_eqb (suc n) 0 (λ e. absurd (omega (arith, e)))

built : (e : Option (Option (List ℕ))) (ts : List Tested) (c : Compounded) (after rest : List Lexeme)
    → in_front after (joined (element_of e) (tests_as ts)) ≡ Some (c, rest)
    → IsSome e ts × (c ≡ compounded e ts) × (after ≡ rest)
built None [] c after rest h = absurd cc
built None (t ∷ ts) c after rest h =
    let k = some_tests t ts after in
    let p = parts (compounded None (t ∷ ts), after) (c, rest) (sym k ∙ h) in
    (tt, sym p.0, p.1)
built (Some name) ts c after rest h = let p = parts (compounded (Some name) ts, after) (c, rest) h in (tt, sym p.0, p.1)

pub compound_said : (n : ℕ) (c : Compounded) (xs rest : List Lexeme) → compound_at n xs ≡ Some (c, rest) → IsCompound c xs rest
unfolding compound_at
compound_said n c xs rest h = by_tests (tests_from n no_tests (element_at xs).1) refl h
  where
    by_tests : (o : Option (Tests × List Lexeme)) → tests_from n no_tests (element_at xs).1 ≡ o
        → (o >>= λ t. in_front t.1 (joined (element_at xs).0 t.0)) ≡ Some (c, rest) → IsCompound c xs rest
    by_tests None e h = absurd cc
    by_tests (Some t) e h =
        let el = element_said xs in
        let m = tests_said n no_tests t.0 (element_at xs).1 t.1 e in
        let same : t.0 ≡ tests_as m.0 = m.2 ∙ with_tests_is no_tests m.0 in
        let j : in_front t.1 (joined (element_of el.0) (tests_as m.0)) ≡ Some (c, rest) =
        ap (λ (x : Element). in_front t.1 (joined x (tests_as m.0))) (sym el.2)
        ∙ ap (λ (x : Tests). in_front t.1 (joined (element_at xs).0 x)) (sym same) ∙ h in
        let b = built el.0 m.0 c t.1 rest j in
        record {
          element = el.0;
          tests = m.0;
          more = (element_at xs).1;
          element_is = el.1;
          tests_are = rw (← b.2) m.1;
          some = b.0;
          whole = b.1;
        }

-- rows
abbrev pub with_row : Selecting → Row → Selectors
with_row s (Last c) = whole (finished (with_compound s c))
with_row s (Joined c join row) = with_row (with_join (with_compound s c) join) row
with_row s (Comma c row) = with_row (finished (with_compound s c)) row

abbrev Said : Selecting → List Lexeme → Selectors → Type 0
Said s xs all = (row : Row) × IsRow row xs × (all ≡ with_row s row)

by_follow : (more : Selecting → List Lexeme → Option Selectors) (s : Selecting) (xs : List Lexeme) (all : Selectors)
    → ((t : Selecting) (ys : List Lexeme) → more t ys ≡ Some all → Said t ys all) → (f : Follow) (c : Compounded)
    (rest after : List Lexeme) → IsCompound c xs rest → Meant f rest after
    → continued (followed (with_compound s c) f) (λ next. more next after) ≡ Some all → Said s xs all
by_follow more s xs all below follows.End c rest after is m h = (Last c, (rest, is, m), cc)
by_follow more s xs all below follows.Comma c rest after is m h =
    let b = below (finished (with_compound s c)) after h in
    (Comma c b.0, (rest, after, is, m, b.1), b.2)
by_follow more s xs all below (follows.Joined join) c rest after is m h =
    let b = below (with_join (with_compound s c) join) after h in
    (Joined c join b.0, (rest, after, is, m, b.1), b.2)
by_follow more s xs all below follows.Nothing c rest after is m h = absurd cc

pub row_said : (k size : ℕ) (s : Selecting) (xs : List Lexeme) (all : Selectors) → list_from k size s xs ≡ Some all
    → Said s xs all
unfolding list_from turn
row_said zero size s xs all h = absurd cc
row_said (suc k) size s xs all h = by_compound (λ t ys. row_said k size t ys all) (compound_at size xs) refl h
  where
    by_compound : ((t : Selecting) (ys : List Lexeme) → list_from k size t ys ≡ Some all → Said t ys all)
        → (o : Option (Compounded × List Lexeme)) → compound_at size xs ≡ o
        → continued (turned s o xs).0 (λ next. list_from k size next (turned s o xs).1) ≡ Some all → Said s xs all
    by_compound below None e h = absurd cc
    by_compound below (Some c) e h = by_follow (list_from k size) s xs all below (follow_at c.1).0 c.0 c.1 (follow_at c.1).1
        (compound_said size c.0 xs c.1 e) (follow_said c.1) h

abbrev answer : List Selector → List Compound → List Join → List Selector → Option Found → Selectors
answer done compounds joins others found = record {
  selectors = done ++ record { compounds = compounds; joins = joins } ∷ others;
  found = found;
}

joins_none : (xs : List Join) → xs ++ [] ≡ xs
joins_none [] = refl
joins_none (x ∷ xs) = ap (λ (ys : List Join). x ∷ ys) (joins_none xs)

pub with_row_is : (s : Selecting) (row : Row) → with_row s row ≡ answer s.done (s.compounds ++ (first_in row).compounds)
    (s.joins ++ (first_in row).joins) (others_in row) (or_found s.found (found_in row))
with_row_is s (Last c) = ap (λ (j : List Join). answer s.done (s.compounds ++ c.compound ∷ []) j [] (or_found s.found c.found))
    (sym (joins_none s.joins))
with_row_is s (Joined c join row) =
    let f = first_in row in
    with_row_is (with_join (with_compound s c) join) row
    ∙ ap (λ (x : List Compound). answer s.done x ((s.joins ++ join ∷ []) ++ f.joins) (others_in row)
    (or_found (or_found s.found c.found) (found_in row))) (append_assoc s.compounds (c.compound ∷ []) f.compounds)
    ∙ ap (λ (x : List Join). answer s.done (s.compounds ++ (c.compound ∷ f.compounds)) x (others_in row)
    (or_found (or_found s.found c.found) (found_in row))) (append_assoc s.joins (join ∷ []) f.joins)
    ∙ ap (answer s.done (s.compounds ++ (c.compound ∷ f.compounds)) (s.joins ++ (join ∷ f.joins)) (others_in row))
    (found_assoc s.found c.found (found_in row))
with_row_is s (Comma c row) =
    let f = first_in row in
    let one : Selector = record { compounds = s.compounds ++ c.compound ∷ []; joins = s.joins } in
    with_row_is (finished (with_compound s c)) row
    ∙ ap (λ (x : List Selector). record { selectors = x; found = or_found (or_found s.found c.found) (found_in row) })
    (append_assoc s.done (one ∷ []) (f ∷ others_in row))
    ∙ ap (λ (j : List Join). answer s.done (s.compounds ++ c.compound ∷ []) j (f ∷ others_in row)
    (or_found (or_found s.found c.found) (found_in row))) (sym (joins_none s.joins))
    ∙ ap (answer s.done (s.compounds ++ c.compound ∷ []) (s.joins ++ []) (f ∷ others_in row))
    (found_assoc s.found c.found (found_in row))

pub selectors_said : (xs : List Lexeme) (s : Selectors) → selectors_of xs ≡ Some s → AreSelectors xs s
selectors_said xs s h =
    let r = row_said (length xs) (length xs) nothing_yet (behind_spaces xs) s h in
    record {
      row = r.0;
      more = behind_spaces xs;
      spaced = gap_of xs;
      row_is = r.1;
      whole = r.2 ∙ with_row_is nothing_yet r.0;
    }
