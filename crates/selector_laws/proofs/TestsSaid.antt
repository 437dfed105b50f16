-- A test that is read has its form.
use Rattle.std.proofs.Common.{◌≡◌, ℕ, List, [], ◌∷◌, Bool, true, false, cond, refl, sym, subst, ap, ◌∙◌, Option, Some, None}
use Rattle.std.specs.Prelude.{is_some, ◌||◌}
use lib.Dec.{eqb}
use Rattle.css_data.specs.declared.selector.AttrOp.{AttrOp}
use Rattle.css_data.specs.declared.selector.AttrOp.TheVariants as ops
use Rattle.css_data.specs.declared.selector.Test.{Test}
use Rattle.css_data.specs.declared.selector.Test.TheVariants as tests
use Rattle.css_tokens.specs.declared.lexeme.Lexeme.{Lexeme}
use Rattle.css_tokens.specs.Facts.{is_this, is_delim, delim_of, ident_of, hash_of, word_of, begins, behind_first, behind_spaces}
use Rattle.css_tokens.specs.Facts.{is_space}
use Rattle.css_prelude.specs.declared.pseudo.Tested.{Tested}
use Rattle.css_prelude.specs.Options.{◌>>=◌}
use Rattle.css_prelude.specs.Words.{ident_at, word_at}
use Rattle.css_prelude.specs.Attributes.{op_char, first_op, op_at, closed, valued_at, named_at, attribute_at}
use Rattle.css_prelude.specs.Pseudos.{plain, pseudo_at}
use Rattle.css_prelude.specs.Compounds.{begins_test, class_at, attributed_at, test_by_hash, test_at}
use Rattle.selector_laws.specs.Spaces.{Spaced}
use Rattle.selector_laws.specs.Tests.{IsSignWithEqual, IsOp, IsClosed, IsTest, Id, Class, Attribute, Valued, Pseudo}

pub parts : {A B : Type 0} (p q : A × B) → Some p ≡ Some q → (p.0 ≡ q.0) × (p.1 ≡ q.1)
parts {A} {B} p q h =
    let e : p ≡ q = cc in
    (ap (λ (x : A × B). x.0) e, ap (λ (x : A × B). x.1) e)

same_pair : {A B : Type 0} (p q : A × B) → Some p ≡ Some q → p ≡ q
same_pair p q h = cc

-- white space in front
pub gap_of : (xs : List Lexeme) → Spaced xs (behind_spaces xs)
gap_of [] = ([], refl, tt)
gap_of (x ∷ xs) = by_space (gap_of xs) (is_space x) refl
  where
    by_space : Spaced xs (behind_spaces xs) → (b : Bool) → is_space x ≡ b
        → Spaced (x ∷ xs) (cond b (behind_spaces xs) (x ∷ xs))
    by_space g true e = (x ∷ g.0, ap (λ (ys : List Lexeme). x ∷ ys) g.1, (e, g.2))
    by_space g false e = ([], refl, tt)

spaced_to : (xs ys : List Lexeme) → behind_spaces xs ≡ ys → Spaced xs ys
spaced_to xs ys e = subst (λ (zs : List Lexeme). Spaced xs zs) e (gap_of xs)

-- what was read before
bound : {A B : Type 0} (o : Option A) (f : A → Option B) (b : B) → (o >>= f) ≡ Some b → (a : A) × (o ≡ Some a) × (f a ≡ Some b)
bound None f b h = absurd cc
bound (Some a) f b h = (a, refl, h)

chosen : {A : Type 0} (b : Bool) (x r : A) → cond b (Some x) None ≡ Some r → (b ≡ true) × (x ≡ r)
chosen true x r h = (refl, cc)
chosen false x r h = absurd cc

sign_first : (c : ℕ) (xs : List Lexeme) → begins c xs ≡ true → (x : Lexeme) × (xs ≡ x ∷ behind_first xs) × (is_delim c x ≡ true)
sign_first c [] h = absurd cc
sign_first c (x ∷ xs) h = (x, refl, h)

followed_by : (x : Lexeme) (xs ys zs : List Lexeme) → xs ≡ x ∷ ys → ys ≡ zs → xs ≡ x ∷ zs
followed_by x xs ys zs h e = h ∙ ap (λ (l : List Lexeme). x ∷ l) e

ident_said : (xs : List Lexeme) (r : List ℕ × List Lexeme) → ident_at xs ≡ Some r
    → (word : Lexeme) × (xs ≡ word ∷ r.1) × (ident_of word ≡ Some r.0)
ident_said [] r h = absurd cc
ident_said (x ∷ xs) r h =
    let b = bound (ident_of x) (λ t. Some (t, xs)) r h in
    let p = parts (b.0, xs) r b.2 in
    (x, ap (λ (l : List Lexeme). x ∷ l) p.1, b.1 ∙ ap (λ (t : List ℕ). Some t) p.0)

word_said : (xs : List Lexeme) (r : List ℕ × List Lexeme) → word_at xs ≡ Some r
    → (word : Lexeme) × (xs ≡ word ∷ r.1) × (word_of word ≡ Some r.0)
word_said [] r h = absurd cc
word_said (x ∷ xs) r h =
    let b = bound (word_of x) (λ t. Some (t, xs)) r h in
    let p = parts (b.0, xs) r b.2 in
    (x, ap (λ (l : List Lexeme). x ∷ l) p.1, b.1 ∙ ap (λ (t : List ℕ). Some t) p.0)

-- attributes
same_op : (o op : AttrOp) → Some o ≡ Some op → o ≡ op
same_op o op h = cc

op_is : (x equal : Lexeme) (rest : List Lexeme) (c : ℕ) (op : AttrOp) → delim_of x ≡ Some c → is_delim 61 equal ≡ true
    → op_char c ≡ Some op → IsOp op (x ∷ equal ∷ rest) rest
op_is x equal rest c op e h k = by_char (eqb c 126) (eqb c 124) (eqb c 94) (eqb c 36) (eqb c 42) refl refl refl refl refl k
  where
    as_sign : (d : ℕ) → eqb c d ≡ true → IsSignWithEqual d (x ∷ equal ∷ rest) rest
    as_sign d hd = (x, equal, refl, ap (is_this d) e ∙ hd, h)

    as_op : (o : AttrOp) → IsOp o (x ∷ equal ∷ rest) rest → Some o ≡ Some op → IsOp op (x ∷ equal ∷ rest) rest
    as_op o is k = subst (λ (p : AttrOp). IsOp p (x ∷ equal ∷ rest) rest) (same_op o op k) is

    by_char : (word dash prefix suffix part : Bool) → eqb c 126 ≡ word → eqb c 124 ≡ dash → eqb c 94 ≡ prefix
        → eqb c 36 ≡ suffix → eqb c 42 ≡ part → cond word (Some ops.Word) (cond dash (Some ops.Dash)
        (cond prefix (Some ops.Prefix) (cond suffix (Some ops.Suffix) (cond part (Some ops.Part) None)))) ≡ Some op
        → IsOp op (x ∷ equal ∷ rest) rest
    by_char true b c d f ha hb hc hd hf k = as_op ops.Word (as_sign 126 ha) k
    by_char false true c d f ha hb hc hd hf k = as_op ops.Dash (as_sign 124 hb) k
    by_char false false true d f ha hb hc hd hf k = as_op ops.Prefix (as_sign 94 hc) k
    by_char false false false true f ha hb hc hd hf k = as_op ops.Suffix (as_sign 36 hd) k
    by_char false false false false true ha hb hc hd hf k = as_op ops.Part (as_sign 42 hf) k
    by_char false false false false false ha hb hc hd hf k = absurd cc

op_said : (xs : List Lexeme) (r : AttrOp × List Lexeme) → op_at xs ≡ Some r → IsOp r.0 xs r.1
op_said [] r h = absurd cc
op_said (x ∷ xs) r h = by_equal (is_delim 61 x) refl h
  where
    by_sign : (o : AttrOp) → first_op (x ∷ xs) ≡ Some o
        → cond (begins 61 xs) (Some (o, behind_first xs)) None ≡ Some r → IsOp r.0 (x ∷ xs) r.1
    by_sign o e h =
        let b = bound (delim_of x) op_char o e in
        let c = chosen (begins 61 xs) (o, behind_first xs) r h in
        let s = sign_first 61 xs c.0 in
        let is : IsOp o (x ∷ s.0 ∷ behind_first xs) (behind_first xs) = op_is x s.0 (behind_first xs) b.0 o b.1 s.2 b.2 in
        subst (λ (q : AttrOp × List Lexeme). IsOp q.0 (x ∷ xs) q.1) c.1
        (subst (λ (ys : List Lexeme). IsOp o (x ∷ ys) (behind_first xs)) (sym s.1) is)

    by_equal : (b : Bool) → is_delim 61 x ≡ b → cond b (Some (ops.Equal, xs))
        (first_op (x ∷ xs) >>= λ op. cond (begins 61 xs) (Some (op, behind_first xs)) None) ≡ Some r → IsOp r.0 (x ∷ xs) r.1
    by_equal true e h = subst (λ (q : AttrOp × List Lexeme). IsOp q.0 (x ∷ xs) q.1) (same_pair (ops.Equal, xs) r h) (x, refl, e)
    by_equal false e h =
        let b = bound (first_op (x ∷ xs)) (λ op. cond (begins 61 xs) (Some (op, behind_first xs)) None) r h in
        by_sign b.0 b.1 b.2

closed_said : (name : List ℕ) (op : AttrOp) (value : List ℕ) (xs : List Lexeme) (r : Test × List Lexeme)
    → closed name op value xs ≡ Some r → IsClosed xs r.1 × (r.0 ≡ tests.Attr name op value)
closed_said name op value xs r h =
    let c = chosen (begins 93 xs) (tests.Attr name op value, behind_first xs) r h in
    let s = sign_first 93 xs c.0 in (
      (s.0, followed_by s.0 xs (behind_first xs) r.1 s.1 (ap (λ (p : Test × List Lexeme). p.1) c.1), s.2),
      sym (ap (λ (p : Test × List Lexeme). p.0) c.1),
    )

attribute_said : (x : Lexeme) (xs : List Lexeme) (r : Test × List Lexeme) → is_delim 91 x ≡ true → attribute_at xs ≡ Some r
    → IsTest (plain r.0) (x ∷ xs) r.1
attribute_said x xs r d h =
    let b = bound (ident_at (behind_spaces xs)) (λ name. named_at name.0 (behind_spaces name.1)) r h in
    let w = ident_said (behind_spaces xs) b.0 b.1 in
    let after = b.0.1 in
    by_end b.0.0 after (behind_spaces after) w.0 (spaced_to xs (w.0 ∷ after) w.1) w.2 (gap_of after)
    (begins 93 (behind_spaces after)) refl b.2
  where
    valued : (name : List ℕ) (after sign : List Lexeme) (word : Lexeme) → Spaced xs (word ∷ after) → ident_of word ≡ Some name
        → Spaced after sign → (op : AttrOp) (more : List Lexeme) → IsOp op sign more → valued_at name op more ≡ Some r
        → IsTest (plain r.0) (x ∷ xs) r.1
    valued name after sign word g i s op more is h =
        let b = bound (word_at (behind_spaces more)) (λ v. closed name op v.0 (behind_spaces v.1)) r h in
        let w = word_said (behind_spaces more) b.0 b.1 in
        let c = closed_said name op b.0.0 (behind_spaces b.0.1) r b.2 in (
          Valued name op b.0.0,
          record {
            sign = sign;
            more = more;
            word = w.0;
            after = b.0.1;
            last = behind_spaces b.0.1;
            name_is = (x, xs, word, after, refl, d, g, i, s);
            op_is = is;
            spaced = spaced_to more (w.0 ∷ b.0.1) w.1;
            value_is = w.2;
            then_spaced = gap_of b.0.1;
            closed = c.0;
          },
          ap plain c.1,
        )

    by_end : (name : List ℕ) (after last : List Lexeme) (word : Lexeme) → Spaced xs (word ∷ after) → ident_of word ≡ Some name
        → Spaced after last → (b : Bool) → begins 93 last ≡ b
        → cond b (Some (tests.Attr name ops.Has [], behind_first last)) (op_at last >>= λ op. valued_at name op.0 op.1) ≡ Some r
        → IsTest (plain r.0) (x ∷ xs) r.1
    by_end name after last word g i s true e h =
        let p = parts (tests.Attr name ops.Has [], behind_first last) r h in
        let f = sign_first 93 last e in (
          Attribute name,
          (
            last,
            (x, xs, word, after, refl, d, g, i, s),
            (f.0, followed_by f.0 last (behind_first last) r.1 f.1 p.1, f.2),
          ),
          ap plain (sym p.0),
        )
    by_end name after last word g i s false e h =
        let b = bound (op_at last) (λ op. valued_at name op.0 op.1) r h in
        valued name after last word g i s b.0.0 b.0.1 (op_said last b.0 b.1) b.2

-- tests
class_said : (x : Lexeme) (xs : List Lexeme) (r : Tested × List Lexeme) → is_delim 46 x ≡ true → class_at xs ≡ Some r
    → IsTest r.0 (x ∷ xs) r.1
class_said x xs r d h =
    let b = bound (ident_at xs) (λ name. Some (plain (tests.Class name.0), name.1)) r h in
    let w = ident_said xs b.0 b.1 in
    let p = parts (plain (tests.Class b.0.0), b.0.1) r b.2 in
    (Class b.0.0, (x, w.0, ap (λ (l : List Lexeme). x ∷ l) (followed_by w.0 xs b.0.1 r.1 w.1 p.1), d, w.2), sym p.0)

attributed_said : (x : Lexeme) (xs : List Lexeme) (r : Tested × List Lexeme) → is_delim 91 x ≡ true → attributed_at xs ≡ Some r
    → IsTest r.0 (x ∷ xs) r.1
attributed_said x xs r d h =
    let b = bound (attribute_at xs) (λ a. Some (plain a.0, a.1)) r h in
    subst (λ (q : Tested × List Lexeme). IsTest q.0 (x ∷ xs) q.1) (same_pair (plain b.0.0, b.0.1) r b.2)
    (attribute_said x xs b.0 d b.1)

pub test_said : (xs : List Lexeme) (r : Tested × List Lexeme) → begins_test xs ≡ true → test_at xs ≡ Some r → IsTest r.0 xs r.1
test_said [] r b h = absurd cc
test_said (x ∷ xs) r b h = by_hash (hash_of x) refl b h
  where
    by_sign : (dot bracket colon : Bool) → is_delim 46 x ≡ dot → is_delim 91 x ≡ bracket → is_delim 58 x ≡ colon
        → (dot || (bracket || colon)) ≡ true
        → cond dot (class_at xs) (cond bracket (attributed_at xs) (pseudo_at x.at xs)) ≡ Some r → IsTest r.0 (x ∷ xs) r.1
    by_sign true bracket colon hd hb hc b h = class_said x xs r hd h
    by_sign false true colon hd hb hc b h = attributed_said x xs r hb h
    by_sign false false true hd hb hc b h = (Pseudo r.0, (x, xs, refl, hc, h), refl)
    by_sign false false false hd hb hc b h = absurd cc

    by_hash : (o : Option (List ℕ)) → hash_of x ≡ o
        → (is_some o || (is_delim 46 x || (is_delim 91 x || is_delim 58 x))) ≡ true
        → test_by_hash o (x ∷ xs) ≡ Some r → IsTest r.0 (x ∷ xs) r.1
    by_hash (Some name) e b h =
        let p = parts (plain (tests.Id name), xs) r h in
        (Id name, (x, ap (λ (l : List Lexeme). x ∷ l) p.1, e), sym p.0)
    by_hash None e b h = by_sign (is_delim 46 x) (is_delim 91 x) (is_delim 58 x) refl refl refl b h
