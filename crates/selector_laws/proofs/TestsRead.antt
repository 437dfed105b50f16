-- A test that has its form is read.
use Rattle.std.proofs.Common.{◌≡◌, ℕ, List, [], ◌∷◌, Bool, true, false, cond, refl, sym, ap, ◌∙◌, Option, Some, None}
use Rattle.std.specs.Prelude.{is_some, ◌||◌}
use Rattle.std.proofs.lemmas.Bool.{eqb-true}
use lib.Dec.{eqb}
use Rattle.css_data.specs.declared.selector.AttrOp.{AttrOp}
use Rattle.css_data.specs.declared.selector.AttrOp.TheVariants as ops
use Rattle.css_data.specs.declared.selector.Test.{Test}
use Rattle.css_data.specs.declared.selector.Test.TheVariants as tests
use Rattle.css_tokens.specs.declared.lexeme.Lexeme.{Lexeme}
use Rattle.css_tokens.specs.declared.lexeme.Symbol.{Symbol}
use Rattle.css_tokens.specs.declared.lexeme.Symbol.TheVariants.{Ident, Quoted, Delim}
use Rattle.css_tokens.specs.Facts.{is_this, is_delim, delim_in, delim_of, is_space_in, ident_of, hash_in, hash_of, word_in}
use Rattle.css_tokens.specs.Facts.{begins, begins_space, behind_first, behind_spaces}
use Rattle.css_prelude.specs.declared.pseudo.Tested.{Tested}
use Rattle.css_prelude.specs.Options.{◌>>=◌}
use Rattle.css_prelude.specs.Words.{ident_at, word_at}
use Rattle.css_prelude.specs.Attributes.{op_char, op_at, closed, valued_at, named_at}
use Rattle.css_prelude.specs.Pseudos.{plain, pseudo_at}
use Rattle.css_prelude.specs.Compounds.{begins_test, class_at, attributed_at, test_by_hash, test_at}
use Rattle.selector_laws.specs.Tests.{IsSignWithEqual, IsOp, IsNamed, IsClosed, IsValued, HasForm, tested_as, Form, Id, Class}
use Rattle.selector_laws.specs.Tests.{Attribute, Valued, Pseudo, IsTest}
use Rattle.selector_laws.proofs.Starts.{ident_only, other, sign_no_space, behind_spaced}

sign_no_hash : (c : ℕ) (s : Symbol) → is_this c (delim_in s) ≡ true → hash_in s ≡ None
sign_no_hash c (Delim d) h = refl
sign_no_hash c _ h = absurd cc

word_no_space : (value : List ℕ) (s : Symbol) → word_in s ≡ Some value → is_space_in s ≡ false
word_no_space value (Ident text) h = refl
word_no_space value (Quoted text) h = refl
word_no_space value _ h = absurd cc

sign_is : (c : ℕ) (o : Option ℕ) → is_this c o ≡ true → o ≡ Some c
sign_is c None h = absurd cc
sign_is c (Some a) h = ap (λ (n : ℕ). Some n) (eqb-true a c h)

-- a test begins as one, and is read
abbrev Reads : List Lexeme → Tested → List Lexeme → Type 0
Reads xs t rest = (begins_test xs ≡ true) × (test_at xs ≡ Some (t, rest))

id_read : (name : List ℕ) (x : Lexeme) (rest : List Lexeme) → hash_of x ≡ Some name
    → Reads (x ∷ rest) (plain (tests.Id name)) rest
id_read name x rest h = (
  ap (λ (o : Option (List ℕ)). is_some o || (is_delim 46 x || (is_delim 91 x || is_delim 58 x))) h,
  ap (λ (o : Option (List ℕ)). test_by_hash o (x ∷ rest)) h,
)

-- what stands after a sign
by_signs : (c : ℕ) (x : Lexeme) (rest : List Lexeme) (dot bracket colon : Bool) → is_delim c x ≡ true → is_delim 46 x ≡ dot
    → is_delim 91 x ≡ bracket → is_delim 58 x ≡ colon → (dot || (bracket || colon)) ≡ true
    → (begins_test (x ∷ rest) ≡ true)
    × (test_at (x ∷ rest) ≡ cond dot (class_at rest) (cond bracket (attributed_at rest) (pseudo_at x.at rest)))
by_signs c x rest dot bracket colon h hd hb hc e =
    let none = sign_no_hash c x.symbol h in (
      ap (λ (o : Option (List ℕ)). is_some o || (is_delim 46 x || (is_delim 91 x || is_delim 58 x))) none
          ∙ ap (λ (b : Bool). b || (is_delim 91 x || is_delim 58 x)) hd
          ∙ ap (λ (b : Bool). dot || (b || is_delim 58 x)) hb
          ∙ ap (λ (b : Bool). dot || (bracket || b)) hc ∙ e,
      ap (λ (o : Option (List ℕ)). test_by_hash o (x ∷ rest)) none
          ∙ ap (λ (b : Bool). cond b (class_at rest) (cond (is_delim 91 x) (attributed_at rest) (pseudo_at x.at rest))) hd
          ∙ ap (λ (b : Bool). cond dot (class_at rest) (cond b (attributed_at rest) (pseudo_at x.at rest))) hb,
    )

class_read : (name : List ℕ) (x word : Lexeme) (rest : List Lexeme) → is_delim 46 x ≡ true → ident_of word ≡ Some name
    → Reads (x ∷ word ∷ rest) (plain (tests.Class name)) rest
class_read name x word rest h i =
    let s = by_signs 46 x (word ∷ rest) true (is_delim 91 x) (is_delim 58 x) h h refl refl refl in
    let put : List ℕ × List Lexeme → Option (Tested × List Lexeme) = λ n. Some (plain (tests.Class n.0), n.1) in
    (s.0, s.1 ∙ ap (λ (o : Option (List ℕ)). (o >>= λ t. Some (t, rest)) >>= put) i)

pseudo_read : (t : Tested) (x : Lexeme) (more rest : List Lexeme) → is_delim 58 x ≡ true
    → pseudo_at x.at more ≡ Some (t, rest) → Reads (x ∷ more) t rest
pseudo_read t x more rest h k =
    let o = delim_in x.symbol in
    let s = by_signs 58 x more false false true h (other 58 46 o h refl) (other 58 91 o h refl) h refl in
    (s.0, s.1 ∙ k)

-- attributes
record Op (op : AttrOp) (xs rest : List Lexeme) : Type 0 where
  space : begins_space xs ≡ false
  open_still : begins 93 xs ≡ false
  read : op_at xs ≡ Some (op, rest)

op_by : (c : ℕ) (op : AttrOp) (xs rest : List Lexeme) → op_char c ≡ Some op → eqb c 61 ≡ false → eqb c 93 ≡ false
    → IsSignWithEqual c xs rest → Op op xs rest
op_by c op xs rest k h61 h93 h =
    let x = h.0 in
    let y = h.1 in
    let o = delim_of x in
    record {
      space = ap begins_space h.2 ∙ sign_no_space c x h.3;
      open_still = ap (begins 93) h.2 ∙ other c 93 o h.3 h93;
      read = ap op_at h.2
          ∙ ap (λ (b : Bool). cond b (Some (ops.Equal, y ∷ rest))
          (o >>= op_char >>= λ op. cond (is_delim 61 y) (Some (op, rest)) None)) (other c 61 o h.3 h61)
          ∙ ap (λ (d : Option ℕ). d >>= op_char >>= λ op. cond (is_delim 61 y) (Some (op, rest)) None) (sign_is c o h.3)
          ∙ ap (λ (p : Option AttrOp). p >>= λ op. cond (is_delim 61 y) (Some (op, rest)) None) k
          ∙ ap (λ (b : Bool). cond b (Some (op, rest)) None) h.4;
    }

op_read : (op : AttrOp) (xs rest : List Lexeme) → IsOp op xs rest → Op op xs rest
op_read ops.Has xs rest h = absurd h
op_read ops.Equal xs rest h = record {
  space = ap begins_space h.1 ∙ sign_no_space 61 h.0 h.2;
  open_still = ap (begins 93) h.1 ∙ other 61 93 (delim_of h.0) h.2 refl;
  read = ap op_at h.1 ∙ ap (λ (b : Bool). cond b (Some (ops.Equal, rest)) (delim_of h.0 >>= op_char
      >>= λ op. cond (begins 61 rest) (Some (op, behind_first rest)) None)) h.2;
}
op_read ops.Word xs rest h = op_by 126 ops.Word xs rest refl refl refl h
op_read ops.Dash xs rest h = op_by 124 ops.Dash xs rest refl refl refl h
op_read ops.Prefix xs rest h = op_by 94 ops.Prefix xs rest refl refl refl h
op_read ops.Suffix xs rest h = op_by 36 ops.Suffix xs rest refl refl refl h
op_read ops.Part xs rest h = op_by 42 ops.Part xs rest refl refl refl h

closed_space : (xs rest : List Lexeme) → IsClosed xs rest → begins_space xs ≡ false
closed_space xs rest h = ap begins_space h.1 ∙ sign_no_space 93 h.0 h.2

attribute_read : (name : List ℕ) (r : Test × List Lexeme) (xs last : List Lexeme) → (h : IsNamed name xs last)
    → begins_space last ≡ false → named_at name last ≡ Some r → Reads xs (plain r.0) r.1
attribute_read name r xs last h e k =
    let x = h.0 in
    let o = delim_of x in
    let s = by_signs 91 x h.1 false true (is_delim 58 x) h.5 (other 91 46 o h.5 refl) h.5 refl refl in
    let front = behind_spaced h.1 (h.2 ∷ h.3) h.6 (ident_only name h.2.symbol h.7).0 in
    let behind = behind_spaced h.3 last h.8 e in
    let then : List ℕ × List Lexeme → Option (Test × List Lexeme) = λ n. named_at n.0 (behind_spaces n.1) in
    let put : Test × List Lexeme → Option (Tested × List Lexeme) = λ a. Some (plain a.0, a.1) in
    let named : test_at (x ∷ h.1) ≡ Some (plain r.0, r.1) = s.1
    ∙ ap (λ (ys : List Lexeme). (ident_at ys >>= then) >>= put) front
    ∙ ap (λ (i : Option (List ℕ)). ((i >>= λ t. Some (t, h.3)) >>= then) >>= put) h.7
    ∙ ap (λ (ys : List Lexeme). named_at name ys >>= put) behind
    ∙ ap (λ (p : Option (Test × List Lexeme)). p >>= put) k in
    (ap begins_test h.4 ∙ s.0, ap test_at h.4 ∙ named)

closed_read : (name : List ℕ) (op : AttrOp) (value : List ℕ) (xs rest : List Lexeme) → IsClosed xs rest
    → closed name op value xs ≡ Some (tests.Attr name op value, rest)
closed_read name op value xs rest h =
    ap (closed name op value) h.1 ∙ ap (λ (b : Bool). cond b (Some (tests.Attr name op value, rest)) None) h.2

has_read : (name : List ℕ) (xs rest : List Lexeme) → IsClosed xs rest → named_at name xs ≡ Some (tests.Attr name ops.Has [], rest)
has_read name xs rest h =
    ap (named_at name) h.1 ∙ ap (λ (b : Bool). cond b (Some (tests.Attr name ops.Has [], rest))
    (op_at (h.0 ∷ rest) >>= λ op. valued_at name op.0 op.1)) h.2

valued_read : (name : List ℕ) (op : AttrOp) (value : List ℕ) (xs rest : List Lexeme) → (h : IsValued name op value xs rest)
    → named_at name h.sign ≡ Some (tests.Attr name op value, rest)
valued_read name op value xs rest h =
    let o = op_read op h.sign h.more h.op_is in
    let front = behind_spaced h.more (h.word ∷ h.after) h.spaced (word_no_space value h.word.symbol h.value_is) in
    let behind = behind_spaced h.after h.last h.then_spaced (closed_space h.last rest h.closed) in
    let then : List ℕ × List Lexeme → Option (Test × List Lexeme) = λ v. closed name op v.0 (behind_spaces v.1) in
    ap (λ (b : Bool). cond b (Some (tests.Attr name ops.Has [], behind_first h.sign))
    (op_at h.sign >>= λ op. valued_at name op.0 op.1)) o.open_still
    ∙ ap (λ (p : Option (AttrOp × List Lexeme)). p >>= λ op. valued_at name op.0 op.1) o.read
    ∙ ap (λ (ys : List Lexeme). word_at ys >>= then) front
    ∙ ap (λ (w : Option (List ℕ)). (w >>= λ t. Some (t, h.after)) >>= then) h.value_is
    ∙ ap (closed name op value) behind
    ∙ closed_read name op value h.last rest h.closed

form_read : (form : Form) (xs rest : List Lexeme) → HasForm form xs rest → Reads xs (tested_as form) rest
form_read (Id name) xs rest h =
    let r = id_read name h.0 rest h.2 in
    (ap begins_test h.1 ∙ r.0, ap test_at h.1 ∙ r.1)
form_read (Class name) xs rest h =
    let r = class_read name h.0 h.1 rest h.3 h.4 in
    (ap begins_test h.2 ∙ r.0, ap test_at h.2 ∙ r.1)
form_read (Attribute name) xs rest h =
    attribute_read name (tests.Attr name ops.Has [], rest) xs h.0 h.1 (closed_space h.0 rest h.2) (has_read name h.0 rest h.2)
form_read (Valued name op value) xs rest h =
    attribute_read name (tests.Attr name op value, rest) xs h.sign h.name_is (op_read op h.sign h.more h.op_is).space
    (valued_read name op value xs rest h)
form_read (Pseudo t) xs rest h =
    let r = pseudo_read t h.0 h.1 rest h.3 h.4 in
    (ap begins_test h.2 ∙ r.0, ap test_at h.2 ∙ r.1)

pub test_read : (t : Tested) (xs rest : List Lexeme) → IsTest t xs rest
    → (begins_test xs ≡ true) × (test_at xs ≡ Some (t, rest))
test_read t xs rest h =
    let r = form_read h.0 xs rest h.1 in
    (r.0, r.1 ∙ ap (λ (u : Tested). Some (u, rest)) (sym h.2))
