-- The laws of documents on bytes.
use Rattle.std.proofs.Common.{◌≡◌, ℕ, zero, suc, ◌+◌, ◌≤◌, List, [], ◌∷◌, take, length, Option, None, Result, Ok, Err, Bool, true}
use Rattle.std.proofs.Common.{false, cond, not, ◌&&◌, nat_lt, refl, sym, ap, subst, ◌∙◌, arith, inl, inr}
use Rattle.std.specs.Prelude.{◌⊎◌, ◌==◌, min, chars, IsUtf8, take_while}
use Rattle.std.specs.Char.{len_utf8}
use Rattle.std.specs.Str.{is_utf8, encode_utf8_all}
use Rattle.std.specs.Str.Lossy.{utf8_valid_len, valid_len_up_to}
use Rattle.std.specs.List.{prefix_len}
use Rattle.std.proofs.lemmas.Bool.{true≢false, eq-eqb, ne_eqb}
use Rattle.std.proofs.lemmas.Str.{IsUtf8-from_is_utf8, utf8_valid_len-IsUtf8, utf8_valid_len_le, IsUtf8-nil, length-le-encodes}
use Rattle.std.proofs.lemmas.Str.{encodes-chars}
use Rattle.mc_base.specs.declared.refusal.Found.{Found}
use Rattle.mc_base.specs.declared.refusal.Refusal.{Refusal}
use Rattle.mc_base.specs.declared.refusal.Refusal.TheVariants as refusals
use Rattle.mc_base.specs.declared.refusal.LimitName.TheVariants as limits
use Rattle.mc_base.specs.Reading.{◌>>=◌, fault}
use Rattle.html_grammar.specs.declared.dom.Dom.{Dom}
use Rattle.html_grammar.specs.declared.dom.DomNode.{DomNode}
use Rattle.mc_base.specs.declared.read_error.Fault.{Fault}
use Rattle.mc_base.proofs.ReadSteps.{seen}
use Rattle.mc_base.specs.SoundText.{sound_len, is_nonzero}
use Rattle.html_grammar.specs.declared.token.Token.{Token}
use Rattle.html_grammar.specs.Tree.{Forest, nodes_from}
use Rattle.html_grammar.specs.Places.{plain, places, places_of}
use Rattle.html_grammar.specs.Machine.{State, Built, opening_state, read_all, conclude, built}
use Rattle.html_grammar.specs.Grammar.{IsDocument, depth_of}
use Rattle.html_grammar.specs.Spelling.{IsLexed}
use Rattle.html_grammar.specs.Laws.{built_as}
use Rattle.html_grammar.specs.Whole.{Reading, read_from, read_text, count_elements, grammar_refusal, refused_or_within, dom_of}
use Rattle.html_grammar.specs.Documents.{NoZero, first_construct, IsText, reading_as, IsDomOf}
use Rattle.html_grammar.proofs.Whole.{document_is_read}
use Rattle.html_grammar.proofs.Sound.{tree_of}
use Rattle.html_grammar.proofs.Unique as unique
use Rattle.html_grammar.proofs.Lexed.{lexed_reads, reads_lexed, lexed_once}

-- UTF-8, by the length of what is valid in front
valid_le : (bytes : List ℕ) (n : ℕ) → valid_len_up_to bytes n ≤ n
valid_le bytes zero = omega arith
valid_le bytes (suc n) = by_test (is_utf8 (take (suc n) bytes)) (valid_le bytes n)
  where
    by_test : (b : Bool) → valid_len_up_to bytes n ≤ n → cond b (suc n) (valid_len_up_to bytes n) ≤ suc n
    by_test true h = omega arith
    by_test false h = omega (arith, h)

take_all : (xs : List ℕ) → take (length xs) xs ≡ xs
take_all [] = refl
take_all (x ∷ xs) = ap (λ (y : List ℕ). x ∷ y) (take_all xs)

from_valid : (bytes : List ℕ) → utf8_valid_len bytes ≡ length bytes → IsUtf8 bytes
unfolding utf8_valid_len
from_valid [] h = IsUtf8-nil
from_valid (b ∷ bs) h = by_test (is_utf8 (take (suc (length bs)) (b ∷ bs))) refl h
  where
    by_test : (x : Bool) → is_utf8 (take (suc (length bs)) (b ∷ bs)) ≡ x
        → cond x (suc (length bs)) (valid_len_up_to (b ∷ bs) (length bs)) ≡ suc (length bs) → IsUtf8 (b ∷ bs)
    by_test true e h = IsUtf8-from_is_utf8 (b ∷ bs) (sym (ap is_utf8 (take_all (b ∷ bs))) ∙ e)
    by_test false e h = let l = valid_le (b ∷ bs) (length bs) in absurd (omega (arith, l, h))

-- no zero, by the length of what comes before one
abbrev before_zero : List ℕ → ℕ
before_zero bytes = length (take_while is_nonzero bytes)

before_zero_le : (bytes : List ℕ) → before_zero bytes ≤ length bytes
before_zero_le bytes = take_le (prefix_len is_nonzero bytes) bytes
  where
    take_le : (n : ℕ) (xs : List ℕ) → length (take n xs) ≤ length xs
    take_le zero xs = omega arith
    take_le (suc n) [] = omega arith
    take_le (suc n) (x ∷ xs) = let h = take_le n xs in omega (arith, h)

one_before : (b : ℕ) (bytes : List ℕ) → is_nonzero b ≡ true → before_zero (b ∷ bytes) ≡ suc (before_zero bytes)
one_before b bytes h =
    ap (λ (x : Bool). length (take (cond x (1 + prefix_len is_nonzero bytes) 0) (b ∷ bytes))) h
    ∙ ap (λ (n : ℕ). length (take n (b ∷ bytes))) (next (prefix_len is_nonzero bytes))
  where
    next : (n : ℕ) → 1 + n ≡ suc n
    next n = omega arith

none_before : (b : ℕ) (bytes : List ℕ) → is_nonzero b ≡ false → before_zero (b ∷ bytes) ≡ 0
none_before b bytes h = ap (λ (x : Bool). length (take (cond x (1 + prefix_len is_nonzero bytes) 0) (b ∷ bytes))) h

all_before : (bytes : List ℕ) → NoZero bytes → before_zero bytes ≡ length bytes
all_before [] h = refl
all_before (b ∷ bytes) h = one_before b bytes (ap not (ne_eqb b 0 h.0)) ∙ ap suc (all_before bytes h.1)

from_before : (bytes : List ℕ) → before_zero bytes ≡ length bytes → NoZero bytes
from_before [] h = tt
from_before (b ∷ bytes) h = by_test (from_before bytes) (is_nonzero b) refl
  where
    by_test : (before_zero bytes ≡ length bytes → NoZero bytes) → (x : Bool) → is_nonzero b ≡ x → NoZero (b ∷ bytes)
    by_test below true e =
        let one = one_before b bytes e in
        let more : before_zero bytes ≡ length bytes = omega (arith, one, h) in
        (λ z. true≢false (sym e ∙ ap not (eq-eqb b 0 z)), below more)
    by_test below false e = let none = none_before b bytes e in absurd (omega (arith, none, h))

-- the first bad byte
good_bytes : (bytes : List ℕ) → IsUtf8 bytes → NoZero bytes → nat_lt (sound_len bytes) (length bytes) ≡ false
good_bytes bytes u z =
    let a = utf8_valid_len-IsUtf8 bytes u in
    let b = all_before bytes z in
    ap (λ (n : ℕ). nat_lt (min n (before_zero bytes)) (length bytes)) a
    ∙ ap (λ (n : ℕ). nat_lt (min (length bytes) n) (length bytes)) b ∙ at_length (length bytes)
  where
    at_length : (n : ℕ) → nat_lt (min n n) n ≡ false
    at_length n = grind arith

pub bytes_are_good : (bytes : List ℕ) → nat_lt (sound_len bytes) (length bytes) ≡ false → IsUtf8 bytes × NoZero bytes
bytes_are_good bytes h =
    let a = utf8_valid_len_le bytes in
    let b = before_zero_le bytes in
    let both = by_numbers (utf8_valid_len bytes) (before_zero bytes) (length bytes) a b h in
    (from_valid bytes both.0, from_before bytes both.1)
  where
    by_numbers : (v z n : ℕ) → v ≤ n → z ≤ n → nat_lt (min v z) n ≡ false → (v ≡ n) × (z ≡ n)
    by_numbers v z n a b h = (grind (arith, a, b, h), grind (arith, a, b, h))

-- there are no more places than bytes
places_le : (behind : Bool) (at : ℕ) (cs : List ℕ) → length (places behind at cs) ≤ length cs
unfolding places
places_le behind at [] = omega arith
places_le behind at (c ∷ cs) =
    by_test (behind && (c == 10)) (places_le false (at + 1) cs) (places_le (c == 13) (at + len_utf8 c) cs)
  where
    by_test : (b : Bool) → length (places false (at + 1) cs) ≤ length cs
        → length (places (c == 13) (at + len_utf8 c) cs) ≤ length cs
        → length (cond b (places false (at + 1) cs)
        (record { at = at; character = plain c } ∷ places (c == 13) (at + len_utf8 c) cs)) ≤ length (c ∷ cs)
    by_test true h g = omega (arith, h)
    by_test false h g = omega (arith, g)

marked_le : (cs : List ℕ) → length (places_of cs) ≤ length cs
unfolding places_of
marked_le [] = omega arith
marked_le (c ∷ cs) = by_mark (c == 0xFEFF) (places_le false 3 cs) (places_le false 0 (c ∷ cs))
  where
    by_mark : (b : Bool) → length (places false 3 cs) ≤ length cs → length (places false 0 (c ∷ cs)) ≤ length (c ∷ cs)
        → length (cond b (places false 3 cs) (places false 0 (c ∷ cs))) ≤ length (c ∷ cs)
    by_mark true h g = omega (arith, h)
    by_mark false h g = g

pub places_fit : (bytes : List ℕ) → IsUtf8 bytes → length (places_of (chars bytes)) ≤ length bytes
places_fit bytes u =
    let a = marked_le (chars bytes) in
    let b = length-le-encodes (chars bytes) in
    let c : length (encode_utf8_all (chars bytes)) ≡ length bytes = ap length (encodes-chars bytes u) in
    omega (arith, a, b, c)

-- the whole
pub text_at : List ℕ → Result Reading Fault
text_at bytes = read_from (length bytes) (length bytes) None opening_state (places_of (chars bytes))

good_is_read : (bytes : List ℕ) → IsUtf8 bytes → NoZero bytes → read_text bytes ≡ text_at bytes
unfolding read_text text_at
good_is_read bytes u z = ap (λ (b : Bool). cond b (fault (sound_len bytes) 1) (text_at bytes)) (good_bytes bytes u z)

abbrev as_read : Option Found → Built → Result Reading Fault
as_read construct b = Ok (record { built = b; construct = construct })

tokens_read : (bytes : List ℕ) (toks : List Token) → IsUtf8 bytes → IsLexed toks (places_of (chars bytes))
    → text_at bytes ≡ (built (length bytes) toks >>= as_read (first_construct toks))
unfolding text_at built
tokens_read bytes toks u h =
    lexed_reads (length bytes) (length bytes) toks (places_of (chars bytes)) None opening_state h (places_fit bytes u)
    (places_fit bytes u)
    ∙ assoc (read_all opening_state toks) (conclude (length bytes)) (as_read (first_construct toks))
  where
    assoc : (r : Result State Fault) (f : State → Result Built Fault) (g : Built → Result Reading Fault)
        → (r >>= λ x. f x >>= g) ≡ ((r >>= f) >>= g)
    assoc (Ok x) f g = refl
    assoc (Err e) f g = refl

pub text_is_read : (bytes : List ℕ) (tree : Forest) (construct : Option Found) → IsText bytes tree construct
    → read_text bytes ≡ Ok (reading_as tree construct)
text_is_read bytes tree construct t =
    good_is_read bytes t.utf8 t.no_zero
    ∙ tokens_read bytes t.tokens t.utf8 t.spelled
    ∙ ap (λ (r : Result Built Fault). r >>= as_read (first_construct t.tokens))
    (document_is_read (length bytes) t.tokens tree t.document)
    ∙ ap (λ (c : Option Found). as_read c (built_as tree)) (sym t.first)

abbrev answer : Reading → Result Reading Fault
answer r = Ok r

same_reading : (r s : Reading) → answer r ≡ answer s → r ≡ s
same_reading r s e = cc

text_at_is : (bytes : List ℕ)
    → text_at bytes ≡ read_from (length bytes) (length bytes) None opening_state (places_of (chars bytes))
unfolding text_at
text_at_is bytes = refl

pub text_of : (bytes : List ℕ) (r : Reading) → read_text bytes ≡ Ok r → (tree : Forest) × IsText bytes tree r.construct
    × (r ≡ reading_as tree r.construct)
unfolding read_text
text_of bytes r h = by_bytes (nat_lt (sound_len bytes) (length bytes)) refl h
  where
    made : (u : IsUtf8 bytes) → NoZero bytes → (toks : List Token) → IsLexed toks (places_of (chars bytes)) → (b : Built)
        → built (length bytes) toks ≡ Ok b → as_read (first_construct toks) b ≡ Ok r
        → (tree : Forest) × IsText bytes tree r.construct × (r ≡ reading_as tree r.construct)
    made u z toks l b e k =
        let t = tree_of (length bytes) toks b e in
        let s = same_reading (record { built = b; construct = first_construct toks }) r k in
        let c : r.construct ≡ first_construct toks = ap (λ (x : Reading). x.construct) (sym s) in (
          t.0,
          record { utf8 = u; no_zero = z; tokens = toks; spelled = l; document = t.1; first = c },
          sym s ∙ ap (λ (x : Built). record { built = x; construct = first_construct toks }) t.2 ∙ ap (reading_as t.0) (sym c),
        )

    by_built : IsUtf8 bytes → NoZero bytes → (toks : List Token) → IsLexed toks (places_of (chars bytes))
        → ((b : Built) × (built (length bytes) toks ≡ Ok b)) ⊎ ((f : Fault) × (built (length bytes) toks ≡ Err f))
        → (built (length bytes) toks >>= as_read (first_construct toks)) ≡ Ok r → (tree : Forest) × IsText bytes tree r.construct
        × (r ≡ reading_as tree r.construct)
    by_built u z toks l (inl b) k =
        made u z toks l b.0 b.1 (sym (ap (λ (x : Result Built Fault). x >>= as_read (first_construct toks)) b.1) ∙ k)
    by_built u z toks l (inr f) k =
        let g : (built (length bytes) toks >>= as_read (first_construct toks)) ≡ Err f.0 =
        ap (λ (x : Result Built Fault). x >>= as_read (first_construct toks)) f.1 in absurd cc

    by_bytes : (b : Bool) → nat_lt (sound_len bytes) (length bytes) ≡ b
        → cond b (fault (sound_len bytes) 1)
        (read_from (length bytes) (length bytes) None opening_state (places_of (chars bytes))) ≡ Ok r
        → (tree : Forest) × IsText bytes tree r.construct × (r ≡ reading_as tree r.construct)
    by_bytes true e h = absurd cc
    by_bytes false e h =
        let g = bytes_are_good bytes e in
        let l = reads_lexed (length bytes) (length bytes) (places_of (chars bytes)) None opening_state r (places_fit bytes g.0)
        (places_fit bytes g.0) h in
        by_built g.0 g.1 l.0 l.1 (seen (built (length bytes) l.0)) (sym (tokens_read bytes l.0 g.0 l.1) ∙ text_at_is bytes ∙ h)

pub one_tree_of_text : (bytes : List ℕ) (f g : Forest) (c d : Option Found) → IsText bytes f c → IsText bytes g d
    → (f ≡ g) × (c ≡ d)
one_tree_of_text bytes f g c d t u =
    let same = lexed_once t.tokens u.tokens (places_of (chars bytes)) t.spelled u.spelled in (
      unique.one_tree (length bytes) t.tokens f g t.document
          (subst (λ (x : List Token). IsDocument (length bytes) x g) (sym same) u.document),
      t.first ∙ ap first_construct same ∙ sym u.first,
    )

-- the limits
abbrev dom_answer : Dom → Result Dom Refusal
dom_answer d = Ok d

same_dom : (d e : Dom) → dom_answer d ≡ dom_answer e → d ≡ e
same_dom d e h = cc

abbrev dom_as : List DomNode → Option Found → Dom
dom_as nodes construct = record { nodes = nodes; construct = construct }

at_most : (k n : ℕ) → nat_lt k n ≡ false → n ≤ k
at_most k n h = grind (arith, h)

not_more : (k n : ℕ) → n ≤ k → nat_lt k n ≡ false
not_more k n h = grind (arith, h)

pub dom_found : (bytes : List ℕ) (dom : Dom) → dom_of bytes ≡ Ok dom → IsDomOf bytes dom
unfolding dom_of
dom_found bytes dom h = by_read (seen (read_text bytes))
  where
    made : (r : Reading) → read_text bytes ≡ Ok r → count_elements r.built.nodes ≤ 20000 → r.built.deepest ≤ 64
        → dom_as r.built.nodes r.construct ≡ dom → IsDomOf bytes dom
    made r e many deep d =
        let t = text_of bytes r e in
        let n : dom.nodes ≡ r.built.nodes = ap (λ (x : Dom). x.nodes) (sym d) in
        let c : r.construct ≡ dom.construct = ap (λ (x : Dom). x.construct) d in
        record {
          tree = t.0;
          text = subst (IsText bytes t.0) c t.1;
          nodes = n ∙ ap (λ (x : Reading). x.built.nodes) t.2;
          elements = subst (λ (x : List DomNode). count_elements x ≤ 20000) (sym n) many;
          depth = subst (λ (x : ℕ). x ≤ 64) (ap (λ (x : Reading). x.built.deepest) t.2) deep;
        }

    by_depth : (r : Reading) → read_text bytes ≡ Ok r → count_elements r.built.nodes ≤ 20000 → (b : Bool)
        → nat_lt 64 r.built.deepest ≡ b
        → cond b (Err (refusals.Limit limits.Depth 65 64)) (Ok (dom_as r.built.nodes r.construct)) ≡ Ok dom → IsDomOf bytes dom
    by_depth r e many true k h = absurd cc
    by_depth r e many false k h = made r e many (at_most 64 r.built.deepest k) (same_dom (dom_as r.built.nodes r.construct) dom h)

    by_elements : (r : Reading) → read_text bytes ≡ Ok r → (b : Bool) → nat_lt 20000 (count_elements r.built.nodes) ≡ b
        → cond b (Err (refusals.Limit limits.Elements 20001 20000))
        (cond (nat_lt 64 r.built.deepest) (Err (refusals.Limit limits.Depth 65 64)) (Ok (dom_as r.built.nodes r.construct)))
        ≡ Ok dom → IsDomOf bytes dom
    by_elements r e true k h = absurd cc
    by_elements r e false k h = by_depth r e (at_most 20000 (count_elements r.built.nodes) k) (nat_lt 64 r.built.deepest) refl h

    by_read : ((r : Reading) × (read_text bytes ≡ Ok r)) ⊎ ((f : Fault) × (read_text bytes ≡ Err f)) → IsDomOf bytes dom
    by_read (inl r) = by_elements r.0 r.1 (nat_lt 20000 (count_elements r.0.built.nodes)) refl
        (sym (ap refused_or_within r.1) ∙ h)
    by_read (inr f) = let g : dom_of bytes ≡ Err (grammar_refusal f.0) = ap refused_or_within f.1 in absurd cc

pub dom_is_read : (bytes : List ℕ) (dom : Dom) → IsDomOf bytes dom → dom_of bytes ≡ Ok dom
unfolding dom_of
dom_is_read bytes dom d =
    let e = text_is_read bytes d.tree dom.construct d.text in
    let many = not_more 20000 (count_elements (nodes_from None 0 d.tree))
    (subst (λ (x : List DomNode). count_elements x ≤ 20000) d.nodes d.elements) in
    let deep = not_more 64 (depth_of d.tree) d.depth in
    ap refused_or_within e
    ∙ ap (λ (b : Bool). cond b (Err (refusals.Limit limits.Elements 20001 20000))
    (cond (nat_lt 64 (depth_of d.tree)) (Err (refusals.Limit limits.Depth 65 64))
    (Ok (dom_as (nodes_from None 0 d.tree) dom.construct)))) many
    ∙ ap (λ (b : Bool). cond b (Err (refusals.Limit limits.Depth 65 64))
    (Ok (dom_as (nodes_from None 0 d.tree) dom.construct))) deep
    ∙ ap (λ (x : List DomNode). dom_answer (dom_as x dom.construct)) (sym d.nodes)
