-- Reading a value character by character, as a loop does.
use Rattle.std.proofs.Common.{◌≡◌, ℕ, suc, ◌+◌, ◌-◌, ◌≤◌, ◌<◌, List, [], ◌∷◌, Bool, true, false, Some, None, refl, ap, ◌∙◌, sym}
use Rattle.std.proofs.Common.{arith}
use Rattle.html_grammar.specs.declared.place.Place.{Place}
use Rattle.html_grammar.specs.declared.token.Value.{Value}
use Rattle.html_grammar.specs.Places.{first, behind_first}
use Rattle.html_grammar.specs.Lexing.{value_from, added}

pub value_ends : (test : ℕ → Bool) (n i : ℕ) (v : Value) (ps : List Place) (total : Value × List Place) → i < n → first ps ≡ None
    → value_from (n - i) test v ps ≡ total → (v, ps) ≡ total
unfolding value_from
value_ends test n i v [] total lt none so_far =
    let k : n - i ≡ suc (n - (i + 1)) = omega arith in
    let one : value_from (n - i) test v [] ≡ (v, []) = rw k refl in
    sym one ∙ so_far
value_ends test n i v (p ∷ ps) total lt none so_far = absurd cc

pub value_stops : (test : ℕ → Bool) (n i : ℕ) (v : Value) (ps : List Place) (p : Place) (total : Value × List Place) → i < n
    → first ps ≡ Some p → test p.character ≡ false → value_from (n - i) test v ps ≡ total → (v, ps) ≡ total
unfolding value_from
value_stops test n i v [] p total lt some fails so_far = absurd cc
value_stops test n i v (q ∷ qs) p total lt some fails so_far =
    let k : n - i ≡ suc (n - (i + 1)) = omega arith in
    let same : q ≡ p = cc in
    let off : test q.character ≡ false = ap (λ (x : Place). test x.character) same ∙ fails in
    let one : value_from (n - i) test v (q ∷ qs) ≡ (v, q ∷ qs) = rw (k, off) refl in
    sym one ∙ so_far

pub value_goes : (test : ℕ → Bool) (n i : ℕ) (v : Value) (ps : List Place) (p : Place) (w : Value) (after : List Place)
    (total : Value × List Place) → i < n → first ps ≡ Some p → test p.character ≡ true → (w, after) ≡ added v p (behind_first ps)
    → value_from (n - i) test v ps ≡ total → value_from (n - (i + 1)) test w after ≡ total
unfolding value_from
value_goes test n i v [] p w after total lt some passes read so_far = absurd cc
value_goes test n i v (q ∷ qs) p w after total lt some passes read so_far =
    let k : n - i ≡ suc (n - (i + 1)) = omega arith in
    let same : q ≡ p = cc in
    let on : test q.character ≡ true = ap (λ (x : Place). test x.character) same ∙ passes in
    let e : added v q qs ≡ (w, after) = ap (λ (x : Place). added v x qs) same ∙ sym read in
    let one : value_from (n - i) test v (q ∷ qs) ≡ value_from (n - (i + 1)) test w after = rw (k, on, e) refl in
    sym one ∙ so_far

pub value_out : (test : ℕ → Bool) (n i : ℕ) (v : Value) (ps : List Place) (total : Value × List Place) → n ≤ i
    → value_from (n - i) test v ps ≡ total → (v, ps) ≡ total
unfolding value_from
value_out test n i v ps total le so_far =
    let k : n - i ≡ 0 = omega arith in
    let one : value_from (n - i) test v ps ≡ (v, ps) = rw k refl in
    sym one ∙ so_far
