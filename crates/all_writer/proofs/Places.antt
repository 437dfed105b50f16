-- Places in order.
use Rattle.std.proofs.Common.{◌≡◌, ℕ, List, [], ◌∷◌, ◌++◌, zero, suc, sym, ap, arith, ◌∙◌}
use Rattle.std.specs.Ordering.{nat_cmp, ordering_then}
use Rattle.std.specs.Cmp.{nat_cmp_is}
use Rattle.std.specs.Cmp.Lexicographic.{slice_cmp}
use Rattle.std.proofs.lemmas.List.{append-nil}
use Rattle.std.specs.declared.cmp.Ordering.{Ordering}
use Rattle.std.specs.declared.cmp.Ordering.TheVariants.{Less, Equal, Greater}
use Rattle.mc_base.specs.Places.{place_order}
use Rattle.flow_list.specs.TreeText.{token_text}

-- each answer has a number
code_of : Ordering → ℕ
code_of Less = 0
code_of Equal = 1
code_of Greater = 2

-- no place with a number comes before that of item 0
none-before : (i : ℕ) (within : List ℕ) → place_order (i ∷ within) (0 ∷ []) ≡ Less → ⊥
unfolding code_of
none-before zero [] e = let c : ◌≡◌ {A = ℕ} 1 0 = ap code_of e in omega arith
none-before zero (j ∷ rest) e = let c : ◌≡◌ {A = ℕ} 2 0 = ap code_of e in omega arith
none-before (suc i) within e =
    let greater : Greater ≡ nat_cmp (suc i) 0 = nat_cmp_is (suc i) 0 Greater (omega arith) in
    let same : ordering_then Greater (slice_cmp nat_cmp within []) ≡ Less =
    ap (λ o. ordering_then o (slice_cmp nat_cmp within [])) greater ∙ e in
    let c : ◌≡◌ {A = ℕ} 2 0 = ap code_of same in omega arith

-- so what comes before it has no text
pub nothing-before : (out token : List ℕ) → place_order token (0 ∷ []) ≡ Less → out ≡ out ++ token_text token
nothing-before out [] e = sym (append-nil out)
nothing-before out (i ∷ within) e = absurd (none-before i within e)
