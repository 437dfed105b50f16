use Rattle.std.proofs.Common.{◌≡◌, ℕ, zero, suc, refl, length, replicate, get_or, drop, sym, ap, ◌∙◌, subst, arith}
use Rattle.std.proofs.lemmas.List.{length-replicate}
use Rattle.box_maker.specs.Ends.{HasEnds}
use Rattle.box_maker.proofs.Sweep.{swept, HasEnds-swept}
use Rattle.box_maker.proofs.ends.ends_of.Goals as goal

zeros-at : (n j : ℕ) → ◌≡◌ {A = ℕ} (get_or (replicate n 0) j 0) 0
zeros-at zero j = refl
zeros-at (suc n) zero = refl
zeros-at (suc n) (suc j) = zeros-at n j

pub returns : goal.returns
returns c = λ tree is.
    let nodes = c.args.nodes.now in
    let start = c.in_ok-ends.ends.items in
    let z : c.loop-k.k ≡ 0 = omega arith in
    let n : c.loop-k.ends.items ≡ swept 0 nodes start = subst (λ k. c.loop-k.ends.items
    ≡ swept k (drop k nodes) start) z c.loop-k.invariant.numbers in
    let all : start ≡ replicate (length nodes) 0 = c.in_ok-ends.ensures.items_if_clones_equal (λ y h. h) in
    let size : length start ≡ length nodes = ap length all ∙ length-replicate (length nodes) 0 in
    let zeros : (j : ℕ) → get_or start j 0 ≡ 0 = λ j. ap (λ xs. get_or xs j 0) all ∙ zeros-at (length nodes) j in
    subst (λ xs. HasEnds xs 0 tree) (sym n) (HasEnds-swept nodes tree start is size zeros)
