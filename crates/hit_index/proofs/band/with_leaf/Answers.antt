use Rattle.std.proofs.Common.{ℕ, ◌<◌, ◌≤◌, get_or, length, subst, ap, ◌∙◌, arith}
use Rattle.hit_index.specs.declared.band.Band.{Band}
use Rattle.hit_index.specs.declared.mark.Leaf.{Leaf}
use Rattle.hit_index.specs.Bands.{best}
use Rattle.hit_index.proofs.Best.{best-insert}
use Rattle.hit_index.proofs.Made.{inserted-band}
use Rattle.hit_index.proofs.band.with_leaf.Goals as goal

pub returns-clause-band : goal.returns-clause-band
returns-clause-band c =
    let value = c.as_slice.ensures.value in
    let i = c.first_after-at.result in
    let x = c.args.leaf.rect.x in
    let next : Band = record { top = c.min.result; bottom = c.max.result; leaves = c.insert.new.self } in
    let top = c.min.ensures in
    let bottom = c.max.ensures in
    let reach = c.saturating_add.ensures in
    inserted-band c.args.band next c.args.leaf i c.requires
    (subst (λ xs. i ≤ length xs) value c.first_after-at.ensures.known)
    (subst (λ xs. (k : ℕ) (d : Leaf) → k < i → (get_or xs k d).rect.x ≤ x) value c.first_after-at.ensures.before)
    (subst (λ xs. (d : Leaf) → i < length xs → x < (get_or xs i d).rect.x) value c.first_after-at.ensures.after)
    c.in_ok-insert.ensures.items (omega arith) (omega arith) (omega arith) (omega arith)

pub returns-clause-hits : goal.returns-clause-hits
returns-clause-hits c = λ px py. ap (best px py) c.in_ok-insert.ensures.items
    ∙ best-insert px py c.args.band.leaves.items c.first_after-at.result c.args.leaf
