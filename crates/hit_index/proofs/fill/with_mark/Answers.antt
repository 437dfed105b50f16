use Rattle.std.proofs.Common.{List, [], ◌∷◌, ◌++◌, sym, subst, ap, ◌∙◌}
use Rattle.hit_index.specs.declared.band.Band.{Band}
use Rattle.hit_index.specs.Bands.{best, hit_by, later}
use Rattle.hit_index.specs.Filling.{IsFilled}
use Rattle.hit_index.proofs.Filled.{filled-none, filled-last, filled-next, leaf_at}
use Rattle.hit_index.proofs.fill.with_mark.Goals as goal

pub returns-then-not-mark : goal.returns-then-not-mark
returns-then-not-mark c = filled-none c.args.marks.now c.args.filling c.args.mark c.requires c.if-not-mark.true

pub returns-then-len-lt-BAND_LEAVES : goal.returns-then-len-lt-BAND_LEAVES
returns-then-len-lt-BAND_LEAVES c =
    filled-last c.args.marks.now c.args.filling c.args.mark c.in_ok-with_leaf.field-0 c.requires c.if-not-mark.false
    c.in_ok-with_leaf.ensures.band
    (λ px py. c.in_ok-with_leaf.ensures.hits px py
    ∙ ap (λ n. later (best px py c.args.filling.last.leaves.items) (hit_by px py (leaf_at n c.args.mark))) c.len.ensures)

pub returns : goal.returns
returns c =
    let next = c.in_ok-with_leaf-2.field-0 in
    let P : List Band → Type 0 = λ full. IsFilled (c.args.marks.now ++ c.args.mark ∷ []) (record { full = full; last = next }) in
    subst P (sym (c.full.view_is ∙ c.in_ok-push.ensures.ok))
    (filled-next c.args.marks.now c.args.filling c.args.mark next c.requires c.if-not-mark.false
    c.in_ok-with_leaf-2.ensures.band
    (λ px py. c.in_ok-with_leaf-2.ensures.hits px py
    ∙ ap (λ ls. later (best px py ls) (hit_by px py (leaf_at c.len.result c.args.mark))) c.empty_band.ensures.empty
    ∙ ap (λ n. hit_by px py (leaf_at n c.args.mark)) c.len.ensures))
