use Rattle.std.proofs.Common.{◌≡◌, true, ◌≤◌, ◌∷◌, [], List, length, sym, ap, subst, ◌∙◌, append_assoc, append-nil}
use Rattle.std.proofs.Common.{length-append, arith}
use Rattle.std.specs.Prelude.{fold}
use Rattle.std.specs.Vec.Iter.{into_iter_items}
use Rattle.std.proofs.lemmas.List.{nil_from_length}
use Rattle.std.proofs.lemmas.List.Sums.{fold_push}
use Rattle.box_data.specs.declared.mark.Mark.{Mark}
use Rattle.box_content.specs.Cutting.{Cut, step, at_start, depth_in, row_behind}
use Rattle.box_content.proofs.CutSteps.{depth_small}
use Rattle.box_content.proofs.cutting.cut.Goals as goal

pub add-requires : goal.add-requires
add-requires c =
    let so_far : depth_in c.loop-mark.cutting.around ≤ length c.loop-mark.yielded =
    subst (λ (cut : Cut). depth_in cut.around ≤ length c.loop-mark.yielded) (sym c.loop-mark.invariant.cut)
    (depth_small c.args.places.now c.args.place c.args.x c.loop-mark.yielded) in
    let all = c.loop-mark.invariant.left ∙ c.into_iter-mark-iterator.ensures.into_iter_gives.0 in
    let steps : into_iter_items c.loop-mark.mark-iterator
    ≡ c.in-Some.mark ∷ into_iter_items c.next.new.self = c.in-Some.ensures.steps.0 in
    let count = ap length all in
    let left = ap length steps in
    omega (arith, c.args.inside.ok.0, length-append c.loop-mark.yielded (into_iter_items c.loop-mark.mark-iterator))

pub loop-mark-preserved : goal.loop-mark-preserved
loop-mark-preserved c =
    let steps : into_iter_items c.loop-mark.mark-iterator
    ≡ c.in-Some.mark ∷ into_iter_items c.next.new.self = c.in-Some.ensures.steps.0 in
    record {
      left = append_assoc c.loop-mark.yielded (c.in-Some.mark ∷ []) _ ∙ rw (← steps) c.loop-mark.invariant.left;
      len = (let was = c.loop-mark.invariant.len in let gone = c.in-Some.ensures.steps.1 in let short = ap length steps in
          omega arith);
      cut = c.in_ok-add.ensures ∙ ap (λ (cut : Cut). step c.args.places.now cut c.in-Some.mark) c.loop-mark.invariant.cut
          ∙ sym (fold_push (step c.args.places.now) (at_start c.args.place c.args.x) c.loop-mark.yielded c.in-Some.mark);
    }

pub returns : goal.returns
returns c =
    let none = c.in-None.ensures.steps in
    let empty : into_iter_items c.loop-mark.mark-iterator ≡ [] = nil_from_length _ (sym c.loop-mark.invariant.len ∙ none.0) in
    let all = sym (append-nil c.loop-mark.yielded) ∙ rw empty at c.loop-mark.invariant.left
    ∙ c.into_iter-mark-iterator.ensures.into_iter_gives.0 in
    ap (λ (cut : Cut). cut.rows) c.in_ok-end_part.ensures
    ∙ ap (λ (cut : Cut). (row_behind c.args.places.now true cut).rows) c.loop-mark.invariant.cut
    ∙ ap (λ (ms : List Mark). (row_behind c.args.places.now true
    (fold (step c.args.places.now) (at_start c.args.place c.args.x) ms)).rows) all
