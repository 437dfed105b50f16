use Rattle.std.proofs.Common.{◌≡◌, ◌*◌, ◌^◌, [], ◌∷◌, ◌++◌, All, ap, sym, subst, ◌∙◌, List}
use Rattle.std.proofs.lemmas.Result.{err_from_is_err_and}
use Rattle.box_places.specs.declared.place.ContainingBlock.{ContainingBlock}
use Rattle.box_places.specs.Bounds.{IsWithin}
use Rattle.box_places.specs.Passes.{around_of}
use Rattle.box_places.proofs.LongLengths.{long_more}
use Rattle.box_places.proofs.Steps.{refused_at, placed_more, all_within}
use Rattle.box_places.proofs.pass.all_places.Goals as goal

pub returns-in_err-place-clause-refused : goal.returns-in_err-place-clause-refused
returns-in_err-place-clause-refused c =
    let p = err_from_is_err_and c.from_residual.result c.from_residual.ensures.1 in
    rw (p.1, p.2) (refused_at c.args.styles.now c.outermost-outer.result c.loop-number.blocks.items c.args.nodes.now
    c.loop-number.number
    c.index-nodes-number.result c.around_of-around.result c.loop-number.places _ c.in_err-place.field-0.0
    c.loop-number.invariant.so_far
    c.loop-number-test.true c.index-nodes-number.is
    (c.around_of-around.ensures.value
    ∙ ap (λ bs. around_of c.outermost-outer.result bs c.index-nodes-number.result.parent) c.deref.ensures.value)
    c.loop-number.invariant.lengths c.in_err-place.ensures.refused)

pub loop-number-preserved : goal.loop-number-preserved
loop-number-preserved c =
    let placed : c.push-in-loop-number.new.self ≡ c.loop-number.places ++ c.in_ok-place.place ∷ [] = c.in_ok-push-2.ensures.ok in
    let blocks : c.push.new.self.items ≡ c.loop-number.blocks.items ++ c.inside.result ∷ [] = c.in_ok-push.ensures.items in
    let reach = c.loop-number.number * (3 * 2 ^ 24) in
    let AllWithin : List ContainingBlock → Type 0 = λ bs. All (IsWithin reach) bs in
    let around = c.around_of-around.ensures.within reach (c.outermost-outer.ensures.within reach)
    (subst AllWithin (sym c.deref.ensures.value) c.loop-number.invariant.within) in
    record {
      so_far = rw (placed, blocks) (placed_more c.args.styles.now c.outermost-outer.result c.loop-number.blocks.items
          c.args.nodes.now
          c.loop-number.number c.index-nodes-number.result c.around_of-around.result c.loop-number.places _
          c.in_ok-place.place c.inside.result
          c.loop-number.invariant.so_far c.loop-number-test.true c.index-nodes-number.is
          (c.around_of-around.ensures.value
          ∙ ap (λ bs. around_of c.outermost-outer.result bs c.index-nodes-number.result.parent) c.deref.ensures.value)
          c.in_ok-place.ensures.value c.inside.ensures.value);
      lengths = rw placed (long_more c.loop-number.places c.in_ok-place.place c.loop-number.invariant.lengths
          c.in_ok-place.ensures.lengths);
      within = rw blocks (all_within c.loop-number.number c.loop-number.blocks.items c.inside.result
          c.loop-number.invariant.within
          (c.inside.ensures.within reach around (c.in_ok-place.ensures.framed reach around) c.in_ok-place.ensures.low));
    }
