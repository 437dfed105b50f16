use Rattle.std.proofs.Common.{length, ap}
use Rattle.flow_data.specs.Data.{Stack}
use Rattle.flow_data.specs.Flows.{stack_of}
use Rattle.flow_data.specs.Soundness.{FitsAcross}
use Rattle.flow_data.proofs.FitsAcross.{places_start, places_step, places_fewer, place_fits, reaches-from_fits}
use Rattle.flow_data.proofs.Verdicts.{refused, not_so}
use Rattle.flow_data.proofs.across.fits_across.Goals as goal

pub loop-place-init : goal.loop-place-init
loop-place-init c =
    places_start c.args.parts.now c.in_ok-places.places.items c.stack_of.result.flow c.len.result c.in_ok-places.ensures.items
    (ap (λ (s : Stack). s.flow) c.stack_of.ensures) c.len.ensures

pub returns-then-not-is_within_reach : goal.returns-then-not-is_within_reach
returns-then-not-is_within_reach c =
    let d = c.args.parts.now in
    refused (FitsAcross d (length d.flows) 0 (stack_of d 0).flow) (λ h.
    not_so c.is_within_reach.ensures c.if-not-is_within_reach.true (reaches-from_fits d c.in-Some.place c.if-place-eq0.false
    (place_fits d c.pop.new.self.items c.loop-place.places.items c.in-Some.place c.in-Some.ensures.items
    (c.loop-place.invariant.1 h))))

pub loop-place-smaller : goal.loop-place-smaller
loop-place-smaller c =
    places_fewer c.args.parts.now c.pop.new.self.items c.loop-place.places.items c.push_places.new.places.items c.in-Some.place
    c.items_of.result.now
    c.in-Some.ensures.items c.if-place-eq0.false c.items_of.ensures c.in_ok-push_places.ensures

pub loop-place-preserved : goal.loop-place-preserved
loop-place-preserved c =
    let d = c.args.parts.now in
    places_step d (FitsAcross d (length d.flows) 0 (stack_of d 0).flow) c.pop.new.self.items c.loop-place.places.items
    c.push_places.new.places.items c.in-Some.place c.items_of.result.now
    c.in-Some.ensures.items c.if-place-eq0.false c.items_of.ensures c.in_ok-push_places.ensures
    (c.is_within_reach.ensures.0 c.if-not-is_within_reach.false) c.loop-place.invariant
