use Rattle.std.proofs.Common.{arith, max, ◌∙◌, sym, ap, map, take, drop, List}
use Rattle.flow_list.specs.Placing.{Laid, gap_places, opens_among, greatest_margin}
use Rattle.frag_maker.specs.Building.{placed_as}
use Rattle.column_places.specs.Placing.{laid_as, margin_of, rows_placed, rows_waiting}
use Rattle.column_places.proofs.Gaps.{gap-more, greatest-more, greatest-part, taken-more, rows-more}
use Rattle.column_places.proofs.SoFar.{so-far}
use Rattle.column_places.proofs.placing.place_gap.Goals as goal

pub loop-waiting-preserved : goal.loop-waiting-preserved
loop-waiting-preserved c =
    let i = c.loop-waiting.waiting-index in
    let gap = c.args.gap.now in
    let w = c.waiting-item.result in
    let at = c.waiting-item.is in
    let lt = c.loop-waiting-test.true in
    let before : List Laid = map laid_as (take i gap) in
    let h = c.loop-waiting.invariant in
    record {
      places = so-far (map placed_as c.loop-waiting.placed.items) _ _
          (gap_places c.args.y c.args.end before (map laid_as (drop i gap))) _ _ h.places
          (gap-more i gap w lt at c.args.y c.args.end) (c.in_ok-place.ensures.placed before h.margin h.started);
      margin = c.max-margin.ensures ∙ ap (λ m. max c.loop-waiting.margin m) c.margin_in.ensures
          ∙ ap (λ m. max m (margin_of w)) h.margin
          ∙ sym (ap greatest_margin (taken-more i gap w lt at) ∙ greatest-more (take i gap) w);
      started = λ q. c.in_ok-place.ensures.started before h.started q ∙ ap (opens_among q) (sym (taken-more i gap w lt at));
      rows = so-far (rows_placed c.loop-waiting.placed.items) _ _ (rows_waiting (drop i gap)) _ _ h.rows
          (rows-more i gap w lt at) c.in_ok-place.ensures.rows;
    }

pub place-requires : goal.place-requires
place-requires c =
    let h = c.loop-waiting.invariant.margin in
    let le = greatest-part c.loop-waiting.waiting-index c.args.gap.now in
    let r = c.requires in
    omega arith
