use Rattle.std.proofs.Common.{◌+◌, ◌∷◌, sym, ◌∙◌, ap}
use Rattle.std.specs.Option.{option_map}
use Rattle.flow_list.specs.Ranges.{searched}
use Rattle.flow_list.specs.Reasons.{told_reason}
use Rattle.range_finder.specs.Judging.{lesser}
use Rattle.range_finder.proofs.Telling.{ends-at-top, ends-fitting, ends-unbounded, goes-on}
use Rattle.range_finder.proofs.next.next_range.Goals as goal

pub returns-then-is_at_top : goal.returns-then-is_at_top
returns-then-is_at_top c inner d r n q j =
    ends-at-top inner d r n q c.args.top c.args.low (sym c.is_at_top.ensures ∙ c.if-is_at_top.true)

pub returns-in_default : goal.returns-in_default
returns-in_default c inner d r n q j =
    ends-fitting inner d r n q c.args.top c.args.low (sym c.is_at_top.ensures ∙ c.if-is_at_top.false)
    (sym (c.in_default.ensures _ j.told))

pub returns-in_default-lesser_of : goal.returns-in_default-lesser_of
returns-in_default-lesser_of c inner d r n q j =
    ends-unbounded inner d r n q c.args.top c.args.low (told_reason c.in-Some.reason) j.above
    (sym c.is_at_top.ensures ∙ c.if-is_at_top.false) (sym (c.in-Some.ensures _ j.told))
    (ap (λ s. lesser c.args.top (option_map (λ short. c.args.low + short) s)) (sym j.told.short)
    ∙ ap (lesser c.args.top) (sym c.least_bound.ensures) ∙ sym c.in_default-lesser_of.ensures)

pub returns : goal.returns
returns c inner d r n q j =
    goes-on inner d r n q c.args.top c.args.low c.in-Some-lesser_of.hi (told_reason c.in-Some.reason) j.above
    (sym c.is_at_top.ensures ∙ c.if-is_at_top.false) (sym (c.in-Some.ensures _ j.told))
    (ap (λ s. lesser c.args.top (option_map (λ short. c.args.low + short) s)) (sym j.told.short)
    ∙ ap (lesser c.args.top) (sym c.least_bound.ensures) ∙ sym c.in-Some-lesser_of.ensures)
    ∙ ap (λ ls. record { low = c.args.low; high = c.in-Some-lesser_of.hi; reason = told_reason c.in-Some.reason; lines = ls }
    ∷ searched inner d r q c.args.top n c.in-Some-lesser_of.hi) (sym j.told.lines)
