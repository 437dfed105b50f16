-- How far the places of a document stand from the left of stack 0: the cut at spanners keeps them in reach.
use Rattle.std.proofs.Common.{ℕ, ◌+◌, ◌-◌, ◌<◌, List, [], ◌∷◌, Bool, true, false, not}
use Rattle.std.specs.Prelude.{reverse, drop, if◌then◌else◌}
use Rattle.std.specs.List.{AllByRecursion}
use Rattle.box_data.specs.declared.placed.Placed.{Placed}
use Rattle.box_data.specs.Content.{Leaf, line, image, void, Holder, stack, row, Content, done, opens, closes, leaf, holds}
use Rattle.box_data.specs.Content.{spanner, before, is_done, or_void, part, led, has_spanner, row_of_part, spanners, rows}
use Rattle.box_data.specs.DocumentFlows.{aligned, lines_x, lines_w, opened_in}
use Rattle.doc_laws.proofs.Lists.{all_reverse, all_drop}

abbrev pub leaf_x : Leaf → ℕ
leaf_x (line p index size) = lines_x p + aligned p.style.align (lines_w p - size.w)
leaf_x (image p) = p.content_x
leaf_x (void p x) = x

abbrev pub holder_x : Holder → ℕ
holder_x (stack p) = p.content_x
holder_x (row p x is_last opened) = x

-- the box, and a void of it, in a flow whose left edge is at left
abbrev pub BoxFits : (far left : ℕ) → Placed → Type 0
BoxFits far left p = (left + p.x < far) × (left + p.content_x < far)

-- Each place is below far: in a flow whose left edge is at left, and of what spans the columns in one whose left edge is at
-- outer.
abbrev pub Reaches : (far left outer : ℕ) → Content → Type 0
Reaches far left outer done = Unit {0}
Reaches far left outer (opens p next) = BoxFits far left p × Reaches far left outer next
Reaches far left outer (closes p next) = BoxFits far left p × Reaches far left outer next
Reaches far left outer (leaf l next) = (left + leaf_x l < far) × Reaches far left outer next
Reaches far left outer (holds h inside next) =
    (left + holder_x h < far) × AllByRecursion (BoxFits far (left + holder_x h)) (opened_in h)
    × Reaches far (left + holder_x h) 0 inside × Reaches far left outer next
Reaches far left outer (spanner inside next) = Reaches far outer 0 inside × Reaches far left outer next

pub reach_before : (far left outer : ℕ) (c more : Content) → Reaches far left outer c → Reaches far left outer more
    → Reaches far left outer (before c more)
reach_before far left outer done more h k = k
reach_before far left outer (opens p next) more h k = (h.0, reach_before far left outer next more h.1 k)
reach_before far left outer (closes p next) more h k = (h.0, reach_before far left outer next more h.1 k)
reach_before far left outer (leaf l next) more h k = (h.0, reach_before far left outer next more h.1 k)
reach_before far left outer (holds i inside next) more h k = (h.0, h.1, h.2, reach_before far left outer next more h.3 k)
reach_before far left outer (spanner inside next) more h k = (h.0, reach_before far left outer next more h.1 k)

pub reach_or_void : (far left outer : ℕ) (p : Placed) (x : ℕ) (c : Content) → left + x < far → Reaches far left outer c
    → Reaches far left outer (or_void p x c)
reach_or_void far left outer p x c fits h = go (is_done c)
  where
    go : (v : Bool) → Reaches far left outer (if v then leaf (void p x) done else c)
    go true = (fits, tt)
    go false = h

-- a part has no spanner, so it doesn't matter where those stand
reach_part : (far left outer : ℕ) (c : Content) → Reaches far left outer c → Reaches far left 0 (part c)
reach_part far left outer done h = tt
reach_part far left outer (opens p next) h =
    (h.0, reach_or_void far left 0 p p.content_x (part next) h.0.1 (reach_part far left outer next h.1))
reach_part far left outer (closes p next) h = (h.0, reach_part far left outer next h.1)
reach_part far left outer (leaf l next) h = (h.0, reach_part far left outer next h.1)
reach_part far left outer (holds i inside next) h = (h.0, h.1, h.2, reach_part far left outer next h.3)
reach_part far left outer (spanner inside next) h = tt

reach_led : (far left outer : ℕ) (c : Content) → Reaches far left outer c → Reaches far left outer (led c)
reach_led far left outer done h = h
reach_led far left outer (opens p next) h = h
reach_led far left outer (closes p next) h = (h.0.1, h)
reach_led far left outer (leaf l next) h = h
reach_led far left outer (holds i inside next) h = h
reach_led far left outer (spanner inside next) h = h

reach_row : (far flow x outer : ℕ) (k : Placed) (at : List Placed) (c more : Content) → flow + x < far
    → AllByRecursion (BoxFits far (flow + x)) at → Reaches far (flow + x) flow c → Reaches far flow outer more
    → Reaches far flow outer (row_of_part k x at c more)
reach_row far flow x outer k at c more fits known h g = go (is_done (part c))
  where
    go : (v : Bool) → Reaches far flow outer (if v then more else holds (row k x (not (has_spanner c)) (reverse at))
        (led (part c)) more)
    go true = g
    go false = (
      fits,
      all_reverse (BoxFits far (flow + x)) at known,
      reach_led far (flow + x) 0 (part c) (reach_part far (flow + x) flow c h),
      g,
    )

-- what spans the columns is laid in the flow around, in which no spanner stands
reach_spanners : (far flow x : ℕ) (k : Placed) (at : List Placed) (c : Content) → flow + x < far
    → AllByRecursion (BoxFits far (flow + x)) at → Reaches far (flow + x) flow c → Reaches far flow 0 (spanners k x at c)
reach_spanners far flow x k at done fits known h = tt
reach_spanners far flow x k at (opens p next) fits known h = reach_spanners far flow x k (p ∷ at) next fits (h.0, known) h.1
reach_spanners far flow x k at (closes p next) fits known h =
    reach_spanners far flow x k (drop 1 at) next fits (all_drop (BoxFits far (flow + x)) at known) h.1
reach_spanners far flow x k at (leaf l next) fits known h = reach_spanners far flow x k at next fits known h.1
reach_spanners far flow x k at (holds i inside next) fits known h = reach_spanners far flow x k at next fits known h.3
reach_spanners far flow x k at (spanner inside next) fits known h =
    reach_before far flow 0 inside (row_of_part k x at next (spanners k x at next)) h.0
    (reach_row far flow x 0 k at next (spanners k x at next) fits known h.1
    (reach_spanners far flow x k at next fits known h.1))

pub rows_reach : (far flow x : ℕ) (k : Placed) (c : Content) → flow + x < far → Reaches far (flow + x) flow c
    → Reaches far flow 0 (rows k x c)
rows_reach far flow x k c fits h = reach_row far flow x 0 k [] c (spanners k x [] c) fits tt h
    (reach_spanners far flow x k [] c fits tt h)
