-- Which line may follow which, told line by line: a file is read by these steps, and the first that can't be made is its
-- first fault.
use Rattle.std.specs.Prelude.{ℕ, ◌==◌, nat_lt, slice_index, List, [], ◌∷◌, ◌++◌, length, Bool, true, false, ◌||◌, if◌then◌else◌}
use Rattle.std.specs.Prelude.{Option, Some, None, Result, Ok, Err}
use Rattle.flow_text.specs.declared.line.Line.{Line}
use Rattle.flow_text.specs.declared.line.Form.{Form}
use Rattle.flow_text.specs.declared.line.Form.TheVariants as forms
use Rattle.mc_base.specs.declared.read_error.Fault.{Fault}
use Rattle.mc_base.specs.Reading.{fault, ◌>>=◌}
use Rattle.flow_text.specs.declared.structure.Phase.{Phase}
use Rattle.flow_text.specs.declared.structure.Phase.TheVariants as phases
use Rattle.flow_text.specs.declared.structure.OpenRow.{OpenRow}
use Rattle.flow_text.specs.declared.structure.Due.{Due}
use Rattle.flow_text.specs.declared.structure.Rows.{Rows}
use Rattle.flow_text.specs.declared.structure.Reading.{Reading}
use Rattle.flow_text.specs.declared.structure.Reading.TheVariants as readings

-- this, unless there is a fault
abbrev pub unless : {A : Type 0} → Option Fault → Result A Fault → Result A Fault
unless None r = r
unless (Some f) r = Err f

abbrev pub is_filled : Phase → Bool
is_filled phases.Empty = false
is_filled (phases.Leading at) = false
is_filled phases.Filled = true
is_filled (phases.Behind at) = false

abbrev pub touched : Phase → ℕ → Phase
touched phases.Empty at = phases.Leading at
touched (phases.Leading first) at = phases.Leading first
touched phases.Filled at = phases.Filled
touched (phases.Behind place) at = phases.Behind place

abbrev pub bottom_of : List ℕ → ℕ → ℕ
bottom_of bottoms number = slice_index bottoms number

abbrev pub is_cloned : ℕ → Option ℕ → Bool
is_cloned bottom None = bottom == 0
is_cloned bottom (Some amount) = (bottom == 0) || (amount == bottom)

abbrev pub due_of : ℕ → ℕ → Option Due
due_of at top = if nat_lt 0 top then Some (record { at = at; top = top }) else None

abbrev pub open_row : ℕ → OpenRow
open_row at = record { at = at; phase = phases.Empty; boxes = [] }

abbrev pub begun : ℕ → Rows
begun at = record { row = open_row at; outer = []; bottoms = []; due = None; solid = None }

abbrev pub in_phase : OpenRow → Phase → OpenRow
in_phase row phase = record { at = row.at; phase = phase; boxes = row.boxes }

-- a margin, a solid amount or a wall
abbrev pub edge : Rows → ℕ → Option ℕ → Rows
edge s at solid = record {
  row = in_phase s.row (touched s.row.phase at);
  outer = s.outer;
  bottoms = s.bottoms;
  due = None;
  solid = solid;
}

-- the start of a box: in a head, and by its number
abbrev pub start : Rows → ℕ → ℕ → ℕ → ℕ → Result Rows Fault
start s at number top bottom =
    if is_filled s.row.phase then fault at 5 else
    (if number == length s.bottoms
    then Ok (record {
      row = record { at = s.row.at; phase = touched s.row.phase at; boxes = number ∷ s.row.boxes };
      outer = s.outer;
      bottoms = s.bottoms ++ bottom ∷ [];
      due = due_of at top;
      solid = None;
    })
    else fault at 6)

abbrev pub end_innermost : Rows → ℕ → ℕ → List ℕ → Result Rows Fault
end_innermost s at number [] = fault at 6
end_innermost s at number (b ∷ boxes) =
    if b == number then
    (if is_cloned (bottom_of s.bottoms number) s.solid
    then Ok (record {
      row = record { at = s.row.at; phase = s.row.phase; boxes = boxes };
      outer = s.outer;
      bottoms = s.bottoms;
      due = None;
      solid = None;
    })
    else fault at 8)
    else fault at 6

-- the end of a box: in a tail, of the innermost box of its row, after the box's lower amount
abbrev pub end : Rows → ℕ → ℕ → Result Rows Fault
end s at number = if is_filled s.row.phase then end_innermost s at number s.row.boxes else fault at 5

abbrev pub in_row : Rows → OpenRow → Rows
in_row s row = record { row = row; outer = s.outer; bottoms = s.bottoms; due = None; solid = None }

-- an item: not after another one
abbrev pub item : Rows → ℕ → Result Rows Fault
item s at = if is_filled s.row.phase then fault at 5 else Ok (in_row s (in_phase s.row phases.Filled))

abbrev pub inner_row : Rows → ℕ → Result Rows Fault
inner_row s at = if is_filled s.row.phase then fault at 5 else Ok
    (record { row = open_row at; outer = in_phase s.row phases.Filled ∷ s.outer; bottoms = s.bottoms; due = None; solid = None })

-- a break place: after an item
abbrev pub break_place : Rows → ℕ → Result Rows Fault
break_place s at = if is_filled s.row.phase then Ok (in_row s (in_phase s.row (phases.Behind at))) else fault at 5

abbrev pub boxes_fault : List ℕ → ℕ → Option Fault
boxes_fault [] at = None
boxes_fault (b ∷ boxes) at = Some (record { at = at; rule = 6 })

abbrev pub fault_in_phase : Phase → OpenRow → Bool → ℕ → Option Fault
fault_in_phase phases.Empty row nested at = if nested then Some (record { at = row.at; rule = 6 }) else None
fault_in_phase (phases.Leading first) row nested at =
    if nested then Some (record { at = row.at; rule = 6 }) else Some (record { at = first; rule = 5 })
fault_in_phase phases.Filled row nested at = boxes_fault row.boxes at
fault_in_phase (phases.Behind place) row nested at = Some (record { at = place; rule = 5 })

-- why a row may not end here
abbrev pub fault_at_end : OpenRow → Bool → ℕ → Option Fault
fault_at_end row nested at = fault_in_phase row.phase row nested at

abbrev pub close_in : List OpenRow → Rows → ℕ → Result Reading Fault
close_in [] s at = unless (fault_at_end s.row false at) (Ok readings.Ended)
close_in (o ∷ os) s at = unless (fault_at_end s.row true at)
    (Ok (readings.Within (record { row = o; outer = os; bottoms = s.bottoms; due = None; solid = None })))

abbrev pub close : Rows → ℕ → Result Reading Fault
close s at = close_in s.outer s at

abbrev pub within : Result Rows Fault → Result Reading Fault
within r = r >>= λ s. Ok (readings.Within s)

-- a line in the rows, where nothing is due
abbrev pub step : Rows → ℕ → Form → Result Reading Fault
step s at forms.Flow = fault at 5
step s at (forms.First n w st available auto) = fault at 5
step s at (forms.Margin u) = Ok (readings.Within (edge s at None))
step s at (forms.Solid u) = Ok (readings.Within (edge s at (Some u)))
step s at forms.Wall = Ok (readings.Within (edge s at None))
step s at (forms.Start number x w avoid top bottom) = within (start s at number top bottom)
step s at (forms.End number) = within (end s at number)
step s at (forms.Atom u) = within (item s at)
step s at (forms.Row n w st x) = within (inner_row s at)
step s at (forms.Break level) = within (break_place s at)
step s at forms.Close = close s at

abbrev pub is_solid : ℕ → Option Form → Bool
is_solid top (Some (forms.Solid u)) = u == top
is_solid top _ = false

-- why what had to follow at once doesn't, where this follows
abbrev pub fault_of_due : Option Due → Option Form → Option Fault
fault_of_due None form = None
fault_of_due (Some d) form = if is_solid d.top form then None else Some (record { at = d.at; rule = 8 })

abbrev pub take_first : ℕ → Form → Result Reading Fault
take_first at forms.Flow = Ok readings.Heading
take_first at _ = fault at 3

abbrev pub take_second : ℕ → Form → Result Reading Fault
take_second at (forms.First n w st available auto) = Ok (readings.Within (begun at))
take_second at _ = fault at 5

-- reading goes on by a line
abbrev pub take : Reading → Line → Result Reading Fault
take readings.Opening line = take_first line.at line.form
take readings.Heading line = take_second line.at line.form
take (readings.Within s) line = unless (fault_of_due s.due (Some line.form)) (step s line.at line.form)
take readings.Ended line = fault line.at 7

abbrev pub what_is_due : Reading → Option Due
what_is_due readings.Opening = None
what_is_due readings.Heading = None
what_is_due (readings.Within s) = s.due
what_is_due readings.Ended = None

abbrev pub fault_of_rows : Option Due → ℕ → Option Fault
fault_of_rows None size = Some (record { at = size; rule = 7 })
fault_of_rows (Some d) size = Some (record { at = d.at; rule = 8 })

-- why a text of this size may not end here
abbrev pub fault_of_ending : Reading → ℕ → Option Fault
fault_of_ending readings.Opening size = Some (record { at = 0; rule = 3 })
fault_of_ending readings.Heading size = Some (record { at = size; rule = 7 })
fault_of_ending (readings.Within s) size = fault_of_rows s.due size
fault_of_ending readings.Ended size = None
