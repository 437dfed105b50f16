-- Places where a column may end, and an item as it stands in a column, as the definitions of columns have them.
use Rattle.std.specs.Prelude.{ℕ, ◌+◌, ◌^◌, ◌<◌, true, List, [], ◌∷◌, sum_by, Option, Some, None}
use Rattle.mc_base.specs.declared.level.Level.{Level}
use Rattle.flow_data.specs.declared.data.Edge.{Edge}
use Rattle.flow_data.specs.Flows.{amount}
use Rattle.flow_list.specs.Column.{Place, Step, better_place, rank}
use Rattle.flow_list.specs.Tokens.{Token}
use Rattle.column_walk.specs.declared.endings.Ending.{Ending}
use Rattle.column_walk.specs.declared.endings.Here.{Here}
use Rattle.column_walk.specs.declared.endings.Spot.{Spot}

-- the place before an item
abbrev pub place_of : Ending → Place
place_of e = record { level = rank e.level; end = e.item ∷ []; extent = e.extent; overflow = e.overflow }

abbrev pub place_opt : Option Ending → Option Place
place_opt None = None
place_opt (Some e) = Some (place_of e)

abbrev pub spot_place : Spot → Place
spot_place s = record { level = rank s.level; end = s.end; extent = s.extent; overflow = s.overflow }

-- the best place so far, with the seam of this level at the last place among them
abbrev pub considered : Option Place → Option Place → Level → Option Place
considered best None level = best
considered best (Some last) level =
    Some (better_place best (record { level = rank level; end = last.end; extent = last.extent; overflow = last.overflow }))

-- an item of a column, with its row and the tail of the seam after it
abbrev pub step_of : Here → Option (ℕ × Token) → List Edge → Step
step_of here row tail = record {
  item = here.item;
  level = here.level;
  y = here.y;
  height = here.height;
  need = here.need;
  row = row;
  tail = tail;
  next = rank here.next;
  bottoms = here.bottoms;
  bottoms_after = here.bottoms_after;
}

-- the place after an item that is placed whole though it overflows
abbrev pub whole_of : Here → Place
whole_of here = record { level = rank here.next; end = (here.item + 1) ∷ []; extent = here.need; overflow = true }

-- an item's height, what it needs, where it begins and what follows it are small, with this tail of the seam after it
pub record IsSmall (tail : List Edge) (here : Here) : Type 0 where
  pub high : here.height < 2 ^ 60
  pub needs : here.need < 2 ^ 60
  pub begins : here.y + here.bottoms < 2 ^ 60
  pub follows : sum_by amount tail + here.bottoms_after < 2 ^ 60
