-- A column ends within a row only where that row is its stop, and has less room than it needs.
use Rattle.std.proofs.Common.{◌≡◌, ℕ, ◌+◌, ◌-◌, ◌<◌, ◌≤◌, Bool, true, false, cond, List, [], ◌∷◌, ◌++◌, length, Option, Some}
use Rattle.std.proofs.Common.{None, refl, arith}
use Rattle.std.specs.List.{AllByRecursion as Each}
use Rattle.flow_list.specs.Data.{Flow, FlowsData}
use Rattle.flow_data.specs.Flows.{item_of}
use Rattle.flow_list.specs.Tokens.{Token, item_number, within}
use Rattle.flow_list.specs.Strip.{Strip}
use Rattle.flow_list.specs.Column.{Filled, Inner, Step, Place, cut, height_of, row_from, steps, steps_from, start_strip}
use Rattle.flow_list.specs.Column.{inside_place, room, seams_before, seams_between, column, column_up_to, avoids_at}
use Rattle.flow_list.proofs.ColumnParts.{EachFrom, steps-each, OfStop, cut-stop, stopped-each}

-- ---- where a column ends

-- the stop, where there is one, is item k and has less room than it needs
abbrev pub IsFilledAt : ℕ → ℕ → Option Step → Type 0
IsFilledAt h k None = Unit {0}
IsFilledAt h k (Some s) = (s.item ≡ k) × (room s h < s.height)

-- a place within a row is one within the stop
abbrev pub IsEndFor : ℕ → Option Step → Token → Type 0
IsEndFor h stop [] = Unit {0}
IsEndFor h stop (i ∷ []) = Unit {0}
IsEndFor h stop (i ∷ (j ∷ rest)) = IsFilledAt h i stop

any-end : (h : ℕ) (t : Token) → IsEndFor h None t
any-end h [] = tt
any-end h (i ∷ []) = tt
any-end h (i ∷ (j ∷ rest)) = tt

module _ (h : ℕ) (s : Step) where
  abbrev IsRight : Place → Type 0
  IsRight p = IsEndFor h (Some s) p.end

  seams-right : (need : ℕ) (ss : List Step) → Each IsRight (seams_before need ss)
  seams-right need [] = tt
  seams-right need (x ∷ ss) = (tt, seams-right x.need ss)

  between-right : (ss : List Step) → Each IsRight (seams_between ss)
  between-right [] = tt
  between-right (x ∷ ss) = seams-right x.need ss

  within-right : (e : Token) → room s h < s.height → IsEndFor h (Some s) (s.item ∷ e)
  within-right [] lt = tt
  within-right (j ∷ rest) lt = (refl, lt)

  inside-right : (avoids : Bool) (a : ℕ) (filled : Filled) → room s h < s.height → IsRight (inside_place avoids s a filled)
  inside-right avoids a filled lt = go filled.at_end
    where
      go : (b : Bool) → IsEndFor h (Some s) (cond b ((s.item + 1) ∷ []) (s.item ∷ filled.end))
      go true = tt
      go false = within-right filled.end lt

up_to-right : (inner : Inner) (avoids : ℕ → Bool) (h : ℕ) (before : List Step) (stop : Option Step)
    → IsEndFor h stop (column_up_to inner avoids h before stop).end
up_to-right inner avoids h before None = any-end h _
up_to-right inner avoids h before (Some s) =
    stopped-each (IsRight h s) inner (avoids s.item) h s before s.row (between-right h s (before ++ s ∷ [])) (λ whole. tt)
    (λ row over is low. inside-right h s (avoids s.item) (room s h) (inner.fill row.0 row.1 (room s h)) low)

pub column-right : (inner : Inner) (d : FlowsData) (f : Flow) (t : Token) (h : ℕ)
    → IsEndFor h (cut h (steps_from inner d f t)).stop (column inner d f t h).end
unfolding column
column-right inner d f t h = up_to-right inner (avoids_at d f) h (cut h (steps_from inner d f t)).before
    (cut h (steps_from inner d f t)).stop

-- ---- the steps of a column

-- a step from item k on has the row and the height of its item
pub record IsStepFrom (inner : Inner) (f : Flow) (k : ℕ) (s : Step) : Type 0 where
  pub later : k ≤ s.item
  pub from : Token
  pub row : s.row ≡ row_from (item_of f s.item) from
  pub height : s.height ≡ height_of inner (item_of f s.item) from

pub steps-from : (inner : Inner) (d : FlowsData) (f : Flow) (low : ℕ) (s : Strip) (k : ℕ) (q : Token) (n : ℕ) → low ≤ k
    → EachFrom (λ m. IsStepFrom inner f low) k (steps inner d f s k q n)
steps-from inner d f low =
    steps-each inner d f (λ s k q n. low ≤ k) (λ m. IsStepFrom inner f low)
    (λ s k q n le. record { later = le; from = q; row = refl; height = refl }) (λ s k q n le. omega arith)

pub stop-from : (inner : Inner) (d : FlowsData) (f : Flow) (t : Token) (h : ℕ)
    → OfStop (IsStepFrom inner f (item_number t)) (cut h (steps_from inner d f t)).stop
stop-from inner d f t h =
    cut-stop (IsStepFrom inner f (item_number t)) h (item_number t) (steps_from inner d f t)
    (steps-from inner d f (item_number t) (start_strip d f t) (item_number t) (within t) (length f.items - item_number t)
    (omega arith))
