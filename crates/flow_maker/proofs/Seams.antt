-- The seam in progress, with what is left of its content, is the seam that the content says.
use Rattle.std.proofs.Common.{◌≡◌, ℕ, zero, suc, Bool, true, false, List, [], ◌∷◌, ◌++◌, length, drop, Option, None, refl, sym}
use Rattle.std.proofs.Common.{ap, ◌∙◌, append-nil, append_assoc}
use Rattle.std.specs.Prelude.{if◌then◌else◌, map, flat_map, reverse}
use Rattle.std.specs.List.{list_any, AllByRecursion}
use mathlib.Core.List.{reverse_aux}
use Rattle.mc_base.specs.declared.level.Level.{Level}
use Rattle.mc_base.specs.declared.level.Level.TheVariants.{L0}
use Rattle.break_rules.specs.declared.seam.BreakValue.{BreakValue}
use Rattle.break_rules.specs.declared.seam.LineCounts.{LineCounts}
use Rattle.break_rules.specs.declared.seam.SeamBoxes.{SeamBoxes}
use Rattle.break_rules.specs.Levels.{level_of}
use Rattle.flow_data.specs.declared.data.Edge.{Edge}
use Rattle.flow_data.specs.declared.data.Seam.{Seam}
use Rattle.box_data.specs.Bounds.{IsNumbered}
use Rattle.box_data.specs.declared.placed.Placed.{Placed}
use Rattle.box_data.specs.Content.{Content, opens, closes}
use Rattle.box_data.specs.DocumentFlows.{opening, closing, closed_first, opened_then, is_end, line_counts}
use Rattle.flow_maker.specs.declared.seam.Around.{Around}
use Rattle.flow_maker.specs.declared.seam.Stage.{Stage}
use Rattle.flow_maker.specs.declared.seam.Stage.TheVariants.{First, Direct, Closing, Opening}
use Rattle.flow_maker.specs.declared.seam.OpenSeam.{OpenSeam}
use Rattle.flow_maker.specs.Making.{no_boxes, entered_one, exited, within, counts_at, seam_opened, seam_closed}
use Rattle.flow_maker.specs.Making.{seam_before, last_seam}

-- ---- the boxes that are open

abbrev pub avoids : Placed → Bool
avoids p = p.style.avoid_inside

abbrev pub number_of : Placed → ℕ
number_of p = p.number

abbrev pub outer_of : List Placed → List Bool
outer_of [] = []
outer_of (p ∷ still) = list_any avoids still ∷ outer_of still

abbrev pub around_of : List Placed → Around
around_of still = record { avoid = list_any avoids still; outer = outer_of still }

pub around_exited : (still : List Placed) → exited (around_of still) ≡ around_of (drop 1 still)
around_exited [] = refl
around_exited (p ∷ still) = refl

within_onto : (places ps still : List Placed) → AllByRecursion (IsNumbered places) ps
    → within places (around_of still) (map number_of ps) ≡ around_of (reverse_aux ps still)
within_onto places [] still h = refl
within_onto places (p ∷ ps) still h =
    ap (λ (found : Option Placed). within places (entered_one (around_of still) found) (map number_of ps)) h.0
    ∙ within_onto places ps (p ∷ still) h.1

pub within_all : (places ps : List Placed) → AllByRecursion (IsNumbered places) ps
    → within places no_boxes (map number_of ps) ≡ around_of (reverse ps)
within_all places ps h = within_onto places ps [] h

-- ---- the seam in progress

abbrev seam : List Edge → List Edge → Level → Seam
seam tail head level = record { tail = tail; head = head; level = level }

abbrev open_seam : (tail head : List Edge) (after before : List BreakValue) (inside : Bool) → Stage → OpenSeam
open_seam tail head after before inside stage =
    record { tail = tail; head = head; after = after; before = before; inside = inside; stage = stage }

abbrev boxes : (after before : List BreakValue) → Bool → Option LineCounts → SeamBoxes
boxes after before inside lines = record { after = after; before = before; inside_avoid = inside; lines = lines }

abbrev value_after : Placed → BreakValue
value_after p = p.style.break_after

abbrev value_before : Placed → BreakValue
value_before p = p.style.break_before

abbrev ends_left : Stage → List Placed → List Placed
ends_left First closed = []
ends_left Direct closed = closed
ends_left Closing closed = closed
ends_left Opening closed = []

abbrev inside_left : Stage → Bool → (still closed : List Placed) → Bool
inside_left First inside still closed = inside
inside_left Direct inside still closed = list_any avoids (drop (length closed) still)
inside_left Closing inside still closed = list_any avoids (drop (length closed) still)
inside_left Opening inside still closed = inside

abbrev level_left : Stage → (ended : Bool) → SeamBoxes → Level
level_left First ended asked = L0
level_left Direct ended asked = if ended then L0 else level_of asked
level_left Closing ended asked = if ended then L0 else level_of asked
level_left Opening ended asked = if ended then L0 else level_of asked

-- with the boxes that close and open yet before its end
abbrev seam_with : OpenSeam → (still closed opened : List Placed) → (ended : Bool) → Option LineCounts → Seam
seam_with s still closed opened ended lines =
    seam (s.tail ++ flat_map closing (ends_left s.stage closed)) (s.head ++ flat_map opening opened) (level_left s.stage ended
    (boxes (s.after ++ map value_after (ends_left s.stage closed)) (s.before ++ map value_before opened)
    (inside_left s.stage s.inside still closed) (counts_at s.stage lines)))

abbrev pub seam_left : OpenSeam → (still : List Placed) → Content → Seam
seam_left s still rest = seam_with s still (closed_first rest) (opened_then rest) (is_end rest) (line_counts rest)

same_seam : {tail tail' head head' : List Edge} (after after' before before' : List BreakValue)
    (level : List BreakValue → List BreakValue → Level) → tail ≡ tail' → head ≡ head' → after ≡ after' → before ≡ before'
    → seam tail head (level after before) ≡ seam tail' head' (level after' before')
same_seam {tail'} {head} {head'} after after' before before' level t h a b =
    ap (λ (x : List Edge). seam x head (level after before)) t
    ∙ ap (λ (x : List Edge). seam tail' x (level after before)) h
    ∙ ap (λ (x : List BreakValue). seam tail' head' (level x before)) a
    ∙ ap (λ (x : List BreakValue). seam tail' head' (level after' x)) b

-- a box opens
start_in : (stage : Stage) (tail head : List Edge) (after before : List BreakValue) (inside : Bool) (still : List Placed)
    (p : Placed)
    (next : Content)
    → seam_left (seam_opened (open_seam tail head after before inside stage) (list_any avoids still) p) (p ∷ still) next
    ≡ seam_left (open_seam tail head after before inside stage) still (opens p next)
start_in First tail head after before inside still p next =
    same_seam [] [] [] [] (λ _ _. L0) refl (append_assoc head (opening p) (flat_map opening (opened_then next))) refl refl
start_in Direct tail head after before inside still p next =
    same_seam (after ++ []) (after ++ []) (before ++ value_before p ∷ [] ++ map value_before (opened_then next))
    (before ++ (value_before p ∷ [] ++ map value_before (opened_then next)))
    (λ (a b : List BreakValue). level_left Opening (is_end next) (boxes a b (list_any avoids still) None)) refl
    (append_assoc head (opening p) (flat_map opening (opened_then next))) refl
    (append_assoc before (value_before p ∷ []) (map value_before (opened_then next)))
start_in Closing tail head after before inside still p next =
    same_seam (after ++ []) (after ++ []) (before ++ value_before p ∷ [] ++ map value_before (opened_then next))
    (before ++ (value_before p ∷ [] ++ map value_before (opened_then next)))
    (λ (a b : List BreakValue). level_left Opening (is_end next) (boxes a b (list_any avoids still) None)) refl
    (append_assoc head (opening p) (flat_map opening (opened_then next))) refl
    (append_assoc before (value_before p ∷ []) (map value_before (opened_then next)))
start_in Opening tail head after before inside still p next =
    same_seam (after ++ []) (after ++ []) (before ++ value_before p ∷ [] ++ map value_before (opened_then next))
    (before ++ (value_before p ∷ [] ++ map value_before (opened_then next)))
    (λ (a b : List BreakValue). level_left Opening (is_end next) (boxes a b inside None)) refl
    (append_assoc head (opening p) (flat_map opening (opened_then next))) refl
    (append_assoc before (value_before p ∷ []) (map value_before (opened_then next)))

pub seam_start : (s : OpenSeam) (still : List Placed) (p : Placed) (next : Content)
    → seam_left (seam_opened s (list_any avoids still) p) (p ∷ still) next ≡ seam_left s still (opens p next)
seam_start s still p next = start_in s.stage s.tail s.head s.after s.before s.inside still p next

drop_twice : {A : Type 0} (n : ℕ) (xs : List A) → drop n (drop 1 xs) ≡ drop (suc n) xs
drop_twice n (x ∷ xs) = refl
drop_twice zero [] = refl
drop_twice (suc n) [] = refl

-- a box closes
close_in : (stage : Stage) (tail head : List Edge) (after before : List BreakValue) (inside : Bool) (still : List Placed)
    (p : Placed)
    (next : Content)
    → seam_left (seam_closed (open_seam tail head after before inside stage) p) (drop 1 still) next
    ≡ seam_left (open_seam tail head after before inside stage) still (closes p next)
close_in First tail head after before inside still p next = refl
close_in Direct tail head after before inside still p next =
    same_seam (after ++ value_after p ∷ [] ++ map value_after (closed_first next))
    (after ++ (value_after p ∷ [] ++ map value_after (closed_first next)))
    (before ++ map value_before (opened_then next)) (before ++ map value_before (opened_then next))
    (λ (a b : List BreakValue). level_left Closing (is_end next) (boxes a b
    (list_any avoids (drop (length (closed_first next)) (drop 1 still))) None))
    (append_assoc tail (closing p) (flat_map closing (closed_first next))) refl
    (append_assoc after (value_after p ∷ []) (map value_after (closed_first next))) refl
    ∙ ap (λ (left : List Placed). seam (tail ++ flat_map closing (closed_first (closes p next))) (head ++ flat_map opening
    (opened_then next))
    (level_left Closing (is_end next) (boxes (after ++ map value_after (closed_first (closes p next)))
    (before ++ map value_before (opened_then next)) (list_any avoids left) None)))
    (drop_twice (length (closed_first next)) still)
close_in Closing tail head after before inside still p next =
    same_seam (after ++ value_after p ∷ [] ++ map value_after (closed_first next))
    (after ++ (value_after p ∷ [] ++ map value_after (closed_first next)))
    (before ++ map value_before (opened_then next)) (before ++ map value_before (opened_then next))
    (λ (a b : List BreakValue). level_left Closing (is_end next) (boxes a b
    (list_any avoids (drop (length (closed_first next)) (drop 1 still))) None))
    (append_assoc tail (closing p) (flat_map closing (closed_first next))) refl
    (append_assoc after (value_after p ∷ []) (map value_after (closed_first next))) refl
    ∙ ap (λ (left : List Placed). seam (tail ++ flat_map closing (closed_first (closes p next))) (head ++ flat_map opening
    (opened_then next))
    (level_left Closing (is_end next) (boxes (after ++ map value_after (closed_first (closes p next)))
    (before ++ map value_before (opened_then next)) (list_any avoids left) None)))
    (drop_twice (length (closed_first next)) still)
close_in Opening tail head after before inside still p next = refl

pub seam_close : (s : OpenSeam) (still : List Placed) (p : Placed) (next : Content)
    → seam_left (seam_closed s p) (drop 1 still) next ≡ seam_left s still (closes p next)
seam_close s still p next = close_in s.stage s.tail s.head s.after s.before s.inside still p next

-- an item comes
item_in : (stage : Stage) (tail head : List Edge) (after before : List BreakValue) (inside : Bool) (still : List Placed)
    (counts : Option LineCounts)
    → seam_before (open_seam tail head after before inside stage) (list_any avoids still) counts
    ≡ seam_with (open_seam tail head after before inside stage) still [] [] false counts
item_in First tail head after before inside still counts =
    same_seam [] [] [] [] (λ _ _. L0) (sym (append-nil tail)) (sym (append-nil head)) refl refl
item_in Direct tail head after before inside still counts =
    same_seam after (after ++ []) before (before ++ []) (λ (a b : List BreakValue). level_of (boxes a b
    (list_any avoids still) counts))
    (sym (append-nil tail)) (sym (append-nil head)) (sym (append-nil after)) (sym (append-nil before))
item_in Closing tail head after before inside still counts =
    same_seam after (after ++ []) before (before ++ []) (λ (a b : List BreakValue). level_of (boxes a b
    (list_any avoids still) None))
    (sym (append-nil tail)) (sym (append-nil head)) (sym (append-nil after)) (sym (append-nil before))
item_in Opening tail head after before inside still counts =
    same_seam after (after ++ []) before (before ++ []) (λ (a b : List BreakValue). level_of (boxes a b inside None))
    (sym (append-nil tail)) (sym (append-nil head)) (sym (append-nil after)) (sym (append-nil before))

-- the seam before an item that is next, with these counts if it is a line
abbrev pub seam_now : OpenSeam → (still : List Placed) → Option LineCounts → Seam
seam_now s still counts = seam_with s still [] [] false counts

pub seam_item : (s : OpenSeam) (still : List Placed) (counts : Option LineCounts)
    → seam_before s (list_any avoids still) counts ≡ seam_now s still counts
seam_item s still counts = item_in s.stage s.tail s.head s.after s.before s.inside still counts

-- the flow ends
end_in : (stage : Stage) (tail head : List Edge) (after before : List BreakValue) (inside : Bool) (still : List Placed)
    → last_seam (open_seam tail head after before inside stage)
    ≡ seam_with (open_seam tail head after before inside stage) still [] [] true None
end_in First tail head after before inside still =
    same_seam [] [] [] [] (λ _ _. L0) (sym (append-nil tail)) (sym (append-nil head)) refl refl
end_in Direct tail head after before inside still =
    same_seam [] [] [] [] (λ _ _. L0) (sym (append-nil tail)) (sym (append-nil head)) refl refl
end_in Closing tail head after before inside still =
    same_seam [] [] [] [] (λ _ _. L0) (sym (append-nil tail)) (sym (append-nil head)) refl refl
end_in Opening tail head after before inside still =
    same_seam [] [] [] [] (λ _ _. L0) (sym (append-nil tail)) (sym (append-nil head)) refl refl

pub seam_end : (s : OpenSeam) (still : List Placed) → last_seam s ≡ seam_with s still [] [] true None
seam_end s still = end_in s.stage s.tail s.head s.after s.before s.inside still
