-- What marks stand where boxes open and close, one after another in document order.
use Rattle.std.specs.Prelude.{ℕ, suc, Bool, true, false, nat_lt, if◌then◌else◌, List, [], ◌∷◌, ◌++◌, length, take, drop}
use Rattle.std.specs.Prelude.{reverse, fold, Option, Some, None, slice_get}
use Rattle.line_breaker.specs.declared.line.Line.{Line}
use Rattle.box_data.specs.declared.mark.Mark.{Mark}
use Rattle.box_data.specs.declared.mark.Mark.TheVariants as marked
use Rattle.box_data.specs.declared.tree.BoxKind.TheVariants.{Block as block_box, Anonymous as anonymous, Container as container}
use Rattle.box_data.specs.declared.tree.BoxKind.TheVariants.{ImageBlock as image_block}
use Rattle.box_data.specs.declared.placed.Placed.{Placed}
use Rattle.box_data.specs.Widths.{is_bounded}
use Rattle.box_content.specs.declared.closing.Open.{Open}
use Rattle.box_content.specs.Cutting.{rows_in}

-- ---- what stands in a box

-- what is empty holds a void of this box
abbrev pub or_void : (n x : ℕ) → List Mark → List Mark
or_void n x [] = marked.Void n x ∷ []
or_void n x (m ∷ ms) = m ∷ ms

abbrev pub container_marks : List Placed → Placed → List Mark → List Mark
container_marks places p inside =
    if is_bounded p then marked.Stack p.number ∷ (or_void p.number 0 (rows_in places p.number 0 inside) ++ marked.End ∷ [])
    else or_void p.number p.content_x (rows_in places p.number p.content_x inside)

-- the marks in a box, which holds these lines or boxes
abbrev pub inside_of : List Placed → Placed → List Mark → List Mark
inside_of places p inside = elim (p.kind) as (λ k. List Mark) [
  | block_box ↦ or_void p.number p.content_x inside
  | anonymous ↦ or_void p.number p.content_x inside
  | container ↦ container_marks places p inside
  | image_block ↦ marked.Image p.number ∷ []
]

-- ---- where a box begins and ends

abbrev pub start_of : Placed → List Mark
start_of p = (if p.spans then marked.Spanner ∷ [] else []) ++ marked.Opens p.number ∷ []

abbrev pub end_of : Placed → List Mark
end_of p = marked.Closes p.number ∷ (if p.spans then marked.End ∷ [] else [])

-- the lines of box n from a number on
abbrev pub line_marks : (n index : ℕ) → List Line → List Mark
line_marks n index [] = []
line_marks n index (l ∷ ls) = marked.Line n index ∷ line_marks n (suc index) ls

abbrev pub end_in : List Placed → Option Placed → (from : ℕ) → List Mark → List Mark
end_in places None from ms = ms
end_in places (Some p) from ms = take from ms ++ (inside_of places p (drop from ms) ++ end_of p)

-- the marks where a box has closed
abbrev pub closed : List Placed → Open → List Mark → List Mark
closed places o ms = end_in places (slice_get places o.number) o.from ms

-- ---- the boxes in document order

-- the marks so far, and the boxes that are open, the innermost first
pub record Walk : Type 0 where
  pub so_far : List Mark
  pub still_open : List Open

abbrev pub walk_of : List Mark → List Open → Walk
walk_of ms open_last = record { so_far = ms; still_open = reverse open_last }

-- whether a box closes before one that stands in this box begins
abbrev pub is_past : (parent : Option ℕ) → ℕ → Bool
is_past None n = true
is_past (Some m) n = nat_lt m n

abbrev pub top_is_past : (parent : Option ℕ) → List Open → Bool
top_is_past parent [] = false
top_is_past parent (o ∷ os) = is_past parent o.number

-- with the innermost box closed
abbrev pub without_top : List Placed → List Mark → List Open → Walk
without_top places ms [] = record { so_far = ms; still_open = [] }
without_top places ms (o ∷ os) = record { so_far = closed places o ms; still_open = os }

-- with the boxes closed that are open behind this one, or all where there is none
abbrev pub without : List Placed → (parent : Option ℕ) → List Mark → List Open → Walk
without places parent ms [] = record { so_far = ms; still_open = [] }
without places parent ms (o ∷ os) =
    if is_past parent o.number then without places parent (closed places o ms) os else record { so_far = ms; still_open = o ∷ os }

abbrev pub with_box : Placed → Walk → Walk
with_box p w = record {
  so_far = w.so_far ++ (start_of p ++ line_marks p.number 0 p.lines);
  still_open = record { number = p.number; from = length (w.so_far ++ start_of p) } ∷ w.still_open;
}

abbrev pub walked : List Placed → Walk → Placed → Walk
walked places w p = with_box p (without places p.parent w.so_far w.still_open)

-- the marks of all boxes
abbrev pub all_marks : List Placed → List Mark
all_marks places =
    let w = fold (walked places) (record { so_far = []; still_open = [] }) places in
    (without places None w.so_far w.still_open).so_far
