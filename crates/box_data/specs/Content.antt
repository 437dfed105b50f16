-- What stands in a flow of a document, in order (CSS Multi-column 1, sections 2 and 6): the boxes of a container are cut into rows of
-- columns at its spanners.
use Rattle.std.specs.Prelude.{ℕ, suc, Bool, true, false, not, if◌then◌else◌, List, [], ◌∷◌, ◌++◌, map, drop, reverse}
use Rattle.box_data.specs.declared.mark.Mark.{Mark}
use Rattle.box_data.specs.declared.mark.Mark.TheVariants as marked
use Rattle.box_data.specs.BoxTree.{Boxes, none, box, block_box, anonymous, container, image_block}
use Rattle.line_breaker.specs.declared.line.Line.{Line}
use Rattle.box_data.specs.Widths.{Placed, is_bounded}

-- An atom without flows of its own: a line with its number in its box, an image, or a void in its place.
pub data Leaf : Type 0 where
  line : Placed → (index : ℕ) → Line → Leaf
  image : Placed → Leaf
  void : Placed → (x : ℕ) → Leaf

-- What holds a flow: a container with a height holds a stack; any other container holds rows, each in its place, with the boxes that
-- are open where it begins, and one of them may be its last.
pub data Holder : Type 0 where
  stack : Placed → Holder
  row : Placed → (x : ℕ) → (is_last : Bool) → (opened : List Placed) → Holder

-- What is left of a flow, where boxes open and close. A spanner stands in a container's content alone, and none in a flow.
pub data Content : Type 0 where
  done : Content
  opens : Placed → (next : Content) → Content
  closes : Placed → (next : Content) → Content
  leaf : Leaf → (next : Content) → Content
  holds : Holder → (inside next : Content) → Content
  spanner : (inside next : Content) → Content

abbrev pub before : Content → Content → Content
before done more = more
before (opens p next) more = opens p (before next more)
before (closes p next) more = closes p (before next more)
before (leaf l next) more = leaf l (before next more)
before (holds h inside next) more = holds h inside (before next more)
before (spanner inside next) more = spanner inside (before next more)

abbrev pub is_done : Content → Bool
is_done done = true
is_done (opens p next) = false
is_done (closes p next) = false
is_done (leaf l next) = false
is_done (holds h inside next) = false
is_done (spanner inside next) = false

-- what is empty holds a void of this box
abbrev pub or_void : Placed → (x : ℕ) → Content → Content
or_void p x content = if is_done content then leaf (void p x) done else content

-- ---- parts

-- what stands before the next spanner; a void stands behind the last start of a box where no item follows it
abbrev pub part : Content → Content
part done = done
part (opens p next) = opens p (or_void p p.content_x (part next))
part (closes p next) = closes p (part next)
part (leaf l next) = leaf l (part next)
part (holds h inside next) = holds h inside (part next)
part (spanner inside next) = done

-- a void stands before the first end of a box where no item precedes it: then the part begins with that end
abbrev pub led : Content → Content
led done = done
led (opens p next) = opens p next
led (closes p next) = leaf (void p p.content_x) (closes p next)
led (leaf l next) = leaf l next
led (holds h inside next) = holds h inside next
led (spanner inside next) = spanner inside next

abbrev pub has_spanner : Content → Bool
has_spanner done = false
has_spanner (opens p next) = has_spanner next
has_spanner (closes p next) = has_spanner next
has_spanner (leaf l next) = has_spanner next
has_spanner (holds h inside next) = has_spanner next
has_spanner (spanner inside next) = true

-- the row of a part, where these boxes are open, the innermost first; a part in which nothing stands makes no row
abbrev pub row_of_part : Placed → (x : ℕ) → (still_open : List Placed) → Content → (more : Content) → Content
row_of_part c x still_open content more =
    if is_done (part content) then more else holds (row c x (not (has_spanner content)) (reverse still_open)) (led (part content)) more

-- the spanners of a container, each with the row behind it
abbrev pub spanners : Placed → (x : ℕ) → (still_open : List Placed) → Content → Content
spanners c x still_open done = done
spanners c x still_open (opens p next) = spanners c x (p ∷ still_open) next
spanners c x still_open (closes p next) = spanners c x (drop 1 still_open) next
spanners c x still_open (leaf l next) = spanners c x still_open next
spanners c x still_open (holds h inside next) = spanners c x still_open next
spanners c x still_open (spanner inside next) = before inside (row_of_part c x still_open next (spanners c x still_open next))

-- the rows and spanners of a container with this content, in turn
abbrev pub rows : Placed → (x : ℕ) → Content → Content
rows c x content = row_of_part c x [] content (spanners c x [] content)

-- ---- boxes

-- the lines of a box from a number on
abbrev pub lines_from : Placed → (index : ℕ) → List Line → (more : Content) → Content
lines_from p index [] more = more
lines_from p index (l ∷ ls) more = leaf (line p index l) (lines_from p (suc index) ls more)

-- what stands in a box, which holds its lines or these boxes
abbrev pub within : Placed → (kids : Content) → Content
within p kids = elim (p.kind) as (λ k. Content) [
  | block_box ↦ or_void p p.content_x (lines_from p 0 p.lines kids)
  | anonymous ↦ or_void p p.content_x (lines_from p 0 p.lines kids)
  | container ↦
      if is_bounded p then holds (stack p) (or_void p 0 (rows p 0 (lines_from p 0 p.lines kids))) done
      else or_void p p.content_x (rows p p.content_x (lines_from p 0 p.lines kids))
  | image_block ↦ leaf (image p) done
]

-- a box, before what follows it
abbrev pub framed : Placed → (inside next : Content) → Content
framed p inside next = opens p (before inside (closes p next))

-- what these boxes are in the flow in which they stand
abbrev pub content_of : Boxes Placed → Content
content_of none = done
content_of (box p kids next) =
    let inside = within p (content_of kids) in
    if p.spans then spanner (framed p inside done) (content_of next) else framed p inside (content_of next)

-- ---- the content as a list

abbrev pub leaf_mark : Leaf → Mark
leaf_mark (line p index l) = marked.Line p.number index
leaf_mark (image p) = marked.Image p.number
leaf_mark (void p x) = marked.Void p.number x

abbrev pub holder_mark : Holder → Mark
holder_mark (stack p) = marked.Stack p.number
holder_mark (row p x is_last opened) = marked.Row p.number x is_last (map (λ (b : Placed). b.number) opened)

-- one mark for each thing, and one for each end
abbrev pub marks : Content → List Mark
marks done = []
marks (opens p next) = marked.Opens p.number ∷ marks next
marks (closes p next) = marked.Closes p.number ∷ marks next
marks (leaf l next) = leaf_mark l ∷ marks next
marks (holds h inside next) = holder_mark h ∷ (marks inside ++ (marked.End ∷ marks next))
marks (spanner inside next) = marked.Spanner ∷ (marks inside ++ (marked.End ∷ marks next))
