-- The marks of a box: where it begins, what stands in it and where it ends.
use Rattle.std.proofs.Common.{◌≡◌, ℕ, Bool, true, false, List, [], ◌∷◌, ◌++◌, refl, sym, ap, ◌∙◌, append_assoc}
use Rattle.std.specs.Prelude.{if◌then◌else◌}
use Rattle.box_data.specs.declared.mark.Mark.{Mark}
use Rattle.box_data.specs.declared.mark.Mark.TheVariants as marked
use Rattle.box_data.specs.declared.placed.Placed.{Placed}
use Rattle.box_data.specs.Widths.{is_bounded}
use Rattle.box_data.specs.declared.tree.BoxKind.{BoxKind}
use Rattle.box_data.specs.declared.tree.BoxKind.TheVariants.{Block, Anonymous, Container, ImageBlock}
use Rattle.box_data.specs.BoxTree.{Boxes, box}
use Rattle.box_data.specs.Content.{Content, done, closes, holds, stack, spanner, rows, lines_from, within, framed, content_of}
use Rattle.box_data.specs.Content.{marks}
use Rattle.box_data.specs.Content as contents
use Rattle.box_data.specs.Bounds.{IsNumbered, AreNumbered}
use Rattle.box_content.specs.Cutting.{rows_in}
use Rattle.box_content.specs.Walking.{or_void, container_marks, inside_of, start_of, end_of, line_marks}
use Rattle.box_content.proofs.ContentLemmas.{marks-before, marks-or_void, marks-lines}
use Rattle.box_content.proofs.RowLemmas.{rows_are}
use Rattle.box_content.proofs.Standing.{within_at}
use Rattle.box_content.proofs.Numbered.{numbered-lines}

-- ---- what stands in a box

rows_or_void : (places : List Placed) (p : Placed) (x : ℕ) (inside : Content) → AreNumbered places inside
    → or_void p.number x (rows_in places p.number x (marks inside)) ≡ marks (contents.or_void p x (rows p x inside))
rows_or_void places p x inside h = ap (or_void p.number x) (rows_are places p x inside h)
    ∙ sym (marks-or_void p x (rows p x inside))

container_inside : (places : List Placed) (b : Bool) (p : Placed) (inside : Content) → AreNumbered places inside
    → ◌≡◌ {A = List Mark} (if b then marked.Stack p.number ∷
    (or_void p.number 0 (rows_in places p.number 0 (marks inside)) ++ marked.End ∷ [])
    else or_void p.number p.content_x (rows_in places p.number p.content_x (marks inside)))
    (marks (if b then holds (stack p) (contents.or_void p 0 (rows p 0 inside)) done else contents.or_void p p.content_x
    (rows p p.content_x inside)))
container_inside places true p inside h =
    ap (λ (ms : List Mark). marked.Stack p.number ∷ (ms ++ marked.End ∷ [])) (rows_or_void places p 0 inside h)
container_inside places false p inside h = rows_or_void places p p.content_x inside h

abbrev inside_at : BoxKind → List Placed → Placed → List Mark → List Mark
inside_at kind places p ms = elim kind as (λ k. List Mark) [
  | Block ↦ or_void p.number p.content_x ms
  | Anonymous ↦ or_void p.number p.content_x ms
  | Container ↦ container_marks places p ms
  | ImageBlock ↦ marked.Image p.number ∷ []
]

inside_by_kind : (places : List Placed) (k : BoxKind) (p : Placed) (kids : Content) → IsNumbered places p
    → AreNumbered places kids
    → inside_at k places p (marks (lines_from p 0 p.lines kids)) ≡ marks (within_at k p kids)
inside_by_kind places Block p kids is h = sym (marks-or_void p p.content_x (lines_from p 0 p.lines kids))
inside_by_kind places Anonymous p kids is h = sym (marks-or_void p p.content_x (lines_from p 0 p.lines kids))
inside_by_kind places Container p kids is h =
    container_inside places (is_bounded p) p (lines_from p 0 p.lines kids) (numbered-lines places p kids is h)
inside_by_kind places ImageBlock p kids is h = refl

pub inside_is : (places : List Placed) (p : Placed) (kids : Content) → IsNumbered places p → AreNumbered places kids
    → inside_of places p (line_marks p.number 0 p.lines ++ marks kids) ≡ marks (within p kids)
inside_is places p kids is h =
    ap (inside_of places p) (sym (marks-lines p 0 p.lines kids)) ∙ inside_by_kind places p.kind p kids is h

-- ---- a box and what follows it

framed_marks : (s : Bool) (p : Placed) (inside next : Content)
    → marks (if s then spanner (framed p inside done) next else framed p inside next)
    ≡ ((if s then marked.Spanner ∷ [] else []) ++ marked.Opens p.number ∷ [])
    ++ (marks inside ++ ((marked.Closes p.number ∷ (if s then marked.End ∷ [] else [])) ++ marks next))
framed_marks true p inside next =
    ap (λ (ms : List Mark). marked.Spanner ∷ (marked.Opens p.number ∷ (ms ++ (marked.End ∷ marks next))))
    (marks-before inside (closes p done))
    ∙ ap (λ (ms : List Mark). marked.Spanner ∷ (marked.Opens p.number ∷ ms))
    (append_assoc (marks inside) (marked.Closes p.number ∷ []) (marked.End ∷ marks next))
framed_marks false p inside next = ap (λ (ms : List Mark). marked.Opens p.number ∷ ms) (marks-before inside (closes p next))

-- the marks of boxes, the first of which holds these
pub box_marks : (p : Placed) (kids next : Boxes Placed)
    → marks (content_of (box p kids next)) ≡ start_of p ++
    (marks (within p (content_of kids)) ++ (end_of p ++ marks (content_of next)))
box_marks p kids next = framed_marks p.spans p (within p (content_of kids)) (content_of next)
