-- The lines of each box (CSS 2.1, section 9.4.2), by the faces of a table of metrics and what the style of each node says of its text.
use Rattle.std.specs.Prelude.{◌≡◌, ℕ, suc, ◌+◌, List, [], map, Option, Some, None, length}
use Rattle.font_table.specs.declared.fonts.Face.{Face}
use Rattle.inline_text.specs.declared.content.Piece.{Piece}
use Rattle.inline_text.specs.declared.content.RunStyle.{RunStyle}
use Rattle.line_breaker.specs.declared.line.Line.{Line}
use Rattle.line_breaker.specs.Lines.{AreLines}
use Rattle.box_data.specs.Styles.{BoxStyle}
use Rattle.box_data.specs.BoxTree.{Boxes, none, box, box_count, Node, block_box, anonymous, container, image_block}
use Rattle.box_data.specs.Widths.{Placed, Place, placed_one, place_in, outermost, run_in, sized, lines_at}
use Rattle.box_data.specs.DocumentFlows.{lines_w}

-- the inline content of a box with the used sizes of its images
abbrev pub used_run : List BoxStyle → Node → Placed → List Piece
used_run styles node p = map (sized styles (lines_w p)) (run_in node)

-- these are the lines of a box in its place
abbrev pub AreBoxLines : List Face → List RunStyle → List BoxStyle → Node → Placed → List Line → Type 0
AreBoxLines faces texts styles node p lines = elim (node.kind) as (λ k. Type 0) [
  | block_box ↦ AreLines (record { pieces = used_run styles node p; styles = texts }) faces (lines_w p) p.element 0 lines
  | anonymous ↦ AreLines (record { pieces = used_run styles node p; styles = texts }) faces (lines_w p) p.element 0 lines
  | container ↦ AreLines (record { pieces = used_run styles node p; styles = texts }) faces (lines_w p) p.element 0 lines
  | image_block ↦ lines ≡ []
]

-- these are the lines of the boxes, numbered from n, in the box of this number
abbrev pub AreBroken : List Face → List RunStyle → List BoxStyle → List (List Line) → (parent : Option ℕ) → (n : ℕ) → Place → Boxes Node → Type 0
AreBroken faces texts styles lines parent n place none = Unit {0}
AreBroken faces texts styles lines parent n place (box node kids next) =
    let p = placed_one styles lines parent n node place in
    AreBoxLines faces texts styles node p (lines_at lines n)
    × AreBroken faces texts styles lines (Some n) (suc n) (place_in p place) kids
    × AreBroken faces texts styles lines parent (suc n + box_count kids) place next

-- one list of lines for each box of a document as wide as this
pub record AreLinesOf (faces : List Face) (texts : List RunStyle) (styles : List BoxStyle) (width : ℕ) (boxes : Boxes Node) (lines : List (List Line)) : Type 0 where
  pub count : length lines ≡ box_count boxes
  pub broken : AreBroken faces texts styles lines None 0 (outermost width) boxes
