-- What is shown of flows that are laid out, as text: what stands at a point, a drawing, or counts (this project's own).
use Rattle.std.specs.Prelude.{ℕ, List, [], ◌++◌, map, codes, length, Option, Some, None, slice_get}
use Rattle.std.specs.Prelude.{Bool, true, false, flat_map, sum_by, count_by}
use Rattle.std.specs.Fmt.{decimal}
use Rattle.flow_list.specs.Data.{Flow, FlowsData}
use Rattle.flow_list.specs.Stacks.{stack_height}
use Rattle.flow_list.specs.Tree.{TreeKind, stack, row, col, box, line, void, image, atom, TreeLine, tree_of}
use Rattle.flow_list.specs.TreeText.{tree_line_text}
use Rattle.hit_index.specs.Scan.{hit, path, mark_of}
use Rattle.mc_draw.specs.DrawingText.{drawing_text}
use Rattle.mc_draw.specs.Shapes.{drawing_of}

-- ---- a point

abbrev pub text_of_line : Option TreeLine → List ℕ
text_of_line None = []
text_of_line (Some l) = tree_line_text l

-- the text of the lines with these numbers
abbrev pub numbered_text : List TreeLine → List ℕ → List ℕ
numbered_text lines numbers = flat_map (λ n. text_of_line (slice_get lines n)) numbers

abbrev pub leaf_text : List TreeLine → Option ℕ → List ℕ
leaf_text lines None = codes "none\n"
leaf_text lines (Some leaf) = numbered_text lines (path (map mark_of lines) leaf)

-- the lines of the tree from stack 0 to the last leaf that holds a point, or a word where no leaf does
unfoldable pub hit_text : (x y : ℕ) → FlowsData → List ℕ
hit_text x y d = leaf_text (tree_of d) (hit (map mark_of (tree_of d)) x y)

-- ---- a drawing

-- the drawing of the tree with rules of this width
unfoldable pub draw_text : (rule : ℕ) → FlowsData → List ℕ
draw_text rule d = drawing_text (drawing_of d rule (tree_of d))

-- ---- counts

-- how many items all flows have, rows among them
abbrev pub items_in : FlowsData → ℕ
items_in d = sum_by (λ (f : Flow). length f.items) d.flows

abbrev pub is_column : TreeKind → Bool
is_column (stack number) = false
is_column (row number from) = false
is_column (col index) = true
is_column (box owner starts ends) = false
is_column (line owner index) = false
is_column (void owner) = false
is_column (image owner) = false
is_column (atom item) = false

-- how many columns the tree has
abbrev pub columns_in : List TreeLine → ℕ
columns_in lines = count_by (λ (l : TreeLine). is_column l.kind) lines

-- a word and a number
abbrev pub counted : List ℕ → ℕ → List ℕ
counted word n = word ++ decimal n

-- these counts on a line
abbrev pub counts_text : (elements items columns height : ℕ) → List ℕ
counts_text elements items columns height =
    counted (codes "elements ") elements ++ (counted (codes " items ") items ++ (counted (codes " columns ") columns
    ++ (counted (codes " height ") height ++ codes "\n")))

-- how many elements the document has, items all flows, and columns the tree, and how high stack 0 is
unfoldable pub summary_text : (elements : ℕ) → FlowsData → List ℕ
summary_text elements d = counts_text elements (items_in d) (columns_in (tree_of d)) (stack_height d 0)
