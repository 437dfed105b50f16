-- The rows that ask for each of their pieces to be as low as it can be: `column-fill: balance-all` of the box around them (CSS
-- Multi-column 1, section 7.1).
use Rattle.std.specs.Prelude.{◌≡◌, ℕ, zero, suc, ◌-◌, ◌<◌, Bool, false, cond, List, [], ◌++◌, codes, get_or, length, slice_get}
use Rattle.std.specs.Prelude.{Option, Some, None}
use Rattle.css_computed.specs.declared.style.Style.{Style}
use Rattle.css_cascade.specs.Entries.{style_at}
use Rattle.css_cascade.specs.declared.styles.NodeStyle.{NodeStyle}
use Rattle.flow_data.specs.declared.data.Flow.{Flow}
use Rattle.flow_data.specs.declared.data.FlowsData.{FlowsData}
use Rattle.flow_data.specs.Flows.{flow_of, is_among, item_of, open_at, row_in}
use Rattle.box_data.specs.declared.tree.BoxNode.{BoxNode}
use Rattle.box_style.specs.Styles.{is_word}

-- whether a style asks for it
abbrev pub style_asks : Option Style → Bool
style_asks None = false
style_asks (Some style) = is_word (codes "balance-all") style.column_fill

-- whether a box does, by the style of its element
abbrev pub node_asks : List (Option NodeStyle) → Option BoxNode → Bool
node_asks styles None = false
node_asks styles (Some node) = style_asks (style_at styles node.element)

abbrev pub box_asks : List (Option NodeStyle) → List BoxNode → (b : ℕ) → Bool
box_asks styles boxes b = node_asks styles (slice_get boxes b)

-- whether the innermost of these boxes asks for it, which are listed from the outermost inward
abbrev pub this_asks : (ℕ → Bool) → Option ℕ → Bool
this_asks asks None = false
this_asks asks (Some b) = asks b

abbrev pub innermost_asks : (ℕ → Bool) → List ℕ → Bool
innermost_asks asks boxes = this_asks asks (slice_get boxes (length boxes - 1))

-- the row that item k of a flow is, where the innermost box open there asks for it
abbrev pub asking_at : (ℕ → Bool) → Flow → (k : ℕ) → List ℕ
asking_at asks f k = cond (innermost_asks asks (open_at f k)) (row_in (item_of f k)) []

-- the rows among the first k items of a flow, and those in the first n flows
abbrev pub asking_in : (ℕ → Bool) → Flow → (k : ℕ) → List ℕ
asking_in asks f zero = []
asking_in asks f (suc k) = asking_in asks f k ++ asking_at asks f k

abbrev pub asking_to : (ℕ → Bool) → FlowsData → (n : ℕ) → List ℕ
asking_to asks d zero = []
asking_to asks d (suc n) = asking_to asks d n ++ asking_in asks (flow_of d n) (length (flow_of d n).items)

-- all rows that ask for it
abbrev pub asking_rows : (ℕ → Bool) → FlowsData → List ℕ
asking_rows asks d = asking_to asks d (length d.flows)

-- a flag for each row of the data, which says whether it is one of these
pub record AreFlags (d : FlowsData) (rows : List ℕ) (flags : List Bool) : Type 0 where
  pub count : length flags ≡ length d.rows
  pub each : (r : ℕ) → r < length d.rows → get_or flags r false ≡ is_among rows r
