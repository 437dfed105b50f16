-- Which rows of a document ask for each of their pieces to be as low as it can be (`column-fill: balance-all`).
use Rattle.std.specs.Prelude.{◌≡◌, ℕ, Bool, List, Option, Ok}
use Rattle.html_grammar.specs.declared.dom.Dom.{Dom}
use Rattle.html_grammar.specs.Tree.{Forest}
use Rattle.css_data.specs.declared.rule.Sheet.{Sheet}
use Rattle.css_cascade.specs.declared.styles.NodeStyle.{NodeStyle}
use Rattle.flow_data.specs.declared.data.FlowsData.{FlowsData}
use Rattle.box_data.specs.BoxTree.{tree_of}
use Rattle.box_style.specs.Styles.{styles_in}
use Rattle.row_flags.specs.Asking.{AreFlags, asking_rows, box_asks}
use Rattle.doc_flows.specs.Reading.{Read, read_of}
use Rattle.doc_flows.specs.Documents.{sheets_of}
use Rattle.doc_flows.specs.Trees.{IsStyledTree}

-- the flags of the rows of a document's flows, by its boxes and their styles
pub record HasTreeFlags (dom : Dom) (sheets : List Sheet) (d : FlowsData) (flags : List Bool) : Type 0 where
  pub styles : List (Option NodeStyle)
  pub tree : Forest
  pub is : IsStyledTree dom sheets styles tree
  pub asked : AreFlags d (asking_rows (box_asks styles (tree_of (styles_in styles) tree).nodes) d) flags

-- These are the flags of the rows of flows that a document with this sheet and these metrics has.
pub record HasFlags (document sheet metrics : List ℕ) (d : FlowsData) (flags : List Bool) : Type 0 where
  pub r : Read
  pub read : read_of document sheet metrics ≡ Ok r
  pub tree : HasTreeFlags r.dom (sheets_of r) d flags
