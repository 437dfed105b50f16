-- What a print shows of a document's tree as it is then, or why it shows nothing.
use Rattle.std.specs.Prelude.{◌≡◌, ℕ, List, Option, None}
use Rattle.mc_base.specs.declared.refusal.Refusal.{Refusal}
use Rattle.html_grammar.specs.declared.dom.Dom.{Dom}
use Rattle.html_grammar.specs.Tree.{Forest, nodes_from}
use Rattle.css_data.specs.declared.rule.Sheet.{Sheet}
use Rattle.font_table.specs.declared.fonts.Face.{Face}
use Rattle.flow_data.specs.declared.data.FlowsData.{FlowsData}
use Rattle.doc_flows.specs.Trees.{TreeSays, RefusesTree}
use Rattle.result_writer.specs.Printed.{result_text}

-- what a tree is laid out with: its sheets in order, the faces of the fonts, a width and an available height
pub record Setting : Type 0 where
  pub sheets : List Sheet
  pub faces : List Face
  pub width : ℕ
  pub height : Option ℕ

-- a document of this tree, without a construct that isn't laid out
abbrev pub document_of : Forest → Dom
document_of tree = record { nodes = nodes_from None 0 tree; construct = None }

-- this text is the result of a tree, as layout from the start would write it
abbrev pub Shows : Setting → Forest → List ℕ → Type 0
Shows setting tree text =
    (d : FlowsData) × TreeSays (document_of tree) setting.sheets setting.faces setting.width setting.height d
    × (text ≡ result_text d)

-- a tree has no result for this reason: the first construct at an element that makes a box, or the first limit that its flows
-- pass
abbrev pub Denies : Setting → Forest → Refusal → Type 0
Denies setting tree refusal =
    RefusesTree (document_of tree) setting.sheets setting.faces setting.width setting.height refusal
