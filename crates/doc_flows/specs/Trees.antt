-- The flows of a document's tree with its style sheets, for a width and an available height, or why it has none.
use Rattle.std.specs.Prelude.{◌≡◌, ℕ, List, Option, Some, None}
use Rattle.mc_base.specs.declared.refusal.Found.{Found}
use Rattle.mc_base.specs.declared.refusal.Input.TheVariants as inputs
use Rattle.mc_base.specs.declared.refusal.Refusal.{Refusal}
use Rattle.mc_base.specs.declared.refusal.Refusal.TheVariants as refusals
use Rattle.html_grammar.specs.declared.dom.Dom.{Dom}
use Rattle.html_grammar.specs.Tree.{Forest, nodes_from}
use Rattle.css_data.specs.declared.rule.Sheet.{Sheet}
use Rattle.css_cascade.specs.declared.styles.NodeStyle.{NodeStyle}
use Rattle.css_cascade.specs.Cascaded.{IsCascaded}
use Rattle.font_table.specs.declared.fonts.Face.{Face}
use Rattle.flow_data.specs.declared.data.FlowsData.{FlowsData}
use Rattle.box_data.specs.BoxTree.{first_construct}
use Rattle.box_style.specs.Styles.{styles_in}
use Rattle.flow_build.specs.Build.{HasFlows, PassesLimit}

-- A document has this tree, and its elements have these styles: by these sheets in order, with the built-in sheet and the style
-- attributes.
pub record IsStyledTree (dom : Dom) (sheets : List Sheet) (styles : List (Option NodeStyle)) (tree : Forest) : Type 0 where
  pub styled : IsCascaded sheets dom styles
  pub nodes : dom.nodes ≡ nodes_from None 0 tree

-- a document's tree with these sheets and these faces, laid out this wide and with this available height, has these flows
pub record TreeSays (dom : Dom) (sheets : List Sheet) (faces : List Face) (width : ℕ) (height : Option ℕ) (d : FlowsData)
    : Type 0 where
  pub styles : List (Option NodeStyle)
  pub tree : Forest
  pub is : IsStyledTree dom sheets styles tree
  pub laid : first_construct (styles_in styles) tree ≡ None
  pub flows : HasFlows faces styles width height tree d

-- it is refused for this reason, the first in their order: for a construct at an element that makes a box, or for a limit of its
-- flows
pub data RefusesTree (dom : Dom) (sheets : List Sheet) (faces : List Face) (width : ℕ) (height : Option ℕ) (refusal : Refusal)
    : Type 0 where
  construct : (styles : List (Option NodeStyle)) (tree : Forest) → IsStyledTree dom sheets styles tree
      → (found : Found) → first_construct (styles_in styles) tree ≡ Some found
      → refusal ≡ refusals.Construct inputs.Document found.offset found.name
      → RefusesTree dom sheets faces width height refusal
  limit : (styles : List (Option NodeStyle)) (tree : Forest) → IsStyledTree dom sheets styles tree
      → first_construct (styles_in styles) tree ≡ None → PassesLimit faces styles width height tree refusal
      → RefusesTree dom sheets faces width height refusal
