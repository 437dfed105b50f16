-- What the functions of this crate answer.
use Rattle.std.specs.Prelude.{◌≡◌, ◌⊎◌, ℕ, List, Option, Some, None, Result, Ok, Err}
use Rattle.mc_base.specs.declared.refusal.Found.{Found}
use Rattle.mc_base.specs.declared.refusal.Refusal.{Refusal}
use Rattle.mc_base.specs.declared.refusal.Refusal.TheVariants as refusals
use Rattle.mc_base.specs.declared.refusal.Input.TheVariants as inputs
use Rattle.html_grammar.specs.Tree.{Forest}
use Rattle.css_cascade.specs.declared.styles.NodeStyle.{NodeStyle}
use Rattle.font_table.specs.declared.fonts.Face.{Face}
use Rattle.box_data.specs.BoxTree.{tree_of, first_construct}
use Rattle.box_style.specs.Styles.{styles_in}
use Rattle.flow_build.specs.Build.{HasFlows, PassesLimit}
use Rattle.doc_flows.specs.declared.texts.Reading.{Reading}
use Rattle.doc_flows.specs.declared.trees.BoxedFlows.{BoxedFlows}
use Rattle.doc_flows.specs.Reading.{Read}

abbrev pub read_as : Reading → Read
read_as r = record { dom = r.dom; own = r.own; author = r.author; faces = r.fonts }

-- this is what was read, unless memory ran out
abbrev pub IsReading : Result Reading Refusal → Result Read Refusal → Type 0
IsReading (Ok r) answer = answer ≡ Ok (read_as r)
IsReading (Err refusal) answer = (refusal ≡ refusals.NoMemory) ⊎ (answer ≡ Err refusal)

-- the boxes and the flows of what has this tree and these styles
pub record AreLaid (faces : List Face) (styles : List (Option NodeStyle)) (width : ℕ) (height : Option ℕ) (tree : Forest)
    (all : BoxedFlows) : Type 0 where
  pub laid : first_construct (styles_in styles) tree ≡ None
  pub flows : HasFlows faces styles width height tree all.flows
  pub boxes : all.boxes ≡ tree_of (styles_in styles) tree

-- why it has none, unless memory ran out
pub data IsRefused (faces : List Face) (styles : List (Option NodeStyle)) (width : ℕ) (height : Option ℕ) (tree : Forest)
    (refusal : Refusal) : Type 0 where
  memory : refusal ≡ refusals.NoMemory → IsRefused faces styles width height tree refusal
  construct : (found : Found) → first_construct (styles_in styles) tree ≡ Some found
      → refusal ≡ refusals.Construct inputs.Document found.offset found.name → IsRefused faces styles width height tree refusal
  limit : first_construct (styles_in styles) tree ≡ None → PassesLimit faces styles width height tree refusal
      → IsRefused faces styles width height tree refusal
