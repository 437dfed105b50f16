-- The flows of a document with a style sheet and a table of metrics, for a width and an available height, or why it has none.
use Rattle.std.specs.Prelude.{◌≡◌, ℕ, List, ◌∷◌, Option, Ok, Err}
use Rattle.mc_base.specs.declared.refusal.Refusal.{Refusal}
use Rattle.css_data.specs.declared.rule.Sheet.{Sheet}
use Rattle.flow_data.specs.declared.data.FlowsData.{FlowsData}
use Rattle.doc_flows.specs.Reading.{Read, read_of}
use Rattle.doc_flows.specs.Trees.{TreeSays, RefusesTree}

-- the sheets of what is read: the author's first, then those of the document's style elements
abbrev pub sheets_of : Read → List Sheet
sheets_of r = r.author ∷ r.own.sheets

-- a document with this sheet and these metrics, laid out this wide and with this available height, has these flows
pub record DocumentSays (document sheet metrics : List ℕ) (width : ℕ) (height : Option ℕ) (d : FlowsData) : Type 0 where
  pub r : Read
  pub read : read_of document sheet metrics ≡ Ok r
  pub tree : TreeSays r.dom (sheets_of r) r.faces width height d

-- it is refused for this reason, the first in their order: as it is read, or as its tree is laid out
pub data RefusesDocument (document sheet metrics : List ℕ) (width : ℕ) (height : Option ℕ) (refusal : Refusal) : Type 0 where
  reading : read_of document sheet metrics ≡ Err refusal → RefusesDocument document sheet metrics width height refusal
  laying : (r : Read) → read_of document sheet metrics ≡ Ok r → RefusesTree r.dom (sheets_of r) r.faces width height refusal
      → RefusesDocument document sheet metrics width height refusal
