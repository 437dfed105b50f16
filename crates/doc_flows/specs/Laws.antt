-- A document has one answer: its flows, or one reason why it has none. So has its tree. And it has one list of flags.
use Rattle.std.specs.Prelude.{◌≡◌, ℕ, Bool, List, Option}
use Rattle.html_grammar.specs.declared.dom.Dom.{Dom}
use Rattle.css_data.specs.declared.rule.Sheet.{Sheet}
use Rattle.font_table.specs.declared.fonts.Face.{Face}
use Rattle.flow_data.specs.declared.data.FlowsData.{FlowsData}
use Rattle.mc_base.specs.declared.refusal.Refusal.{Refusal}
use Rattle.mc_base.specs.declared.refusal.Refusal.TheVariants as refusals
use Rattle.mc_base.specs.declared.refusal.Input.{Input}
use Rattle.mc_base.specs.declared.refusal.Rule.{Rule}
use Rattle.doc_flows.specs.Documents.{DocumentSays, RefusesDocument}
use Rattle.doc_flows.specs.Flags.{HasFlags}
use Rattle.doc_flows.specs.Trees.{TreeSays, RefusesTree}

pub record OneAnswer : Type 0 where
  pub flows : (document sheet metrics : List ℕ) (width : ℕ) (height : Option ℕ) (c d : FlowsData)
      → DocumentSays document sheet metrics width height c → DocumentSays document sheet metrics width height d → c ≡ d
  pub reason : (document sheet metrics : List ℕ) (width : ℕ) (height : Option ℕ) (c d : Refusal)
      → RefusesDocument document sheet metrics width height c → RefusesDocument document sheet metrics width height d → c ≡ d
  pub either : (document sheet metrics : List ℕ) (width : ℕ) (height : Option ℕ) (d : FlowsData) (c : Refusal)
      → DocumentSays document sheet metrics width height d → RefusesDocument document sheet metrics width height c → ⊥
  -- want of memory is no such reason
  pub known : (document sheet metrics : List ℕ) (width : ℕ) (height : Option ℕ)
      → RefusesDocument document sheet metrics width height refusals.NoMemory → ⊥

pub record OneTreeAnswer : Type 0 where
  pub flows : (dom : Dom) (sheets : List Sheet) (faces : List Face) (width : ℕ) (height : Option ℕ) (c d : FlowsData)
      → TreeSays dom sheets faces width height c → TreeSays dom sheets faces width height d → c ≡ d
  pub reason : (dom : Dom) (sheets : List Sheet) (faces : List Face) (width : ℕ) (height : Option ℕ) (c d : Refusal)
      → RefusesTree dom sheets faces width height c → RefusesTree dom sheets faces width height d → c ≡ d
  pub either : (dom : Dom) (sheets : List Sheet) (faces : List Face) (width : ℕ) (height : Option ℕ) (d : FlowsData) (c : Refusal)
      → TreeSays dom sheets faces width height d → RefusesTree dom sheets faces width height c → ⊥
  -- want of memory is no such reason, nor is a fault of a grammar
  pub known : (dom : Dom) (sheets : List Sheet) (faces : List Face) (width : ℕ) (height : Option ℕ)
      → RefusesTree dom sheets faces width height refusals.NoMemory → ⊥
  pub grammar : (dom : Dom) (sheets : List Sheet) (faces : List Face) (width : ℕ) (height : Option ℕ)
      (input : Input) (offset : ℕ) (rule : Rule)
      → RefusesTree dom sheets faces width height (refusals.Grammar input offset rule) → ⊥

-- flows of a document have one list of flags
pub record OneFlagging : Type 0 where
  pub flags : (document sheet metrics : List ℕ) (d : FlowsData) (a b : List Bool)
      → HasFlags document sheet metrics d a → HasFlags document sheet metrics d b → a ≡ b
