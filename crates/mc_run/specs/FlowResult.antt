-- The result of the flows of a flow file or a document, or why there is none.
use Rattle.std.specs.Prelude.{◌≡◌, ℕ, ◌⊎◌, List, Option, None}
use Rattle.doc_flows.specs.Documents.{DocumentSays, RefusesDocument}
use Rattle.flow_text.specs.Grammar.{FlowFile}
use Rattle.flow_list.specs.Data.{FlowsData}
use Rattle.flow_list.specs.FileFlows.{IsFile, RefusesText, flows_of, limit_of}
use Rattle.mc_base.specs.declared.refusal.Refusal.{Refusal}
use Rattle.mc_base.specs.declared.refusal.Refusal.TheVariants.{Grammar, Construct, Limit, NoMemory}
use Rattle.page_views.specs.Shown.{IsView, HasLongView}
use Rattle.result_writer.specs.Printed.{result_text}

-- ---- flows that an input says

-- this text is the result of flows that are said
abbrev pub IsResult : (FlowsData → Type 0) → List ℕ → Type 0
IsResult Says text = IsView result_text Says text

-- what says flows is refused since the text that is their result has more bytes than a result may have
abbrev pub HasLongResult : (FlowsData → Type 0) → Refusal → Type 0
HasLongResult Says refusal = HasLongView result_text Says refusal

-- ---- a flow file

-- these bytes are a flow file within its limits, and these the flows that it says
abbrev pub FlowSays : List ℕ → FlowsData → Type 0
FlowSays bytes d = (file : FlowFile) × IsFile bytes file × (limit_of file ≡ None) × (d ≡ flows_of file)

-- these bytes are no flow file
abbrev pub IsNoFlowFile : List ℕ → Type 0
IsNoFlowFile bytes = (file : FlowFile) → IsFile bytes file → ⊥

-- this text is the result of a flow file
abbrev pub IsFlowResult : List ℕ → List ℕ → Type 0
IsFlowResult bytes text = IsResult (FlowSays bytes) text

-- These bytes are refused for this reason: they are no flow file, and their first fault is told; they pass a limit, or
-- their result does.
abbrev pub RefusesBytes : List ℕ → Refusal → Type 0
RefusesBytes bytes (Grammar input offset rule) = IsNoFlowFile bytes × RefusesText bytes (Grammar input offset rule)
RefusesBytes bytes (Construct input offset name) = ⊥
RefusesBytes bytes (Limit name reached limit) = RefusesText bytes (Limit name reached limit)
    ⊎ HasLongResult (FlowSays bytes) (Limit name reached limit)
RefusesBytes bytes NoMemory = ⊥

-- ---- a document

-- this text is what a view shows of a document with this sheet and these metrics, laid out this wide and with this available
-- height
abbrev pub IsPageView : (view : FlowsData → List ℕ) (document sheet metrics : List ℕ) (width : ℕ) (height : Option ℕ)
    → List ℕ → Type 0
IsPageView view document sheet metrics width height text = IsView view (DocumentSays document sheet metrics width height) text

-- it is refused for this reason: the first by the order of the rules, or what the view shows is too long
abbrev pub RefusesPageView : (view : FlowsData → List ℕ) (document sheet metrics : List ℕ) (width : ℕ) (height : Option ℕ)
    → Refusal → Type 0
RefusesPageView view document sheet metrics width height refusal =
    RefusesDocument document sheet metrics width height refusal
    ⊎ HasLongView view (DocumentSays document sheet metrics width height) refusal
