-- The text of a document whose layout has each cut piece of a row as low as it can be, where the row's `column-fill` is
-- `balance-all`, or why there is none (this project's own).
use Rattle.std.specs.Prelude.{◌≡◌, ℕ, ◌+◌, ◌<◌, ◌≤◌, ◌⊎◌, List, length, Option}
use Rattle.all_writer.specs.AllText.{all_text}
use Rattle.doc_flows.specs.Documents.{DocumentSays, RefusesDocument}
use Rattle.doc_flows.specs.Flags.{HasFlags}
use Rattle.flow_list.specs.Data.{FlowsData}
use Rattle.mc_base.specs.declared.refusal.LimitName.TheVariants.{Result as ResultBytes}
use Rattle.mc_base.specs.declared.refusal.Refusal.{Refusal}
use Rattle.mc_base.specs.declared.refusal.Refusal.TheVariants.{Limit}
use Rattle.page_views.specs.Shown.{text_limit}
use Rattle.piece_data.specs.Lowering.{Flags}

-- a document with this sheet and these metrics, laid out this wide and with this available height, has these flows, and their rows
-- these flags
pub record SaysFlagged (document sheet metrics : List ℕ) (width : ℕ) (height : Option ℕ) (d : FlowsData) (flags : Flags) : Type 0
  where
    pub said : DocumentSays document sheet metrics width height d
    pub flagged : HasFlags document sheet metrics d flags

-- this text is that of its layout
abbrev pub IsAllResult : (document sheet metrics : List ℕ) (width : ℕ) (height : Option ℕ) → List ℕ → Type 0
IsAllResult document sheet metrics width height text = (d : FlowsData) × (flags : Flags)
    × SaysFlagged document sheet metrics width height d flags × (text ≡ all_text d flags) × (length text ≤ text_limit)

-- the text of flows with these flags has more bytes than a result may have, and is refused for that
abbrev pub IsLongAll : FlowsData → Flags → Refusal → Type 0
IsLongAll d flags refusal = (text_limit < length (all_text d flags)) × (refusal ≡ Limit ResultBytes (text_limit + 1) text_limit)

abbrev pub HasLongAll : (document sheet metrics : List ℕ) (width : ℕ) (height : Option ℕ) → Refusal → Type 0
HasLongAll document sheet metrics width height refusal = (d : FlowsData) × (flags : Flags)
    × SaysFlagged document sheet metrics width height d flags × IsLongAll d flags refusal

-- it is refused for this reason: the first by the order of the rules, or its text is too long
abbrev pub RefusesAll : (document sheet metrics : List ℕ) (width : ℕ) (height : Option ℕ) → Refusal → Type 0
RefusesAll document sheet metrics width height refusal = RefusesDocument document sheet metrics width height refusal
    ⊎ HasLongAll document sheet metrics width height refusal
