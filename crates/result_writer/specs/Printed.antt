-- The text of a result. Results are this project's own: a first line, the lines of the tree, and those of the certificate.
use Rattle.std.specs.Prelude.{◌≡◌, ℕ, ◌+◌, ◌<◌, List, length}
use Rattle.flow_list.specs.Data.{FlowsData}
use Rattle.flow_list.specs.ResultText.{result_lines}
use Rattle.mc_base.specs.declared.refusal.LimitName.TheVariants.{Result as ResultBytes}
use Rattle.mc_base.specs.declared.refusal.Refusal.{Refusal}
use Rattle.mc_base.specs.declared.refusal.Refusal.TheVariants.{Limit}
use Rattle.page_views.specs.Shown.{text_limit}
use Rattle.result_laws.specs.Given.{ended_lines}

-- the result of the flows of an input: its lines, each with a line feed
unfoldable pub result_text : FlowsData → List ℕ
result_text d = ended_lines (result_lines d)

-- the result of flows has more bytes than are left of the limit of results, and is refused by this limit
abbrev pub IsLongResult : FlowsData → (most : ℕ) → Refusal → Type 0
IsLongResult d most refusal = (most < length (result_text d)) × (refusal ≡ Limit ResultBytes (text_limit + 1) text_limit)
