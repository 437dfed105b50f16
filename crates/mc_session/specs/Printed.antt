-- What is printed of a session's document.
use Rattle.std.specs.Prelude.{◌≡◌, ◌⊎◌, ℕ, ◌≤◌, List, length}
use Rattle.mc_base.specs.declared.refusal.Refusal.{Refusal}
use Rattle.flow_data.specs.declared.data.FlowsData.{FlowsData}
use Rattle.result_writer.specs.Printed.{result_text, IsLongResult}
use Rattle.mc_session.specs.Session.{Asked, Says, IsRefused}

-- this text is the result of a session's document as it is now, and has no more than so many bytes
abbrev pub IsPrinted : Asked → (most : ℕ) → List ℕ → Type 0
IsPrinted asked most text = (d : FlowsData) × Says asked d × (text ≡ result_text d) × (length text ≤ most)

-- it has no flows, or its result has more bytes than that
abbrev pub IsDenied : Asked → (most : ℕ) → Refusal → Type 0
IsDenied asked most refusal = IsRefused asked refusal ⊎ ((d : FlowsData) × Says asked d × IsLongResult d most refusal)
