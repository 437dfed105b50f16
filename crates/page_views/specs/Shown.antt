-- What is shown of flows that are said, or that it is too long.
use Rattle.std.specs.Prelude.{◌≡◌, ℕ, ◌+◌, ◌<◌, ◌≤◌, List, length}
use Rattle.flow_list.specs.Data.{FlowsData}
use Rattle.mc_base.specs.declared.refusal.LimitName.TheVariants.{Result as ResultBytes}
use Rattle.mc_base.specs.declared.refusal.Refusal.{Refusal}
use Rattle.mc_base.specs.declared.refusal.Refusal.TheVariants.{Limit}

-- how many bytes the text of a result may have
abbrev pub text_limit : ℕ
text_limit = 268435456

-- this text is a view of flows that are said
abbrev pub IsView : (view : FlowsData → List ℕ) → (Says : FlowsData → Type 0) → List ℕ → Type 0
IsView view Says text = (d : FlowsData) × Says d × (text ≡ view d) × (length text ≤ text_limit)

-- what says flows is refused since their view has more bytes than a result may have
abbrev pub HasLongView : (view : FlowsData → List ℕ) → (Says : FlowsData → Type 0) → Refusal → Type 0
HasLongView view Says refusal = ((d : FlowsData) × Says d × (text_limit < length (view d)))
    × (refusal ≡ Limit ResultBytes (text_limit + 1) text_limit)
