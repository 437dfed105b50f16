-- Flags of rows, as one item after another is looked at.
use Rattle.std.proofs.Common.{ℕ, ◌+◌, Bool, List, ◌++◌, length, sym, subst, ap, ◌∙◌, add-one, append_assoc}
use Rattle.flow_data.specs.Flows.{flow_of}
use Rattle.flow_data.specs.declared.data.Flow.{Flow}
use Rattle.flow_data.specs.declared.data.FlowsData.{FlowsData}
use Rattle.row_flags.specs.Asking.{AreFlags, asking_at, asking_in, asking_to}

pub next-item : (d : FlowsData) (asks : ℕ → Bool) (f : Flow) (k : ℕ) (rows : List ℕ) (flags : List Bool) →
    AreFlags d ((rows ++ asking_in asks f k) ++ asking_at asks f k) flags → AreFlags d (rows ++ asking_in asks f (k + 1)) flags
next-item d asks f k rows flags has =
    let P : List ℕ → Type 0 = λ rs. AreFlags d rs flags in
    subst P (append_assoc rows (asking_in asks f k) (asking_at asks f k) ∙ ap (λ j. rows ++ asking_in asks f j) (sym (add-one k)))
    has

pub next-flow : (d : FlowsData) (asks : ℕ → Bool) (n : ℕ) (flags : List Bool) →
    AreFlags d (asking_to asks d n ++ asking_in asks (flow_of d n) (length (flow_of d n).items)) flags →
    AreFlags d (asking_to asks d (n + 1)) flags
next-flow d asks n flags has =
    let P : ℕ → Type 0 = λ m. AreFlags d (asking_to asks d m) flags in subst P (sym (add-one n)) has
