-- Where there are no boxes none is open.
use Rattle.std.proofs.Common.{◌≡◌, ℕ, ◌<◌, List, [], ◌∷◌, length, refl, arith, All}
use Rattle.flow_list.specs.Data.{Flow, FlowsData}
use Rattle.flow_data.specs.Soundness.{IsSoundFlow}
use Rattle.flow_list.specs.ClonedEdges.{open_across}
use Rattle.flow_list.proofs.OpenAcross.{across-known}

none-known : (n : ℕ) (boxes : List ℕ) → n ≡ 0 → All (λ b. b < n) boxes → boxes ≡ []
none-known n [] none all = refl
none-known n (b ∷ boxes) none all = absurd (let lt : b < n = all 0 b (omega arith) in omega arith)

pub across-none : (d : FlowsData) (f : Flow) → IsSoundFlow d f → length d.boxes ≡ 0 → (k : ℕ) → open_across f k ≡ []
across-none d f sound none k = none-known (length d.boxes) (open_across f k) none (across-known d f sound k)
