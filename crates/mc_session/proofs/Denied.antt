-- Why a document isn't printed.
use Rattle.std.proofs.Common.{◌≡◌, ◌⊎◌, inl, inr, ℕ, Result, Ok, Err}
use Rattle.std.specs.Prelude.{IfErr}
use Rattle.mc_base.specs.declared.refusal.Refusal.{Refusal}
use Rattle.mc_base.specs.declared.refusal.Refusal.TheVariants as refusals
use Rattle.flow_data.specs.declared.data.FlowsData.{FlowsData}
use Rattle.result_writer.specs.Printed.{IsLongResult}
use Rattle.mc_session.specs.Printed.{IsDenied}
use Rattle.mc_session.specs.Session.{Asked, Says, IsRefused}

pub denied : {T : Type 0} (asked : Asked) (d : FlowsData) (most : ℕ) (r : Result T Refusal) → Says asked d
    → IfErr r (λ e. (e ≡ refusals.NoMemory) ⊎ IsLongResult d most e)
    → IfErr r (λ e. (e ≡ refusals.NoMemory) ⊎ IsDenied asked most e)
denied asked d most (Ok text) says is = tt
denied asked d most (Err e) says (inl memory) = inl memory
denied asked d most (Err e) says (inr long) = inr (inr (d, says, long))

pub early : (asked : Asked) (most : ℕ) (e : Refusal) → (e ≡ refusals.NoMemory) ⊎ IsRefused asked e
    → (e ≡ refusals.NoMemory) ⊎ IsDenied asked most e
early asked most e (inl memory) = inl memory
early asked most e (inr refused) = inr (inl refused)
