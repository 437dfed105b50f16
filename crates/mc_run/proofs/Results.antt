-- What is shown of flows is shown of what says them.
use Rattle.std.proofs.Common.{◌≡◌, ◌⊎◌, inl, inr, ℕ, ◌<◌, ◌≤◌, List, length, Result, Ok, Err, IfOk, IfErr, sym, subst, arith}
use Rattle.flow_list.specs.Data.{FlowsData}
use Rattle.mc_base.specs.declared.refusal.Refusal.{Refusal}
use Rattle.mc_base.specs.declared.refusal.Refusal.TheVariants.{NoMemory}
use Rattle.page_views.specs.Shown.{text_limit, IsView, HasLongView}

pub said_result : (view : FlowsData → List ℕ) (Says : FlowsData → Type 0) (flows : FlowsData) (text : List ℕ) → Says flows
    → IsView view (λ d. d ≡ flows) text → IsView view Says text
said_result view Says flows text says result = (result.0, subst Says (sym result.1) says, result.2, result.3)

pub said_long : (view : FlowsData → List ℕ) (Says : FlowsData → Type 0) (flows : FlowsData) (refusal : Refusal) → Says flows
    → HasLongView view (λ d. d ≡ flows) refusal → HasLongView view Says refusal
said_long view Says flows refusal says long = ((long.0.0, subst Says (sym long.0.1) says, long.0.2), long.1)

pub said_ok : (view : FlowsData → List ℕ) (Says : FlowsData → Type 0) (flows : FlowsData) (r : Result (List ℕ) Refusal)
    → Says flows
    → IfOk r (IsView view (λ d. d ≡ flows)) → IfOk r (IsView view Says)
said_ok view Says flows (Ok text) says is = said_result view Says flows text says is
said_ok view Says flows (Err e) says is = tt

pub said_err : (view : FlowsData → List ℕ) (Says : FlowsData → Type 0) (flows : FlowsData) (r : Result (List ℕ) Refusal)
    → Says flows
    → IfErr r (λ e. (e ≡ NoMemory) ⊎ HasLongView view (λ d. d ≡ flows) e)
    → IfErr r (λ e. (e ≡ NoMemory) ⊎ HasLongView view Says e)
said_err view Says flows (Ok text) says is = tt
said_err view Says flows (Err e) says (inl none) = inl none
said_err view Says flows (Err e) says (inr long) = inr (said_long view Says flows e says long)

-- what says one and the same flows has no result where it is too long
pub short_or_long : (view : FlowsData → List ℕ) (Says : FlowsData → Type 0) (text : List ℕ) (refusal : Refusal)
    → ((c d : FlowsData) → Says c → Says d → c ≡ d) → IsView view Says text → HasLongView view Says refusal → ⊥
short_or_long view Says text refusal one (d, says, is, short) (long, limit_is) =
    let same = one d long.0 says long.1 in
    let over : text_limit < length (view d) = subst (λ e. text_limit < length (view e)) (sym same) long.2 in
    let within : length (view d) ≤ text_limit = subst (λ t. length t ≤ text_limit) is short in
    omega (arith, over, within)
