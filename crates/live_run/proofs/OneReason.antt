-- A session is refused for one reason at most, and one that is refused prints nothing.
use Rattle.std.proofs.Common.{◌≡◌, inl, inr, ℕ, List, [], ◌∷◌, Option, None, Some, sym, ◌∙◌}
use Rattle.std.proofs.Common.{arith}
use Rattle.mc_base.specs.declared.refusal.Input.TheVariants.{Document, Sheet, Metrics, Script}
use Rattle.mc_base.specs.declared.refusal.Refusal.{Refusal}
use Rattle.mc_run.specs.Inputs.{NamedInput, Contents, AreShort, IsTooLong}
use Rattle.mc_words.specs.Words.{Session}
use Rattle.script_printer.specs.Laws.{OneScriptAnswer}
use Rattle.live_run.specs.Inputs.{reads}
use Rattle.live_run.specs.Outcome.{HasResult, IsRefused, Gives, Refuses, RefusesTold, Accepts}
use Rattle.live_run.proofs.Agree.{held_told, result_along, refused_along}

-- ---- too long an input

long_or_short : (contents : Contents) (inputs : List NamedInput) (refusal : Refusal) → IsTooLong contents inputs refusal
    → AreShort contents inputs → ⊥
long_or_short contents [] refusal long short = long
long_or_short contents (i ∷ inputs) refusal (inl here) short =
    let over = here.0 in let within = short.0 in omega (arith, over, within)
long_or_short contents (i ∷ inputs) refusal (inr later) short = long_or_short contents inputs refusal later.1 short.1

one_too_long : (contents : Contents) (inputs : List NamedInput) (a b : Refusal) → IsTooLong contents inputs a
    → IsTooLong contents inputs b → a ≡ b
one_too_long contents [] a b h k = absurd h
one_too_long contents (i ∷ inputs) a b (inl h) (inl k) = h.1 ∙ sym k.1
one_too_long contents (i ∷ inputs) a b (inl h) (inr k) =
    let over = h.0 in let within = k.0 in absurd (omega (arith, over, within))
one_too_long contents (i ∷ inputs) a b (inr h) (inl k) =
    let within = h.0 in let over = k.0 in absurd (omega (arith, over, within))
one_too_long contents (i ∷ inputs) a b (inr h) (inr k) = one_too_long contents inputs a b h.1 k.1

-- ---- a session

one_reason : OneScriptAnswer → (s : Session) (contents : Contents) (a b : Refusal) → IsRefused s contents a
    → IsRefused s contents b → a ≡ b
one_reason law s contents a b (inl h) (inl k) = one_too_long contents (reads s) a b h k
one_reason law s contents a b (inl h) (inr k) = absurd (long_or_short contents (reads s) a h k.0)
one_reason law s contents a b (inr h) (inl k) = absurd (long_or_short contents (reads s) b k h.0)
one_reason law s contents a b (inr h) (inr k) =
    law.reason (contents Document) (contents Sheet) (contents Metrics) (contents Script) s.page.width s.page.height a b h.1 k.1

result_or_reason : OneScriptAnswer → (s : Session) (contents : Contents) (text : List ℕ) (refusal : Refusal)
    → HasResult s contents text → IsRefused s contents refusal → ⊥
result_or_reason law s contents text refusal h (inl k) = long_or_short contents (reads s) refusal k h.0
result_or_reason law s contents text refusal h (inr k) =
    law.either (contents Document) (contents Sheet) (contents Metrics) (contents Script) s.page.width s.page.height text refusal
    h.1 k.1

-- the reason for which a session stops is the one that it is refused for
pub reason_is : OneScriptAnswer → (session : Option Session) (held : List ℕ → Option (List ℕ)) (a b : Refusal)
    → Refuses session held a → RefusesTold session held b → a ≡ b
reason_is law None held a b h k = absurd h
reason_is law (Some s) held a b (c, is, h) (e, told, k) =
    one_reason law s e a b (refused_along s c e a (held_told held c e (reads s) is told) h) k

-- a session that is refused prints nothing
pub no_result : OneScriptAnswer → (session : Option Session) (held : List ℕ → Option (List ℕ)) (text : List ℕ)
    (refusal : Refusal) → Gives session held text → RefusesTold session held refusal → ⊥
no_result law None held text refusal h k = h
no_result law (Some s) held text refusal (c, is, h) (e, told, k) =
    result_or_reason law s e text refusal (result_along s c e text (held_told held c e (reads s) is told) h) k

-- a session that is accepted isn't refused
pub not_refused : OneScriptAnswer → (session : Option Session) (held : List ℕ → Option (List ℕ)) (refusal : Refusal)
    → Accepts session held → Refuses session held refusal → ⊥
not_refused law None held refusal h k = h
not_refused law (Some s) held refusal (c, told, h) (e, is, k) =
    result_or_reason law s c h.0 refusal h.1 (refused_along s e c refusal (held_told held e c (reads s) is told) k)
