-- A command is refused for one reason at most, and one that is refused has no result.
use Rattle.std.proofs.Common.{◌≡◌, inl, inr, ℕ, List, [], ◌∷◌, Option, None, Some, sym, ◌∙◌}
use Rattle.std.proofs.Common.{arith}
use Rattle.mc_base.specs.declared.refusal.Input.TheVariants.{Document, Sheet, Metrics, Flow}
use Rattle.mc_base.specs.declared.refusal.Refusal.{Refusal}
use Rattle.mc_run.specs.Inputs.{NamedInput, Contents, reads, AreShort, IsTooLong}
use Rattle.mc_run.specs.Outcome.{Yields, Denies, HasResult, IsRefused, Gives, Refuses, RefusesTold, Accepts}
use Rattle.mc_words.specs.Words.{Command, rows, gen, trial, layout, all, hit, draw, check, rows_check}
use Rattle.result_writer.specs.Printed.{result_text}
use Rattle.page_views.specs.Views.{hit_text, draw_text}
use Rattle.mc_run.proofs.Agree.{held_told, result_along, refused_along}
use Rattle.mc_run.proofs.OneAll.{Laws, one_of_all, all_or_refusal}
use Rattle.mc_run.proofs.OneDocument.{one_of_texts, texts_or_refusal}
use Rattle.mc_run.proofs.OneFlow.{one_of_bytes, result_or_refusal}
use Rattle.mc_run.proofs.OneTrial.{one_of_trial, trial_or_refusal}

-- ---- too long an input

long_or_short : (contents : Contents) (inputs : List NamedInput) (refusal : Refusal) → IsTooLong contents inputs refusal
    → AreShort contents inputs → ⊥
long_or_short contents [] refusal long short = long
long_or_short contents (i ∷ inputs) refusal (inl here) short =
    let over = here.0 in let within = short.0 in omega (arith, over, within)
long_or_short contents (i ∷ inputs) refusal (inr later) short = long_or_short contents inputs refusal later.1 short.1

one_too_long : (contents : Contents) (inputs : List NamedInput) (a b : Refusal) → IsTooLong contents inputs a
    → IsTooLong contents inputs b → a ≡ b
one_too_long contents [] a b h k = absurd h
one_too_long contents (i ∷ inputs) a b (inl h) (inl k) = h.1 ∙ sym k.1
one_too_long contents (i ∷ inputs) a b (inl h) (inr k) =
    let over = h.0 in let within = k.0 in absurd (omega (arith, over, within))
one_too_long contents (i ∷ inputs) a b (inr h) (inl k) =
    let within = h.0 in let over = k.0 in absurd (omega (arith, over, within))
one_too_long contents (i ∷ inputs) a b (inr h) (inr k) = one_too_long contents inputs a b h.1 k.1

-- ---- each command

denied_once : Laws → (command : Command) (contents : Contents) (a b : Refusal) → Denies command contents a
    → Denies command contents b → a ≡ b
denied_once law (rows flow) contents a b h k = one_of_bytes (contents Flow) a b h k
denied_once law (gen start count) contents a b h k = h.1 ∙ sym k.1
denied_once law (trial start count) contents a b h k = one_of_trial law.0 start count a b h k
denied_once law (layout page) contents a b h k =
    one_of_texts law.0 result_text (contents Document) (contents Sheet) (contents Metrics) page.width page.height a b h k
denied_once law (all page) contents a b h k =
    one_of_all law (contents Document) (contents Sheet) (contents Metrics) page.width page.height a b h k
denied_once law (hit page x y) contents a b h k =
    one_of_texts law.0 (hit_text x y) (contents Document) (contents Sheet) (contents Metrics) page.width page.height a b h k
denied_once law (draw page rule) contents a b h k =
    one_of_texts law.0 (draw_text rule) (contents Document) (contents Sheet) (contents Metrics) page.width page.height a b h k
denied_once law (check page printed) contents a b h k = absurd h
denied_once law (rows_check flow printed) contents a b h k = absurd h

yields_or_denies : Laws → (command : Command) (contents : Contents) (text : List ℕ) (refusal : Refusal)
    → Yields command contents text → Denies command contents refusal → ⊥
yields_or_denies law (rows flow) contents text refusal h k = result_or_refusal (contents Flow) text refusal h k
yields_or_denies law (gen start count) contents text refusal h k = let few = h.0 in let many = k.0 in omega (arith, few, many)
yields_or_denies law (trial start count) contents text refusal h k = trial_or_refusal law.0 start count text refusal h k
yields_or_denies law (layout page) contents text refusal h k =
    texts_or_refusal law.0 result_text (contents Document) (contents Sheet) (contents Metrics) page.width page.height text
    refusal h k
yields_or_denies law (all page) contents text refusal h k =
    all_or_refusal law (contents Document) (contents Sheet) (contents Metrics) page.width page.height text refusal h k
yields_or_denies law (hit page x y) contents text refusal h k =
    texts_or_refusal law.0 (hit_text x y) (contents Document) (contents Sheet) (contents Metrics) page.width page.height text
    refusal h k
yields_or_denies law (draw page rule) contents text refusal h k =
    texts_or_refusal law.0 (draw_text rule) (contents Document) (contents Sheet) (contents Metrics) page.width page.height text
    refusal h k
yields_or_denies law (check page printed) contents text refusal h k = h
yields_or_denies law (rows_check flow printed) contents text refusal h k = h

-- ---- all commands

one_reason : Laws → (command : Command) (contents : Contents) (a b : Refusal) → IsRefused command contents a
    → IsRefused command contents b → a ≡ b
one_reason law command contents a b (inl h) (inl k) = one_too_long contents (reads command) a b h k
one_reason law command contents a b (inl h) (inr k) = absurd (long_or_short contents (reads command) a h k.0)
one_reason law command contents a b (inr h) (inl k) = absurd (long_or_short contents (reads command) b k h.0)
one_reason law command contents a b (inr h) (inr k) = denied_once law command contents a b h.1 k.1

result_or_reason : Laws → (command : Command) (contents : Contents) (text : List ℕ) (refusal : Refusal)
    → HasResult command contents text → IsRefused command contents refusal → ⊥
result_or_reason law command contents text refusal h (inl k) = long_or_short contents (reads command) refusal k h.0
result_or_reason law command contents text refusal h (inr k) = yields_or_denies law command contents text refusal h.1 k.1

-- the reason for which a command stops is the one that it is refused for
pub reason_is : Laws → (command : Option Command) (held : List ℕ → Option (List ℕ)) (a b : Refusal)
    → Refuses command held a → RefusesTold command held b → a ≡ b
reason_is law None held a b h k = absurd h
reason_is law (Some command) held a b (c, is, h) (e, told, k) =
    one_reason law command e a b (refused_along command c e a (held_told held c e (reads command) is told) h) k

-- a command that is refused has no result
pub no_result : Laws → (command : Option Command) (held : List ℕ → Option (List ℕ)) (text : List ℕ) (refusal : Refusal)
    → Gives command held text → RefusesTold command held refusal → ⊥
no_result law None held text refusal h k = h
no_result law (Some command) held text refusal (c, is, h) (e, told, k) =
    result_or_reason law command e text refusal (result_along command c e text (held_told held c e (reads command) is told) h) k

-- a command that is accepted isn't refused
pub not_refused : Laws → (command : Option Command) (held : List ℕ → Option (List ℕ)) (refusal : Refusal)
    → Accepts command held → Refuses command held refusal → ⊥
not_refused law None held refusal h k = h
not_refused law (Some command) held refusal (c, told, h) (e, is, k) =
    result_or_reason law command c h.0 refusal h.1
    (refused_along command e c refusal (held_told held e c (reads command) is told) k)
