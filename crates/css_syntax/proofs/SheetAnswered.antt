-- What is answered for the text of a sheet, from the function on lists.
use Rattle.std.proofs.Common.{◌≡◌, ℕ, List, Ok, Err, ◌⊎◌, inl, inr, sym, ◌∙◌}
use Rattle.std.specs.Prelude.{IfOk, IfErr}
use Rattle.mc_base.specs.declared.refusal.Refusal.{Refusal}
use Rattle.mc_base.specs.declared.refusal.Refusal.TheVariants as refusals
use Rattle.css_data.specs.declared.rule.Sheet.{Sheet}
use Rattle.css_syntax.specs.Answers.{IsUnlessMemory}
use Rattle.css_syntax.specs.Sheets.{sheet_of}
use Rattle.css_syntax.specs.Saying.{IsSheet, IsRefusal}
use Rattle.css_syntax.proofs.SheetTexts.{SheetRead, text_sound}
use Rattle.css_syntax.proofs.SheetSaid.{sheet_said, sheet_is_read, one_sheet, sheet_refused, reason_refuses}

pub found : (r : SheetRead) (bytes : List ℕ) → IsUnlessMemory r (sheet_of bytes) → IfOk r (λ sheet. IsSheet bytes sheet)
found (Ok sheet) bytes (inl e) = absurd cc
found (Ok sheet) bytes (inr e) = sheet_said bytes sheet (text_sound bytes sheet (sym e)) (sym e)
found (Err refusal) bytes h = tt

pub only : (r : SheetRead) (bytes : List ℕ) → IsUnlessMemory r (sheet_of bytes) → (sheet : Sheet) → IsSheet bytes sheet
    → IsUnlessMemory r (Ok sheet)
only r bytes (inl e) sheet h = inl e
only r bytes (inr e) sheet h = inr (e ∙ sheet_is_read bytes sheet h)

pub one : (r : SheetRead) (bytes : List ℕ) → IsUnlessMemory r (sheet_of bytes)
    → IfOk r (λ sheet. (other : Sheet) → IsSheet bytes other → other ≡ sheet)
one (Ok sheet) bytes (inl e) = absurd cc
one (Ok sheet) bytes (inr e) =
    λ other h. one_sheet bytes other sheet h (sheet_said bytes sheet (text_sound bytes sheet (sym e)) (sym e))
one (Err refusal) bytes h = tt

pub refused : (r : SheetRead) (bytes : List ℕ) → IsUnlessMemory r (sheet_of bytes)
    → IfErr r (λ e. (e ≡ refusals.NoMemory) ⊎ IsRefusal bytes e)
refused (Ok sheet) bytes h = tt
refused (Err refusal) bytes (inl e) = inl cc
refused (Err refusal) bytes (inr e) = inr (sheet_refused bytes refusal (sym e))

pub told : (r : SheetRead) (bytes : List ℕ) → IsUnlessMemory r (sheet_of bytes) → (e : Refusal) → IsRefusal bytes e
    → IsUnlessMemory r (Err e)
told r bytes (inl m) e h = inl m
told r bytes (inr m) e h = inr (m ∙ reason_refuses bytes e h)
