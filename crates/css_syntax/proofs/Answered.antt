-- What is answered for a text, from the function on lists.
use Rattle.std.proofs.Common.{◌≡◌, ℕ, List, Ok, Err, ◌⊎◌, inl, inr, sym, ◌∙◌}
use Rattle.std.specs.Prelude.{IfOk, IfErr}
use Rattle.mc_base.specs.declared.refusal.Refusal.TheVariants as refusals
use Rattle.css_data.specs.declared.rule.RawDeclaration.{RawDeclaration}
use Rattle.css_tokens.specs.declared.lexeme.Fault.{Fault}
use Rattle.css_syntax.specs.Answers.{IsUnlessMemory}
use Rattle.css_syntax.specs.Sheets.{grammar_refusal, declarations_in}
use Rattle.css_syntax.specs.Styling.{IsStyle, IsStyleFault, IsStyleRefusal}
use Rattle.css_syntax.proofs.StyleTexts.{Read, style_found, style_read, style_refused, style_told, one_style}

pub found : (r : Read) (bytes : List ℕ) → IsUnlessMemory r (declarations_in bytes) → IfOk r (λ all. IsStyle bytes all)
found (Ok all) bytes (inl e) = absurd cc
found (Ok all) bytes (inr e) = style_found bytes all (sym e)
found (Err refusal) bytes h = tt

pub only : (r : Read) (bytes : List ℕ) → IsUnlessMemory r (declarations_in bytes) → (all : List RawDeclaration)
    → IsStyle bytes all → IsUnlessMemory r (Ok all)
only r bytes (inl e) all h = inl e
only r bytes (inr e) all h = inr (e ∙ style_read bytes all h)

pub one : (r : Read) (bytes : List ℕ) → IsUnlessMemory r (declarations_in bytes)
    → IfOk r (λ all. (other : List RawDeclaration) → IsStyle bytes other → other ≡ all)
one (Ok all) bytes (inl e) = absurd cc
one (Ok all) bytes (inr e) = λ other h. one_style bytes other all h (style_found bytes all (sym e))
one (Err refusal) bytes h = tt

pub refused : (r : Read) (bytes : List ℕ) → IsUnlessMemory r (declarations_in bytes)
    → IfErr r (λ e. (e ≡ refusals.NoMemory) ⊎ IsStyleRefusal bytes e)
refused (Ok all) bytes h = tt
refused (Err refusal) bytes (inl e) = inl cc
refused (Err refusal) bytes (inr e) = inr (style_refused bytes refusal (sym e))

pub told : (r : Read) (bytes : List ℕ) → IsUnlessMemory r (declarations_in bytes) → (f : Fault) → IsStyleFault bytes f
    → IsUnlessMemory r (Err (grammar_refusal f))
told r bytes (inl e) f h = inl e
told r bytes (inr e) f h = inr (e ∙ style_told bytes f h)
