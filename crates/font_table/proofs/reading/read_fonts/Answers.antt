use Rattle.std.proofs.Common.{◌∙◌, ap, sym, subst, Ok, Result, List, ℕ}
use Rattle.std.proofs.lemmas.Result.{err_from_is_err_and}
use Rattle.mc_base.specs.declared.refusal.Refusal.{Refusal}
use Rattle.mc_base.specs.declared.refusal.Refusal.TheVariants as refusals
use Rattle.mc_base.specs.declared.read_error.Fault.{Fault}
use Rattle.font_table.specs.declared.fonts.Face.{Face}
use Rattle.font_table.specs.Reading.{Fails, IsRefusalOf, all_of}
use Rattle.font_table.proofs.Whole.{first_fault, is_found, is_read, is_sound}
use Rattle.font_table.proofs.reading.read_fonts.Goals as goal

refusal_of : (text : List ℕ) (e : Refusal) → Fails e (all_of text) → IsRefusalOf text e
refusal_of text refusals.NoMemory h = tt
refusal_of text (refusals.Grammar input offset rule) h = (h.0, h.1, first_fault text _ h.2)
refusal_of text (refusals.Construct input offset name) h = absurd h
refusal_of text (refusals.Limit name reached limit) h = absurd h

pub returns-in_err-faces-clause-only : goal.returns-in_err-faces-clause-only
returns-in_err-faces-clause-only c = λ faces table.
    let p = err_from_is_err_and c.from_residual.result c.from_residual.ensures.1 in
    rw (p.1, p.2) (subst (λ (r : Result (List Face) Fault). Fails c.in_err-faces.field-0.0 r)
    (is_read c.args.text.now faces table) c.in_err-faces.ensures)

pub returns-in_err-faces-clause-first : goal.returns-in_err-faces-clause-first
returns-in_err-faces-clause-first c =
    let p = err_from_is_err_and c.from_residual.result c.from_residual.ensures.1 in
    rw (p.1, p.2) (refusal_of c.args.text.now c.in_err-faces.field-0.0 c.in_err-faces.ensures)

pub of-requires : goal.of-requires
of-requires c = is_sound c.args.text.now c.in_ok-faces.faces c.requires
    (is_found c.args.text.now c.in_ok-faces.faces c.in_ok-faces.ensures)

pub returns-clause-found : goal.returns-clause-found
returns-clause-found c = rw c.of.ensures (is_found c.args.text.now c.in_ok-faces.faces c.in_ok-faces.ensures)

pub returns-clause-only : goal.returns-clause-only
returns-clause-only c = λ faces table. sym (is_read c.args.text.now faces table) ∙ c.in_ok-faces.ensures
    ∙ ap (λ (xs : List Face). Ok xs) (sym c.of.ensures)
