use Rattle.std.proofs.Common.{ap, ◌∙◌, Option}
use Rattle.mc_base.specs.declared.refusal.Refusal.{Refusal}
use Rattle.box_data.specs.BoxTree.{or_else}
use Rattle.box_data.specs.Limits.{long, wide, item_heights}
use Rattle.doc_limits.specs.Tallies.{many}
use Rattle.doc_limits.proofs.Tallied.{many_tallied}
use Rattle.doc_limits.proofs.late.first_late_limit.Goals as goal

pub returns : goal.returns
returns c content same cut =
    let d = c.args.parts.now in
    c.first_of-2.ensures
    ∙ ap (λ (o : Option Refusal). or_else o c.first_of.result) c.high.ensures
    ∙ ap (λ (o : Option Refusal). or_else (long (item_heights d)) o) c.first_of.ensures
    ∙ ap (λ (o : Option Refusal). or_else (long (item_heights d)) (or_else o c.many-late.result)) c.wide.ensures
    ∙ ap (λ (o : Option Refusal). or_else (long (item_heights d)) (or_else (wide c.args.places.now) o))
    (c.many-late.ensures ∙ ap (λ s. many s d) c.in_ok-nests.ensures ∙ many_tallied c.args.marks.now content d same cut)
