use Rattle.std.proofs.Common.{[], ◌∙◌, ap, arith}
use Rattle.std.specs.List.{slice_get}
use Rattle.std.proofs.lemmas.Grind.{common_steps}
use Rattle.inline_text.proofs.PlaceLemmas.{opportunities_behind_after, place_at}
use Rattle.inline_text.proofs.places.opportunities.Goals as goal

pub returns-clause-list : goal.returns-clause-list
returns-clause-list c = grind (arith, common_steps, opportunities_behind_after c.args.runs.now.styles [] c.args.runs.now.pieces)

pub returns-clause-places : goal.returns-clause-places
returns-clause-places c k h = ap (λ found. slice_get found k) (returns-clause-list c) ∙ place_at c.args.runs.now k h
