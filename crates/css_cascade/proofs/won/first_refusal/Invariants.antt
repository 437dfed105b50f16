use Rattle.std.proofs.Common.{◌≡◌, drop}
use Rattle.css_cascade.specs.Won.{first_refusal}
use Rattle.css_cascade.proofs.won.first_refusal.Given as goal

abbrev pub invariant-loop-offer : goal.invariant-loop-offer
invariant-loop-offer l = first_refusal (drop l.offer-index l.found) ≡ first_refusal l.found
