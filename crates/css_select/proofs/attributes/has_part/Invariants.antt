use Rattle.std.proofs.Common.{ℕ, ◌<◌, drop}
use Rattle.css_select.specs.Attributes.{BeginsWith}
use Rattle.css_select.proofs.attributes.has_part.Given as goal

abbrev pub invariant-loop-at : goal.invariant-loop-at
invariant-loop-at l = (k : ℕ) → k < l.at → BeginsWith (drop k l.text) l.part → ⊥
