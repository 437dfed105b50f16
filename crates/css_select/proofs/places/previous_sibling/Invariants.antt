use Rattle.std.proofs.Common.{◌≤◌, ℕ}
use Rattle.css_select.specs.Places.{IsEarlierSibling}
use Rattle.css_select.proofs.places.previous_sibling.Given as goal

abbrev pub invariant-loop-place : goal.invariant-loop-place
invariant-loop-place l = record {
  within : l.place ≤ l.node;
  none : (k : ℕ) → l.place ≤ k → IsEarlierSibling l.dom k l.node → ⊥;
}

abbrev pub decreases-loop-place : goal.decreases-loop-place
decreases-loop-place l = l.place
