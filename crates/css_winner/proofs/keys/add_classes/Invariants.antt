use Rattle.std.proofs.Common.{◌≡◌, ◌<◌, ℕ, List, ◌∷◌, map, Some}
use Rattle.std.specs.Prelude.{Contains, slice_get}
use Rattle.css_winner.specs.declared.filing.Place.{Place}
use Rattle.css_winner.specs.Filing.{IsFiled}
use Rattle.css_winner.proofs.keys.add_classes.Given as goal

abbrev pub invariant-loop-word : goal.invariant-loop-word
invariant-loop-word l = record {
  kept : (p : Place) → Contains l.initial.found.items p → Contains l.found.items p;
  added : (k : ℕ) (word : List ℕ) (p : Place) → k < l.word-index → slice_get (map (λ x. x.now) l.word-items) k ≡ Some word
      → IsFiled l.filing (46 ∷ word) p → Contains l.found.items p;
}
