use Rattle.std.proofs.Common.{◌≡◌, ◌<◌, ℕ, List, Some}
use Rattle.std.specs.Prelude.{Contains, slice_get}
use Rattle.html_grammar.specs.declared.dom.Attribute.{Attribute}
use Rattle.css_winner.specs.declared.filing.Place.{Place}
use Rattle.css_winner.specs.Filing.{IsFiled}
use Rattle.css_winner.specs.Keys.{IsAttributeKey}
use Rattle.css_winner.proofs.keys.filed_for.Given as goal

abbrev pub invariant-loop-attribute : goal.invariant-loop-attribute
invariant-loop-attribute l = record {
  kept : (p : Place) → Contains l.initial.found.items p → Contains l.found.items p;
  added : (k : ℕ) (a : Attribute) (q : List ℕ) (p : Place) → k < l.attribute-index → slice_get l.attributes k ≡ Some a
      → IsAttributeKey q a → IsFiled l.filing q p → Contains l.found.items p;
}
