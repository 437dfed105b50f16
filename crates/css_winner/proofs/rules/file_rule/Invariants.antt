use Rattle.std.proofs.Common.{◌≡◌, ◌<◌, ℕ, List, Some}
use Rattle.std.specs.Prelude.{slice_get}
use Rattle.css_data.specs.declared.selector.Selector.{Selector}
use Rattle.css_winner.specs.declared.filing.Place.{Place}
use Rattle.css_winner.specs.Filing.{IsFiled, IsSound}
use Rattle.css_winner.specs.Keys.{key_of}
use Rattle.css_winner.specs.Rules.{place}
use Rattle.css_winner.proofs.rules.file_rule.Given as goal

abbrev pub invariant-loop-number : goal.invariant-loop-number
invariant-loop-number l = record {
  sound : IsSound l.filing;
  kept : (q : List ℕ) (p : Place) → IsFiled l.initial.filing q p → IsFiled l.filing q p;
  filed : (k : ℕ) (s : Selector) → k < l.number → slice_get l.selectors k ≡ Some s
      → IsFiled l.filing (key_of s) (place l.sheet l.rule k);
}
