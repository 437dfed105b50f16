use Rattle.std.proofs.Common.{◌≡◌, drop}
use Rattle.std.specs.Prelude.{map}
use Rattle.css_tokens.specs.Facts.{is_in}
use Rattle.css_tokens.proofs.facts.is_in.Given as goal

abbrev pub invariant-loop-word : goal.invariant-loop-word
invariant-loop-word l = is_in l.name (map (λ w. w.now) (drop l.word-index l.words)) ≡ is_in l.name (map (λ w. w.now) l.words)
