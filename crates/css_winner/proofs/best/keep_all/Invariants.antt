use Rattle.std.proofs.Common.{◌≡◌, ◌++◌, List, length, take}
use Rattle.css_winner.specs.Applying.{Claim, claims_from}
use Rattle.css_winner.specs.Best.{IsBest}
use Rattle.css_winner.proofs.best.keep_all.Given as goal

abbrev pub invariant-loop-place : goal.invariant-loop-place
invariant-loop-place l = record {
  size : length l.best.items ≡ 60;
  kept : (seen : List Claim) → IsBest seen l.initial.best.items
      → IsBest (seen ++ claims_from l.source 0 (take l.place l.settings)) l.best.items;
}
