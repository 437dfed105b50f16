use Rattle.std.proofs.Common.{◌≡◌, ◌++◌, ◌-◌, length}
use Rattle.css_syntax.specs.Blocks.{declarations_from}
use Rattle.css_syntax.proofs.blocks.declarations.Given as goal

abbrev pub invariant-loop : goal.invariant-loop
invariant-loop l = l.all ++ declarations_from (length l.block - l.counter) l.rest ≡ declarations_from (length l.block) l.block
