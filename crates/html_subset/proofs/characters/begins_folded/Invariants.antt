use Rattle.std.proofs.Common.{◌≡◌, drop}
use Rattle.html_grammar.specs.Lexing.{begins_folded}
use Rattle.html_subset.proofs.characters.begins_folded.Given as goal

abbrev pub invariant-loop-code : goal.invariant-loop-code
invariant-loop-code l = begins_folded (drop l.code-index l.wanted) l.ahead ≡ begins_folded l.wanted l.cursor
