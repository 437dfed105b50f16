use Rattle.std.proofs.Common.{◌≡◌, drop}
use Rattle.html_grammar.specs.Lexing.{begins_text}
use Rattle.html_subset.proofs.characters.begins_text.Given as goal

abbrev pub invariant-loop-code : goal.invariant-loop-code
invariant-loop-code l = begins_text (drop l.code-index l.wanted) l.ahead ≡ begins_text l.wanted l.cursor
