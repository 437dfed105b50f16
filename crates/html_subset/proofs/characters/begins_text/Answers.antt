use Rattle.std.proofs.Common.{◌≡◌, None, sym, ◌∙◌}
use Rattle.html_grammar.specs.Places.{first}
use Rattle.html_subset.proofs.TextLemmas.{text_out}
use Rattle.html_subset.proofs.characters.begins_text.Goals as goal

pub returns-in_default : goal.returns-in_default
returns-in_default c =
    let none : first c.loop-code.ahead ≡ None = sym c.peek.ensures ∙ c.in_default.is in
    sym (text_out c.args.wanted.now c.loop-code.code-index c.loop-code.ahead c.loop-code-test.true none) ∙ c.loop-code.invariant
