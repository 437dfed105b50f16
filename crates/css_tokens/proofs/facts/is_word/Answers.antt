use Rattle.css_tokens.proofs.WordLemmas.{word_test}
use Rattle.css_tokens.proofs.facts.is_word.Goals as goal

pub returns : goal.returns
returns c = word_test _ c.args.name.now c.args.word.now c.eq_ignore_ascii_case.ensures.test
