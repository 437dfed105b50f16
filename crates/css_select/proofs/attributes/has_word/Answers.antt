use Rattle.std.proofs.Common.{◌≡◌, false, length, sym, ◌∙◌}
use Rattle.std.proofs.lemmas.Bool.{eqb-false}
use Rattle.css_select.proofs.AttributeLemmas.{word_from, from_word, some_word}
use Rattle.css_select.proofs.attributes.has_word.Goals as goal

pub returns-then-not-is_empty : goal.returns-then-not-is_empty
returns-then-not-is_empty c =
    let some : c.is_empty.result ≡ false = cc in (
      λ t. (
        some_word c.args.word.now (eqb-false (length c.args.word.now) 0 (sym c.is_empty.ensures ∙ some)),
        word_from c.args.text.now c.args.word.now (sym c.stands_between_spaces.ensures ∙ t),
      ),
      λ h. c.stands_between_spaces.ensures ∙ from_word c.args.text.now c.args.word.now h.1,
    )
