use Rattle.std.proofs.Common.{◌≡◌, ◌+◌, ◌++◌, length, ap, ◌∙◌, length-append}
use Rattle.std.specs.Prelude.{encode_utf8}
use Rattle.std.proofs.lemmas.Str.{chars_past_char, length-encode}
use Rattle.text_cursor.proofs.cursor.split_first.Goals as goal

pub returns-clause-value : goal.returns-clause-value
returns-clause-value c =
    let e : c.args.text.now ≡ encode_utf8 c.in_ok-first.first ++ c.as_str.result.now = cc (c.in_ok-first.ensures.steps.0) in
    chars_past_char c.args.text.now c.as_str.result.now c.in_ok-first.first c.utf8.text e

pub returns-clause-len : goal.returns-clause-len
returns-clause-len c =
    let e : c.args.text.now ≡ encode_utf8 c.in_ok-first.first ++ c.as_str.result.now = cc (c.in_ok-first.ensures.steps.0) in
    ap length e ∙ length-append (encode_utf8 c.in_ok-first.first) c.as_str.result.now
    ∙ ap (λ n. n + length c.as_str.result.now) (length-encode c.in_ok-first.first)
