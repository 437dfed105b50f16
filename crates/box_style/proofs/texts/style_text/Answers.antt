use Rattle.std.proofs.Common.{ap, sym, subst, ◌∙◌}
use Rattle.line_breaker.specs.Lines.{IsStyle}
use Rattle.box_style.specs.Texts.{short_text}
use Rattle.box_style.proofs.ShortLemmas.{text_can_break}
use Rattle.box_style.proofs.texts.style_text.Goals as goal

pub returns-clause-known : goal.returns-clause-known
returns-clause-known c =
    let same = sym (c.text_of.ensures ∙ ap (short_text c.face_of-face.result) c.box_style.ensures) in
    subst (IsStyle c.args.fonts.now) same
    (text_can_break c.args.fonts.now c.face_of-face.result c.args.style.now.style c.args.style.now.refused
    c.face_of-face.ensures.known)
