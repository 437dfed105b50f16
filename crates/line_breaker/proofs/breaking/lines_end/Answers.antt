use Rattle.std.proofs.Common.{◌≡◌, ℕ, ◌+◌, ◌-◌, true, false, get_or, drop, arith, sym, ap, ◌∙◌, length-drop}
use Rattle.std.proofs.lemmas.List.{get_or-drop}
use Rattle.inline_text.specs.declared.content.Piece.TheVariants.{Char}
use Rattle.line_breaker.specs.Lines.{is_chance}
use Rattle.line_breaker.proofs.breaking.lines_end.Goals as goal

pub returns-else-is_chance-clause-last : goal.returns-else-is_chance-clause-last
returns-else-is_chance-clause-last c = λ from lt all.
    let pieces = c.args.pieces.now in
    let k = c.loop-at.at - 1 - from in
    let at : from + k ≡ c.loop-at.at - 1 = omega arith in
    let nowhere = Char 0 0 in
    let chance : is_chance (get_or (drop from pieces) k nowhere) ≡ true =
    all k nowhere (omega (arith, length-drop from pieces, c.loop-at.invariant.within)) in
    let same : get_or (drop from pieces) k nowhere ≡ get_or pieces (c.loop-at.at - 1) nowhere = get_or-drop from pieces k nowhere
    ∙ ap (λ (n : ℕ). get_or pieces n nowhere) at in
    let other : is_chance (get_or pieces (c.loop-at.at - 1) nowhere) ≡ false = sym c.is_chance.ensures ∙ c.if-is_chance.false in
    let e : true ≡ false = sym chance ∙ ap is_chance same ∙ other in
    absurd cc
