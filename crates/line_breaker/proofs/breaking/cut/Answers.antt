use Rattle.std.proofs.Common.{◌≡◌, ℕ, ◌+◌, ◌-◌, ◌<◌, ◌^◌, All, List, [], ◌∷◌, ◌++◌, drop, sym, ap, subst, ◌∙◌, arith}
use Rattle.std.proofs.Common.{append_assoc}
use Rattle.std.proofs.lemmas.List.{append-nil, drop-drop}
use Rattle.std.proofs.lemmas.List.Elements.{All-drop, All-push}
use Rattle.inline_text.specs.declared.content.Piece.{Piece}
use Rattle.line_breaker.specs.declared.line.Line.{Line}
use Rattle.line_breaker.specs.Lines.{AreLines}
use Rattle.line_breaker.proofs.AllLines.{AreChances, IsChance}
use Rattle.line_breaker.proofs.breaking.cut.Goals as goal

pub loop-from-preserved : goal.loop-from-preserved
loop-from-preserved c = record {
  within = c.next_line-line.ensures.within;
  widths =
      let all : All (λ (line : Line). line.w < 2 ^ 60) (c.loop-from.lines ++ c.next_line-line.result ∷ []) =
      All-push (λ (line : Line). line.w < 2 ^ 60) c.loop-from.lines c.next_line-line.result c.loop-from.invariant.widths
      c.next_line-line.ensures.width in
      subst (All (λ (line : Line). line.w < 2 ^ 60)) (sym c.in_ok-push.ensures.ok) all;
  so_far = λ more are.
      let runs = c.args.runs.now in
      let line = c.next_line-line.result in
      let some : AreChances (drop c.loop-from.from runs.pieces) → ⊥ =
      λ none. c.lines_end-last.ensures.last c.loop-from.from c.loop-from-test.true
      (subst (λ (ps : List Piece). AreChances (drop c.loop-from.from ps)) (sym c.as_slice.ensures) none) in
      let grown : c.push.new.self ++ more ≡ c.loop-from.lines ++ (line ∷ more) =
      ap (λ (ls : List Line). ls ++ more) c.in_ok-push.ensures.ok ∙ append_assoc c.loop-from.lines (line ∷ []) more in
      subst (λ (ls : List Line). AreLines runs c.args.fonts.now c.args.width c.args.strut 0 ls) (sym grown)
      (c.loop-from.invariant.so_far (line ∷ more) (some, c.next_line-line.ensures.line, are));
}

pub returns-clause-lines : goal.returns-clause-lines
returns-clause-lines c =
    let runs = c.args.runs.now in
    let last = c.lines_end-last.result in
    let from = c.loop-from.from in
    let at : last + (from - last) ≡ from = let le = c.loop-from-test.false in omega (arith, le) in
    let rest : AreChances (drop last runs.pieces) =
    subst (λ (ps : List Piece). AreChances (drop last ps)) c.as_slice.ensures c.lines_end-last.ensures.rest in
    let none : AreChances (drop from runs.pieces) =
    subst (λ (n : ℕ). AreChances (drop n runs.pieces)) at
    (subst AreChances (drop-drop (from - last) last runs.pieces)
    (All-drop IsChance (from - last) (drop last runs.pieces) rest)) in
    subst (λ (ls : List Line). AreLines runs c.args.fonts.now c.args.width c.args.strut 0 ls) (append-nil c.loop-from.lines)
    (c.loop-from.invariant.so_far [] none)
