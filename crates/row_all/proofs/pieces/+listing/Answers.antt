use Rattle.std.proofs.Common.{◌≡◌, ◌∙◌, ◌+◌, ◌-◌, ◌<◌, ◌++◌, ◌∷◌, [], ℕ, suc, List, Some, All, OnOk, ap, sym, subst, arith, map}
use Rattle.std.proofs.Common.{length, refl, slice_get, take}
use Rattle.std.proofs.lemmas.List.{append-nil, take_all, take_more}
use Rattle.std.proofs.lemmas.Option.{slice_get_read}
use Rattle.piece_data.specs.Lowering.{pieces_in_stack}
use Rattle.tree_lowering.specs.Met.{one_met}
use Rattle.row_all.specs.Answered.{piece_of}
use Rattle.row_all.specs.Parts.{IsTruePart, met_of, pieces_of_parts}
use Rattle.row_all.specs.declared.engine.Part.{Part}
use Rattle.row_all.proofs.Listing.{no-pieces, pieces-more, stack-pieces}
use Rattle.row_all.proofs.Results.{on-ok}
use Rattle.row_all.proofs.pieces.+listing.Goals as goal

one-less : (n : ℕ) → 0 < n → suc (n - 1) ≡ n
one-less n lt = omega arith

pub put_pieces-returns-then-nested-eq0-clause-pieces : goal.put_pieces-returns-then-nested-eq0-clause-pieces
put_pieces-returns-then-nested-eq0-clause-pieces t c = λ d flags p are.
    let none = c.if-nested-eq0.true in
    sym (append-nil (map piece_of c.args.out.now))
    ∙ ap (λ xs. map piece_of c.args.out.now ++ xs) (sym (no-pieces d flags c.args.stack))
    ∙ ap (λ (n : ℕ). map piece_of c.args.out.now ++ pieces_in_stack d flags n c.args.stack) (sym none)

pub put_pieces-returns-clause-pieces : goal.put_pieces-returns-clause-pieces
put_pieces-returns-clause-pieces t c = λ d flags p are.
    let own = c.index-parts-stack.result in
    let n = c.args.nested in
    let some = c.if-nested-eq0.false in
    let lt : 0 < n = omega (arith, some) in
    let there : slice_get c.args.parts.now c.args.stack ≡ Some own =
    slice_get_read c.args.parts.now (length c.args.parts.now) c.args.stack own refl c.requires.stack c.index-parts-stack.is in
    let here : pieces_of_parts d flags (n - 1) c.as_slice.result.now ≡ pieces_in_stack d flags n c.args.stack =
    ap (pieces_of_parts d flags (n - 1)) c.as_slice.ensures
    ∙ sym (stack-pieces d flags p (n - 1) c.args.stack own (are.each c.args.stack own there))
    ∙ ap (λ (m : ℕ). pieces_in_stack d flags m c.args.stack) (one-less n lt) in
    on-ok c.put_parts.result
    (map piece_of c.put_parts.new.out ≡ map piece_of c.args.out.now ++ pieces_of_parts d flags (n - 1) c.as_slice.result.now)
    (map piece_of c.put_parts.new.out ≡ map piece_of c.args.out.now ++ pieces_in_stack d flags n c.args.stack)
    (λ e. e ∙ ap (λ xs. map piece_of c.args.out.now ++ xs) here) (c.put_parts.ensures.pieces d flags p are)

pub put_pieces-returns-clause-lines : goal.put_pieces-returns-clause-lines
put_pieces-returns-clause-lines t c = λ d flags p are lines.
    let own = c.index-parts-stack.result in
    let there : slice_get c.args.parts.now c.args.stack ≡ Some own =
    slice_get_read c.args.parts.now (length c.args.parts.now) c.args.stack own refl c.requires.stack c.index-parts-stack.is in
    c.put_parts.ensures.lines d flags p are
    (subst (λ (ps : List Part). All (IsTruePart d p) ps) (sym c.as_slice.ensures) (are.each c.args.stack own there).each) lines

pub put_parts-loop-part-preserved : goal.put_parts-loop-part-preserved
put_parts-loop-part-preserved t c =
    let own = c.args.own.now in
    let i = c.loop-part.part-index in
    let part = c.part-item.result in
    let inv = c.loop-part.invariant in
    let e = c.in_ok-put_part.ensures in
    let more : take (i + 1) own ≡ take i own ++ part ∷ [] =
    take_more own i part c.loop-part-test.true ∙ ap (λ (x : Part). take i own ++ x ∷ []) (sym c.part-item.is) in
    record {
      pieces = λ d flags p are. pieces-more d flags c.args.nested c.args.out.now c.loop-part.out c.put_part.new.out (take i own)
          part (take (i + 1) own) more (inv.pieces d flags p are) (e.pieces d flags p are);
      lines = λ d flags p are known lines. e.lines d flags p are
          (subst (λ (x : Part). IsTruePart d p x) (sym c.part-item.is) (known i part c.loop-part-test.true))
          (inv.lines d flags p are known lines);
    }

pub put_parts-returns-clause-pieces : goal.put_parts-returns-clause-pieces
put_parts-returns-clause-pieces t c = λ d flags p are.
    c.loop-part.invariant.pieces d flags p are
    ∙ ap (λ (ps : List Part). map piece_of c.args.out.now ++ pieces_of_parts d flags c.args.nested ps)
    (take_all c.loop-part.part-index c.args.own.now c.loop-part-test.false)

pub put_part-returns-in-Stack-clause-pieces : goal.put_part-returns-in-Stack-clause-pieces
put_part-returns-in-Stack-clause-pieces t c = λ d flags p are.
    subst (λ (part : Part). OnOk c.put_pieces.result (map piece_of c.put_pieces.new.out
    ≡ map piece_of c.args.out.now ++ one_met (pieces_in_stack d flags c.args.nested) (met_of part)))
    (sym c.in-Stack.is) (c.put_pieces.ensures.pieces d flags p are)

pub put_part-returns-in-Stack-clause-lines : goal.put_part-returns-in-Stack-clause-lines
put_part-returns-in-Stack-clause-lines t c = λ d flags p are known lines. c.put_pieces.ensures.lines d flags p are lines
