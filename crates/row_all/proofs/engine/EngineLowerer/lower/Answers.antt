use Rattle.std.proofs.Common.{◌∙◌, ◌∷◌, ◌++◌, [], ℕ, List, ap, map, refl, subst, sym}
use Rattle.std.proofs.lemmas.List.{map-append}
use Rattle.frag_pool.proofs.Growth.{grows-same-trial}
use Rattle.frag_pool.specs.Standing.{StandsFor}
use Rattle.piece_finder.specs.Lowered.{IsLeastPiece}
use Rattle.piece_finder.specs.Telling.{piece_tree}
use Rattle.tree_lowering.specs.Met.{piece_met}
use Rattle.row_all.specs.Answered.{IsTrueLine}
use Rattle.row_all.specs.Parts.{met_of}
use Rattle.row_all.specs.declared.answer.PieceLine.{PieceLine}
use Rattle.row_all.specs.declared.engine.Part.TheVariants.{Piece}
use Rattle.row_all.proofs.Standing.{told-more, told-stay}
use Rattle.row_all.proofs.engine.EngineLowerer.lower.Goals as goal

pub piece-requires-clause-nests : goal.piece-requires-clause-nests
piece-requires-clause-nests g c =
    rw c.requires.engine.0 (c.flow_counts-counts.ensures.sound.nest_limit c.args.row c.requires.row)

pub returns-clause-told : goal.returns-clause-told
returns-clause-told g c =
    ap (map met_of) c.in_ok-push.ensures.ok ∙ map-append met_of c.args.self.now.parts (_ ∷ [])
    ∙ ap (λ (q : List ℕ). map met_of c.args.self.now.parts ++ piece_met c.args.row q c.args.height ∷ []) c.copy.ensures

pub returns-clause-engine : goal.returns-clause-engine
returns-clause-engine g c =
    let d = c.args.flows.now in
    let q = c.piece.new.pool in
    let out = c.in_ok-out.out in
    let line : PieceLine = record { row = c.args.row; from = c.copy.result; height = c.args.height; out = out } in
    let is : IsTrueLine d q line = record {
      least = subst (λ (t : List ℕ). IsLeastPiece d c.args.row t c.args.height out) (sym c.copy.ensures)
          c.in_ok-out.ensures.piece;
      frag = subst (λ (t : List ℕ). StandsFor q out.frag (piece_tree d c.args.row t out.height)) (sym c.copy.ensures)
          c.in_ok-out.ensures.frag;
    } in (
      rw c.in_ok-out.ensures.depth c.requires.engine.0,
      c.in_ok-out.ensures.engine,
      told-more d c.args.pool.now q c.in_ok-out.ensures.grown c.args.self.now.parts c.push.new.self (Piece line)
          c.in_ok-push.ensures.ok is c.requires.engine.2,
    )

pub returns-in_err-out-clause-engine : goal.returns-in_err-out-clause-engine
returns-in_err-out-clause-engine g c = (
  rw c.in_err-out.ensures.depth c.requires.engine.0,
  c.in_err-out.ensures.engine,
  told-stay c.args.flows.now c.args.pool.now c.piece.new.pool
      (grows-same-trial c.args.pool.now c.piece.new.pool c.in_err-out.ensures.refused) c.args.self.now.parts
      c.args.self.now.parts refl c.requires.engine.2,
)

pub returns-in_err-out-clause-grown : goal.returns-in_err-out-clause-grown
returns-in_err-out-clause-grown g c = grows-same-trial c.args.pool.now c.piece.new.pool c.in_err-out.ensures.refused

pub returns-in_err-push-clause-engine : goal.returns-in_err-push-clause-engine
returns-in_err-push-clause-engine g c = (
  rw c.in_ok-out.ensures.depth c.requires.engine.0,
  c.in_ok-out.ensures.engine,
  told-stay c.args.flows.now c.args.pool.now c.piece.new.pool c.in_ok-out.ensures.grown c.args.self.now.parts c.push.new.self
      c.in_err-push.ensures.err c.requires.engine.2,
)
