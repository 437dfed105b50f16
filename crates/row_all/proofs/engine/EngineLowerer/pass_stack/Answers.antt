use Rattle.std.proofs.Common.{◌∙◌, ◌∷◌, [], ap, map}
use Rattle.std.proofs.lemmas.List.{map-append}
use Rattle.frag_pool.proofs.Growth.{grows-refl}
use Rattle.row_all.specs.Parts.{met_of}
use Rattle.row_all.specs.declared.engine.Part.TheVariants.{Stack}
use Rattle.row_all.proofs.Standing.{told-more, told-stay}
use Rattle.row_all.proofs.engine.EngineLowerer.pass_stack.Goals as goal

pub returns-clause-told : goal.returns-clause-told
returns-clause-told g c =
    ap (map met_of) c.in_ok-push.ensures.ok ∙ map-append met_of c.args.self.now.parts (Stack c.args.stack ∷ [])

pub returns-clause-engine : goal.returns-clause-engine
returns-clause-engine g c = λ b p is. (
  is.0,
  is.1,
  told-more c.args.flows.now p p (grows-refl p) c.args.self.now.parts c.push.new.self (Stack c.args.stack)
      c.in_ok-push.ensures.ok c.requires is.2,
)

pub returns-in_err-push-clause-engine : goal.returns-in_err-push-clause-engine
returns-in_err-push-clause-engine g c = λ b p is. (
  is.0,
  is.1,
  told-stay c.args.flows.now p p (grows-refl p) c.args.self.now.parts c.push.new.self c.in_err-push.ensures.err is.2,
)
