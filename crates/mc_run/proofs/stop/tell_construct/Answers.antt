-- The pieces of the line of a construct.
use Rattle.std.proofs.Common.{◌∙◌, subst}
use Rattle.mc_run.specs.Told.{Tells}
use Rattle.mc_run.proofs.Pieces.{construct_line}
use Rattle.mc_run.proofs.stop.tell_construct.Goals as goal

pub returns : goal.returns
returns g c =
    subst (Tells _ _ _ _)
    (construct_line _ _ _ _ _ _ c.input_text.ensures (c.as_bytes.ensures.value ∙ c.format.ensures.text) c.construct_text.ensures)
    c.say.ensures
