use Rattle.std.proofs.Common.{◌∷◌, [], ◌++◌, ◌∙◌, sym}
use Rattle.flow_text.proofs.Stands.{is_front, no_front, why, one_more}
use Rattle.flow_text.proofs.laws.a_line_that_may_not_follow_is_a_fault.Goals as goal

pub returns : goal.returns
returns c front reading next fault h e = (
  is_front front reading h,
  no_front (front ++ next ∷ []) fault e,
  why front reading next fault h (sym (one_more front reading next h) ∙ e),
)
