use Rattle.std.proofs.Common.{◌∙◌}
use Rattle.inline_text.proofs.CollapsedRun.{answer_in_range, answer_settled, answer_spaces, answer_others}
use Rattle.inline_text.proofs.Marks.{answer_marks, answer_few}
use Rattle.inline_text.proofs.collapsing.collapse.Goals as goal

pub returns-clause-in_range : goal.returns-clause-in_range
returns-clause-in_range c = answer_in_range c.args.runs.now _ (c.of.ensures ∙ c.in_ok-pieces.ensures)
    (c.of-2.ensures ∙ c.in_ok-styles.ensures.items ∙ c.as_slice.ensures) c.requires

pub returns-clause-settled : goal.returns-clause-settled
returns-clause-settled c = answer_settled c.args.runs.now _ (c.of.ensures ∙ c.in_ok-pieces.ensures)
    (c.of-2.ensures ∙ c.in_ok-styles.ensures.items ∙ c.as_slice.ensures)

pub returns-clause-spaces : goal.returns-clause-spaces
returns-clause-spaces c = answer_spaces c.args.runs.now _ (c.of.ensures ∙ c.in_ok-pieces.ensures)
    (c.of-2.ensures ∙ c.in_ok-styles.ensures.items ∙ c.as_slice.ensures)

pub returns-clause-others : goal.returns-clause-others
returns-clause-others c = answer_others c.args.runs.now (record { pieces = c.of.result; styles = c.of-2.result })
    (c.of.ensures ∙ c.in_ok-pieces.ensures)

pub returns-clause-marks : goal.returns-clause-marks
returns-clause-marks c = answer_marks c.args.runs.now (record { pieces = c.of.result; styles = c.of-2.result })
    (c.of.ensures ∙ c.in_ok-pieces.ensures)

pub returns-clause-few : goal.returns-clause-few
returns-clause-few c = answer_few c.args.runs.now (record { pieces = c.of.result; styles = c.of-2.result })
    (c.of.ensures ∙ c.in_ok-pieces.ensures)
