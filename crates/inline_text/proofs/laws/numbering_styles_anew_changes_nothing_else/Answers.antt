use Rattle.inline_text.proofs.Renumbered.{collapses_again}
use Rattle.inline_text.proofs.laws.numbering_styles_anew_changes_nothing_else.Goals as goal

pub returns : goal.returns
returns c = collapses_again
