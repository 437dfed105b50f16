use Rattle.flow_text.proofs.LimitLaws.{file_long, file_wide, file_deep, file_items_are, file_crowded}
use Rattle.flow_text.proofs.laws.limits_are_those_of_the_rows.Goals as goal

pub returns-clause-length : goal.returns-clause-length
returns-clause-length c = file_long

pub returns-clause-columns : goal.returns-clause-columns
returns-clause-columns c = file_wide

pub returns-clause-nest : goal.returns-clause-nest
returns-clause-nest c = file_deep

pub returns-clause-items : goal.returns-clause-items
returns-clause-items c = file_items_are

pub returns-clause-inner_items : goal.returns-clause-inner_items
returns-clause-inner_items c = file_crowded
