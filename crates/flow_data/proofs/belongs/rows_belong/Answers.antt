use Rattle.flow_data.proofs.belongs.rows_belong.Goals as goal

pub returns : goal.returns
returns c = rw (c.len.ensures, c.deref.ensures.value, c.in_ok-numbers.ensures) at c.each_stands_once.ensures
