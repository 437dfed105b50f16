use Rattle.result_reader.proofs.line.line.Goals as goal

pub returns-clause-sizes : goal.returns-clause-sizes
returns-clause-sizes c = c.other_line.ensures.sizes c.args.cites
