use Rattle.height_cert.specs.Certs.{head_of}
use Rattle.result_laws.specs.Reading.{entry}
use Rattle.result_reader.proofs.Building.{mark-step}
use Rattle.result_reader.proofs.build.Building.with_line.Goals as goal

pub returns-in_ok-with_entry-in-Entry : goal.returns-in_ok-with_entry-in-Entry
returns-in_ok-with_entry-in-Entry c = λ n built at.
    let next = c.in_ok-with_entry-in-Entry.ensures in
    rw c.in-Entry.is (mark-step c.args.second n c.args.at c.args.self c.in_ok-with_entry-in-Entry.field-0
    (entry (head_of c.in-Entry.entry)) tt built at next.takes next.cites next.numbers)
