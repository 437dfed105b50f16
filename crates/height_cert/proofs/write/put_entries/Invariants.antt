-- what stands there, and the entries to come
use Rattle.std.proofs.Common.{◌≡◌, ◌++◌, drop}
use Rattle.std.specs.List.{flat_map}
use Rattle.height_cert.specs.Certs.{given_entries}
use Rattle.result_laws.specs.Given.{entry_texts, ended_lines}
use Rattle.height_cert.proofs.write.put_entries.Given as goal

abbrev pub invariant-loop-entry : goal.invariant-loop-entry
invariant-loop-entry l = l.out ++ ended_lines (flat_map entry_texts (given_entries 0 l.rest (drop l.entry-index l.entries)))
    ≡ l.initial.out ++ ended_lines (flat_map entry_texts (given_entries 0 l.initial.rest l.entries))
