use Rattle.std.proofs.Common.{◌≡◌, drop}
use Rattle.doc_sheets.specs.Own.{own_from, own_of}
use Rattle.doc_sheets.proofs.OwnLemmas.{before}
use Rattle.doc_sheets.proofs.own.own_sheets.Given as goal

abbrev pub invariant-loop-number : goal.invariant-loop-number
invariant-loop-number l = before l.found (own_from l.text l.number (drop l.number l.nodes)) ≡ own_of l.text l.nodes
