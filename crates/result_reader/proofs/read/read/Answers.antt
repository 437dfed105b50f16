use Rattle.std.proofs.Common.{◌+◌, length, refl, sym}
use Rattle.std.proofs.lemmas.Result.{err_from_is_err_and}
use Rattle.result_reader.proofs.Whole.{wrong-fails, first-fails, tree-fails, entries-fail, whole, cites-fit, numbers-are}
use Rattle.result_reader.proofs.read.read.Goals as goal

pub returns-in-Some-clause-read : goal.returns-in-Some-clause-read
returns-in-Some-clause-read c = rw c.fault_at.ensures (wrong-fails c.args.text.now c.in-Some.at (sym c.in-Some.ensures))

pub returns-in-Err-clause-read : goal.returns-in-Err-clause-read
returns-in-Err-clause-read c = first-fails c.args.text.now c.in-Err.fault (sym c.in_default.ensures) c.in-Err.ensures

pub returns-in_err-tree-clause-read : goal.returns-in_err-tree-clause-read
returns-in_err-tree-clause-read c =
    let p = err_from_is_err_and c.from_residual.result c.from_residual.ensures.1 in
    rw (p.1, p.2) (tree-fails c.args.text.now c.in-Ok.found.0 c.in-Ok.found.1 c.in_err-tree.field-0.0 (sym c.in_default.ensures)
    c.in-Ok.ensures c.in_err-tree.ensures.tree)

pub returns-in_err-building-clause-read : goal.returns-in_err-building-clause-read
returns-in_err-building-clause-read c =
    let p = err_from_is_err_and c.from_residual-in_err-building.result c.from_residual-in_err-building.ensures.1 in
    rw (p.1, p.2) (entries-fail c.args.text.now c.in-Ok.found.0 c.in-Ok.found.1 c.in_ok-tree.at c.in_ok-tree.tree
    c.in_err-building.field-0.0 (sym c.in_default.ensures) c.in-Ok.ensures c.in_ok-tree.ensures.tree
    c.in_err-building.ensures.entries)

pub returns-clause-read : goal.returns-clause-read
returns-clause-read c =
    let found = c.in-Ok-finish.found in
    let made = c.in-Ok-finish.ensures in
    whole c.args.text.now c.in-Ok.found.0 c.in-Ok.found.1 c.in_ok-tree.at c.in_ok-tree.tree c.in_ok-building.building
    (record { version = c.version.result; tree = c.in_ok-tree.tree; cert = found.0; lines = found.1 }) (sym c.in_default.ensures)
    c.in-Ok.ensures c.in_ok-tree.ensures.tree c.in_ok-building.ensures.entries c.version.ensures refl made.entries made.cites

pub returns-clause-cites : goal.returns-clause-cites
returns-clause-cites c =
    let made = c.in-Ok-finish.ensures in
    cites-fit c.in-Ok.found.0 c.version.result (3 + length c.in_ok-tree.tree) c.in_ok-building.building c.in-Ok-finish.found.0
    c.version.ensures c.in_ok-building.ensures.built made.entries made.cites

pub returns-clause-numbers : goal.returns-clause-numbers
returns-clause-numbers c =
    let found = c.in-Ok-finish.found in
    let made = c.in-Ok-finish.ensures in
    numbers-are c.in-Ok.found.0 c.in_ok-building.building
    (record { version = c.version.result; tree = c.in_ok-tree.tree; cert = found.0; lines = found.1 }) c.in_ok-tree.tree
    c.in_ok-building.ensures.built refl made.entries made.numbers
