use Rattle.std.proofs.Common.{◌≡◌, ◌==◌, cond, fold, map, take}
use Rattle.flow_list.specs.Certificate.{StackRow}
use Rattle.flow_list.specs.RowHeights.{fill_limit}
use Rattle.tree_lowering.specs.Lower.{laid_row}
use Rattle.tree_lowering.proofs.cut.made_height.Given as goal

abbrev pub invariant-loop-laid : goal.invariant-loop-laid
invariant-loop-laid l = l.found
    ≡ fold (λ found (s : StackRow). cond (s.row == l.row) (fill_limit s.available) found) l.height
    (map laid_row (take l.laid-index l.rows))
