use Rattle.std.proofs.Common.{◌≡◌, ◌++◌, drop}
use Rattle.std.specs.List.{flat_map}
use Rattle.cert_laws.specs.Made.{range_cites}
use Rattle.cert_maker.proofs.cite.cite_ranges.Given as goal

abbrev pub invariant-loop-range : goal.invariant-loop-range
invariant-loop-range l = l.cites ++ flat_map (range_cites l.flows l.book (l.row, l.from)) (drop l.range-index l.ranges)
    ≡ l.initial.cites ++ flat_map (range_cites l.flows l.book (l.row, l.from)) l.ranges
