-- the entries so far, and those to come; what they cite; and that the numbers before the rows still rise
use Rattle.std.proofs.Common.{◌≡◌, ◌++◌, drop, length}
use Rattle.std.specs.List.{flat_map}
use Rattle.cert_laws.specs.Made.{BeforesRise, entries_made, entry_cites}
use Rattle.cert_maker.proofs.make.put_rows.Given as goal

abbrev pub invariant-loop-row : goal.invariant-loop-row
invariant-loop-row l = record {
  entries : l.entries ++ entries_made l.book l.from (drop l.row-index l.rows)
      ≡ l.initial.entries ++ entries_made l.book 0 l.rows;
  cites : l.cites ++ flat_map (entry_cites l.flows l.book) (entries_made l.book l.from (drop l.row-index l.rows))
      ≡ l.initial.cites ++ flat_map (entry_cites l.flows l.book) (entries_made l.book 0 l.rows);
  before : BeforesRise (length l.book) l.from (drop l.row-index l.rows);
}
