use Rattle.std.proofs.Common.{◌≡◌, ◌<◌, ◌++◌, ◌∷◌, [], drop, length, map}
use Rattle.std.specs.Prelude.{All}
use Rattle.cite_laws.specs.Starts.{rows_of_lines}
use Rattle.flow_list.specs.Certificate.{Use}
use Rattle.cert_laws.specs.Made.{as_cites}
use Rattle.cert_maker.proofs.cite.cite_lines.Given as goal

abbrev pub invariant-loop-line : goal.invariant-loop-line
invariant-loop-line l = record {
  cites : l.cites ++ map (as_cites l.book) (rows_of_lines l.flows l.starts.items (drop l.line-index l.lines))
      ≡ l.initial.cites ++ map (as_cites l.book) (rows_of_lines l.flows ((l.row, l.from) ∷ []) l.lines);
  known : All (λ (u : Use). u.0 < length l.flows.rows) l.starts.items;
}
