-- what stands there, and the ranges to come; and the lists to come
use Rattle.std.proofs.Common.{◌≡◌, ◌++◌, drop}
use Rattle.std.specs.List.{flat_map}
use Rattle.height_cert.specs.Certs.{given_ranges, column_count}
use Rattle.result_laws.specs.Given.{range_texts, ended_lines}
use Rattle.height_cert.proofs.write.put_ranges.Given as goal

abbrev pub invariant-loop-range : goal.invariant-loop-range
invariant-loop-range l = record {
  text : l.out ++ ended_lines (flat_map range_texts (given_ranges 0 l.rest (drop l.range-index l.ranges)))
      ≡ l.initial.out ++ ended_lines (flat_map range_texts (given_ranges 0 l.initial.rest l.ranges));
  rest : drop (column_count (drop l.range-index l.ranges)) l.rest ≡ drop (column_count l.ranges) l.initial.rest;
}
