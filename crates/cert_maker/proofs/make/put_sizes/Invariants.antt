-- the entries so far, and those to come; and what they cite
use Rattle.std.proofs.Common.{◌≡◌, ◌-◌, ◌++◌, drop, map, take}
use Rattle.std.specs.List.{flat_map}
use Rattle.height_cert.specs.declared.cert.CertEntry.TheVariants.{Size}
use Rattle.cert_laws.specs.Made.{entry_cites}
use Rattle.cert_maker.proofs.make.put_sizes.Given as goal

abbrev pub invariant-loop-i : goal.invariant-loop-i
invariant-loop-i l = record {
  entries : l.entries ++ map Size (take (l.to - l.i) (drop l.i l.book))
      ≡ l.initial.entries ++ map Size (take (l.to - l.from) (drop l.from l.book));
  cites : l.cites ++ flat_map (entry_cites l.flows l.book) (map Size (take (l.to - l.i) (drop l.i l.book)))
      ≡ l.initial.cites ++ flat_map (entry_cites l.flows l.book) (map Size (take (l.to - l.from) (drop l.from l.book)));
}
