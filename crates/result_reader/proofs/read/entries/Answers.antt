use Rattle.std.proofs.Common.{◌≡◌, ◌+◌, false, List, length, ap, ◌∙◌, sym, arith, rules, Some}
use Rattle.result_laws.specs.Reading as reading
use Rattle.result_reader.specs.Built.{Steps, taken}
use Rattle.result_reader.specs.Lines.{said}
use Rattle.result_reader.specs.declared.line.CertLine.{CertLine}
use Rattle.result_reader.proofs.Cuts.{entries-begin, entries-on, entries-bad, entries-misplaced, entries-closed, entries-none}
use Rattle.result_reader.proofs.Cuts.{last-entries}
use Rattle.result_reader.proofs.read.entries.Goals as goal

pub loop-at-init : goal.loop-at-init
loop-at-init c =
    let none : length (taken c.new-building.result) ≡ 0 =
    ap (λ (ls : List reading.CertLine). length ls) c.new-building.ensures.lines in
    let tree = c.len.ensures in
    record {
      read = entries-begin c.args.cites c.args.text.now c.args.tree.now c.new-building.result c.args.at
          c.new-building.ensures.lines c.new-building.ensures.place;
      built = c.new-building.ensures.built c.args.cites (3 + length c.args.tree.now);
      number = omega arith;
      bound = c.requires.bound;
      few = omega arith;
    }

pub returns-in-Ok-None-clause-entries : goal.returns-in-Ok-None-clause-entries
returns-in-Ok-None-clause-entries c =
    let here = c.cut_at-here.result in
    let line = rw c.in-Ok-None.field-0-is at c.in-Ok-None.ensures.line in
    rw c.fault_at.ensures (
      entries-bad c.args.cites c.args.text.now here.text.now here.ended c.args.tree.now c.loop-at.building c.loop-at.at
          here.next _ c.cut_at-here.ensures.here (sym line) c.loop-at.invariant.read,
      omega arith,
    )

pub returns-in-Close-clause-entries : goal.returns-in-Close-clause-entries
returns-in-Close-clause-entries c =
    let here = c.cut_at-here.result in
    let line = rw c.in-Ok-Some.field-0-is at c.in-Ok-Some.ensures.line in
    let close = sym line ∙ ap (λ (l : CertLine). Some (said l)) c.in-Close.is in
    last-entries c.args.text.now c.args.cites c.args.at c.args.tree.now c.loop-at.building here.next c.last.result c.last.ensures
    (entries-closed c.args.cites c.args.text.now here.text.now here.ended c.args.tree.now c.loop-at.building c.loop-at.at
    here.next _ c.cut_at-here.ensures.here close c.loop-at.invariant.read)

pub returns-in-Ok-None-with_line : goal.returns-in-Ok-None-with_line
returns-in-Ok-None-with_line c =
    let here = c.cut_at-here.result in
    let line = rw c.in-Ok-Some.field-0-is at c.in-Ok-Some.ensures.line in
    let off = rw c.in-Ok-None-with_line.field-0-is at c.in-Ok-None-with_line.ensures in
    let place = off (3 + length c.args.tree.now) c.loop-at.invariant.built c.loop-at.invariant.number in
    record {
      entries = rw c.fault_at-in-Ok-None-with_line.ensures (
        entries-misplaced c.args.cites c.args.text.now here.text.now here.ended c.args.tree.now c.loop-at.building
            (said c.in-Ok-Some.line) c.loop-at.at here.next _ c.cut_at-here.ensures.here (sym line) place
            c.loop-at.invariant.read,
        omega arith,
      );
      built = tt;
    }

pub loop-at-preserved : goal.loop-at-preserved
loop-at-preserved c =
    let here = c.cut_at-here.result in
    let b = c.loop-at.building in
    let next = c.in-Ok-Some-with_line.next in
    let n = 3 + length c.args.tree.now in
    let line = rw c.in-Ok-Some.field-0-is at c.in-Ok-Some.ensures.line in
    let on = rw c.in-Ok-Some-with_line.field-0-is at c.in-Ok-Some-with_line.ensures in
    let steps : Steps c.args.cites n b (said c.in-Ok-Some.line) next =
    on n c.loop-at.invariant.built c.loop-at.invariant.number in
    let goes : reading.is_close (said c.in-Ok-Some.line) ≡ false = search rules in
    let count : length (taken next) ≡ length (taken b) + 1 = steps.count in
    record {
      read = entries-on c.args.cites c.args.text.now here.text.now here.ended c.args.tree.now b next (said c.in-Ok-Some.line) n
          c.loop-at.at here.next _ c.cut_at-here.ensures.here (sym line) goes steps c.loop-at.invariant.read;
      built = steps.built;
      number = omega arith;
      bound = c.cut_at-here.ensures.bound;
      few = omega arith;
    }

pub returns-clause-entries : goal.returns-clause-entries
returns-clause-entries c = rw c.fault_at-2.ensures (
  entries-none c.args.cites c.args.text.now c.args.tree.now c.loop-at.building c.loop-at.at _ c.loop-at-test.false
      c.loop-at.invariant.read,
  omega arith,
)
