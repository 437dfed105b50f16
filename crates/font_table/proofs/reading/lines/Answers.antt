use Rattle.std.proofs.Common.{◌≡◌, ◌-◌, ◌∙◌, ap, sym, refl, arith, [], cond, eqb, false, Ok}
use Rattle.std.proofs.lemmas.Bool.{ne_eqb}
use Rattle.std.proofs.lemmas.Result.{err_from_is_err_and}
use Rattle.mc_base.specs.Reading.{fault}
use Rattle.font_table.specs.Reading.{nothing_yet, read_from}
use Rattle.font_table.proofs.LineLoop.{line_ends, byte_goes_on, byte_is_bad, text_ends, goes_on, fails_along}
use Rattle.font_table.proofs.reading.lines.Goals as goal
use Rattle.font_table.proofs.reading.lines.Goals.{then-byte-eq10+in_ok-building, else-byte-eq10+else-not-is_plain}

pub returns-in_err-building : goal.returns-in_err-building
returns-in_err-building c =
    let text = c.args.text.now in
    let p = err_from_is_err_and c.from_residual.result c.from_residual.ensures.1 in
    let e = line_ends text c.loop-i.start c.loop-i.i c.loop-i.building c.loop-i.invariant.begun c.loop-i-test.true
    c.if-byte-eq10.true in
    rw (p.1, p.2) (fails_along c.in_err-building.field-0.0 _ _ (read_from 0 [] nothing_yet text) c.in_err-building.ensures
    (sym e ∙ c.loop-i.invariant.so_far))

pub returns-then-not-is_plain : goal.returns-then-not-is_plain
returns-then-not-is_plain c =
    let text = c.args.text.now in
    let e = byte_is_bad text c.loop-i.start c.loop-i.i c.loop-i.building c.loop-i.invariant.begun c.loop-i-test.true
    (ne_eqb _ _ c.if-byte-eq10.false) (sym c.is_plain.ensures ∙ c.if-not-is_plain.true) in
    rw c.fault.ensures (refl, refl, sym c.loop-i.invariant.so_far ∙ e)

pub loop-i-preserved : goal.loop-i-preserved
loop-i-preserved c =
    let text = c.args.text.now in
    elim c.if-byte-eq10.branch [
      | then-byte-eq10+in_ok-building w ↦ rw (w.start-is, w.building-is) (record {
        begun = omega arith;
        so_far = goes_on text c.loop-i.start c.loop-i.i c.loop-i.building w.in_ok-building.building
            (read_from 0 [] nothing_yet text) c.loop-i.invariant.begun c.loop-i-test.true w.if-byte-eq10.true
            w.in_ok-building.ensures c.loop-i.invariant.so_far;
      })
      | else-byte-eq10+else-not-is_plain w ↦ rw (w.start-is, w.building-is) (record {
        begun = omega arith;
        so_far = sym (byte_goes_on text c.loop-i.start c.loop-i.i c.loop-i.building c.loop-i.invariant.begun c.loop-i-test.true
            (ne_eqb _ _ w.if-byte-eq10.false) (sym w.is_plain.ensures ∙ w.if-not-is_plain.false)) ∙ c.loop-i.invariant.so_far;
      })
    ]

pub returns-then-start-text : goal.returns-then-start-text
returns-then-start-text c =
    let text = c.args.text.now in
    let e = text_ends text c.loop-i.start c.loop-i.i c.loop-i.building c.loop-i.invariant.begun c.loop-i-test.false
    (omega arith) in
    let some : eqb (c.loop-i.i - c.loop-i.start) 0 ≡ false = ne_eqb _ _ (λ none. omega (arith, none)) in
    rw c.fault-then-start-text.ensures (
      refl,
      refl,
      sym c.loop-i.invariant.so_far ∙ e
          ∙ ap (λ b. cond b (Ok c.loop-i.building) (fault c.loop-i.start 2)) some,
    )

pub returns : goal.returns
returns c =
    let text = c.args.text.now in
    let e = text_ends text c.loop-i.start c.loop-i.i c.loop-i.building c.loop-i.invariant.begun c.loop-i-test.false
    (omega arith) in
    let none : c.loop-i.i - c.loop-i.start ≡ 0 = omega arith in
    sym c.loop-i.invariant.so_far ∙ e ∙ ap (λ n. cond (eqb n 0) (Ok c.loop-i.building) (fault c.loop-i.start 2)) none
