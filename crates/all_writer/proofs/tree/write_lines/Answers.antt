use Rattle.std.proofs.Common.{◌<◌, ◌++◌, length, subst, arith}
use Rattle.flow_list.specs.TreeText.{tree_text}
use Rattle.tree_lines.specs.Lines.{lines_of}
use Rattle.all_writer.proofs.Parts.{line-next, line-passes}
use Rattle.all_writer.proofs.tree.write_lines.Goals as goal

pub returns-then-len-most-clause-long : goal.returns-then-len-most-clause-long
returns-then-len-most-clause-long c = λ none.
    let long : c.args.most < length c.put_line.new.out =
    let l = c.if-len-most.true in
    let e = c.len.ensures in
    omega arith in
    subst (λ lines. c.args.most < length (c.args.front ++ tree_text (lines_of lines))) c.as_slice-line-items.ensures
    (line-passes c.args.front c.loop-line.text c.put_line.new.out c.as_slice-line-items.result.now c.loop-line.line-index
    c.args.most c.line-item.result c.loop-line-test.true c.line-item.is c.in_ok-put_line.ensures
    c.loop-line.invariant long)

pub loop-line-preserved : goal.loop-line-preserved
loop-line-preserved c =
    line-next c.args.front c.loop-line.text c.put_line.new.out c.as_slice-line-items.result.now c.loop-line.line-index
    c.line-item.result c.loop-line-test.true c.line-item.is c.in_ok-put_line.ensures c.loop-line.invariant
