use Rattle.std.proofs.Common.{◌≡◌, ℕ, ◌<◌, List, None, length, subst}
use Rattle.std.specs.Prelude.{IfOk}
use Rattle.all_writer.proofs.Joined.{answer-is, layout-answered}
use Rattle.all_writer.proofs.whole.write_all.Goals as goal

pub lines_of_layout-requires : goal.lines_of_layout-requires
lines_of_layout-requires c =
    let flags = c.requires.0 in
    (flags, layout-answered c.args.flows.now c.args.pool.now flags c.args.all.now c.requires.1)

pub returns : goal.returns
returns c = record {
  text = λ flags is. rw (answer-is c.args.flows.now c.args.pool.now flags c.args.all.now _ is
      (c.in_ok-lines.ensures flags (layout-answered c.args.flows.now c.args.pool.now flags c.args.all.now is)))
      at c.write_answer.ensures.text;
  short = c.write_answer.ensures.short;
  long = λ flags is.
      subst (λ (text : List ℕ). IfOk c.write_answer.result (λ found. found ≡ None → c.args.most < length text))
      (answer-is c.args.flows.now c.args.pool.now flags c.args.all.now _ is
      (c.in_ok-lines.ensures flags (layout-answered c.args.flows.now c.args.pool.now flags c.args.all.now is)))
      c.write_answer.ensures.long;
}
