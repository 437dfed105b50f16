use Rattle.std.proofs.Common.{◌≡◌, ℕ, ◌+◌, List, [], ◌∷◌, ◌++◌, length, ap, ◌∙◌, sym, arith, length-append}
use Rattle.result_laws.specs.Reading.{read_tree}
use Rattle.result_reader.specs.Read.{cuts_from}
use Rattle.result_reader.proofs.Cuts.{tree-on, tree-found, tree-none}
use Rattle.result_reader.proofs.read.tree.Goals as goal

pub returns-then-is_line-clause-tree : goal.returns-then-is_line-clause-tree
returns-then-is_line-clause-tree c = λ cites.
    let line = c.cut_at-line.result in
    tree-found cites c.args.text.now line.text.now line.ended c.loop-at.lines c.loop-at.at line.next _ c.cut_at-line.ensures.here
    (sym c.is_line.ensures ∙ c.if-is_line.true) (c.loop-at.invariant.read cites)

pub loop-at-preserved : goal.loop-at-preserved
loop-at-preserved c =
    let line = c.cut_at-line.result in
    let copy : c.extend.new.self ≡ line.text.now =
    c.in_ok-extend.ensures.ok ∙ ap (λ (t : List ℕ). t ++ line.text.now) c.new-copy.ensures in
    let grown : c.push.new.self ≡ c.loop-at.lines ++ line.text.now ∷ [] =
    c.in_ok-push.ensures.ok ∙ ap (λ (t : List ℕ). c.loop-at.lines ++ t ∷ []) copy in
    let long : length c.push.new.self ≡ length c.loop-at.lines + 1 =
    ap (λ (ts : List (List ℕ)). length ts) grown ∙ length-append c.loop-at.lines (line.text.now ∷ []) in
    record {
      read = λ cites. ap (λ (ts : List (List ℕ)). read_tree cites (length c.args.text.now) ts
          (cuts_from c.args.text.now line.next)) grown
          ∙ tree-on cites c.args.text.now line.text.now line.ended c.loop-at.lines c.loop-at.at line.next _
          c.cut_at-line.ensures.here (sym c.is_line.ensures ∙ c.if-is_line.false) (c.loop-at.invariant.read cites);
      bound = c.cut_at-line.ensures.bound;
      few = omega arith;
    }

pub returns-clause-tree : goal.returns-clause-tree
returns-clause-tree c = rw c.fault_at.ensures (λ cites. (
  tree-none cites c.args.text.now c.loop-at.lines c.loop-at.at _ c.loop-at-test.false (c.loop-at.invariant.read cites),
  omega arith,
))
