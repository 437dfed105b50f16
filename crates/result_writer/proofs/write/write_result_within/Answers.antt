-- The first line, the tree and the certificate are the result, which is no shorter than its first line.
use Rattle.std.proofs.Common.{rules, ◌≡◌, ◌<◌, length, codes, None, IfOk, IfSome, List, ℕ, subst}
use Rattle.result_writer.proofs.Texts.{whole, longer}
use Rattle.result_writer.proofs.write.write_result_within.Goals as goal

pub returns-in-None-clause-long : goal.returns-in-None-clause-long
returns-in-None-clause-long c = λ _. longer c.args.flows.now c.args.most (search rules)

pub returns-in-Some-clause-text : goal.returns-in-Some-clause-text
returns-in-Some-clause-text c =
    let first : c.in-Some.first ≡ codes "mcol 2\n" = search rules in
    subst (λ (all : List ℕ). IfOk c.parts_after.result (λ found. IfSome found (λ text. text ≡ all)))
    (whole c.args.flows.now c.in-Some.first first) c.parts_after.ensures.text

pub returns-in-Some-clause-long : goal.returns-in-Some-clause-long
returns-in-Some-clause-long c =
    let first : c.in-Some.first ≡ codes "mcol 2\n" = search rules in
    subst (λ (all : List ℕ). IfOk c.parts_after.result (λ found. found ≡ None → c.args.most < length all))
    (whole c.args.flows.now c.in-Some.first first) c.parts_after.ensures.long
