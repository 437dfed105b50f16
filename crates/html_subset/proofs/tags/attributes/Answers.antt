use Rattle.std.proofs.Common.{◌≡◌, Some, None, Ok, ◌∙◌, refl}
use Rattle.std.proofs.lemmas.Result.{err_from_is_err_and}
use Rattle.html_grammar.specs.Lexing.{attributes_from, no_attributes, piece_at}
use Rattle.html_subset.proofs.AttributeLoop.{attributes_go, attributes_fail, attributes_end, attributes_out}
use Rattle.html_subset.proofs.tags.attributes.Goals as goal

pub returns-in_err-next : goal.returns-in_err-next
returns-in_err-next c =
    let p = err_from_is_err_and c.from_residual.result c.from_residual.ensures.1 in
    rw (p.1, p.2) (attributes_fail c.in_err-next.field-0.0 c.args.size c.loop.counter c.args.tag c.loop.read c.loop.rest
    (attributes_from c.args.size c.args.size c.args.tag no_attributes c.args.rest) c.loop-test.true c.in_err-next.ensures
    c.loop.invariant)

pub returns-in-None : goal.returns-in-None
returns-in-None c =
    let e : piece_at c.args.size c.args.tag c.loop.rest ≡ Ok (None, c.in_ok-next.after) = c.in_ok-next.ensures
    ∙ rw c.in-None.is refl in
    attributes_end c.args.size c.loop.counter c.args.tag c.loop.read c.loop.rest c.in_ok-next.after
    (attributes_from c.args.size c.args.size c.args.tag no_attributes c.args.rest) c.loop-test.true e c.loop.invariant

pub loop-preserved : goal.loop-preserved
loop-preserved c =
    let e : piece_at c.args.size c.args.tag c.loop.rest ≡ Ok (Some c.in-Some.next, c.in_ok-next.after) = c.in_ok-next.ensures
    ∙ rw c.in-Some.is refl in
    attributes_go c.args.size c.loop.counter c.args.tag c.loop.read c.in_ok-read-in-Some.read c.loop.rest c.in_ok-next.after
    c.in-Some.next (attributes_from c.args.size c.args.size c.args.tag no_attributes c.args.rest) c.loop-test.true e
    c.in_ok-read-in-Some.ensures c.loop.invariant

pub returns : goal.returns
returns c = attributes_out c.args.size c.loop.counter c.args.tag c.loop.read c.loop.rest
    (attributes_from c.args.size c.args.size c.args.tag no_attributes c.args.rest) c.loop-test.false c.loop.invariant
