use Rattle.dom_edits.proofs.Classes.{class_put, class_added}
use Rattle.dom_edits.proofs.changing.put_class.Goals as goal

pub returns-in-Some-clause-ok : goal.returns-in-Some-clause-ok
returns-in-Some-clause-ok c =
    let first = rw c.deref.ensures.value at c.in-Some.ensures.first in
    rw c.index_mut.ensures.value (class_put c.args.at c.args.value c.args.attributes.now.items c.in-Some.place _ first)

pub returns-in_ok-push-in-None-clause-ok : goal.returns-in_ok-push-in-None-clause-ok
returns-in_ok-push-in-None-clause-ok c =
    let first = rw c.deref.ensures.value at c.in-None.ensures.first in
    rw (c.in_ok-push-in-None.ensures.items, c.of-name.ensures, c.in_ok-from_slice-in-None.ensures.items)
    (class_added c.args.at c.args.value c.args.attributes.now.items first)
