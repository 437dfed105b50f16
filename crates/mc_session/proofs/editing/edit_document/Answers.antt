use Rattle.mc_session.proofs.Kept.{still_read}
use Rattle.mc_session.proofs.editing.edit_document.Goals as goal

pub returns-in-Ok-clause-formed : goal.returns-in-Ok-clause-formed
returns-in-Ok-clause-formed c =
    let d = c.in-Ok.ensures.done c.requires.formed.tree c.requires.formed.nodes in
    c.requires.stays c.requires.formed.tree d.after c.apply_edit.new.dom c.requires.formed.nodes d.done d.nodes_of

pub returns-in-Ok-clause-read : goal.returns-in-Ok-clause-read
returns-in-Ok-clause-read c =
    let d = c.in-Ok.ensures.done c.requires.formed.tree c.requires.formed.nodes in
    still_read c.args.edit.now c.requires.formed.tree d.after c.args.dom.now.nodes c.apply_edit.new.dom.nodes
    c.requires.formed.nodes d.done d.nodes_of c.requires.read

pub returns-in-Err-clause-formed : goal.returns-in-Err-clause-formed
returns-in-Err-clause-formed c = rw c.in-Err.ensures.same c.requires.formed

pub returns-in-Err-clause-read : goal.returns-in-Err-clause-read
returns-in-Err-clause-read c = rw c.in-Err.ensures.same c.requires.read
