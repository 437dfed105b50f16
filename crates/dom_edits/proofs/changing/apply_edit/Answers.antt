use Rattle.std.proofs.Common.{◌-◌, ◌^◌, sym, arith, inr}
use Rattle.dom_edits.proofs.Answered.{refused, done}
use Rattle.dom_edits.proofs.Formed.{grows_by, formed_again}
use Rattle.dom_edits.proofs.Shifted.{small_parents}
use Rattle.dom_edits.proofs.changing.apply_edit.Goals as goal

pub returns-in-Err-clause-done : goal.returns-in-Err-clause-done
returns-in-Err-clause-done c = λ tree all.
    inr (refused c.args.edit.now tree c.args.dom.now.nodes c.in-Err.fault all
    (sym (rw c.as_slice.ensures at c.in-Err.ensures.value)))

pub change_list-requires-clause-small : goal.change_list-requires-clause-small
change_list-requires-clause-small c =
    small_parents c.args.dom.now.nodes c.requires.formed.tree (2 ^ 32 - 1) c.requires.formed.nodes (omega
    (arith, c.requires.formed.count))

pub returns-in-Ok-change_list-clause-done : goal.returns-in-Ok-change_list-clause-done
returns-in-Ok-change_list-clause-done c = λ tree all.
    done c.args.edit.now tree c.args.dom.now.nodes c.change_list.new.list c.in-Ok.place all
    (sym (rw c.as_slice.ensures at c.in-Ok.ensures.value)) c.in-Ok-change_list.ensures.ok

pub returns-in-Ok-change_list-clause-grows : goal.returns-in-Ok-change_list-clause-grows
returns-in-Ok-change_list-clause-grows c =
    let d = done c.args.edit.now c.requires.formed.tree c.args.dom.now.nodes c.change_list.new.list c.in-Ok.place
    c.requires.formed.nodes (sym (rw c.as_slice.ensures at c.in-Ok.ensures.value)) c.in-Ok-change_list.ensures.ok in
    grows_by c.args.edit.now c.requires.formed.tree d.after c.args.dom.now.nodes c.change_list.new.list c.requires.formed.nodes
    d.done d.nodes_of

pub returns-in-Ok-change_list-clause-formed : goal.returns-in-Ok-change_list-clause-formed
returns-in-Ok-change_list-clause-formed c = λ room.
    let d = done c.args.edit.now c.requires.formed.tree c.args.dom.now.nodes c.change_list.new.list c.in-Ok.place
    c.requires.formed.nodes (sym (rw c.as_slice.ensures at c.in-Ok.ensures.value)) c.in-Ok-change_list.ensures.ok in
    formed_again c.args.edit.now c.args.dom.now (record { nodes = c.change_list.new.list; construct = c.args.dom.now.construct })
    c.requires.formed d.after d.done d.nodes_of room
