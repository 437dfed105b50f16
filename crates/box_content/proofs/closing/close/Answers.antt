use Rattle.std.proofs.Common.{◌≡◌, ◌++◌, List, Option, Some, None, sym, ap, ◌∙◌, take, drop, append_assoc, arith}
use Rattle.std.specs.Prelude.{slice_get}
use Rattle.std.proofs.lemmas.Grind.{common_steps}
use Rattle.std.proofs.lemmas.Option.{gets}
use Rattle.box_data.specs.declared.mark.Mark.{Mark}
use Rattle.box_data.specs.declared.placed.Placed.{Placed}
use Rattle.box_content.specs.Walking.{end_in, end_of, inside_of}
use Rattle.box_content.proofs.closing.close.Goals as goal

pub returns-in_ok-add_end : goal.returns-in_ok-add_end
returns-in_ok-add_end c =
    let found : slice_get c.args.places.now c.args.last.number ≡ Some c.in-Some.place.now =
    grind (arith, common_steps, gets, c.in-Some.ensures.lookup) in
    let front = take c.args.last.from c.args.marks.now.items in
    let inside = inside_of c.args.places.now c.in-Some.place.now (drop c.args.last.from c.args.marks.now.items) in
    c.in_ok-add_end.ensures
    ∙ ap (λ (ms : List Mark). ms ++ end_of c.in-Some.place.now) c.in_ok-fill.ensures
    ∙ append_assoc front inside (end_of c.in-Some.place.now)
    ∙ ap (λ (o : Option Placed). end_in c.args.places.now o c.args.last.from c.args.marks.now.items) (sym found)

pub returns-in_default : goal.returns-in_default
returns-in_default c =
    let none : slice_get c.args.places.now c.args.last.number ≡ None =
    grind (arith, common_steps, gets, c.in_default.ensures.lookup) in
    ap (λ (o : Option Placed). end_in c.args.places.now o c.args.last.from c.args.marks.now.items) (sym none)
