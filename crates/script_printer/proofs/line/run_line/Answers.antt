-- What an edit or a print does is what the line does.
use Rattle.std.proofs.Common.{refl}
use Rattle.script_printer.specs.Shown.{Shows, Denies}
use Rattle.script_printer.specs.Parts.{setting_in}
use Rattle.script_printer.proofs.Lines.{after_edit, after_print, edit_stops, print_stops, on_ok}
use Rattle.script_printer.proofs.line.run_line.Goals as goal

pub returns-in-Change-clause-done : goal.returns-in-Change-clause-done
returns-in-Change-clause-done c = λ state stands.
    on_ok c.change.result
    (after_edit (Shows (setting_in c.args.session.now)) _ c.args.line.now.step state c.change.new.session c.args.printed.now
    c.args.printed.now c.in-Change.is stands.printed_is refl)
    (c.change.ensures.done state.tree stands.dom)

pub returns-in-Change-clause-refused : goal.returns-in-Change-clause-refused
returns-in-Change-clause-refused c = λ state stands.
    edit_stops (Shows (setting_in c.args.session.now)) (Denies (setting_in c.args.session.now)) _ c.args.line.now.step
    c.args.line.now.at state c.change.result c.in-Change.is (c.change.ensures.refused state.tree stands.dom)

pub returns-in-Print-clause-done : goal.returns-in-Print-clause-done
returns-in-Print-clause-done c = λ state stands.
    on_ok c.print.result
    (after_print (Shows (setting_in c.args.session.now)) c.args.line.now.step state c.args.session.now c.print.new.session
    c.args.printed.now c.print.new.printed c.in-Print.is stands.dom c.print.ensures.dom stands.printed_is)
    (c.print.ensures.done state.tree stands.dom)

pub returns-in-Print-clause-refused : goal.returns-in-Print-clause-refused
returns-in-Print-clause-refused c = λ state stands.
    print_stops (Shows (setting_in c.args.session.now)) (Denies (setting_in c.args.session.now)) c.args.line.now.step
    c.args.line.now.at state c.args.printed.now c.print.result c.in-Print.is stands.printed_is
    (c.print.ensures.refused state.tree stands.dom)
