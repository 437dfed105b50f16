-- The document that was read has room for the script's edits.
use Rattle.doc_flows.specs.Parts.{read_as}
use Rattle.script_printer.proofs.Readings.{dom_is, script_refused}
use Rattle.script_printer.proofs.script.print_script.Goals as goal

pub print_reading-requires-clause-room : goal.print_reading-requires-clause-room
print_reading-requires-clause-room c =
    c.documents_have_room.ensures c.args.document.now c.in-Ok.reading.dom _
    (dom_is c.args.document.now c.args.sheet.now c.args.metrics.now (read_as c.in-Ok.reading) c.in-Ok.ensures.read)
    c.requires.document c.requires.script

pub returns-in-Ok-clause-refused : goal.returns-in-Ok-clause-refused
returns-in-Ok-clause-refused c =
    script_refused c.args.document.now c.args.sheet.now c.args.metrics.now c.args.script.now c.args.width c.args.height
    (read_as c.in-Ok.reading) c.print_reading.result c.in-Ok.ensures.read c.print_reading.ensures.refused
