-- Where there is room in a well formed document for an edit, the edited tree is well formed.
use Rattle.html_grammar.specs.declared.dom.Dom.{Dom}
use Rattle.html_subset.specs.WellFormed.{IsWellFormed}
use Rattle.edit_script.specs.declared.script.Edit.{Edit}
use Rattle.dom_edits.specs.Sizes.{HasRoom}
use Rattle.mc_session.specs.Edits.{StaysFormed}

abbrev pub RoomIsEnough : Type 0
RoomIsEnough = (edit : Edit) (dom : Dom) → IsWellFormed dom → HasRoom edit dom → StaysFormed edit dom
