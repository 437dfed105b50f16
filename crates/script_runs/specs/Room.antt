-- How much a script adds to a document, and that there is room for it.
use Rattle.std.specs.Prelude.{◌≡◌, ◌≤◌, ◌+◌, ◌^◌, ℕ, List, length, sum_by, IsUtf8, Ok}
use Rattle.std.specs.List.{AllByRecursion}
use Rattle.html_grammar.specs.declared.dom.Dom.{Dom}
use Rattle.html_grammar.specs.Whole.{dom_of}
use Rattle.html_subset.specs.WellFormed.{IsWellFormed, node_bytes}
use Rattle.edit_script.specs.declared.script.Edit.{Edit}
use Rattle.edit_script.specs.declared.script.ScriptLine.{ScriptLine}
use Rattle.edit_script.specs.declared.script.Step.{Step}
use Rattle.edit_script.specs.declared.script.Step.TheVariants as steps
use Rattle.edit_script.specs.Script.{script_of}
use Rattle.dom_edits.specs.Sizes.{rest_of, added_bytes, GrowsBy, HasRoom}

-- how many bytes a step adds at most
abbrev pub step_bytes : Step → ℕ
step_bytes (steps.Change edit) = added_bytes edit
step_bytes steps.Print = 0

abbrev pub line_bytes : ScriptLine → ℕ
line_bytes line = step_bytes line.step

-- what an edit puts into a document is UTF-8
abbrev pub StepIsUtf8 : Step → Type 0
StepIsUtf8 (steps.Change edit) = IsUtf8 (rest_of edit)
StepIsUtf8 steps.Print = Unit {0}

abbrev pub LineIsUtf8 : ScriptLine → Type 0
LineIsUtf8 line = StepIsUtf8 line.step

-- a document is well formed, and there is room for so many bytes more
pub record HasRoomFor (n : ℕ) (dom : Dom) : Type 0 where
  pub formed : IsWellFormed dom
  pub count : length dom.nodes + n ≤ 2 ^ 28
  pub bytes : sum_by node_bytes dom.nodes + n ≤ 2 ^ 28 + 64

-- The lines of a script add no more bytes than it has, and what they put in is UTF-8.
abbrev pub ScriptsAreBounded : Type 0
ScriptsAreBounded = (text : List ℕ) (lines : List ScriptLine) → script_of text ≡ Ok lines
    → (sum_by line_bytes lines ≤ length text) × AllByRecursion LineIsUtf8 lines

-- There is room in a document of at most 2^26 bytes for 2^26 bytes more.
abbrev pub DocumentsHaveRoom : Type 0
DocumentsHaveRoom = (bytes : List ℕ) (dom : Dom) (n : ℕ) → dom_of bytes ≡ Ok dom → length bytes ≤ 2 ^ 26 → n ≤ 2 ^ 26
    → HasRoomFor n dom

-- Where there is room for an edit and for further bytes, there is room for the edit, and for the further bytes after it.
abbrev pub EditsLeaveRoom : Type 0
EditsLeaveRoom = (edit : Edit) (n : ℕ) (dom left : Dom) → HasRoomFor (added_bytes edit + n) dom → IsUtf8 (rest_of edit)
    → HasRoom edit dom × (GrowsBy edit dom.nodes left.nodes → IsWellFormed left → HasRoomFor n left)
