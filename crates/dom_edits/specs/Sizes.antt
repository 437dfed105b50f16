-- How much an edit adds to a document, and when the document is well formed after it.
use Rattle.std.specs.Prelude.{◌≤◌, ◌+◌, ◌^◌, ℕ, List, [], length, sum_by, IsUtf8}
use Rattle.html_grammar.specs.declared.dom.Dom.{Dom}
use Rattle.html_grammar.specs.declared.dom.DomNode.{DomNode}
use Rattle.html_subset.specs.WellFormed.{node_bytes}
use Rattle.edit_script.specs.declared.script.Edit.{Edit}
use Rattle.edit_script.specs.declared.script.Edit.TheVariants as edits

abbrev pub rest_of : Edit → List ℕ
rest_of (edits.Words id rest) = rest
rest_of (edits.Class id rest) = rest
rest_of (edits.Remove id) = []

-- how many bytes an edit adds at most: its text, and the name of a new attribute `class`
abbrev pub added_bytes : Edit → ℕ
added_bytes edit = length (rest_of edit) + 5

-- there is at most one node more, and no more bytes than the edit's
pub record GrowsBy (edit : Edit) (before after : List DomNode) : Type 0 where
  pub count : length after ≤ length before + 1
  pub bytes : sum_by node_bytes after ≤ sum_by node_bytes before + added_bytes edit

-- there is room in a document for the edit, and its text is UTF-8
pub record HasRoom (edit : Edit) (dom : Dom) : Type 0 where
  pub utf8 : IsUtf8 (rest_of edit)
  pub count : length dom.nodes + 1 ≤ 2 ^ 28
  pub text : length (rest_of edit) ≤ 2 ^ 28
  pub bytes : sum_by node_bytes dom.nodes + added_bytes edit ≤ 2 ^ 28 + 64
