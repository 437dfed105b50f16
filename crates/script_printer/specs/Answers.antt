-- What a script of edits prints of a document with a style sheet and a table of metrics, or why it is refused.
use Rattle.std.specs.Prelude.{◌≡◌, ℕ, List, Option, None, Ok, Err}
use Rattle.mc_base.specs.declared.refusal.Refusal.{Refusal}
use Rattle.html_grammar.specs.Tree.{Forest, nodes_from}
use Rattle.edit_script.specs.declared.script.ScriptLine.{ScriptLine}
use Rattle.edit_script.specs.Script.{script_of}
use Rattle.doc_flows.specs.Reading.{Read, read_of}
use Rattle.doc_flows.specs.Documents.{sheets_of}
use Rattle.script_runs.specs.Runs.{Prints, Stops, begun}
use Rattle.script_printer.specs.Shown.{Setting, Shows, Denies}

-- what is read is laid out so
abbrev pub setting_of : Read → ℕ → Option ℕ → Setting
setting_of r width height = record { sheets = sheets_of r; faces = r.faces; width = width; height = height }

-- the tree of what is read is this, and these are the lines of the script
pub record AreLinesOf (r : Read) (script : List ℕ) (tree : Forest) (lines : List ScriptLine) : Type 0 where
  pub nodes : r.dom.nodes ≡ nodes_from None 0 tree
  pub script_is : script_of script ≡ Ok lines

-- Every line of the script runs over the document that is read, and this is what its prints show, one after the other: each the
-- result of the document as it is then.
pub record ReadingPrints (r : Read) (script : List ℕ) (width : ℕ) (height : Option ℕ) (text : List ℕ) : Type 0 where
  pub tree : Forest
  pub lines : List ScriptLine
  pub are : AreLinesOf r script tree lines
  pub prints : Prints (Shows (setting_of r width height)) lines tree text

-- the script is refused for this reason: as a whole, or at the first of its lines that isn't done
pub data RefusesReading (r : Read) (script : List ℕ) (width : ℕ) (height : Option ℕ) (refusal : Refusal) : Type 0 where
  scripting : script_of script ≡ Err refusal → RefusesReading r script width height refusal
  running : (tree : Forest) (lines : List ScriptLine) → AreLinesOf r script tree lines
      → Stops (Shows (setting_of r width height)) (Denies (setting_of r width height)) lines (begun tree) refusal
      → RefusesReading r script width height refusal

-- what a script prints of a document with this sheet and these metrics
pub record ScriptPrints (document sheet metrics script : List ℕ) (width : ℕ) (height : Option ℕ) (text : List ℕ) : Type 0 where
  pub r : Read
  pub read : read_of document sheet metrics ≡ Ok r
  pub prints : ReadingPrints r script width height text

-- it is refused for this reason, the first in their order: as the three are read, or as the script is run
pub data RefusesScript (document sheet metrics script : List ℕ) (width : ℕ) (height : Option ℕ) (refusal : Refusal) : Type 0 where
  reading : read_of document sheet metrics ≡ Err refusal → RefusesScript document sheet metrics script width height refusal
  printing : (r : Read) → read_of document sheet metrics ≡ Ok r → RefusesReading r script width height refusal
      → RefusesScript document sheet metrics script width height refusal
