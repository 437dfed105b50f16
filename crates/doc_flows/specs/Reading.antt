-- What a document, a style sheet and a table of metrics are read as. The first of the steps that refuses decides: the document,
-- its style attributes and style elements, the sheet, the metrics; then what isn't laid out in the document, in its style
-- elements and in the sheet. The order is this project's own.
use Rattle.std.specs.Prelude.{ℕ, List, Option, Some, None, Result, Ok, Err}
use Rattle.std.specs.Option.{option_map}
use Rattle.mc_base.specs.declared.refusal.Found.{Found}
use Rattle.mc_base.specs.declared.refusal.Input.{Input}
use Rattle.mc_base.specs.declared.refusal.Input.TheVariants as inputs
use Rattle.mc_base.specs.declared.refusal.Refusal.{Refusal}
use Rattle.mc_base.specs.declared.refusal.Refusal.TheVariants as refusals
use Rattle.mc_base.specs.declared.read_error.Fault.{Fault}
use Rattle.html_grammar.specs.declared.dom.Dom.{Dom}
use Rattle.html_grammar.specs.Whole.{dom_of}
use Rattle.css_data.specs.declared.rule.Sheet.{Sheet}
use Rattle.css_syntax.specs.Sheets.{sheet_of}
use Rattle.doc_sheets.specs.declared.own.OwnSheets.{OwnSheets}
use Rattle.doc_sheets.specs.Own.{own_of}
use Rattle.font_table.specs.declared.fonts.Face.{Face}
use Rattle.font_table.specs.Reading.{all_of, refusal}
use Rattle.box_data.specs.BoxTree.{or_else}

-- the document, the sheets of its style elements, the author's sheet and the faces of the metrics
pub record Read : Type 0 where
  pub dom : Dom
  pub own : OwnSheets
  pub author : Sheet
  pub faces : List Face

-- why a construct is refused
abbrev pub found_in : Input → Option Found → Option Refusal
found_in input found = option_map (λ (f : Found). refusals.Construct input f.offset f.name) found

-- the first construct that isn't laid out: of the document, of its style elements, of the sheet
abbrev pub construct_in : Read → Option Refusal
construct_in r = or_else (found_in inputs.Document r.dom.construct)
    (or_else (found_in inputs.Document r.own.construct) (found_in inputs.Sheet r.author.construct))

abbrev pub unless : Option Refusal → Read → Result Read Refusal
unless None r = Ok r
unless (Some refused) r = Err refused

abbrev pub with_faces : Dom → OwnSheets → Sheet → Result (List Face) Fault → Result Read Refusal
with_faces dom own author (Ok faces) =
    let r : Read = record { dom = dom; own = own; author = author; faces = faces } in unless (construct_in r) r
with_faces dom own author (Err fault) = Err (refusal fault.at fault.rule)

abbrev pub with_sheet : (metrics : List ℕ) → Dom → OwnSheets → Result Sheet Refusal → Result Read Refusal
with_sheet metrics dom own (Ok author) = with_faces dom own author (all_of metrics)
with_sheet metrics dom own (Err refused) = Err refused

abbrev pub with_own : (sheet metrics : List ℕ) → Dom → Result OwnSheets Refusal → Result Read Refusal
with_own sheet metrics dom (Ok own) = with_sheet metrics dom own (sheet_of sheet)
with_own sheet metrics dom (Err refused) = Err refused

abbrev pub with_dom : (document sheet metrics : List ℕ) → Result Dom Refusal → Result Read Refusal
with_dom document sheet metrics (Ok dom) = with_own sheet metrics dom (own_of document dom.nodes)
with_dom document sheet metrics (Err refused) = Err refused

-- what they are read as, or why they are refused
unfoldable pub read_of : (document sheet metrics : List ℕ) → Result Read Refusal
read_of document sheet metrics = with_dom document sheet metrics (dom_of document)
