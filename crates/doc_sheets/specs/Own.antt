-- The style sheets that stand in a document. Its style attributes and style elements are read in document order.
use Rattle.std.specs.Prelude.{ℕ, suc, Bool, List, [], ◌∷◌, ◌++◌, codes, if◌then◌else◌, Option, Some, None, Result, Ok, Err}
use Rattle.std.specs.Str.{bytes_eq}
use Rattle.mc_base.specs.declared.refusal.Refusal.{Refusal}
use Rattle.html_grammar.specs.declared.dom.Attribute.{Attribute}
use Rattle.html_grammar.specs.declared.dom.DomNode.{DomNode}
use Rattle.html_grammar.specs.declared.dom.NodeKind.{NodeKind}
use Rattle.html_grammar.specs.declared.dom.NodeKind.TheVariants as kinds
use Rattle.css_data.specs.declared.rule.Sheet.{Sheet}
use Rattle.css_winner.specs.declared.setting.Setting.{Setting}
use Rattle.css_winner.specs.Own.{own_settings}
use Rattle.doc_sheets.specs.declared.own.OwnSheets.{OwnSheets}
use Rattle.doc_sheets.specs.declared.part.Part.{Part}
use Rattle.doc_sheets.specs.Parts.{media_of, style_part, first_of}

abbrev pub no_part : Part
no_part = record { sheet = None; construct = None }

-- an element named `style` anywhere in the document has a sheet
abbrev pub is_style : (name : List ℕ) → Bool
is_style name = bytes_eq name (codes "style")

abbrev pub element_part : (document : List ℕ) → (number at : ℕ) → (name : List ℕ) → List Attribute → (after : List DomNode)
    → Result Part Refusal
element_part document number at name attributes after =
    if is_style name then style_part document number at (media_of attributes) after else Ok no_part

abbrev pub kind_part : (document : List ℕ) → (number at : ℕ) → (after : List DomNode) → NodeKind → Result Part Refusal
kind_part document number at after (kinds.Element name attributes) = element_part document number at name attributes after
kind_part document number at after (kinds.Words text) = Ok no_part

-- a style attribute that is off its grammar is refused
abbrev pub checked : Result (List Setting) Refusal → Result Part Refusal → Result Part Refusal
checked (Ok settings) part = part
checked (Err refusal) part = Err refusal

-- first the style attribute of an element, then its sheet
unfoldable pub node_part : (document : List ℕ) → (number : ℕ) → DomNode → (after : List DomNode) → Result Part Refusal
node_part document number node after = checked (own_settings node) (kind_part document number node.offset after node.kind)

-- ---- all nodes, in order

abbrev pub sheets_of : Option Sheet → List Sheet
sheets_of None = []
sheets_of (Some sheet) = sheet ∷ []

abbrev pub no_sheets : OwnSheets
no_sheets = record { sheets = []; construct = None }

abbrev pub joined : Result Part Refusal → Result OwnSheets Refusal → Result OwnSheets Refusal
joined (Err refusal) rest = Err refusal
joined (Ok part) (Err refusal) = Err refusal
joined (Ok part) (Ok rest) =
    Ok (record { sheets = sheets_of part.sheet ++ rest.sheets; construct = first_of part.construct rest.construct })

-- these sheets with those of a part after them
abbrev pub with_part : OwnSheets → Part → OwnSheets
with_part own part = record { sheets = own.sheets ++ sheets_of part.sheet; construct = first_of own.construct part.construct }

-- those of these nodes, numbered from this one
abbrev pub own_from : (document : List ℕ) → (number : ℕ) → List DomNode → Result OwnSheets Refusal
own_from document number [] = Ok no_sheets
own_from document number (node ∷ after) = joined (node_part document number node after) (own_from document (suc number) after)

abbrev pub own_of : (document : List ℕ) → List DomNode → Result OwnSheets Refusal
own_of document nodes = own_from document 0 nodes
