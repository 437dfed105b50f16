-- What a style element says: its sheet, where it applies, and the first construct in it that isn't laid out.
use Rattle.std.specs.Prelude.{ℕ, ◌==◌, Bool, true, false, List, [], ◌∷◌, codes, find, Option, Some, None, Result, Ok, Err}
use Rattle.std.specs.Str.{bytes_eq}
use Rattle.mc_base.specs.declared.refusal.Found.{Found}
use Rattle.mc_base.specs.declared.refusal.ConstructName.TheVariants as constructs
use Rattle.mc_base.specs.declared.refusal.Refusal.{Refusal}
use Rattle.mc_base.specs.declared.refusal.Refusal.TheVariants as refusals
use Rattle.mc_base.specs.declared.refusal.Input.TheVariants as inputs
use Rattle.html_grammar.specs.declared.dom.Attribute.{Attribute}
use Rattle.html_grammar.specs.declared.dom.DomNode.{DomNode}
use Rattle.html_grammar.specs.declared.dom.NodeKind.{NodeKind}
use Rattle.html_grammar.specs.declared.dom.NodeKind.TheVariants as kinds
use Rattle.css_data.specs.declared.rule.Sheet.{Sheet}
use Rattle.css_syntax.specs.Media.{media_in_text}
use Rattle.css_syntax.specs.Sheets.{sheet_of}
use Rattle.doc_sheets.specs.declared.media.Media.{Media}
use Rattle.doc_sheets.specs.declared.part.Part.{Part}
use Rattle.doc_sheets.specs.Bytes.{byte_of}

-- ---- the media of a style element (CSS 2.1, section 7.2.1)

abbrev pub is_media : Attribute → Bool
is_media a = bytes_eq a.name (codes "media")

-- a value that is no list of media doesn't apply, and isn't laid out
abbrev pub listed : (at : ℕ) → Option Bool → Media
listed at None = record { applies = false; construct = Some (record { offset = at; name = constructs.Media }) }
listed at (Some on) = record { applies = on; construct = None }

-- without the attribute it applies
abbrev pub media_by : Option Attribute → Media
media_by None = record { applies = true; construct = None }
media_by (Some a) = listed a.offset (media_in_text a.value)

abbrev pub media_of : List Attribute → Media
media_of attributes = media_by (find is_media attributes)

-- ---- what its text says, where that begins at this byte of the document

abbrev pub refusal_at : (document : List ℕ) → (begins : ℕ) → Refusal → Refusal
refusal_at document begins (refusals.Grammar input place rule) =
    refusals.Grammar inputs.Document (byte_of document begins place) rule
refusal_at document begins (refusals.Construct input place name) = refusals.Construct input place name
refusal_at document begins (refusals.Limit name reached limit) = refusals.Limit name reached limit
refusal_at document begins refusals.NoMemory = refusals.NoMemory

abbrev pub found_at : (document : List ℕ) → (begins : ℕ) → Option Found → Option Found
found_at document begins None = None
found_at document begins (Some found) = Some (record { offset = byte_of document begins found.offset; name = found.name })

-- the first of two constructs in document order
abbrev pub first_of : Option Found → Option Found → Option Found
first_of None other = other
first_of (Some found) other = Some found

abbrev pub kept : Bool → Sheet → Option Sheet
kept false sheet = None
kept true sheet = Some sheet

-- the construct counts also where the element doesn't apply
abbrev pub part_by : (document : List ℕ) → (begins : ℕ) → Media → Result Sheet Refusal → Result Part Refusal
part_by document begins media (Ok sheet) =
    let found = found_at document begins sheet.construct in
    Ok (record { sheet = kept media.applies sheet; construct = first_of media.construct found })
part_by document begins media (Err refusal) = Err (refusal_at document begins refusal)

abbrev pub text_part : (document : List ℕ) → (begins : ℕ) → Media → (text : List ℕ) → Result Part Refusal
text_part document begins media text = part_by document begins media (sheet_of text)

-- ---- its text: that of the words directly after it that stand in it, or the empty one

abbrev pub stands_in : (number : ℕ) → Option ℕ → Bool
stands_in number None = false
stands_in number (Some parent) = number == parent

abbrev pub kind_words : NodeKind → Option (List ℕ)
kind_words (kinds.Element name attributes) = None
kind_words (kinds.Words text) = Some text

abbrev pub words_if : Bool → NodeKind → Option (List ℕ)
words_if false kind = None
words_if true kind = kind_words kind

abbrev pub words_in : (number : ℕ) → DomNode → Option (List ℕ)
words_in number node = words_if (stands_in number node.parent) node.kind

abbrev pub words_part : (document : List ℕ) → (at begins : ℕ) → Media → Option (List ℕ) → Result Part Refusal
words_part document at begins media None = text_part document at media []
words_part document at begins media (Some text) = text_part document begins media text

-- the style element of this number and offset, with these nodes after it
abbrev pub style_part : (document : List ℕ) → (number at : ℕ) → Media → (after : List DomNode) → Result Part Refusal
style_part document number at media [] = text_part document at media []
style_part document number at media (node ∷ nodes) = words_part document at node.offset media (words_in number node)
