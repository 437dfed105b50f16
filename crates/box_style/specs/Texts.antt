-- What the style of each node of a document says of its text, with its face (CSS Fonts 4).
use Rattle.std.specs.Prelude.{ℕ, ◌^◌, min, List, [], map, codes, Option, Some, None}
use Rattle.font_table.specs.declared.fonts.Face.{Face}
use Rattle.font_table.specs.Choice.{chosen}
use Rattle.inline_text.specs.declared.content.RunStyle.{RunStyle}
use Rattle.css_computed.specs.declared.style.Computed.{Computed}
use Rattle.css_computed.specs.declared.style.Computed.TheVariants as computed
use Rattle.css_computed.specs.declared.style.Style.{Style}
use Rattle.css_cascade.specs.declared.styles.NodeStyle.{NodeStyle}
use Rattle.box_data.specs.declared.style.BoxStyle.{BoxStyle}
use Rattle.box_data.specs.Styles.{initial, text_of}
use Rattle.box_style.specs.Styles.{box_style_of, is_word, whole_of}

abbrev pub families_of : Computed → List (List ℕ)
families_of (computed.Word name) = []
families_of (computed.Length u) = []
families_of (computed.Percent value) = []
families_of (computed.Number value) = []
families_of (computed.Names names) = names

abbrev pub weight_of : Computed → ℕ
weight_of (computed.Word name) = 400
weight_of (computed.Length u) = 400
weight_of (computed.Percent value) = 400
weight_of (computed.Number value) = whole_of value
weight_of (computed.Names names) = 400

-- the face of an element's text
abbrev pub face_of : List Face → Style → ℕ
face_of faces s = chosen faces (families_of s.font_family) (weight_of s.font_weight) (is_word (codes "italic") s.font_style)

-- What a style says of text in this face. A font size above the limit of lengths is refused where the element is shown, and
-- counts as that limit elsewhere.
abbrev pub short_text : (face : ℕ) → BoxStyle → RunStyle
short_text face s = text_of face (record s { size = min s.size (2 ^ 24) })

abbrev pub style_text : List Face → NodeStyle → RunStyle
style_text faces entry = short_text (face_of faces entry.style) (box_style_of entry.style entry.refused)

-- what the style of a node says of its text
abbrev pub entry_text : List Face → Option NodeStyle → RunStyle
entry_text faces None = text_of 0 initial
entry_text faces (Some entry) = style_text faces entry

abbrev pub run_texts : List Face → List (Option NodeStyle) → List RunStyle
run_texts faces entries = map (entry_text faces) entries
