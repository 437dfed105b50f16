-- What the style attribute of an element sets (CSS Style Attributes).
use Rattle.std.specs.Prelude.{ℕ, Bool, List, [], codes, find, Option, Some, None, Result, Ok, Err}
use Rattle.std.specs.Str.{bytes_eq}
use Rattle.html_grammar.specs.declared.dom.Attribute.{Attribute}
use Rattle.html_grammar.specs.declared.dom.DomNode.{DomNode}
use Rattle.html_grammar.specs.declared.dom.NodeKind.{NodeKind}
use Rattle.html_grammar.specs.declared.dom.NodeKind.TheVariants as kinds
use Rattle.mc_base.specs.declared.refusal.Refusal.{Refusal}
use Rattle.mc_base.specs.declared.refusal.Refusal.TheVariants as refusals
use Rattle.mc_base.specs.declared.refusal.Input.TheVariants as inputs
use Rattle.css_data.specs.declared.rule.RawDeclaration.{RawDeclaration}
use Rattle.css_syntax.specs.Sheets.{declarations_in}
use Rattle.css_winner.specs.declared.setting.Setting.{Setting}
use Rattle.css_winner.specs.Settings.{settings_of}

abbrev pub is_style : Attribute → Bool
is_style a = bytes_eq a.name (codes "style")

-- a fault of the attribute is one of the document, at the value's first byte
abbrev pub moved : ℕ → Refusal → Refusal
moved at (refusals.Grammar input offset rule) = refusals.Grammar inputs.Document at rule
moved at (refusals.Construct input offset name) = refusals.Construct input offset name
moved at (refusals.Limit name reached limit) = refusals.Limit name reached limit
moved at refusals.NoMemory = refusals.NoMemory

abbrev pub settings_or : ℕ → Result (List RawDeclaration) Refusal → Result (List Setting) Refusal
settings_or at (Ok declarations) = Ok (settings_of declarations)
settings_or at (Err refusal) = Err (moved at refusal)

abbrev pub attribute_settings : Attribute → Result (List Setting) Refusal
attribute_settings a = settings_or a.offset (declarations_in a.value)

abbrev pub settings_by : Option Attribute → Result (List Setting) Refusal
settings_by None = Ok []
settings_by (Some a) = attribute_settings a

abbrev pub kind_settings : NodeKind → Result (List Setting) Refusal
kind_settings (kinds.Element name attributes) = settings_by (find is_style attributes)
kind_settings (kinds.Words text) = Ok []

-- what the first attribute named `style` sets, or why it is refused
abbrev pub own_settings : DomNode → Result (List Setting) Refusal
own_settings node = kind_settings node.kind
