-- The style of each element (CSS Cascade 4, sections 4 and 6), and the first construct at it that isn't laid out.
use Rattle.std.specs.Prelude.{◌≡◌, ◌<◌, ◌==◌, ℕ, List, Option, Some, None, if◌then◌else◌, MatchOption, option_and_then, slice_get}
use Rattle.std.specs.Prelude.{length}
use Rattle.std.specs.Option.{option_map}
use Rattle.mc_base.specs.declared.refusal.ConstructName.{ConstructName}
use Rattle.html_grammar.specs.declared.dom.Dom.{Dom}
use Rattle.css_data.specs.declared.rule.Sheet.{Sheet}
use Rattle.css_values.specs.declared.declared.Property.{Property}
use Rattle.css_values.specs.declared.declared.Value.{Value}
use Rattle.css_values.specs.declared.target.Target.{Target}
use Rattle.css_values.specs.declared.target.Target.TheVariants.{Laid}
use Rattle.css_values.specs.Targets.{target_place}
use Rattle.css_select.specs.Places.{IsElementAt, parent_at}
use Rattle.css_computed.specs.declared.style.Style.{Style}
use Rattle.css_computed.specs.Winners.{winner}
use Rattle.css_computed.specs.Styles.{style_by}
use Rattle.css_computed.specs.Computing.{computed_value, length_or, medium}
use Rattle.css_winner.specs.declared.setting.Setting.{Setting}
use Rattle.css_winner.specs.declared.setting.Given.TheVariants.{Refused}
use Rattle.css_winner.specs.Applying.{Claim, IsWinner, Wins}
use Rattle.css_winner.specs.Rules.{all_sheets}
use Rattle.css_cascade.specs.declared.styles.NodeStyle.{NodeStyle}
use Rattle.css_cascade.specs.Entries.{entry_at, style_at}
use Rattle.css_cascade.specs.Won.{won_value}
use Rattle.css_cascade.specs.Attributes.{AllAreRead, own_at}

-- this is the value that the winning declaration of the property gives, if a declaration that applies is about it
pub record IsWonValue (sheets : List Sheet) (dom : Dom) (n : ℕ) (own : List Setting) (property : Property)
    (value : Option Value) : Type 0 where
  pub claim : Option Claim
  pub wins : Wins sheets dom n own (Laid property) claim
  pub gives : value ≡ won_value claim

-- the winning declaration of the property is refused as this construct
pub record Refuses (sheets : List Sheet) (dom : Dom) (n : ℕ) (own : List Setting) (target : Target) (name : ConstructName) :
    Type 0 where
  pub claim : Claim
  pub wins : IsWinner sheets dom n own target claim
  pub refused : claim.given ≡ Refused name

-- and that of no property before it in the order of the tables is refused
pub record IsFirstRefused (sheets : List Sheet) (dom : Dom) (n : ℕ) (own : List Setting) (name : ConstructName) : Type 0 where
  pub target : Target
  pub refuses : Refuses sheets dom n own target name
  pub first : (other : Target) (what : ConstructName) → target_place other < target_place target
      → Refuses sheets dom n own other what → ⊥

abbrev pub NoneRefused : List Sheet → Dom → ℕ → List Setting → Type 0
NoneRefused sheets dom n own = (target : Target) (name : ConstructName) → Refuses sheets dom n own target name → ⊥

-- the style of the element that the node stands in
abbrev pub parent_style : List (Option NodeStyle) → Dom → ℕ → Option Style
parent_style styles dom n = option_and_then (style_at styles) (parent_at dom n)

-- the font size of the root, for what isn't the root
abbrev pub root_size : List (Option NodeStyle) → ℕ → Option ℕ
root_size styles n = if n == 0 then None else option_map (λ style. length_or medium style.font_size) (style_at styles 0)

-- an element has the style that is computed from what wins for its properties, its parent's style and the root's font size
pub record IsStyled (sheets : List Sheet) (dom : Dom) (own : List Setting) (styles : List (Option NodeStyle)) (n : ℕ)
    (entry : NodeStyle) : Type 0 where
  pub winning : List (Option Value)
  pub won : (property : Property) → IsWonValue sheets dom n own property (winner winning property)
  pub style : entry.style ≡ style_by (computed_value winning (parent_style styles dom n) (root_size styles n))
  pub refused : MatchOption entry.refused (NoneRefused sheets dom n own) (λ name. IsFirstRefused sheets dom n own name)

-- the entry of a node, if it is an element
pub record HasEntry (sheets : List Sheet) (dom : Dom) (styles : List (Option NodeStyle)) (n : ℕ) : Type 0 where
  pub entry : NodeStyle
  pub stands : entry_at styles n ≡ Some entry
  pub styled : IsStyled (all_sheets sheets) dom (own_at dom n) styles n entry

-- a node that is no element has no entry
abbrev pub OthersHaveNone : Dom → List (Option NodeStyle) → Type 0
OthersHaveNone dom styles = (n : ℕ) → (IsElementAt dom n → ⊥) → entry_at styles n ≡ None

-- every style attribute is on its grammar, and every element has its style; there is one entry for each node, which is none where
-- that is no element
pub record IsCascaded (sheets : List Sheet) (dom : Dom) (styles : List (Option NodeStyle)) : Type 0 where
  pub read : AllAreRead dom.nodes
  pub size : length styles ≡ length dom.nodes
  pub each : (n : ℕ) → IsElementAt dom n → HasEntry sheets dom styles n
  pub others : OthersHaveNone dom styles

-- what is made for a node: an entry, if it is an element, and only then
abbrev pub IsEntry : List Sheet → Dom → List Setting → List (Option NodeStyle) → ℕ → Option NodeStyle → Type 0
IsEntry sheets dom own styles n entry =
    MatchOption entry (IsElementAt dom n → ⊥) (λ entry. IsElementAt dom n × IsStyled sheets dom own styles n entry)

-- these are what the style attributes of the first nodes set, and no more than the nodes
pub record AreOwn (dom : Dom) (own : List (List Setting)) : Type 0 where
  pub count : length own ≡ length dom.nodes
  pub each : (n : ℕ) (settings : List Setting) → slice_get own n ≡ Some settings → settings ≡ own_at dom n

-- each of the first so many nodes that is an element has its entry
pub record HasEntries (sheets : List Sheet) (dom : Dom) (count : ℕ) (styles : List (Option NodeStyle)) : Type 0 where
  pub size : length styles ≡ count
  pub each : (n : ℕ) → n < count → IsElementAt dom n → HasEntry sheets dom styles n
  pub others : OthersHaveNone dom styles
