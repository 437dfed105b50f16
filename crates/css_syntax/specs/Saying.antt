-- What a sheet on the grammar says: its rules in order, how many it has, and the first construct that isn't laid out (CSS
-- Syntax 3, section 5.4; CSS 2.1, section 7.2.1).
use Rattle.std.specs.Prelude.{◌≡◌, ◌<◌, ◌≤◌, ◌⊎◌, ℕ, ◌+◌, List, [], ◌∷◌, ◌++◌, Bool, true, false, ◌&&◌, Option, Some, None}
use Rattle.mc_base.specs.declared.refusal.Found.{Found}
use Rattle.mc_base.specs.declared.refusal.ConstructName.TheVariants as constructs
use Rattle.mc_base.specs.declared.refusal.Refusal.{Refusal}
use Rattle.mc_base.specs.declared.refusal.Refusal.TheVariants as refusals
use Rattle.mc_base.specs.declared.refusal.LimitName.TheVariants as limits
use Rattle.css_data.specs.declared.rule.RawDeclaration.{RawDeclaration}
use Rattle.css_data.specs.declared.rule.StyleRule.{StyleRule}
use Rattle.css_data.specs.declared.rule.Sheet.{Sheet}
use Rattle.css_tokens.specs.declared.lexeme.Fault.{Fault}
use Rattle.css_tokens.specs.declared.lexeme.Lexeme.{Lexeme}
use Rattle.css_tokens.specs.Facts.{behind_first}
use Rattle.css_laws.specs.Values.{Values, written}
use Rattle.css_prelude.specs.declared.selecting.Selectors.{Selectors}
use Rattle.css_prelude.specs.Selecting.{selectors_of}
use Rattle.css_prelude.specs.Words.{or_found}
use Rattle.css_syntax.specs.declared.at_rules.AtRule.{AtRule}
use Rattle.css_syntax.specs.declared.at_rules.AtRule.TheVariants as kinds
use Rattle.css_syntax.specs.Blocks.{offset_of}
use Rattle.css_syntax.specs.Rules.{media_in, first_escape}
use Rattle.css_syntax.specs.Sheets.{grammar_refusal, earlier}
use Rattle.css_syntax.specs.Styling.{AreDeclarations}
use Rattle.css_syntax.specs.Sheeting.{Items, End, Gap, Block, Ended, Media, Lost, Unclosed, UnclosedMedia, kind_of, IsTextFault}
use Rattle.css_syntax.specs.Sheeting.{IsSheetText}

-- whether the media after @media are on their grammar and apply
abbrev pub media_after : Values → Option Bool
media_after p = media_in (behind_first (written p))

abbrev pub applies : Option Bool → Bool
applies None = false
applies (Some on) = on

-- A style rule whose selectors are on their grammar says a rule, where the media around it apply.
abbrev pub SaysRule : Bool → Option AtRule → Option Selectors → List Lexeme → (List StyleRule → Type 0) → List StyleRule → Type 0
SaysRule on (Some kind) selectors block More rules = More rules
SaysRule on None None block More rules = More rules
SaysRule false None (Some x) block More rules = More rules
SaysRule true None (Some x) block More rules =
    (all : List RawDeclaration) × (others : List StyleRule)
    × (rules ≡ record { selectors = x.selectors; declarations = all } ∷ others) × AreDeclarations block all × More others

abbrev pub AreRules : Bool → Items → List StyleRule → Type 0
AreRules on End rules = rules ≡ []
AreRules on (Gap x more) rules = AreRules on more rules
AreRules on (Block p a v c more) rules =
    SaysRule on (kind_of (written p)) (selectors_of (written p)) (written v) (AreRules on more) rules
AreRules on (Ended p x more) rules = AreRules on more rules
AreRules on (Media p a inside c more) rules =
    (front : List StyleRule) × (back : List StyleRule) × (rules ≡ front ++ back)
    × AreRules (on && applies (media_after p)) inside front × AreRules on more back
AreRules on (Lost p) rules = rules ≡ []
AreRules on (Unclosed p a v) rules = rules ≡ []
AreRules on (UnclosedMedia p a inside) rules = rules ≡ []

-- the number of its style rules, those that are left out among them
abbrev pub one_if_style : Option AtRule → ℕ
one_if_style None = 1
one_if_style (Some kind) = 0

abbrev pub rules_count : Items → ℕ
rules_count End = 0
rules_count (Gap x more) = rules_count more
rules_count (Block p a v c more) = one_if_style (kind_of (written p)) + rules_count more
rules_count (Ended p x more) = rules_count more
rules_count (Media p a inside c more) = rules_count inside + rules_count more
rules_count (Lost p) = 0
rules_count (Unclosed p a v) = 0
rules_count (UnclosedMedia p a inside) = 0

-- what a prelude has that isn't laid out: the first in its selectors, media off their grammar, or another at-rule
abbrev pub in_selectors : Option Selectors → Option Found
in_selectors None = None
in_selectors (Some x) = x.found

abbrev pub in_media : ℕ → Option Bool → Option Found
in_media at None = Some (record { offset = at; name = constructs.Media })
in_media at (Some on) = None

abbrev pub in_prelude : Option AtRule → Values → Option Found
in_prelude None p = in_selectors (selectors_of (written p))
in_prelude (Some kinds.Skipped) p = None
in_prelude (Some kinds.Media) p = in_media (offset_of (written p)) (media_after p)
in_prelude (Some kinds.Other) p = Some (record { offset = offset_of (written p); name = constructs.AtRule })

abbrev pub first_found : Items → Option Found
first_found End = None
first_found (Gap x more) = first_found more
first_found (Block p a v c more) = or_found (in_prelude (kind_of (written p)) p) (first_found more)
first_found (Ended p x more) = or_found (in_prelude (kind_of (written p)) p) (first_found more)
first_found (Media p a inside c more) =
    or_found (in_prelude (kind_of (written p)) p) (or_found (first_found inside) (first_found more))
first_found (Lost p) = None
first_found (Unclosed p a v) = None
first_found (UnclosedMedia p a inside) = None

-- The text says this sheet: it is on the grammar, has at most 4,000 rules, and these are its rules and its first construct.
pub record IsSheet (bytes : List ℕ) (sheet : Sheet) : Type 0 where
  pub text : IsSheetText bytes
  pub few : rules_count text.items ≤ 4000
  pub rules : AreRules true text.items sheet.rules
  pub construct : sheet.construct ≡ earlier (first_escape text.tokens) (first_found text.items)

-- Why a text is refused: its first fault; or it is on the grammar, and has more than 4,000 rules.
abbrev pub IsRefusal : List ℕ → Refusal → Type 0
IsRefusal bytes e =
    ((f : Fault) × IsTextFault bytes f × (e ≡ grammar_refusal f))
    ⊎ ((text : IsSheetText bytes) × (4000 < rules_count text.items) × (e ≡ refusals.Limit limits.Rules 4001 4000))
