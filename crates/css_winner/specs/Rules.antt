-- Style sheets that are ready for winners to be found.
use Rattle.std.specs.Prelude.{◌≡◌, ℕ, List, [], map, ◌∷◌, Option, Some, None, slice_get, option_and_then}
use Rattle.css_data.specs.declared.selector.Selector.{Selector}
use Rattle.css_data.specs.declared.rule.StyleRule.{StyleRule}
use Rattle.css_data.specs.declared.rule.Sheet.{Sheet}
use Rattle.css_winner.specs.declared.setting.Setting.{Setting}
use Rattle.css_winner.specs.declared.filing.Place.{Place}
use Rattle.css_winner.specs.declared.filing.Filing.{Filing}
use Rattle.css_winner.specs.declared.rules.Rules.{Rules}
use Rattle.css_winner.specs.BuiltIn.{built_in}
use Rattle.css_winner.specs.Settings.{settings_of}
use Rattle.css_winner.specs.Keys.{key_of}
use Rattle.css_winner.specs.Filing.{IsFiled}

abbrev pub ASheet : Type 0
ASheet = Sheet

abbrev pub place : ℕ → ℕ → ℕ → Place
place sheet rule selector = record { sheet = sheet; rule = rule; selector = selector }

abbrev pub rules_settings : List StyleRule → List (List Setting)
rules_settings rules = map (λ rule. settings_of rule.declarations) rules

abbrev pub all_settings : List Sheet → List (List (List Setting))
all_settings sheets = map (λ sheet. rules_settings sheet.rules) sheets

abbrev pub or_none : Option (List Setting) → List Setting
or_none None = []
or_none (Some settings) = settings

abbrev pub settings_at : List (List (List Setting)) → ℕ → ℕ → List Setting
settings_at settings sheet rule = or_none (option_and_then (λ rules. slice_get rules rule) (slice_get settings sheet))

abbrev pub selector_in : List StyleRule → ℕ → ℕ → Option Selector
selector_in rules rule selector = option_and_then (λ r. slice_get r.selectors selector) (slice_get rules rule)

-- the selector at a place
abbrev pub selector_at : List Sheet → Place → Option Selector
selector_at sheets p = option_and_then (λ sheet. selector_in sheet.rules p.rule p.selector) (slice_get sheets p.sheet)

-- each selector of these rules of a sheet is filed under its name
abbrev pub HasFiled : Filing → ℕ → List StyleRule → Type 0
HasFiled filing sheet rules =
    (rule k : ℕ) (selector : Selector) → selector_in rules rule k ≡ Some selector
    → IsFiled filing (key_of selector) (place sheet rule k)

-- the author's sheets after the built-in one
abbrev pub all_sheets : List Sheet → List Sheet
all_sheets sheets = built_in ∷ sheets

-- it is known what each rule sets, and each selector is filed under its name
pub record IsReady (sheets : List Sheet) (rules : Rules) : Type 0 where
  pub built : rules.built_in ≡ built_in
  pub settings : rules.settings ≡ all_settings (all_sheets sheets)
  pub filed : (p : Place) (selector : Selector) → selector_at (all_sheets sheets) p ≡ Some selector
      → IsFiled rules.filing (key_of selector) p
