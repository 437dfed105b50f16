-- What is found for an element.
use Rattle.std.specs.Prelude.{◌≡◌, ℕ, List, Option, Some, length}
use Rattle.html_grammar.specs.declared.dom.Dom.{Dom}
use Rattle.css_data.specs.declared.selector.Selector.{Selector}
use Rattle.css_data.specs.declared.rule.Sheet.{Sheet}
use Rattle.css_values.specs.declared.target.Target.{Target}
use Rattle.css_values.specs.Targets.{target_place}
use Rattle.css_select.specs.Matching.{Matches}
use Rattle.css_winner.specs.declared.setting.Setting.{Setting}
use Rattle.css_winner.specs.declared.filing.Place.{Place}
use Rattle.css_winner.specs.declared.best.Offer.{Offer}
use Rattle.css_winner.specs.Among.{Among}
use Rattle.css_winner.specs.Applying.{Claim, AppliesByRule, Wins, rule_source, claims_from}
use Rattle.css_winner.specs.Best.{found_at}
use Rattle.css_winner.specs.Rules.{selector_at, settings_at, all_settings}

-- at the place of each property stands what wins for it
pub record HasWinners (sheets : List Sheet) (dom : Dom) (n : ℕ) (own : List Setting) (found : List (Option Offer)) : Type 0 where
  pub size : length found ≡ 60
  pub wins : (target : Target) → Wins sheets dom n own target (found_at found (target_place target))

-- what the rule at a place claims by a selector
abbrev pub claims_at : List Sheet → Place → Selector → List Claim
claims_at sheets p selector =
    claims_from (rule_source p.sheet p.rule selector) 0 (settings_at (all_settings sheets) p.sheet p.rule)

-- what the selector at a place claims for the element
pub record IsOffered (sheets : List Sheet) (dom : Dom) (n : ℕ) (p : Place) (more : List Claim) : Type 0 where
  pub sound : (claim : Claim) → Among more claim → AppliesByRule sheets dom n claim
  pub all : (selector : Selector) → selector_at sheets p ≡ Some selector → Matches selector dom n → (claim : Claim)
      → Among (claims_at sheets p selector) claim → Among more claim
