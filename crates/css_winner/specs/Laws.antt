-- Laws about what wins.
use Rattle.std.specs.Prelude.{◌≡◌, ℕ, true, false, List}
use Rattle.html_grammar.specs.declared.dom.Dom.{Dom}
use Rattle.css_data.specs.declared.rule.Sheet.{Sheet}
use Rattle.css_values.specs.declared.target.Target.{Target}
use Rattle.css_winner.specs.declared.setting.Setting.{Setting}
use Rattle.css_winner.specs.declared.precedence.Precedence.{Precedence}
use Rattle.css_winner.specs.Precedences.{is_above}
use Rattle.css_winner.specs.Applying.{Claim, IsWinner}

pub record PrecedencesAreOrdered : Type 0 where
  pub transitive : (a b c : Precedence) → is_above a b ≡ true → is_above b c ≡ true → is_above a c ≡ true
  pub total : (a b : Precedence) → is_above a b ≡ false → is_above b a ≡ false → a ≡ b

abbrev pub OneWins : Type 0
OneWins =
    (sheets : List Sheet) (dom : Dom) (n : ℕ) (own : List Setting) (target : Target) (a b : Claim)
    → IsWinner sheets dom n own target a → IsWinner sheets dom n own target b → a ≡ b
