-- A script has one answer: what it prints, or one reason why it is refused.
use Rattle.std.specs.Prelude.{◌≡◌, ℕ, List, Option}
use Rattle.mc_base.specs.declared.refusal.Refusal.{Refusal}
use Rattle.script_printer.specs.Answers.{ScriptPrints, RefusesScript}

pub record OneScriptAnswer : Type 0 where
  pub text : (document sheet metrics script : List ℕ) (width : ℕ) (height : Option ℕ) (a b : List ℕ)
      → ScriptPrints document sheet metrics script width height a → ScriptPrints document sheet metrics script width height b
      → a ≡ b
  pub reason : (document sheet metrics script : List ℕ) (width : ℕ) (height : Option ℕ) (a b : Refusal)
      → RefusesScript document sheet metrics script width height a → RefusesScript document sheet metrics script width height b
      → a ≡ b
  pub either : (document sheet metrics script : List ℕ) (width : ℕ) (height : Option ℕ) (text : List ℕ) (refusal : Refusal)
      → ScriptPrints document sheet metrics script width height text
      → RefusesScript document sheet metrics script width height refusal → ⊥
