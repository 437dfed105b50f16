use Rattle.std.proofs.Common.{◌≡◌, ℕ, Option, subst, sym}
use Rattle.std.specs.Prelude.{MatchOption}
use Rattle.html_grammar.specs.declared.dom.Dom.{Dom}
use Rattle.css_data.specs.declared.selector.Join.{Join}
use Rattle.css_select.specs.Matching.{Stands}
use Rattle.css_select.specs.Walking.{IsNearest}
use Rattle.css_select.proofs.Nearest.{parent_gives, ancestor_gives, next_gives, later_gives}
use Rattle.css_select.proofs.walk.nearest.Goals as goal

abbrev Given : Dom → ℕ → Option ℕ → Join → Type 0
Given dom n o j = MatchOption o ((m : ℕ) → Stands dom j m n → ⊥) (λ m. IsNearest dom j m n)

at_join : (dom : Dom) (n : ℕ) (o : Option ℕ) (j k : Join) → j ≡ k → Given dom n o k → Given dom n o j
at_join dom n o j k e h = let P : Join → Type 0 = λ v. Given dom n o v in subst P (sym e) h

pub returns-in-Descendant : goal.returns-in-Descendant
returns-in-Descendant c = at_join c.args.dom.now c.args.node c.parent_of.result c.args.join _ c.in-Descendant.is
    (ancestor_gives c.args.dom.now c.args.node c.requires.parents c.parent_of.result c.parent_of.ensures)

pub returns-in-Child : goal.returns-in-Child
returns-in-Child c = at_join c.args.dom.now c.args.node c.parent_of-in-Child.result c.args.join _ c.in-Child.is
    (parent_gives c.args.dom.now c.args.node c.requires.parents c.parent_of-in-Child.result c.parent_of-in-Child.ensures)

pub returns-in-Next : goal.returns-in-Next
returns-in-Next c = at_join c.args.dom.now c.args.node c.previous_sibling.result c.args.join _ c.in-Next.is
    (next_gives c.args.dom.now c.args.node c.previous_sibling.result c.previous_sibling.ensures)

pub returns-in-Later : goal.returns-in-Later
returns-in-Later c = at_join c.args.dom.now c.args.node c.previous_sibling-in-Later.result c.args.join _ c.in-Later.is
    (later_gives c.args.dom.now c.args.node c.previous_sibling-in-Later.result c.previous_sibling-in-Later.ensures)
