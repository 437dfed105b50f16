-- Which elements a selector matches (Selectors 3, section 8).
use Rattle.std.specs.Prelude.{◌≡◌, ◌∷◌, ℕ, [], List}
use Rattle.html_grammar.specs.declared.dom.Dom.{Dom}
use Rattle.css_data.specs.declared.selector.Compound.{Compound}
use Rattle.css_data.specs.declared.selector.Join.{Join}
use Rattle.css_data.specs.declared.selector.Join.TheVariants as joins
use Rattle.css_data.specs.declared.selector.Selector.{Selector}
use Rattle.css_select.specs.Places.{IsAncestor, IsEarlierSibling, IsParent, IsPreviousSibling}
use Rattle.css_select.specs.Tests.{Meets}

-- The first element stands to the second as the sign between their selectors says.
abbrev pub Stands : Dom → Join → ℕ → ℕ → Type 0
Stands dom joins.Descendant m n = IsAncestor dom m n
Stands dom joins.Child m n = IsParent dom m n
Stands dom joins.Next m n = IsPreviousSibling dom m n
Stands dom joins.Later m n = IsEarlierSibling dom m n

-- From the element m a path leads to n: it goes over an element that meets each compound, and each element stands to the
-- next as the join between them says.
abbrev pub Leads : Dom → List Join → List Compound → ℕ → ℕ → Type 0
Leads dom [] [] m n = m ≡ n
Leads dom [] (c ∷ cs) m n = ⊥
Leads dom (j ∷ js) [] m n = ⊥
Leads dom (j ∷ js) (c ∷ cs) m n = (l : ℕ) × Stands dom j m l × Meets dom c l × Leads dom js cs l n

-- a path leads to n from an element that meets the first compound
abbrev pub LeadsFromFirst : Dom → List Join → List Compound → ℕ → Type 0
LeadsFromFirst dom js [] n = ⊥
LeadsFromFirst dom js (c ∷ cs) n = (m : ℕ) × Meets dom c m × Leads dom js cs m n

-- the selector matches the element
abbrev pub Matches : Selector → Dom → ℕ → Type 0
Matches selector dom n = LeadsFromFirst dom selector.joins selector.compounds n
