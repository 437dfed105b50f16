-- The ancestors of a node.
use Rattle.std.proofs.Common.{◌≡◌, ℕ, zero, suc, ◌⊎◌, inl, inr, Some, None, sym, ap, ◌∙◌}
use Rattle.std.specs.Prelude.{option_and_then}
use Rattle.std.proofs.lemmas.Option.{same_Some, none-some, option_and_then_some}
use Rattle.html_grammar.specs.declared.dom.Dom.{Dom}
use Rattle.css_select.specs.Places.{parent_at, ancestor_at, IsAncestor}

-- they are the parent and its ancestors
pub ancestor_from_parent : (dom : Dom) (a n p : ℕ) → parent_at dom n ≡ Some p → IsAncestor dom a n → (a ≡ p) ⊎ IsAncestor dom a p
ancestor_from_parent dom a n p e (zero, is) = inl (same_Some a p (sym is ∙ e))
ancestor_from_parent dom a n p e (suc k, is) = inr (k, sym (ap (option_and_then (ancestor_at dom k)) e) ∙ is)

pub ancestor_of_none : (dom : Dom) (a n : ℕ) → parent_at dom n ≡ None → IsAncestor dom a n → ⊥
ancestor_of_none dom a n e (zero, is) = none-some a (sym e ∙ is)
ancestor_of_none dom a n e (suc k, is) = none-some a (sym (ap (option_and_then (ancestor_at dom k)) e) ∙ is)

pub ancestor_up : (dom : Dom) (a n p : ℕ) → parent_at dom n ≡ Some p → IsAncestor dom a p → IsAncestor dom a n
ancestor_up dom a n p e (k, is) = (suc k, ap (option_and_then (ancestor_at dom k)) e ∙ is)

above : (dom : Dom) (a b k n : ℕ) → ancestor_at dom k n ≡ Some b → IsAncestor dom a b → IsAncestor dom a n
above dom a b zero n is h = ancestor_up dom a n b is h
above dom a b (suc k) n is h =
    option_and_then_some (ancestor_at dom k) (parent_at dom n) b is (λ p e at. ancestor_up dom a n p e (above dom a b k p at h))

-- an ancestor of an ancestor is one
pub ancestor_of_ancestor : (dom : Dom) (a b n : ℕ) → IsAncestor dom a b → IsAncestor dom b n → IsAncestor dom a n
ancestor_of_ancestor dom a b n h (k, is) = above dom a b k n is h

-- nodes with one parent have the same ancestors
pub ancestor_beside : (dom : Dom) (a m n : ℕ) → parent_at dom m ≡ parent_at dom n → IsAncestor dom a m → IsAncestor dom a n
ancestor_beside dom a m n e (zero, is) = (zero, sym e ∙ is)
ancestor_beside dom a m n e (suc k, is) = (suc k, ap (option_and_then (ancestor_at dom k)) (sym e) ∙ is)
