-- The nearest element to the left of a join.
use Rattle.std.proofs.Common.{◌≡◌, ℕ, ◌<◌, ◌⊎◌, inl, inr, false, Option, Some, None, refl, sym, ◌∙◌, arith, zero}
use Rattle.std.proofs.lemmas.Bool.{cases_order}
use Rattle.std.specs.Prelude.{MatchOption}
use Rattle.std.proofs.lemmas.Option.{same_Some, none-some}
use Rattle.html_grammar.specs.declared.dom.Dom.{Dom}
use Rattle.css_data.specs.declared.selector.Join.{Join}
use Rattle.css_data.specs.declared.selector.Join.TheVariants.{Descendant, Child, Next, Later}
use Rattle.css_select.specs.Places.{parent_at, IsAncestor, IsEarlierSibling, IsPreviousSibling, ParentsAreEarlier}
use Rattle.css_select.specs.Matching.{Stands}
use Rattle.css_select.specs.Walking.{IsNearest, is_near}
use Rattle.css_select.proofs.Ancestors.{ancestor_from_parent, ancestor_of_ancestor, ancestor_of_none}

pub nearest_child : (dom : Dom) (m n : ℕ) → ParentsAreEarlier dom → parent_at dom n ≡ Some m → IsNearest dom Child m n
nearest_child dom m n parents e = record { stands = e; below = parents n m e; others = λ k h. inl (same_Some k m (sym h ∙ e)) }

further_ancestor : (dom : Dom) (k m : ℕ) → (k ≡ m) ⊎ IsAncestor dom k m
    → (k ≡ m) ⊎ ((is_near Descendant ≡ false) × Stands dom Descendant k m)
further_ancestor dom k m (inl e) = inl e
further_ancestor dom k m (inr h) = inr (refl, h)

pub nearest_ancestor : (dom : Dom) (m n : ℕ) → ParentsAreEarlier dom → parent_at dom n ≡ Some m → IsNearest dom Descendant m n
nearest_ancestor dom m n parents e =
    record {
      stands = (zero, e);
      below = parents n m e;
      others = λ k h. further_ancestor dom k m (ancestor_from_parent dom k n m e h);
    }

only_previous : (dom : Dom) (k m n : ℕ) → IsPreviousSibling dom k n → IsPreviousSibling dom m n → (k ≡ m) ⊎ ((k < m) ⊎ (m < k))
    → k ≡ m
only_previous dom k m n h p (inl e) = e
only_previous dom k m n h p (inr (inl lt)) = absurd (h.nearest m lt p.earlier)
only_previous dom k m n h p (inr (inr lt)) = absurd (p.nearest k lt h.earlier)

-- there is one previous sibling at most
pub one_previous : (dom : Dom) (k m n : ℕ) → IsPreviousSibling dom k n → IsPreviousSibling dom m n → k ≡ m
one_previous dom k m n h p = only_previous dom k m n h p (cases_order k m)

pub nearest_next : (dom : Dom) (m n : ℕ) → IsPreviousSibling dom m n → IsNearest dom Next m n
nearest_next dom m n p = record { stands = p; below = p.earlier.before; others = λ k h. inl (one_previous dom k m n h p) }

further_sibling : (dom : Dom) (k m n : ℕ) → IsPreviousSibling dom m n → IsEarlierSibling dom k n → (k ≡ m) ⊎ ((k < m) ⊎ (m < k))
    → (k ≡ m) ⊎ ((is_near Later ≡ false) × Stands dom Later k m)
further_sibling dom k m n p h (inl e) = inl e
further_sibling dom k m n p h (inr (inl lt)) =
    inr (refl, record { before = lt; element = h.element; beside = h.beside ∙ sym p.earlier.beside })
further_sibling dom k m n p h (inr (inr lt)) = absurd (p.nearest k lt h)

pub nearest_later : (dom : Dom) (m n : ℕ) → IsPreviousSibling dom m n → IsNearest dom Later m n
nearest_later dom m n p = record {
  stands = p.earlier;
  below = p.earlier.before;
  others = λ k h. further_sibling dom k m n p h (cases_order k m);
}

-- an earlier sibling of an earlier one is one
pub earlier_of_earlier : (dom : Dom) (k m n : ℕ) → IsEarlierSibling dom k m → IsEarlierSibling dom m n → IsEarlierSibling dom k n
earlier_of_earlier dom k m n h p =
    let lt = h.before in
    let more = p.before in
    record { before = omega arith; element = h.element; beside = h.beside ∙ p.beside }

-- where more than one element can stand to the left, what stands so to one of them stands so too
pub stands_on : (dom : Dom) (join : Join) (k m n : ℕ) → is_near join ≡ false → Stands dom join k m → Stands dom join m n
    → Stands dom join k n
stands_on dom Descendant k m n far h p = ancestor_of_ancestor dom k m n h p
stands_on dom Child k m n far h p = absurd cc
stands_on dom Next k m n far h p = absurd cc
stands_on dom Later k m n far h p = earlier_of_earlier dom k m n h p

-- The nearest by what a look at the parent or at the earlier siblings gives.

pub parent_gives : (dom : Dom) (n : ℕ) → ParentsAreEarlier dom → (o : Option ℕ) → o ≡ parent_at dom n
    → MatchOption o ((m : ℕ) → Stands dom Child m n → ⊥) (λ m. IsNearest dom Child m n)
parent_gives dom n parents None e = λ m h. none-some m (e ∙ h)
parent_gives dom n parents (Some m) e = nearest_child dom m n parents (sym e)

pub ancestor_gives : (dom : Dom) (n : ℕ) → ParentsAreEarlier dom → (o : Option ℕ) → o ≡ parent_at dom n
    → MatchOption o ((m : ℕ) → Stands dom Descendant m n → ⊥) (λ m. IsNearest dom Descendant m n)
ancestor_gives dom n parents None e = λ m h. ancestor_of_none dom m n (sym e) h
ancestor_gives dom n parents (Some m) e = nearest_ancestor dom m n parents (sym e)

pub next_gives : (dom : Dom) (n : ℕ) (o : Option ℕ)
    → MatchOption o ((m : ℕ) → IsEarlierSibling dom m n → ⊥) (λ m. IsPreviousSibling dom m n)
    → MatchOption o ((m : ℕ) → Stands dom Next m n → ⊥) (λ m. IsNearest dom Next m n)
next_gives dom n None h = λ m p. h m p.earlier
next_gives dom n (Some m) h = nearest_next dom m n h

pub later_gives : (dom : Dom) (n : ℕ) (o : Option ℕ)
    → MatchOption o ((m : ℕ) → IsEarlierSibling dom m n → ⊥) (λ m. IsPreviousSibling dom m n)
    → MatchOption o ((m : ℕ) → Stands dom Later m n → ⊥) (λ m. IsNearest dom Later m n)
later_gives dom n None h = h
later_gives dom n (Some m) h = nearest_later dom m n h
