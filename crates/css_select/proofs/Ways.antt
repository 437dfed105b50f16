-- Ways to the left in a selector.
use Rattle.std.proofs.Common.{◌≡◌, ℕ, zero, suc, ◌<◌, ◌≤◌, ◌⊎◌, inl, inr, Bool, true, false, Option, Some, None, refl, sym, ap}
use Rattle.std.proofs.Common.{subst, ◌∙◌, arith}
use Rattle.std.specs.Prelude.{slice_get, IsSomeAnd}
use Rattle.std.proofs.lemmas.Bool.{cases_lt}
use Rattle.std.proofs.lemmas.Option.{same_Some}
use Rattle.html_grammar.specs.declared.dom.Dom.{Dom}
use Rattle.css_data.specs.declared.selector.Join.{Join}
use Rattle.css_data.specs.declared.selector.Join.TheVariants.{Descendant, Child, Next, Later}
use Rattle.css_data.specs.declared.selector.Selector.{Selector}
use Rattle.css_select.specs.Places.{parent_at, IsAncestor, IsEarlierSibling, IsPreviousSibling}
use Rattle.css_select.specs.Matching.{Stands}
use Rattle.css_select.specs.Walking.{is_near, is_level, any_join, MeetsAt, JoinedBy, UpTo, Comes, StopsAt}
use Rattle.css_select.proofs.Ancestors.{ancestor_of_ancestor, ancestor_beside, ancestor_from_parent}
use Rattle.css_select.proofs.Nearest.{one_previous, earlier_of_earlier}

-- two facts on what stands there
pub both_at : {X : Type 0} {T : Type 0} (o : Option X) (P Q : X → Type 0) → ((x : X) → P x → Q x → T) → IsSomeAnd o P
    → IsSomeAnd o Q → T
both_at None P Q f p q = absurd p
both_at (Some x) P Q f p q = f x p q

pub same_at : {X : Type 0} (o : Option X) (P Q R : X → Type 0) → ((x : X) → P x → Q x → R x) → IsSomeAnd o P → IsSomeAnd o Q
    → IsSomeAnd o R
same_at None P Q R f p q = absurd p
same_at (Some x) P Q R f p q = f x p q

pub also_at : {X : Type 0} (o : Option X) (P R : X → Type 0) → ((x : X) → P x → R x) → IsSomeAnd o P → IsSomeAnd o R
also_at None P R f p = absurd p
also_at (Some x) P R f p = f x p

module _ (dom : Dom) (s : Selector) where
  -- a way goes on
  pub comes_on : (p : Join → Bool) (i n q l r k : ℕ) → Comes p dom s i n q l → Comes p dom s q l r k → Comes p dom s i n r k
  comes_on p zero n q l r k (a, b) h =
      let P : ℕ → Type 0 = λ v. Comes p dom s v l r k in
      let Q : ℕ → Type 0 = λ v. Comes p dom s zero v r k in
      subst Q b (subst P a h)
  comes_on p (suc i) n q l r k (inl (a, b)) h =
      let P : ℕ → Type 0 = λ v. Comes p dom s v l r k in
      let Q : ℕ → Type 0 = λ v. Comes p dom s (suc i) v r k in
      subst Q b (subst P a h)
  comes_on p (suc i) n q l r k (inr (m, meets, joined, more)) h = inr (m, meets, joined, comes_on p i m q l r k more h)

  -- and by more joins
  pub comes_by : (p q : Join → Bool) → ((j : Join) → p j ≡ true → q j ≡ true) → (i n r k : ℕ) → Comes p dom s i n r k
      → Comes q dom s i n r k
  comes_by p q more zero n r k h = h
  comes_by p q more (suc i) n r k (inl h) = inl h
  comes_by p q more (suc i) n r k (inr (m, meets, joined, h)) =
      inr (
        m,
        meets,
        also_at (slice_get s.joins i) (λ j. (p j ≡ true) × Stands dom j m n) (λ j. (q j ≡ true) × Stands dom j m n)
            (λ j x. (more j x.0, x.1)) joined,
        comes_by p q more i m r k h,
      )

  pub comes_within : (p : Join → Bool) (i n q l : ℕ) → Comes p dom s i n q l → q ≤ i
  comes_within p zero n q l (a, b) = omega arith
  comes_within p (suc i) n q l (inl (a, b)) = omega arith
  comes_within p (suc i) n q l (inr (m, meets, joined, more)) = let h = comes_within p i m q l more in omega arith

  pub any_by : (p : Join → Bool) (i m n : ℕ) → JoinedBy p dom s i m n → JoinedBy any_join dom s i m n
  any_by p i m n joined = also_at (slice_get s.joins i) (λ j. (p j ≡ true) × Stands dom j m n)
      (λ j. (any_join j ≡ true) × Stands dom j m n) (λ j x. (refl, x.1)) joined

  -- what matches at the end of a way makes its beginning match
  pub up_from : (p : Join → Bool) (i n q l : ℕ) → Comes p dom s i n q l → UpTo dom s q l → UpTo dom s i n
  up_from p zero n q l (a, b) h =
      let P : ℕ → Type 0 = λ v. UpTo dom s v l in
      let Q : ℕ → Type 0 = λ v. UpTo dom s zero v in
      subst Q b (subst P a h)
  up_from p (suc i) n q l (inl (a, b)) h =
      let P : ℕ → Type 0 = λ v. UpTo dom s v l in
      let Q : ℕ → Type 0 = λ v. UpTo dom s (suc i) v in
      subst Q b (subst P a h)
  up_from p (suc i) n q l (inr (m, meets, joined, more)) h = (m, meets, any_by p i m n joined, up_from p i m q l more h)

  -- the first is the second or an earlier sibling of it
  abbrev pub Beside : ℕ → ℕ → Type 0
  Beside k m = (k ≡ m) ⊎ IsEarlierSibling dom k m

  pub beside_parents : (k m : ℕ) → Beside k m → parent_at dom k ≡ parent_at dom m
  beside_parents k m (inl e) = ap (parent_at dom) e
  beside_parents k m (inr h) = h.beside

  before_previous : (m2 n2 m1 n1 : ℕ) → IsPreviousSibling dom m2 n2 → IsPreviousSibling dom m1 n1 → IsEarlierSibling dom n2 n1
      → (m1 < n2) ⊎ (n2 ≤ m1) → Beside m2 m1
  before_previous m2 n2 m1 n1 h p e (inl lt) = absurd (p.nearest n2 lt e)
  before_previous m2 n2 m1 n1 h p e (inr le) =
      let lt = h.earlier.before in
      inr (record {
        before = omega arith;
        element = h.earlier.element;
        beside = (h.earlier.beside ∙ e.beside)
            ∙ sym p.earlier.beside;
      })

  previous_beside : (m2 n2 m1 n1 : ℕ) → IsPreviousSibling dom m2 n2 → IsPreviousSibling dom m1 n1 → Beside n2 n1 → Beside m2 m1
  previous_beside m2 n2 m1 n1 h p (inl e) = let P : ℕ → Type 0 = λ v. IsPreviousSibling dom m2 v
      in inl (one_previous dom m2 m1 n1 (subst P e h) p)
  previous_beside m2 n2 m1 n1 h p (inr e) = before_previous m2 n2 m1 n1 h p e (cases_lt m1 n2)

  near_beside : (j : Join) (m2 n2 m1 n1 : ℕ) → Beside n2 n1 → Stands dom j m2 n2 → is_near j ≡ true → Stands dom j m1 n1
      → Beside m2 m1
  near_beside Descendant m2 n2 m1 n1 b h near p = absurd cc
  near_beside Child m2 n2 m1 n1 b h near p = inl (same_Some m2 m1 (sym h ∙ (beside_parents n2 n1 b ∙ p)))
  near_beside Next m2 n2 m1 n1 b h near p = previous_beside m2 n2 m1 n1 h p b
  near_beside Later m2 n2 m1 n1 b h near p = absurd cc

  -- a way by near joins from the farther of two siblings ends beside the one from the nearer
  pub near_ends : (i n2 n1 q l1 : ℕ) → UpTo dom s i n2 → Comes is_near dom s i n1 q l1 → Beside n2 n1
      → (l2 : ℕ) × UpTo dom s q l2 × Beside l2 l1
  near_ends zero n2 n1 q l1 up (a, b) h =
      let P : ℕ → Type 0 = λ v. UpTo dom s v n2 in
      let Q : ℕ → Type 0 = λ v. Beside n2 v in
      (n2, subst P (sym a) up, subst Q (sym b) h)
  near_ends (suc i) n2 n1 q l1 up (inl (a, b)) h =
      let P : ℕ → Type 0 = λ v. UpTo dom s v n2 in
      let Q : ℕ → Type 0 = λ v. Beside n2 v in
      (n2, subst P (sym a) up, subst Q (sym b) h)
  near_ends (suc i) n2 n1 q l1 (m2, meets2, joined2, up2) (inr (m1, meets, joined1, more)) h =
      near_ends i m2 m1 q l1 up2 more
      (both_at (slice_get s.joins i) (λ j. (any_join j ≡ true) × Stands dom j m2 n2)
      (λ j. (is_near j ≡ true) × Stands dom j m1 n1) (λ j x y. near_beside j m2 n2 m1 n1 h x.1 y.0 y.1) joined2 joined1)

  -- each ancestor of the first is one of the second
  abbrev pub IsUnder : ℕ → ℕ → Type 0
  IsUnder k m = (a : ℕ) → IsAncestor dom a k → IsAncestor dom a m

  pub beside_under : (k m : ℕ) → parent_at dom k ≡ parent_at dom m → IsUnder k m
  beside_under k m e a h = ancestor_beside dom a k m e h

  parent_under : (m2 n1 m1 : ℕ) → parent_at dom n1 ≡ Some m1 → (m2 ≡ m1) ⊎ IsAncestor dom m2 m1 → IsUnder m2 m1
  parent_under m2 n1 m1 e (inl same) a h = let P : ℕ → Type 0 = λ v. IsAncestor dom a v in subst P same h
  parent_under m2 n1 m1 e (inr up) a h = ancestor_of_ancestor dom a m2 m1 h up

  siblings_under : (m2 n2 m1 n1 : ℕ) → IsUnder n2 n1 → parent_at dom m2 ≡ parent_at dom n2 → parent_at dom m1 ≡ parent_at dom n1
      → IsUnder m2 m1
  siblings_under m2 n2 m1 n1 u e f a h = ancestor_beside dom a n1 m1 (sym f) (u a (ancestor_beside dom a m2 n2 e h))

  level_under : (j : Join) (m2 n2 m1 n1 : ℕ) → IsUnder n2 n1 → Stands dom j m2 n2 → is_level j ≡ true → Stands dom j m1 n1
      → IsUnder m2 m1
  level_under Descendant m2 n2 m1 n1 u h level p = absurd cc
  level_under Child m2 n2 m1 n1 u h level p = parent_under m2 n1 m1 p (ancestor_from_parent dom m2 n1 m1 p (u m2 (zero, h)))
  level_under Next m2 n2 m1 n1 u h level p = siblings_under m2 n2 m1 n1 u h.earlier.beside p.earlier.beside
  level_under Later m2 n2 m1 n1 u h level p = siblings_under m2 n2 m1 n1 u h.beside p.beside

  -- a way without descendants' joins from the farther of two ancestors ends at a place with no other ancestors
  pub level_ends : (i n2 n1 q l1 : ℕ) → UpTo dom s i n2 → Comes is_level dom s i n1 q l1 → IsUnder n2 n1
      → (l2 : ℕ) × UpTo dom s q l2 × IsUnder l2 l1
  level_ends zero n2 n1 q l1 up (a, b) h =
      let P : ℕ → Type 0 = λ v. UpTo dom s v n2 in
      let Q : ℕ → Type 0 = λ v. IsUnder n2 v in
      (n2, subst P (sym a) up, subst Q (sym b) h)
  level_ends (suc i) n2 n1 q l1 up (inl (a, b)) h =
      let P : ℕ → Type 0 = λ v. UpTo dom s v n2 in
      let Q : ℕ → Type 0 = λ v. IsUnder n2 v in
      (n2, subst P (sym a) up, subst Q (sym b) h)
  level_ends (suc i) n2 n1 q l1 (m2, meets2, joined2, up2) (inr (m1, meets, joined1, more)) h =
      level_ends i m2 m1 q l1 up2 more
      (both_at (slice_get s.joins i) (λ j. (any_join j ≡ true) × Stands dom j m2 n2)
      (λ j. (is_level j ≡ true) × Stands dom j m1 n1) (λ j x y. level_under j m2 n2 m1 n1 h x.1 y.0 y.1) joined2 joined1)

  -- what stands to the left of an element stands to the left of a better one too

  later_beside : (m l2 l1 : ℕ) → IsEarlierSibling dom m l2 → Beside l2 l1 → IsEarlierSibling dom m l1
  later_beside m l2 l1 h (inl e) = let P : ℕ → Type 0 = λ v. IsEarlierSibling dom m v in subst P e h
  later_beside m l2 l1 h (inr b) = earlier_of_earlier dom m l2 l1 h b

  left_beside : (j : Join) (m l2 l1 : ℕ) → Beside l2 l1 → Stands dom j m l2 → is_near j ≡ false → Stands dom j m l1
  left_beside Descendant m l2 l1 b h far = ancestor_beside dom m l2 l1 (beside_parents l2 l1 b) h
  left_beside Child m l2 l1 b h far = absurd cc
  left_beside Next m l2 l1 b h far = absurd cc
  left_beside Later m l2 l1 b h far = later_beside m l2 l1 h b

  left_under : (j : Join) (m l2 l1 : ℕ) → IsUnder l2 l1 → Stands dom j m l2 → is_level j ≡ false → Stands dom j m l1
  left_under Descendant m l2 l1 u h far = u m h
  left_under Child m l2 l1 u h far = absurd cc
  left_under Next m l2 l1 u h far = absurd cc
  left_under Later m l2 l1 u h far = absurd cc

  pub up_beside : (q l2 l1 : ℕ) → StopsAt is_near s q → MeetsAt dom s q l1 → UpTo dom s q l2 → Beside l2 l1 → UpTo dom s q l1
  up_beside zero l2 l1 stops meets up b = absurd stops
  up_beside (suc q) l2 l1 stops meets (m, meets2, joined, up) b = (
    m,
    meets,
    same_at (slice_get s.joins q) (λ j. (any_join j ≡ true) × Stands dom j m l2) (λ j. is_near j ≡ false)
        (λ j. (any_join j ≡ true) × Stands dom j m l1) (λ j x y. (refl, left_beside j m l2 l1 b x.1 y)) joined stops,
    up,
  )

  pub up_under : (q l2 l1 : ℕ) → StopsAt is_level s q → MeetsAt dom s q l1 → UpTo dom s q l2 → IsUnder l2 l1 → UpTo dom s q l1
  up_under zero l2 l1 stops meets up u = absurd stops
  up_under (suc q) l2 l1 stops meets (m, meets2, joined, up) u = (
    m,
    meets,
    same_at (slice_get s.joins q) (λ j. (any_join j ≡ true) × Stands dom j m l2) (λ j. is_level j ≡ false)
        (λ j. (any_join j ≡ true) × Stands dom j m l1) (λ j x y. (refl, left_under j m l2 l1 u x.1 y)) joined stops,
    up,
  )
