-- The items of a column: one after another, up to the next forced seam or the end.
use Rattle.std.proofs.Common.{◌≡◌, ℕ, zero, suc, ◌+◌, ◌-◌, Bool, true, false, List, [], ◌∷◌, length, Some, refl, sym, ◌∙◌, ap}
use Rattle.std.proofs.Common.{subst, arith, ◌⊎◌, inl, inr}
use Rattle.std.specs.Prelude.{slice_get}
use Rattle.flow_data.specs.Flows.{seam_of}
use Rattle.flow_list.specs.Data.{Flow, FlowsData}
use Rattle.flow_list.specs.Strip.{Strip, lay_all}
use Rattle.flow_list.specs.Tokens.{Token, item_number, row_start, within}
use Rattle.flow_list.specs.Column.{Inner, is_forced, start_strip, Step, steps, steps_from, strip_behind}
use Rattle.flow_list.proofs.ColumnParts.{EachFrom, steps-each}
use Rattle.piece_laws.specs.Choice.{AreColumnItems}

each-at : (P : ℕ → Step → Type 0) (k : ℕ) (ss : List Step) → EachFrom P k ss → (n : ℕ) (s : Step) → slice_get ss n ≡ Some s →
    P (k + n) s
each-at P k [] all n s e = absurd cc
each-at P k (x ∷ ss) all zero s e =
    let same : x ≡ s = cc in let at : k ≡ k + 0 = omega arith in
    subst (λ (m : ℕ). P m s) at (subst (P k) same all.0)
each-at P k (x ∷ ss) all (suc n) s e =
    let at : k + 1 + n ≡ k + suc n = omega arith in
    subst (λ (m : ℕ). P m s) at (each-at P (k + 1) ss all.1 n s e)

module _ (inner : Inner) (d : FlowsData) (f : Flow) where
  abbrev Numbered : ℕ → Step → Type 0
  Numbered k s = (s.item ≡ k) × (s.level ≡ (seam_of f s.item).level)

  numbered : (s : Strip) (k : ℕ) (q : Token) (n : ℕ) → EachFrom Numbered k (steps inner d f s k q n)
  numbered s k q n = steps-each inner d f (λ s k q n. Unit {0}) Numbered (λ s k q n known. (refl, refl))
      (λ s k q n known. tt) s k q n tt

  abbrev later_steps : Strip → ℕ → Token → ℕ → List Step
  later_steps s k q n = steps inner d f (lay_all (strip_behind inner f s k q) (seam_of f (k + 1)).head) (k + 1) row_start n

  unforced : (s : Strip) (k : ℕ) (q : Token) (n i : ℕ) (z : Step) → slice_get (steps inner d f s k q n) (suc i) ≡ Some z →
      is_forced (seam_of f (k + suc i)).level ≡ false
  unfolding steps
  unforced s k q zero i z e = absurd cc
  unforced s k q (suc n) i z e =
      go (is_forced (seam_of f (k + 1)).level) refl i e
      (λ i e. unforced (lay_all (strip_behind inner f s k q) (seam_of f (k + 1)).head) (k + 1) row_start n i z e)
    where
      go : (b : Bool) → is_forced (seam_of f (k + 1)).level ≡ b → (i : ℕ) →
          slice_get (elim b as (λ _. List Step) [ true ↦ [] | false ↦ later_steps s k q n ]) i ≡ Some z →
          ((i : ℕ) → slice_get (later_steps s k q n) (suc i) ≡ Some z → is_forced (seam_of f (k + 1 + suc i)).level ≡ false) →
          is_forced (seam_of f (k + suc i)).level ≡ false
      go true is i e again = absurd cc
      go false is zero e again = is
      go false is (suc i) e again =
          let at : k + 1 + suc i ≡ k + suc (suc i) = omega arith in
          subst (λ (m : ℕ). is_forced (seam_of f m).level ≡ false) at (again i e)

  abbrev EndsAt : ℕ → Type 0
  EndsAt m = (m ≡ length f.items) ⊎ (is_forced (seam_of f m).level ≡ true)

  to-forced : (s : Strip) (k : ℕ) (q : Token) (n : ℕ) → k + n ≡ length f.items → EndsAt (k + length (steps inner d f s k q n))
  unfolding steps
  to-forced s k q zero e = inl e
  to-forced s k q (suc n) e =
      go (is_forced (seam_of f (k + 1)).level) refl
      (to-forced (lay_all (strip_behind inner f s k q) (seam_of f (k + 1)).head) (k + 1) row_start n (omega arith))
    where
      go : (b : Bool) → is_forced (seam_of f (k + 1)).level ≡ b → EndsAt (k + 1 + length (later_steps s k q n)) →
          EndsAt (k + suc (length (elim b as (λ _. List Step) [ true ↦ [] | false ↦ later_steps s k q n ])))
      go true is later = inr is
      go false is later = let at : k + 1 + length (later_steps s k q n) ≡ k + suc (length (later_steps s k q n)) = omega arith in
          subst EndsAt at later

  pub column-items : (t : Token) → AreColumnItems f t (steps_from inner d f t)
  column-items t = record {
    numbered = λ k s e. (each-at Numbered i items all k s e).0;
    level = λ k s e. (each-at Numbered i items all k s e).1;
    unforced = λ k s e.
        let at = each-at Numbered i items all (suc k) s e in
        ap (λ l. is_forced l) at.1 ∙ subst (λ (m : ℕ). is_forced (seam_of f m).level ≡ false) (sym at.0)
        (unforced (start_strip d f t) i (within t) (length f.items - i) k s e);
    to_forced = λ le. to-forced (start_strip d f t) i (within t) (length f.items - i) (omega arith);
  }
    where
      i : ℕ
      i = item_number t

      items : List Step
      items = steps_from inner d f t

      all : EachFrom Numbered i items
      all = numbered (start_strip d f t) i (within t) (length f.items - i)
