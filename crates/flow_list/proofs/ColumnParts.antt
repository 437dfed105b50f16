-- What holds of each item of a column, of each up to its stop, and of the place where it ends: the inductions over `steps`, `cut`
-- and `choose`, each once.
use Rattle.std.proofs.Common.{◌≡◌, ℕ, zero, suc, ◌+◌, ◌<◌, Bool, true, false, cond, not, ◌&&◌, List, [], ◌∷◌, ◌++◌, length}
use Rattle.std.proofs.Common.{Option, Some, None, refl, subst, arith, ◌⊎◌, inl, inr}
use Rattle.std.specs.Prelude.{nat_lt, nat_le}
use Rattle.std.specs.List.{AllByRecursion as Each}
use Rattle.std.proofs.lemmas.Bool.{ltb-true}
use Rattle.flow_list.specs.Data.{Flow, FlowsData}
use Rattle.flow_data.specs.Flows.{seam_of}
use Rattle.flow_list.specs.Strip.{Strip, lay_all}
use Rattle.flow_list.specs.Tokens.{Token, row_start}
use Rattle.flow_list.specs.Column.{Inner, Place, Step, alone_place, best, choose, cut, fill_in_room, inside, inside_place, is_cut}
use Rattle.flow_list.specs.Column.{is_forced, longer, place_in, room, seams_between, step_at, steps, stopped, strip_behind}
use Rattle.flow_list.specs.Column.{whole_place}
use Rattle.flow_list.proofs.PlaceBounds.{Each-append}

-- ---- the items of a column

-- these items, of which the first has number k, are so, each by its number
abbrev pub EachFrom : (ℕ → Step → Type 0) → ℕ → List Step → Type 0
EachFrom P k [] = Unit {0}
EachFrom P k (s ∷ ss) = P k s × EachFrom P (k + 1) ss

module _ (inner : Inner) (d : FlowsData) (f : Flow) (Before : Strip → ℕ → Token → ℕ → Type 0) (P : ℕ → Step → Type 0) where
  -- what is known before the first item, and is handed on from item to item where no forced seam stands between, holds of each
  pub steps-each : ((s : Strip) (k : ℕ) (q : Token) (n : ℕ) → Before s k q (suc n) → P k (step_at inner d f s k q)) →
      ((s : Strip) (k : ℕ) (q : Token) (n : ℕ) → Before s k q (suc n)
      → Before (lay_all (strip_behind inner f s k q) (seam_of f (k + 1)).head) (k + 1) row_start n) →
      (s : Strip) (k : ℕ) (q : Token) (n : ℕ) → Before s k q n → EachFrom P k (steps inner d f s k q n)
  unfolding steps
  steps-each here next s k q zero known = tt
  steps-each here next s k q (suc n) known = (
    here s k q n known,
    go (is_forced (seam_of f (k + 1)).level)
        (steps-each here next (lay_all (strip_behind inner f s k q) (seam_of f (k + 1)).head) (k + 1) row_start n
        (next s k q n known)),
  )
    where
      more : List Step
      more = steps inner d f (lay_all (strip_behind inner f s k q) (seam_of f (k + 1)).head) (k + 1) row_start n

      go : (b : Bool) → EachFrom P (k + 1) more → EachFrom P (k + 1) (elim b [ true ↦ [] | false ↦ more ])
      go true all = tt
      go false all = all

-- there is a first item where there is one left
pub some-steps : (inner : Inner) (d : FlowsData) (f : Flow) (s : Strip) (k : ℕ) (q : Token) (n : ℕ) → 0 < n
    → (first : Step) × (more : List Step) × (steps inner d f s k q n ≡ first ∷ more)
unfolding steps
some-steps inner d f s k q zero lt = absurd (omega arith)
some-steps inner d f s k q (suc n) lt = (_, _, refl)

-- ---- the items up to the stop

-- the items before the stop, and the stop where there is one
abbrev pub through : List Step → Option Step → List Step
through before None = before
through before (Some s) = before ++ s ∷ []

pub cut-each : (P : ℕ → Step → Type 0) (h k : ℕ) (ss : List Step) → EachFrom P k ss
    → EachFrom P k (through (cut h ss).before (cut h ss).stop)
cut-each P h k [] all = tt
cut-each P h k (s ∷ ss) all = go (nat_lt h s.need) (cut-each P h (k + 1) ss all.1)
  where
    more : (stop : Option Step) → EachFrom P (k + 1) (through (cut h ss).before stop)
        → EachFrom P k (through (s ∷ (cut h ss).before) stop)
    more None rest = (all.0, rest)
    more (Some z) rest = (all.0, rest)

    go : (b : Bool) → EachFrom P (k + 1) (through (cut h ss).before (cut h ss).stop) →
        EachFrom P k (through (cond b (record { before = []; stop = Some s }) (longer s (cut h ss))).before
        (cond b (record { before = []; stop = Some s }) (longer s (cut h ss))).stop)
    go true rest = (all.0, tt)
    go false rest = more (cut h ss).stop rest

-- the stop is the item after those before it
pub last-each : (P : ℕ → Step → Type 0) (k : ℕ) (before : List Step) (s : Step) → EachFrom P k (before ++ s ∷ [])
    → P (k + length before) s
last-each P k [] s all = let e : k ≡ k + 0 = omega arith in subst (λ n. P n s) e all.0
last-each P k (b ∷ before) s all = let e : k + 1 + length before ≡ k + suc (length before) = omega arith
    in subst (λ n. P n s) e (last-each P (k + 1) before s all.1)

-- what is so of the stop, where there is one
abbrev pub OfStop : (Step → Type 0) → Option Step → Type 0
OfStop P None = Unit {0}
OfStop P (Some s) = P s

stop-of : (P : Step → Type 0) (k : ℕ) (before : List Step) (stop : Option Step) → EachFrom (λ n. P) k (through before stop)
    → OfStop P stop
stop-of P k before None all = tt
stop-of P k before (Some s) all = last-each (λ n. P) k before s all

pub cut-stop : (P : Step → Type 0) (h k : ℕ) (ss : List Step) → EachFrom (λ n. P) k ss → OfStop P (cut h ss).stop
cut-stop P h k ss all = stop-of P k (cut h ss).before (cut h ss).stop (cut-each (λ n. P) h k ss all)

-- a column without a stop has an item where its items have one
pub cut-some : (h : ℕ) (s : Step) (ss : List Step) → (cut h (s ∷ ss)).stop ≡ None
    → (first : Step) × (more : List Step) × ((cut h (s ∷ ss)).before ≡ first ∷ more)
cut-some h s ss = go (nat_lt h s.need)
  where
    go : (b : Bool) → (cond b (record { before = []; stop = Some s }) (longer s (cut h ss))).stop ≡ None →
        (first : Step) × (more : List Step)
        × ((cond b (record { before = []; stop = Some s }) (longer s (cut h ss))).before ≡ first ∷ more)
    go true e = cc
    go false e = (s, (cut h ss).before, refl)

-- ---- the place where a column ends

module _ (P : Place → Type 0) where
  pub best-each : (p : Place) (ps : List Place) → P p → Each P ps → P (best p ps)
  best-each p [] first all = first
  best-each p (q ∷ qs) first all = best-each (cond (nat_le q.level p.level) q p) qs (go (nat_le q.level p.level)) all.1
    where
      go : (b : Bool) → P (cond b q p)
      go true = all.0
      go false = first

  pub choose-each : (ps : List Place) (other : Place) → Each P ps → P other → P (choose ps other)
  choose-each [] other all alone = alone
  choose-each (p ∷ ps) other all alone = best-each p ps all.0 all.1

-- the place after the stop as a whole, and the one inside it, whether it overflows or not
module _ (P : Place → Type 0) (inner : Inner) (avoids : Bool) (h : ℕ) (s : Step) where
  abbrev pub WholeIs : Option (ℕ × Token) → Type 0
  WholeIs row = (row ≡ None) ⊎ (nat_lt (room s h) s.height ≡ false) → P (whole_place s)

  abbrev pub WithinIs : Option (ℕ × Token) → Type 0
  WithinIs row =
      (r : ℕ × Token) (over : Bool) → row ≡ Some r → room s h < s.height →
      let p = inside_place avoids s (room s h) (inner.fill r.0 r.1 (room s h))
      in P (record { level = p.level; end = p.end; extent = p.extent; overflow = over })

  pub stop-each : (row : Option (ℕ × Token)) → WholeIs row → WithinIs row
      → Each P (inside avoids s h (fill_in_room inner row (room s h)))
      × P (alone_place avoids s h (fill_in_room inner row (room s h)))
  stop-each None whole within = (tt, whole (inl refl))
  stop-each (Some r) whole within =
      (one (is_cut s h && not (inner.fill r.0 r.1 (room s h)).overflow) refl, other (nat_lt (room s h) s.height) refl)
    where
      middle : (a b c : Bool) → ((a && b) && c) ≡ true → b ≡ true
      middle true true c e = refl
      middle true false c e = cc
      middle false b c e = cc

      one : (b : Bool) → (is_cut s h && not (inner.fill r.0 r.1 (room s h)).overflow) ≡ b
          → Each P (cond b (inside_place avoids s (room s h) (inner.fill r.0 r.1 (room s h)) ∷ []) [])
      one true e =
          let low = middle (nat_le (s.y + s.bottoms) h) (nat_lt (room s h) s.height)
          (not (inner.fill r.0 r.1 (room s h)).overflow) e in (
            within r (inside_place avoids s (room s h) (inner.fill r.0 r.1 (room s h))).overflow refl
                (ltb-true (room s h) s.height low),
            tt,
          )
      one false e = tt

      other : (b : Bool) → nat_lt (room s h) s.height ≡ b →
          let p = inside_place avoids s (room s h) (inner.fill r.0 r.1 (room s h))
          in P (cond b (record { level = p.level; end = p.end; extent = p.extent; overflow = true }) (whole_place s))
      other true e = within r true refl (ltb-true (room s h) s.height e)
      other false e = whole (inr e)

  -- the place where a column with this stop ends: a seam up to the stop, or one of those
  pub stopped-each : (before : List Step) (row : Option (ℕ × Token)) → Each P (seams_between (before ++ s ∷ [])) → WholeIs row
      → WithinIs row → P (place_in (stopped avoids h before s (fill_in_room inner row (room s h))))
  stopped-each before row seams whole within =
      let filled = fill_in_room inner row (room s h) in
      let m = stop-each row whole within in
      choose-each P (seams_between (before ++ s ∷ []) ++ inside avoids s h filled) (alone_place avoids s h filled)
      (Each-append P (seams_between (before ++ s ∷ [])) (inside avoids s h filled) seams m.0) m.1
