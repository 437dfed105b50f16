-- Where a column ends is the best place where it may end.
use Rattle.std.proofs.Common.{◌≡◌, ℕ, zero, suc, ◌+◌, ◌<◌, ◌≤◌, Bool, true, false, cond, List, [], ◌∷◌, ◌++◌, length, Option}
use Rattle.std.proofs.Common.{Some, None, refl, sym, ◌∙◌, ap, subst, arith, ◌⊎◌, inl, inr}
use Rattle.std.specs.Prelude.{nat_lt, slice_get}
use Rattle.std.proofs.lemmas.Bool.Decides.{nat_tests}
use Rattle.std.proofs.lemmas.List.{length-append}
use Rattle.flow_list.specs.Data.{Flow, FlowsData}
use Rattle.flow_list.specs.Tokens.{Token}
use Rattle.flow_list.specs.Column.{alone_place, avoids_at, best, choose, Column, column, ColumnLine, column_up_to, Cut, cut}
use Rattle.flow_list.specs.Column.{fill_in_room, inside, inside_place, Inner, last_place, longer, no_place, Place, place_in, room}
use Rattle.flow_list.specs.Column.{seams_between, Step, steps_from, whole_place}
use Rattle.piece_laws.specs.Choice.{AllFit, ColumnIsChosen, IsAlone, IsBest, IsCandidate, IsStop}
use Rattle.piece_laws.proofs.Best.{best-choice, IsChoice}
use Rattle.piece_laws.proofs.Items.{column-items}
use Rattle.piece_laws.proofs.SeamPlaces.{between-from, between-length, between-to, cut-is, get-left, get-right, get-which}
use Rattle.piece_laws.proofs.SeamPlaces.{inside-from, inside-to, prefix-from, prefix-length, prefix-to, up_to}

-- ---- a column with a stop

module _ (inner : Inner) (avoids : Bool) (h : ℕ) (ss : List Step) (j : ℕ) (s : Step) (i : IsStop h ss j s) where
  abbrev Candidate : ℕ → Place → Type 0
  Candidate k p = IsCandidate inner avoids h ss j s k p

  abbrev within_stop : List Place
  within_stop = inside avoids s h (fill_in_room inner s.row (room s h))

  abbrev places : List Place
  places = seams_between (up_to ss j s) ++ within_stop

  seam-count : length (seams_between (up_to ss j s)) ≡ j
  seam-count = between-length (up_to ss j s) j (prefix-length ss j s i.among)

  to-candidate : (k : ℕ) (p : Place) → slice_get places k ≡ Some p → Candidate (suc k) p
  to-candidate k p e = go (get-which (seams_between (up_to ss j s)) within_stop k p e)
    where
      go : (slice_get (seams_between (up_to ss j s)) k ≡ Some p)
          ⊎ ((n : ℕ) × (k ≡ length (seams_between (up_to ss j s)) + n) × (slice_get within_stop n ≡ Some p)) → Candidate (suc k) p
      go (inl at) =
          let b = between-to (up_to ss j s) k p at in
          let first = prefix-to ss j s i.among k b.before b.before_is in
          let second = prefix-to ss j s i.among (suc k) b.behind b.behind_is in
          inl (record {
            number = k;
            follows = refl;
            to_stop = second.0;
            before = b.before;
            behind = b.behind;
            before_is = first.1;
            behind_is = second.1;
            is = b.is;
          })
      go (inr (n, is, at)) =
          let r = inside-to inner avoids h s s.row refl n p at in
          let zero_n = r.0 in
          let count = seam-count in
          inr (omega arith, r.1)

  from-candidate : (k : ℕ) (p : Place) → Candidate k p → (n : ℕ) × (k ≡ suc n) × (slice_get places n ≡ Some p)
  from-candidate k p (inl c) =
      let follows = c.follows in
      let to_stop = c.to_stop in
      let behind_at = subst (λ (m : ℕ). slice_get ss m ≡ Some c.behind) follows c.behind_is in
      let first = prefix-from ss j s i.among c.number c.before (omega arith) c.before_is in
      let second = prefix-from ss j s i.among (suc c.number) c.behind (omega arith) behind_at in
      let at = between-from (up_to ss j s) c.number c.before c.behind first second ∙ ap Some (sym c.is) in
      (c.number, follows, get-left (seams_between (up_to ss j s)) within_stop c.number p at)
  from-candidate k p (inr c) =
      let count = seam-count in (
        j,
        c.0,
        get-right (seams_between (up_to ss j s)) within_stop j 0 p (omega arith)
            (inside-from inner avoids h s s.row refl p c.1),
      )

  abbrev alone : Place
  alone = alone_place avoids s h (fill_in_room inner s.row (room s h))

  abbrev Chosen : Place → Type 0
  Chosen p = ((k : ℕ) × IsBest Candidate k p) ⊎ IsAlone inner avoids h Candidate j s p

  best-of : (k : ℕ) (p : Place) → IsChoice places k p → IsBest Candidate (suc k) p
  best-of k p c = record {
    candidate = to-candidate k p c.at;
    least = λ n q cand. let r = from-candidate n q cand in c.least r.0 q r.2;
    latest = λ n q cand lt. let r = from-candidate n q cand in let is = r.1 in c.latest r.0 q r.2 (omega arith);
  }

  -- ---- nowhere to end

  abbrev alone_by : Option (ℕ × Token) → Place
  alone_by row = alone_place avoids s h (fill_in_room inner row (room s h))

  abbrev filled_place : ℕ × Token → Place
  filled_place r = let p = inside_place avoids s (room s h) (inner.fill r.0 r.1 (room s h)) in
      record { level = p.level; end = p.end; extent = p.extent; overflow = true }

  alone-is : (row : Option (ℕ × Token)) → s.row ≡ row → ((k : ℕ) (q : Place) → Candidate k q → ⊥) → j ≡ 0 →
      IsAlone inner avoids h Candidate j s (alone_by row)
  alone-is None is none first = record {
    none = none;
    first = first;
    overflow = refl;
    atom = λ e. refl;
    small = λ le. refl;
    filled = λ r e. absurd cc;
  }
  alone-is (Some r) is none first = go (nat_lt (room s h) s.height) refl
    where
      go : (b : Bool) → nat_lt (room s h) s.height ≡ b →
          IsAlone inner avoids h Candidate j s (cond b (filled_place r) (whole_place s))
      go true t = record {
        none = none;
        first = first;
        overflow = refl;
        atom = λ e. absurd cc;
        small = λ le. absurd (grind (arith, nat_tests));
        filled = λ q e lt. let same : r ≡ q = cc in ap filled_place same;
      }
      go false t = record {
        none = none;
        first = first;
        overflow = refl;
        atom = λ e. refl;
        small = λ le. refl;
        filled = λ q e lt. absurd (grind (arith, nat_tests));
      }

  chosen : Chosen (choose places alone)
  chosen = go places refl
    where
      go : (ps : List Place) → places ≡ ps → Chosen (choose ps alone)
      go [] e =
          let n : length places ≡ 0 = ap length e in
          let sum = length-append (seams_between (up_to ss j s)) within_stop in
          let count = seam-count in
          inr (alone-is s.row refl (λ k q c. let r = from-candidate k q c in
          let at = subst (λ ps. slice_get ps r.0 ≡ Some q) e r.2 in absurd cc) (omega arith))
      go (p ∷ ps) e =
          let r = best-choice p ps in
          inl (suc r.0, best-of r.0 (best p ps) (subst (λ qs. IsChoice qs r.0 (best p ps)) (sym e) r.1))

-- ---- a column whose items all fit

cut-whole : (h : ℕ) (ss : List Step) → AllFit h ss → cut h ss ≡ record { before = ss; stop = None }
cut-whole h [] fit = refl
cut-whole h (x ∷ ss) fit = go (nat_lt h x.need) refl (cut-whole h ss (λ k s e. fit (suc k) s e))
  where
    go : (b : Bool) → nat_lt h x.need ≡ b → cut h ss ≡ record { before = ss; stop = None } →
        cond b (record { before = []; stop = Some x }) (longer x (cut h ss))
        ≡ (let c : Cut = record { before = x ∷ ss; stop = None } in c)
    go true e later = absurd (let le = fit 0 x refl in grind (arith, nat_tests))
    go false e later = ap (longer x) later

last-is : (p : Place) (ss : List Step) (n : ℕ) (last : Step) → suc n ≡ length ss → slice_get ss n ≡ Some last →
    last_place p ss ≡ record { level = 0; end = (last.item + 1) ∷ []; extent = last.need; overflow = false }
last-is p [] n last e at = absurd (omega arith)
last-is p (x ∷ []) zero last e at = let same : x ≡ last = cc in
    ap (λ (s : Step). let q : Place = record { level = 0; end = (s.item + 1) ∷ []; extent = s.need; overflow = false } in q) same
last-is p (x ∷ []) (suc n) last e at = absurd (omega arith)
last-is p (x ∷ (y ∷ ss)) zero last e at = absurd (omega arith)
last-is p (x ∷ (y ∷ ss)) (suc n) last e at =
    last-is (record { level = 0; end = (x.item + 1) ∷ []; extent = x.need; overflow = false }) (y ∷ ss) n last (omega arith) at

-- ---- a column

abbrev SomeStop : ℕ → List Step → Type 0
SomeStop h ss = (j : ℕ) × (s : Step) × IsStop h ss j s

find-stop : (h : ℕ) (ss : List Step) → AllFit h ss ⊎ SomeStop h ss
find-stop h [] = inl (λ k s e. absurd cc)
find-stop h (x ∷ ss) = go (nat_lt h x.need) refl (find-stop h ss)
  where
    first-fits : x.need ≤ h → AllFit h ss → (k : ℕ) (s : Step) → slice_get (x ∷ ss) k ≡ Some s → s.need ≤ h
    first-fits le all zero s e = let same : x ≡ s = cc in let n : x.need ≡ s.need = ap (λ (y : Step). y.need) same in omega arith
    first-fits le all (suc k) s e = all k s e

    before-stop : (j : ℕ) (s : Step) → x.need ≤ h → IsStop h ss j s → (k : ℕ) (z : Step) → k < suc j →
        slice_get (x ∷ ss) k ≡ Some z → z.need ≤ h
    before-stop j s le i zero z lt e = let same : x ≡ z = cc in let n : x.need ≡ z.need = ap (λ (y : Step). y.need) same in
        omega arith
    before-stop j s le i (suc k) z lt e = i.first k z (omega arith) e

    later : x.need ≤ h → AllFit h ss ⊎ SomeStop h ss → AllFit h (x ∷ ss) ⊎ SomeStop h (x ∷ ss)
    later le (inl all) = inl (first-fits le all)
    later le (inr (j, s, i)) = inr (suc j, s, record { among = i.among; above = i.above; first = before-stop j s le i })

    go : (b : Bool) → nat_lt h x.need ≡ b → AllFit h ss ⊎ SomeStop h ss → AllFit h (x ∷ ss) ⊎ SomeStop h (x ∷ ss)
    go true e rest = inr (
      0,
      x,
      record {
        among = refl;
        above = grind (arith, nat_tests);
        first = λ k s lt e. absurd (omega arith);
      },
    )
    go false e rest = later (grind (arith, nat_tests)) rest

module _ (inner : Inner) (d : FlowsData) (f : Flow) (t : Token) (h : ℕ) where
  abbrev ss : List Step
  ss = steps_from inner d f t

  abbrev made : Cut → Column
  made c = column_up_to inner (avoids_at d f) h c.before c.stop

  abbrev Named : Step → Column → Type 0
  Named s c = (line : ColumnLine) × (more : List ColumnLine) × (c.lines ≡ line ∷ more) × (line.stop ≡ Some s.item)

  abbrev Ends : ℕ → Step → Column → Type 0
  Ends j s c = ((k : ℕ) × IsBest (IsCandidate inner (avoids_at d f s.item) h ss j s) k (place_in c))
      ⊎ IsAlone inner (avoids_at d f s.item) h (IsCandidate inner (avoids_at d f s.item) h ss j s) j s (place_in c)

  abbrev last_line : Place → List ColumnLine
  last_line p = record { depth = 0; end = cond p.overflow None (Some p.end); stop = None } ∷ []

  abbrev Whole : Step → Column → Type 0
  Whole last c = (place_in c ≡ record { level = 0; end = (last.item + 1) ∷ []; extent = last.need; overflow = false })
      × (c.lines ≡ record { depth = 0; end = Some ((last.item + 1) ∷ []); stop = None } ∷ [])

  pub column-chosen : ColumnIsChosen inner d f t h
  unfolding column
  column-chosen = record {
    items = column-items inner d f t;
    stop = find-stop h ss;
    whole = λ n last fit count at.
        let is = last-is no_place ss n last count at in
        subst (λ (c : Cut). Whole last (made c)) (sym (cut-whole h ss fit)) (is, ap last_line is);
    named = λ j s i. subst (λ (c : Cut). Named s (made c)) (sym (cut-is h j s ss i)) (_, _, refl, refl);
    best = λ j s i. subst (λ (c : Cut). Ends j s (made c)) (sym (cut-is h j s ss i))
        (chosen inner (avoids_at d f s.item) h ss j s i);
  }
