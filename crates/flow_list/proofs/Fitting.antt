-- A height that fits exists: at the whole reach of a flow only forced breaks remain. So the size is the least height that
-- fits.
use Rattle.std.proofs.Common.{zero-add, ◌≡◌, ℕ, zero, suc, ◌+◌, ◌-◌, ◌<◌, ◌≤◌, Bool, true, false, cond, not, ◌||◌, List, [], ◌∷◌}
use Rattle.std.proofs.Common.{length, take, drop, get_or, None, refl, sym, subst, ◌∙◌, ap, arith, sum_by, add-one, ◌⊎◌, inl, inr}
use Rattle.std.specs.Prelude.{count_by, ◌==◌}
use Rattle.std.specs.List.{flat_map}
use Rattle.std.proofs.lemmas.Bool.{le-ltb, cases_lt, cases_order}
use Rattle.std.proofs.lemmas.Bool.Decides.{nat_tests}
use Rattle.std.proofs.lemmas.List.{drop-drop, get_or-drop}
use Rattle.std.proofs.lemmas.List.Sums.{sum_by-cons, sum_by-append}
use Rattle.flow_list.specs.Data.{Flow, FlowsData, Item, Seam}
use Rattle.flow_data.specs.Flows.{item_of, seam_of, box_of, row_of, flow_in, no_item, no_seam, amount, starts_in, ended, is_among}
use Rattle.flow_data.specs.Flows.{open_at, boxes_in}
use Rattle.flow_list.specs.Strip.{Strip, strip_at, put, lay_all}
use Rattle.flow_list.specs.Tokens.{Token, row_start, item_number, within, is_end}
use Rattle.flow_list.specs.ClonedEdges.{open_across, tops, bottoms}
use Rattle.flow_list.specs.Column.{is_forced, Column, Inner, Step, Place, cut, step_at, steps, strip_behind, start_strip}
use Rattle.flow_list.specs.Column.{steps_from, height_of, last_place, no_place, unstopped, column, column_over, column_to}
use Rattle.flow_list.specs.Column.{avoids_at, endless_column}
use Rattle.flow_list.specs.Rows.{columns_by, columns, fails, reach_end, forced_above, most_columns, fits, heights_from}
use Rattle.flow_list.specs.Rows.{amounts_in, least, reach, size_in}
use Rattle.flow_data.proofs.BoxSums.{filter-le, open_at-le}
use Rattle.flow_list.proofs.StripBounds.{put_le, lay_all_le}
use Rattle.flow_list.proofs.LeastHeight.{IsLeast, least-is}

-- ---- what is open in a flow has no more cloned edges than all its boxes

pub open_across-le : (g : ℕ → ℕ) (f : Flow) (k : ℕ) → sum_by g (open_across f k) ≤ sum_by g (boxes_in f)
open_across-le g f zero = omega (arith, sum_by-append g f.opened (starts_in f.seams))
open_across-le g f (suc k) = omega
    (arith, filter-le g (λ b. not (is_among (flat_map ended (seam_of f (suc k)).tail) b)) (open_at f k), open_at-le g f k)

-- ---- the reach

-- each of these items needs no more than this
pub AllNeed : ℕ → List Step → Type 0
AllNeed h [] = Unit {0}
AllNeed h (s ∷ ss) = (s.need ≤ h) × AllNeed h ss

pub first-height : (inner : Inner) (q : Token) (items : List Item) (k : ℕ)
    → heights_from inner q (drop k items) ≡ height_of inner (get_or items k no_item) q + heights_from inner row_start
    (drop (k + 1) items)
first-height inner q [] k = nil k
  where
    nil : (k : ℕ) → heights_from inner q (drop k []) ≡ height_of inner (get_or [] k no_item) q + heights_from inner row_start
        (drop (k + 1) [])
    nil zero = refl
    nil (suc k) = rw add-one refl
first-height inner q (x ∷ xs) zero = refl
first-height inner q (x ∷ xs) (suc k) = rw add-one (rw add-one at (first-height inner q xs k))

pub first-amounts : (seams : List Seam) (k : ℕ)
    → amounts_in (drop k seams) ≡ sum_by amount (get_or seams k no_seam).tail + sum_by amount (get_or seams k no_seam).head
    + amounts_in (drop (k + 1) seams)
first-amounts [] k = nil k
  where
    nil : (k : ℕ) → amounts_in (drop k []) ≡ sum_by amount (get_or [] k no_seam).tail + sum_by amount (get_or [] k no_seam).head
        + amounts_in (drop (k + 1) [])
    nil zero = refl
    nil (suc k) = rw add-one refl
first-amounts (s ∷ ss) zero = sum_by-cons (λ (s : Seam). sum_by amount s.tail + sum_by amount s.head) s ss
first-amounts (s ∷ ss) (suc k) = rw add-one (rw add-one at (first-amounts ss k))

pub amounts-drop : (seams : List Seam) (k : ℕ) → amounts_in (drop k seams) ≤ amounts_in seams
amounts-drop seams zero = omega arith
amounts-drop [] (suc k) = omega arith
amounts-drop (s ∷ ss) (suc k) =
    omega (arith, amounts-drop ss k, sum_by-cons (λ (s : Seam). sum_by amount s.tail + sum_by amount s.head) s ss)

pub steps-need : (inner : Inner) (d : FlowsData) (f : Flow) (s : Strip) (k : ℕ) (q : Token) (n h : ℕ) →
    s.y + s.pending + heights_from inner q (drop k f.items) + amounts_in (drop (k + 1) f.seams) + bottoms d (boxes_in f) ≤ h
    → AllNeed h (steps inner d f s k q n)
unfolding steps AllNeed
steps-need inner d f s k q zero h b = tt
steps-need inner d f s k q (suc n) h b =
    let i = first-height inner q f.items k in
    let e = first-amounts f.seams (k + 1) in
    let a = put_le s (height_of inner (item_of f k) q) in
    let c = lay_all_le (put s (height_of inner (item_of f k) q)) (seam_of f (k + 1)).tail in
    let m = lay_all_le (strip_behind inner f s k q) (seam_of f (k + 1)).head in
    let t = open_across-le (λ b. (box_of d b).bottom) f (k + 1) in (
      omega arith,
      go (is_forced (seam_of f (k + 1)).level)
          (steps-need inner d f (lay_all (strip_behind inner f s k q) (seam_of f (k + 1)).head) (k + 1) row_start n h
          (omega arith)),
    )
  where
    more : List Step
    more = steps inner d f (lay_all (strip_behind inner f s k q) (seam_of f (k + 1)).head) (k + 1) row_start n

    go : (x : Bool) → AllNeed h more → AllNeed h (elim x [ true ↦ [] | false ↦ more ])
    go true r = tt
    go false r = r

no-stop : (h : ℕ) (ss : List Step) → AllNeed h ss → cut h ss ≡ record { before = ss; stop = None }
unfolding AllNeed
no-stop h [] a = refl
no-stop h (s ∷ ss) a = rw (le-ltb h s.need a.0, no-stop h ss a.1) refl

column_over-ends : (inner : Inner) (avoids : ℕ → Bool) (h : ℕ) (ss : List Step) → AllNeed h ss
    → column_over inner avoids h ss ≡ unstopped ss
column_over-ends inner avoids h ss a = rw (no-stop h ss a) refl

-- a column that begins at a seam has its first item after the seam's head
pub head-start : (d : FlowsData) (f : Flow) (drops : Bool) (i : ℕ) →
    (lay_all (strip_at (tops d (open_across f i)) drops) (seam_of f i).head).y
    + (lay_all (strip_at (tops d (open_across f i)) drops) (seam_of f i).head).pending ≤ tops d (boxes_in f) + sum_by amount
    (seam_of f i).head
head-start d f drops i = omega (
  arith,
  lay_all_le (strip_at (tops d (open_across f i)) drops) (seam_of f i).head,
  open_across-le (λ b. (box_of d b).top) f i,
)

pub strip-start : (d : FlowsData) (f : Flow) (t : Token)
    → (start_strip d f t).y + (start_strip d f t).pending ≤ tops d (boxes_in f) + sum_by amount (seam_of f (item_number t)).head
strip-start d f [] = omega arith
strip-start d f (i ∷ []) = head-start d f (not (i == 0 || is_forced (seam_of f i).level)) i
strip-start d f (i ∷ (j ∷ rest)) = omega (arith, open_at-le (λ b. (box_of d b).top) f i)

pub all-need : (inner : Inner) (d : FlowsData) (f : Flow) (t : Token) (h : ℕ) → reach inner d f t ≤ h
    → AllNeed h (steps_from inner d f t)
all-need inner d f t h b =
    let a = strip-start d f t in
    let e = first-amounts f.seams (item_number t) in
    let g = amounts-drop f.seams (item_number t) in
    steps-need inner d f (start_strip d f t) (item_number t) (within t) (length f.items - item_number t) h (omega arith)

-- a column with room for the whole reach is the one without end
pub reach-endless : (inner : Inner) (d : FlowsData) (f : Flow) (t : Token) (h : ℕ) → reach inner d f t ≤ h
    → column inner d f t h ≡ endless_column inner d f t
unfolding column endless_column
reach-endless inner d f t h b = column_over-ends inner (avoids_at d f) h (steps_from inner d f t) (all-need inner d f t h b)

-- ---- where such a column ends

abbrev is_forced_seam : Seam → Bool
is_forced_seam s = is_forced s.level

abbrev forced_in : ℕ → List Seam → ℕ
forced_in n seams = count_by is_forced_seam (take n seams)

forced_in-yes : (n : ℕ) (seams : List Seam) → is_forced (get_or seams 0 no_seam).level ≡ true
    → forced_in (suc n) seams ≡ 1 + forced_in n (drop 1 seams)
forced_in-yes n [] h = cc
forced_in-yes n (s ∷ ss) h = sum_by-cons (λ x. cond (is_forced_seam x) 1 0) s (take n ss) ∙ rw h refl

forced_in-no : (n : ℕ) (seams : List Seam) → is_forced (get_or seams 0 no_seam).level ≡ false
    → forced_in (suc n) seams ≡ forced_in n (drop 1 seams)
forced_in-no n [] h = nil n
  where
    nil : (n : ℕ) → count_by is_forced_seam [] ≡ forced_in n []
    nil zero = refl
    nil (suc n) = refl
forced_in-no n (s ∷ ss) h = sum_by-cons (λ x. cond (is_forced_seam x) 1 0) s (take n ss) ∙ rw h (zero-add _)

forced_in-drop : (n : ℕ) (seams : List Seam) → forced_in n (drop 1 seams) ≤ forced_in (suc n) seams
forced_in-drop zero [] = omega arith
forced_in-drop (suc n) [] = omega arith
forced_in-drop n (s ∷ ss) = omega (arith, sum_by-cons (λ x. cond (is_forced_seam x) 1 0) s (take n ss))

drop-one : (k : ℕ) (seams : List Seam) → drop 1 (drop (k + 1) seams) ≡ drop (k + 1 + 1) seams
drop-one k seams = drop-drop 1 (k + 1) seams

first-drop : (k : ℕ) (seams : List Seam) → get_or (drop k seams) 0 no_seam ≡ get_or seams k no_seam
first-drop k seams = get_or-drop k seams 0 no_seam ∙ ap (λ i. get_or seams i no_seam) (omega arith)

pub forced_above-one : (f : Flow) (k : ℕ) → k + 1 < length f.items → is_forced (seam_of f (k + 1)).level ≡ true
    → forced_above f k ≡ 1 + forced_above f (k + 1)
forced_above-one f k lt h =
    let n : length f.items - k - 1 ≡ suc (length f.items - (k + 1) - 1) = omega arith in
    ap (λ m. forced_in m (drop (k + 1) f.seams)) n
    ∙ forced_in-yes (length f.items - (k + 1) - 1) (drop (k + 1) f.seams) (rw (first-drop (k + 1) f.seams) h)
    ∙ ap (λ seams. 1 + forced_in (length f.items - (k + 1) - 1) seams) (drop-one k f.seams)

pub forced_above-none : (f : Flow) (k : ℕ) → k + 1 < length f.items → is_forced (seam_of f (k + 1)).level ≡ false
    → forced_above f k ≡ forced_above f (k + 1)
forced_above-none f k lt h =
    let n : length f.items - k - 1 ≡ suc (length f.items - (k + 1) - 1) = omega arith in
    ap (λ m. forced_in m (drop (k + 1) f.seams)) n
    ∙ forced_in-no (length f.items - (k + 1) - 1) (drop (k + 1) f.seams) (rw (first-drop (k + 1) f.seams) h)
    ∙ ap (λ seams. forced_in (length f.items - (k + 1) - 1) seams) (drop-one k f.seams)

pub forced_above-falls : (f : Flow) (k : ℕ) → forced_above f (k + 1) ≤ forced_above f k
forced_above-falls f k = go (cases_lt (k + 1) (length f.items))
  where
    go : (k + 1 < length f.items) ⊎ (length f.items ≤ k + 1) → forced_above f (k + 1) ≤ forced_above f k
    go (inl lt) =
        let n : length f.items - k - 1 ≡ suc (length f.items - (k + 1) - 1) = omega arith in
        rw n (rw (drop-one k f.seams) at (forced_in-drop (length f.items - (k + 1) - 1) (drop (k + 1) f.seams)))
    go (inr le) = let n : length f.items - (k + 1) - 1 ≡ 0 = omega arith in rw n (omega arith)

forced_above-later : (f : Flow) (k m : ℕ) → forced_above f (k + m) ≤ forced_above f k
forced_above-later f k zero = let P : ℕ → Type 0 = λ n. forced_above f n ≤ forced_above f k in let e : k ≡ k + 0 = omega arith
    in subst P e (omega arith)
forced_above-later f k (suc m) =
    let P : ℕ → Type 0 = λ n. forced_above f n ≤ forced_above f k in
    let e : k + m + 1 ≡ k + suc m = omega arith in
    let a = forced_above-falls f (k + m) in
    let b = forced_above-later f k m in
    subst P e (omega arith)

-- fewer are above a forced seam than above an item before it
forced_above-fewer : (f : Flow) (k e : ℕ) → k < e → e < length f.items → is_forced (seam_of f e).level ≡ true
    → forced_above f e < forced_above f k
forced_above-fewer f k e lt in_items forced =
    let P : ℕ → Type 0 = λ n. n < length f.items → is_forced (seam_of f n).level ≡ true → forced_above f n < forced_above f k in
    let last : k + (e - k - 1) + 1 ≡ e = omega arith in
    subst P last (λ a b. let one = forced_above-one f (k + (e - k - 1)) a b in let r = forced_above-later f k (e - k - 1)
    in omega arith) in_items forced

abbrev pub place_to : ℕ → ℕ → Place
place_to e extent = record { level = 0; end = e ∷ []; extent = extent; overflow = false }

-- these items, of which item k is the first, end before the first forced seam above k, or before item n
pub record EndBefore (f : Flow) (k n : ℕ) (ss : List Step) (e : ℕ) : Type 0 where
  pub above : k < e
  pub within : e ≤ n
  pub unforced : (j : ℕ) → k < j → j < e → is_forced (seam_of f j).level ≡ false
  pub forced : (e ≡ n) ⊎ (is_forced (seam_of f e).level ≡ true)
  pub place : (p : Place) → (extent : ℕ) × (last_place p ss ≡ place_to e extent)

ends-here : (f : Flow) (k n : ℕ) (st : Step) → st.item ≡ k → k < n → ((k + 1 ≡ n) ⊎ (is_forced (seam_of f (k + 1)).level ≡ true))
    → EndBefore f k n (st ∷ []) (k + 1)
ends-here f k n st is lt last = record {
  above = omega arith;
  within = omega arith;
  unforced = λ j a b. absurd (omega arith);
  forced = last;
  place = λ p. (st.need, ap (λ i. place_to (i + 1) st.need) is);
}

unforced-more : (f : Flow) (k e : ℕ) → is_forced (seam_of f (k + 1)).level ≡ false
    → ((j : ℕ) → k + 1 < j → j < e → is_forced (seam_of f j).level ≡ false) → (j : ℕ) → k < j → j < e
    → is_forced (seam_of f j).level ≡ false
unforced-more f k e here later j a b = which (cases_order j (k + 1))
  where
    which : (j ≡ k + 1) ⊎ ((j < k + 1) ⊎ (k + 1 < j)) → is_forced (seam_of f j).level ≡ false
    which (inl same) = rw same here
    which (inr (inl low)) = absurd (omega arith)
    which (inr (inr high)) = later j high b

ends-later : (f : Flow) (k n : ℕ) (st : Step) (ss : List Step) → is_forced (seam_of f (k + 1)).level ≡ false
    → ((e : ℕ) × EndBefore f (k + 1) n ss e) → (e : ℕ) × EndBefore f k n (st ∷ ss) e
ends-later f k n st ss here (e, later) = (
  e,
  record {
    above = let a = later.above in omega arith;
    within = later.within;
    unforced = unforced-more f k e here later.unforced;
    forced = later.forced;
    place = λ p. later.place _;
  },
)

steps-end : (inner : Inner) (d : FlowsData) (f : Flow) (s : Strip) (k : ℕ) (q : Token) (m : ℕ)
    → (e : ℕ) × EndBefore f k (k + suc m) (steps inner d f s k q (suc m)) e
unfolding steps
steps-end inner d f s k q zero = (k + 1, go (is_forced (seam_of f (k + 1)).level))
  where
    go : (b : Bool) → EndBefore f k (k + 1) (step_at inner d f s k q ∷ elim b [ true ↦ [] | false ↦ [] ]) (k + 1)
    go true = ends-here f k (k + 1) (step_at inner d f s k q) refl (omega arith) (inl refl)
    go false = ends-here f k (k + 1) (step_at inner d f s k q) refl (omega arith) (inl refl)
steps-end inner d f s k q (suc m) =
    go (is_forced (seam_of f (k + 1)).level) refl
    (steps-end inner d f (lay_all (strip_behind inner f s k q) (seam_of f (k + 1)).head) (k + 1) row_start m)
  where
    more : List Step
    more = steps inner d f (lay_all (strip_behind inner f s k q) (seam_of f (k + 1)).head) (k + 1) row_start (suc m)

    same : (k + 1) + suc m ≡ k + suc (suc m)
    same = omega arith

    go : (b : Bool) → is_forced (seam_of f (k + 1)).level ≡ b → ((e : ℕ) × EndBefore f (k + 1) ((k + 1) + suc m) more e)
        → (e : ℕ) × EndBefore f k (k + suc (suc m)) (step_at inner d f s k q ∷ elim b [ true ↦ [] | false ↦ more ]) e
    go true here later = (k + 1, ends-here f k (k + suc (suc m)) (step_at inner d f s k q) refl (omega arith) (inr here))
    go false here later = ends-later f k (k + suc (suc m)) (step_at inner d f s k q) more here (rw same at later)

pub steps_from-end : (inner : Inner) (d : FlowsData) (f : Flow) (t : Token) → item_number t < length f.items
    → (e : ℕ) × EndBefore f (item_number t) (length f.items) (steps_from inner d f t) e
steps_from-end inner d f t lt =
    let P : ℕ → Type 0 = λ n. (e : ℕ)
    × EndBefore f (item_number t) (item_number t + n) (steps inner d f (start_strip d f t) (item_number t) (within t) n) e in
    let base : P (suc (length f.items - item_number t - 1)) =
    steps-end inner d f (start_strip d f t) (item_number t) (within t) (length f.items - item_number t - 1) in
    let fuel : suc (length f.items - item_number t - 1) ≡ length f.items - item_number t = omega arith in
    let whole : item_number t + (length f.items - item_number t) ≡ length f.items = omega arith in
    let Q : ℕ → Type 0 = λ n. (e : ℕ) × EndBefore f (item_number t) n (steps_from inner d f t) e in
    subst Q whole (subst P fuel base)

-- ---- columns, one at a time

pub reach_end-past : (make : Token → Column) (f : Flow) (n : ℕ) (t : Token) → is_end f t ≡ true
    → reach_end f t (columns_by make f n t) ≡ true
unfolding columns_by
reach_end-past make f zero t e = rw e refl
reach_end-past make f (suc n) t e = go (is_end f t) e refl
  where
    go : (b : Bool) → b ≡ true → is_end f t ≡ b
        → reach_end f t (elim b [ true ↦ [] | false ↦ let c = make t in c ∷ columns_by make f n c.end ]) ≡ true
    go true x is = rw is refl
    go false x is = cc

pub columns_by-step : (make : Token → Column) (f : Flow) (n : ℕ) (t : Token) → is_end f t ≡ false
    → columns_by make f (suc n) t ≡ make t ∷ columns_by make f n (make t).end
unfolding columns_by
columns_by-step make f n t e = go (is_end f t) e
  where
    go : (b : Bool) → b ≡ false
        → (elim b as (λ _. List Column) [ true ↦ [] | false ↦ let c = make t in c ∷ columns_by make f n c.end ])
        ≡ make t ∷ columns_by make f n (make t).end
    go true x = cc
    go false x = refl

pub columns_by-past : (make : Token → Column) (f : Flow) (n : ℕ) (t : Token) → is_end f t ≡ true → columns_by make f n t ≡ []
unfolding columns_by
columns_by-past make f zero t e = refl
columns_by-past make f (suc n) t e = go (is_end f t) e
  where
    go : (b : Bool) → b ≡ true
        → (elim b as (λ _. List Column) [ true ↦ [] | false ↦ let c = make t in c ∷ columns_by make f n c.end ]) ≡ []
    go true x = refl
    go false x = cc

reach_end-step : (make : Token → Column) (f : Flow) (n : ℕ) (t : Token) (c : Column) → make t ≡ c → is_end f t ≡ false
    → fails c ≡ false → reach_end f c.end (columns_by make f n c.end) ≡ true → reach_end f t (columns_by make f (suc n) t) ≡ true
reach_end-step make f n t c is e ok r = rw (columns_by-step make f n t e, is, ok) r

heights-later : (inner : Inner) (q : Token) (items : List Item) (j : ℕ)
    → heights_from inner row_start (drop (suc j) items) ≤ heights_from inner q items
heights-later inner q [] j = omega arith
heights-later inner q (x ∷ xs) zero = omega arith
heights-later inner q (x ∷ xs) (suc j) = let e = heights-later inner row_start xs j in omega arith

pub heights-drop : (inner : Inner) (items : List Item) (k : ℕ)
    → heights_from inner row_start (drop k items) ≤ heights_from inner row_start items
heights-drop inner items zero = omega arith
heights-drop inner items (suc k) = heights-later inner row_start items k

reach-later : (inner : Inner) (d : FlowsData) (f : Flow) (t : Token) (e : ℕ) → item_number t < e
    → reach inner d f (e ∷ []) ≤ reach inner d f t
reach-later inner d f t e lt =
    let i = item_number t in
    let s : drop e f.items ≡ drop (suc (e - i - 1)) (drop i f.items) = ap (λ m. drop m f.items) (omega arith)
    ∙ sym (drop-drop (suc (e - i - 1)) i f.items) in
    let m = heights-later inner (within t) (drop i f.items) (e - i - 1) in
    rw s (omega arith)

endless-ends : (inner : Inner) (d : FlowsData) (f : Flow) (t : Token) (e : ℕ)
    (r : EndBefore f (item_number t) (length f.items) (steps_from inner d f t) e) →
    endless_column inner d f t ≡ column_to (place_to e (r.place no_place).0) None [] [] (unstopped (steps_from inner d f t)).uses
unfolding endless_column
endless-ends inner d f t e r = ap (λ p. column_to p None [] [] (unstopped (steps_from inner d f t)).uses) (r.place no_place).1

pub fits-at-reach : (inner : Inner) (d : FlowsData) (f : Flow) (h n : ℕ) (t : Token) → item_number t < length f.items
    → reach inner d f t ≤ h → forced_above f (item_number t) < n →
    reach_end f t (columns inner d f n t h) ≡ true
fits-at-reach inner d f h zero t lt b c = absurd (omega arith)
fits-at-reach inner d f h (suc n) t lt b c =
    go (λ e l x y. fits-at-reach inner d f h n (e ∷ []) l x y) (steps_from-end inner d f t lt)
  where
    make : Token → Column
    make = λ q. column inner d f q h

    go : ((e : ℕ) → e < length f.items → reach inner d f (e ∷ []) ≤ h → forced_above f e < n
        → reach_end f (e ∷ []) (columns inner d f n (e ∷ []) h) ≡ true) →
        ((e : ℕ) × EndBefore f (item_number t) (length f.items) (steps_from inner d f t) e)
        → reach_end f t (columns inner d f (suc n) t h) ≡ true
    go again (e, r) =
        reach_end-step (λ q. column inner d f q h) f n t
        (column_to (place_to e (r.place no_place).0) None [] [] (unstopped (steps_from inner d f t)).uses)
        (reach-endless inner d f t h b ∙ endless-ends inner d f t e r) (grind (arith, nat_tests)) refl
        (next (cases_lt e (length f.items)))
      where
        next : (e < length f.items) ⊎ (length f.items ≤ e) → reach_end f (e ∷ []) (columns inner d f n (e ∷ []) h) ≡ true
        next (inr x) = reach_end-past (λ q. column inner d f q h) f n (e ∷ []) (grind (arith, nat_tests))
        next (inl x) = again e x (let m = reach-later inner d f t e r.above in omega arith) (fewer r.forced)
          where
            fewer : (e ≡ length f.items) ⊎ (is_forced (seam_of f e).level ≡ true) → forced_above f e < n
            fewer (inl y) = absurd (omega arith)
            fewer (inr y) = let m = forced_above-fewer f (item_number t) e r.above x y in omega arith

-- the size of a row from a place before its end is the least height that fits
pub size-is : (inner : Inner) (d : FlowsData) (r : ℕ) (q : Token) → item_number q < length (flow_in d r).items
    → IsLeast (fits inner d r q) (size_in inner d r q)
unfolding size_in fits
size-is inner d r q lt =
    least-is (fits inner d r q) (reach inner d (flow_in d r) q) 0 (reach inner d (flow_in d r) q) (λ k l. absurd (omega arith))
    (omega arith) (omega arith)
    (fits-at-reach inner d (flow_in d r) (reach inner d (flow_in d r) q) (most_columns (row_of d r).n (flow_in d r) q) q lt
    (omega arith) (omega arith))

-- ---- columns without end

columns_by-same : (make other : Token → Column) (f : Flow) (n : ℕ) (t : Token) → is_end f t ≡ false → make t ≡ other t
    → columns_by make f n (make t).end ≡ columns_by other f n (make t).end
    → columns_by make f (suc n) t ≡ columns_by other f (suc n) t
columns_by-same make other f n t e same rest =
    columns_by-step make f n t e ∙ ap (λ cs. make t ∷ cs) rest ∙ ap (λ (c : Column). c ∷ columns_by other f n c.end) same
    ∙ sym (columns_by-step other f n t e)

-- columns with room for the whole reach are those without end
pub columns-endless : (inner : Inner) (d : FlowsData) (f : Flow) (h n : ℕ) (t : Token) → reach inner d f t ≤ h
    → columns_by (λ q. endless_column inner d f q) f n t ≡ columns_by (λ q. column inner d f q h) f n t
unfolding columns_by
columns-endless inner d f h zero t b = refl
columns-endless inner d f h (suc n) t b =
    go (λ e x. columns-endless inner d f h n (e ∷ []) x) (cases_lt (item_number t) (length f.items))
  where
    go : ((e : ℕ) → reach inner d f (e ∷ []) ≤ h
        → columns_by (λ q. endless_column inner d f q) f n (e ∷ []) ≡ columns_by (λ q. column inner d f q h) f n (e ∷ [])) →
        (item_number t < length f.items) ⊎ (length f.items ≤ item_number t)
        → columns_by (λ q. endless_column inner d f q) f (suc n) t ≡ columns_by (λ q. column inner d f q h) f (suc n) t
    go again (inr x) = let e : is_end f t ≡ true = grind (arith, nat_tests)
        in columns_by-past (λ q. endless_column inner d f q) f (suc n) t e
        ∙ sym (columns_by-past (λ q. column inner d f q h) f (suc n) t e)
    go again (inl x) = next (steps_from-end inner d f t x)
      where
        next : ((e : ℕ) × EndBefore f (item_number t) (length f.items) (steps_from inner d f t) e)
            → columns_by (λ q. endless_column inner d f q) f (suc n) t ≡ columns_by (λ q. column inner d f q h) f (suc n) t
        next (e, r) =
            let i : (endless_column inner d f t).end ≡ e ∷ [] = ap (λ (c : Column). c.end) (endless-ends inner d f t e r) in
            columns_by-same (λ q. endless_column inner d f q) (λ q. column inner d f q h) f n t (grind (arith, nat_tests))
            (sym (reach-endless inner d f t h b))
            (rw i (again e (let m = reach-later inner d f t e r.above in omega arith)))

-- ---- the size of each row

least-le : (p : ℕ → Bool) (n lo : ℕ) → least p n lo ≤ lo + n
unfolding least
least-le p zero lo = omega arith
least-le p (suc n) lo = go (p lo) (least-le p n (lo + 1))
  where
    go : (b : Bool) → least p n (lo + 1) ≤ lo + 1 + n
        → (elim b as (λ _. ℕ) [ true ↦ lo | false ↦ least p n (lo + 1) ]) ≤ lo + suc n
    go true h = omega arith
    go false h = omega arith

-- no size is above the reach
pub size-reach : (inner : Inner) (d : FlowsData) (r : ℕ) (q : Token) → size_in inner d r q ≤ reach inner d (flow_in d r) q
unfolding size_in
size-reach inner d r q = let l = least-le (fits inner d r q) (reach inner d (flow_in d r) q) 0 in omega arith

-- at the end each height fits
pub fits-past : (inner : Inner) (d : FlowsData) (r h : ℕ) (q : Token) → length (flow_in d r).items ≤ item_number q
    → fits inner d r q h ≡ true
unfolding fits
fits-past inner d r h q le = reach_end-past (λ t. column inner d (flow_in d r) t h) (flow_in d r)
    (most_columns (row_of d r).n (flow_in d r) q) q (grind (arith, nat_tests))

pub size-least : (inner : Inner) (d : FlowsData) (r : ℕ) (q : Token) → IsLeast (fits inner d r q) (size_in inner d r q)
unfolding size_in
size-least inner d r q = go (cases_lt (item_number q) (length (flow_in d r).items))
  where
    go : (item_number q < length (flow_in d r).items) ⊎ (length (flow_in d r).items ≤ item_number q)
        → IsLeast (fits inner d r q) (least (fits inner d r q) (reach inner d (flow_in d r) q) 0)
    go (inl x) = size-is inner d r q x
    go (inr x) = least-is (fits inner d r q) (reach inner d (flow_in d r) q) 0 0 (λ k l. absurd (omega arith)) (omega arith)
        (omega arith) (fits-past inner d r 0 q x)
