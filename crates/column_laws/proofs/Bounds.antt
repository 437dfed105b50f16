-- The bounds of a column are no more than all that stands in its flow, with what stands in the rows within it: also those of
-- fills.
use Rattle.std.proofs.Common.{◌≡◌, ℕ, zero, suc, ◌+◌, ◌-◌, ◌^◌, ◌==◌, ◌<◌, ◌≤◌, ◌∙◌, Bool, true, false, cond, ◌&&◌, List, [], ◌∷◌}
use Rattle.std.proofs.Common.{◌++◌, map, length, get_or, Option, Some, None, refl, sym, subst, ap, arith, sum_by, ◌⊎◌, inl, inr}
use Rattle.std.specs.Prelude.{nat_lt}
use Rattle.std.specs.List.{AllByRecursion as Each}
use Rattle.std.proofs.lemmas.Bool.{cases_lt}
use Rattle.std.proofs.lemmas.List.{length-map}
use Rattle.std.proofs.lemmas.List.Sums.{sum_by-append}
use Rattle.flow_data.specs.declared.data.Flow.{Flow}
use Rattle.flow_data.specs.declared.data.FlowsData.{FlowsData}
use Rattle.flow_data.specs.declared.data.Item.{Item}
use Rattle.flow_data.specs.declared.data.Item.TheVariants.{Atom, Row}
use Rattle.flow_data.specs.declared.data.RowInfo.{RowInfo}
use Rattle.flow_data.specs.declared.data.Stack.{Stack}
use Rattle.flow_data.specs.Flows.{row_of, flow_of, flow_in, stack_of, item_of, seam_of, rows_in, boxes_in, open_at, no_row}
use Rattle.flow_data.specs.Flows.{no_stack}
use Rattle.flow_data.specs.Soundness.{IsSound, count_of, flow_owners, flow_height}
use Rattle.flow_data.proofs.BoxSums.{open_at-le}
use Rattle.flow_data.proofs.OpenBoxes.{some-index}
use Rattle.flow_list.specs.ClonedEdges.{open_across, bottoms}
use Rattle.flow_list.specs.Strip.{Strip, put, lay_all}
use Rattle.flow_list.specs.Tokens.{Token, row_start, item_number, within, is_end}
use Rattle.flow_list.specs.Column.{Column, Inner, Step, cut, step_at, steps, strip_behind, steps_from, start_strip, row_from}
use Rattle.flow_list.specs.Column.{is_forced, height_of, room, is_cut, fill_in_room, bounds_at, column, column_up_to, avoids_at}
use Rattle.flow_list.specs.Rows.{columns, columns_by, up_to, fill_in, rows_to, all_rows, reach}
use Rattle.flow_list.specs.Ranges.{bounds_of}
use Rattle.flow_list.proofs.Fitting.{open_across-le, strip-start}
use Rattle.flow_list.proofs.PlaceBounds.{Each-append}
use Rattle.flow_list.proofs.StripBounds.{put_le, lay_all_le}
use Rattle.flow_list.proofs.ColumnParts.{EachFrom, OfStop, cut-stop, steps-each}
use Rattle.flow_laws.proofs.LaidSums.{item_share, ahead, ahead-first, whole-le}
use Rattle.flow_laws.proofs.Small.{size-total, all-total}
use Rattle.flow_laws.proofs.SoundRows.{nests-by-number}
use Rattle.flow_laws.proofs.StackSums.{stack-total}
use Rattle.flow_laws.proofs.Totals.{total_within, row_total, height_in, total-more, total-same, total-le}

-- ---- bounds of a column

abbrev pub NoMore : ℕ → List ℕ → Type 0
NoMore top bs = Each (λ b. b ≤ top) bs

no-more-both : (top : ℕ) (xs ys : List ℕ) → NoMore top xs → NoMore top ys → NoMore top (xs ++ ys)
no-more-both top xs ys a b = Each-append (λ b. b ≤ top) xs ys a b

shifted : (x most top : ℕ) (bs : List ℕ) → x + most ≤ top → NoMore most bs → NoMore top (map (λ b. x + b) bs)
shifted x most top [] le all = tt
shifted x most top (b ∷ bs) le all = let first = all.0 in (omega arith, shifted x most top bs le all.1)

module _ (inner : Inner) (d : FlowsData) (f : Flow) (total : ℕ → ℕ) (sizes : (r : ℕ) (q : Token) → inner.size r q ≤ total r)
    (top : ℕ) where
  -- what an item needs, and where its row would end with all that stands in it
  record IsUnder (s : Step) : Type 0 where
    need : s.need ≤ top
    cut : s.y + s.bottoms + s.height ≤ top
    row : (u : ℕ × Token) → s.row ≡ Some u → s.y + s.bottoms + total u.0 ≤ top

  height-share : (item : Item) (q : Token) → height_of inner item q ≤ item_share total item
  height-share (Atom height kind) q = omega arith
  height-share (Row r) q = sizes r q

  row-share : (item : Item) (q : Token) (u : ℕ × Token) → row_from item q ≡ Some u → total u.0 ≡ item_share total item
  row-share (Atom height kind) q u e = cc
  row-share (Row r) q u e = let number : u.0 ≡ r = ap first (sym e) in ap total number
    where
      first : Option (ℕ × Token) → ℕ
      first None = r
      first (Some v) = v.0

  -- what stands in this strip and from item k on is no more than the top
  abbrev HasRoom : Strip → ℕ → Token → ℕ → Type 0
  HasRoom s k q n = s.y + s.pending + ahead total f inner k + bottoms d (boxes_in f) ≤ top

  steps-under : (s : Strip) (k : ℕ) (q : Token) (n : ℕ) → HasRoom s k q n → EachFrom (λ n. IsUnder) k (steps inner d f s k q n)
  steps-under = steps-each inner d f HasRoom (λ n. IsUnder) here next
    where
      here : (s : Strip) (k : ℕ) (q : Token) (n : ℕ) → HasRoom s k q (suc n) → IsUnder (step_at inner d f s k q)
      here s k q n le =
          let first = ahead-first total f inner k in
          let share = height-share (item_of f k) q in
          let a = put_le s (height_of inner (item_of f k) q) in
          let c = lay_all_le (put s (height_of inner (item_of f k) q)) (seam_of f (k + 1)).tail in
          let below : bottoms d (open_across f (k + 1)) ≤ bottoms d (boxes_in f) = open_across-le _ f (k + 1) in
          let at : bottoms d (open_at f k) ≤ bottoms d (boxes_in f) = open_at-le _ f k in
          record { need = omega arith; cut = omega arith; row = λ u is. let e = row-share (item_of f k) q u is in omega arith }

      next : (s : Strip) (k : ℕ) (q : Token) (n : ℕ) → HasRoom s k q (suc n) →
          HasRoom (lay_all (strip_behind inner f s k q) (seam_of f (k + 1)).head) (k + 1) row_start n
      next s k q n le =
          let first = ahead-first total f inner k in
          let share = height-share (item_of f k) q in
          let a = put_le s (height_of inner (item_of f k) q) in
          let c = lay_all_le (put s (height_of inner (item_of f k) q)) (seam_of f (k + 1)).tail in
          let m = lay_all_le (strip_behind inner f s k q) (seam_of f (k + 1)).head in
          omega arith

  from-under : (t : Token) → flow_height d f + sum_by total (rows_in f) ≤ top
      → EachFrom (λ n. IsUnder) (item_number t) (steps_from inner d f t)
  from-under t le =
      let a = strip-start d f t in
      let w = whole-le total f d inner (item_number t) in
      steps-under (start_strip d f t) (item_number t) (within t) (length f.items - item_number t) (omega arith)

  -- where the fills of rows have no bound above what stands in the row
  module _ (fills : (r : ℕ) (q : Token) (a : ℕ) → NoMore (total r) (inner.fill r q a).bounds) where
    stop-bounds : (h : ℕ) (s : Step) (row : Option (ℕ × Token)) → s.row ≡ row → IsUnder s →
        NoMore top (bounds_at s h (fill_in_room inner row (room s h)))
    stop-bounds h s None is under = (under.need, tt)
    stop-bounds h s (Some u) is under = (
      under.need,
      no-more-both top (cond (nat_lt 0 s.height && nat_lt h (s.y + s.bottoms)) ((s.y + s.bottoms) ∷ []) [])
          (cond (is_cut s h) inside []) (begins (nat_lt 0 s.height && nat_lt h (s.y + s.bottoms))) (cuts (is_cut s h)),
    )
      where
        inside : List ℕ
        inside = (s.y + s.bottoms + s.height) ∷ map (λ b. s.y + s.bottoms + b) (inner.fill u.0 u.1 (room s h)).bounds

        begins : (b : Bool) → NoMore top (cond b ((s.y + s.bottoms) ∷ []) [])
        begins true = let c = under.cut in (omega arith, tt)
        begins false = tt

        cuts : (b : Bool) → NoMore top (cond b inside [])
        cuts true = (
          under.cut,
          shifted (s.y + s.bottoms) (total u.0) top (inner.fill u.0 u.1 (room s h)).bounds (under.row u is)
              (fills u.0 u.1 (room s h)),
        )
        cuts false = tt

    up-to-bounds : (avoids : ℕ → Bool) (h : ℕ) (before : List Step) (stop : Option Step) → OfStop IsUnder stop →
        NoMore top (column_up_to inner avoids h before stop).bounds
    up-to-bounds avoids h before None under = tt
    up-to-bounds avoids h before (Some s) under = stop-bounds h s s.row refl under

    pub column-bounds : (t : Token) (h : ℕ) → flow_height d f + sum_by total (rows_in f) ≤ top →
        NoMore top (column inner d f t h).bounds
    unfolding column
    column-bounds t h le =
        up-to-bounds (avoids_at d f) h (cut h (steps_from inner d f t)).before (cut h (steps_from inner d f t)).stop
        (cut-stop IsUnder h (item_number t) (steps_from inner d f t) (from-under t le))

-- ---- of columns one after another

columns-bounds : (top : ℕ) (make : Token → Column) (f : Flow) → ((t : Token) → NoMore top (make t).bounds) →
    (n : ℕ) (t : Token) → NoMore top (bounds_of (columns_by make f n t))
unfolding columns_by
columns-bounds top make f each zero t = tt
columns-bounds top make f each (suc n) t = go (is_end f t) (columns-bounds top make f each n (make t).end)
  where
    go : (b : Bool) → NoMore top (bounds_of (columns_by make f n (make t).end)) →
        NoMore top (bounds_of (elim b as (λ _. List Column) [ true ↦ [] | false ↦ make t ∷ columns_by make f n (make t).end ]))
    go true rest = tt
    go false rest = no-more-both top (make t).bounds _ (each t) rest

front-bounds : (top : ℕ) (xs ys : List ℕ) → NoMore top (xs ++ ys) → NoMore top xs × NoMore top ys
front-bounds top [] ys all = (tt, all)
front-bounds top (x ∷ xs) ys all = let rest = front-bounds top xs ys all.1 in ((all.0, rest.0), rest.1)

first-bounds : (top : ℕ) (stops : Column → Bool) (cs : List Column) → NoMore top (bounds_of cs) →
    NoMore top (bounds_of (up_to stops cs))
first-bounds top stops [] all = tt
first-bounds top stops (c ∷ cs) all =
    let parts = front-bounds top c.bounds (bounds_of cs) all in
    no-more-both top c.bounds _ parts.0 (go (stops c) (first-bounds top stops cs parts.1))
  where
    go : (x : Bool) → NoMore top (bounds_of (up_to stops cs)) → NoMore top (bounds_of (cond x [] (up_to stops cs)))
    go true rest = tt
    go false rest = rest

-- of the fills of a row, at any depth
pub fill-bounds : (d : FlowsData) (m r : ℕ) (q : Token) (a : ℕ) →
    NoMore (row_total d (height_in d) m r) ((rows_to d m).fill r q a).bounds
unfolding rows_to fill_in
fill-bounds d zero r q a = tt
fill-bounds d (suc m) r q a =
    let top = row_total d (height_in d) (suc m) r in
    let more = total-more d (height_in d) m (row_of d r).flow in
    first-bounds top (λ c. c.overflow) (columns (rows_to d m) d (flow_in d r) (row_of d r).n q a)
    (columns-bounds top (λ t. column (rows_to d m) d (flow_in d r) t a) (flow_in d r)
    (λ t. column-bounds (rows_to d m) d (flow_in d r) (row_total d (height_in d) m) (size-total d m) top (fill-bounds d m) t a
    (omega arith)) (row_of d r).n q)

-- ---- in sound data

map-at : {X : Type 0} (g : X → ℕ) (xs : List X) (k d : ℕ) (e : X) → k < length xs → get_or (map g xs) k d ≡ g (get_or xs k e)
map-at g [] k d e lt = absurd (omega arith)
map-at g (x ∷ xs) zero d e lt = refl
map-at g (x ∷ xs) (suc k) d e lt = map-at g xs k d e (omega arith)

module _ (d : FlowsData) (sound : IsSound d) where
  -- each flow is that of a row or of a stack
  pub owner : (f : ℕ) → f < length d.flows → ((r : ℕ) × (r < length d.rows) × ((row_of d r).flow ≡ f))
      ⊎ ((s : ℕ) × (s < length d.stacks) × ((stack_of d s).flow ≡ f))
  owner f lt = go (cases_lt 0 (count_of f rows))
    where
      rows : List ℕ
      rows = map (λ (r : RowInfo). r.flow) d.rows

      stacks : List ℕ
      stacks = map (λ (s : Stack). s.flow) d.stacks

      go : (0 < count_of f rows) ⊎ (count_of f rows ≤ 0) → ((r : ℕ) × (r < length d.rows) × ((row_of d r).flow ≡ f))
          ⊎ ((s : ℕ) × (s < length d.stacks) × ((stack_of d s).flow ≡ f))
      go (inl some) =
          let at = some-index f rows some in
          let count = length-map d.rows (λ (r : RowInfo). r.flow) in
          let known : at.0 < length d.rows = let l = at.1 in omega arith in
          inl (at.0, known, sym (map-at (λ (r : RowInfo). r.flow) d.rows at.0 f no_row known) ∙ at.2)
      go (inr none) =
          let belongs = sound.flow_belongs f lt in
          let parts : count_of f (flow_owners d) ≡ count_of f rows + count_of f stacks =
          sum_by-append (λ m. cond (m == f) 1 0) rows stacks in
          let at = some-index f stacks (omega arith) in
          let count = length-map d.stacks (λ (s : Stack). s.flow) in
          let known : at.0 < length d.stacks = let l = at.1 in omega arith in
          inr (at.0, known, sym (map-at (λ (s : Stack). s.flow) d.stacks at.0 f no_stack known) ∙ at.2)

  -- and all that stands in it is no more than all flows together
  pub flow-total : (f : ℕ) → f < length d.flows → total_within d (height_in d) (suc (length d.rows)) f
      ≤ sum_by (flow_height d) d.flows
  flow-total f lt = go (owner f lt)
    where
      go : ((r : ℕ) × (r < length d.rows) × ((row_of d r).flow ≡ f))
          ⊎ ((s : ℕ) × (s < length d.stacks) × ((stack_of d s).flow ≡ f)) →
          total_within d (height_in d) (suc (length d.rows)) f ≤ sum_by (flow_height d) d.flows
      go (inl (r, known, is)) =
          let same = total-same d sound (height_in d) (length d.rows - r) r (suc (length d.rows)) (length d.rows)
          (nests-by-number d sound (length d.rows - r) r known (omega arith)) (omega arith) (omega arith) in
          let whole = total-le d sound r known in
          let here : total_within d (height_in d) (suc (length d.rows)) (row_of d r).flow ≤ sum_by (flow_height d) d.flows =
          omega arith in
          let P : ℕ → Type 0 = λ f. total_within d (height_in d) (suc (length d.rows)) f ≤ sum_by (flow_height d) d.flows in
          subst P is here
      go (inr (s, known, is)) =
          let P : ℕ → Type 0 = λ f. total_within d (height_in d) (suc (length d.rows)) f ≤ sum_by (flow_height d) d.flows in
          subst P is (stack-total d sound (suc (length d.rows)) s known)

  pub reach-small : (f : ℕ) → f < length d.flows → (t : Token) → reach (all_rows d) d (flow_of d f) t < 2 ^ 60
  unfolding all_rows
  reach-small f lt t = let a = all-total d (length d.rows) f t in let b = flow-total f lt in let c = sound.heights in omega arith

  below : (bs : List ℕ) (top : ℕ) → top < 2 ^ 60 → NoMore top bs → Each (λ b. b < 2 ^ 60) bs
  below [] top lt all = tt
  below (b ∷ bs) top lt all = let first = all.0 in (omega arith, below bs top lt all.1)

  pub bounds-small : (f : ℕ) → f < length d.flows → (t : Token) (h : ℕ) →
      Each (λ b. b < 2 ^ 60) (column (all_rows d) d (flow_of d f) t h).bounds
  unfolding all_rows
  bounds-small f lt t h =
      let top = total_within d (height_in d) (suc (length d.rows)) f in
      let more = total-more d (height_in d) (length d.rows) f in
      let a = flow-total f lt in
      let b = sound.heights in
      below (column (rows_to d (length d.rows)) d (flow_of d f) t h).bounds top (omega arith)
      (column-bounds (rows_to d (length d.rows)) d (flow_of d f) (row_total d (height_in d) (length d.rows))
      (size-total d (length d.rows)) top (fill-bounds d (length d.rows)) t h (omega arith))
