-- What is laid in a column, or in a stack, is no more than the heights, margins and solid amounts of its flow, where each row
-- counts with a share that is no less than its height.
use Rattle.std.proofs.Common.{◌≡◌, ℕ, zero, suc, ◌+◌, ◌-◌, ◌<◌, ◌≤◌, ◌==◌, Bool, true, false, cond, not, ◌&&◌, List, [], ◌∷◌}
use Rattle.std.proofs.Common.{◌++◌, length, drop, Option, Some, None, refl, sym, subst, append_assoc, ap, arith, sum_by, ◌⊎◌, inl}
use Rattle.std.proofs.Common.{inr}
use Rattle.std.specs.Prelude.{nat_lt, is_some}
use Rattle.std.proofs.lemmas.Bool.{cases_lt}
use Rattle.std.proofs.lemmas.Bool.Decides.{nat_tests}
use Rattle.std.proofs.lemmas.List.{get_or_past}
use Rattle.std.proofs.lemmas.List.Sums.{sum_by-cons, sum_by-append}
use Rattle.std.specs.List.{AllByRecursion as Each}
use Rattle.flow_list.specs.Data.{Edge, Flow, FlowsData, Item, Margin, Solid, Wall, Start, End, Atom, Row}
use Rattle.flow_data.specs.Flows.{item_of, seam_of, no_item, rows_in, amount, boxes_in}
use Rattle.flow_list.specs.ClonedEdges.{tops, bottoms}
use Rattle.flow_list.specs.Tokens.{Token, row_start, item_number, within}
use Rattle.flow_list.specs.Strip.{Strip, put, lay, lay_all}
use Rattle.flow_list.specs.Column.{Inner, Step, height_of, row_from, strip_behind, start_strip, room}
use Rattle.flow_list.specs.Rows.{heights_from, amounts_in}
use Rattle.flow_data.specs.Soundness.{flow_height}
use Rattle.flow_list.specs.Placing.{RowLaid, Laid, margin, solid, wall, opens, closes, atom, row, laid_edge, laid_edges}
use Rattle.flow_list.specs.Fragments.{laid_item, laid_items, fills_item, filled_row, laid_filled, strip_after, strip_filled}
use Rattle.flow_list.specs.Fragments.{laid_before, laid_to}
use Rattle.flow_list.proofs.Fitting.{first-amounts, amounts-drop, first-height, heights-drop}
use Rattle.flow_list.proofs.PlaceBounds.{Each-append, HasShare}
use Rattle.flow_list.proofs.ColumnParts.{OfStop}
use Rattle.flow_laws.proofs.FillEnds.{IsFilledAt, IsEndFor, IsStepFrom}
use Rattle.flow_laws.proofs.Small.{reach-total}

-- a row that is laid is an item of the flow
pub record IsRowOf (f : Flow) (r : RowLaid) : Type 0 where
  pub item : ℕ
  pub lt : item < length f.items
  pub is : item_of f item ≡ Row r.row

pub item-known : (f : Flow) (k r : ℕ) → item_of f k ≡ Row r → k < length f.items
item-known f k r is = go (cases_lt k (length f.items))
  where
    go : (k < length f.items) ⊎ (length f.items ≤ k) → k < length f.items
    go (inl lt) = lt
    go (inr ge) = let past = get_or_past f.items k no_item ge in cc

module _ (total : ℕ → ℕ) where
  -- what each that is laid counts
  abbrev pub share : Laid → ℕ
  share (margin m) = m
  share (solid a) = a
  share wall = 0
  share (opens b) = 0
  share (closes b) = 0
  share (atom k height) = height
  share (row r) = total r.row

  abbrev pub item_share : Item → ℕ
  item_share (Atom height kind) = height
  item_share (Row r) = total r

  module _ (So : RowLaid → Type 0) where
    -- ---- edges

    edge-has : (s : Strip) (e : Edge) → Each (HasShare share So) (laid_edge s e)
    edge-has s (Margin m) = go s.drops
      where
        go : (b : Bool) → Each (HasShare share So) (cond b [] (margin m ∷ []))
        go true = tt
        go false = (omega arith, tt)
    edge-has s (Solid a) = go (a == 0)
      where
        go : (b : Bool) → Each (HasShare share So) (cond b [] (solid a ∷ []))
        go true = tt
        go false = (omega arith, tt)
    edge-has s Wall = (tt, tt)
    edge-has s (Start b) = (tt, tt)
    edge-has s (End b) = (tt, tt)

    pub edges-have : (s : Strip) (es : List Edge) → Each (HasShare share So) (laid_edges s es)
    edges-have s [] = tt
    edges-have s (e ∷ es) = Each-append (HasShare share So) (laid_edge s e) (laid_edges (lay s e) es) (edge-has s e)
        (edges-have (lay s e) es)

  edge-le : (s : Strip) (e : Edge) → sum_by share (laid_edge s e) ≤ amount e
  edge-le s (Margin m) = go s.drops
    where
      go : (b : Bool) → sum_by share (cond b [] (margin m ∷ [])) ≤ m
      go true = omega arith
      go false = omega (arith, sum_by-cons share (margin m) [])
  edge-le s (Solid a) = go (a == 0)
    where
      go : (b : Bool) → sum_by share (cond b [] (solid a ∷ [])) ≤ a
      go true = omega arith
      go false = omega (arith, sum_by-cons share (solid a) [])
  edge-le s Wall = omega (arith, sum_by-cons share wall [])
  edge-le s (Start b) = omega (arith, sum_by-cons share (opens b) [])
  edge-le s (End b) = omega (arith, sum_by-cons share (closes b) [])

  pub edges-le : (s : Strip) (es : List Edge) → sum_by share (laid_edges s es) ≤ sum_by amount es
  edges-le s [] = omega arith
  edges-le s (e ∷ es) = omega (
    arith,
    edge-le s e,
    edges-le (lay s e) es,
    sum_by-append share (laid_edge s e) (laid_edges (lay s e) es),
    sum_by-cons amount e es,
  )

  -- ---- what a flow has from an item on, after the head before it

  module _ (f : Flow) where
    pub sums : Inner → Inner
    sums inner = record { size = λ r q. total r; fill = inner.fill; left = inner.left }

    pub ahead : Inner → ℕ → ℕ
    ahead inner k = heights_from (sums inner) row_start (drop k f.items) + amounts_in (drop (k + 1) f.seams)

    sums-height : (inner : Inner) (item : Item) → height_of (sums inner) item row_start ≡ item_share item
    unfolding sums
    sums-height inner (Atom height kind) = refl
    sums-height inner (Row r) = refl

    pub ahead-first : (inner : Inner) (k : ℕ)
        → ahead inner k ≡ item_share (item_of f k) + sum_by amount (seam_of f (k + 1)).tail + sum_by amount
        (seam_of f (k + 1)).head + ahead inner (k + 1)
    unfolding ahead
    ahead-first inner k =
        let a = first-height (sums inner) row_start f.items k in
        let b = first-amounts f.seams (k + 1) in
        let c = sums-height inner (item_of f k) in
        omega arith

    -- what a flow has in all, with the cloned edges of its boxes
    pub whole-le : (d : FlowsData) (inner : Inner) (i : ℕ)
        → tops d (boxes_in f) + bottoms d (boxes_in f) + sum_by amount (seam_of f i).head + ahead inner i ≤ flow_height d f
        + sum_by total (rows_in f)
    unfolding ahead sums
    whole-le d inner i =
        let a = reach-total (sums inner) d f total row_start (λ k e lt p. omega arith) in
        let b = first-amounts f.seams i in
        let c = amounts-drop f.seams i in
        let h = heights-drop (sums inner) f.items i in
        omega arith

    module _ (inner : Inner) (sizes : (r : ℕ) (q : Token) → inner.size r q ≤ total r) where
      -- ---- items of a column

      item-has : (k : ℕ) (q : Token) → HasShare share (IsRowOf f) (laid_item inner (item_of f k) k q)
      item-has k q = go (item_of f k) refl
        where
          go : (item : Item) → item_of f k ≡ item → HasShare share (IsRowOf f) (laid_item inner item k q)
          go (Atom height kind) is = omega arith
          go (Row r) is = (sizes r q, record { item = k; lt = item-known f k r is; is = is })

      item-le : (k : ℕ) (q : Token) (item : Item) → share (laid_item inner item k q) ≡ item_share item
      item-le k q (Atom height kind) = refl
      item-le k q (Row r) = refl

      items-have : (s : Strip) (k : ℕ) (q : Token) (n : ℕ) → Each (HasShare share (IsRowOf f)) (laid_items inner f s k q n)
      unfolding laid_items
      items-have s k q zero = tt
      items-have s k q (suc zero) = (
        item-has k q,
        Each-append (HasShare share (IsRowOf f))
            (laid_edges (put s (height_of inner (item_of f k) q)) (seam_of f (k + 1)).tail) []
            (edges-have (IsRowOf f) _ (seam_of f (k + 1)).tail) tt,
      )
      items-have s k q (suc (suc n)) = (
        item-has k q,
        Each-append (HasShare share (IsRowOf f)) (laid_edges (put s (height_of inner (item_of f k) q)) (seam_of f (k + 1)).tail) _
            (edges-have (IsRowOf f) _ (seam_of f (k + 1)).tail)
            (Each-append (HasShare share (IsRowOf f)) (laid_edges (strip_behind inner f s k q) (seam_of f (k + 1)).head) _
            (edges-have (IsRowOf f) _ (seam_of f (k + 1)).head)
            (items-have (lay_all (strip_behind inner f s k q) (seam_of f (k + 1)).head) (k + 1) row_start (suc n))),
      )

      next_strip : Strip → ℕ → Token → Strip
      next_strip s k q = lay_all (strip_behind inner f s k q) (seam_of f (k + 1)).head

      items-one : (s : Strip) (k : ℕ) (q : Token)
          → laid_items inner f s k q (suc zero) ≡ laid_item inner (item_of f k) k q
          ∷ (laid_edges (put s (height_of inner (item_of f k) q)) (seam_of f (k + 1)).tail ++ [])
      unfolding laid_items
      items-one s k q = refl

      items-none : (s : Strip) (k : ℕ) (q : Token) → laid_items inner f s k q zero ≡ []
      unfolding laid_items
      items-none s k q = refl

      items-more : (s : Strip) (k : ℕ) (q : Token) (n : ℕ) → laid_items inner f s k q (suc (suc n)) ≡
          laid_item inner (item_of f k) k q
          ∷ (laid_edges (put s (height_of inner (item_of f k) q)) (seam_of f (k + 1)).tail
          ++ (laid_edges (strip_behind inner f s k q) (seam_of f (k + 1)).head ++ laid_items inner f (next_strip s k q)
          (k + 1) row_start (suc n)))
      unfolding laid_items next_strip
      items-more s k q n = refl

      sum-three : (x : Laid) (xs ys zs : List Laid)
          → sum_by share (x ∷ (xs ++ (ys ++ zs))) ≡ share x + sum_by share xs + sum_by share ys + sum_by share zs
      sum-three x xs ys zs = omega (
        arith,
        sum_by-cons share x (xs ++ (ys ++ zs)),
        sum_by-append share xs (ys ++ zs),
        sum_by-append share ys zs,
      )

      -- n items and the head after them leave what the flow has from there on
      items-sum : (s : Strip) (k : ℕ) (q : Token) (n e : ℕ) → k + suc n ≡ e
          → sum_by share (laid_items inner f s k q (suc n)) + sum_by amount (seam_of f e).head + ahead inner e ≤ ahead inner k
      items-sum s k q zero e is =
          let P : ℕ → Type 0 = λ e. sum_by share (laid_items inner f s k q (suc zero)) + sum_by amount (seam_of f e).head + ahead
          inner e ≤ ahead inner k in
          let z : k + 1 ≡ e = omega arith in
          let first = ahead-first inner k in
          let own = item-le k q (item_of f k) in
          let tail = edges-le (put s (height_of inner (item_of f k) q)) (seam_of f (k + 1)).tail in
          let c = sum_by-cons share (laid_item inner (item_of f k) k q)
          (laid_edges (put s (height_of inner (item_of f k) q)) (seam_of f (k + 1)).tail ++ []) in
          let a = sum_by-append share (laid_edges (put s (height_of inner (item_of f k) q)) (seam_of f (k + 1)).tail) [] in
          let u = ap (sum_by share) (items-one s k q) in
          subst P z (omega arith)
      items-sum s k q (suc n) e is =
          let first = ahead-first inner k in
          let own = item-le k q (item_of f k) in
          let tail = edges-le (put s (height_of inner (item_of f k) q)) (seam_of f (k + 1)).tail in
          let head = edges-le (strip_behind inner f s k q) (seam_of f (k + 1)).head in
          let more = items-sum (next_strip s k q) (k + 1) row_start n e (omega arith) in
          let c = sum-three (laid_item inner (item_of f k) k q)
          (laid_edges (put s (height_of inner (item_of f k) q)) (seam_of f (k + 1)).tail)
          (laid_edges (strip_behind inner f s k q) (seam_of f (k + 1)).head)
          (laid_items inner f (next_strip s k q) (k + 1) row_start (suc n)) in
          let u = ap (sum_by share) (items-more s k q n) in
          omega arith

      before-have : (s : Strip) (k : ℕ) (q : Token) (n : ℕ) → Each (HasShare share (IsRowOf f)) (laid_before inner f s k q n)
      before-have s k q zero = tt
      before-have s k q (suc n) = Each-append (HasShare share (IsRowOf f)) (laid_items inner f s k q (suc n)) _
          (items-have s k q (suc n)) (edges-have (IsRowOf f) (strip_after inner f s k q (suc n)) (seam_of f (k + suc n)).head)

      before-sum : (s : Strip) (k : ℕ) (q : Token) (n e : ℕ) → k + n ≡ e
          → sum_by share (laid_before inner f s k q n) + ahead inner e ≤ ahead inner k
      before-sum s k q zero e is = let P : ℕ → Type 0 = λ e. 0 + ahead inner e ≤ ahead inner k in let z : k ≡ e = omega arith
          in subst P z (omega arith)
      before-sum s k q (suc n) e is =
          let P : ℕ → Type 0 = λ e. sum_by share (laid_before inner f s k q (suc n)) + ahead inner e ≤ ahead inner k in
          let a = items-sum s k q n (k + suc n) refl in
          let b = edges-le (strip_after inner f s k q (suc n)) (seam_of f (k + suc n)).head in
          let c = sum_by-append share (laid_items inner f s k q (suc n))
          (laid_edges (strip_after inner f s k q (suc n)) (seam_of f (k + suc n)).head) in
          subst P is (omega arith)

      -- ---- a row that is filled

      filled-of : (a : ℕ) (k : ℕ) (q : Token) (item : Item) → item_of f k ≡ item → a < height_of inner item q →
          Each (HasShare share (IsRowOf f)) (filled_row (row_from item q) a)
          × (sum_by share (filled_row (row_from item q) a) ≤ item_share item)
      filled-of a k q (Atom height kind) is lt = (tt, omega arith)
      filled-of a k q (Row r) is lt =
          let small = sizes r q in (
            ((omega arith, record { item = k; lt = item-known f k r is; is = is }), tt),
            omega (
              arith,
              sum_by-cons share
                  (row (record { row = r; from = q; height = a; made_at = Some a; filled = true })) [],
            ),
          )

      step-filled : (s : Step) (h i k : ℕ) → IsStepFrom inner f i s → s.item ≡ k → room s h < s.height →
          (i ≤ k) × Each (HasShare share (IsRowOf f)) (filled_row s.row (room s h))
          × (sum_by share (filled_row s.row (room s h)) ≤ item_share (item_of f k))
      step-filled s h i k of is lt =
          let height = of.height in
          let later = of.later in
          let P : Option (ℕ × Token) → Type 0 = λ row. Each (HasShare share (IsRowOf f)) (filled_row row (room s h))
          × (sum_by share (filled_row row (room s h)) ≤ item_share (item_of f s.item)) in
          let Q : ℕ → Type 0 = λ k. (i ≤ k) × Each (HasShare share (IsRowOf f)) (filled_row s.row (room s h))
          × (sum_by share (filled_row s.row (room s h)) ≤ item_share (item_of f k)) in
          let made : P s.row = subst P (sym of.row) (filled-of (room s h) s.item of.from (item_of f s.item) refl (omega arith)) in
          subst Q is (later, made.0, made.1)

      -- ---- what is laid up to a place

      pub record Lays (i : ℕ) (xs : List Laid) : Type 0 where
        pub each : Each (HasShare share (IsRowOf f)) xs
        pub le : sum_by share xs ≤ ahead inner i

      nothing : (i : ℕ) → Lays i []
      nothing i = record { each = tt; le = omega arith }

      items-lay : (s : Strip) (i : ℕ) (q : Token) (n : ℕ) → Lays i (laid_items inner f s i q n)
      items-lay s i q zero = zero-lay
        where
          zero-lay : Lays i (laid_items inner f s i q zero)
          zero-lay = record { each = items-have s i q zero; le = let u = ap (sum_by share) (items-none s i q) in omega arith }
      items-lay s i q (suc n) = record {
        each = items-have s i q (suc n);
        le = let a = items-sum s i q n (i + suc n) refl
            in omega arith;
      }

      -- the items before item k, and something that counts no more than that item and the tail after it
      behind-lay : (s : Strip) (i : ℕ) (q : Token) (k : ℕ) (ys : List Laid) → i ≤ k → Each (HasShare share (IsRowOf f)) ys
          → sum_by share ys ≤ item_share (item_of f k) + sum_by amount (seam_of f (k + 1)).tail →
          Lays i (laid_before inner f s i q (k - i) ++ ys)
      behind-lay s i q k ys later each le =
          record {
            each = Each-append (HasShare share (IsRowOf f)) (laid_before inner f s i q (k - i)) ys
                (before-have s i q (k - i)) each;
            le =
                let a = before-sum s i q (k - i) k (omega arith) in
                let b = sum_by-append share (laid_before inner f s i q (k - i)) ys in
                let first = ahead-first inner k in
                omega arith;
          }

      before-lay : (s : Strip) (i : ℕ) (q : Token) (n : ℕ) → Lays i (laid_before inner f s i q n ++ [])
      before-lay s i q n =
          record {
            each = Each-append (HasShare share (IsRowOf f)) (laid_before inner f s i q n) [] (before-have s i q n) tt;
            le = let a = before-sum s i q n (i + n) refl in let b = sum_by-append share (laid_before inner f s i q n) []
                in omega arith;
          }

      both : (a b : Bool) → (a && b) ≡ true → (a ≡ true) × (b ≡ true)
      both true b e = (refl, e)
      both false b e = cc

      -- a stop that is filled is item k
      is-filled : (h : ℕ) (s : Step) (k : ℕ) → fills_item (Some h) (Some s) k ≡ true → IsFilledAt h k (Some s)
      is-filled h s k e =
          let a = both (s.item == k && is_some s.row) (nat_lt (room s h) s.height) e in
          let b = both (s.item == k) (is_some s.row) a.0 in
          let item = b.0 in
          let lt = a.1 in
          (grind (arith, nat_tests), grind (arith, nat_tests))

      -- up to item k, which is filled, and with the tail after it
      filled-lay : (s : Strip) (i : ℕ) (q : Token) (h : Option ℕ) (stop : Option Step) (k : ℕ) (z : Strip) (tail : List Edge)
          → OfStop (IsStepFrom inner f i) stop → fills_item h stop k ≡ true →
          sum_by amount tail ≤ sum_by amount (seam_of f (k + 1)).tail
          → Lays i (laid_before inner f s i q (k - i) ++ (laid_filled h stop ++ laid_edges z tail))
      filled-lay s i q None stop k z tail of e le = cc
      filled-lay s i q (Some h) None k z tail of e le = cc
      filled-lay s i q (Some h) (Some x) k z tail of e le =
          let at = is-filled h x k e in
          let made = step-filled x h i k of at.0 at.1 in
          let sum = made.2 in
          let a = sum_by-append share (filled_row x.row (room x h)) (laid_edges z tail) in
          let b = edges-le z tail in
          behind-lay s i q k (filled_row x.row (room x h) ++ laid_edges z tail) made.0
          (Each-append (HasShare share (IsRowOf f)) (filled_row x.row (room x h)) (laid_edges z tail) made.1
          (edges-have (IsRowOf f) z tail)) (omega arith)

      -- up to a place in item k
      inside-lay : (s : Strip) (i : ℕ) (q : Token) (h : Option ℕ) (stop : Option Step) (k : ℕ)
          → OfStop (IsStepFrom inner f i) stop → ((a : ℕ) → h ≡ Some a → IsFilledAt a k stop) →
          Lays i (laid_before inner f s i q (k - i) ++ laid_filled h stop)
      inside-lay s i q None stop k of at = before-lay s i q (k - i)
      inside-lay s i q (Some h) None k of at = before-lay s i q (k - i)
      inside-lay s i q (Some h) (Some x) k of at =
          let here = at h refl in
          let made = step-filled x h i k of here.0 here.1 in
          let sum = made.2 in
          behind-lay s i q k (filled_row x.row (room x h)) made.0 made.1 (omega arith)

      tail-at : (e : ℕ) → (e == 0) ≡ false → sum_by amount (seam_of f e).tail ≤ sum_by amount (seam_of f (e - 1 + 1)).tail
      tail-at e some =
          let P : ℕ → Type 0 = λ m. sum_by amount (seam_of f e).tail ≤ sum_by amount (seam_of f m).tail in
          let z : e ≡ e - 1 + 1 = grind (arith, nat_tests) in
          subst P z (omega arith)

      pub to-lay : (d : FlowsData) (t : Token) (h : Option ℕ) (stop : Option Step) (end : Token)
          → OfStop (IsStepFrom inner f (item_number t)) stop → ((a : ℕ) → h ≡ Some a → IsEndFor a stop end)
          → Lays (item_number t) (laid_to inner d f t h stop end)
      to-lay d t h stop [] of at = nothing (item_number t)
      to-lay d t h stop (e ∷ []) of at = go (fills_item h stop (e - 1)) (e == 0) refl refl
        where
          not-lay : Lays (item_number t) (laid_items inner f (start_strip d f t) (item_number t) (within t) (e - item_number t))
          not-lay = items-lay (start_strip d f t) (item_number t) (within t) (e - item_number t)

          go : (b z : Bool) → fills_item h stop (e - 1) ≡ b → (e == 0) ≡ z → Lays (item_number t)
              (cond (b && not z) (laid_before inner f (start_strip d f t) (item_number t) (within t) (e - 1 - item_number t)
              ++ laid_filled h stop ++ laid_edges (strip_filled h stop) (seam_of f e).tail)
              (laid_items inner f (start_strip d f t) (item_number t) (within t) (e - item_number t)))
          go true true fills none = not-lay
          go true false fills some = rw append_assoc
              (filled-lay (start_strip d f t) (item_number t) (within t) h stop (e - 1) (strip_filled h stop) (seam_of f e).tail
              of fills (tail-at e some))
          go false z fills any = not-lay
      to-lay d t h stop (e ∷ (j ∷ rest)) of at = inside-lay (start_strip d f t) (item_number t) (within t) h stop e of at
