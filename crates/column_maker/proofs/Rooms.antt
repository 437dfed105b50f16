-- What stands in a column stays below 2^63.
use Rattle.std.proofs.Common.{◌≡◌, ℕ, ◌+◌, ◌<◌, ◌≤◌, ◌^◌, List, [], ◌∷◌, false, sum_by, ap, arith, length, refl}
use Rattle.flow_list.specs.Data.{Edge, Flow, FlowsData}
use Rattle.flow_data.specs.Flows.{amount, box_of, flow_of, item_of, seam_of}
use Rattle.flow_data.specs.Soundness.{IsSound}
use Rattle.flow_data.proofs.BoxSums.{open_at-le}
use Rattle.flow_list.specs.ClonedEdges.{open_across, tops}
use Rattle.std.specs.Prelude.{◌==◌, ◌||◌, not}
use Rattle.flow_list.specs.Column.{height_of, is_forced, start_strip, strip_behind}
use Rattle.flow_list.specs.Placing.{Laid, RowLaid, laid_edges, row}
use Rattle.flow_list.specs.Rows.{all_rows, reach}
use Rattle.flow_list.specs.Strip.{Strip, begins, lay_all, put, strip_at}
use Rattle.flow_list.specs.Tokens.{Token, item_number, row_start, within}
use Rattle.flow_list.proofs.Fitting.{amounts-drop, first-amounts, first-height, open_across-le}
use Rattle.flow_list.proofs.StripBounds.{lay_all_le, put_le}
use Rattle.column_laws.proofs.Bounds.{reach-small}
use Rattle.column_places.specs.declared.placing.Placing.{Placing}
use Rattle.column_places.specs.Placing.{Leads, strip_of}
use Rattle.column_maker.specs.Walking.{HasRoom, strip_next}

module _ (d : FlowsData) (f : Flow) (k : ℕ) (q : Token) (a : Placing) (room : HasRoom d f k q (strip_of a)) where
  -- the item
  pub item-room : a.y + a.margin + height_of (all_rows d) (item_of f k) q < 2 ^ 63
  item-room = omega (arith, first-height (all_rows d) q f.items k)

  -- after a whole item its tail
  module _ (laid : List Laid) (b : Placing)
      (led : Leads a laid (put (strip_of a) (height_of (all_rows d) (item_of f k) q)) b)
      (tail : List Edge) (whole : tail ≡ (seam_of f (k + 1)).tail) where
    pub tail-room : b.y + b.margin + sum_by amount tail < 2 ^ 63
    tail-room =
        let s = ap (λ (s : Strip). s.y + s.pending) led.strip in
        let t = ap (sum_by amount) whole in
        omega (
          arith,
          s,
          t,
          put_le (strip_of a) (height_of (all_rows d) (item_of f k) q),
          first-height (all_rows d) q f.items k,
          first-amounts f.seams (k + 1),
        )

  -- after a row that is filled in no more than its height, the tail
  module _ (low_at : ℕ) (low : low_at ≤ height_of (all_rows d) (item_of f k) q) (b : Placing) (r : RowLaid)
      (led : Leads a (row r ∷ []) (strip_at (begins (strip_of a) + low_at) false) b)
      (tail : List Edge) (whole : tail ≡ (seam_of f (k + 1)).tail) where
    pub cut-room : b.y + b.margin + sum_by amount tail < 2 ^ 60
    cut-room =
        let s = ap (λ (s : Strip). s.y + s.pending) led.strip in
        let t = ap (sum_by amount) whole in
        omega (arith, s, t, first-height (all_rows d) q f.items k, first-amounts f.seams (k + 1))

pub cut-tail-room : (d : FlowsData) (f : Flow) (k : ℕ) (q : Token) (a : Placing) → HasRoom d f k q (strip_of a) → (room : ℕ) →
    room ≤ height_of (all_rows d) (item_of f k) q → (b : Placing) → {r : RowLaid} →
    Leads a (row r ∷ []) (strip_at (begins (strip_of a) + room) false) b → (tail : List Edge) → tail ≡ (seam_of f (k + 1)).tail →
    (c : Placing) → Leads b (laid_edges (strip_of b) tail) (lay_all (strip_of b) tail) c → c.y + c.margin < 2 ^ 63
cut-tail-room d f k q a has room low b {r} led tail whole c after =
    let s = ap (λ (s : Strip). s.y + s.pending) after.strip in
    omega (arith, s, cut-room d f k q a has room low b r led tail whole, lay_all_le (strip_of b) tail)

-- ---- after an item

module _ (d : FlowsData) (f : Flow) (k : ℕ) (q : Token) (a : Placing) (room : HasRoom d f k q (strip_of a)) (laid : List Laid)
    (b : Placing) (led : Leads a laid (strip_behind (all_rows d) f (strip_of a) k q) b) where
  -- with the head before the next item
  pub next-head-room : (head : List Edge) → head ≡ (seam_of f (k + 1)).head → b.y + b.margin + sum_by amount head < 2 ^ 63
  next-head-room head whole =
      let h = height_of (all_rows d) (item_of f k) q in
      let s = ap (λ (s : Strip). s.y + s.pending) led.strip in
      let t = ap (sum_by amount) whole in
      omega (
        arith,
        s,
        t,
        put_le (strip_of a) h,
        lay_all_le (put (strip_of a) h) (seam_of f (k + 1)).tail,
        first-height (all_rows d) q f.items k,
        first-amounts f.seams (k + 1),
      )

  pub behind-room : b.y + b.margin < 2 ^ 63
  behind-room = let r = next-head-room (seam_of f (k + 1)).head refl in omega arith

-- ---- from one item to the next

pub next-room : (d : FlowsData) (f : Flow) (k : ℕ) (q : Token) (s : Strip) → HasRoom d f k q s →
    HasRoom d f (k + 1) row_start (strip_next (all_rows d) f s k q)
next-room d f k q s room =
    let h = height_of (all_rows d) (item_of f k) q in
    omega (
      arith,
      put_le s h,
      lay_all_le (put s h) (seam_of f (k + 1)).tail,
      lay_all_le (lay_all (put s h) (seam_of f (k + 1)).tail) (seam_of f (k + 1)).head,
      first-height (all_rows d) q f.items k,
      first-amounts f.seams (k + 1),
    )

start-room : (d : FlowsData) (f : Flow) (t : Token) (small : reach (all_rows d) d f t < 2 ^ 60) →
    HasRoom d f (item_number t) (within t) (start_strip d f t)
start-room d f [] small = omega (arith, amounts-drop f.seams (0 + 1))
start-room d f (i ∷ []) small =
    omega (
      arith,
      first-amounts f.seams i,
      amounts-drop f.seams i,
      open_across-le (λ b. (box_of d b).top) f i,
      lay_all_le (strip_at (tops d (open_across f i)) (not (i == 0 || is_forced (seam_of f i).level))) (seam_of f i).head,
    )
start-room d f (i ∷ (j ∷ rest)) small =
    omega (arith, amounts-drop f.seams (i + 1), open_at-le (λ b. (box_of d b).top) f i)

pub first-room : (d : FlowsData) (n : ℕ) → IsSound d → n < length d.flows → (t : Token) →
    HasRoom d (flow_of d n) (item_number t) (within t) (start_strip d (flow_of d n) t)
first-room d n sound lt t = start-room d (flow_of d n) t (reach-small d sound n lt t)

pub room-same : (d : FlowsData) (f : Flow) (k k' : ℕ) (q q' : Token) (s s' : Strip) → k ≡ k' → q ≡ q' → s ≡ s' →
    HasRoom d f k' q' s' → HasRoom d f k q s
room-same d f k k' q q' s s' a b e h = rw (a, b, e) h
