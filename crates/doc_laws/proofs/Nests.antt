-- How the rows of a document stand one inside another: three at most, each with an item and, inside another, with few.
use Rattle.std.proofs.Common.{◌≡◌, ℕ, zero, suc, ◌+◌, ◌<◌, ◌≤◌, Bool, true, false, List, [], ◌∷◌, ◌++◌, length, refl, sym, ap}
use Rattle.std.proofs.Common.{◌∙◌, subst, arith, All, ◌⊎◌, inl, inr}
use Rattle.std.specs.Prelude.{if◌then◌else◌, ◌&&◌, reverse}
use Rattle.std.specs.List.{AllByRecursion}
use Rattle.std.proofs.lemmas.Bool.{cases_lt, cases_eq}
use Rattle.std.proofs.lemmas.List.Elements.{All-nil, All-cons}
use Rattle.flow_data.specs.declared.data.Flow.{Flow}
use Rattle.flow_data.specs.declared.data.FlowsData.{FlowsData}
use Rattle.flow_data.specs.declared.data.RowInfo.{RowInfo}
use Rattle.flow_data.specs.Flows as parts
use Rattle.flow_data.specs.Flows.{flow_in, rows_in, row_in, flow_of}
use Rattle.flow_data.specs.Soundness.{IsInnerRow, NestsAtMost}
use Rattle.box_data.specs.declared.placed.Placed.{Placed}
use Rattle.box_data.specs.Content.{Leaf, line, image, void, stack, row, Content, done, opens, closes, leaf, holds, spanner}
use Rattle.box_data.specs.DocumentFlows.{Begun, with_row, with_stack, past, leaf_item, flow_with, next_flow}
use Rattle.box_data.specs.Limits.{nesting, item_count, inner_counts}
use Rattle.doc_laws.proofs.Goes.{Goes}
use Rattle.doc_laws.proofs.Places.{ArePlaced}
use Rattle.doc_laws.proofs.Counted.{own_rows, past-rows}
use Rattle.doc_laws.proofs.Across.{same_head}
use Rattle.doc_laws.proofs.Ordered.{item-follows}
use Rattle.doc_laws.proofs.GoodFlows.{seam-count}
use Rattle.doc_laws.proofs.Totals.{length-items}
use Rattle.doc_laws.proofs.Lists.{split_all}

-- ---- what holds of each row by its number

abbrev pub ForRows : (ℕ → Type 0) → Begun → Content → Type 0
ForRows P n done = Unit {0}
ForRows P n (opens p next) = ForRows P n next
ForRows P n (closes p next) = ForRows P n next
ForRows P n (leaf l next) = ForRows P n next
ForRows P n (holds (stack p) inside next) = ForRows P (with_stack n) inside × ForRows P (past (with_stack n) inside) next
ForRows P n (holds (row p x is_last opened) inside next) = P n.rows × ForRows P (with_row n) inside
    × ForRows P (past (with_row n) inside) next
ForRows P n (spanner inside next) = ForRows P n next

pub for_each_row : (P : ℕ → Type 0) (n : Begun) (c : Content) (j : ℕ) → ForRows P n c → n.rows ≤ j → j < (past n c).rows → P j
for_each_row P n done j h low high = absurd (omega arith)
for_each_row P n (opens p next) j h low high = for_each_row P n next j h low high
for_each_row P n (closes p next) j h low high = for_each_row P n next j h low high
for_each_row P n (leaf l next) j h low high = for_each_row P n next j h low high
for_each_row P n (holds (stack p) inside next) j h low high =
    by_place (cases_lt j (past (with_stack n) inside).rows) (λ lo hi. for_each_row P (with_stack n) inside j h.0 lo hi)
    (λ lo hi. for_each_row P (past (with_stack n) inside) next j h.1 lo hi)
  where
    by_place : ((j < (past (with_stack n) inside).rows) ⊎ ((past (with_stack n) inside).rows ≤ j))
        → (n.rows ≤ j → j < (past (with_stack n) inside).rows → P j)
        → ((past (with_stack n) inside).rows ≤ j → j < (past (past (with_stack n) inside) next).rows → P j) → P j
    by_place (inl lt) inner behind = inner low lt
    by_place (inr le) inner behind = behind le high
for_each_row P n (holds (row p x is_last opened) inside next) j h low high =
    by_place (cases_eq j n.rows) (cases_lt j (past (with_row n) inside).rows)
    (λ lo hi. for_each_row P (with_row n) inside j h.1 lo hi) (λ lo hi. for_each_row P
    (past (with_row n) inside) next j h.2 lo hi)
  where
    by_place : ((j ≡ n.rows) ⊎ (j ≡ n.rows → ⊥)) → ((j < (past (with_row n) inside).rows) ⊎ ((past (with_row n) inside).rows ≤ j))
        → (suc n.rows ≤ j → j < (past (with_row n) inside).rows → P j)
        → ((past (with_row n) inside).rows ≤ j → j < (past (past (with_row n) inside) next).rows → P j) → P j
    by_place (inl e) c inner behind = subst P (sym e) h.0
    by_place (inr ne) (inl lt) inner behind = inner (omega arith) lt
    by_place (inr ne) (inr le) inner behind = behind le high
for_each_row P n (spanner inside next) j h low high = for_each_row P n next j h low high

-- ---- flows

pub leaf-row : (l : Leaf) → row_in (leaf_item l) ≡ []
leaf-row (line p index size) = refl
leaf-row (image p) = refl
leaf-row (void p x) = refl

past_leaf : (P : ℕ → Type 0) (l : Leaf) (ns : List ℕ) → All P ns → All P (row_in (leaf_item l) ++ ns)
past_leaf P l ns h = subst (λ (ms : List ℕ). All P (ms ++ ns)) (sym (leaf-row l)) h

-- the flow of the next row, and what it says
row-info : Begun → Bool → Placed → ℕ → Bool → RowInfo
row-info n in_stack p x is_last = record {
  flow = next_flow n;
  n = p.columns.n;
  w = p.columns.w;
  step = p.columns.step;
  x = x;
  auto = in_stack && p.style.fill_auto && is_last;
}

row-at : (d : FlowsData) (n : Begun) (info : RowInfo) → info ∷ [] ≡ parts.row_of d n.rows ∷ [] → parts.row_of d n.rows ≡ info
row-at d n info at = sym (same_head info (parts.row_of d n.rows) at)

pub flow-in : (d : FlowsData) (n : Begun) (in_stack : Bool) (p : Placed) (x : ℕ) (is_last : Bool) (opened : List Placed)
    (inside next : Content) → ArePlaced d n in_stack (holds (row p x is_last opened) inside next)
    → flow_in d n.rows ≡ flow_with opened (with_row n) inside
flow-in d n in_stack p x is_last opened inside next h = ap (λ (r : RowInfo). flow_of d r.flow) (row-at d n _ h.0) ∙ h.1

-- ---- depth

nesting-up : (around : ℕ) (c : Content) → around ≤ nesting around c
nesting-up around done = omega arith
nesting-up around (opens p next) = nesting-up around next
nesting-up around (closes p next) = nesting-up around next
nesting-up around (leaf l next) = nesting-up around next
nesting-up around (holds h inside next) = omega (arith, nesting-up around next)
nesting-up around (spanner inside next) = nesting-up around next

nesting-more : (few many : ℕ) (c : Content) → few ≤ many → nesting few c ≤ nesting many c
nesting-more few many done le = le
nesting-more few many (opens p next) le = nesting-more few many next le
nesting-more few many (closes p next) le = nesting-more few many next le
nesting-more few many (leaf l next) le = nesting-more few many next le
nesting-more few many (holds (stack p) inside next) le = omega (arith, nesting-more few many next le)
nesting-more few many (holds (row p x is_last opened) inside next) le =
    omega (arith, nesting-more (suc few) (suc many) inside (omega arith), nesting-more few many next le)
nesting-more few many (spanner inside next) le = nesting-more few many next le

nests : (d : FlowsData) (k around : ℕ) (n : Begun) (in_stack : Bool) (c : Content) → around + k ≡ 3 → ArePlaced d n in_stack c
    → nesting around c ≤ 3 → All (NestsAtMost d k) (own_rows n c)
nests d k around n in_stack done e h le = All-nil _
nests d k around n in_stack (opens p next) e h le = nests d k around n in_stack next e h le
nests d k around n in_stack (closes p next) e h le = nests d k around n in_stack next e h le
nests d k around n in_stack (leaf l next) e h le = past_leaf (NestsAtMost d k) l (own_rows n next)
    (nests d k around n in_stack next e h le)
nests d k around n in_stack (holds (stack p) inside next) e h le =
    nests d k around (past (with_stack n) inside) in_stack next e h.3 (omega arith)
nests d zero around n in_stack (holds (row p x is_last opened) inside next) e h le =
    absurd (let up = nesting-up (suc around) inside in omega arith)
nests d (suc k) around n in_stack (holds (row p x is_last opened) inside next) e h le =
    let inner = nests d k (suc around) (with_row n) false inside (omega arith) h.2 (omega arith) in
    let here : NestsAtMost d (suc k) n.rows =
    subst (λ (f : Flow). All (NestsAtMost d k) (rows_in f)) (sym (flow-in d n in_stack p x is_last opened inside next h)) inner in
    All-cons (NestsAtMost d (suc k)) n.rows (own_rows (past (with_row n) inside) next) here
    (nests d (suc k) around (past (with_row n) inside) in_stack next e h.3 (omega arith))
nests d k around n in_stack (spanner inside next) e h le = nests d k around n in_stack next e h le

pub all_nest : (d : FlowsData) (around : ℕ) (n : Begun) (in_stack : Bool) (c : Content) → ArePlaced d n in_stack c
    → nesting around c ≤ 3 → ForRows (NestsAtMost d 3) n c
all_nest d around n in_stack done h le = tt
all_nest d around n in_stack (opens p next) h le = all_nest d around n in_stack next h le
all_nest d around n in_stack (closes p next) h le = all_nest d around n in_stack next h le
all_nest d around n in_stack (leaf l next) h le = all_nest d around n in_stack next h le
all_nest d around n in_stack (holds (stack p) inside next) h le = (
  all_nest d 0 (with_stack n) true inside h.2 (omega arith),
  all_nest d around (past (with_stack n) inside) in_stack next h.3
      (omega arith),
)
all_nest d around n in_stack (holds (row p x is_last opened) inside next) h le =
    let more = nesting-more 1 (suc around) inside (omega arith) in
    let inner = nests d 2 1 (with_row n) false inside refl h.2 (omega arith) in (
      subst (λ (f : Flow). All (NestsAtMost d 2) (rows_in f)) (sym (flow-in d n in_stack p x is_last opened inside next h)) inner,
      all_nest d (suc around) (with_row n) false inside h.2 (omega arith),
      all_nest d around (past (with_row n) inside) in_stack next h.3 (omega arith),
    )
all_nest d around n in_stack (spanner inside next) h le = all_nest d around n in_stack next h le

-- ---- inner rows

abbrev AreFew : List ℕ → Type 0
AreFew ns = AllByRecursion (λ n. n ≤ 2000) ns

inner : (d : FlowsData) (outer : ℕ) (n : Begun) (fresh : Bool) (from to : List Placed) (c : Content) → outer < n.rows
    → ArePlaced d n false c → Goes false fresh from to c → AreFew (inner_counts true c)
    → All (IsInnerRow d outer) (own_rows n c)
inner d outer n fresh from to done later h g few = All-nil _
inner d outer n fresh from to (opens p next) later h g few = inner d outer n true (p ∷ from) to next later h g few
inner d outer n fresh from to (closes p next) later h g few = inner d outer n false g.1 to next later h g.3 few
inner d outer n fresh from to (leaf l next) later h g few = past_leaf (IsInnerRow d outer) l (own_rows n next)
    (inner d outer n false from to next later h g few)
inner d outer n fresh from to (holds (stack p) inside next) later h g few =
    let rest = split_all (λ n. n ≤ 2000) (inner_counts false inside) (inner_counts true next) few in
    let up = past-rows (with_stack n) inside in
    inner d outer (past (with_stack n) inside) false from to next (omega arith) h.3 g.1 rest.1
inner d outer n fresh from to (holds (row p x is_last opened) inside next) later h g few =
    let rest = split_all (λ n. n ≤ 2000) (inner_counts true inside) (inner_counts true next) few.1 in
    let flow = flow-in d n false p x is_last opened inside next h in
    let len : length (flow_in d n.rows).items ≡ item_count inside =
    ap (λ (f : Flow). length f.items) flow ∙ length-items (with_row n) inside in
    let some = item-follows (reverse opened) g.0.0 inside g.0.1 in
    let count = seam-count (with_row n) (reverse opened) inside in
    let items = length-items (with_row n) inside in
    let least : 0 < item_count inside = omega arith in
    let up = past-rows (with_row n) inside in
    let here : IsInnerRow d outer n.rows = record {
      later = later;
      some_item = subst (λ (k : ℕ). 0 < k) (sym len) least;
      item_limit = subst (λ (k : ℕ). k ≤ 2000) (sym len) few.0;
      balanced = ap (λ (r : RowInfo). r.auto) (row-at d n _ h.0);
    } in
    All-cons (IsInnerRow d outer) n.rows (own_rows (past (with_row n) inside) next) here
    (inner d outer (past (with_row n) inside) false from to next (omega arith) h.3 g.1 rest.1)
inner d outer n fresh from to (spanner inside next) later h g few = absurd (let no = g.0 in cc)

counts_left : (in_row : Bool) (k : ℕ) (xs ys : List ℕ) → AreFew ((if in_row then k ∷ [] else []) ++ xs ++ ys)
    → AreFew xs × AreFew ys
counts_left true k xs ys h = split_all (λ n. n ≤ 2000) xs ys h.1
counts_left false k xs ys h = split_all (λ n. n ≤ 2000) xs ys h

pub all_inner : (d : FlowsData) (in_row : Bool) (n : Begun) (in_stack fresh : Bool) (from to : List Placed) (c : Content)
    → ArePlaced d n in_stack c → Goes false fresh from to c → AreFew (inner_counts in_row c)
    → ForRows (λ outer. All (IsInnerRow d outer) (rows_in (flow_in d outer))) n c
all_inner d in_row n in_stack fresh from to done h g few = tt
all_inner d in_row n in_stack fresh from to (opens p next) h g few = all_inner d in_row n in_stack true (p ∷ from) to next h g few
all_inner d in_row n in_stack fresh from to (closes p next) h g few = all_inner d in_row n in_stack false g.1 to next h g.3 few
all_inner d in_row n in_stack fresh from to (leaf l next) h g few = all_inner d in_row n in_stack false from to next h g few
all_inner d in_row n in_stack fresh from to (holds (stack p) inside next) h g few =
    let rest = split_all (λ n. n ≤ 2000) (inner_counts false inside) (inner_counts in_row next) few in (
      all_inner d false (with_stack n) true true [] g.0.0 inside h.2 g.0.1 rest.0,
      all_inner d in_row (past (with_stack n) inside) in_stack false from to next h.3 g.1 rest.1,
    )
all_inner d in_row n in_stack fresh from to (holds (row p x is_last opened) inside next) h g few =
    let rest = counts_left in_row (item_count inside) (inner_counts true inside) (inner_counts in_row next) few in
    let own = inner d n.rows (with_row n) true (reverse opened) g.0.0 inside (omega arith) h.2 g.0.1 rest.0 in (
      subst (λ (f : Flow). All (IsInnerRow d n.rows) (rows_in f)) (sym
          (flow-in d n in_stack p x is_last opened inside next h)) own,
      all_inner d true (with_row n) false true (reverse opened) g.0.0 inside h.2 g.0.1 rest.0,
      all_inner d in_row (past (with_row n) inside) in_stack false from to next h.3 g.1 rest.1,
    )
all_inner d in_row n in_stack fresh from to (spanner inside next) h g few = absurd (let no = g.0 in cc)
