-- How many items, rows and stacks the flows of a document have.
use Rattle.std.proofs.Common.{◌≡◌, ℕ, suc, ◌+◌, ◌≤◌, Bool, true, false, Option, List, [], ◌∷◌, ◌++◌, length, cond, refl, sym, ap}
use Rattle.std.proofs.Common.{◌∙◌, subst, arith, inl, inr, sum_by}
use Rattle.std.specs.Prelude.{if◌then◌else◌, ◌&&◌, count_by, reverse}
use Rattle.std.proofs.lemmas.List.Sums.{sum_by-cons, sum_by-append}
use Rattle.flow_data.specs.declared.data.Bound.TheVariants.{Left}
use Rattle.flow_data.specs.declared.data.BoxInfo.{BoxInfo}
use Rattle.flow_data.specs.declared.data.Flow.{Flow}
use Rattle.flow_data.specs.declared.data.FlowsData.{FlowsData}
use Rattle.flow_data.specs.declared.data.Item.{Item}
use Rattle.flow_data.specs.declared.data.RowInfo.{RowInfo}
use Rattle.flow_data.specs.declared.data.Stack.{Stack}
use Rattle.flow_data.specs.Flows.{flow_of}
use Rattle.flow_data.specs.Soundness.{is_atom, item_total}
use Rattle.box_data.specs.declared.placed.Placed.{Placed}
use Rattle.box_data.specs.Content.{Leaf, line, image, void, Holder, stack, row, Content, done, opens, closes, leaf, holds}
use Rattle.box_data.specs.Content.{spanner}
use Rattle.box_data.specs.DocumentFlows.{Begun, with_row, with_stack, begun_in, past, leaf_item, holder_item, items_from}
use Rattle.box_data.specs.DocumentFlows.{is_stack, rows_from, stacks_from, next_flow, bound_of, nothing_begun, flows_of_content}
use Rattle.box_data.specs.Limits.{item_count}
use Rattle.doc_laws.proofs.Goes.{Goes, MayFill}
use Rattle.doc_laws.proofs.Places.{ArePlaced}
use Rattle.doc_laws.proofs.Ordered.{item-follows}
use Rattle.doc_laws.proofs.GoodFlows.{seam-count}

-- what a holder counts as where it stands in a stack or not
abbrev held : (in_stack : Bool) → Holder → ℕ
held in_stack (stack p) = 1
held in_stack (row p x is_last opened) = if in_stack then 0 else 1

-- the items of a flow, of which a stack counts its atoms alone
abbrev own : (in_stack : Bool) → Content → ℕ
own in_stack done = 0
own in_stack (opens p next) = own in_stack next
own in_stack (closes p next) = own in_stack next
own in_stack (leaf l next) = suc (own in_stack next)
own in_stack (holds h inside next) = held in_stack h + own in_stack next
own in_stack (spanner inside next) = own in_stack next

-- with those of the flows in it
abbrev pub total : (in_stack : Bool) → Content → ℕ
total in_stack done = 0
total in_stack (opens p next) = total in_stack next
total in_stack (closes p next) = total in_stack next
total in_stack (leaf l next) = suc (total in_stack next)
total in_stack (holds h inside next) = held in_stack h + total (is_stack h) inside + total in_stack next
total in_stack (spanner inside next) = total in_stack next

abbrev pub row_total : Content → ℕ
row_total done = 0
row_total (opens p next) = row_total next
row_total (closes p next) = row_total next
row_total (leaf l next) = row_total next
row_total (holds h inside next) = (if is_stack h then 0 else 1) + row_total inside + row_total next
row_total (spanner inside next) = row_total next

abbrev pub stack_total : Content → ℕ
stack_total done = 0
stack_total (opens p next) = stack_total next
stack_total (closes p next) = stack_total next
stack_total (leaf l next) = stack_total next
stack_total (holds h inside next) = (if is_stack h then 1 else 0) + stack_total inside + stack_total next
stack_total (spanner inside next) = stack_total next

-- all items of all flows
abbrev pub all_items : Content → ℕ
all_items done = 0
all_items (opens p next) = all_items next
all_items (closes p next) = all_items next
all_items (leaf l next) = suc (all_items next)
all_items (holds h inside next) = suc (all_items inside + all_items next)
all_items (spanner inside next) = all_items next

-- ---- the data counts as the content

atoms-cons : (item : Item) (items : List Item) → count_by is_atom (item ∷ items)
    ≡ cond (is_atom item) 1 0 + count_by is_atom items
atoms-cons item items = sum_by-cons (λ i. cond (is_atom i) 1 0) item items

leaf-atom : (l : Leaf) → is_atom (leaf_item l) ≡ true
leaf-atom (line p index size) = refl
leaf-atom (image p) = refl
leaf-atom (void p x) = refl

own-atoms : (n : Begun) (c : Content) → count_by is_atom (items_from n c) ≡ own true c
own-atoms n done = refl
own-atoms n (opens p next) = own-atoms n next
own-atoms n (closes p next) = own-atoms n next
own-atoms n (leaf l next) =
    atoms-cons (leaf_item l) (items_from n next) ∙ ap (λ (b : Bool). cond b 1 0 + count_by is_atom (items_from n next))
    (leaf-atom l) ∙ omega (arith, own-atoms n next)
own-atoms n (holds (stack p) inside next) =
    let m = past (with_stack n) inside in omega (
      arith,
      atoms-cons (holder_item n (stack p)) (items_from m next),
      own-atoms m next,
    )
own-atoms n (holds (row p x is_last opened) inside next) =
    let m = past (with_row n) inside in omega (
      arith,
      atoms-cons (holder_item n (row p x is_last opened)) (items_from m next),
      own-atoms m next,
    )
own-atoms n (spanner inside next) = own-atoms n next

own-items : (n : Begun) (c : Content) → length (items_from n c) ≡ own false c
own-items n done = refl
own-items n (opens p next) = own-items n next
own-items n (closes p next) = own-items n next
own-items n (leaf l next) = omega (arith, own-items n next)
own-items n (holds (stack p) inside next) = omega (arith, own-items (past (with_stack n) inside) next)
own-items n (holds (row p x is_last opened) inside next) = omega (arith, own-items (past (with_row n) inside) next)
own-items n (spanner inside next) = own-items n next

pub length-items : (n : Begun) (c : Content) → length (items_from n c) ≡ item_count c
length-items n done = refl
length-items n (opens p next) = length-items n next
length-items n (closes p next) = length-items n next
length-items n (leaf l next) = omega (arith, length-items n next)
length-items n (holds h inside next) = omega (arith, length-items (past (begun_in n h) inside) next)
length-items n (spanner inside next) = length-items n next

abbrev items_of : FlowsData → RowInfo → ℕ
items_of d r = length (flow_of d r.flow).items

abbrev atoms_of : FlowsData → Stack → ℕ
atoms_of d s = count_by is_atom (flow_of d s.flow).items

abbrev counted : FlowsData → Begun → Bool → Content → ℕ
counted d n in_stack c = sum_by (items_of d) (rows_from n in_stack c) + sum_by (atoms_of d) (stacks_from n c)

data-counts : (d : FlowsData) (n : Begun) (in_stack : Bool) (c : Content) → ArePlaced d n in_stack c
    → counted d n in_stack c + own in_stack c ≡ total in_stack c
data-counts d n in_stack done h = refl
data-counts d n in_stack (opens p next) h = data-counts d n in_stack next h
data-counts d n in_stack (closes p next) h = data-counts d n in_stack next h
data-counts d n in_stack (leaf l next) h = omega (arith, data-counts d n in_stack next h)
data-counts d n in_stack (holds (stack p) inside next) h =
    let m = with_stack n in
    let m' = past m inside in
    let info : Stack = record { flow = next_flow n; w = p.w; bound = Left p.h } in
    let here : atoms_of d info ≡ own true inside = ap (λ (f : Flow). count_by is_atom f.items) h.1 ∙ own-atoms m inside in
    let a = data-counts d m true inside h.2 in
    let b = data-counts d m' in_stack next h.3 in
    let r = sum_by-append (items_of d) (rows_from m true inside) (rows_from m' in_stack next) in
    let first = sum_by-cons (atoms_of d) info (stacks_from m inside ++ stacks_from m' next) in
    let s = sum_by-append (atoms_of d) (stacks_from m inside) (stacks_from m' next) in
    omega arith
data-counts d n in_stack (holds (row p x is_last opened) inside next) h =
    let m = with_row n in
    let m' = past m inside in
    let info : RowInfo = record {
      flow = next_flow n;
      n = p.columns.n;
      w = p.columns.w;
      step = p.columns.step;
      x = x;
      auto =
          in_stack && p.style.fill_auto && is_last;
    } in
    let here : items_of d info ≡ own false inside = ap (λ (f : Flow). length f.items) h.1 ∙ own-items m inside in
    let a = data-counts d m false inside h.2 in
    let b = data-counts d m' in_stack next h.3 in
    let first = sum_by-cons (items_of d) info (rows_from m false inside ++ rows_from m' in_stack next) in
    let r = sum_by-append (items_of d) (rows_from m false inside) (rows_from m' in_stack next) in
    let s = sum_by-append (atoms_of d) (stacks_from m inside) (stacks_from m' next) in
    omega arith
data-counts d n in_stack (spanner inside next) h = data-counts d n in_stack next h

-- ---- what is at most the total

record AreFew (c : Content) : Type 0 where
  stacked : row_total c ≤ total true c
  in_row : row_total c + own false c ≤ total false c

rows_few : (fresh : Bool) (from to : List Placed) (c : Content) → Goes false fresh from to c → AreFew c
rows_few fresh from to done g = record { stacked = omega arith; in_row = omega arith }
rows_few fresh from to (opens p next) g = let r = rows_few true (p ∷ from) to next g in
    record { stacked = r.stacked; in_row = r.in_row }
rows_few fresh from to (closes p next) g = let r = rows_few false g.1 to next g.3 in
    record { stacked = r.stacked; in_row = r.in_row }
rows_few fresh from to (leaf l next) g =
    let r = rows_few false from to next g in record { stacked = omega (arith, r.stacked); in_row = omega (arith, r.in_row) }
rows_few fresh from to (holds (stack p) inside next) g =
    let i = rows_few true [] g.0.0 inside g.0.1 in
    let r = rows_few false from to next g.1 in
    record { stacked = omega (arith, r.stacked, i.stacked); in_row = omega (arith, r.in_row, i.stacked) }
rows_few fresh from to (holds (row p x is_last opened) inside next) g =
    let i = rows_few true (reverse opened) g.0.0 inside g.0.1 in
    let r = rows_few false from to next g.1 in
    let n : Begun = record { rows = 0; stacks = 0 } in
    let some = item-follows (reverse opened) g.0.0 inside g.0.1 in
    let count = seam-count n (reverse opened) inside in
    let items = own-items n inside in
    record { stacked = omega (arith, r.stacked, i.in_row); in_row = omega (arith, r.in_row, i.in_row) }
rows_few fresh from to (spanner inside next) g = absurd (let no = g.0 in cc)

stacks_few : (in_stack : Bool) (c : Content) → stack_total c ≤ total in_stack c
stacks_few in_stack done = omega arith
stacks_few in_stack (opens p next) = stacks_few in_stack next
stacks_few in_stack (closes p next) = stacks_few in_stack next
stacks_few in_stack (leaf l next) = omega (arith, stacks_few in_stack next)
stacks_few in_stack (holds (stack p) inside next) = omega (arith, stacks_few true inside, stacks_few in_stack next)
stacks_few in_stack (holds (row p x is_last opened) inside next) =
    omega (arith, stacks_few false inside, stacks_few in_stack next)
stacks_few in_stack (spanner inside next) = stacks_few in_stack next

items_few : (in_stack : Bool) (c : Content) → all_items c ≤ total in_stack c + row_total c
items_few in_stack done = omega arith
items_few in_stack (opens p next) = items_few in_stack next
items_few in_stack (closes p next) = items_few in_stack next
items_few in_stack (leaf l next) = omega (arith, items_few in_stack next)
items_few in_stack (holds (stack p) inside next) = omega (arith, items_few true inside, items_few in_stack next)
items_few in_stack (holds (row p x is_last opened) inside next) = omega (arith, items_few false inside, items_few in_stack next)
items_few in_stack (spanner inside next) = items_few in_stack next

pub record Few (c : Content) : Type 0 where
  pub rows : row_total c ≤ 100000
  pub stacks : stack_total c ≤ 100000
  pub items : all_items c ≤ 200000

rows_may : (c : Content) → MayFill false c → row_total c ≤ total true c
rows_may c (inl same) = subst (λ (x : Content). row_total x ≤ total true x) (sym same) (omega arith)
rows_may c (inr f) = (rows_few true [] [] c (f [])).stacked

pub few : (c : Content) → MayFill false c → total true c ≤ 100000 → Few c
few c f le = record {
  rows = omega (arith, rows_may c f);
  stacks = omega (arith, stacks_few true c);
  items = omega (arith, rows_may c f, items_few true c);
}

-- the rows and stacks that begin
pub rows-past : (n : Begun) (c : Content) → (past n c).rows ≡ n.rows + row_total c
rows-past n done = omega arith
rows-past n (opens p next) = rows-past n next
rows-past n (closes p next) = rows-past n next
rows-past n (leaf l next) = rows-past n next
rows-past n (holds (stack p) inside next) = omega (
  arith,
  rows-past (with_stack n) inside,
  rows-past (past (with_stack n) inside) next,
)
rows-past n (holds (row p x is_last opened) inside next) = omega (
  arith,
  rows-past (with_row n) inside,
  rows-past (past (with_row n) inside) next,
)
rows-past n (spanner inside next) = rows-past n next

pub stacks-past : (n : Begun) (c : Content) → (past n c).stacks ≡ n.stacks + stack_total c
stacks-past n done = omega arith
stacks-past n (opens p next) = stacks-past n next
stacks-past n (closes p next) = stacks-past n next
stacks-past n (leaf l next) = stacks-past n next
stacks-past n (holds (stack p) inside next) = omega (
  arith,
  stacks-past (with_stack n) inside,
  stacks-past (past (with_stack n) inside) next,
)
stacks-past n (holds (row p x is_last opened) inside next) =
    omega (arith, stacks-past (with_row n) inside, stacks-past (past (with_row n) inside) next)
stacks-past n (spanner inside next) = stacks-past n next

-- the data of a document counts as its content
pub data_total : (width : ℕ) (height : Option ℕ) (boxes : List BoxInfo) (c : Content)
    → ArePlaced (flows_of_content width height boxes c) nothing_begun true c
    → item_total (flows_of_content width height boxes c) ≡ total true c
data_total width height boxes c at =
    let d = flows_of_content width height boxes c in
    let first : Stack = record { flow = 0; w = width; bound = bound_of height } in
    let here : atoms_of d first ≡ own true c = own-atoms nothing_begun c in
    let rest = sum_by-cons (atoms_of d) first (stacks_from nothing_begun c) in
    let all = data-counts d nothing_begun true c at in
    omega arith
