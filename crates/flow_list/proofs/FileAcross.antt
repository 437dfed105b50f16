-- Flows whose atoms are plain: they name no stack, and nothing stands far from the left.
use Rattle.std.proofs.Common.{◌≡◌, ℕ, zero, suc, ◌+◌, ◌*◌, ◌^◌, ◌<◌, ◌≤◌, false, List, [], ◌∷◌, ◌++◌, length, get_or, refl, sym}
use Rattle.std.proofs.Common.{subst, arith, inl, inr, ◌⊎◌, All}
use Rattle.std.specs.Prelude.{⊤, flat_map}
use Rattle.std.proofs.lemmas.Bool.{cases_lt}
use Rattle.std.proofs.lemmas.List.{get_or_past}
use Rattle.std.proofs.lemmas.List.Elements.{All-nil, All-cons, All-append, All-get_or, All-head, All-tail}
use Rattle.flow_text.specs.Grammar.{Rest, no_more, edge, place, atom, row}
use Rattle.flow_list.specs.Data.{AtomKind, Flow, FlowsData, Item, RowInfo, Plain, Line, Void, Image, Bounded, Atom, Row}
use Rattle.flow_data.specs.Flows.{no_flow, no_row, flow_of, row_of, boxes_in}
use Rattle.flow_list.specs.FileFlows.{outer_flow, row_count, items_from, row_flow, rows_from, flows_from}
use Rattle.flow_data.specs.Soundness.{IsSoundRow, stack_in, stacks_in, item_x, Held, held_in, FitsAcross}
use Rattle.flow_list.proofs.FileLimits.{IsLow}
use Rattle.flow_list.proofs.FileSums.{IsLowBox, box_is_low}

-- ---- plain atoms

abbrev IsPlainKind : AtomKind → Type 0
IsPlainKind Plain = ⊤
IsPlainKind (Line owner index x w) = ⊥
IsPlainKind (Void owner x w) = ⊥
IsPlainKind (Image owner x w) = ⊥
IsPlainKind (Bounded owner stack x) = ⊥

abbrev IsPlainItem : Item → Type 0
IsPlainItem (Atom height kind) = IsPlainKind kind
IsPlainItem (Row r) = ⊤

abbrev pub IsPlainFlow : Flow → Type 0
IsPlainFlow f = All IsPlainItem f.items

plain_items : (rest : Rest) (k : ℕ) → All IsPlainItem (items_from k rest)
plain_items no_more k = All-nil _
plain_items (edge l rest) k = plain_items rest k
plain_items (place at level rest) k = plain_items rest k
plain_items (atom at height rest) k = All-cons IsPlainItem (Atom height Plain) (items_from k rest) tt (plain_items rest k)
plain_items (row at n w step x content ended rest) k =
    let next = suc k + row_count content in All-cons IsPlainItem (Row k) (items_from next rest) tt (plain_items rest next)

pub plain_flows : (rest : Rest) (k : ℕ) → All IsPlainFlow (flows_from k rest)
plain_flows no_more k = All-nil _
plain_flows (edge l rest) k = plain_flows rest k
plain_flows (place at level rest) k = plain_flows rest k
plain_flows (atom at height rest) k = plain_flows rest k
plain_flows (row at n w step x content ended rest) k =
    let next = suc k + row_count content in
    All-cons IsPlainFlow (row_flow (suc k) content) (flows_from (suc k) content ++ flows_from next rest)
    (plain_items content (suc k))
    (All-append IsPlainFlow (flows_from (suc k) content) (flows_from next rest) (plain_flows content (suc k))
    (plain_flows rest next))

pub outer_plain : IsPlainFlow outer_flow
outer_plain = All-cons IsPlainItem (Row 0) [] tt (All-nil _)

pub all_plain : (outer : Flow) (rest : Rest) (k : ℕ) → IsPlainFlow outer
    → All IsPlainFlow (outer ∷ row_flow k rest ∷ flows_from k rest)
all_plain outer rest k h =
    All-cons IsPlainFlow outer (row_flow k rest ∷ flows_from k rest) h
    (All-cons IsPlainFlow (row_flow k rest) (flows_from k rest) (plain_items rest k) (plain_flows rest k))

-- a flow out of range is empty
plain_flow : (d : FlowsData) → All IsPlainFlow d.flows → (f : ℕ) → IsPlainFlow (flow_of d f)
plain_flow d h f = go (cases_lt f (length d.flows))
  where
    go : ((f < length d.flows) ⊎ (length d.flows ≤ f)) → IsPlainFlow (flow_of d f)
    go (inl lt) = All-get_or IsPlainFlow d.flows f no_flow lt h
    go (inr le) = subst IsPlainFlow (sym (get_or_past d.flows f no_flow le)) (All-nil _)

-- ---- stacks

no_stack_in : (item : Item) → IsPlainItem item → stack_in item ≡ []
no_stack_in (Atom h Plain) plain = refl
no_stack_in (Atom h (Line owner index x w)) plain = absurd plain
no_stack_in (Atom h (Void owner x w)) plain = absurd plain
no_stack_in (Atom h (Image owner x w)) plain = absurd plain
no_stack_in (Atom h (Bounded owner stack x)) plain = absurd plain
no_stack_in (Row r) plain = refl

all_empty : {X : Type 0} (g : X → List ℕ) (P : X → Type 0) → ((x : X) → P x → g x ≡ []) → (xs : List X) → All P xs
    → flat_map g xs ≡ []
all_empty g P empty [] h = refl
all_empty g P empty (x ∷ xs) h = rw (empty x (All-head P x xs h)) (all_empty g P empty xs (All-tail P x xs h))

no_stacks : (f : Flow) → IsPlainFlow f → stacks_in f ≡ []
no_stacks f plain = all_empty stack_in IsPlainItem no_stack_in f.items plain

pub no_stacks_named : (flows : List Flow) → All IsPlainFlow flows → flat_map stacks_in flows ≡ []
no_stacks_named flows plain = all_empty stacks_in IsPlainFlow no_stacks flows plain

pub no_stacks_within : (d : FlowsData) → All IsPlainFlow d.flows → (fs : List ℕ) → flat_map (λ f. stacks_in (flow_of d f)) fs ≡ []
no_stacks_within d plain [] = refl
no_stacks_within d plain (f ∷ fs) = rw (no_stacks (flow_of d f) (plain_flow d plain f)) (no_stacks_within d plain fs)

-- ---- rows

abbrev pub IsNearRow : RowInfo → Type 0
IsNearRow r = r.x ≤ 2 ^ 24

pub near_rows : (rest : Rest) (k : ℕ) → IsLow rest → All IsNearRow (rows_from k rest)
near_rows no_more k low = All-nil _
near_rows (edge l rest) k low = near_rows rest k low.1
near_rows (place at level rest) k low = near_rows rest k low
near_rows (atom at height rest) k low = near_rows rest k low.1
near_rows (row at n w step x content ended rest) k low =
    let next = suc k + row_count content in
    All-cons IsNearRow (record { flow = suc k; n = n; w = w; step = step; x = x; auto = false })
    (rows_from (suc k) content ++ rows_from next rest) low.4
    (All-append IsNearRow (rows_from (suc k) content) (rows_from next rest) (near_rows content (suc k) low.5)
    (near_rows rest next low.6))

pub sound_rows : (d : FlowsData) (rest : Rest) (k : ℕ) → IsLow rest → k + row_count rest < length d.flows
    → All (IsSoundRow d) (rows_from k rest)
sound_rows d no_more k low lt = All-nil _
sound_rows d (edge l rest) k low lt = sound_rows d rest k low.1 lt
sound_rows d (place at level rest) k low lt = sound_rows d rest k low lt
sound_rows d (atom at height rest) k low lt = sound_rows d rest k low.1 lt
sound_rows d (row at n w step x content ended rest) k low lt =
    let next = suc k + row_count content in
    let some = low.0 in
    let few = low.1 in
    let width = low.2 in
    let steps = low.3 in
    let left = low.4 in
    let here : IsSoundRow d (record { flow = suc k; n = n; w = w; step = step; x = x; auto = false }) = record {
      flow = omega arith;
      some_column = some;
      column_limit = few;
      step_limit = omega arith;
      x_limit = omega arith;
      w_limit = omega arith;
    } in
    All-cons (IsSoundRow d) (record { flow = suc k; n = n; w = w; step = step; x = x; auto = false })
    (rows_from (suc k) content ++ rows_from next rest) here
    (All-append (IsSoundRow d) (rows_from (suc k) content) (rows_from next rest)
    (sound_rows d content (suc k) low.5 (omega arith)) (sound_rows d rest next low.6 (omega arith)))

near_row : (d : FlowsData) → All IsNearRow d.rows → (r : ℕ) → IsNearRow (row_of d r)
near_row d h r = go (cases_lt r (length d.rows))
  where
    go : ((r < length d.rows) ⊎ (length d.rows ≤ r)) → IsNearRow (row_of d r)
    go (inl lt) = All-get_or IsNearRow d.rows r no_row lt h
    go (inr le) = subst IsNearRow (sym (get_or_past d.rows r no_row le)) (omega arith)

-- ---- places from the left

near_item : (d : FlowsData) → All IsNearRow d.rows → (item : Item) → IsPlainItem item → item_x d item ≤ 2 ^ 24
near_item d rows (Atom h Plain) plain = omega arith
near_item d rows (Atom h (Line owner index x w)) plain = absurd plain
near_item d rows (Atom h (Void owner x w)) plain = absurd plain
near_item d rows (Atom h (Image owner x w)) plain = absurd plain
near_item d rows (Atom h (Bounded owner stack x)) plain = absurd plain
near_item d rows (Row r) plain = near_row d rows r

near_held : (d : FlowsData) → All IsNearRow d.rows → (item : Item) → IsPlainItem item
    → All (λ (h : Held). h.x ≤ 2 ^ 24) (held_in d item)
near_held d rows (Atom h Plain) plain = All-nil _
near_held d rows (Atom h (Line owner index x w)) plain = absurd plain
near_held d rows (Atom h (Void owner x w)) plain = absurd plain
near_held d rows (Atom h (Image owner x w)) plain = absurd plain
near_held d rows (Atom h (Bounded owner stack x)) plain = absurd plain
near_held d rows (Row r) plain = All-cons (λ (h : Held). h.x ≤ 2 ^ 24) (record { flow = (row_of d r).flow; x = (row_of d r).x })
    [] (near_row d rows r) (All-nil _)

all_held : (d : FlowsData) → All IsNearRow d.rows → (items : List Item) → All IsPlainItem items
    → All (λ (h : Held). h.x ≤ 2 ^ 24) (flat_map (held_in d) items)
all_held d rows [] plain = All-nil _
all_held d rows (item ∷ items) plain =
    All-append (λ (h : Held). h.x ≤ 2 ^ 24) (held_in d item) (flat_map (held_in d) items)
    (near_held d rows item (All-head IsPlainItem item items plain))
    (all_held d rows items (All-tail IsPlainItem item items plain))

pub across : (d : FlowsData) → All IsLowBox d.boxes → All IsNearRow d.rows → All IsPlainFlow d.flows → (n left f : ℕ)
    → left + n * 2 ^ 24 < 2 ^ 60 → FitsAcross d n left f
across d boxes rows flows zero left f lt = tt
across d boxes rows flows (suc n) left f lt =
    let flow = flow_of d f in
    let plain = plain_flow d flows f in (
      λ k e below. let b = box_is_low d boxes (get_or (boxes_in flow) k e) in omega (arith, b.0),
      λ k e below. let x = near_item d rows (get_or flow.items k e) (All-get_or IsPlainItem flow.items k e below plain)
          in omega arith,
      λ k e below.
          let held = flat_map (held_in d) flow.items in
          let h = get_or held k e in
          let x = All-get_or (λ (h : Held). h.x ≤ 2 ^ 24) held k e below (all_held d rows flow.items plain) in
          across d boxes rows flows n (left + h.x) h.flow (omega arith),
    )
