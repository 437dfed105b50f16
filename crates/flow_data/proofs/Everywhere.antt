-- What is true of each number that the items of flows hold, item by item.
use Rattle.std.proofs.Common.{◌≡◌, ℕ, zero, suc, ◌-◌, ◌<◌, List, [], ◌∷◌, ◌++◌, All, ◌↔◌, Bool, true, length, get_or, flat_map}
use Rattle.std.proofs.Common.{refl, sym, ap, subst, arith}
use Rattle.std.specs.Prelude.{◌≢◌}
use Rattle.std.proofs.lemmas.List.Elements.{All-append, All-nil, All-cons, All-head, All-tail, All-weaker}
use Rattle.flow_data.specs.Data.{Flow, FlowsData, Item, Seam, Row}
use Rattle.flow_data.specs.Flows.{no_item, flow_of, flow_in, row_of, row_in, rows_in, started, starts_in, boxes_in}
use Rattle.flow_data.specs.Soundness.{NestsAtMost, stack_in, stacks_in, flows_within}

-- ---- lists that are joined

pub all-left : {A : Type 0} (P : A → Type 0) (xs ys : List A) → All P (xs ++ ys) → All P xs
all-left P [] ys h = All-nil P
all-left P (x ∷ xs) ys h = All-cons P x xs (All-head P x (xs ++ ys) h) (all-left P xs ys (All-tail P x (xs ++ ys) h))

pub all-right : {A : Type 0} (P : A → Type 0) (xs ys : List A) → All P (xs ++ ys) → All P ys
all-right P [] ys h = h
all-right P (x ∷ xs) ys h = all-right P xs ys (All-tail P x (xs ++ ys) h)

pub joined : {X A : Type 0} (P : A → Type 0) (f : X → List A) (xs : List X) → All (λ x. All P (f x)) xs → All P (flat_map f xs)
joined P f [] h = All-nil P
joined P f (x ∷ xs) h = All-append P (f x) (flat_map f xs) (All-head (λ x. All P (f x)) x xs h)
    (joined P f xs (All-tail (λ x. All P (f x)) x xs h))

pub parts : {X A : Type 0} (P : A → Type 0) (f : X → List A) (xs : List X) → All P (flat_map f xs) → All (λ x. All P (f x)) xs
parts P f [] h = All-nil (λ x. All P (f x))
parts P f (x ∷ xs) h = All-cons (λ x. All P (f x)) x xs (all-left P (f x) (flat_map f xs) h)
    (parts P f xs (all-right P (f x) (flat_map f xs) h))

-- ---- the boxes of a flow

pub of_boxes : (P : ℕ → Type 0) (f : Flow) → All P f.opened
    → All (λ (s : Seam). All (λ edge. All P (started edge)) s.head) f.seams → All P (boxes_in f)
of_boxes P f opened starts =
    let each = All-weaker (λ (s : Seam). All (λ edge. All P (started edge)) s.head)
    (λ (s : Seam). All P (flat_map started s.head)) (λ s all. joined P started s.head all) f.seams starts in
    All-append P f.opened (starts_in f.seams) opened (joined P (λ (s : Seam). flat_map started s.head) f.seams each)

pub of_opened : (P : ℕ → Type 0) (f : Flow) → All P (boxes_in f) → All P f.opened
of_opened P f h = all-left P f.opened (starts_in f.seams) h

pub of_starts : (P : ℕ → Type 0) (f : Flow) → All P (boxes_in f)
    → All (λ (s : Seam). All (λ edge. All P (started edge)) s.head) f.seams
of_starts P f h =
    let each = parts P (λ (s : Seam). flat_map started s.head) f.seams (all-right P f.opened (starts_in f.seams) h) in
    All-weaker (λ (s : Seam). All P (flat_map started s.head)) (λ (s : Seam). All (λ edge. All P (started edge)) s.head)
    (λ s all. parts P started s.head all) f.seams each

-- ---- the rows of a flow

-- a test of each item tells what is true of each row of a flow
pub of_rows : (P : ℕ → Type 0) (items : List Item) (f : Flow) {b : Bool} → items ≡ f.items
    → (b ≡ true) ↔ All (λ item. All P (row_in item)) items → (b ≡ true) ↔ All P (rows_in f)
of_rows P items f e says = (
  λ yes. joined P row_in f.items (subst (All (λ item. All P (row_in item))) e (says.0 yes)),
  λ h. says.1 (subst (All (λ item. All P (row_in item))) (sym e) (parts P row_in f.items h)),
)

-- what is true of each row of a flow is true of the row that stands at item k
pub of_row_at : (P : ℕ → Type 0) (items : List Item) (f : Flow) (k r : ℕ) → items ≡ f.items → k < length items
    → get_or items k no_item ≡ Row r → All (λ item. All P (row_in item)) f.items → P r
of_row_at P items f k r e lt is each =
    let here : All P (row_in (get_or items k no_item)) = subst (All (λ item. All P (row_in item))) (sym e) each k no_item lt in
    All-head P r [] (subst (λ (item : Item). All P (row_in item)) is here)

nests-step : (d : FlowsData) (n r : ℕ) → n ≢ 0
    → NestsAtMost d n r ≡ All (λ inner. NestsAtMost d (n - 1) inner) (rows_in (flow_in d r))
nests-step d zero r some = absurd (some refl)
nests-step d (suc n) r some = let e : n ≡ suc n - 1 = omega arith
    in ap (λ (m : ℕ). All (λ inner. NestsAtMost d m inner) (rows_in (flow_in d r))) e

pub nests-from_items : (d : FlowsData) (n r : ℕ) (items : List Item) → n ≢ 0 → items ≡ (flow_in d r).items
    → All (λ item. All (NestsAtMost d (n - 1)) (row_in item)) items → NestsAtMost d n r
nests-from_items d n r items some e h =
    let T : Type 0 → Type 0 = λ (t : Type 0). t in
    subst T (sym (nests-step d n r some))
    (joined (NestsAtMost d (n - 1)) row_in (flow_in d r).items
    (subst (All (λ item. All (NestsAtMost d (n - 1)) (row_in item))) e h))

pub nests-inner : (d : FlowsData) (n r k inner : ℕ) (items : List Item) → n ≢ 0 → items ≡ (flow_in d r).items → k < length items
    → get_or items k no_item ≡ Row inner → NestsAtMost d n r → NestsAtMost d (n - 1) inner
nests-inner d n r k inner items some e lt is h =
    let T : Type 0 → Type 0 = λ (t : Type 0). t in
    of_row_at (NestsAtMost d (n - 1)) items (flow_in d r) k inner e lt is
    (parts (NestsAtMost d (n - 1)) row_in (flow_in d r).items (subst T (nests-step d n r some) h))

-- ---- the stacks that are named in a flow

-- the stacks that are named within row r, n rows deep, are after stack s
unfoldable pub RowNamesLater : FlowsData → ℕ → ℕ → ℕ → Type 0
RowNamesLater d s n r = All (λ named. s < named) (flat_map (λ f. stacks_in (flow_of d f)) (flows_within d n (row_of d r).flow))

pub later-here : (d : FlowsData) (s n f : ℕ)
    → All (λ named. s < named) (flat_map (λ f. stacks_in (flow_of d f)) (flows_within d n f))
    → All (λ item. All (λ named. s < named) (stack_in item)) (flow_of d f).items
later-here d s zero f h = parts (λ named. s < named) stack_in (flow_of d f).items
    (all-left (λ named. s < named) (stacks_in (flow_of d f)) [] h)
later-here d s (suc n) f h =
    let names : ℕ → List ℕ = λ f. stacks_in (flow_of d f) in
    let flows : ℕ → List ℕ = λ r. flows_within d n (row_of d r).flow in
    parts (λ named. s < named) stack_in (flow_of d f).items
    (all-left (λ named. s < named) (stacks_in (flow_of d f)) (flat_map names (flat_map flows (rows_in (flow_of d f)))) h)

pub later-none : (d : FlowsData) (s n f : ℕ) → n ≡ 0 → All (λ item. All (λ named. s < named) (stack_in item)) (flow_of d f).items
    → All (λ named. s < named) (flat_map (λ f. stacks_in (flow_of d f)) (flows_within d n f))
later-none d s zero f none h =
    let P : ℕ → Type 0 = λ named. s < named in
    All-append P (stacks_in (flow_of d f)) [] (joined P stack_in (flow_of d f).items h) (All-nil P)
later-none d s (suc n) f none h = absurd (omega arith)

pub later-from_rows : (d : FlowsData) (s n f : ℕ) → All (λ item. All (λ named. s < named) (stack_in item)) (flow_of d f).items
    → All (λ item. All (RowNamesLater d s n) (row_in item)) (flow_of d f).items
    → All (λ named. s < named) (flat_map (λ f. stacks_in (flow_of d f)) (flows_within d (suc n) f))
unfolding RowNamesLater
later-from_rows d s n f here deep =
    let P : ℕ → Type 0 = λ named. s < named in
    let names : ℕ → List ℕ = λ f. stacks_in (flow_of d f) in
    let flows : ℕ → List ℕ = λ r. flows_within d n (row_of d r).flow in
    let items = (flow_of d f).items in
    let rows = joined (RowNamesLater d s n) row_in items deep in
    let each : All (λ r. All (λ f. All P (names f)) (flows r)) (rows_in (flow_of d f)) =
    All-weaker (RowNamesLater d s n) (λ r. All (λ f. All P (names f)) (flows r)) (λ r all. parts P names (flows r) all)
    (rows_in (flow_of d f)) rows in
    All-append P (stacks_in (flow_of d f)) (flat_map names (flat_map flows (rows_in (flow_of d f))))
    (joined P stack_in items here)
    (joined P names (flat_map flows (rows_in (flow_of d f)))
    (joined (λ f. All P (names f)) flows (rows_in (flow_of d f)) each))

pub later-rows : (d : FlowsData) (s n f : ℕ)
    → All (λ named. s < named) (flat_map (λ f. stacks_in (flow_of d f)) (flows_within d (suc n) f))
    → All (λ item. All (RowNamesLater d s n) (row_in item)) (flow_of d f).items
unfolding RowNamesLater
later-rows d s n f h =
    let P : ℕ → Type 0 = λ named. s < named in
    let names : ℕ → List ℕ = λ f. stacks_in (flow_of d f) in
    let flows : ℕ → List ℕ = λ r. flows_within d n (row_of d r).flow in
    let all_rows = rows_in (flow_of d f) in
    let deep = parts (λ f. All P (names f)) flows all_rows
    (parts P names (flat_map flows all_rows)
    (all-right P (stacks_in (flow_of d f)) (flat_map names (flat_map flows all_rows)) h)) in
    let rows = All-weaker (λ r. All (λ f. All P (names f)) (flows r)) (RowNamesLater d s n)
    (λ r all. joined P names (flows r) all) all_rows deep in
    parts (RowNamesLater d s n) row_in (flow_of d f).items rows

-- n + 1 rows deep, for a number of rows that isn't 0
pub some-deep : (n : ℕ) → n ≢ 0 → suc (n - 1) ≡ n
some-deep n some = omega arith
