-- The stacks of a document stand in earlier ones.
use Rattle.std.proofs.Common.{◌≡◌, ℕ, zero, suc, ◌<◌, ◌≤◌, Bool, true, false, List, [], ◌∷◌, ◌++◌, refl, sym, subst, arith, All}
use Rattle.std.proofs.Common.{◌⊎◌, inl, inr}
use Rattle.std.specs.Prelude.{flat_map}
use Rattle.std.specs.List.{AllByRecursion}
use Rattle.std.proofs.lemmas.Bool.{cases_lt, cases_eq}
use Rattle.std.proofs.lemmas.List.Elements.{All-from_recursion}
use Rattle.std.proofs.lemmas.Grind.{flat_map-append}
use Rattle.flow_data.specs.declared.data.Flow.{Flow}
use Rattle.flow_data.specs.declared.data.FlowsData.{FlowsData}
use Rattle.flow_data.specs.declared.data.RowInfo.{RowInfo}
use Rattle.flow_data.specs.declared.data.Stack.{Stack}
use Rattle.flow_data.specs.Flows as parts
use Rattle.flow_data.specs.Flows.{rows_in, row_in, flow_of}
use Rattle.flow_data.specs.Soundness.{stack_in, stacks_in, flows_within, stacks_within}
use Rattle.box_data.specs.declared.placed.Placed.{Placed}
use Rattle.box_data.specs.Content.{Leaf, line, image, void, stack, row, Content, done, opens, closes, leaf, holds, spanner}
use Rattle.box_data.specs.DocumentFlows.{Begun, with_row, with_stack, past, leaf_item, flow_with, next_flow}
use Rattle.doc_laws.proofs.Nests.{leaf-row}
use Rattle.doc_laws.proofs.Places.{ArePlaced}
use Rattle.doc_laws.proofs.Counted.{own_rows, own_stacks, past-stacks}
use Rattle.doc_laws.proofs.Across.{same_head}

-- ---- what holds of each further stack by its number

abbrev pub ForStacks : (ℕ → Type 0) → Begun → Content → Type 0
ForStacks P n done = Unit {0}
ForStacks P n (opens p next) = ForStacks P n next
ForStacks P n (closes p next) = ForStacks P n next
ForStacks P n (leaf l next) = ForStacks P n next
ForStacks P n (holds (stack p) inside next) = P n.stacks × ForStacks P (with_stack n) inside
    × ForStacks P (past (with_stack n) inside) next
ForStacks P n (holds (row p x is_last opened) inside next) =
    ForStacks P (with_row n) inside × ForStacks P (past (with_row n) inside) next
ForStacks P n (spanner inside next) = ForStacks P n next

pub for_each_stack : (P : ℕ → Type 0) (n : Begun) (c : Content) (j : ℕ) → ForStacks P n c → n.stacks ≤ j → j < (past n c).stacks
    → P j
for_each_stack P n done j h low high = absurd (omega arith)
for_each_stack P n (opens p next) j h low high = for_each_stack P n next j h low high
for_each_stack P n (closes p next) j h low high = for_each_stack P n next j h low high
for_each_stack P n (leaf l next) j h low high = for_each_stack P n next j h low high
for_each_stack P n (holds (row p x is_last opened) inside next) j h low high =
    by_place (cases_lt j (past (with_row n) inside).stacks) (λ lo hi. for_each_stack P (with_row n) inside j h.0 lo hi)
    (λ lo hi. for_each_stack P (past (with_row n) inside) next j h.1 lo hi)
  where
    by_place : ((j < (past (with_row n) inside).stacks) ⊎ ((past (with_row n) inside).stacks ≤ j))
        → (n.stacks ≤ j → j < (past (with_row n) inside).stacks → P j)
        → ((past (with_row n) inside).stacks ≤ j → j < (past (past (with_row n) inside) next).stacks → P j) → P j
    by_place (inl lt) inner behind = inner low lt
    by_place (inr le) inner behind = behind le high
for_each_stack P n (holds (stack p) inside next) j h low high =
    by_place (cases_eq j n.stacks) (cases_lt j (past (with_stack n) inside).stacks)
    (λ lo hi. for_each_stack P (with_stack n) inside j h.1 lo hi)
    (λ lo hi. for_each_stack P (past (with_stack n) inside) next j h.2 lo hi)
  where
    by_place : ((j ≡ n.stacks) ⊎ (j ≡ n.stacks → ⊥)) → ((j < (past (with_stack n) inside).stacks)
        ⊎ ((past (with_stack n) inside).stacks ≤ j))
        → (suc n.stacks ≤ j → j < (past (with_stack n) inside).stacks → P j)
        → ((past (with_stack n) inside).stacks ≤ j → j < (past (past (with_stack n) inside) next).stacks → P j) → P j
    by_place (inl e) c inner behind = subst P (sym e) h.0
    by_place (inr ne) (inl lt) inner behind = inner (omega arith) lt
    by_place (inr ne) (inr le) inner behind = behind le high
for_each_stack P n (spanner inside next) j h low high = for_each_stack P n next j h low high

-- ---- numbers from a number on

abbrev pub From : ℕ → List ℕ → Type 0
From least ns = AllByRecursion (λ s. least ≤ s) ns

both_from : (least : ℕ) (ms ns : List ℕ) → From least ms → From least ns → From least (ms ++ ns)
both_from least [] ns h k = k
both_from least (m ∷ ms) ns h k = (h.0, both_from least ms ns h.1 k)

leaf-stack : (l : Leaf) → stack_in (leaf_item l) ≡ []
leaf-stack (line p index size) = refl
leaf-stack (image p) = refl
leaf-stack (void p x) = refl

own_from : (least : ℕ) (n : Begun) (c : Content) → least ≤ n.stacks → From least (own_stacks n c)
own_from least n done le = tt
own_from least n (opens p next) le = own_from least n next le
own_from least n (closes p next) le = own_from least n next le
own_from least n (leaf l next) le = subst (λ (ns : List ℕ). From least (ns ++ own_stacks n next)) (sym (leaf-stack l))
    (own_from least n next le)
own_from least n (holds (stack p) inside next) le = let up = past-stacks (with_stack n) inside in
    (le, own_from least (past (with_stack n) inside) next (omega arith))
own_from least n (holds (row p x is_last opened) inside next) le = let up = past-stacks (with_row n) inside in
    own_from least (past (with_row n) inside) next (omega arith)
own_from least n (spanner inside next) le = own_from least n next le

-- the stacks that the flows of these numbers name
abbrev named_in : FlowsData → List ℕ → List ℕ
named_in d fs = flat_map (λ f. stacks_in (flow_of d f)) fs

abbrev Within : FlowsData → ℕ → ℕ → ℕ → Type 0
Within d k least f = From least (named_in d (flows_within d k f))

abbrev Again : FlowsData → ℕ → Type 0
Again d k = (least f : ℕ) (n : Begun) (in_stack : Bool) (opened : List Placed) (c : Content) → flow_of d f ≡ flow_with opened n c
    → ArePlaced d n in_stack c → least ≤ n.stacks → Within d k least f

rows_from_on : (d : FlowsData) (k : ℕ) → Again d k → (least : ℕ) (n : Begun) (in_stack : Bool) (c : Content)
    → ArePlaced d n in_stack c → least ≤ n.stacks
    → AllByRecursion (λ r. Within d k least (parts.row_of d r).flow) (own_rows n c)
rows_from_on d k again least n in_stack done h le = tt
rows_from_on d k again least n in_stack (opens p next) h le = rows_from_on d k again least n in_stack next h le
rows_from_on d k again least n in_stack (closes p next) h le = rows_from_on d k again least n in_stack next h le
rows_from_on d k again least n in_stack (leaf l next) h le =
    subst (λ (rs : List ℕ). AllByRecursion (λ r. Within d k least (parts.row_of d r).flow) (rs ++ own_rows n next))
    (sym (leaf-row l)) (rows_from_on d k again least n in_stack next h le)
rows_from_on d k again least n in_stack (holds (stack p) inside next) h le =
    let up = past-stacks (with_stack n) inside in rows_from_on d k again least (past (with_stack n) inside) in_stack next h.3
    (omega arith)
rows_from_on d k again least n in_stack (holds (row p x is_last opened) inside next) h le =
    let up = past-stacks (with_row n) inside in
    let at = same_head _ (parts.row_of d n.rows) h.0 in (
      subst (λ (r : RowInfo). Within d k least r.flow) at (again least (next_flow n) (with_row n) false opened inside h.1 h.2 le),
      rows_from_on d k again least (past (with_row n) inside) in_stack next h.3 (omega arith),
    )
rows_from_on d k again least n in_stack (spanner inside next) h le = rows_from_on d k again least n in_stack next h le

rows_within : (d : FlowsData) (k least : ℕ) (rs : List ℕ) → AllByRecursion (λ r. Within d k least (parts.row_of d r).flow) rs
    → From least (named_in d (flat_map (λ r. flows_within d k (parts.row_of d r).flow) rs))
rows_within d k least [] h = tt
rows_within d k least (r ∷ rs) h =
    let here = flows_within d k (parts.row_of d r).flow in
    let rest = flat_map (λ s. flows_within d k (parts.row_of d s).flow) rs in
    subst (λ (ns : List ℕ). From least ns) (sym (flat_map-append (λ f. stacks_in (flow_of d f)) here rest))
    (both_from least (named_in d here) (named_in d rest) h.0 (rows_within d k least rs h.1))

pub stacks_from_on : (d : FlowsData) (k : ℕ) → Again d k
stacks_from_on d zero least f n in_stack opened c flow placed le =
    both_from least (stacks_in (flow_of d f)) [] (subst (λ (x : Flow). From least (stacks_in x)) (sym flow)
    (own_from least n c le)) tt
stacks_from_on d (suc k) least f n in_stack opened c flow placed le =
    both_from least (stacks_in (flow_of d f))
    (named_in d (flat_map (λ r. flows_within d k (parts.row_of d r).flow) (rows_in (flow_of d f))))
    (subst (λ (x : Flow). From least (stacks_in x)) (sym flow) (own_from least n c le))
    (rows_within d k least (rows_in (flow_of d f))
    (subst (λ (x : Flow). AllByRecursion (λ r. Within d k least (parts.row_of d r).flow) (rows_in x)) (sym flow)
    (rows_from_on d k (stacks_from_on d k) least n in_stack c placed le)))

pub all_later : (d : FlowsData) (n : Begun) (in_stack : Bool) (c : Content) → ArePlaced d n in_stack c
    → ForStacks (λ s. All (λ named. s < named) (stacks_within d s)) n c
all_later d n in_stack done h = tt
all_later d n in_stack (opens p next) h = all_later d n in_stack next h
all_later d n in_stack (closes p next) h = all_later d n in_stack next h
all_later d n in_stack (leaf l next) h = all_later d n in_stack next h
all_later d n in_stack (holds (stack p) inside next) h =
    let at = same_head _ (parts.stack_of d n.stacks) h.0 in
    let own = stacks_from_on d 3 (suc n.stacks) (next_flow n) (with_stack n) true [] inside h.1 h.2 (omega arith) in
    let here : Within d 3 (suc n.stacks) (parts.stack_of d n.stacks).flow =
    subst (λ (s : Stack). Within d 3 (suc n.stacks) s.flow) at own in (
      All-from_recursion (λ named. n.stacks < named) (stacks_within d n.stacks) here,
      all_later d (with_stack n) true inside h.2,
      all_later d (past (with_stack n) inside) in_stack next h.3,
    )
all_later d n in_stack (holds (row p x is_last opened) inside next) h =
    (all_later d (with_row n) false inside h.2, all_later d (past (with_row n) inside) in_stack next h.3)
all_later d n in_stack (spanner inside next) h = all_later d n in_stack next h
