-- The flows of a document fit across where the places of its content are in reach.
use Rattle.std.proofs.Common.{◌≡◌, ℕ, zero, suc, ◌+◌, ◌^◌, ◌<◌, List, [], ◌∷◌, ◌++◌, Bool, true, false, get_or, refl, sym, ap}
use Rattle.std.proofs.Common.{◌∙◌, subst, All}
use Rattle.std.specs.Prelude.{flat_map, reverse}
use Rattle.std.specs.List.{AllByRecursion}
use Rattle.std.proofs.lemmas.List.Elements.{All-from_recursion}
use Rattle.flow_data.specs.declared.data.BoxInfo.{BoxInfo}
use Rattle.flow_data.specs.declared.data.Flow.{Flow}
use Rattle.flow_data.specs.declared.data.FlowsData.{FlowsData}
use Rattle.flow_data.specs.declared.data.Item.{Item}
use Rattle.flow_data.specs.declared.data.RowInfo.{RowInfo}
use Rattle.flow_data.specs.declared.data.Stack.{Stack}
use Rattle.flow_data.specs.Flows as parts
use Rattle.flow_data.specs.Flows.{box_of, flow_of, started, starts_in, boxes_in}
use Rattle.flow_data.specs.Soundness.{item_x, Held, held_in, FitsAcross}
use Rattle.box_data.specs.declared.placed.Placed.{Placed}
use Rattle.box_data.specs.Content.{Leaf, line, image, void, Holder, stack, row, Content, done, opens, closes, leaf, holds}
use Rattle.box_data.specs.Content.{spanner}
use Rattle.box_data.specs.DocumentFlows.{opened_then, seams_behind, Begun, next_flow, begun_in, past, leaf_item, holder_item}
use Rattle.box_data.specs.DocumentFlows.{items_from, opened_in, flow_with, is_stack}
use Rattle.doc_laws.proofs.Goes.{Goes}
use Rattle.doc_laws.proofs.Nested.{numbers}
use Rattle.doc_laws.proofs.Ordered.{heads-start}
use Rattle.doc_laws.proofs.Everywhere.{Everywhere, InHolder}
use Rattle.doc_laws.proofs.Cloned.{Knows}
use Rattle.doc_laws.proofs.Places.{ArePlaced, HolderAt}
use Rattle.doc_laws.proofs.Reach.{Reaches, BoxFits, leaf_x, holder_x}

abbrev far : ℕ
far = 2 ^ 60

-- ---- boxes

all_opened : Content → List Placed
all_opened done = []
all_opened (opens p next) = p ∷ all_opened next
all_opened (closes p next) = all_opened next
all_opened (leaf l next) = all_opened next
all_opened (holds h inside next) = all_opened next
all_opened (spanner inside next) = []

start-all : (spans_none fresh : Bool) (at to : List Placed) (c : Content) → Goes false fresh at to c
    → numbers (opened_then c) ++ starts_in (seams_behind at c) ≡ numbers (all_opened c)
unfolding all_opened
start-all v fresh at to done g = refl
start-all v fresh at to (opens p next) g = ap (λ (ns : List ℕ). p.number ∷ ns) (start-all v true (p ∷ at) to next g)
start-all v fresh at to (closes p next) g =
    subst (λ (o : List Placed). numbers (opened_then next) ++ starts_in (seams_behind o (closes p next))
    ≡ numbers (all_opened next)) (sym g.2) (start-all v false g.1 to next g.3)
start-all v fresh at to (leaf l next) g = ap (λ (ns : List ℕ). ns ++ starts_in (seams_behind at next))
    (heads-start (opened_then next)) ∙ start-all v false at to next g
start-all v fresh at to (holds h inside next) g = ap (λ (ns : List ℕ). ns ++ starts_in (seams_behind at next))
    (heads-start (opened_then next)) ∙ start-all v false at to next g.1
start-all v fresh at to (spanner inside next) g = absurd (let no = g.0 in cc)

abbrev BoxNear : FlowsData → ℕ → ℕ → Type 0
BoxNear d left b = left + (box_of d b).x < far

near : (d : FlowsData) (left : ℕ) (p : Placed) → Knows d p → left + p.x < far → BoxNear d left p.number
near d left p knows lt = subst (λ (b : BoxInfo). left + b.x < far) (sym knows) lt

starts_near : (d : FlowsData) (left : ℕ) (c : Content) → Everywhere (Knows d) c → Reaches far left 0 c
    → AllByRecursion (BoxNear d left) (numbers (all_opened c))
unfolding all_opened
starts_near d left done e r = tt
starts_near d left (opens p next) e r = (near d left p e.0 r.0.0, starts_near d left next e.1 r.1)
starts_near d left (closes p next) e r = starts_near d left next e.1 r.1
starts_near d left (leaf l next) e r = starts_near d left next e.1 r.1
starts_near d left (holds h inside next) e r = starts_near d left next e.2 r.3
starts_near d left (spanner inside next) e r = tt

opened_near : (d : FlowsData) (left : ℕ) (ps : List Placed) → AllByRecursion (Knows d) ps → AllByRecursion (BoxFits far left) ps
    → AllByRecursion (BoxNear d left) (numbers ps)
opened_near d left [] e r = tt
opened_near d left (p ∷ ps) e r = (near d left p e.0 r.0.0, opened_near d left ps e.1 r.1)

both_near : (d : FlowsData) (left : ℕ) (ms ns : List ℕ) → AllByRecursion (BoxNear d left) ms → AllByRecursion (BoxNear d left) ns
    → AllByRecursion (BoxNear d left) (ms ++ ns)
both_near d left [] ns h k = k
both_near d left (m ∷ ms) ns h k = (h.0, both_near d left ms ns h.1 k)

-- ---- items

leaf_near : (d : FlowsData) (left : ℕ) (l : Leaf) → left + leaf_x l < far → left + item_x d (leaf_item l) < far
leaf_near d left (line p index size) lt = lt
leaf_near d left (image p) lt = lt
leaf_near d left (void p x) lt = lt

pub same_head : {A : Type 0} (a b : A) → a ∷ [] ≡ b ∷ [] → a ≡ b
same_head a b e = ap (λ (l : List _). get_or l 0 a) e

holder_near : (d : FlowsData) (left : ℕ) (n : Begun) (in_stack : Bool) (h : Holder) → HolderAt d n in_stack h
    → left + holder_x h < far → left + item_x d (holder_item n h) < far
holder_near d left n in_stack (stack p) at lt = lt
holder_near d left n in_stack (row p x is_last opened) at lt =
    subst (λ (r : RowInfo). left + r.x < far) (same_head _ (parts.row_of d n.rows) at) lt

items_near : (d : FlowsData) (left : ℕ) (n : Begun) (in_stack : Bool) (c : Content) → ArePlaced d n in_stack c
    → Reaches far left 0 c → AllByRecursion (λ (item : Item). left + item_x d item < far) (items_from n c)
items_near d left n in_stack done at r = tt
items_near d left n in_stack (opens p next) at r = items_near d left n in_stack next at r.1
items_near d left n in_stack (closes p next) at r = items_near d left n in_stack next at r.1
items_near d left n in_stack (leaf l next) at r = (leaf_near d left l r.0, items_near d left n in_stack next at r.1)
items_near d left n in_stack (holds h inside next) at r = (
  holder_near d left n in_stack h at.0 r.0,
  items_near d left (past (begun_in n h) inside) in_stack next at.3 r.3,
)
items_near d left n in_stack (spanner inside next) at r = items_near d left n in_stack next at r.1

-- ---- flows

-- what is known of a flow's content
pub record InReach (d : FlowsData) (left : ℕ) (n : Begun) (in_stack : Bool) (opened to : List Placed) (c : Content) : Type 0 where
  pub goes : Goes false true (reverse opened) to c
  pub placed : ArePlaced d n in_stack c
  pub knows : Everywhere (Knows d) c
  pub opened_known : AllByRecursion (Knows d) opened
  pub opened_fit : AllByRecursion (BoxFits far left) opened
  pub reaches : Reaches far left 0 c

abbrev Again : FlowsData → ℕ → Type 0
Again d k = (left f : ℕ) (n : Begun) (in_stack : Bool) (opened to : List Placed) (c : Content)
    → flow_of d f ≡ flow_with opened n c → InReach d left n in_stack opened to c → FitsAcross d k left f

abbrev HeldFits : FlowsData → ℕ → ℕ → Held → Type 0
HeldFits d k left h = FitsAcross d k (left + h.x) h.flow

holder_fits : (d : FlowsData) (k : ℕ) → Again d k → (left : ℕ) (n : Begun) (in_stack : Bool) (h : Holder) (inside : Content)
    (to : List Placed) (more : List Held)
    → HolderAt d n in_stack h → flow_of d (next_flow n) ≡ flow_with (opened_in h) (begun_in n h) inside
    → InReach d (left + holder_x h) (begun_in n h) (is_stack h) (opened_in h) to inside
    → AllByRecursion (HeldFits d k left) more → AllByRecursion (HeldFits d k left) (held_in d (holder_item n h) ++ more)
holder_fits d k again left n in_stack (stack p) inside to more at flow known rest =
    let e = same_head _ (parts.stack_of d n.stacks) at in
    let own = again (left + p.content_x) (next_flow n) (begun_in n (stack p)) true [] to inside flow known in
    (subst (λ (s : Stack). FitsAcross d k (left + p.content_x) s.flow) e own, rest)
holder_fits d k again left n in_stack (row p x is_last opened) inside to more at flow known rest =
    let e = same_head _ (parts.row_of d n.rows) at in
    let own = again (left + x) (next_flow n) (begun_in n (row p x is_last opened)) false opened to inside flow known in
    (subst (λ (r : RowInfo). FitsAcross d k (left + r.x) r.flow) e own, rest)

leaf_holds : (d : FlowsData) (l : Leaf) → held_in d (leaf_item l) ≡ []
leaf_holds d (line p index size) = refl
leaf_holds d (image p) = refl
leaf_holds d (void p x) = refl

opened_known_in : (d : FlowsData) (h : Holder) → InHolder (Knows d) h → AllByRecursion (Knows d) (opened_in h)
opened_known_in d (stack p) e = tt
opened_known_in d (row p x is_last opened) e = e.1

held_fit : (d : FlowsData) (k : ℕ) → Again d k → (left : ℕ) (n : Begun) (in_stack fresh : Bool) (from to : List Placed)
    (c : Content) → Goes false fresh from to c → ArePlaced d n in_stack c → Everywhere (Knows d) c → Reaches far left 0 c
    → AllByRecursion (HeldFits d k left) (flat_map (held_in d) (items_from n c))
held_fit d k again left n in_stack fresh from to done g at e r = tt
held_fit d k again left n in_stack fresh from to (opens p next) g at e r =
    held_fit d k again left n in_stack true (p ∷ from) to next g at e.1 r.1
held_fit d k again left n in_stack fresh from to (closes p next) g at e r =
    held_fit d k again left n in_stack false g.1 to next g.3 at e.1 r.1
held_fit d k again left n in_stack fresh from to (leaf l next) g at e r =
    subst (λ (hs : List Held). AllByRecursion (HeldFits d k left) (hs ++ flat_map (held_in d) (items_from n next)))
    (sym (leaf_holds d l)) (held_fit d k again left n in_stack false from to next g at e.1 r.1)
held_fit d k again left n in_stack fresh from to (holds h inside next) g at e r =
    holder_fits d k again left n in_stack h inside g.0.0 (flat_map (held_in d)
    (items_from (past (begun_in n h) inside) next)) at.0 at.1
    (record { goes = g.0.1; placed = at.2; knows = e.1; opened_known = opened_known_in d h e.0; opened_fit = r.1; reaches = r.2 })
    (held_fit d k again left (past (begun_in n h) inside) in_stack false from to next g.1 at.3 e.2 r.3)
held_fit d k again left n in_stack fresh from to (spanner inside next) g at e r = absurd (let no = g.0 in cc)

pub fits_across : (d : FlowsData) (k : ℕ) → Again d k
fits_across d zero left f n in_stack opened to c flow known = tt
fits_across d (suc k) left f n in_stack opened to c flow known =
    subst (λ (x : Flow). All (λ b. left + (box_of d b).x < 2 ^ 60) (boxes_in x)
    × All (λ item. left + item_x d item < 2 ^ 60) x.items × All (λ (h : Held). FitsAcross d k (left + h.x) h.flow)
    (flat_map (held_in d) x.items)) (sym flow) (
      All-from_recursion (BoxNear d left) (boxes_in (flow_with opened n c)) boxes,
      All-from_recursion (λ (item : Item). left + item_x d item < far) (items_from n c)
          (items_near d left n in_stack c known.placed known.reaches),
      All-from_recursion (HeldFits d k left) (flat_map (held_in d) (items_from n c))
          (held_fit d k (fits_across d k) left n in_stack true
          (reverse opened) to c known.goes known.placed known.knows known.reaches),
    )
  where
    all : numbers (all_opened c) ≡ starts_in (flow_with opened n c).seams
    all = sym (ap (λ (ns : List ℕ). ns ++ starts_in (seams_behind (reverse opened) c)) (heads-start (opened_then c))
        ∙ start-all true true (reverse opened) to c known.goes)

    boxes : AllByRecursion (BoxNear d left) (boxes_in (flow_with opened n c))
    boxes = both_near d left (numbers opened) (starts_in (flow_with opened n c).seams)
        (opened_near d left opened known.opened_known known.opened_fit)
        (subst (λ (ns : List ℕ). AllByRecursion (BoxNear d left) ns) all (starts_near d left c known.knows known.reaches))
