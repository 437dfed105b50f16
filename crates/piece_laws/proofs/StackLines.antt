-- The lines of a printed tree are the nodes of its fragments: from stack 0 inwards, as each stack names later ones.
use Rattle.std.proofs.Common.{◌≡◌, ℕ, zero, suc, ◌+◌, ◌<◌, ◌≤◌, List, [], ◌∷◌, drop, length, refl, sym, ◌∙◌, ap, subst, arith}
use Rattle.std.proofs.Common.{◌⊎◌, inl, inr, All}
use Rattle.std.specs.List.{AllByRecursion as Each, flat_map}
use Rattle.std.proofs.lemmas.Bool.{cases_lt}
use Rattle.std.proofs.lemmas.List.{get_or_past}
use Rattle.flow_list.specs.Data.{AtomKind, Flow, FlowsData, Item, Plain, Line, Void, Image, Bounded, Atom, Row}
use Rattle.flow_data.specs.Flows.{flow_in, flow_of, no_flow, row_in, row_of, rows_in, stack_of}
use Rattle.flow_data.specs.Soundness.{flows_within, IsSound, IsSoundItem, NestsAtMost, stack_in, stacks_in}
use Rattle.flow_list.proofs.PlaceBounds.{Each-append}
use Rattle.flow_list.specs.Fragments.{stack_fragment}
use Rattle.flow_list.specs.Stacks.{stack_height}
use Rattle.flow_list.specs.Tree.{extent_of, lines_of_stack, stack, TreeKind, tree_of}
use Rattle.piece_laws.specs.Lines.{kinds_of, LinesAreNodes, nodes_of_tree, stack_kinds}
use Rattle.piece_laws.proofs.Shapes.{each-left, each-right, ItemOk, NamesOk, RowOk, stack-column}
use Rattle.piece_laws.proofs.TreeLines.{whole-kinds}

-- ---- lists

each-all : {X : Type 0} (Q : X → Type 0) (xs : List X) → All Q xs → Each Q xs
each-all Q [] all = tt
each-all Q (x ∷ xs) all = (all 0 x (omega arith), each-all Q xs (λ k e lt. all (suc k) e (omega arith)))

each-flat : {X Y : Type 0} (Q : Y → Type 0) (g : X → List Y) (xs : List X) → Each Q (flat_map g xs) → Each (λ x. Each Q (g x)) xs
each-flat Q g [] all = tt
each-flat Q g (x ∷ xs) all = (each-left Q (g x) (flat_map g xs) all, each-flat Q g xs (each-right Q (g x) (flat_map g xs) all))

each-both : {X : Type 0} (A B C : X → Type 0) (xs : List X) → ((x : X) → A x → B x → C x) → Each A xs → Each B xs → Each C xs
each-both A B C [] make as_ bs = tt
each-both A B C (x ∷ xs) make as_ bs = (make x as_.0 bs.0, each-both A B C xs make as_.1 bs.1)

each-with : {X : Type 0} (A C : X → Type 0) (xs : List X) → ((x : X) → A x → C x) → Each A xs → Each C xs
each-with A C [] make all = tt
each-with A C (x ∷ xs) make all = (make x all.0, each-with A C xs make all.1)

-- ---- what the items of a flow name

names-ok : (P : ℕ → Type 0) (height : ℕ) (kind : AtomKind) → Each P (stack_in (Atom height kind)) → NamesOk P kind
names-ok P height Plain all = tt
names-ok P height (Line owner index x w) all = tt
names-ok P height (Void owner x w) all = tt
names-ok P height (Image owner x w) all = tt
names-ok P height (Bounded owner number x) all = all.0

items-ok : (P : ℕ → Type 0) (d : FlowsData) (Rows : ℕ → Type 0) (items : List Item) → Each P (flat_map stack_in items) →
    Each Rows (flat_map row_in items) → Each (ItemOk P d Rows) items
items-ok P d Rows [] names rows = tt
items-ok P d Rows (Atom height kind ∷ items) names rows = (
  names-ok P height kind (each-left P (stack_in (Atom height kind)) (flat_map stack_in items) names),
  items-ok P d Rows items (each-right P (stack_in (Atom height kind)) (flat_map stack_in items) names) rows,
)
items-ok P d Rows (Row r ∷ items) names rows = (rows.0, items-ok P d Rows items names rows.1)

module _ (d : FlowsData) (P : ℕ → Type 0) where
  -- the stacks that a flow names are so
  abbrev Named : ℕ → Type 0
  Named f = Each P (stacks_in (flow_of d f))

  row-ok : (m r : ℕ) → NestsAtMost d (suc m) r → Each Named (flows_within d m (row_of d r).flow) → RowOk P d (suc m) r
  row-ok zero r nests named =
      items-ok P d (RowOk P d zero) (flow_in d r).items named.0 (each-all (RowOk P d zero) (rows_in (flow_in d r)) nests)
  row-ok (suc m) r nests named =
      items-ok P d (RowOk P d (suc m)) (flow_in d r).items named.0
      (each-both (NestsAtMost d (suc m)) (λ u. Each Named (flows_within d m (row_of d u).flow)) (RowOk P d (suc m))
      (rows_in (flow_in d r)) (λ u a b. row-ok m u a b)
      (each-all (NestsAtMost d (suc m)) (rows_in (flow_in d r)) nests)
      (each-flat Named (λ u. flows_within d m (row_of d u).flow) (rows_in (flow_in d r)) named.1))

module _ (d : FlowsData) (sound : IsSound d) where
  abbrev KnownStack : ℕ → Type 0
  KnownStack s = s < length d.stacks

  abbrev KnownRow : ℕ → Type 0
  KnownRow r = r < length d.rows

  item-stacks : (item : Item) → IsSoundItem d item → Each KnownStack (stack_in item)
  item-stacks (Atom height Plain) ok = tt
  item-stacks (Atom height (Line owner index x w)) ok = tt
  item-stacks (Atom height (Void owner x w)) ok = tt
  item-stacks (Atom height (Image owner x w)) ok = tt
  item-stacks (Atom height (Bounded owner s x)) ok = (ok.stack.0, tt)
  item-stacks (Row r) ok = tt

  item-rows : (item : Item) → IsSoundItem d item → Each KnownRow (row_in item)
  item-rows (Atom height kind) ok = tt
  item-rows (Row r) ok = (ok, tt)

  all-stacks : (items : List Item) → Each (IsSoundItem d) items → Each KnownStack (flat_map stack_in items)
  all-stacks [] all = tt
  all-stacks (item ∷ items) all =
      Each-append KnownStack (stack_in item) (flat_map stack_in items) (item-stacks item all.0) (all-stacks items all.1)

  all-rows : (items : List Item) → Each (IsSoundItem d) items → Each KnownRow (flat_map row_in items)
  all-rows [] all = tt
  all-rows (item ∷ items) all = Each-append KnownRow (row_in item) (flat_map row_in items) (item-rows item all.0)
      (all-rows items all.1)

  flow-items : (f : ℕ) → Each (IsSoundItem d) (flow_of d f).items
  flow-items f = go (cases_lt f (length d.flows))
    where
      go : (f < length d.flows) ⊎ (length d.flows ≤ f) → Each (IsSoundItem d) (flow_of d f).items
      go (inl lt) = each-all (IsSoundItem d) (flow_of d f).items (sound.flows f no_flow lt).items
      go (inr ge) = let Q : Flow → Type 0 = λ g. Each (IsSoundItem d) g.items in
          subst Q (sym (get_or_past d.flows f no_flow ge)) tt

  -- a later stack
  abbrev IsNamed : ℕ → ℕ → Type 0
  IsNamed s named = (s < named) × (named < length d.stacks)

  stack-ok : (s : ℕ) → s < length d.stacks →
      Each (ItemOk (IsNamed s) d (RowOk (IsNamed s) d 3)) (flow_of d (stack_of d s).flow).items
  stack-ok s lt =
      items-ok (IsNamed s) d (RowOk (IsNamed s) d 3) (flow_of d g).items named.0
      (each-both (NestsAtMost d 3) (λ u. Each (Named d (IsNamed s)) (flows_within d 2 (row_of d u).flow)) (RowOk (IsNamed s) d 3)
      (rows_in (flow_of d g)) (λ u a b. row-ok d (IsNamed s) 2 u a b)
      (each-with KnownRow (NestsAtMost d 3) (rows_in (flow_of d g)) (λ u known. sound.nest_limit u known)
      (all-rows (flow_of d g).items (flow-items g)))
      (each-flat (Named d (IsNamed s)) (λ u. flows_within d 2 (row_of d u).flow) (rows_in (flow_of d g)) named.1))
    where
      g : ℕ
      g = (stack_of d s).flow

      later : Each (λ f. Each (λ named. s < named) (stacks_in (flow_of d f))) (flows_within d 3 g)
      later = each-flat (λ named. s < named) (λ f. stacks_in (flow_of d f)) (flows_within d 3 g)
          (each-all (λ named. s < named) _ (sound.stacks s lt).later)

      named : Each (Named d (IsNamed s)) (flows_within d 3 g)
      named = each-with (λ f. Each (λ named. s < named) (stacks_in (flow_of d f))) (Named d (IsNamed s)) (flows_within d 3 g)
          (λ f all. each-both (λ named. s < named) KnownStack (IsNamed s) (stacks_in (flow_of d f)) (λ u a b. (a, b)) all
          (all-stacks (flow_of d f).items (flow-items f))) later

  -- ---- the lines of stacks

  abbrev one_stack : (ℕ → List TreeKind) → ℕ → List TreeKind
  one_stack named s = stack s ∷ drop 1 (nodes_of_tree d named (flow_of d (stack_of d s).flow) 0 (stack_fragment d s))

  expand : (n s : ℕ) → s < length d.stacks → (named : ℕ → List TreeKind) →
      ((u depth x y : ℕ) → IsNamed s u → kinds_of (lines_of_stack d n u depth x y) ≡ named u) →
      (depth x y : ℕ) → kinds_of (lines_of_stack d (suc n) s depth x y) ≡ one_stack named s
  unfolding lines_of_stack
  expand n s lt named same depth x y =
      ap (λ ks. stack s ∷ ks)
      (whole-kinds (IsNamed s) d (lines_of_stack d n) named same (stack_fragment d s) (flow_of d (stack_of d s).flow)
      (stack-column (IsNamed s) d 3 s (stack-ok s lt)) (depth + 1) 0
      (record { x = x; y = y; w = (stack_of d s).w; h = stack_height d s; extent = extent_of (stack_fragment d s); bottoms = 0 }))

  -- as many stacks inside one another as there are from stack s on are enough
  same-kinds : (k n m s : ℕ) → n < k → m < k → length d.stacks ≤ n + s → length d.stacks ≤ m + s → s < length d.stacks →
      (depth x y depth' x' y' : ℕ) →
      kinds_of (lines_of_stack d n s depth x y) ≡ kinds_of (lines_of_stack d m s depth' x' y')
  same-kinds zero n m s n_low m_low n_all m_all lt depth x y depth' x' y' = absurd (omega arith)
  same-kinds (suc k) zero m s n_low m_low n_all m_all lt depth x y depth' x' y' = absurd (omega arith)
  same-kinds (suc k) (suc n) zero s n_low m_low n_all m_all lt depth x y depth' x' y' = absurd (omega arith)
  same-kinds (suc k) (suc n) (suc m) s n_low m_low n_all m_all lt depth x y depth' x' y' =
      let named : ℕ → List TreeKind = λ u. kinds_of (lines_of_stack d m u 0 0 0) in
      expand n s lt named (λ u e v w is. let later = is.0 in
      same-kinds k n m u (omega arith) (omega arith) (omega arith) (omega arith) is.1 e v w 0 0 0) depth x y
      ∙ sym (expand m s lt named (λ u e v w is. let later = is.0 in
      same-kinds k m m u (omega arith) (omega arith) (omega arith) (omega arith) is.1 e v w 0 0 0) depth' x' y')

  stack-lines : (s : ℕ) → s < length d.stacks → stack_kinds d s ≡ one_stack (stack_kinds d) s
  stack-lines s lt = go (length d.stacks) refl
    where
      Whole : ℕ → Type 0
      Whole n = kinds_of (lines_of_stack d n s 0 0 0) ≡ one_stack (λ u. kinds_of (lines_of_stack d n u 0 0 0)) s

      go : (n : ℕ) → length d.stacks ≡ n → Whole n
      go zero e = absurd (omega arith)
      go (suc n) e =
          expand n s lt (λ u. kinds_of (lines_of_stack d (suc n) u 0 0 0))
          (λ u depth x y is. let later = is.0 in
          same-kinds (suc (suc n)) n (suc n) u (omega arith) (omega arith) (omega arith) (omega arith) is.1 depth x y 0 0 0) 0 0 0

pub lines-are-nodes : (d : FlowsData) → IsSound d → LinesAreNodes d
unfolding tree_of
lines-are-nodes d sound = record { stack_lines = stack-lines d sound; tree_lines = refl }
