-- A node that isn't a cut piece of a flagged row, made anew of what stands in it.
use Rattle.std.proofs.Common.{◌≡◌, ℕ, Bool, true, false, cond, List, [], Option, Some, None, refl, sym, subst, ap}
use Rattle.mc_base.specs.PlainTree.{PlainTree, PlainTrees, atom, piece, row_piece, column, no_trees}
use Rattle.mc_base.specs.declared.fragment.FragId.{FragId}
use Rattle.mc_base.specs.declared.fragment.Node.{Node}
use Rattle.mc_base.specs.declared.fragment.Node.TheVariants.{Atom, Piece, RowPiece, Column}
use Rattle.flow_list.specs.Data.{FlowsData, Item, Plain, Line, Void, Image, Bounded, Atom as AtomItem, Row}
use Rattle.flow_data.specs.Flows.{flow_of, item_of}
use Rattle.frag_pool.specs.Nodes.{Nodes, node_of, node_with, ids_of}
use Rattle.frag_pool.specs.Standing.{StandsFor, AllStandFor}
use Rattle.piece_data.specs.Lowering.{CutPiece, Flags, is_flagged, lowered_in, pieces_in, pieces_of_item}
use Rattle.tree_lowering.specs.Lower.{all_lower, all_pieces, cut_of, inside, lower, pieces, stack_in, stack_of_item}
use Rattle.tree_lowering.specs.declared.cut.Cut.{Cut}
use Rattle.tree_lowering.specs.declared.cut.Within.{Within}

pub record Remade (d : FlowsData) (flags : Flags) (at : Within) (p : Nodes) (node : Node) (tree : PlainTree) : Type 0 where
  pub kids : PlainTrees
  pub stand : AllStandFor p (ids_of node) kids
  pub remade : (q : Nodes) (made : FragId) (ids : List FragId) → node_of q made ≡ Some (node_with node ids) →
      AllStandFor q ids (all_lower d flags (inside d at node) kids) → StandsFor q made (lower d flags at tree)
  pub met : (stacks : ℕ → List CutPiece) → stack_in d at.flow node ≡ None →
      pieces d flags at stacks tree ≡ all_pieces d flags (inside d at node) stacks kids

not-flagged : (b : Bool) (cut : Cut) → cond b (Some cut) None ≡ None → b ≡ false
not-flagged false cut e = refl
not-flagged true cut e = absurd (cc e)

no-stack : (stacks : ℕ → List CutPiece) (item : Item) → stack_of_item item ≡ None → pieces_of_item stacks item ≡ []
no-stack stacks (AtomItem h Plain) e = refl
no-stack stacks (AtomItem h (Line owner index x w)) e = refl
no-stack stacks (AtomItem h (Void owner x w)) e = refl
no-stack stacks (AtomItem h (Image owner x w)) e = refl
no-stack stacks (AtomItem h (Bounded owner number x)) e = absurd (cc e)
no-stack stacks (Row r) e = refl

pub stack-met : (stacks : ℕ → List CutPiece) (item : Item) (number : ℕ) → stack_of_item item ≡ Some number →
    pieces_of_item stacks item ≡ stacks number
stack-met stacks (AtomItem h Plain) number e = absurd (cc e)
stack-met stacks (AtomItem h (Line owner index x w)) number e = absurd (cc e)
stack-met stacks (AtomItem h (Void owner x w)) number e = absurd (cc e)
stack-met stacks (AtomItem h (Image owner x w)) number e = absurd (cc e)
stack-met stacks (AtomItem h (Bounded owner stack x)) number e = ap stacks (cc e)
stack-met stacks (Row r) number e = absurd (cc e)

atom-remade : (d : FlowsData) (flags : Flags) (at : Within) (p : Nodes) (k y : ℕ) → Remade d flags at p (Atom k y) (atom k y)
unfolding StandsFor lowered_in pieces_in
atom-remade d flags at p k y = record {
  kids = no_trees;
  stand = tt;
  remade = λ q made ids is stand. is;
  met = λ stacks none. no-stack stacks (item_of (flow_of d at.flow) k) none;
}

piece-remade : (d : FlowsData) (flags : Flags) (at : Within) (p : Nodes) (b : ℕ) (starts : Bool) (y : ℕ) (bottom : Option ℕ)
    (ids : List FragId) (kids : PlainTrees) → AllStandFor p ids kids →
    Remade d flags at p (Piece b starts y bottom ids) (piece b starts y bottom kids)
unfolding StandsFor lowered_in pieces_in
piece-remade d flags at p b starts y bottom ids kids stand = record {
  kids = kids;
  stand = stand;
  remade = λ q made ids is stand. (ids, is, stand);
  met = λ stacks none. refl;
}

sized-remade : (d : FlowsData) (flags : Flags) (at : Within) (p : Nodes) (r : ℕ) (from : List ℕ) (y height : ℕ)
    (ids : List FragId) (kids : PlainTrees) → AllStandFor p ids kids →
    Remade d flags at p (RowPiece r from y (Some height) ids) (row_piece r from y (Some height) kids)
unfolding StandsFor lowered_in pieces_in
sized-remade d flags at p r from y height ids kids stand = record {
  kids = kids;
  stand = stand;
  remade = λ q made ids is stand. (ids, is, stand);
  met = λ stacks none. refl;
}

filled-remade : (d : FlowsData) (flags : Flags) (at : Within) (p : Nodes) (r : ℕ) (from : List ℕ) (y : ℕ)
    (ids : List FragId) (kids : PlainTrees) → is_flagged flags r ≡ false → AllStandFor p ids kids →
    Remade d flags at p (RowPiece r from y None ids) (row_piece r from y None kids)
unfolding StandsFor lowered_in pieces_in
filled-remade d flags at p r from y ids kids unflagged stand = record {
  kids = kids;
  stand = stand;
  remade = λ q made ids is stand. rw unflagged (ids, is, stand);
  met = λ stacks none. rw unflagged refl;
}

column-remade : (d : FlowsData) (flags : Flags) (at : Within) (p : Nodes) (f : ℕ) (from end : List ℕ) (extent : ℕ)
    (ids : List FragId) (kids : PlainTrees) → AllStandFor p ids kids →
    Remade d flags at p (Column f from end extent ids) (column f from end extent kids)
unfolding StandsFor lowered_in pieces_in
column-remade d flags at p f from end extent ids kids stand = record {
  kids = kids;
  stand = stand;
  remade = λ q made ids is stand. (ids, is, stand);
  met = λ stacks none. refl;
}

pub node-remade : (d : FlowsData) (flags : Flags) (at : Within) (p : Nodes) (id : FragId) (node : Node) →
    node_of p id ≡ Some node → cut_of flags node ≡ None → (tree : PlainTree) → StandsFor p id tree →
    Remade d flags at p node tree
unfolding StandsFor
node-remade d flags at p id node is uncut (atom k y) s =
    let e : Atom k y ≡ node = cc (is, s) in
    subst (λ n. Remade d flags at p n (atom k y)) e (atom-remade d flags at p k y)
node-remade d flags at p id node is uncut (piece b starts y bottom kids) s =
    let e : Piece b starts y bottom s.0 ≡ node = cc (is, s.1) in
    subst (λ n. Remade d flags at p n (piece b starts y bottom kids)) e
    (piece-remade d flags at p b starts y bottom s.0 kids s.2)
node-remade d flags at p id node is uncut (row_piece r from y None kids) s =
    let e : RowPiece r from y None s.0 ≡ node = cc (is, s.1) in
    let none : cut_of flags (RowPiece r from y None s.0) ≡ None = subst (λ n. cut_of flags n ≡ None) (sym e) uncut in
    subst (λ n. Remade d flags at p n (row_piece r from y None kids)) e
    (filled-remade d flags at p r from y s.0 kids (not-flagged (is_flagged flags r) _ none) s.2)
node-remade d flags at p id node is uncut (row_piece r from y (Some height) kids) s =
    let e : RowPiece r from y (Some height) s.0 ≡ node = cc (is, s.1) in
    subst (λ n. Remade d flags at p n (row_piece r from y (Some height) kids)) e
    (sized-remade d flags at p r from y height s.0 kids s.2)
node-remade d flags at p id node is uncut (column f from end extent kids) s =
    let e : Column f from end extent s.0 ≡ node = cc (is, s.1) in
    subst (λ n. Remade d flags at p n (column f from end extent kids)) e
    (column-remade d flags at p f from end extent s.0 kids s.2)

-- ---- a stack in an atom

stack-atom : (d : FlowsData) (flags : Flags) (at : Within) (k y number : ℕ) →
    stack_of_item (item_of (flow_of d at.flow) k) ≡ Some number →
    (stacks : ℕ → List CutPiece) → pieces d flags at stacks (atom k y) ≡ stacks number
unfolding pieces_in
stack-atom d flags at k y number is stacks = stack-met stacks (item_of (flow_of d at.flow) k) number is

lowered-atom : (d : FlowsData) (flags : Flags) (at : Within) (k y : ℕ) → lower d flags at (atom k y) ≡ atom k y
unfolding lowered_in
lowered-atom d flags at k y = refl

-- the tree that an atom with a stack stands for stays as it is, and its pieces are those in the stack
pub record IsStackTree (d : FlowsData) (flags : Flags) (at : Within) (number : ℕ) (tree : PlainTree) : Type 0 where
  pub same : lower d flags at tree ≡ tree
  pub met : (stacks : ℕ → List CutPiece) → pieces d flags at stacks tree ≡ stacks number

pub stack-tree : (d : FlowsData) (flags : Flags) (at : Within) (p : Nodes) (id : FragId) (node : Node) (number : ℕ) →
    node_of p id ≡ Some node → stack_in d at.flow node ≡ Some number → (tree : PlainTree) → StandsFor p id tree →
    IsStackTree d flags at number tree
unfolding StandsFor
stack-tree d flags at p id node number is stack (atom k y) s =
    let e : node ≡ Atom k y = cc (is, s) in
    let here : stack_in d at.flow (Atom k y) ≡ Some number = subst (λ n. stack_in d at.flow n ≡ Some number) e stack in
    record { same = lowered-atom d flags at k y; met = stack-atom d flags at k y number here }
stack-tree d flags at p id node number is stack (piece b starts y bottom kids) s =
    let e : node ≡ Piece b starts y bottom s.0 = cc (is, s.1) in
    let none : None ≡ Some number = subst (λ n. stack_in d at.flow n ≡ Some number) e stack in absurd (cc none)
stack-tree d flags at p id node number is stack (row_piece r from y height kids) s =
    let e : node ≡ RowPiece r from y height s.0 = cc (is, s.1) in
    let none : None ≡ Some number = subst (λ n. stack_in d at.flow n ≡ Some number) e stack in absurd (cc none)
stack-tree d flags at p id node number is stack (column f from end extent kids) s =
    let e : node ≡ Column f from end extent s.0 = cc (is, s.1) in
    let none : None ≡ Some number = subst (λ n. stack_in d at.flow n ≡ Some number) e stack in absurd (cc none)

-- ---- a cut piece of a flagged row

cut-at : (b : Bool) (cut other : Cut) → cond b (Some other) None ≡ Some cut → other ≡ cut
cut-at true cut other e = cc e
cut-at false cut other e = absurd (cc e)

-- the tree that it stands for is a piece of that row there, without a height of its own
pub record IsCutTree (cut : Cut) (tree : PlainTree) : Type 0 where
  pub columns : PlainTrees
  pub is : tree ≡ row_piece cut.row cut.from cut.y None columns

pub cut-tree : (flags : Flags) (p : Nodes) (id : FragId) (node : Node) (cut : Cut) → node_of p id ≡ Some node →
    cut_of flags node ≡ Some cut → (tree : PlainTree) → StandsFor p id tree → IsCutTree cut tree
unfolding StandsFor
cut-tree flags p id node cut is of (atom k y) s =
    let e : node ≡ Atom k y = cc (is, s) in
    let none : None ≡ Some cut = subst (λ n. cut_of flags n ≡ Some cut) e of in absurd (cc none)
cut-tree flags p id node cut is of (piece b starts y bottom kids) s =
    let e : node ≡ Piece b starts y bottom s.0 = cc (is, s.1) in
    let none : None ≡ Some cut = subst (λ n. cut_of flags n ≡ Some cut) e of in absurd (cc none)
cut-tree flags p id node cut is of (row_piece r from y None kids) s =
    let e : node ≡ RowPiece r from y None s.0 = cc (is, s.1) in
    let here : cut_of flags (RowPiece r from y None s.0) ≡ Some cut = subst (λ n. cut_of flags n ≡ Some cut) e of in
    let same : record { row = r; from = from; y = y } ≡ cut = cut-at (is_flagged flags r) cut _ here in
    record { columns = kids; is = ap (λ (c : Cut). row_piece c.row c.from c.y None kids) same }
cut-tree flags p id node cut is of (row_piece r from y (Some height) kids) s =
    let e : node ≡ RowPiece r from y (Some height) s.0 = cc (is, s.1) in
    let none : None ≡ Some cut = subst (λ n. cut_of flags n ≡ Some cut) e of in absurd (cc none)
cut-tree flags p id node cut is of (column f from end extent kids) s =
    let e : node ≡ Column f from end extent s.0 = cc (is, s.1) in
    let none : None ≡ Some cut = subst (λ n. cut_of flags n ≡ Some cut) e of in absurd (cc none)
