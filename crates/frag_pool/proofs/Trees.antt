-- The plain tree of a live id: there is one, and just one; it stays where trial nodes above it are given up; and trees in a list.
use Rattle.std.proofs.Common.{◌≡◌, ℕ, zero, suc, ◌+◌, ◌<◌, List, [], ◌∷◌, ◌++◌, length, Option, Some}
use Rattle.std.proofs.Common.{All, refl, arith, slice_get, take, get_or}
use Rattle.std.proofs.lemmas.List.Elements.{All-head, All-tail}
use Rattle.std.proofs.lemmas.Option.{slice_get-get_or}
use Rattle.mc_base.specs.PlainTree.{PlainTree, PlainTrees, plain_trees, atom, piece, row_piece, column, no_trees, more_trees}
use Rattle.mc_base.specs.declared.fragment.FragId.{FragId}
use Rattle.mc_base.specs.declared.fragment.FragId.TheVariants.{Kept, Trial}
use Rattle.mc_base.specs.declared.fragment.Node.{Node}
use Rattle.mc_base.specs.declared.fragment.Node.TheVariants.{Atom, Piece, RowPiece, Column}
use Rattle.frag_pool.specs.Nodes.{Nodes, node_of, ids_of, IsLive, IsBelow, IsClosed, back_to}
use Rattle.frag_pool.specs.Standing.{StandsFor, AllStandFor}

-- the place of a live id among all nodes, kept ones first
abbrev pub rank_of : Nodes → FragId → ℕ
rank_of p (Kept n) = n
rank_of p (Trial n) = length p.kept + n

-- ---- just one

mutual
  unfolding StandsFor

  pub stands-one : (p : Nodes) (id : FragId) (a b : PlainTree) → StandsFor p id a → StandsFor p id b → a ≡ b
  stands-one p id (atom i y) (atom j z) s t = cc
  stands-one p id (atom i y) (piece o st z bo kids) s t = absurd (cc (t.1))
  stands-one p id (atom i y) (row_piece r from z h cs) s t = absurd (cc (t.1))
  stands-one p id (atom i y) (column f from e x kids) s t = absurd (cc (t.1))
  stands-one p id (piece o st y bo kids) (atom j z) s t = absurd (cc (s.1))
  stands-one p id (piece o st y bo kids) (piece o' st' y' bo' kids') s t =
      let same : Piece o st y bo s.0 ≡ Piece o' st' y' bo' t.0 = cc (s.1, t.1) in
      let ids : s.0 ≡ t.0 = cc (same) in
      let k : kids ≡ kids' = all-one p s.0 kids kids' s.2 (rw ids t.2) in
      cc (same, k)
  stands-one p id (piece o st y bo kids) (row_piece r from z h cs) s t = absurd (cc (s.1, t.1))
  stands-one p id (piece o st y bo kids) (column f from e x cs) s t = absurd (cc (s.1, t.1))
  stands-one p id (row_piece r from y h cs) (atom j z) s t = absurd (cc (s.1))
  stands-one p id (row_piece r from y h cs) (piece o st z bo kids) s t = absurd (cc (s.1, t.1))
  stands-one p id (row_piece r from y h cs) (row_piece r' from' y' h' cs') s t =
      let same : RowPiece r from y h s.0 ≡ RowPiece r' from' y' h' t.0 = cc (s.1, t.1) in
      let ids : s.0 ≡ t.0 = cc (same) in
      let k : cs ≡ cs' = all-one p s.0 cs cs' s.2 (rw ids t.2) in
      cc (same, k)
  stands-one p id (row_piece r from y h cs) (column f from' e x kids) s t = absurd (cc (s.1, t.1))
  stands-one p id (column f from e x kids) (atom j z) s t = absurd (cc (s.1))
  stands-one p id (column f from e x kids) (piece o st z bo cs) s t = absurd (cc (s.1, t.1))
  stands-one p id (column f from e x kids) (row_piece r from' z h cs) s t = absurd (cc (s.1, t.1))
  stands-one p id (column f from e x kids) (column f' from' e' x' kids') s t =
      let same : Column f from e x s.0 ≡ Column f' from' e' x' t.0 = cc (s.1, t.1) in
      let ids : s.0 ≡ t.0 = cc (same) in
      let k : kids ≡ kids' = all-one p s.0 kids kids' s.2 (rw ids t.2) in
      cc (same, k)

  pub all-one : (p : Nodes) (ids : List FragId) (a b : PlainTrees) → AllStandFor p ids a → AllStandFor p ids b → a ≡ b
  all-one p [] no_trees no_trees s t = refl
  all-one p [] no_trees (more_trees x xs) s t = absurd t
  all-one p [] (more_trees x xs) b s t = absurd s
  all-one p (id ∷ ids) no_trees b s t = absurd s
  all-one p (id ∷ ids) (more_trees x xs) no_trees s t = absurd t
  all-one p (id ∷ ids) (more_trees x xs) (more_trees y ys) s t =
      let e : x ≡ y = stands-one p id x y s.0 t.0 in
      let es : xs ≡ ys = all-one p ids xs ys s.1 t.1 in
      cc

-- ---- there is one

rank-below : (p : Nodes) (id kid : FragId) → IsLive p id → IsBelow p id kid → IsLive p kid × (rank_of p kid < rank_of p id)
rank-below p (Kept n) (Kept m) live below = (omega arith, below)
rank-below p (Kept n) (Trial m) live below = absurd below
rank-below p (Trial n) (Kept m) live below = (below, omega arith)
rank-below p (Trial n) (Trial m) live below = (omega arith, omega arith)

node-live : (p : Nodes) (id : FragId) → IsLive p id → (d : Node) → (node : Node) × (node_of p id ≡ Some node)
node-live p (Kept n) live d = (get_or p.kept n d, slice_get-get_or p.kept n d live)
node-live p (Trial n) live d = (get_or p.trial n d, slice_get-get_or p.trial n d live)

node-below : (p : Nodes) → IsClosed p → (id : FragId) (node : Node) → node_of p id ≡ Some node → All (IsBelow p id) (ids_of node)
node-below p closed (Kept n) node at = closed.kept n node at
node-below p closed (Trial n) node at = closed.trial n node at

node-tree : (p : Nodes) (id : FragId) (node : Node) → node_of p id ≡ Some node → (trees : PlainTrees) →
    AllStandFor p (ids_of node) trees → (tree : PlainTree) × StandsFor p id tree
unfolding StandsFor
node-tree p id (Atom item y) at kids s = (atom item y, at)
node-tree p id (Piece owner starts y bottom ids) at kids s = (piece owner starts y bottom kids, (ids, at, s))
node-tree p id (RowPiece row from y height ids) at kids s = (row_piece row from y height kids, (ids, at, s))
node-tree p id (Column flow from end extent ids) at kids s = (column flow from end extent kids, (ids, at, s))

all-some : (p : Nodes) (over : FragId) → IsLive p over → ((kid : FragId) → IsLive p kid → rank_of p kid < rank_of p over →
    (tree : PlainTree) × StandsFor p kid tree) →
    (ids : List FragId) → All (IsBelow p over) ids → (trees : PlainTrees) × AllStandFor p ids trees
unfolding StandsFor
all-some p over live each [] below = (no_trees, tt)
all-some p over live each (id ∷ ids) below =
    let r = rank-below p over id live (All-head (IsBelow p over) id ids below) in
    let first = each id r.0 r.1 in
    let rest = all-some p over live each ids (All-tail (IsBelow p over) id ids below) in
    (more_trees first.0 rest.0, (first.1, rest.1))

stands-some : (p : Nodes) → IsClosed p → (bound : ℕ) (id : FragId) → IsLive p id → rank_of p id < bound →
    (tree : PlainTree) × StandsFor p id tree
stands-some p closed zero id live lt = absurd (omega arith)
stands-some p closed (suc bound) id live lt =
    let found = node-live p id live (Atom 0 0) in
    let kids = all-some p id live (λ kid l below. stands-some p closed bound kid l (omega arith)) (ids_of found.0)
    (node-below p closed id found.0 found.1) in
    node-tree p id found.0 found.1 kids.0 kids.1

pub stands-exists : (p : Nodes) → IsClosed p → (id : FragId) → IsLive p id → (tree : PlainTree) × StandsFor p id tree
stands-exists p closed id live = stands-some p closed (suc (rank_of p id)) id live (omega arith)

-- ---- trees in a list

-- these ids stand for these trees, in order
abbrev pub TheyStandFor : Nodes → List FragId → List PlainTree → Type 0
TheyStandFor p ids trees = AllStandFor p ids (plain_trees trees)

pub they-none : (p : Nodes) → TheyStandFor p [] []
unfolding StandsFor
they-none p = tt

pub they-append : (p : Nodes) (ids ids' : List FragId) (trees trees' : List PlainTree) → TheyStandFor p ids trees →
    TheyStandFor p ids' trees' → TheyStandFor p (ids ++ ids') (trees ++ trees')
unfolding StandsFor
they-append p [] ids' [] trees' s t = t
they-append p [] ids' (x ∷ trees) trees' s t = absurd s
they-append p (id ∷ ids) ids' [] trees' s t = absurd s
they-append p (id ∷ ids) ids' (x ∷ trees) trees' s t = (s.0, they-append p ids ids' trees trees' s.1 t)

pub they-one : (p : Nodes) (id : FragId) (tree : PlainTree) → StandsFor p id tree → TheyStandFor p (id ∷ []) (tree ∷ [])
unfolding StandsFor
they-one p id tree s = (s, tt)

-- a node over ids that stand for trees
pub stands-column : (p : Nodes) (id : FragId) (flow : ℕ) (from end : List ℕ) (extent : ℕ) (ids : List FragId) (trees : PlainTrees)
    → node_of p id ≡ Some (Column flow from end extent ids) → AllStandFor p ids trees →
    StandsFor p id (column flow from end extent trees)
unfolding StandsFor
stands-column p id flow from end extent ids trees at s = (ids, at, s)

pub stands-piece : (p : Nodes) (id : FragId) (owner : ℕ) (starts : _) (y : ℕ) (bottom : Option ℕ) (ids : List FragId)
    (trees : PlainTrees) → node_of p id ≡ Some (Piece owner starts y bottom ids) → AllStandFor p ids trees →
    StandsFor p id (piece owner starts y bottom trees)
unfolding StandsFor
stands-piece p id owner starts y bottom ids trees at s = (ids, at, s)

-- ---- given up

get-take : {X : Type 0} (xs : List X) (n k : ℕ) (x : X) → slice_get xs k ≡ Some x → k < length (take n xs) →
    slice_get (take n xs) k ≡ Some x
get-take xs zero k x at lt = absurd (omega arith)
get-take [] (suc n) k x at lt = absurd (omega arith)
get-take (y ∷ xs) (suc n) zero x at lt = at
get-take (y ∷ xs) (suc n) (suc k) x at lt = get-take xs n k x at (omega arith)

node-back : (p : Nodes) (n : ℕ) (id : FragId) (node : Node) → IsLive (back_to p n) id → node_of p id ≡ Some node →
    node_of (back_to p n) id ≡ Some node
node-back p n (Kept k) node live at = at
node-back p n (Trial k) node live at = get-take p.trial n k node at live

live-back : (p : Nodes) (n : ℕ) (id kid : FragId) → IsLive (back_to p n) id → IsBelow p id kid → IsLive (back_to p n) kid
live-back p n (Kept k) (Kept m) live below = omega arith
live-back p n (Kept k) (Trial m) live below = absurd below
live-back p n (Trial k) (Kept m) live below = below
live-back p n (Trial k) (Trial m) live below = omega arith

mutual
  unfolding StandsFor

  pub stands-back : (p : Nodes) → IsClosed p → (n : ℕ) (id : FragId) (tree : PlainTree) → IsLive (back_to p n) id →
      StandsFor p id tree → StandsFor (back_to p n) id tree
  stands-back p closed n id (atom item y) live s = node-back p n id (Atom item y) live s
  stands-back p closed n id (piece owner starts y bottom kids) live s = (
    s.0,
    node-back p n id (Piece owner starts y bottom s.0) live s.1,
    all-back p closed n id s.0 kids live
        (node-below p closed id (Piece owner starts y bottom s.0) s.1) s.2,
  )
  stands-back p closed n id (row_piece row from y height columns) live s = (
    s.0,
    node-back p n id (RowPiece row from y height s.0) live s.1,
    all-back p closed n id s.0 columns live
        (node-below p closed id (RowPiece row from y height s.0) s.1) s.2,
  )
  stands-back p closed n id (column flow from end extent kids) live s = (
    s.0,
    node-back p n id (Column flow from end extent s.0) live s.1,
    all-back p closed n id s.0 kids live
        (node-below p closed id (Column flow from end extent s.0) s.1) s.2,
  )

  all-back : (p : Nodes) → IsClosed p → (n : ℕ) (over : FragId) (ids : List FragId) (trees : PlainTrees) →
      IsLive (back_to p n) over → All (IsBelow p over) ids → AllStandFor p ids trees → AllStandFor (back_to p n) ids trees
  all-back p closed n over [] no_trees live below s = s
  all-back p closed n over [] (more_trees x xs) live below s = s
  all-back p closed n over (id ∷ ids) no_trees live below s = s
  all-back p closed n over (id ∷ ids) (more_trees x xs) live below s = (
    stands-back p closed n id x (live-back p n over id live (All-head (IsBelow p over) id ids below)) s.0,
    all-back p closed n
        over ids xs live (All-tail (IsBelow p over) id ids below) s.1,
  )

pub stands-after : (p q : Nodes) (n : ℕ) → IsClosed p → q ≡ back_to p n → (id : FragId) (tree : PlainTree) → IsLive q id →
    StandsFor p id tree → StandsFor q id tree
stands-after p q n closed e id tree live s = rw e (stands-back p closed n id tree (rw e at live) s)
