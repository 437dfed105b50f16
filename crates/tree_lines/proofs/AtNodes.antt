-- The tree that an id stands for, by the id's node.
use Rattle.std.proofs.Common.{◌≡◌, ℕ, Bool, List, Option, Some}
use Rattle.mc_base.specs.PlainTree.{PlainTree, PlainTrees, atom, piece, row_piece, column}
use Rattle.mc_base.specs.declared.fragment.FragId.{FragId}
use Rattle.mc_base.specs.declared.fragment.Node.TheVariants.{Atom, Piece, RowPiece, Column}
use Rattle.frag_pool.specs.Nodes.{Nodes, node_of}
use Rattle.frag_pool.specs.Standing.{StandsFor, AllStandFor}

pub at-atom : (p : Nodes) (id : FragId) (tree : PlainTree) (k y : ℕ) → node_of p id ≡ Some (Atom k y) → StandsFor p id tree →
    tree ≡ atom k y
unfolding StandsFor
at-atom p id (atom k' y') k y at s = cc (at, s)
at-atom p id (piece o st z b kids) k y at s = absurd (cc (at, s.1))
at-atom p id (row_piece r from z h cs) k y at s = absurd (cc (at, s.1))
at-atom p id (column f from e x kids) k y at s = absurd (cc (at, s.1))

pub at-piece : (p : Nodes) (id : FragId) (tree : PlainTree) (o : ℕ) (st : Bool) (y : ℕ) (b : Option ℕ) (ids : List FragId) →
    node_of p id ≡ Some (Piece o st y b ids) → StandsFor p id tree →
    (kids : PlainTrees) × (tree ≡ piece o st y b kids) × AllStandFor p ids kids
unfolding StandsFor
at-piece p id (atom k' y') o st y b ids at s = absurd (cc (at, s))
at-piece p id (piece o' st' y' b' kids) o st y b ids at s =
    let same : Piece o' st' y' b' s.0 ≡ Piece o st y b ids = cc (at, s.1) in
    let ids_are : s.0 ≡ ids = cc (same) in
    (kids, cc (same), rw ids_are at s.2)
at-piece p id (row_piece r from z h cs) o st y b ids at s = absurd (cc (at, s.1))
at-piece p id (column f from e x kids) o st y b ids at s = absurd (cc (at, s.1))

pub at-row : (p : Nodes) (id : FragId) (tree : PlainTree) (r : ℕ) (from : List ℕ) (y : ℕ) (h : Option ℕ) (ids : List FragId) →
    node_of p id ≡ Some (RowPiece r from y h ids) → StandsFor p id tree →
    (columns : PlainTrees) × (tree ≡ row_piece r from y h columns) × AllStandFor p ids columns
unfolding StandsFor
at-row p id (atom k' y') r from y h ids at s = absurd (cc (at, s))
at-row p id (piece o st z b kids) r from y h ids at s = absurd (cc (at, s.1))
at-row p id (row_piece r' from' y' h' cs) r from y h ids at s =
    let same : RowPiece r' from' y' h' s.0 ≡ RowPiece r from y h ids = cc (at, s.1) in
    let ids_are : s.0 ≡ ids = cc (same) in
    (cs, cc (same), rw ids_are at s.2)
at-row p id (column f from' e x kids) r from y h ids at s = absurd (cc (at, s.1))

pub at-column : (p : Nodes) (id : FragId) (tree : PlainTree) (f : ℕ) (from e : List ℕ) (x : ℕ) (ids : List FragId) →
    node_of p id ≡ Some (Column f from e x ids) → StandsFor p id tree →
    (kids : PlainTrees) × (tree ≡ column f from e x kids) × AllStandFor p ids kids
unfolding StandsFor
at-column p id (atom k' y') f from e x ids at s = absurd (cc (at, s))
at-column p id (piece o st z b kids) f from e x ids at s = absurd (cc (at, s.1))
at-column p id (row_piece r from' z h cs) f from e x ids at s = absurd (cc (at, s.1))
at-column p id (column f' from' e' x' kids) f from e x ids at s =
    let same : Column f' from' e' x' s.0 ≡ Column f from e x ids = cc (at, s.1) in
    let ids_are : s.0 ≡ ids = cc (same) in
    (kids, cc (same), rw ids_are at s.2)
