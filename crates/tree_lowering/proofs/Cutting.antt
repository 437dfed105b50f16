-- A cut piece of a flagged row at its least height, with the pieces in its columns lowered.
use Rattle.std.proofs.Common.{◌≡◌, ℕ, zero, suc, ◌-◌, true, List, [], ◌∷◌, ◌++◌, Some, None, refl, sym, ◌∙◌, ap}
use Rattle.std.proofs.Common.{subst, append_assoc}
use Rattle.mc_base.specs.PlainTree.{PlainTrees, row_piece}
use Rattle.mc_base.specs.declared.fragment.FragId.{FragId}
use Rattle.mc_base.specs.declared.fragment.Node.{Node}
use Rattle.mc_base.specs.declared.fragment.Node.TheVariants.{RowPiece}
use Rattle.flow_list.specs.Data.{FlowsData}
use Rattle.flow_list.specs.Tokens.{Token}
use Rattle.frag_pool.specs.Growing.{Grows}
use Rattle.frag_pool.specs.Nodes.{Nodes, ids_of, node_of}
use Rattle.frag_pool.specs.Standing.{StandsFor, AllStandFor}
use Rattle.frag_pool.proofs.Stays.{all-along, keeps-growing}
use Rattle.piece_data.specs.LeastPiece.{least_height}
use Rattle.piece_data.specs.Lowering.{CutPiece, Flags, columns_at, columns_lowered, is_flagged, lowered_in, pieces_at, pieces_in}
use Rattle.tree_lowering.specs.Lower.{AreMadeOf, lower, lower_inside, pieces, pieces_inside, within_row}
use Rattle.tree_lowering.specs.Met.{Met, MeetsTrees, all_met, piece_met}
use Rattle.tree_lowering.specs.declared.cut.Within.{Within}
use Rattle.tree_lowering.proofs.Making.{lowered-trees, same-trees}
use Rattle.tree_lowering.proofs.Meeting.{met-push}

-- ---- the columns

columns-stand : (d : FlowsData) (flags : Flags) (p q : Nodes) (n r : ℕ) (from : Token) (h : ℕ) (ids made : List FragId) →
    AreMadeOf p q (lower_inside d flags n r h) ids made → AllStandFor p ids (columns_at d r from h) →
    AllStandFor q made (columns_lowered d flags n r from h)
unfolding columns_lowered
columns-stand d flags p q zero r from h ids made are stand = same-trees p q ids made (columns_at d r from h) are stand
columns-stand d flags p q (suc n) r from h ids made are stand =
    lowered-trees d flags (within_row d r h n 0) p q ids made (columns_at d r from h) are stand

columns-met : (d : FlowsData) (flags : Flags) (stacks : ℕ → List CutPiece) (n r : ℕ) (from : Token) (h : ℕ) →
    pieces_inside d flags n r h stacks (columns_at d r from h) ≡ pieces_at d flags stacks n r from h
unfolding pieces_at
columns-met d flags stacks zero r from h = refl
columns-met d flags stacks (suc n) r from h = refl

-- ---- the piece

ids-known : (p : Nodes) (frag : FragId) (r : ℕ) (from : Token) (h : ℕ) (columns : PlainTrees) (ids : List FragId) →
    ((node : Node) → node_of p frag ≡ Some node → ids ≡ ids_of node) →
    StandsFor p frag (row_piece r from 0 (Some h) columns) → AllStandFor p ids columns
unfolding StandsFor
ids-known p frag r from h columns ids are s =
    subst (λ xs. AllStandFor p xs columns) (sym (are (RowPiece r from 0 (Some h) s.0) s.1)) s.2

lowered-cut : (d : FlowsData) (flags : Flags) (at : Within) (r : ℕ) (from : Token) (y h : ℕ) (columns : PlainTrees) →
    is_flagged flags r ≡ true → h ≡ least_height d r from (at.room - y) →
    lower d flags at (row_piece r from y None columns)
    ≡ row_piece r from y (Some h) (columns_lowered d flags at.nested r from h)
unfolding lowered_in
lowered-cut d flags at r from y h columns flagged least = rw (flagged, least) refl

pieces-cut : (d : FlowsData) (flags : Flags) (at : Within) (stacks : ℕ → List CutPiece) (r : ℕ) (from : Token) (y h : ℕ)
    (columns : PlainTrees) → is_flagged flags r ≡ true → h ≡ least_height d r from (at.room - y) →
    pieces d flags at stacks (row_piece r from y None columns)
    ≡ record { row = r; from = from; height = at.room - y } ∷ pieces_at d flags stacks at.nested r from h
unfolding pieces_in
pieces-cut d flags at stacks r from y h columns flagged least = rw (flagged, least) refl

row-stands : (p : Nodes) (new : FragId) (r : ℕ) (from : Token) (y h : ℕ) (made : List FragId) (columns : PlainTrees) →
    node_of p new ≡ Some (RowPiece r from y (Some h) made) → AllStandFor p made columns →
    StandsFor p new (row_piece r from y (Some h) columns)
unfolding StandsFor
row-stands p new r from y h made columns is stand = (made, is, stand)

-- p is the region where the columns at the least height were made, q where their pieces were lowered, and s with the new node
pub cut-stands : (d : FlowsData) (flags : Flags) (at : Within) (p q s : Nodes) (frag new : FragId) (r : ℕ) (from : Token)
    (y h : ℕ) (ids made : List FragId) (columns : PlainTrees) → is_flagged flags r ≡ true →
    h ≡ least_height d r from (at.room - y) → ((node : Node) → node_of p frag ≡ Some node → ids ≡ ids_of node) →
    StandsFor p frag (row_piece r from 0 (Some h) (columns_at d r from h)) →
    AreMadeOf p q (lower_inside d flags at.nested r h) ids made → Grows q s →
    node_of s new ≡ Some (RowPiece r from y (Some h) made) →
    StandsFor s new (lower d flags at (row_piece r from y None columns))
cut-stands d flags at p q s frag new r from y h ids made columns flagged least are stands made_of grows is =
    let here : AllStandFor p ids (columns_at d r from h) =
    ids-known p frag r from h (columns_at d r from h) ids are stands in
    let there : AllStandFor q made (columns_lowered d flags at.nested r from h) =
    columns-stand d flags p q at.nested r from h ids made made_of here in
    subst (λ tree. StandsFor s new tree) (sym (lowered-cut d flags at r from y h columns flagged least))
    (row-stands s new r from y h made (columns_lowered d flags at.nested r from h) is
    (all-along q s (keeps-growing q s grows) made (columns_lowered d flags at.nested r from h) there))

pub cut-met : (d : FlowsData) (flags : Flags) (at : Within) (p : Nodes) (frag : FragId) (r : ℕ) (from : Token)
    (y h : ℕ) (ids : List FragId) (columns : PlainTrees) (old mid new : List Met) → is_flagged flags r ≡ true →
    h ≡ least_height d r from (at.room - y) → ((node : Node) → node_of p frag ≡ Some node → ids ≡ ids_of node) →
    StandsFor p frag (row_piece r from 0 (Some h) (columns_at d r from h)) →
    mid ≡ old ++ piece_met r from (at.room - y) ∷ [] →
    MeetsTrees p mid new (pieces_inside d flags at.nested r h) ids →
    (stacks : ℕ → List CutPiece) →
    all_met stacks new ≡ all_met stacks old ++ pieces d flags at stacks (row_piece r from y None columns)
cut-met d flags at p frag r from y h ids columns old mid new flagged least are stands more meets stacks =
    let here : AllStandFor p ids (columns_at d r from h) =
    ids-known p frag r from h (columns_at d r from h) ids are stands in
    let inner = pieces_at d flags stacks at.nested r from h in
    let first : List CutPiece = record { row = r; from = from; height = at.room - y } ∷ [] in
    meets (columns_at d r from h) here stacks
    ∙ ap (λ xs. all_met stacks mid ++ xs) (columns-met d flags stacks at.nested r from h)
    ∙ ap (λ m. all_met stacks m ++ inner) more
    ∙ ap (λ xs. xs ++ inner) (met-push stacks old (piece_met r from (at.room - y)))
    ∙ append_assoc (all_met stacks old) first inner
    ∙ ap (λ xs. all_met stacks old ++ xs) (sym (pieces-cut d flags at stacks r from y h columns flagged least))
