-- The rows in a column that is being placed, and the items that lead on.
use Rattle.std.proofs.Common.{◌≡◌, ℕ, ◌+◌, List, [], ◌∷◌, ◌++◌, sym, subst, All}
use Rattle.std.proofs.lemmas.List.Elements.{All-cons, All-head, All-nil, All-push, All-tail, All-weaker}
use Rattle.flow_list.specs.Data.{Edge, Flow, FlowsData, Item, Atom, Row}
use Rattle.flow_data.specs.Flows.{item_of, row_in, rows_in, seam_of}
use Rattle.flow_list.specs.Column.{strip_behind}
use Rattle.flow_list.specs.Placing.{laid_edges}
use Rattle.flow_list.specs.Rows.{all_rows}
use Rattle.flow_list.specs.Strip.{Strip, lay_all}
use Rattle.flow_list.specs.Tokens.{Token}
use Rattle.column_laws.proofs.Uses.{rows-at}
use Rattle.frag_pool.specs.Growing.{Grows}
use Rattle.frag_pool.specs.Nodes.{Nodes}
use Rattle.frag_pool.proofs.Stays.{stands-growing}
use Rattle.frag_pool.proofs.Growth.{stands-live}
use Rattle.frag_maker.specs.Building.{RowsAreMade, row_live, row_made}
use Rattle.frag_maker.specs.declared.placed.MadeRow.{MadeRow}
use Rattle.frag_maker.specs.declared.placed.Placed.{Placed}
use Rattle.frag_maker.specs.declared.placed.Placed.TheVariants.{Opens, Closes, Atom as AtomAt, Row as RowAt}
use Rattle.column_places.specs.declared.placing.Placing.{Placing}
use Rattle.column_places.specs.Placing.{Leads, rows_placed, strip_of}
use Rattle.column_places.proofs.Gaps.{leads-both}
use Rattle.column_maker.specs.Making.{AllHaveColumns, HasColumns, columns_in}
use Rattle.column_maker.specs.Walking.{item_laid, item_passed, strip_next}

-- what is made of rows stays so where the region grows
pub rows-grow : (d : FlowsData) (p q : Nodes) → Grows p q → (rows : List MadeRow) → AllHaveColumns d p rows →
    AllHaveColumns d q rows
rows-grow d p q grows rows made =
    All-weaker (HasColumns d p) (HasColumns d q) (λ r s. stands-growing p q grows r.made _ s) rows made

pub one-more-made : (d : FlowsData) (p q : Nodes) → Grows p q → (rows : List MadeRow) (r : MadeRow) → AllHaveColumns d p rows →
    HasColumns d q r → AllHaveColumns d q (rows ++ r ∷ [])
one-more-made d p q grows rows r made own = All-push (HasColumns d q) rows r (rows-grow d p q grows rows made) own

-- what is made of all rows among these is made of each
pub made-placed : (d : FlowsData) (p : Nodes) (placed : List Placed) → AllHaveColumns d p (rows_placed placed) →
    RowsAreMade p (columns_in d) placed
made-placed d p [] made = All-nil (row_made p (columns_in d))
made-placed d p (Opens number y starts ∷ placed) made = All-cons (row_made p (columns_in d)) _ placed tt
    (made-placed d p placed made)
made-placed d p (Closes number y ∷ placed) made = All-cons (row_made p (columns_in d)) _ placed tt (made-placed d p placed made)
made-placed d p (AtomAt item y ∷ placed) made = All-cons (row_made p (columns_in d)) _ placed tt (made-placed d p placed made)
made-placed d p (RowAt r y ∷ placed) made =
    All-cons (row_made p (columns_in d)) _ placed (All-head (HasColumns d p) r (rows_placed placed) made)
    (made-placed d p placed (All-tail (HasColumns d p) r (rows_placed placed) made))

-- they are live
pub live-placed : (d : FlowsData) (p : Nodes) (placed : List Placed) → RowsAreMade p (columns_in d) placed →
    All (row_live p) placed
live-placed d p placed made = All-weaker (row_made p (columns_in d)) (row_live p) one placed made
  where
    one : (x : Placed) → row_made p (columns_in d) x → row_live p x
    one (Opens number y starts) m = tt
    one (Closes number y) m = tt
    one (AtomAt item y) m = tt
    one (RowAt r y) m = stands-live p r.made _ m

-- what is so of the rows in a flow is so of the one that an item is
pub of-item : (P : ℕ → Type 0) (f : Flow) (k : ℕ) → All P (rows_in f) → (item : Item) → item ≡ item_of f k → All P (row_in item)
of-item P f k all (Atom height kind) is = All-nil P
of-item P f k all (Row r) is = All-cons P r [] (rows-at P f.items all k r (sym is)) (All-nil P)

-- an item with the tail after it, and then the head of that seam
pub passed-leads : (d : FlowsData) (f : Flow) (k : ℕ) (q : Token) (a b c : Placing) →
    Leads a (item_laid (all_rows d) f (strip_of a) k q) (strip_behind (all_rows d) f (strip_of a) k q) b → (head : List Edge) →
    head ≡ (seam_of f (k + 1)).head → Leads b (laid_edges (strip_of b) head) (lay_all (strip_of b) head) c →
    Leads a (item_passed (all_rows d) f (strip_of a) k q) (strip_next (all_rows d) f (strip_of a) k q) c
passed-leads d f k q a b c first head whole after =
    let s = strip_behind (all_rows d) f (strip_of a) k q in
    let P : Strip → List Edge → Type 0 = λ t es. Leads b (laid_edges t es) (lay_all t es) c in
    let there : P s (seam_of f (k + 1)).head = subst (λ t. P t (seam_of f (k + 1)).head) first.strip
    (subst (P (strip_of b)) whole after) in
    leads-both a b c (item_laid (all_rows d) f (strip_of a) k q) (laid_edges s (seam_of f (k + 1)).head) s
    (lay_all s (seam_of f (k + 1)).head) first there
