-- The fragments of what is placed, one after another.
use Rattle.std.proofs.Common.{◌≡◌, ℕ, zero, suc, ◌+◌, ◌-◌, ◌<◌, ◌≤◌, Bool, cond, List, [], ◌∷◌, ◌++◌, length, map, take, drop}
use Rattle.std.proofs.Common.{get_or, Option, Some, None, refl, sym, ◌∙◌, ap, arith, add-one, append_assoc, All, length-drop}
use Rattle.std.proofs.Math.Seq.{drop-cons}
use Rattle.std.proofs.lemmas.List.{append-nil}
use Rattle.std.proofs.lemmas.List.Elements.{All-get_or, All-take, All-drop, All-weaker}
use Rattle.mc_base.specs.PlainTree.{PlainTree, PlainTrees, plain_trees, piece, atom as atom_tree}
use Rattle.mc_base.specs.declared.fragment.FragId.{FragId}
use Rattle.mc_base.specs.declared.fragment.FragId.TheVariants.{Trial}
use Rattle.mc_base.specs.declared.fragment.Node.{Node}
use Rattle.mc_base.specs.declared.fragment.Node.TheVariants.{Piece as PieceNode, Atom as AtomNode, RowPiece as RowNode}
use Rattle.flow_list.specs.Placing.{RowLaid}
use Rattle.flow_list.specs.Fragments.{all_trees, inside_box, behind_box, bottom_of}
use Rattle.frag_pool.specs.Nodes.{Nodes, IsLive, ids_of, node_of, trial_more}
use Rattle.frag_pool.specs.Standing.{StandsFor, AllStandFor}
use Rattle.frag_pool.specs.Growing.{Grows}
use Rattle.frag_pool.proofs.Stays.{stands-growing, keeps-growing, all-along}
use Rattle.frag_pool.proofs.Trees.{they-append, they-one, they-none, stands-piece}
use Rattle.frag_maker.specs.declared.placed.MadeRow.{MadeRow}
use Rattle.frag_maker.specs.declared.placed.Placed.{Placed}
use Rattle.frag_maker.specs.declared.placed.Placed.TheVariants.{Opens, Closes, Atom, Row}
use Rattle.frag_maker.specs.Building.{IsMade, RowsAreMade, laid_row, piece_at, placed_as, row_made, row_live}
use Rattle.frag_pool.proofs.Growth.{grows-trans}
use Rattle.frag_maker.proofs.Growing.{grows-trial, live-grows, trial-node}
use Rattle.frag_maker.proofs.TreeSteps.{trees-none, trees-opens, trees-closes, trees-atom, trees-row}

-- these ids stand for the first trees of what is placed, those before item i
abbrev pub Built : Nodes → Nodes → List FragId → ℕ → List Placed → Type 0
Built old now ids i placed = (columns : RowLaid → List PlainTree) → RowsAreMade old columns placed →
    (made : List PlainTree) × AllStandFor now ids (plain_trees made)
    × (all_trees columns (map placed_as placed) ≡ made ++ all_trees columns (map placed_as (drop i placed)))

row-live-grows : (p q : Nodes) → Grows p q → (x : Placed) → row_live p x → row_live q x
row-live-grows p q g (Opens number y starts) l = l
row-live-grows p q g (Closes number y) l = l
row-live-grows p q g (Atom item y) l = l
row-live-grows p q g (Row r y) l = live-grows p q g r.made l

row-made-grows : (p q : Nodes) → Grows p q → (columns : RowLaid → List PlainTree) (x : Placed) → row_made p columns x →
    row_made q columns x
row-made-grows p q g columns (Opens number y starts) l = l
row-made-grows p q g columns (Closes number y) l = l
row-made-grows p q g columns (Atom item y) l = l
row-made-grows p q g columns (Row r y) l = stands-growing p q g r.made _ l

-- what is made of rows stays made where the region grows
pub rows-made-grow : (p q : Nodes) → Grows p q → (columns : RowLaid → List PlainTree) (xs : List Placed) →
    RowsAreMade p columns xs → RowsAreMade q columns xs
rows-made-grow p q g columns xs h = All-weaker (row_made p columns) (row_made q columns) (row-made-grows p q g columns) xs h

pub rows-live-grow : (p q : Nodes) → Grows p q → (xs : List Placed) → All (row_live p) xs → All (row_live q) xs
rows-live-grow p q g xs h = All-weaker (row_live p) (row_live q) (row-live-grows p q g) xs h

drop-none : (n : ℕ) → drop n (let none : List Placed = [] in none) ≡ []
drop-none zero = refl
drop-none (suc n) = refl

drop-more : (i n : ℕ) (xs : List Placed) → drop n (drop i xs) ≡ drop (i + n) xs
drop-more zero n xs = let e : 0 + n ≡ n = omega arith in rw e refl
drop-more (suc i) n [] = drop-none n ∙ sym (drop-none (suc i + n))
drop-more (suc i) n (x ∷ xs) = let e : suc i + n ≡ suc (i + n) = omega arith in rw e (drop-more i n xs)

module _ (old : Nodes) (placed : List Placed) (i : ℕ) (x : Placed) (lt : i < length placed) (at : x ≡ get_or placed i x) where
  here : drop i placed ≡ x ∷ drop (i + 1) placed
  here = rw add-one (drop-cons placed i x lt ∙ ap (λ y. y ∷ drop (suc i) placed) (sym at))

  -- the trees from item n on
  abbrev rest : (RowLaid → List PlainTree) → ℕ → List PlainTree
  rest columns n = all_trees columns (map placed_as (drop n placed))

  -- one more fragment
  one-more : (columns : RowLaid → List PlainTree) (p q : Nodes) (ids : List FragId) (id : FragId) (tree : PlainTree)
      (all later next made : List PlainTree) → Grows p q → AllStandFor p ids (plain_trees made) → StandsFor q id tree →
      all ≡ made ++ later → later ≡ tree ∷ next →
      (more : List PlainTree) × AllStandFor q (ids ++ id ∷ []) (plain_trees more) × (all ≡ more ++ next)
  one-more columns p q ids id tree all later next made grows stand s e is = (
    made ++ tree ∷ [],
    they-append q ids (id ∷ []) made (tree ∷ []) (all-along p q (keeps-growing p q grows) ids (plain_trees made) stand)
        (they-one q id tree s),
    e ∙ ap (λ ts. made ++ ts) is ∙ sym (append_assoc made (tree ∷ []) next),
  )

  pub built-closes : (now : Nodes) (ids : List FragId) (b y : ℕ) → x ≡ Closes b y → Built old now ids i placed →
      Built old now ids (i + 1) placed
  built-closes now ids b y is built = λ columns rows.
      let h = built columns rows in (
        h.0,
        h.1,
        h.2 ∙ ap (λ ts. h.0 ++ ts) (ap (λ ps. all_trees columns (map placed_as ps)) here
            ∙ rw is (trees-closes columns b y (map placed_as (drop (i + 1) placed)))),
      )

  pub built-atom : (p q : Nodes) (ids : List FragId) (k y : ℕ) → x ≡ Atom k y → q ≡ trial_more p (AtomNode k y) →
      Built old p ids i placed → Built old q (ids ++ Trial (length p.trial) ∷ []) (i + 1) placed
  unfolding StandsFor
  built-atom p q ids k y is more built = λ columns rows.
      let h = built columns rows in
      one-more columns p q ids (Trial (length p.trial)) (atom_tree k y) _ (rest columns i) (rest columns (i + 1)) h.0
      (grows-trial p q _ more) h.1 (trial-node p q (AtomNode k y) more) h.2
      (ap (λ ps. all_trees columns (map placed_as ps)) here
      ∙ rw is (trees-atom columns k y (map placed_as (drop (i + 1) placed))))

  pub built-row : (p q : Nodes) (ids : List FragId) (r : MadeRow) (y : ℕ) (id : FragId) → x ≡ Row r y → Grows old p → Grows p q →
      ((columns : PlainTrees) → IsMade p columns r → StandsFor q id (piece_at r y columns)) →
      Built old p ids i placed → Built old q (ids ++ id ∷ []) (i + 1) placed
  built-row p q ids r y id is grows more stands built = λ columns rows.
      let h = built columns rows in
      let own : row_made old columns x = rw at (All-get_or (row_made old columns) placed i x lt rows) in
      let now : row_made p columns (Row r y) = rw is at (row-made-grows old p grows columns x own) in
      one-more columns p q ids id _ _ (rest columns i) (rest columns (i + 1)) h.0 more h.1 (stands _ now) h.2
      (ap (λ ps. all_trees columns (map placed_as ps)) here
      ∙ rw is (trees-row columns (laid_row r) y (map placed_as (drop (i + 1) placed))))

  -- a box, with what was built in it
  pub built-opens : (p m q : Nodes) (ids kids : List FragId) (b y : ℕ) (starts : Bool) (a n : ℕ) (bottom : Option ℕ)
      (later : List Placed) → x ≡ Opens b y starts → Grows old p → Grows p m → later ≡ drop (i + 1) placed →
      inside_box b (map placed_as later) ≡ map placed_as (take a later) →
      behind_box b (map placed_as later) ≡ map placed_as (drop n later) → bottom_of b (map placed_as later) ≡ bottom →
      ((columns : RowLaid → List PlainTree) → RowsAreMade p columns (take a later) →
      AllStandFor m kids (plain_trees (all_trees columns (map placed_as (take a later))))) →
      q ≡ trial_more m (PieceNode b starts y bottom kids) → Built old p ids i placed →
      Built old q (ids ++ Trial (length m.trial) ∷ []) (i + (1 + n)) placed
  built-opens p m q ids kids b y starts a n bottom later is grows more later_is inside behind bot built_in last built =
      λ columns rows.
      let h = built columns rows in
      let rows_now : RowsAreMade p columns placed = rows-made-grow old p grows columns placed rows in
      let rows_in : RowsAreMade p columns (take a later) =
      All-take (row_made p columns) a later (rw later_is (All-drop (row_made p columns) (i + 1) placed rows_now)) in
      let gq : Grows m q = grows-trial m q _ last in
      let inner : PlainTrees = plain_trees (all_trees columns (map placed_as (take a later))) in
      let kids_stand : AllStandFor q kids inner = all-along m q (keeps-growing m q gq) kids _ (built_in columns rows_in) in
      let s : StandsFor q (Trial (length m.trial)) (piece b starts y bottom inner) =
      stands-piece q (Trial (length m.trial)) b starts y bottom kids _ (trial-node m q _ last) kids_stand in
      one-more columns p q ids (Trial (length m.trial)) _ _ (rest columns i) (rest columns (i + (1 + n))) h.0
      (grows-trans p m q more gq) h.1 s h.2
      (ap (λ ps. all_trees columns (map placed_as ps)) (here ∙ ap (λ ps. x ∷ ps) (sym later_is))
      ∙ rw is (trees-opens columns b y starts (map placed_as later)
      ∙ rw (inside, behind, bot) (ap (λ ps. piece b starts y bottom inner ∷ all_trees columns (map placed_as ps)) next)))
    where
      next : drop n later ≡ drop (i + (1 + n)) placed
      next = ap (λ ps. drop n ps) later_is ∙ drop-more (i + 1) n placed
          ∙ (let e : i + 1 + n ≡ i + (1 + n) = omega arith in ap (λ k. drop k placed) e)

  pub live-row : (now : Nodes) → Grows old now → (r : MadeRow) (y : ℕ) → x ≡ Row r y → All (row_live old) placed →
      IsLive now r.made
  live-row now grows r y is rows =
      let own : row_live old x = rw at (All-get_or (row_live old) placed i x lt rows) in
      let there : IsLive old r.made = rw is at own in
      live-grows old now grows r.made there

pub built-first : (p : Nodes) (placed : List Placed) → Built p p [] 0 placed
built-first p placed = λ columns rows. ([], they-none p, refl)

drop-all : (i : ℕ) (xs : List Placed) → length xs ≤ i → drop i xs ≡ []
drop-all zero [] le = refl
drop-all zero (x ∷ xs) le = absurd (omega arith)
drop-all (suc i) [] le = refl
drop-all (suc i) (x ∷ xs) le = drop-all i xs (omega arith)

pub built-last : (old now : Nodes) (ids : List FragId) (i : ℕ) (placed : List Placed) → length placed ≤ i →
    Built old now ids i placed → (columns : RowLaid → List PlainTree) → RowsAreMade old columns placed →
    AllStandFor now ids (plain_trees (all_trees columns (map placed_as placed)))
built-last old now ids i placed le built columns rows =
    let h = built columns rows in
    let none : drop i placed ≡ [] = drop-all i placed le in
    let all : all_trees columns (map placed_as placed) ≡ h.0 = h.2 ∙ rw (none, trees-none columns) (append-nil h.0) in
    rw all h.1

pub within-more : (placed : List Placed) (i n : ℕ) (rest : List Placed) → i < length placed → rest ≡ drop (i + 1) placed →
    n ≤ length rest → i + (1 + n) ≤ length placed
within-more placed i n rest lt is le =
    let e : length rest ≡ length placed - (i + 1) = ap length is ∙ length-drop (i + 1) placed in omega arith

-- the piece of a row, over the ids in what is made of it
pub piece-stands : (p q : Nodes) (r : MadeRow) (y : ℕ) (node : Node) (from : List ℕ) (ids : List FragId)
    (height : Option ℕ) → node_of p r.made ≡ Some node → from ≡ r.from → ids ≡ ids_of node →
    height ≡ cond r.filled None (Some r.height) → q ≡ trial_more p (RowNode r.row from y height ids) → (columns : PlainTrees)
    → IsMade p columns r →
    StandsFor q (Trial (length p.trial)) (piece_at r y columns)
unfolding StandsFor
piece-stands p q r y node from ids height at start is tall more columns made =
    let own : node ≡ RowNode r.row r.from 0 None made.0 = cc in
    let same : ids ≡ made.0 = is ∙ ap ids_of own in
    let there : node_of q (Trial (length p.trial)) ≡ Some (RowNode r.row r.from y (cond r.filled None (Some r.height)) made.0) =
    trial-node p q _ more ∙ ap (λ t. Some (RowNode r.row t y height ids)) start
    ∙ ap (λ h. Some (RowNode r.row r.from y h ids)) tall
    ∙ ap (λ ks. Some (RowNode r.row r.from y (cond r.filled None (Some r.height)) ks)) same in
    (made.0, there, all-along p q (keeps-growing p q (grows-trial p q _ more)) made.0 columns made.2)
