-- The rectangles of all lines of a tree end below 2^63: by how the tree is made, from stack 0 inwards.
use Rattle.std.proofs.Common.{◌≡◌, ℕ, zero, suc, ◌+◌, ◌-◌, ◌*◌, ◌<◌, ◌≤◌, ◌^◌, ◌==◌, Bool, true, false, cond, List, [], ◌∷◌, ◌++◌}
use Rattle.std.proofs.Common.{length, Option, Some, None, refl, sym, subst, ap, arith, ◌⊎◌, inl, inr}
use Rattle.std.specs.List.{AllByRecursion as Each}
use Rattle.std.proofs.Math.Nat.{mul-le-mul}
use Rattle.std.proofs.lemmas.Bool.{cases_lt}
use Rattle.std.proofs.lemmas.Bool.Decides.{nat_tests}
use Rattle.std.proofs.lemmas.List.{get_or_past}
use Rattle.std.proofs.lemmas.List.Elements.{All-from_recursion}
use Rattle.mc_base.specs.PlainTree.{PlainTree, plain_trees}
use Rattle.flow_list.specs.Data.{AtomKind, Bound, BoxInfo, FlowsData, Item, Plain, Line, Void, Image, Bounded, Left, Atom, Row}
use Rattle.flow_data.specs.Flows.{seam_of, box_of, row_of, stack_of, flow_of, flow_in, item_of, no_box, no_item, no_row, no_flow}
use Rattle.flow_list.specs.Tokens.{Token, item_number, is_end}
use Rattle.flow_list.specs.ClonedEdges.{tops}
use Rattle.flow_list.specs.Strip.{strip_at}
use Rattle.flow_list.specs.Column.{Column}
use Rattle.flow_list.specs.Rows.{reach, columns_by, left_in, rows_to, all_rows}
use Rattle.flow_list.specs.RowHeights.{row_height}
use Rattle.flow_list.specs.Stacks.{stack_extent, stack_height, own_height}
use Rattle.flow_list.specs.Placing.{RowLaid, laid_edges, places_from, Placed, opens_at, closes_at, atom_at, row_at}
use Rattle.flow_list.specs.Fragments.{closes_here, inside_box, behind_box, bottom_of, place_of, trees_of, all_trees, column_made}
use Rattle.flow_list.specs.Fragments.{fragment_of, fragments_from, columns_wanted, row_fragments, stack_fragment, places_in}
use Rattle.flow_list.specs.Fragments.{laid_start, laid_to, stop_of, continued_from, stack_laid}
use Rattle.flow_list.specs.Tree.{TreeLine, Frame, row_width, in_box, piece_bottom, piece_height, atom_lines, item_lines}
use Rattle.flow_list.specs.Tree.{column_frame, lines_of_tree, lines_of_trees, lines_of_columns, lines_of_column, lines_of_stack}
use Rattle.flow_list.specs.Tree.{tree_of}
use Rattle.flow_data.specs.Soundness.{IsSound, IsSoundAtom, IsSoundItem, stack_in}
use Rattle.flow_list.proofs.PlaceBounds.{Each-append, IsNoLower}
use Rattle.flow_laws.specs.Rectangles.{EndsBelow, RectanglesAreBounded}
use Rattle.flow_laws.proofs.Small.{column-reach, endless-reach}
use Rattle.flow_laws.proofs.HeldSums.{height_held, height-more, height-stack, height-rises, size-held, reach-held, left-held}
use Rattle.flow_laws.proofs.LaidSums.{IsRowOf, share}
use Rattle.flow_laws.proofs.PlacedSums.{whole, whole-is, column-placed, stack-placed}
use Rattle.flow_laws.proofs.RowHeightBounds.{row-height-le}
use Rattle.flow_laws.proofs.StackSums.{stack-extent-small}
use Rattle.flow_laws.proofs.Descent.{Stands, row-known, first-stands, x-small, row-stands, stack-stands}

module _ (d : FlowsData) (sound : IsSound d) where
  -- what row r counts in the flow that it stands in, n flows deep and as many as its own heights need
  total : ℕ → ℕ → ℕ
  total n r = height_held d (n + suc (length d.rows)) (row_of d r).flow

  -- something placed in flow f stands within it, however deep that is counted
  IsIn : ℕ → Placed → Type 0
  IsIn f p = (n : ℕ) → IsNoLower (share (total n)) (IsRowOf (flow_of d f)) (whole d (flow_of d f) (total n)) p

  all-in : (f : ℕ) (ps : List Placed)
      → ((n : ℕ) → Each (IsNoLower (share (total n)) (IsRowOf (flow_of d f)) (whole d (flow_of d f) (total n))) ps)
      → Each (IsIn f) ps
  unfolding IsIn
  all-in f [] all = tt
  all-in f (p ∷ ps) all = (λ n. (all n).0, all-in f ps (λ n. (all n).1))

  whole-held : (n f : ℕ) → whole d (flow_of d f) (total n) ≤ height_held d (suc (n + suc (length d.rows))) f
  unfolding total
  whole-held n f = let a = whole-is d (flow_of d f) (total n) in let b = height-more d (n + suc (length d.rows)) f in omega arith

  inside-in : (f b : ℕ) (ps : List Placed) → Each (IsIn f) ps → Each (IsIn f) (inside_box b ps)
  inside-in f b [] all = tt
  inside-in f b (p ∷ ps) all = go (closes_here b p) (inside-in f b ps all.1)
    where
      go : (c : Bool) → Each (IsIn f) (inside_box b ps) → Each (IsIn f) (cond c [] (p ∷ inside_box b ps))
      go true rest = tt
      go false rest = (all.0, rest)

  behind-in : (f b : ℕ) (ps : List Placed) → Each (IsIn f) ps → Each (IsIn f) (behind_box b ps)
  behind-in f b [] all = tt
  behind-in f b (p ∷ ps) all = go (closes_here b p) (behind-in f b ps all.1)
    where
      go : (c : Bool) → Each (IsIn f) (behind_box b ps) → Each (IsIn f) (cond c ps (behind_box b ps))
      go true rest = all.1
      go false rest = rest

  -- ---- a column where things stand

  record IsFrame (f spare : ℕ) (frame : Frame) : Type 0 where
    stands : Stands d sound f spare frame.x frame.y
    known : f < length d.flows
    w : frame.w < 2 ^ 60
    h : frame.h < 2 ^ 60
    extent : frame.extent < 2 ^ 60

  boxed : (f spare : ℕ) (frame : Frame) (b : ℕ) → IsFrame f spare frame → IsFrame f spare (in_box frame b)
  boxed f spare frame b ok = record { stands = ok.stands; known = ok.known; w = ok.w; h = ok.h; extent = ok.extent }

  place-small : (f spare : ℕ) (frame : Frame) (p : Placed) → IsFrame f spare frame → IsIn f p → frame.y + place_of p < 2 ^ 60
  unfolding IsIn
  place-small f spare frame p ok at = let a = ok.stands.heights (suc (0 + suc (length d.rows))) in let b = whole-held 0 f
      in let c = low p (at 0) in omega arith
    where
      low : (p : Placed) → IsNoLower (share (total 0)) (IsRowOf (flow_of d f)) (whole d (flow_of d f) (total 0)) p
          → place_of p ≤ whole d (flow_of d f) (total 0)
      low (opens_at b y starts) at = at
      low (closes_at b y) at = at
      low (atom_at k y) at = at
      low (row_at r y) at = let a = at.1 in omega arith

  bottom-small : (f spare : ℕ) (frame : Frame) (b : ℕ) (ps : List Placed) → IsFrame f spare frame → Each (IsIn f) ps
      → piece_bottom frame (bottom_of b ps) < 2 ^ 60
  bottom-small f spare frame b [] ok all = let a = ok.h in let c = ok.extent in omega arith
  bottom-small f spare frame b (p ∷ ps) ok all = go (closes_here b p) (bottom-small f spare frame b ps ok all.1)
    where
      go : (c : Bool) → piece_bottom frame (bottom_of b ps) < 2 ^ 60
          → piece_bottom frame (cond c (Some (place_of p)) (bottom_of b ps)) < 2 ^ 60
      go true rest = let a = place-small f spare frame p ok all.0 in omega arith
      go false rest = rest

  box-small : (b : ℕ) → ((box_of d b).x < 2 ^ 60) × ((box_of d b).w < 2 ^ 60)
  box-small b = go (cases_lt b (length d.boxes))
    where
      go : (b < length d.boxes) ⊎ (length d.boxes ≤ b) → ((box_of d b).x < 2 ^ 60) × ((box_of d b).w < 2 ^ 60)
      go (inl lt) = sound.boxes b no_box lt
      go (inr ge) = let P : BoxInfo → Type 0 = λ x. (x.x < 2 ^ 60) × (x.w < 2 ^ 60)
          in subst P (sym (get_or_past d.boxes b no_box ge)) (omega arith, omega arith)

  -- ---- atoms

  -- what is promised of the lines of stacks
  StacksSmall : (ℕ → ℕ → ℕ → ℕ → List TreeLine) → Type 0
  StacksSmall stacks = (s depth x y : ℕ) → s < length d.stacks → Stands d sound (stack_of d s).flow 1 x y
      → stack_height d s < 2 ^ 60 → Each EndsBelow (stacks s depth x y)

  row-height-total : (n r : ℕ) (available : Option ℕ) → row_height d r available ≤ total n r
  unfolding all_rows total
  row-height-total n r available =
      let a = row-height-le d r (height_held d (suc (length d.rows)) (row_of d r).flow)
      (reach-held d (length d.rows) (row_of d r).flow) available in
      let b = height-rises d (suc (length d.rows)) (n + suc (length d.rows)) (row_of d r).flow (omega arith) in
      omega arith

  size-total : (m : ℕ) → m ≤ length d.rows → (n r : ℕ) (q : Token) → (rows_to d m).size r q ≤ total n r
  unfolding total
  size-total m le n r q = let a = size-held d m r q
      in let b = height-rises d m (n + suc (length d.rows)) (row_of d r).flow (omega arith) in omega arith

  bounded-height : (s height : ℕ) → s < length d.stacks → (stack_of d s).bound ≡ Left height → height ≤ 2 ^ 24
      → stack_height d s < 2 ^ 60
  unfolding stack_height
  bounded-height s height known is le = go (s == 0)
    where
      own : own_height (stack_of d s).bound (stack_extent d (stack_of d s).bound (flow_of d (stack_of d s).flow)) < 2 ^ 60
      own = let P : Bound → Type 0 = λ b. own_height b (stack_extent d (stack_of d s).bound (flow_of d (stack_of d s).flow)) < 2 ^
          60 in subst P (sym is) (omega arith)

      go : (b : Bool) → cond b (stack_extent d (stack_of d s).bound (flow_of d (stack_of d s).flow))
          (own_height (stack_of d s).bound (stack_extent d (stack_of d s).bound (flow_of d (stack_of d s).flow))) < 2 ^ 60
      go true = stack-extent-small d sound s known
      go false = own

  module _ (stacks : ℕ → ℕ → ℕ → ℕ → List TreeLine) (small : StacksSmall stacks) where
    kind-small : (f spare depth k y height : ℕ) (frame : Frame) (kind : AtomKind) → IsFrame f spare frame → IsIn f (atom_at k y)
        → frame.x < 2 ^ 61 → frame.y + y < 2 ^ 60 →
        item_of (flow_of d f) k ≡ Atom height kind → k < length (flow_of d f).items → IsSoundAtom d height kind
        → Each EndsBelow (atom_lines stacks depth frame k y height kind)
    unfolding StacksSmall IsIn total
    kind-small f spare depth k y height frame Plain ok at x z is lt s = let h = s.height_limit in let w = ok.w
        in ((omega arith, omega arith), tt)
    kind-small f spare depth k y height frame (Line owner index l w) ok at x z is lt s = let h = s.height_limit
        in let a = s.x_limit in let b = s.w_limit in ((omega arith, omega arith), tt)
    kind-small f spare depth k y height frame (Void owner l w) ok at x z is lt s = let h = s.height_limit in let a = s.x_limit
        in let b = s.w_limit in ((omega arith, omega arith), tt)
    kind-small f spare depth k y height frame (Image owner l w) ok at x z is lt s = let h = s.height_limit in let a = s.x_limit
        in let b = s.w_limit in ((omega arith, omega arith), tt)
    kind-small f spare depth k y height frame (Bounded owner named l) ok at x z is lt s =
        let names : stack_in (item_of (flow_of d f) k) ≡ named ∷ [] = ap stack_in is in
        let fits : (n : ℕ) → y + height_held d n (stack_of d named).flow ≤ height_held d (suc (n + suc (length d.rows))) f = λ n.
        let a = at n in
        let b = whole-is d (flow_of d f) (total n) in
        let c = height-stack d (n + suc (length d.rows)) f k named lt names in
        let e = height-rises d n (n + suc (length d.rows)) (stack_of d named).flow (omega arith) in
        omega arith in
        let there = stack-stands d sound f spare frame.x frame.y k height owner named l y (suc (length d.rows)) ok.stands lt is
        fits in
        small named depth (frame.x + l) (frame.y + y) s.stack.0 there
        (bounded-height named height s.stack.0 s.stack.1 s.height_limit)

    atom-small : (f spare depth k y : ℕ) (frame : Frame) → IsFrame f spare frame → IsIn f (atom_at k y)
        → Each EndsBelow (item_lines stacks depth frame k y (item_of (flow_of d f) k))
    atom-small f spare depth k y frame ok at =
        go (cases_lt k (length (flow_of d f).items)) (x-small d sound f spare frame.x frame.y ok.stands)
        (place-small f spare frame (atom_at k y) ok at)
      where
        of-item : (item : Item) → frame.x < 2 ^ 61 → frame.y + y < 2 ^ 60 → item_of (flow_of d f) k ≡ item
            → k < length (flow_of d f).items → IsSoundItem d item → Each EndsBelow (item_lines stacks depth frame k y item)
        of-item (Atom height kind) x z is lt s = kind-small f spare depth k y height frame kind ok at x z is lt s
        of-item (Row r) x z is lt s = tt

        go : (k < length (flow_of d f).items) ⊎ (length (flow_of d f).items ≤ k) → frame.x < 2 ^ 61 → frame.y + y < 2 ^ 60
            → Each EndsBelow (item_lines stacks depth frame k y (item_of (flow_of d f) k))
        go (inl lt) x z = of-item (item_of (flow_of d f) k) x z refl lt ((sound.flows f no_flow ok.known).items k no_item lt)
        go (inr ge) x z =
            let P : Item → Type 0 = λ item. Each EndsBelow (item_lines stacks depth frame k y item) in
            let w = ok.w in
            subst P (sym (get_or_past (flow_of d f).items k no_item ge)) ((omega arith, omega arith), tt)

  -- ---- rows

  row-small : (r : ℕ) → r < length d.rows → ((row_of d r).x < 2 ^ 60) × (row_width (row_of d r) < 2 ^ 61)
      × ((row_of d r).w < 2 ^ 60)
  row-small r lt =
      let row = sound.rows r no_row lt in
      let limit = row.column_limit in
      let far = mul-le-mul {n₁ = (row_of d r).n - 1} {m₁ = (row_of d r).step} {n₂ = 32} {m₂ = 2 ^ 25} (omega arith)
      row.step_limit in
      let w = row.w_limit in
      (row.x_limit, omega arith, w)

  row-index : (f : ℕ) → f < length d.flows → (r : RowLaid) → IsRowOf (flow_of d f) r → r.row < length d.rows
  row-index f known r of = row-known d sound f of.item r.row known of.lt of.is

  -- what is promised of the lines of the columns of rows
  RowsSmall : (ℕ → ℕ → ℕ → ℕ → List TreeLine) → (RowLaid → List PlainTree) → Type 0
  RowsSmall stacks columns = (f spare depth y height : ℕ) (r : RowLaid) (frame : Frame) → IsFrame f spare frame
      → IsIn f (row_at r y) → height < 2 ^ 60
      → Each EndsBelow (lines_of_columns d stacks (row_of d r.row) depth frame y height 0 (plain_trees (columns r)))

  row-line : (f spare depth y : ℕ) (r : RowLaid) (frame : Frame) → IsFrame f spare frame → IsIn f (row_at r y) → (h : Option ℕ)
      → piece_height frame y h < 2 ^ 60 →
      (frame.x + (row_of d r.row).x + row_width (row_of d r.row) < 2 ^ 63) × (frame.y + y + piece_height frame y h < 2 ^ 63)
  unfolding IsIn
  row-line f spare depth y r frame ok at h small =
      let row = row-small r.row (row-index f ok.known r (at 0).2) in
      let a = row.0 in
      let b = row.1 in
      let x = x-small d sound f spare frame.x frame.y ok.stands in
      let z = place-small f spare frame (row_at r y) ok at in
      (omega arith, omega arith)

  laid-small : (f spare y : ℕ) (r : RowLaid) (frame : Frame) → IsFrame f spare frame → IsIn f (row_at r y)
      → piece_height frame y (cond r.filled None (Some r.height)) < 2 ^ 60
  unfolding IsIn
  laid-small f spare y r frame ok at = go r.filled
    where
      go : (b : Bool) → piece_height frame y (cond b None (Some r.height)) < 2 ^ 60
      go true = let h = ok.h in omega arith
      go false =
          let a = (at 0).0 in
          let b = (at 0).1 in
          let c = whole-held 0 f in
          let e = ok.stands.heights (suc (0 + suc (length d.rows))) in
          omega arith

  module _ (stacks : ℕ → ℕ → ℕ → ℕ → List TreeLine) (small : StacksSmall stacks) where
    trees-small : (columns : RowLaid → List PlainTree) → RowsSmall stacks columns
        → (n f spare depth : ℕ) (frame : Frame) (ps : List Placed) → IsFrame f spare frame → Each (IsIn f) ps →
        Each EndsBelow (lines_of_trees d stacks (flow_of d f) depth frame (plain_trees (trees_of columns n ps)))
    unfolding lines_of_trees lines_of_tree trees_of RowsSmall
    trees-small columns rows zero f spare depth frame ps ok all = tt
    trees-small columns rows (suc n) f spare depth frame [] ok all = tt
    trees-small columns rows (suc n) f spare depth frame (opens_at b y starts ∷ ps) ok all =
        let x = x-small d sound f spare frame.x frame.y ok.stands in
        let z = place-small f spare frame (opens_at b y starts) ok all.0 in
        let across = box-small b in
        let left = across.0 in
        let w = across.1 in
        let bottom = bottom-small f spare frame b ps ok all.1 in (
          (omega arith, omega arith),
          Each-append EndsBelow (lines_of_trees d stacks (flow_of d f) (depth + 1) (in_box frame (box_of d b).bottom)
              (plain_trees (trees_of columns n (inside_box b ps)))) _
              (trees-small columns rows n f spare (depth + 1) (in_box frame (box_of d b).bottom) (inside_box b ps)
              (boxed f spare frame (box_of d b).bottom ok) (inside-in f b ps all.1))
              (trees-small columns rows n f spare depth frame (behind_box b ps) ok (behind-in f b ps all.1)),
        )
    trees-small columns rows (suc n) f spare depth frame (closes_at b y ∷ ps) ok all =
        trees-small columns rows n f spare depth frame ps ok all.1
    trees-small columns rows (suc n) f spare depth frame (atom_at k y ∷ ps) ok all =
        Each-append EndsBelow (item_lines stacks depth frame k y (item_of (flow_of d f) k))
        (lines_of_trees d stacks (flow_of d f) depth frame (plain_trees (trees_of columns n ps)))
        (atom-small stacks small f spare depth k y frame ok all.0) (trees-small columns rows n f spare depth frame ps ok all.1)
    trees-small columns rows (suc n) f spare depth frame (row_at r y ∷ ps) ok all =
        let h = laid-small f spare y r frame ok all.0 in (
          row-line f spare depth y r frame ok all.0 (cond r.filled None (Some r.height)) h,
          Each-append EndsBelow (lines_of_columns d stacks (row_of d r.row) depth frame y
              (piece_height frame y (cond r.filled None (Some r.height))) 0 (plain_trees (columns r))) _
              (rows f spare depth y (piece_height frame y (cond r.filled None (Some r.height))) r frame ok all.0 h)
              (trees-small columns rows n f spare depth frame ps ok all.1),
        )

    -- ---- columns

    column-extent : (dep f : ℕ) (h : Option ℕ) (t : Token) → item_number t < length (flow_of d f).items
        → (column_made (rows_to d dep) d (flow_of d f) h t).extent ≤ height_held d (suc dep) f
    column-extent dep f None t lt =
        endless-reach (rows_to d dep) d (flow_of d f) (height_held d (suc dep) f) t lt (reach-held d dep f t)
    column-extent dep f (Some h) t lt =
        column-reach (rows_to d dep) d (flow_of d f) (height_held d (suc dep) f) t h lt (reach-held d dep f t)

    in-column : (dep f : ℕ) → dep ≤ length d.rows → (t : Token) (h : Option ℕ) →
        Each (IsIn f) (places_in d (flow_of d f) t
        (laid_start d (flow_of d f) t ++ laid_to (rows_to d dep) d (flow_of d f) t h
        (stop_of (rows_to d dep) d (flow_of d f) t h) (column_made (rows_to d dep) d (flow_of d f) h t).end))
    in-column dep f le t h = all-in f _ (λ n. column-placed d (flow_of d f) (total n) (rows_to d dep) (size-total dep le n) t h)

    -- flow of a row where column i of it stands
    column-stands : (f spare y height i extent : ℕ) (r : RowLaid) (frame : Frame) → IsFrame f spare frame → IsIn f (row_at r y)
        → height < 2 ^ 60 → extent < 2 ^ 60 → i < 2 ^ 17
        → IsFrame (row_of d r.row).flow 0 (column_frame frame (row_of d r.row) y height i extent)
    unfolding IsIn total
    column-stands f spare y height i extent r frame ok at low reach lt =
        let of = (at 0).2 in
        let known = row-index f ok.known r of in
        record {
          stands = row-stands d sound f spare frame.x frame.y of.item r.row i y (suc (length d.rows)) ok.stands of.lt of.is known
              lt (λ n.
              let a = (at n).1 in
              let b = whole-held n f in
              let e = height-rises d n (n + suc (length d.rows)) (row_of d r.row).flow (omega arith) in
              omega arith);
          known = (sound.rows r.row no_row known).flow;
          w = (row-small r.row known).2;
          h = low;
          extent = reach;
        }

    column-line : (f spare y height i extent : ℕ) (r : RowLaid) (frame : Frame)
        → IsFrame (row_of d r.row).flow 0 (column_frame frame (row_of d r.row) y height i extent) → height < 2 ^ 60 →
        (frame.x + (row_of d r.row).x + i * (row_of d r.row).step + (row_of d r.row).w < 2 ^ 63) × (frame.y + y + height < 2 ^ 63)
    column-line f spare y height i extent r frame here low =
        let x = x-small d sound (row_of d r.row).flow 0 (frame.x + (row_of d r.row).x + i * (row_of d r.row).step) (frame.y + y)
        here.stands in
        let w = here.w in
        let z = here.stands.heights 0 in
        (omega arith, omega arith)

    columns-small : (dep : ℕ) → dep ≤ length d.rows → RowsSmall stacks (row_fragments d dep)
        → (n f spare depth y height i : ℕ) (t : Token) (r : RowLaid) (frame : Frame) → IsFrame f spare frame → IsIn f (row_at r y)
        → height < 2 ^ 60 → i + n ≤ 2 ^ 17 →
        Each EndsBelow (lines_of_columns d stacks (row_of d r.row) depth frame y height i (plain_trees
        (fragments_from (fragment_of (row_fragments d dep) (rows_to d dep) d (row_of d r.row).flow (flow_in d r.row) r.made_at) t
        (columns_by (column_made (rows_to d dep) d (flow_in d r.row) r.made_at) (flow_in d r.row) n t))))
    unfolding columns_by lines_of_columns lines_of_column
    columns-small dep le rows zero f spare depth y height i t r frame ok at low few = tt
    columns-small dep le rows (suc n) f spare depth y height i t r frame ok at low few =
        go (is_end (flow_in d r.row) t) refl
        (λ q. columns-small dep le rows n f spare depth y height (i + 1) q r frame ok at low (omega arith))
      where
        laid_at : Token → List Placed
        laid_at t = places_in d (flow_in d r.row) t
            (laid_start d (flow_in d r.row) t ++ laid_to (rows_to d dep) d (flow_in d r.row) t r.made_at
            (stop_of (rows_to d dep) d (flow_in d r.row) t r.made_at)
            (column_made (rows_to d dep) d (flow_in d r.row) r.made_at t).end)

        made : Column
        made = column_made (rows_to d dep) d (flow_in d r.row) r.made_at t

        go : (b : Bool) → is_end (flow_in d r.row) t ≡ b →
            ((q : Token) → Each EndsBelow (lines_of_columns d stacks (row_of d r.row) depth frame y height (i + 1) (plain_trees
            (fragments_from (fragment_of (row_fragments d dep) (rows_to d dep) d (row_of d r.row).flow (flow_in d r.row)
            r.made_at) q (columns_by (column_made (rows_to d dep) d (flow_in d r.row) r.made_at) (flow_in d r.row) n
            q))))) →
            Each EndsBelow (lines_of_columns d stacks (row_of d r.row) depth frame y height i (plain_trees
            (fragments_from (fragment_of (row_fragments d dep) (rows_to d dep) d (row_of d r.row).flow (flow_in d r.row)
            r.made_at) t
            (elim b [
              | true ↦ []
              | false ↦ made ∷ columns_by (column_made (rows_to d dep) d (flow_in d r.row) r.made_at)
                  (flow_in d r.row) n made.end
            ]))))
        go true e more = tt
        go false e more =
            let inside : item_number t < length (flow_in d r.row).items = grind (arith, nat_tests) in
            let reach = column-extent dep (row_of d r.row).flow r.made_at t inside in
            let first = column-stands f spare y height i 0 r frame ok at low (omega arith) (omega arith) in
            let high = first.stands.heights (suc dep) in
            let here = column-stands f spare y height i made.extent r frame ok at low (omega arith) (omega arith) in (
              column-line f spare y height i made.extent r frame here low,
              Each-append EndsBelow (lines_of_trees d stacks (flow_in d r.row) (depth + 2)
                  (column_frame frame (row_of d r.row) y height i made.extent)
                  (plain_trees (all_trees (row_fragments d dep) (laid_at t)))) _
                  (trees-small (row_fragments d dep) rows (length (laid_at t)) (row_of d r.row).flow 0 (depth + 2)
                  (column_frame frame (row_of d r.row) y height i made.extent) (laid_at t) here
                  (in-column dep (row_of d r.row).flow le t r.made_at)) (more made.end),
            )

    -- how many columns a row has that is laid
    wanted-few : (dep f spare y : ℕ) (r : RowLaid) (frame : Frame) → IsFrame f spare frame → IsIn f (row_at r y)
        → columns_wanted (rows_to d dep) d r ≤ 2 ^ 17
    unfolding IsIn
    wanted-few dep f spare y r frame ok at = go r.filled
      where
        of : IsRowOf (flow_of d f) r
        of = (at 0).2

        known : r.row < length d.rows
        known = row-index f ok.known r of

        go : (b : Bool) → cond b (row_of d r.row).n (left_in (rows_to d dep) (flow_in d r.row) r.from) ≤ 2 ^ 17
        go true = let a = (sound.rows r.row no_row known).column_limit in omega arith
        go false =
            let a = left-held d sound dep r.row r.from known in
            let b = ok.stands.rows (suc dep) of.item r.row of.lt of.is in
            let c = ok.stands.items (suc (suc dep)) in
            omega arith

    rows-small : (dep : ℕ) → dep ≤ suc (length d.rows) → RowsSmall stacks (row_fragments d dep)
    unfolding row_fragments lines_of_columns RowsSmall
    rows-small zero le f spare depth y height r frame ok at low = tt
    rows-small (suc dep) le f spare depth y height r frame ok at low =
        let few = wanted-few dep f spare y r frame ok at in
        columns-small dep (omega arith) (rows-small dep (omega arith)) (columns_wanted (rows_to d dep) d r) f spare depth y height
        0 r.from r frame ok at low (omega arith)

  -- ---- stacks

  -- what stands in a stack, and where
  abbrev in_stack : ℕ → List Placed
  in_stack s =
      let f = flow_of d (stack_of d s).flow in
      let laid = laid_edges (strip_at (tops d f.opened) false) (seam_of f 0).head ++ stack_laid d (stack_of d s).bound f 0
      (length f.items) in
      continued_from d 0 f.opened ++ places_from (length laid + 1) (tops d f.opened) laid

  abbrev stack_frame : (s x y : ℕ) → Frame
  stack_frame s x y = record {
    x = x;
    y = y;
    w = (stack_of d s).w;
    h = stack_height d s;
    extent = stack_extent d (stack_of d s).bound (flow_of d (stack_of d s).flow);
    bottoms = 0;
  }

  stacks-small : (n : ℕ) → StacksSmall (lines_of_stack d n)
  unfolding lines_of_stack StacksSmall stack_fragment lines_of_tree
  stacks-small zero s depth x y known stands high = tt
  stacks-small (suc n) s depth x y known stands high =
      let g = (stack_of d s).flow in
      let stack = sound.stacks s known in
      let w = stack.w_limit in
      let across = x-small d sound g 1 x y stands in
      let down = stands.heights 0 in
      let reach = stack-extent-small d sound s known in
      let here : IsFrame g 1 (stack_frame s x y) =
      record { stands = stands; known = stack.flow; w = w; h = high; extent = reach } in (
        (omega arith, omega arith),
        trees-small (lines_of_stack d n) (stacks-small n) (row_fragments d (suc (length d.rows)))
            (rows-small (lines_of_stack d n) (stacks-small n) (suc (length d.rows)) (omega arith)) (length (in_stack s)) g 1
            (depth + 1) (stack_frame s x y) (in_stack s) here
            (all-in g (in_stack s) (λ n. stack-placed d (flow_of d g) (total n) (stack_of d s).bound (rows_to d 0)
            (row-height-total n))),
      )

  first-high : 0 < length d.stacks → stack_height d 0 < 2 ^ 60
  unfolding stack_height
  first-high some = stack-extent-small d sound 0 some

pub rectangles-bounded : (d : FlowsData) → IsSound d → RectanglesAreBounded d
unfolding tree_of StacksSmall
rectangles-bounded d sound = record {
  lines_end_below = All-from_recursion EndsBelow (lines_of_stack d (length d.stacks) 0 0 0 0)
      (stacks-small d sound (length d.stacks) 0 0 0 0 sound.some_stack (first-stands d sound sound.some_stack)
      (first-high d sound sound.some_stack));
  stacks_are_small = stack-extent-small d sound;
}
