-- The lines of settled trees end below 2^63: by where flows stand one in another.
use Rattle.std.proofs.Common.{◌≡◌, ℕ, suc, ◌+◌, ◌-◌, ◌*◌, ◌<◌, ◌≤◌, ◌^◌, ◌==◌, Bool, true, false, cond, List, [], ◌∷◌}
use Rattle.std.proofs.Common.{length, Option, Some, None, refl, sym, subst, ap, arith}
use Rattle.std.specs.List.{AllByRecursion as Each}
use Rattle.std.proofs.Math.Nat.{mul-le-mul}
use Rattle.mc_base.specs.PlainTree.{PlainTree, PlainTrees, atom as atom_tree, piece, row_piece, column as column_tree, no_trees}
use Rattle.mc_base.specs.PlainTree.{more_trees}
use Rattle.flow_list.specs.Data.{AtomKind, Bound, FlowsData, Item, Plain, Line, Void, Image, Bounded, Left, Atom, Row}
use Rattle.flow_data.specs.Flows.{box_of, row_of, stack_of, flow_of, item_of, no_box, no_item, no_row, no_flow}
use Rattle.flow_data.specs.Soundness.{IsSound, IsSoundAtom, IsSoundItem, stack_in}
use Rattle.flow_list.specs.Stacks.{stack_extent, stack_height, own_height}
use Rattle.flow_list.specs.Tree.{TreeLine, Frame, row_width, in_box, piece_bottom, piece_height, atom_lines, item_lines}
use Rattle.flow_list.specs.Tree.{column_frame, lines_of_tree, lines_of_trees, lines_of_columns, lines_of_column}
use Rattle.flow_list.proofs.PlaceBounds.{Each-append}
use Rattle.flow_laws.specs.Rectangles.{EndsBelow}
use Rattle.flow_laws.proofs.Descent.{Stands, x-small, row-stands, stack-stands}
use Rattle.flow_laws.proofs.HeldSums.{height_held, height-more, height-stack, height-rises}
use Rattle.flow_laws.proofs.PlacedSums.{whole, whole-is}
use Rattle.flow_laws.proofs.StackSums.{stack-extent-small}
use Rattle.lowered_laws.proofs.Settled.{count_of, total, IsWithin, BottomIsWithin, RowIsWithin, HeightIsSmall, AreFew}
use Rattle.lowered_laws.proofs.Settled.{IsSettled, AreSettled, AreColumns, IsColumn}

module _ (d : FlowsData) (sound : IsSound d) where
  whole-held : (n f : ℕ) → whole d (flow_of d f) (total d n) ≤ height_held d (suc (n + suc (length d.rows))) f
  whole-held n f =
      let a = whole-is d (flow_of d f) (total d n) in let b = height-more d (n + suc (length d.rows)) f in omega arith

  -- ---- a column where things stand

  pub record IsFrame (f spare : ℕ) (frame : Frame) : Type 0 where
    pub stands : Stands d sound f spare frame.x frame.y
    pub known : f < length d.flows
    pub w : frame.w < 2 ^ 60
    pub h : frame.h < 2 ^ 60
    pub extent : frame.extent < 2 ^ 60

  boxed : (f spare : ℕ) (frame : Frame) (b : ℕ) → IsFrame f spare frame → IsFrame f spare (in_box frame b)
  boxed f spare frame b ok = record { stands = ok.stands; known = ok.known; w = ok.w; h = ok.h; extent = ok.extent }

  place-small : (f spare y : ℕ) (frame : Frame) → IsFrame f spare frame → IsWithin d f y → frame.y + y < 2 ^ 60
  place-small f spare y frame ok within =
      let a = ok.stands.heights (suc (0 + suc (length d.rows))) in
      let b = whole-held 0 f in
      let c = within 0 in
      omega arith

  bottom-small : (f spare : ℕ) (frame : Frame) (bottom : Option ℕ) → IsFrame f spare frame → BottomIsWithin d f bottom
      → piece_bottom frame bottom < 2 ^ 60
  bottom-small f spare frame None ok within = let a = ok.h in let b = ok.extent in omega arith
  bottom-small f spare frame (Some bottom) ok within = let a = place-small f spare bottom frame ok within in omega arith

  -- ---- atoms

  -- what is promised of the lines of stacks
  unfoldable pub StacksSmall : (ℕ → ℕ → ℕ → ℕ → List TreeLine) → Type 0
  StacksSmall stacks = (s depth x y : ℕ) → s < length d.stacks → Stands d sound (stack_of d s).flow 1 x y
      → stack_height d s < 2 ^ 60 → Each EndsBelow (stacks s depth x y)

  bounded-height : (s height : ℕ) → s < length d.stacks → (stack_of d s).bound ≡ Left height → height ≤ 2 ^ 24
      → stack_height d s < 2 ^ 60
  unfolding stack_height
  bounded-height s height known is le = go (s == 0)
    where
      own : own_height (stack_of d s).bound (stack_extent d (stack_of d s).bound (flow_of d (stack_of d s).flow)) < 2 ^ 60
      own = let P : Bound → Type 0 = λ b. own_height b
          (stack_extent d (stack_of d s).bound (flow_of d (stack_of d s).flow)) < 2 ^ 60 in
          subst P (sym is) (omega arith)

      go : (b : Bool) → cond b (stack_extent d (stack_of d s).bound (flow_of d (stack_of d s).flow))
          (own_height (stack_of d s).bound (stack_extent d (stack_of d s).bound (flow_of d (stack_of d s).flow))) < 2 ^ 60
      go true = stack-extent-small d sound s known
      go false = own

  module _ (stacks : ℕ → ℕ → ℕ → ℕ → List TreeLine) (small : StacksSmall stacks) where
    kind-small : (f spare depth k y height : ℕ) (frame : Frame) (kind : AtomKind) → IsFrame f spare frame → IsWithin d f y
        → frame.x < 2 ^ 61 → frame.y + y < 2 ^ 60 →
        item_of (flow_of d f) k ≡ Atom height kind → k < length (flow_of d f).items → IsSoundAtom d height kind
        → Each EndsBelow (atom_lines stacks depth frame k y height kind)
    unfolding StacksSmall
    kind-small f spare depth k y height frame Plain ok at x z is lt s = let h = s.height_limit in let w = ok.w
        in ((omega arith, omega arith), tt)
    kind-small f spare depth k y height frame (Line owner index l w) ok at x z is lt s = let h = s.height_limit
        in let a = s.x_limit in let b = s.w_limit in ((omega arith, omega arith), tt)
    kind-small f spare depth k y height frame (Void owner l w) ok at x z is lt s = let h = s.height_limit in let a = s.x_limit
        in let b = s.w_limit in ((omega arith, omega arith), tt)
    kind-small f spare depth k y height frame (Image owner l w) ok at x z is lt s = let h = s.height_limit in let a = s.x_limit
        in let b = s.w_limit in ((omega arith, omega arith), tt)
    kind-small f spare depth k y height frame (Bounded owner named l) ok at x z is lt s =
        let names : stack_in (item_of (flow_of d f) k) ≡ named ∷ [] = ap stack_in is in
        let fits : (n : ℕ) → y + height_held d n (stack_of d named).flow ≤ height_held d (suc (n + suc (length d.rows))) f = λ n.
        let a = at n in
        let b = whole-is d (flow_of d f) (total d n) in
        let c = height-stack d (n + suc (length d.rows)) f k named lt names in
        let e = height-rises d n (n + suc (length d.rows)) (stack_of d named).flow (omega arith) in
        omega arith in
        let there = stack-stands d sound f spare frame.x frame.y k height owner named l y (suc (length d.rows)) ok.stands lt is
        fits in
        small named depth (frame.x + l) (frame.y + y) s.stack.0 there
        (bounded-height named height s.stack.0 s.stack.1 s.height_limit)

    atom-small : (f spare depth k y : ℕ) (frame : Frame) → IsFrame f spare frame → k < length (flow_of d f).items → IsWithin d f y
        → Each EndsBelow (item_lines stacks depth frame k y (item_of (flow_of d f) k))
    atom-small f spare depth k y frame ok lt at =
        of-item (item_of (flow_of d f) k) (x-small d sound f spare frame.x frame.y ok.stands)
        (place-small f spare y frame ok at) refl ((sound.flows f no_flow ok.known).items k no_item lt)
      where
        of-item : (item : Item) → frame.x < 2 ^ 61 → frame.y + y < 2 ^ 60 → item_of (flow_of d f) k ≡ item
            → IsSoundItem d item → Each EndsBelow (item_lines stacks depth frame k y item)
        of-item (Atom height kind) x z is s = kind-small f spare depth k y height frame kind ok at x z is lt s
        of-item (Row r) x z is s = tt

    -- ---- rows

    row-small : (r : ℕ) → r < length d.rows → ((row_of d r).x < 2 ^ 60) × (row_width (row_of d r) < 2 ^ 61)
        × ((row_of d r).w < 2 ^ 60)
    row-small r lt =
        let row = sound.rows r no_row lt in
        let limit = row.column_limit in
        let far = mul-le-mul {n₁ = (row_of d r).n - 1} {m₁ = (row_of d r).step} {n₂ = 32} {m₂ = 2 ^ 25} (omega arith)
        row.step_limit in
        let w = row.w_limit in
        (row.x_limit, omega arith, w)

    piece-small : (f spare r y : ℕ) (frame : Frame) (height : Option ℕ) → IsFrame f spare frame → RowIsWithin d f r y
        → HeightIsSmall d r height → piece_height frame y height < 2 ^ 60
    piece-small f spare r y frame None ok within low = let h = ok.h in omega arith
    piece-small f spare r y frame (Some height) ok within low =
        let a = within.low 0 in
        let b = whole-held 0 f in
        let c = ok.stands.heights (suc (0 + suc (length d.rows))) in
        omega arith

    row-line : (f spare r y height : ℕ) (frame : Frame) → IsFrame f spare frame → r < length d.rows → RowIsWithin d f r y
        → height < 2 ^ 60 →
        (frame.x + (row_of d r).x + row_width (row_of d r) < 2 ^ 63) × (frame.y + y + height < 2 ^ 63)
    row-line f spare r y height frame ok known within low =
        let row = row-small r known in
        let a = row.0 in
        let b = row.1 in
        let x = x-small d sound f spare frame.x frame.y ok.stands in
        let z = place-small f spare y frame ok (λ n. let c = within.low n in omega arith) in
        (omega arith, omega arith)

    -- the flow of a row where column i of it stands
    column-stands : (f spare r y height i extent : ℕ) (frame : Frame) → IsFrame f spare frame → r < length d.rows
        → RowIsWithin d f r y → height < 2 ^ 60 → extent < 2 ^ 60 → i < 2 ^ 17
        → IsFrame (row_of d r).flow 0 (column_frame frame (row_of d r) y height i extent)
    column-stands f spare r y height i extent frame ok known within low reach lt = record {
      stands = row-stands d sound f spare frame.x frame.y within.item r i y (suc (length d.rows)) ok.stands within.lt within.is
          known lt (λ n.
          let a = within.low n in
          let b = whole-held n f in
          let e = height-rises d n (n + suc (length d.rows)) (row_of d r).flow (omega arith) in
          omega arith);
      known = (sound.rows r no_row known).flow;
      w = (row-small r known).2;
      h = low;
      extent = reach;
    }

    column-line : (r y height i extent : ℕ) (frame : Frame)
        → IsFrame (row_of d r).flow 0 (column_frame frame (row_of d r) y height i extent) → height < 2 ^ 60 →
        (frame.x + (row_of d r).x + i * (row_of d r).step + (row_of d r).w < 2 ^ 63) × (frame.y + y + height < 2 ^ 63)
    column-line r y height i extent frame here low =
        let x = x-small d sound (row_of d r).flow 0 (frame.x + (row_of d r).x + i * (row_of d r).step) (frame.y + y)
        here.stands in
        let w = here.w in
        let z = here.stands.heights 0 in
        (omega arith, omega arith)

    -- columns of a row that stands in a flow are not too many
    few-small : (f spare r y count : ℕ) (frame : Frame) → IsFrame f spare frame → RowIsWithin d f r y → AreFew d r count
        → count ≤ 2 ^ 17
    few-small f spare r y count frame ok within few =
        let a = few.le in
        let b = ok.stands.rows few.deep within.item r within.lt within.is in
        let c = ok.stands.items (suc few.deep) in
        omega arith

    -- ---- trees

    mutual
      unfolding lines_of_tree lines_of_trees lines_of_columns lines_of_column IsSettled AreSettled AreColumns IsColumn

      pub tree-small : (f spare depth : ℕ) (frame : Frame) (tree : PlainTree) → IsFrame f spare frame → IsSettled d f tree
          → Each EndsBelow (lines_of_tree d stacks (flow_of d f) depth frame tree)
      tree-small f spare depth frame (atom_tree k y) ok at = atom-small f spare depth k y frame ok at.1 at.3
      tree-small f spare depth frame (piece b starts y bottom kids) ok at =
          let x = x-small d sound f spare frame.x frame.y ok.stands in
          let z = place-small f spare y frame ok at.1 in
          let across = sound.boxes b no_box at.0 in
          let left = across.0 in
          let w = across.1 in
          let low = bottom-small f spare frame bottom ok at.2 in (
            (omega arith, omega arith),
            trees-small f spare (depth + 1) (in_box frame (box_of d b).bottom) kids
                (boxed f spare frame (box_of d b).bottom ok) at.3,
          )
      tree-small f spare depth frame (row_piece r from y height cols) ok at =
          let tall = piece_height frame y height in
          let low = piece-small f spare r y frame height ok at.1 at.2 in
          let few = few-small f spare r y (count_of cols) frame ok at.1 at.3 in (
            row-line f spare r y tall frame ok at.0 at.1 low,
            columns-small f spare depth r y tall 0 frame cols ok at.0 at.1 low (omega arith) at.4,
          )
      tree-small f spare depth frame (column_tree number from end extent kids) ok at =
          trees-small number spare depth frame kids (subst (λ g. IsFrame g spare frame) (sym at.0) ok) at.2

      trees-small : (f spare depth : ℕ) (frame : Frame) (trees : PlainTrees) → IsFrame f spare frame → AreSettled d f trees
          → Each EndsBelow (lines_of_trees d stacks (flow_of d f) depth frame trees)
      trees-small f spare depth frame no_trees ok at = tt
      trees-small f spare depth frame (more_trees tree trees) ok at =
          Each-append EndsBelow (lines_of_tree d stacks (flow_of d f) depth frame tree)
          (lines_of_trees d stacks (flow_of d f) depth frame trees) (tree-small f spare depth frame tree ok at.0)
          (trees-small f spare depth frame trees ok at.1)

      columns-small : (f spare depth r y height i : ℕ) (frame : Frame) (trees : PlainTrees) → IsFrame f spare frame
          → r < length d.rows → RowIsWithin d f r y → height < 2 ^ 60 → i + count_of trees ≤ 2 ^ 17 → AreColumns d r trees
          → Each EndsBelow (lines_of_columns d stacks (row_of d r) depth frame y height i trees)
      columns-small f spare depth r y height i frame no_trees ok known within low few at = tt
      columns-small f spare depth r y height i frame (more_trees tree trees) ok known within low few at =
          Each-append EndsBelow (lines_of_column d stacks (row_of d r) depth frame y height i tree)
          (lines_of_columns d stacks (row_of d r) depth frame y height (i + 1) trees)
          (column-small f spare depth r y height i frame tree ok known within low (omega arith) at.0)
          (columns-small f spare depth r y height (i + 1) frame trees ok known within low (omega arith) at.1)

      column-small : (f spare depth r y height i : ℕ) (frame : Frame) (tree : PlainTree) → IsFrame f spare frame
          → r < length d.rows → RowIsWithin d f r y → height < 2 ^ 60 → i < 2 ^ 17 → IsColumn d r tree
          → Each EndsBelow (lines_of_column d stacks (row_of d r) depth frame y height i tree)
      column-small f spare depth r y height i frame (atom_tree k z) ok known within low lt at = absurd at
      column-small f spare depth r y height i frame (piece b starts z bottom kids) ok known within low lt at = absurd at
      column-small f spare depth r y height i frame (row_piece s from z own cols) ok known within low lt at = absurd at
      column-small f spare depth r y height i frame (column_tree number from end extent kids) ok known within low lt at =
          let here = column-stands f spare r y height i extent frame ok known within low at.1 lt in (
            column-line r y height i extent frame here low,
            trees-small number 0 (depth + 2) (column_frame frame (row_of d r) y height i extent) kids
                (subst (λ g. IsFrame g 0 (column_frame frame (row_of d r) y height i extent)) (sym at.0) here) at.2,
          )
