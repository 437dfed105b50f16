-- What the node of an id says of its lines: what may be written, and which lines they are.
use Rattle.std.proofs.Common.{◌≡◌, ℕ, ◌+◌, ◌-◌, ◌<◌, Bool, List, ◌∷◌, Option, Some, None, All, refl}
use Rattle.std.proofs.Common.{sym, ap, subst}
use Rattle.std.proofs.Common.{arith, length, is_some}
use Rattle.std.proofs.lemmas.List.Elements.{All-head, All-tail}
use Rattle.mc_base.specs.PlainTree.{atom, piece, row_piece}
use Rattle.mc_base.specs.declared.fragment.FragId.{FragId}
use Rattle.mc_base.specs.declared.fragment.Node.TheVariants.{Atom, Piece, RowPiece, Column as ColumnNode}
use Rattle.flow_list.specs.Data.{FlowsData, RowInfo}
use Rattle.flow_data.specs.Flows.{box_of, row_of, flow_of, item_of}
use Rattle.flow_list.specs.declared.laid.Laid.{Laid}
use Rattle.flow_list.specs.Tree.{TreeLine, Frame, box, row, row_width, in_box, piece_bottom, piece_height, item_lines}
use Rattle.flow_list.specs.Tree.{lines_of_tree}
use Rattle.frag_pool.specs.Nodes.{Nodes, node_of}
use Rattle.tree_lines.specs.declared.place.Place.{Place}
use Rattle.tree_lines.specs.declared.place.RowPlace.{RowPlace}
use Rattle.tree_lines.specs.Standing.{IsAt, bottom_at}
use Rattle.tree_lines.specs.Shown.{given_lines, Fits, IsInside, ItemFits, Tree, TreeFits, tree_lines, Trees}
use Rattle.tree_lines.specs.Shown.{TreesFit}
use Rattle.tree_lines.specs.Shown.{trees_lines, Columns, ColumnsFit, columns_lines}
use Rattle.tree_lines.proofs.AtNodes.{at-atom, at-piece, at-row, at-column}

-- the place inside a box, and that of a piece of a row
abbrev pub place_in : Place → ℕ → Place
place_in at bottom = record at { depth = at.depth + 1; room = at.room - bottom; reach = at.reach - bottom }

abbrev pub row_at : Place → RowInfo → (y height : ℕ) → RowPlace
row_at at info y height = record {
  depth = at.depth;
  x = at.x + info.x;
  y = at.y + y;
  w = info.w;
  step = info.step;
  height = height;
}

in-box : (frame : Frame) (at : Place) (b : ℕ) → IsAt frame at → IsAt (in_box frame b) (place_in at b)
in-box frame at b is = record {
  x = is.x;
  y = is.y;
  w = is.w;
  room = let r = is.room in omega (arith, r);
  reach = let r = is.reach in omega (arith, r);
}

ends-at : (frame : Frame) (at : Place) (b : Option ℕ) → IsAt frame at → piece_bottom frame b ≡ bottom_at at.reach b
ends-at frame at None is = sym is.reach
ends-at frame at (Some b) is = refl

tall-at : (frame : Frame) (at : Place) (y : ℕ) (h : Option ℕ) → IsAt frame at → piece_height frame y h ≡ bottom_at (at.room - y) h
tall-at frame at y None is = let r = is.room in omega (arith, r)
tall-at frame at y (Some h) is = refl

-- the line of a piece of a box, and of a piece of a row
abbrev pub box_line : FlowsData → Place → (o : ℕ) → Bool → (y : ℕ) → Option ℕ → TreeLine
box_line d at o st y b = record {
  depth = at.depth;
  kind = box o st (is_some b);
  x = at.x + (box_of d o).x;
  y = at.y + y;
  w = (box_of d o).w;
  h = bottom_at at.reach b - y;
}

abbrev pub row_line : FlowsData → Place → (r : ℕ) → (from : List ℕ) → (y : ℕ) → Option ℕ → TreeLine
row_line d at r from y h = record {
  depth = at.depth;
  kind = row r from;
  x = at.x + (row_of d r).x;
  y = at.y + y;
  w = row_width (row_of d r);
  h = bottom_at (at.room - y) h;
}

module _ (d : FlowsData) (laid : Laid) (p : Nodes) (n : ℕ) (at : Place) (id : FragId) where
  -- ---- atoms

  pub atom-shows : (t : Tree d laid p at id) (k y : ℕ) → node_of p id ≡ Some (Atom k y) →
      tree_lines n t ≡ item_lines (given_lines t.given n) at.depth t.frame k y (item_of (flow_of d at.flow) k)
  unfolding lines_of_tree
  atom-shows t k y is =
      ap (λ tree. lines_of_tree d (given_lines t.given n) (flow_of d at.flow) at.depth t.frame tree) (at-atom p id t.tree k
      y is t.stands)

  pub atom-inside : (k y : ℕ) → node_of p id ≡ Some (Atom k y) → (f : TreeFits d laid p n at id) → IsInside d at.flow (atom k y)
  atom-inside k y is f = subst (λ tree. IsInside d at.flow tree) (at-atom p id f.is.tree k y is f.is.stands) f.inside

  pub atom-flow : (k y : ℕ) → node_of p id ≡ Some (Atom k y) → TreeFits d laid p n at id → at.flow < length d.flows
  unfolding IsInside
  atom-flow k y is f = (atom-inside k y is f).0

  pub atom-item : (k y : ℕ) → node_of p id ≡ Some (Atom k y) → TreeFits d laid p n at id → k < length (flow_of d at.flow).items
  unfolding IsInside
  atom-item k y is f = (atom-inside k y is f).1

  pub atom-fits : (k y : ℕ) → node_of p id ≡ Some (Atom k y) → TreeFits d laid p n at id →
      ItemFits d laid p n at k y (item_of (flow_of d at.flow) k)
  unfolding IsInside
  atom-fits k y is f = record {
    given = f.is.given;
    frame = f.is.frame;
    at_frame = f.is.at_frame;
    inside = (atom-inside k y is f).2;
    fits = subst (λ lines. All Fits lines) (atom-shows f.is k y is) f.fits;
  }

  -- ---- pieces of boxes

  module _ (o : ℕ) (st : Bool) (y : ℕ) (b : Option ℕ) (ids : List FragId) (is : node_of p id ≡ Some (Piece o st y b ids)) where
    pub piece-kids : Tree d laid p at id → Trees d laid p (place_in at (box_of d o).bottom) ids
    piece-kids t = record {
      given = t.given;
      frame = in_box t.frame (box_of d o).bottom;
      trees = (at-piece p id t.tree o st y b ids is t.stands).0;
      at_frame = in-box t.frame at (box_of d o).bottom t.at_frame;
      stand = (at-piece p id t.tree o st y b ids is t.stands).2;
    }

    pub piece-shows : (t : Tree d laid p at id) → tree_lines n t ≡ box_line d at o st y b ∷ trees_lines n (piece-kids t)
    unfolding lines_of_tree piece-kids
    piece-shows t =
        let s = t.at_frame in
        let e : tree_lines n t ≡ lines_of_tree d (given_lines t.given n) (flow_of d at.flow) at.depth t.frame
        (piece o st y b (at-piece p id t.tree o st y b ids is t.stands).0) =
        ap (λ tree. lines_of_tree d (given_lines t.given n) (flow_of d at.flow) at.depth t.frame tree)
        (at-piece p id t.tree o st y b ids is t.stands).1 in
        rw e (rw (ends-at t.frame at b s, ← s.x, ← s.y) refl)

    pub piece-box : TreeFits d laid p n at id → o < length d.boxes
    unfolding IsInside
    piece-box f = (subst (λ tree. IsInside d at.flow tree) (at-piece p id f.is.tree o st y b ids is f.is.stands).1 f.inside).0

    piece-all : (f : TreeFits d laid p n at id) → All Fits (box_line d at o st y b ∷ trees_lines n (piece-kids f.is))
    piece-all f = subst (λ lines. All Fits lines) (piece-shows f.is) f.fits

    pub piece-line : TreeFits d laid p n at id → Fits (box_line d at o st y b)
    piece-line f = All-head Fits (box_line d at o st y b) (trees_lines n (piece-kids f.is)) (piece-all f)

    pub piece-kids-fit : TreeFits d laid p n at id → TreesFit d laid p n (place_in at (box_of d o).bottom) ids
    unfolding IsInside piece-kids
    piece-kids-fit f = record {
      are = piece-kids f.is;
      inside = (subst (λ tree. IsInside d at.flow tree) (at-piece p id f.is.tree o st y b ids is f.is.stands).1 f.inside).1;
      fit = All-tail Fits (box_line d at o st y b) (trees_lines n (piece-kids f.is)) (piece-all f);
    }

  -- ---- pieces of rows

  module _ (r : ℕ) (from : List ℕ) (y : ℕ) (h : Option ℕ) (ids : List FragId) (is : node_of p id ≡ Some (RowPiece r from y
      h ids)) where
    pub row-columns : Tree d laid p at id → Columns d laid p (row_at at (row_of d r) y (bottom_at (at.room - y) h)) ids
    row-columns t = record {
      given = t.given;
      frame = t.frame;
      row = row_of d r;
      y = y;
      height = piece_height t.frame y h;
      trees = (at-row p id t.tree r from y h ids is t.stands).0;
      at_frame = record {
        x = ap (λ x. x + (row_of d r).x) t.at_frame.x;
        y = ap (λ z. z + y) t.at_frame.y;
        w = refl;
        step = refl;
        height = sym (tall-at t.frame at y h t.at_frame);
      };
      stand = (at-row p id t.tree r from y h ids is t.stands).2;
    }

    pub row-shows : (t : Tree d laid p at id) → tree_lines n t ≡ row_line d at r from y h ∷ columns_lines n 0 (row-columns t)
    unfolding lines_of_tree row-columns
    row-shows t =
        let s = t.at_frame in
        let e : tree_lines n t ≡ lines_of_tree d (given_lines t.given n) (flow_of d at.flow) at.depth t.frame
        (row_piece r from y h (at-row p id t.tree r from y h ids is t.stands).0) =
        ap (λ tree. lines_of_tree d (given_lines t.given n) (flow_of d at.flow) at.depth t.frame tree)
        (at-row p id t.tree r from y h ids is t.stands).1 in
        let line : ◌≡◌ {A = TreeLine} (record {
          depth = at.depth;
          kind = row r from;
          x = t.frame.x + (row_of d r).x;
          y = t.frame.y + y;
          w = row_width (row_of d r);
          h = piece_height t.frame y h;
        }) (row_line d at r from y h) = rw (tall-at t.frame at y h s, ← s.x, ← s.y) refl in
        rw (e, line) refl

    row-all : (f : TreeFits d laid p n at id) → All Fits (row_line d at r from y h ∷ columns_lines n 0 (row-columns f.is))
    row-all f = subst (λ lines. All Fits lines) (row-shows f.is) f.fits

    pub row-row : TreeFits d laid p n at id → r < length d.rows
    unfolding IsInside
    row-row f = (subst (λ tree. IsInside d at.flow tree) (at-row p id f.is.tree r from y h ids is f.is.stands).1 f.inside).0

    pub row-line : TreeFits d laid p n at id → Fits (row_line d at r from y h)
    row-line f = All-head Fits (row_line d at r from y h) (columns_lines n 0 (row-columns f.is)) (row-all f)

    pub row-columns-fit : TreeFits d laid p n at id →
        ColumnsFit d laid p n (row_at at (row_of d r) y (bottom_at (at.room - y) h)) 0 ids
    unfolding IsInside row-columns
    row-columns-fit f = record {
      are = row-columns f.is;
      flow = at.flow;
      inside = (subst (λ tree. IsInside d at.flow tree) (at-row p id f.is.tree r from y h ids is f.is.stands).1 f.inside).1;
      fit = All-tail Fits (row_line d at r from y h) (columns_lines n 0 (row-columns f.is)) (row-all f);
    }

  -- ---- columns in stacks

  module _ (g : ℕ) (from e : List ℕ) (x : ℕ) (ids : List FragId) (is : node_of p id ≡ Some (ColumnNode g from e x ids)) where
    pub column-kids : Tree d laid p at id → Trees d laid p (record at { flow = g }) ids
    column-kids t = record {
      given = t.given;
      frame = t.frame;
      trees = (at-column p id t.tree g from e x ids is t.stands).0;
      at_frame = record {
        x = t.at_frame.x;
        y = t.at_frame.y;
        w = t.at_frame.w;
        room = t.at_frame.room;
        reach =
            t.at_frame.reach;
      };
      stand = (at-column p id t.tree g from e x ids is t.stands).2;
    }

    pub column-shows : (t : Tree d laid p at id) → tree_lines n t ≡ trees_lines n (column-kids t)
    unfolding lines_of_tree column-kids
    column-shows t =
        ap (λ tree. lines_of_tree d (given_lines t.given n) (flow_of d at.flow) at.depth t.frame tree)
        (at-column p id t.tree g from e x ids is t.stands).1

    pub column-kids-fit : TreeFits d laid p n at id → TreesFit d laid p n (record at { flow = g }) ids
    unfolding IsInside column-kids
    column-kids-fit f = record {
      are = column-kids f.is;
      inside = subst (λ tree. IsInside d at.flow tree) (at-column p id f.is.tree g from e x ids is f.is.stands).1 f.inside;
      fit = subst (λ lines. All Fits lines) (column-shows f.is) f.fits;
    }
