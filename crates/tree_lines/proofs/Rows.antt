-- A column of a piece of a row: what may be written, and which lines it has.
use Rattle.std.proofs.Common.{◌≡◌, ℕ, ◌+◌, ◌*◌, max, List, [], ◌∷◌, All, refl, ap, subst, arith, Some}
use Rattle.std.proofs.lemmas.List.Elements.{All-head, All-tail}
use Rattle.mc_base.specs.PlainTree.{column}
use Rattle.mc_base.specs.declared.fragment.FragId.{FragId}
use Rattle.mc_base.specs.declared.fragment.Node.{Node}
use Rattle.mc_base.specs.declared.fragment.Node.TheVariants.{Atom, Piece, RowPiece, Column as ColumnNode}
use Rattle.flow_list.specs.Data.{FlowsData}
use Rattle.flow_list.specs.declared.laid.Laid.{Laid}
use Rattle.flow_list.specs.Tree.{TreeLine, col, column_frame}
use Rattle.flow_list.specs.Tree.{lines_of_tree, lines_of_column}
use Rattle.frag_pool.specs.Nodes.{Nodes, node_of}
use Rattle.tree_lines.specs.declared.place.Place.{Place}
use Rattle.tree_lines.specs.declared.place.RowPlace.{RowPlace}
use Rattle.tree_lines.specs.Shown.{given_lines, Fits, IsInside, Trees, TreesFit, trees_lines}
use Rattle.tree_lines.specs.Shown.{Column, ColumnFits, column_lines}
use Rattle.tree_lines.proofs.AtNodes.{at-atom, at-piece, at-row, at-column}

-- the place in column i of a piece of a row
abbrev pub column_at : RowPlace → (i f x : ℕ) → Place
column_at at i f x = record {
  flow = f;
  depth = at.depth + 2;
  x = at.x + i * at.step;
  y = at.y;
  w = at.w;
  room = at.height;
  reach = max at.height x;
}

abbrev pub column_line : RowPlace → (i : ℕ) → TreeLine
column_line at i = record { depth = at.depth + 1; kind = col i; x = at.x + i * at.step; y = at.y; w = at.w; h = at.height }

module _ (d : FlowsData) (laid : Laid) (p : Nodes) (n : ℕ) (at : RowPlace) (i : ℕ) (id : FragId) where
  pub column-none : (node : Node) → node_of p id ≡ Some node →
      ((f : ℕ) (from e : List ℕ) (x : ℕ) (ids : List FragId) → node ≡ ColumnNode f from e x ids → ⊥) →
      (t : Column d laid p at id) → column_lines n i t ≡ []
  unfolding lines_of_tree
  column-none (Atom k y) is never t =
      ap (λ tree. lines_of_column d (given_lines t.given n) t.row at.depth t.frame t.y t.height i tree) (at-atom p id
      t.tree k y is t.stands)
  column-none (Piece o st y b ids) is never t =
      ap (λ tree. lines_of_column d (given_lines t.given n) t.row at.depth t.frame t.y t.height i tree)
      (at-piece p id t.tree o st y b ids is t.stands).1
  column-none (RowPiece r from y h ids) is never t =
      ap (λ tree. lines_of_column d (given_lines t.given n) t.row at.depth t.frame t.y t.height i tree)
      (at-row p id t.tree r from y h ids is t.stands).1
  column-none (ColumnNode f from e x ids) is never t = absurd (never f from e x ids refl)

  module _ (g : ℕ) (from e : List ℕ) (x : ℕ) (ids : List FragId) (is : node_of p id ≡ Some (ColumnNode g from e x ids)) where
    pub column-kids : Column d laid p at id → Trees d laid p (column_at at i g x) ids
    column-kids t = record {
      given = t.given;
      frame = column_frame t.frame t.row t.y t.height i x;
      trees = (at-column p id t.tree g from e x ids is t.stands).0;
      at_frame = record {
        x = let a = t.at_frame.x in let b = t.at_frame.step in rw (a, b) refl;
        y = t.at_frame.y;
        w = t.at_frame.w;
        room = let a = t.at_frame.height in omega (arith, a);
        reach = let a = t.at_frame.height in omega (arith, a);
      };
      stand = (at-column p id t.tree g from e x ids is t.stands).2;
    }

    pub column-shows : (t : Column d laid p at id) → column_lines n i t ≡ column_line at i ∷ trees_lines n (column-kids t)
    unfolding lines_of_tree column-kids
    column-shows t =
        let s = t.at_frame in
        let e : column_lines n i t ≡ lines_of_column d (given_lines t.given n) t.row at.depth t.frame t.y t.height i
        (column g from e x (at-column p id t.tree g from e x ids is t.stands).0) =
        ap (λ tree. lines_of_column d (given_lines t.given n) t.row at.depth t.frame t.y t.height i tree)
        (at-column p id t.tree g from e x ids is t.stands).1 in
        let line : ◌≡◌ {A = TreeLine} (record {
          depth = at.depth + 1;
          kind = col i;
          x = t.frame.x + t.row.x + i * t.row.step;
          y = t.frame.y + t.y;
          w = t.row.w;
          h = t.height;
        }) (column_line at i) = rw (s.x, s.y, s.w, s.step, s.height) refl in
        rw (e, line) refl

    column-all : (f : ColumnFits d laid p n at i id) → All Fits (column_line at i ∷ trees_lines n (column-kids f.is))
    column-all f = subst (λ lines. All Fits lines) (column-shows f.is) f.fits

    pub column-fits : ColumnFits d laid p n at i id → Fits (column_line at i)
    column-fits f = All-head Fits (column_line at i) (trees_lines n (column-kids f.is)) (column-all f)

    pub column-kids-fit : ColumnFits d laid p n at i id → TreesFit d laid p n (column_at at i g x) ids
    unfolding IsInside column-kids
    column-kids-fit f = record {
      are = column-kids f.is;
      inside = subst (λ tree. IsInside d f.flow tree) (at-column p id f.is.tree g from e x ids is f.is.stands).1 f.inside;
      fit = All-tail Fits (column_line at i) (trees_lines n (column-kids f.is)) (column-all f);
    }
