use Rattle.std.proofs.Common.{suc, ◌≡◌, ◌∙◌, ◌+◌, ◌-◌, ◌<◌, ◌++◌, ◌∷◌, Some, ap, sym, subst, arith, OnOk}
use Rattle.std.proofs.Common.{drop, get_or, All}
use Rattle.std.proofs.lemmas.List.{append-nil, drop_more, drop_all}
use Rattle.mc_base.specs.declared.fragment.FragId.{FragId}
use Rattle.mc_base.specs.declared.fragment.FragId.TheVariants.{Kept}
use Rattle.mc_base.specs.declared.fragment.Node.TheVariants.{Atom as AtomNode, Piece as PieceNode, RowPiece as RowNode}
use Rattle.mc_base.specs.declared.fragment.Node.TheVariants.{Column as ColumnNode}
use Rattle.flow_list.specs.Data.{Atom, Bounded}
use Rattle.flow_data.specs.Flows.{flow_of, item_of}
use Rattle.frag_pool.specs.Nodes.{node_of, ids_of, IsBelow}
use Rattle.tree_lines.specs.Lines.{lines_of}
use Rattle.tree_lines.specs.Shown.{ColumnsFit, TreesFit, ItemFits, column_lines, columns_lines, tree_lines, trees_lines}
use Rattle.tree_lines.proofs.Arms.{atom-shows, atom-flow, atom-item, atom-fits, piece-kids, piece-shows, piece-box, piece-line}
use Rattle.tree_lines.proofs.Arms.{piece-kids-fit, row-columns, row-shows, row-row, row-line, row-columns-fit}
use Rattle.tree_lines.proofs.Arms.{column-kids as stack-kids}
use Rattle.tree_lines.proofs.Arms.{column-shows as stack-kids-show, column-kids-fit as stack-kids-fit, box_line, row_line}
use Rattle.tree_lines.proofs.Rows.{column-none, column-kids, column-shows, column-fits, column-kids-fit, column_line}
use Rattle.flow_list.specs.Tree.{item_lines}
use Rattle.tree_lines.specs.Shown.{given_lines}
use Rattle.tree_lines.proofs.Inside.{item-stack-fits, item-stack-none, item-stack-shows, item-shows, item-x, item-y, stack-x}
use Rattle.tree_lines.proofs.Inside.{stack-y}
use Rattle.tree_lines.proofs.Inside.{stands-live, stack-fits, stack-tree, stack-shows, stack_line}
use Rattle.tree_lines.proofs.Sizes.{below-live, below-rank, rank-live, work-less}
use Rattle.tree_lines.proofs.Steps.{Written, WrittenRow, written-first, written-next, written-last, written-row-first, pushed}
use Rattle.tree_lines.proofs.Steps.{written-row-next, written-row-last, split-fits, split-row-fits}
use Rattle.tree_lines.proofs.walk.+walk.Goals as goal

-- ---- a column of a piece of a row

pub put_column-returns-in_default : goal.put_column-returns-in_default
put_column-returns-in_default t c = λ t'.
    sym (ap (λ ls. lines_of c.args.out.now ++ ls) (column-none c.args.flows.now c.args.laid.now c.args.pool.now c.args.nested
    c.args.at c.args.i c.args.id c.get.result.now c.get.ensures.node
    (λ f from e x ids is. c.in_default.not-Column f from e x ids is) t') ∙ append-nil (lines_of c.args.out.now))

pub put_column-column_line-requires : goal.put_column-column_line-requires
put_column-column_line-requires t c =
    let is : node_of c.args.pool.now c.args.id ≡ Some (ColumnNode c.in-Column.flow c.in-Column.from c.in-Column.end
    c.in-Column.extent
    c.in-Column.kids) = c.get.ensures.node ∙ ap Some c.in-Column.is in
    let f = column-fits c.args.flows.now c.args.laid.now c.args.pool.now c.args.nested c.args.at c.args.i c.args.id _ _ _ _ _ is
    c.requires.fits in
    let k = f.x in
    rw c.in_ok-index.ensures (omega (arith, k))

pub put_column-put_trees-requires : goal.put_column-put_trees-requires
put_column-put_trees-requires t c =
    let kids = c.as_slice.ensures in
    let is : node_of c.args.pool.now c.args.id ≡ Some (ColumnNode c.in-Column.flow c.in-Column.from c.in-Column.end
    c.in-Column.extent
    c.as_slice.result.now) = cc (c.get.ensures.node, c.in-Column.is, kids) in
    let below : All (IsBelow c.args.pool.now c.args.id) c.as_slice.result.now = subst (λ ids. All (IsBelow c.args.pool.now
    c.args.id) ids) (ap ids_of c.in-Column.is ∙ sym kids) c.get.ensures.below in (
      omega (arith, c.decreases),
      (
        c.requires.live,
        (
          below,
          rw (c.in_ok-inside.ensures, c.in_ok-index.ensures)
              (column-kids-fit c.args.flows.now c.args.laid.now c.args.pool.now c.args.nested c.args.at c.args.i c.args.id
              _ _ _ _ _ is
              c.requires.fits),
        ),
      ),
    )

pub put_column-returns : goal.put_column-returns
put_column-returns t c = λ t'.
    let kids = c.as_slice.ensures in
    let is : node_of c.args.pool.now c.args.id ≡ Some (ColumnNode c.in-Column.flow c.in-Column.from c.in-Column.end
    c.in-Column.extent
    c.as_slice.result.now) = cc (c.get.ensures.node, c.in-Column.is, kids) in
    let d = c.args.flows.now in
    let u = column-kids d c.args.laid.now c.args.pool.now c.args.nested c.args.at c.args.i c.args.id _ _ _ _ _ is t' in
    let h = (rw (c.in_ok-inside.ensures, c.in_ok-index.ensures, c.in_ok-push.ensures.ok) at c.put_trees.ensures) u in
    subst (λ ls. OnOk c.put_trees.result (lines_of c.put_trees.new.out ≡ ls))
    (pushed c.args.out.now _ (column_line c.args.at c.args.i) (trees_lines c.args.nested u)
    (column_lines c.args.nested c.args.i t') (rw c.in_ok-index.ensures at c.in_ok-column_line.ensures)
    (column-shows d c.args.laid.now c.args.pool.now c.args.nested c.args.at c.args.i c.args.id _ _ _ _ _ is t')) h

-- ---- the columns of a piece of a row

pub put_columns-loop-i-init : goal.put_columns-loop-i-init
put_columns-loop-i-init t c =
    written-row-first c.args.flows.now c.args.laid.now c.args.pool.now c.args.nested c.args.at c.args.ids.now c.args.out.now
    c.requires.fit

pub put_columns-put_column-requires : goal.put_columns-put_column-requires
put_columns-put_column-requires t c =
    let d = c.args.flows.now in
    let p = c.args.pool.now in
    let ids = c.args.ids.now in
    let i = c.loop-i.i in
    let id : FragId = get_or ids i (Kept 0) in
    let below : IsBelow p c.args.over id = c.requires.below i (Kept 0) c.loop-i-test.true in
    let rank = below-rank p c.args.over id c.requires.live below in
    let fit : ColumnsFit d c.args.laid.now p c.args.nested c.args.at i (id ∷ drop (i + 1) ids) =
    subst (λ left. ColumnsFit d c.args.laid.now p c.args.nested c.args.at i left) (drop_more ids i (Kept 0) c.loop-i-test.true)
    c.loop-i.invariant.fit in (
      omega (arith, rank, c.decreases),
      (
        below-live p c.args.over id c.requires.live below,
        (split-row-fits d c.args.laid.now p c.args.nested i c.args.at id (drop (i + 1) ids) fit).first,
      ),
    )

pub put_columns-loop-i-preserved : goal.put_columns-loop-i-preserved
put_columns-loop-i-preserved t c =
    let d = c.args.flows.now in
    let p = c.args.pool.now in
    let ids = c.args.ids.now in
    let i = c.loop-i.i in
    let id : FragId = get_or ids i (Kept 0) in
    let w : WrittenRow d c.args.laid.now p c.args.nested i c.args.at ids (id ∷ drop (i + 1) ids) c.args.out.now c.loop-i.out =
    subst (λ left. WrittenRow d c.args.laid.now p c.args.nested i c.args.at ids left c.args.out.now c.loop-i.out)
    (drop_more ids i (Kept 0) c.loop-i-test.true) c.loop-i.invariant in
    written-row-next d c.args.laid.now p c.args.nested i c.args.at ids id (drop (i + 1) ids) c.args.out.now c.loop-i.out
    c.put_column.new.out w c.in_ok-put_column.ensures

pub put_columns-returns : goal.put_columns-returns
put_columns-returns t c =
    written-row-last c.args.flows.now c.args.laid.now c.args.pool.now c.args.nested c.loop-i.i c.args.at c.args.ids.now
    (drop c.loop-i.i c.args.ids.now) c.args.out.now c.loop-i.out c.loop-i.invariant
    (drop_all c.loop-i.i c.args.ids.now c.loop-i-test.false)

-- ---- fragments one after another

pub put_trees-loop-id-init : goal.put_trees-loop-id-init
put_trees-loop-id-init t c =
    written-first c.args.flows.now c.args.laid.now c.args.pool.now c.args.nested c.args.at c.args.ids.now c.args.out.now
    c.requires.fit

pub put_trees-put_tree-requires : goal.put_trees-put_tree-requires
put_trees-put_tree-requires t c =
    let d = c.args.flows.now in
    let p = c.args.pool.now in
    let ids = c.args.ids.now in
    let i = c.loop-id.id-index in
    let id : FragId = get_or ids i (Kept 0) in
    let below : IsBelow p c.args.over id = c.requires.below i (Kept 0) c.loop-id-test.true in
    let rank = below-rank p c.args.over id c.requires.live below in
    let fit : TreesFit d c.args.laid.now p c.args.nested c.args.at (id ∷ drop (i + 1) ids) =
    subst (λ left. TreesFit d c.args.laid.now p c.args.nested c.args.at left) (drop_more ids i (Kept 0) c.loop-id-test.true)
    c.loop-id.invariant.fit in (
      omega (arith, rank, c.decreases),
      (
        below-live p c.args.over id c.requires.live below,
        (split-fits d c.args.laid.now p c.args.nested c.args.at id (drop (i + 1) ids) fit).first,
      ),
    )

pub put_trees-loop-id-preserved : goal.put_trees-loop-id-preserved
put_trees-loop-id-preserved t c =
    let d = c.args.flows.now in
    let p = c.args.pool.now in
    let ids = c.args.ids.now in
    let i = c.loop-id.id-index in
    let id : FragId = get_or ids i (Kept 0) in
    let w : Written d c.args.laid.now p c.args.nested c.args.at ids (id ∷ drop (i + 1) ids) c.args.out.now c.loop-id.out =
    subst (λ left. Written d c.args.laid.now p c.args.nested c.args.at ids left c.args.out.now c.loop-id.out)
    (drop_more ids i (Kept 0) c.loop-id-test.true) c.loop-id.invariant in
    written-next d c.args.laid.now p c.args.nested c.args.at ids id (drop (i + 1) ids) c.args.out.now c.loop-id.out
    c.put_tree.new.out w c.in_ok-put_tree.ensures

pub put_trees-returns : goal.put_trees-returns
put_trees-returns t c =
    written-last c.args.flows.now c.args.laid.now c.args.pool.now c.args.nested c.args.at c.args.ids.now
    (drop c.loop-id.id-index c.args.ids.now) c.args.out.now c.loop-id.out c.loop-id.invariant
    (drop_all c.loop-id.id-index c.args.ids.now c.loop-id-test.false)

-- ---- a fragment: an atom

pub put_tree-put_item-requires : goal.put_tree-put_item-requires
put_tree-put_item-requires t c =
    let is : node_of c.args.pool.now c.args.id ≡ Some (AtomNode c.in-Atom.item c.in-Atom.y) = c.get.ensures.node ∙ ap Some
    c.in-Atom.is in
    let d = c.args.flows.now in
    let l = c.args.laid.now in
    let p = c.args.pool.now in (
      omega (arith, c.decreases),
      (
        atom-flow d l p c.args.nested c.args.at c.args.id _ _ is c.requires.fits,
        (
          atom-item d l p c.args.nested c.args.at c.args.id _ _ is c.requires.fits,
          atom-fits d l p c.args.nested c.args.at c.args.id _ _ is c.requires.fits,
        ),
      ),
    )

pub put_tree-returns-in-Atom : goal.put_tree-returns-in-Atom
put_tree-returns-in-Atom t c = λ t'.
    let is : node_of c.args.pool.now c.args.id ≡ Some (AtomNode c.in-Atom.item c.in-Atom.y) = c.get.ensures.node ∙ ap Some
    c.in-Atom.is in
    subst (λ ls. OnOk c.put_item.result (lines_of c.put_item.new.out ≡ lines_of c.args.out.now ++ ls))
    (sym (atom-shows c.args.flows.now c.args.laid.now c.args.pool.now c.args.nested c.args.at c.args.id t' _ _ is))
    (c.put_item.ensures t'.given t'.frame t'.at_frame)

-- ---- a piece of a box

pub put_tree-box_at-info-requires : goal.put_tree-box_at-info-requires
put_tree-box_at-info-requires t c =
    let is : node_of c.args.pool.now c.args.id ≡ Some (PieceNode c.in-Piece.owner c.in-Piece.starts c.in-Piece.y c.in-Piece.bottom
    c.in-Piece.kids) = c.get.ensures.node ∙ ap Some c.in-Piece.is in
    piece-box c.args.flows.now c.args.laid.now c.args.pool.now c.args.nested c.args.at c.args.id _ _ _ _ _ is c.requires.fits

pub put_tree-box_line-requires-clause-x : goal.put_tree-box_line-requires-clause-x
put_tree-box_line-requires-clause-x t c =
    let is : node_of c.args.pool.now c.args.id ≡ Some (PieceNode c.in-Piece.owner c.in-Piece.starts c.in-Piece.y c.in-Piece.bottom
    c.in-Piece.kids) = c.get.ensures.node ∙ ap Some c.in-Piece.is in
    rw c.box_at-info.ensures.same
    (piece-line c.args.flows.now c.args.laid.now c.args.pool.now c.args.nested c.args.at c.args.id _ _ _ _ _ is c.requires.fits).x

pub put_tree-box_line-requires-clause-y : goal.put_tree-box_line-requires-clause-y
put_tree-box_line-requires-clause-y t c =
    let is : node_of c.args.pool.now c.args.id ≡ Some (PieceNode c.in-Piece.owner c.in-Piece.starts c.in-Piece.y c.in-Piece.bottom
    c.in-Piece.kids) = c.get.ensures.node ∙ ap Some c.in-Piece.is in
    (piece-line c.args.flows.now c.args.laid.now c.args.pool.now c.args.nested c.args.at c.args.id _ _ _ _ _ is c.requires.fits).y

pub put_tree-put_trees-requires : goal.put_tree-put_trees-requires
put_tree-put_trees-requires t c =
    let kids = c.as_slice.ensures in
    let is : node_of c.args.pool.now c.args.id ≡ Some (PieceNode c.in-Piece.owner c.in-Piece.starts c.in-Piece.y c.in-Piece.bottom
    c.as_slice.result.now) = cc (c.get.ensures.node, c.in-Piece.is, kids) in
    let below : All (IsBelow c.args.pool.now c.args.id) c.as_slice.result.now = subst (λ ids. All (IsBelow c.args.pool.now
    c.args.id) ids) (ap ids_of c.in-Piece.is ∙ sym kids) c.get.ensures.below in (
      omega (arith, c.decreases),
      (
        c.requires.live,
        (
          below,
          rw (c.in_ok-inside-in-Piece.ensures, c.box_at-info.ensures.same)
              (piece-kids-fit c.args.flows.now c.args.laid.now c.args.pool.now c.args.nested c.args.at c.args.id _ _ _ _ _
              is c.requires.fits),
        ),
      ),
    )

pub put_tree-returns-in_ok-inside-in-Piece : goal.put_tree-returns-in_ok-inside-in-Piece
put_tree-returns-in_ok-inside-in-Piece t c = λ t'.
    let kids = c.as_slice.ensures in
    let is : node_of c.args.pool.now c.args.id ≡ Some (PieceNode c.in-Piece.owner c.in-Piece.starts c.in-Piece.y c.in-Piece.bottom
    c.as_slice.result.now) = cc (c.get.ensures.node, c.in-Piece.is, kids) in
    let d = c.args.flows.now in
    let same = c.box_at-info.ensures.same in
    let u = piece-kids c.args.flows.now c.args.laid.now c.args.pool.now c.args.nested c.args.at c.args.id _ _ _ _ _ is t' in
    let h = (rw (c.in_ok-inside-in-Piece.ensures, same, c.in_ok-push-in-Piece.ensures.ok) at c.put_trees.ensures) u in
    subst (λ ls. OnOk c.put_trees.result (lines_of c.put_trees.new.out ≡ ls))
    (pushed c.args.out.now c.box_line.result
    (box_line d c.args.at c.in-Piece.owner c.in-Piece.starts c.in-Piece.y c.in-Piece.bottom) (trees_lines c.args.nested u)
    (tree_lines c.args.nested t') (rw same at c.box_line.ensures)
    (piece-shows c.args.flows.now c.args.laid.now c.args.pool.now c.args.nested c.args.at c.args.id _ _ _ _ _ is t')) h

-- ---- a piece of a row

pub put_tree-row_at-info-requires : goal.put_tree-row_at-info-requires
put_tree-row_at-info-requires t c =
    let is : node_of c.args.pool.now c.args.id ≡ Some (RowNode c.in-RowPiece.row c.in-RowPiece.from c.in-RowPiece.y
    c.in-RowPiece.height
    c.in-RowPiece.columns) = c.get.ensures.node ∙ ap Some c.in-RowPiece.is in
    row-row c.args.flows.now c.args.laid.now c.args.pool.now c.args.nested c.args.at c.args.id _ _ _ _ _ is c.requires.fits

pub put_tree-row_place-place-requires-clause-x : goal.put_tree-row_place-place-requires-clause-x
put_tree-row_place-place-requires-clause-x t c =
    let is : node_of c.args.pool.now c.args.id ≡ Some (RowNode c.in-RowPiece.row c.in-RowPiece.from c.in-RowPiece.y
    c.in-RowPiece.height
    c.in-RowPiece.columns) = c.get.ensures.node ∙ ap Some c.in-RowPiece.is in
    rw c.row_at-info.ensures.same
    (row-line c.args.flows.now c.args.laid.now c.args.pool.now c.args.nested c.args.at c.args.id _ _ _ _ _ is c.requires.fits).x

pub put_tree-row_place-place-requires-clause-y : goal.put_tree-row_place-place-requires-clause-y
put_tree-row_place-place-requires-clause-y t c =
    let is : node_of c.args.pool.now c.args.id ≡ Some (RowNode c.in-RowPiece.row c.in-RowPiece.from c.in-RowPiece.y
    c.in-RowPiece.height
    c.in-RowPiece.columns) = c.get.ensures.node ∙ ap Some c.in-RowPiece.is in
    (row-line c.args.flows.now c.args.laid.now c.args.pool.now c.args.nested c.args.at c.args.id _ _ _ _ _ is c.requires.fits).y

pub put_tree-row_line-requires : goal.put_tree-row_line-requires
put_tree-row_line-requires t c =
    let is : node_of c.args.pool.now c.args.id ≡ Some (RowNode c.in-RowPiece.row c.in-RowPiece.from c.in-RowPiece.y
    c.in-RowPiece.height
    c.in-RowPiece.columns) = c.get.ensures.node ∙ ap Some c.in-RowPiece.is in
    rw c.row_at-info.ensures.same
    (row-line c.args.flows.now c.args.laid.now c.args.pool.now c.args.nested c.args.at c.args.id _ _ _ _ _ is c.requires.fits).w

pub put_tree-put_columns-requires : goal.put_tree-put_columns-requires
put_tree-put_columns-requires t c =
    let kids = c.as_slice-in-RowPiece.ensures in
    let is : node_of c.args.pool.now c.args.id ≡ Some (RowNode c.in-RowPiece.row c.in-RowPiece.from c.in-RowPiece.y
    c.in-RowPiece.height
    c.as_slice-in-RowPiece.result.now) = cc (c.get.ensures.node, c.in-RowPiece.is, kids) in
    let below : All (IsBelow c.args.pool.now c.args.id) c.as_slice-in-RowPiece.result.now =
    subst (λ ids. All (IsBelow c.args.pool.now c.args.id) ids) (ap ids_of c.in-RowPiece.is ∙ sym kids) c.get.ensures.below in (
      omega (arith, c.decreases),
      (
        c.requires.live,
        (
          below,
          rw (c.row_place-place.ensures, c.row_at-info.ensures.same, c.height_at.ensures)
              (row-columns-fit c.args.flows.now c.args.laid.now c.args.pool.now c.args.nested c.args.at c.args.id _ _ _ _ _
              is c.requires.fits),
        ),
      ),
    )

pub put_tree-returns-in_ok-push-in-RowPiece : goal.put_tree-returns-in_ok-push-in-RowPiece
put_tree-returns-in_ok-push-in-RowPiece t c = λ t'.
    let kids = c.as_slice-in-RowPiece.ensures in
    let is : node_of c.args.pool.now c.args.id ≡ Some (RowNode c.in-RowPiece.row c.in-RowPiece.from c.in-RowPiece.y
    c.in-RowPiece.height
    c.as_slice-in-RowPiece.result.now) = cc (c.get.ensures.node, c.in-RowPiece.is, kids) in
    let d = c.args.flows.now in
    let same = c.row_at-info.ensures.same in
    let u = row-columns c.args.flows.now c.args.laid.now c.args.pool.now c.args.nested c.args.at c.args.id _ _ _ _ _ is t' in
    let h = (rw (c.row_place-place.ensures, same, c.height_at.ensures, c.in_ok-push-in-RowPiece.ensures.ok)
    at c.put_columns.ensures) u in
    subst (λ ls. OnOk c.put_columns.result (lines_of c.put_columns.new.out ≡ ls))
    (pushed c.args.out.now c.row_line.result
    (row_line d c.args.at c.in-RowPiece.row c.in-RowPiece.from c.in-RowPiece.y c.in-RowPiece.height)
    (columns_lines c.args.nested 0 u) (tree_lines c.args.nested t')
    (rw (c.row_place-place.ensures, same, c.height_at.ensures) at c.row_line.ensures)
    (row-shows c.args.flows.now c.args.laid.now c.args.pool.now c.args.nested c.args.at c.args.id _ _ _ _ _ is t')) h

-- ---- a column in a stack

pub put_tree-put_trees-requires-in-Column : goal.put_tree-put_trees-requires-in-Column
put_tree-put_trees-requires-in-Column t c =
    let kids = c.as_slice-in-Column.ensures in
    let is : node_of c.args.pool.now c.args.id ≡ Some (ColumnNode c.in-Column.flow c.in-Column.from c.in-Column.end
    c.in-Column.extent
    c.as_slice-in-Column.result.now) = cc (c.get.ensures.node, c.in-Column.is, kids) in
    let below : All (IsBelow c.args.pool.now c.args.id) c.as_slice-in-Column.result.now =
    subst (λ ids. All (IsBelow c.args.pool.now c.args.id) ids) (ap ids_of c.in-Column.is ∙ sym kids) c.get.ensures.below in (
      omega (arith, c.decreases),
      (
        c.requires.live,
        (
          below,
          stack-kids-fit c.args.flows.now c.args.laid.now c.args.pool.now c.args.nested c.args.at c.args.id _ _ _ _ _ is
              c.requires.fits,
        ),
      ),
    )

pub put_tree-returns-in-Column : goal.put_tree-returns-in-Column
put_tree-returns-in-Column t c = λ t'.
    let kids = c.as_slice-in-Column.ensures in
    let is : node_of c.args.pool.now c.args.id ≡ Some (ColumnNode c.in-Column.flow c.in-Column.from c.in-Column.end
    c.in-Column.extent
    c.as_slice-in-Column.result.now) = cc (c.get.ensures.node, c.in-Column.is, kids) in
    subst (λ ls. OnOk c.put_trees-in-Column.result (lines_of c.put_trees-in-Column.new.out ≡ lines_of c.args.out.now ++ ls))
    (sym (stack-kids-show c.args.flows.now c.args.laid.now c.args.pool.now c.args.nested c.args.at c.args.id _ _ _ _ _ is t'))
    (c.put_trees-in-Column.ensures (stack-kids c.args.flows.now c.args.laid.now c.args.pool.now c.args.nested c.args.at
    c.args.id _ _ _ _ _ is t'))

-- ---- an item

pub put_item-put_stack-requires : goal.put_item-put_stack-requires
put_item-put_stack-requires t c =
    let d = c.args.flows.now in
    let it : item_of (flow_of d c.args.at.flow) c.args.item
    ≡ Atom c.in-Atom.height (Bounded c.in-Bounded.owner c.in-Bounded.stack c.in-Bounded.x) =
    cc (c.item_of.ensures, c.in-Atom.is, c.in-Bounded.is) in
    let some : 0 < c.args.nested = omega (arith, c.if-nested-eq0.false) in
    let f = subst (λ item. ItemFits d c.args.laid.now c.args.pool.now c.args.nested c.args.at c.args.item c.args.y item) it
    c.requires.fits in
    let work = work-less c.args.pool.now c.args.nested some in (
      omega (arith, work, c.decreases),
      (
        f.inside,
        item-stack-fits d c.args.laid.now c.args.pool.now c.args.nested c.args.at
            c.args.item c.args.y _ _ _ _ some f,
      ),
    )

pub put_item-returns-then-nested-eq0 : goal.put_item-returns-then-nested-eq0
put_item-returns-then-nested-eq0 t c = λ g frame is.
    let d = c.args.flows.now in
    let it : item_of (flow_of d c.args.at.flow) c.args.item
    ≡ Atom c.in-Atom.height (Bounded c.in-Bounded.owner c.in-Bounded.stack c.in-Bounded.x) =
    cc (c.item_of.ensures, c.in-Atom.is, c.in-Bounded.is) in
    sym (ap (λ item. lines_of c.args.out.now ++ item_lines (given_lines g c.args.nested) c.args.at.depth frame c.args.item
    c.args.y item)
    it ∙ ap (λ ls. lines_of c.args.out.now ++ ls) (item-stack-none d c.args.laid.now c.args.pool.now c.args.nested c.args.at
    c.args.item c.args.y c.in-Atom.height c.in-Bounded.owner c.in-Bounded.stack c.in-Bounded.x c.if-nested-eq0.true g frame)
    ∙ append-nil (lines_of c.args.out.now))

pub put_item-returns-in-Bounded : goal.put_item-returns-in-Bounded
put_item-returns-in-Bounded t c = λ g frame is.
    let d = c.args.flows.now in
    let it : item_of (flow_of d c.args.at.flow) c.args.item
    ≡ Atom c.in-Atom.height (Bounded c.in-Bounded.owner c.in-Bounded.stack c.in-Bounded.x) =
    cc (c.item_of.ensures, c.in-Atom.is, c.in-Bounded.is) in
    let some : 0 < c.args.nested = omega (arith, c.if-nested-eq0.false) in
    subst (λ ls. OnOk c.put_stack.result (lines_of c.put_stack.new.out ≡ lines_of c.args.out.now ++ ls))
    (sym (ap (λ item. item_lines (given_lines g c.args.nested) c.args.at.depth frame c.args.item c.args.y item) it
    ∙ item-stack-shows d c.args.laid.now c.args.pool.now c.args.nested c.args.at c.args.item c.args.y c.in-Atom.height
    c.in-Bounded.owner c.in-Bounded.stack c.in-Bounded.x some g frame is)) (c.put_stack.ensures g)

pub put_item-overflow_add-at : goal.put_item-overflow_add-at
put_item-overflow_add-at t c =
    let d = c.args.flows.now in
    let it : item_of (flow_of d c.args.at.flow) c.args.item
    ≡ Atom c.in-Atom.height (Bounded c.in-Bounded.owner c.in-Bounded.stack c.in-Bounded.x) =
    cc (c.item_of.ensures, c.in-Atom.is, c.in-Bounded.is) in
    let some : 0 < c.args.nested = omega (arith, c.if-nested-eq0.false) in
    let f = subst (λ item. ItemFits d c.args.laid.now c.args.pool.now c.args.nested c.args.at c.args.item c.args.y item) it
    c.requires.fits in
    let k = stack-x d c.args.laid.now c.args.pool.now (c.args.nested - 1) c.in-Bounded.stack c.args.at.depth
    (c.args.at.x + c.in-Bounded.x) (c.args.at.y + c.args.y) (item-stack-fits d c.args.laid.now c.args.pool.now c.args.nested
    c.args.at c.args.item c.args.y _ _ _ _ some f) in
    omega (arith, k)

pub put_item-overflow_add-at-in-Bounded : goal.put_item-overflow_add-at-in-Bounded
put_item-overflow_add-at-in-Bounded t c =
    let d = c.args.flows.now in
    let it : item_of (flow_of d c.args.at.flow) c.args.item
    ≡ Atom c.in-Atom.height (Bounded c.in-Bounded.owner c.in-Bounded.stack c.in-Bounded.x) =
    cc (c.item_of.ensures, c.in-Atom.is, c.in-Bounded.is) in
    let some : 0 < c.args.nested = omega (arith, c.if-nested-eq0.false) in
    let f = subst (λ item. ItemFits d c.args.laid.now c.args.pool.now c.args.nested c.args.at c.args.item c.args.y item) it
    c.requires.fits in
    let k = stack-y d c.args.laid.now c.args.pool.now (c.args.nested - 1) c.in-Bounded.stack c.args.at.depth
    (c.args.at.x + c.in-Bounded.x) (c.args.at.y + c.args.y) (item-stack-fits d c.args.laid.now c.args.pool.now c.args.nested
    c.args.at c.args.item c.args.y _ _ _ _ some f) in
    omega (arith, k)

pub put_item-line_of_atom-requires : goal.put_item-line_of_atom-requires
put_item-line_of_atom-requires t c =
    let d = c.args.flows.now in
    let it : item_of (flow_of d c.args.at.flow) c.args.item ≡ Atom c.in-Atom.height c.in-Atom.kind =
    cc (c.item_of.ensures, c.in-Atom.is) in
    let f = subst (λ item. ItemFits d c.args.laid.now c.args.pool.now c.args.nested c.args.at c.args.item c.args.y item) it
    c.requires.fits in
    record {
      x = item-x d c.args.laid.now c.args.pool.now c.args.nested c.args.at c.args.item c.args.y c.in-Atom.height c.in-Atom.kind
          (λ owner number x e. c.in_default-kind.not-Bounded owner number x e) f;
      y = item-y d c.args.laid.now c.args.pool.now c.args.nested c.args.at c.args.item c.args.y c.in-Atom.height c.in-Atom.kind
          (λ owner number x e. c.in_default-kind.not-Bounded owner number x e) f;
    }

pub put_item-returns : goal.put_item-returns
put_item-returns t c = λ g frame is.
    let d = c.args.flows.now in
    let it : item_of (flow_of d c.args.at.flow) c.args.item ≡ Atom c.in-Atom.height c.in-Atom.kind =
    cc (c.item_of.ensures, c.in-Atom.is) in
    subst (λ ls. OnOk c.put_line.result (lines_of c.put_line.new.out ≡ lines_of c.args.out.now ++ ls))
    (sym (ap (λ item. item_lines (given_lines g c.args.nested) c.args.at.depth frame c.args.item c.args.y item) it
    ∙ item-shows d c.args.laid.now c.args.pool.now c.args.nested c.args.at c.args.item c.args.y c.in-Atom.height c.in-Atom.kind
    (λ owner number x e. c.in_default-kind.not-Bounded owner number x e) g frame is ∙ sym c.line_of_atom.ensures))
    c.put_line.ensures

-- ---- a stack

pub put_stack-stack_entry-entry-requires : goal.put_stack-stack_entry-entry-requires
put_stack-stack_entry-entry-requires t c = rw c.requires.fits.given.count c.requires.stack

pub put_stack-get-requires : goal.put_stack-get-requires
put_stack-get-requires t c =
    let g = c.requires.fits.given in
    stands-live c.args.pool.now _ (g.trees c.args.stack) (g.stands c.args.stack _ c.stack_entry-entry.ensures)

pub put_stack-put_tree-requires : goal.put_stack-put_tree-requires
put_stack-put_tree-requires t c =
    let g = c.requires.fits.given in
    let p = c.args.pool.now in
    let live = stands-live p c.stack_entry-entry.result.frag (g.trees c.args.stack)
    (g.stands c.args.stack _ c.stack_entry-entry.ensures) in
    let rank = rank-live p c.stack_entry-entry.result.frag live in (
      omega (arith, rank, c.decreases),
      (
        live,
        rw (c.in_ok-inside.ensures, c.stack_at-info.ensures.same, c.extent_of-extent.ensures)
            (stack-fits c.args.flows.now c.args.laid.now p c.args.nested c.args.stack c.args.depth c.args.x c.args.y
            c.stack_entry-entry.result c.get.result.now c.stack_entry-entry.ensures c.get.ensures.node c.requires.stack
            c.requires.fits),
      ),
    )

pub put_stack-returns : goal.put_stack-returns
put_stack-returns t c = λ g.
    let d = c.args.flows.now in
    let same = c.stack_at-info.ensures.same in
    let u = stack-tree d c.args.laid.now c.args.pool.now c.args.nested c.args.stack c.args.depth c.args.x c.args.y
    c.stack_entry-entry.result c.get.result.now c.stack_entry-entry.ensures c.get.ensures.node g in
    let h = (rw (c.in_ok-inside.ensures, same, c.extent_of-extent.ensures, c.in_ok-push.ensures.ok) at
    c.put_tree.ensures) u in
    subst (λ ls. OnOk c.put_tree.result (lines_of c.put_tree.new.out ≡ ls))
    (pushed c.args.out.now c.stack_line.result
    (stack_line d c.args.stack c.stack_entry-entry.result c.args.depth c.args.x c.args.y)
    (tree_lines c.args.nested u) (given_lines g (suc c.args.nested) c.args.stack c.args.depth c.args.x c.args.y)
    (rw same at c.stack_line.ensures)
    (stack-shows d c.args.laid.now c.args.pool.now c.args.nested c.args.stack c.args.depth c.args.x c.args.y
    c.stack_entry-entry.result c.get.result.now c.stack_entry-entry.ensures c.get.ensures.node g)) h
