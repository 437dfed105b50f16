-- A row that stands whole has the columns of its fills, one after another.
use Rattle.std.proofs.Common.{◌≡◌, ℕ, zero, suc, ◌<◌, true, false, List, [], ◌++◌, length, Option, Some}
use Rattle.std.proofs.Common.{None}
use Rattle.std.proofs.Common.{refl, sym, subst, ◌∙◌, ap, arith, append_assoc, inl, inr}
use Rattle.std.proofs.lemmas.List.{append-nil}
use Rattle.mc_base.specs.PlainTree.{PlainTree, PlainTrees, plain_trees, row_piece, column as column_tree}
use Rattle.mc_base.specs.declared.fragment.FragId.{FragId}
use Rattle.mc_base.specs.declared.fragment.FragId.TheVariants.{Trial}
use Rattle.mc_base.specs.declared.fragment.Node.{Node}
use Rattle.mc_base.specs.declared.fragment.Node.TheVariants.{RowPiece as RowNode, Column as ColumnNode}
use Rattle.flow_data.specs.Flows.{flow_in, row_of}
use Rattle.flow_data.specs.Soundness.{IsSound}
use Rattle.flow_list.specs.Data.{FlowsData}
use Rattle.flow_list.specs.Column.{Column}
use Rattle.flow_list.specs.Fragments.{column_fragment, fragments_from}
use Rattle.flow_list.specs.Rows.{all_rows, columns, end_of, fill_in, left_in}
use Rattle.flow_list.specs.Tokens.{Token, IsPlace, IsPlaceBefore, is_end}
use Rattle.flow_list.proofs.Fitting.{columns_by-past}
use Rattle.flow_list.specs.Column.{column}
use Rattle.flow_laws.proofs.Places.{at-end}
use Rattle.flow_laws.proofs.RowsAdvance.{columns-advance}
use Rattle.flow_list.specs.Book.{AllStand, IsTrueBook}
use Rattle.flow_list.specs.Certificate.{Use, stands_in, uses_of}
use Rattle.column_laws.specs.Following.{columns_of_fills, fragments_of_fills}
use Rattle.column_laws.proofs.Counting.{columns-are-few}
use Rattle.column_laws.proofs.Depths.{rows-are-told}
use Rattle.frag_pool.specs.Growing.{Grows}
use Rattle.frag_pool.specs.Nodes.{Nodes, ids_of, node_of, trial_more}
use Rattle.frag_pool.specs.Standing.{AllStandFor, StandsFor}
use Rattle.frag_pool.proofs.Stays.{all-along, keeps-growing}
use Rattle.frag_pool.proofs.Trees.{they-append, they-none}
use Rattle.frag_maker.proofs.Growing.{grows-trial, trial-node}
use Rattle.column_maker.specs.Making.{columns_in, whole_at}
use Rattle.column_maker.specs.Wholes.{IsPart}
use Rattle.column_maker.proofs.Sizes.{fill-stands, fills-stand, later-stand}

-- the ids in a row piece stand for its columns
pub in-piece : (p : Nodes) (id : FragId) (r : ℕ) (q : Token) (y : ℕ) (height : Option ℕ) (trees : PlainTrees) (node : Node) →
    StandsFor p id (row_piece r q y height trees) → node_of p id ≡ Some node → AllStandFor p (ids_of node) trees
unfolding StandsFor
in-piece p id r q y height trees node s at =
    let is : node ≡ RowNode r q y height s.0 = cc in
    subst (λ (n : Node). AllStandFor p (ids_of n) trees) (sym is) s.2

-- a new row piece stands for one with the columns that its ids stand for
pub piece-made : (p q : Nodes) (r : ℕ) (from start : Token) (ids : List FragId) (trees : PlainTrees) → start ≡ from →
    q ≡ trial_more p (RowNode r start 0 None ids) → AllStandFor p ids trees →
    StandsFor q (Trial (length p.trial)) (row_piece r from 0 None trees)
unfolding StandsFor
piece-made p q r from start ids trees is more stand = (
  ids,
  trial-node p q _ more ∙ ap (λ t. Some (RowNode r t 0 None ids)) is,
  all-along p q (keeps-growing p q (grows-trial p q _ more)) ids trees stand,
)

module _ (d : FlowsData) (sound : IsSound d) (r : ℕ) (known : r < length d.rows) (from : Token) (h : ℕ) (book : List Use) where
  abbrev piece : Token → PlainTree
  piece = column_fragment d r (Some h)

  abbrev fills : ℕ → Token → List PlainTree
  fills n q = fragments_of_fills piece (all_rows d) d r n q h

  abbrev first : Token → List Column
  first q = columns (all_rows d) d (flow_in d r) (row_of d r).n q h

  -- at the row's end there are no more
  none-left : (n : ℕ) (q : Token) → is_end (flow_in d r) q ≡ true → fills n q ≡ []
  none-left zero q e = refl
  none-left (suc n) q e =
      let none : first q ≡ [] = columns_by-past (λ t. column (all_rows d) d (flow_in d r) t h) (flow_in d r) (row_of d r).n q e in
      ap (λ cs. fragments_from piece q cs ++ fills n (end_of q cs)) none ∙ none-left n q e

  pub part-first : (p : Nodes) → IsPlaceBefore d (flow_in d r) from → IsTrueBook d book → stands_in book (r, from) ≡ true →
      h ≡ (all_rows d).size r from → IsPart d r from h book p [] from
  part-first p place is_true there size = record {
    made = [];
    count = left_in (all_rows d) (flow_in d r) from;
    stand = they-none p;
    enough = omega arith;
    rest = (columns-are-few d sound r known).whole_by_fills (left_in (all_rows d) (flow_in d r) from) from h h place
        (omega arith);
    uses = fills-stand d sound book is_true r known from place there h (size ∙ (rows-are-told d sound).size_is r from known)
        (left_in (all_rows d) (flow_in d r) from) (omega arith);
  }

  module _ (at : Token) (place : IsPlaceBefore d (flow_in d r) at) where
    -- where a fill ends
    pub fill-end : ((all_rows d).fill r at h).end ≡ end_of at (first at)
    unfolding fill_in
    fill-end = ap (λ (c : _). c.end) ((rows-are-told d sound).fill_is r at h known)

    pub fewer-left : (end : Token) → end ≡ end_of at (first at) →
        left_in (all_rows d) (flow_in d r) end < left_in (all_rows d) (flow_in d r) at
    fewer-left end is =
        subst (λ (u : Token). left_in (all_rows d) (flow_in d r) u < left_in (all_rows d) (flow_in d r) at)
        (fill-end ∙ sym is) ((columns-advance d sound r known).fill_advances at h place).fewer

    pub next-place : (end : Token) → end ≡ end_of at (first at) → is_end (flow_in d r) end ≡ false →
        IsPlaceBefore d (flow_in d r) end
    next-place end is inner =
        go (subst (λ (u : Token). IsPlace d (flow_in d r) u) (fill-end ∙ sym is)
        ((columns-advance d sound r known).fill_advances at h place).place)
      where
        go : IsPlace d (flow_in d r) end → IsPlaceBefore d (flow_in d r) end
        go (inl e) = let all = at-end (flow_in d r) end e in absurd (cc)
        go (inr b) = b

    -- what the fill there uses stands in the book
    pub part-uses : (p : Nodes) (ids : List FragId) → IsPart d r from h book p ids at →
        AllStand book ((all_rows d).fill r at h).uses
    part-uses p ids part = go part.count refl
      where
        go : (n : ℕ) → part.count ≡ n → AllStand book ((all_rows d).fill r at h).uses
        go zero e =
            let less = fewer-left (end_of at (first at)) refl in let enough = part.enough in absurd (omega arith)
        go (suc n) e = fill-stands d sound r known book n at (end_of at (first at)) h
            (subst (λ (m : ℕ). AllStand book (uses_of (columns_of_fills (all_rows d) d r m at h))) e part.uses)

    module _ (p q : Nodes) (ids kids : List FragId) (end : Token) (grows : Grows p q) (is : end ≡ end_of at (first at))
        (stand : AllStandFor q kids (plain_trees (fragments_from piece at (first at)))) where
      pub part-more : IsPart d r from h book p ids at → IsPart d r from h book q (ids ++ kids) end
      part-more part = go part.count refl
        where
          go : (n : ℕ) → part.count ≡ n → IsPart d r from h book q (ids ++ kids) end
          go zero e = let less = fewer-left end is in let enough = part.enough in absurd (omega arith)
          go (suc n) e = record {
            made = part.made ++ fragments_from piece at (first at);
            count = n;
            stand = they-append q ids kids part.made (fragments_from piece at (first at))
                (all-along p q (keeps-growing p q grows) ids (plain_trees part.made) part.stand) stand;
            enough = let less = fewer-left end is in let enough = part.enough in omega arith;
            rest = part.rest ∙ ap (λ m. part.made ++ fills m at) e
                ∙ sym (append_assoc part.made (fragments_from piece at (first at)) (fills n (end_of at (first at))))
                ∙ ap (λ u. (part.made ++ fragments_from piece at (first at)) ++ fills n u) (sym is);
            uses = subst (λ (u : Token). AllStand book (uses_of (columns_of_fills (all_rows d) d r n u h))) (sym is)
                (later-stand d sound r known book n at (end_of at (first at)) h
                (subst (λ (m : ℕ). AllStand book (uses_of (columns_of_fills (all_rows d) d r m at h))) e part.uses));
          }

  pub part-all : (q : Nodes) (ids : List FragId) (end : Token) → is_end (flow_in d r) end ≡ true →
      IsPart d r from h book q ids end → AllStandFor q ids (plain_trees (columns_in d (whole_at d r from h)))
  part-all q ids end e part =
      let all : columns_in d (whole_at d r from h) ≡ part.made =
      part.rest ∙ ap (λ ts. part.made ++ ts) (none-left part.count end e) ∙ append-nil part.made in
      subst (λ (ts : List PlainTree). AllStandFor q ids (plain_trees ts)) (sym all) part.stand

-- in a book that holds the same
pub same-book : (d : FlowsData) (r : ℕ) (q : Token) (h : ℕ) (a b : List Use) (p : Nodes) (ids : List FragId) (at : Token) → b
    ≡ a →
    IsPart d r q h a p ids at → IsPart d r q h b p ids at
same-book d r q h a b p ids at is part = rw is part

-- a new column node stands for one in which the trees stand that its ids stand for
pub column-made : (p q : Nodes) (flow : ℕ) (from start end stop : Token) (extent far : ℕ) (ids : List FragId)
    (trees : PlainTrees) →
    start ≡ from → stop ≡ end → far ≡ extent → q ≡ trial_more p (ColumnNode flow start stop far ids) → AllStandFor p ids trees →
    StandsFor q (Trial (length p.trial)) (column_tree flow from end extent trees)
unfolding StandsFor
column-made p q flow from start end stop extent far ids trees is at reach more stand = (
  ids,
  trial-node p q _ more ∙ ap (λ t. Some (ColumnNode flow t stop far ids)) is
      ∙ ap (λ t. Some (ColumnNode flow from t far ids)) at ∙ ap (λ n. Some (ColumnNode flow from end n ids)) reach,
  all-along p q (keeps-growing p q (grows-trial p q _ more)) ids trees stand,
)
