-- Fragments one after another.
use Rattle.std.proofs.Common.{◌≡◌, ℕ, ◌+◌, List, [], ◌∷◌, ◌++◌, All, refl, sym, ap, ◌∙◌, append_assoc}
use Rattle.std.proofs.lemmas.List.{map-append, append-nil}
use Rattle.flow_data.proofs.Everywhere.{all-left, all-right}
use Rattle.mc_base.specs.PlainTree.{PlainTrees, no_trees, more_trees}
use Rattle.mc_base.specs.declared.fragment.FragId.{FragId}
use Rattle.flow_list.specs.Data.{FlowsData}
use Rattle.flow_data.specs.Flows.{flow_of}
use Rattle.flow_list.specs.declared.laid.Laid.{Laid}
use Rattle.flow_list.specs.Tree.{TreeLine as AnyLine, lines_of_tree, lines_of_trees, lines_of_columns, lines_of_column}
use Rattle.frag_pool.specs.Nodes.{Nodes}
use Rattle.frag_pool.specs.Standing.{StandsFor, AllStandFor}
use Rattle.tree_lines.specs.declared.place.Place.{Place}
use Rattle.tree_lines.specs.declared.place.RowPlace.{RowPlace}
use Rattle.tree_lines.specs.declared.line.TreeLine.{TreeLine}
use Rattle.tree_lines.specs.Lines.{line_of, lines_of}
use Rattle.tree_lines.specs.Shown.{given_lines, Fits, IsInside, AreInside, Tree, TreeFits, tree_lines, Trees, TreesFit}
use Rattle.tree_lines.specs.Shown.{trees_lines, Column, ColumnFits, column_lines, Columns, ColumnsFit, columns_lines}

-- ---- the first of these and the others

-- a tree and trees whose lines are those of these
pub record Split (d : FlowsData) (laid : Laid) (p : Nodes) (n : ℕ) (at : Place) (id : FragId) (ids : List FragId)
    (t : Trees d laid p at (id ∷ ids)) : Type 0 where
  pub first : Tree d laid p at id
  pub others : Trees d laid p at ids
  pub lines : trees_lines n t ≡ tree_lines n first ++ trees_lines n others

split-at : (d : FlowsData) (laid : Laid) (p : Nodes) (n : ℕ) (at : Place) (id : FragId) (ids : List FragId)
    (t : Trees d laid p at (id ∷ ids)) (trees : PlainTrees) → t.trees ≡ trees → AllStandFor p (id ∷ ids) trees →
    Split d laid p n at id ids t
unfolding StandsFor lines_of_tree
split-at d laid p n at id ids t no_trees e s = absurd s
split-at d laid p n at id ids t (more_trees x xs) e s = record {
  first = record { given = t.given; frame = t.frame; tree = x; at_frame = t.at_frame; stands = s.0 };
  others = record { given = t.given; frame = t.frame; trees = xs; at_frame = t.at_frame; stand = s.1 };
  lines = ap (λ trees. lines_of_trees d (given_lines t.given n) (flow_of d at.flow) at.depth t.frame trees) e;
}

pub split : (d : FlowsData) (laid : Laid) (p : Nodes) (n : ℕ) (at : Place) (id : FragId) (ids : List FragId)
    (t : Trees d laid p at (id ∷ ids)) → Split d laid p n at id ids t
split d laid p n at id ids t = split-at d laid p n at id ids t t.trees refl t.stand

none-at : (d : FlowsData) (laid : Laid) (p : Nodes) (n : ℕ) (at : Place) (t : Trees d laid p at []) (trees : PlainTrees) →
    t.trees ≡ trees → AllStandFor p [] trees → trees_lines n t ≡ []
unfolding StandsFor lines_of_tree
none-at d laid p n at t no_trees e s =
    ap (λ trees. lines_of_trees d (given_lines t.given n) (flow_of d at.flow) at.depth t.frame trees) e
none-at d laid p n at t (more_trees x xs) e s = absurd s

pub none : (d : FlowsData) (laid : Laid) (p : Nodes) (n : ℕ) (at : Place) (t : Trees d laid p at []) → trees_lines n t ≡ []
none d laid p n at t = none-at d laid p n at t t.trees refl t.stand

-- what may be written of the first and of the others
pub record SplitFits (d : FlowsData) (laid : Laid) (p : Nodes) (n : ℕ) (at : Place) (id : FragId) (ids : List FragId) :
    Type 0 where
  pub first : TreeFits d laid p n at id
  pub others : TreesFit d laid p n at ids

split-fits-at : (d : FlowsData) (laid : Laid) (p : Nodes) (n : ℕ) (at : Place) (id : FragId) (ids : List FragId)
    (t : Trees d laid p at (id ∷ ids)) (trees : PlainTrees) → AllStandFor p (id ∷ ids) trees → AreInside d at.flow trees →
    All Fits (lines_of_trees d (given_lines t.given n) (flow_of d at.flow) at.depth t.frame trees) →
    SplitFits d laid p n at id ids
unfolding StandsFor lines_of_tree IsInside
split-fits-at d laid p n at id ids t no_trees s inside fit = absurd s
split-fits-at d laid p n at id ids t (more_trees x xs) s inside fit = record {
  first = record {
    is = record { given = t.given; frame = t.frame; tree = x; at_frame = t.at_frame; stands = s.0 };
    inside = inside.0;
    fits = all-left Fits (lines_of_tree d (given_lines t.given n) (flow_of d at.flow) at.depth t.frame x)
        (lines_of_trees d (given_lines t.given n) (flow_of d at.flow) at.depth t.frame xs) fit;
  };
  others = record {
    are = record { given = t.given; frame = t.frame; trees = xs; at_frame = t.at_frame; stand = s.1 };
    inside = inside.1;
    fit = all-right Fits (lines_of_tree d (given_lines t.given n) (flow_of d at.flow) at.depth t.frame x)
        (lines_of_trees d (given_lines t.given n) (flow_of d at.flow) at.depth t.frame xs) fit;
  };
}

pub split-fits : (d : FlowsData) (laid : Laid) (p : Nodes) (n : ℕ) (at : Place) (id : FragId) (ids : List FragId) →
    TreesFit d laid p n at (id ∷ ids) → SplitFits d laid p n at id ids
split-fits d laid p n at id ids f = split-fits-at d laid p n at id ids f.are f.are.trees f.are.stand f.inside f.fit

-- ---- the first column of these and the others

pub record SplitRow (d : FlowsData) (laid : Laid) (p : Nodes) (n i : ℕ) (at : RowPlace) (id : FragId) (ids : List FragId)
    (t : Columns d laid p at (id ∷ ids)) : Type 0 where
  pub first : Column d laid p at id
  pub others : Columns d laid p at ids
  pub lines : columns_lines n i t ≡ column_lines n i first ++ columns_lines n (i + 1) others

split-row-at : (d : FlowsData) (laid : Laid) (p : Nodes) (n i : ℕ) (at : RowPlace) (id : FragId) (ids : List FragId)
    (t : Columns d laid p at (id ∷ ids)) (trees : PlainTrees) → t.trees ≡ trees → AllStandFor p (id ∷ ids) trees →
    SplitRow d laid p n i at id ids t
unfolding StandsFor lines_of_tree
split-row-at d laid p n i at id ids t no_trees e s = absurd s
split-row-at d laid p n i at id ids t (more_trees x xs) e s = record {
  first = record {
    given = t.given;
    frame = t.frame;
    row = t.row;
    y = t.y;
    height = t.height;
    tree = x;
    at_frame = t.at_frame;
    stands = s.0;
  };
  others = record {
    given = t.given;
    frame = t.frame;
    row = t.row;
    y = t.y;
    height = t.height;
    trees = xs;
    at_frame = t.at_frame;
    stand = s.1;
  };
  lines = ap (λ trees. lines_of_columns d (given_lines t.given n) t.row at.depth t.frame t.y t.height i trees) e;
}

pub split-row : (d : FlowsData) (laid : Laid) (p : Nodes) (n i : ℕ) (at : RowPlace) (id : FragId) (ids : List FragId)
    (t : Columns d laid p at (id ∷ ids)) → SplitRow d laid p n i at id ids t
split-row d laid p n i at id ids t = split-row-at d laid p n i at id ids t t.trees refl t.stand

none-row-at : (d : FlowsData) (laid : Laid) (p : Nodes) (n i : ℕ) (at : RowPlace) (t : Columns d laid p at []) (trees :
    PlainTrees) →
    t.trees ≡ trees → AllStandFor p [] trees → columns_lines n i t ≡ []
unfolding StandsFor lines_of_tree
none-row-at d laid p n i at t no_trees e s =
    ap (λ trees. lines_of_columns d (given_lines t.given n) t.row at.depth t.frame t.y t.height i trees) e
none-row-at d laid p n i at t (more_trees x xs) e s = absurd s

pub none-row : (d : FlowsData) (laid : Laid) (p : Nodes) (n i : ℕ) (at : RowPlace) (t : Columns d laid p at []) →
    columns_lines n i t ≡ []
none-row d laid p n i at t = none-row-at d laid p n i at t t.trees refl t.stand

pub record SplitRowFits (d : FlowsData) (laid : Laid) (p : Nodes) (n i : ℕ) (at : RowPlace) (id : FragId) (ids : List
    FragId) : Type 0
  where
    pub first : ColumnFits d laid p n at i id
    pub others : ColumnsFit d laid p n at (i + 1) ids

split-row-fits-at : (d : FlowsData) (laid : Laid) (p : Nodes) (n i : ℕ) (at : RowPlace) (id : FragId) (ids : List FragId)
    (t : Columns d laid p at (id ∷ ids)) (flow : ℕ) (trees : PlainTrees) → AllStandFor p (id ∷ ids) trees →
    AreInside d flow trees →
    All Fits (lines_of_columns d (given_lines t.given n) t.row at.depth t.frame t.y t.height i trees) →
    SplitRowFits d laid p n i at id ids
unfolding StandsFor lines_of_tree IsInside
split-row-fits-at d laid p n i at id ids t flow no_trees s inside fit = absurd s
split-row-fits-at d laid p n i at id ids t flow (more_trees x xs) s inside fit = record {
  first = record {
    is = record {
      given = t.given;
      frame = t.frame;
      row = t.row;
      y = t.y;
      height = t.height;
      tree = x;
      at_frame = t.at_frame;
      stands = s.0;
    };
    flow = flow;
    inside = inside.0;
    fits = all-left Fits (lines_of_column d (given_lines t.given n) t.row at.depth t.frame t.y t.height i x)
        (lines_of_columns d (given_lines t.given n) t.row at.depth t.frame t.y t.height (i + 1) xs) fit;
  };
  others = record {
    are = record {
      given = t.given;
      frame = t.frame;
      row = t.row;
      y = t.y;
      height = t.height;
      trees = xs;
      at_frame = t.at_frame;
      stand = s.1;
    };
    flow = flow;
    inside = inside.1;
    fit = all-right Fits (lines_of_column d (given_lines t.given n) t.row at.depth t.frame t.y t.height i x)
        (lines_of_columns d (given_lines t.given n) t.row at.depth t.frame t.y t.height (i + 1) xs) fit;
  };
}

pub split-row-fits : (d : FlowsData) (laid : Laid) (p : Nodes) (n i : ℕ) (at : RowPlace) (id : FragId) (ids : List FragId) →
    ColumnsFit d laid p n at i (id ∷ ids) → SplitRowFits d laid p n i at id ids
split-row-fits d laid p n i at id ids f = split-row-fits-at d laid p n i at id ids f.are f.flow f.are.trees f.are.stand
    f.inside f.fit

-- ---- loops over these

-- some are written, and these are left
pub record Written (d : FlowsData) (laid : Laid) (p : Nodes) (n : ℕ) (at : Place) (ids left : List FragId)
    (old new : List TreeLine) : Type 0 where
  pub fit : TreesFit d laid p n at left
  pub lines : (t : Trees d laid p at ids) → (u : Trees d laid p at left) ×
      (lines_of new ++ trees_lines n u ≡ lines_of old ++ trees_lines n t)

pub written-first : (d : FlowsData) (laid : Laid) (p : Nodes) (n : ℕ) (at : Place) (ids : List FragId) (old : List TreeLine) →
    TreesFit d laid p n at ids → Written d laid p n at ids ids old old
written-first d laid p n at ids old f = record { fit = f; lines = λ t. (t, refl) }

pub written-next : (d : FlowsData) (laid : Laid) (p : Nodes) (n : ℕ) (at : Place) (ids : List FragId) (id : FragId) (left :
    List FragId)
    (old new next : List TreeLine) → Written d laid p n at ids (id ∷ left) old new →
    ((t : Tree d laid p at id) → lines_of next ≡ lines_of new ++ tree_lines n t) → Written d laid p n at ids left old next
written-next d laid p n at ids id left old new next w one = record {
  fit = (split-fits d laid p n at id left w.fit).others;
  lines = λ t.
      let u = w.lines t in
      let s = split d laid p n at id left u.0 in (
        s.others,
        ap (λ l. l ++ trees_lines n s.others) (one s.first) ∙ append_assoc (lines_of new) (tree_lines n s.first)
            (trees_lines n s.others) ∙ sym (ap (λ l. lines_of new ++ l) s.lines) ∙ u.1,
      );
}

pub record WrittenRow (d : FlowsData) (laid : Laid) (p : Nodes) (n i : ℕ) (at : RowPlace) (ids left : List FragId)
    (old new : List TreeLine) : Type 0 where
  pub fit : ColumnsFit d laid p n at i left
  pub lines : (t : Columns d laid p at ids) → (u : Columns d laid p at left) ×
      (lines_of new ++ columns_lines n i u ≡ lines_of old ++ columns_lines n 0 t)

pub written-row-first : (d : FlowsData) (laid : Laid) (p : Nodes) (n : ℕ) (at : RowPlace) (ids : List FragId) (old : List
    TreeLine) →
    ColumnsFit d laid p n at 0 ids → WrittenRow d laid p n 0 at ids ids old old
written-row-first d laid p n at ids old f = record { fit = f; lines = λ t. (t, refl) }

pub written-row-next : (d : FlowsData) (laid : Laid) (p : Nodes) (n i : ℕ) (at : RowPlace) (ids : List FragId) (id : FragId)
    (left : List FragId) (old new next : List TreeLine) → WrittenRow d laid p n i at ids (id ∷ left) old new →
    ((t : Column d laid p at id) → lines_of next ≡ lines_of new ++ column_lines n i t) →
    WrittenRow d laid p n (i + 1) at ids left old next
written-row-next d laid p n i at ids id left old new next w one = record {
  fit = (split-row-fits d laid p n i at id left w.fit).others;
  lines = λ t.
      let u = w.lines t in
      let s = split-row d laid p n i at id left u.0 in (
        s.others,
        ap (λ l. l ++ columns_lines n (i + 1) s.others) (one s.first)
            ∙ append_assoc (lines_of new) (column_lines n i s.first) (columns_lines n (i + 1) s.others)
            ∙ sym (ap (λ l. lines_of new ++ l) s.lines) ∙ u.1,
      );
}

-- ---- a line, and what follows it

pub pushed : (old : List TreeLine) (l : TreeLine) (line : AnyLine) (rest whole : List AnyLine) → line_of l ≡ line →
    whole ≡ line ∷ rest →
    lines_of (old ++ l ∷ []) ++ rest ≡ lines_of old ++ whole
pushed old l line rest whole is e =
    ap (λ ls. ls ++ rest) (map-append line_of old (l ∷ [])) ∙ append_assoc (lines_of old) (line_of l ∷ []) rest
    ∙ ap (λ k. lines_of old ++ k ∷ rest) is ∙ sym (ap (λ ls. lines_of old ++ ls) e)

-- ---- at the end of a loop

pub written-last : (d : FlowsData) (laid : Laid) (p : Nodes) (n : ℕ) (at : Place) (ids left : List FragId) (old new : List
    TreeLine) →
    Written d laid p n at ids left old new → left ≡ [] → (t : Trees d laid p at ids) →
    lines_of new ≡ lines_of old ++ trees_lines n t
written-last d laid p n at ids [] old new w e t =
    let u = w.lines t in
    sym (append-nil (lines_of new)) ∙ sym (ap (λ l. lines_of new ++ l) (none d laid p n at u.0)) ∙ u.1
written-last d laid p n at ids (x ∷ xs) old new w e t = absurd (cc (e))

pub written-row-last : (d : FlowsData) (laid : Laid) (p : Nodes) (n i : ℕ) (at : RowPlace) (ids left : List FragId)
    (old new : List TreeLine) → WrittenRow d laid p n i at ids left old new → left ≡ [] → (t : Columns d laid p at ids) →
    lines_of new ≡ lines_of old ++ columns_lines n 0 t
written-row-last d laid p n i at ids [] old new w e t =
    let u = w.lines t in
    sym (append-nil (lines_of new)) ∙ sym (ap (λ l. lines_of new ++ l) (none-row d laid p n i at u.0)) ∙ u.1
written-row-last d laid p n i at ids (x ∷ xs) old new w e t = absurd (cc (e))
