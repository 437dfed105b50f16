-- What is so of the trees of a layout, and stays so where pieces in them are lowered: they name parts that there are, nothing
-- stands lower than all that its flow holds, and a piece of a row has few columns, none of which reaches far.
use Rattle.std.proofs.Common.{◌≡◌, ℕ, suc, ◌+◌, ◌-◌, ◌<◌, ◌≤◌, ◌^◌, max, Bool, true, false, cond, length, Option, Some, None}
use Rattle.std.proofs.Common.{refl, ap, arith}
use Rattle.mc_base.specs.PlainTree.{PlainTree, PlainTrees, atom as atom_tree, piece, row_piece, column as column_tree, no_trees}
use Rattle.mc_base.specs.PlainTree.{more_trees}
use Rattle.flow_list.specs.Data.{FlowsData, Row}
use Rattle.flow_data.specs.Flows.{box_of, row_of, flow_of, item_of}
use Rattle.flow_data.specs.Soundness.{IsSound}
use Rattle.flow_list.specs.Tokens.{Token}
use Rattle.flow_laws.proofs.HeldSums.{height_held, items_held}
use Rattle.flow_laws.proofs.PlacedSums.{whole}
use Rattle.tree_lines.specs.Shown.{ItemIsInside, IsInside, AreInside}
use Rattle.piece_data.specs.LeastPiece.{least_height}
use Rattle.piece_data.specs.Lowering.{Flags, is_flagged, made_height, lowered_in, all_lowered_in}
use Rattle.lowered_laws.proofs.LeastSmall.{least-small}

-- how many trees these are
abbrev pub count_of : PlainTrees → ℕ
count_of no_trees = 0
count_of (more_trees tree trees) = 1 + count_of trees

module _ (d : FlowsData) where
  -- what row r counts in the flow that it stands in, n flows deep and as many as its own heights need
  abbrev pub total : ℕ → ℕ → ℕ
  total n r = height_held d (n + suc (length d.rows)) (row_of d r).flow

  -- a place is no lower than all that flow f holds, however deep that is counted
  abbrev pub IsWithin : ℕ → ℕ → Type 0
  IsWithin f y = (n : ℕ) → y ≤ whole d (flow_of d f) (total n)

  abbrev pub BottomIsWithin : ℕ → Option ℕ → Type 0
  BottomIsWithin f None = Unit {0}
  BottomIsWithin f (Some bottom) = IsWithin f bottom

  -- row r is an item of flow f, and with all that it holds no lower than all that the flow holds
  pub record RowIsWithin (f r y : ℕ) : Type 0 where
    pub item : ℕ
    pub lt : item < length (flow_of d f).items
    pub is : item_of (flow_of d f) item ≡ Row r
    pub low : (n : ℕ) → y + total n r ≤ whole d (flow_of d f) (total n)

  -- a height is below 2^60 where what row r counts is
  abbrev pub HeightIsSmall : ℕ → Option ℕ → Type 0
  HeightIsSmall r None = Unit {0}
  HeightIsSmall r (Some height) = height ≤ max (2 ^ 60 - 1) (total 0 r)

  -- no more columns of row r than it may have where it is filled, or than it has items
  pub record AreFew (r count : ℕ) : Type 0 where
    pub deep : ℕ
    pub le : count ≤ 32 + items_held d deep (row_of d r).flow

  unfoldable mutual
    -- a tree in flow f
    pub IsSettled : (f : ℕ) → PlainTree → Type 0
    IsSettled f (atom_tree k y) =
        (f < length d.flows) × (k < length (flow_of d f).items) × ItemIsInside d (item_of (flow_of d f) k) × IsWithin f y
    IsSettled f (piece b starts y bottom kids) =
        (b < length d.boxes) × IsWithin f y × BottomIsWithin f bottom × AreSettled f kids
    IsSettled f (row_piece r from y height cols) =
        (r < length d.rows) × RowIsWithin f r y × HeightIsSmall r height × AreFew r (count_of cols) × AreColumns r cols
    IsSettled f (column_tree number from end extent kids) = (number ≡ f) × (extent < 2 ^ 60) × AreSettled number kids

    pub AreSettled : (f : ℕ) → PlainTrees → Type 0
    AreSettled f no_trees = Unit {0}
    AreSettled f (more_trees tree trees) = IsSettled f tree × AreSettled f trees

    -- columns of row r
    pub AreColumns : (r : ℕ) → PlainTrees → Type 0
    AreColumns r no_trees = Unit {0}
    AreColumns r (more_trees tree trees) = IsColumn r tree × AreColumns r trees

    pub IsColumn : (r : ℕ) → PlainTree → Type 0
    IsColumn r (atom_tree k y) = ⊥
    IsColumn r (piece b starts y bottom kids) = ⊥
    IsColumn r (row_piece s from y height cols) = ⊥
    IsColumn r (column_tree number from end extent kids) =
        (number ≡ (row_of d r).flow) × (extent < 2 ^ 60) × AreSettled number kids

  -- columns of row r, few enough
  pub record AreGood (r : ℕ) (cols : PlainTrees) : Type 0 where
    pub few : AreFew r (count_of cols)
    pub columns : AreColumns r cols

  -- ---- so they name parts that there are

  mutual
    unfolding IsSettled AreSettled AreColumns IsColumn IsInside AreInside

    pub settled-inside : (f : ℕ) (tree : PlainTree) → IsSettled f tree → IsInside d f tree
    settled-inside f (atom_tree k y) ok = (ok.0, ok.1, ok.2)
    settled-inside f (piece b starts y bottom kids) ok = (ok.0, all-inside f kids ok.3)
    settled-inside f (row_piece r from y height cols) ok = (ok.0, columns-inside f r cols ok.4)
    settled-inside f (column_tree number from end extent kids) ok = all-inside number kids ok.2

    pub all-inside : (f : ℕ) (trees : PlainTrees) → AreSettled f trees → AreInside d f trees
    all-inside f no_trees ok = tt
    all-inside f (more_trees tree trees) ok = (settled-inside f tree ok.0, all-inside f trees ok.1)

    columns-inside : (f r : ℕ) (trees : PlainTrees) → AreColumns r trees → AreInside d f trees
    columns-inside f r no_trees ok = tt
    columns-inside f r (more_trees tree trees) ok = (column-inside f r tree ok.0, columns-inside f r trees ok.1)

    column-inside : (f r : ℕ) (tree : PlainTree) → IsColumn r tree → IsInside d f tree
    column-inside f r (atom_tree k y) ok = absurd ok
    column-inside f r (piece b starts y bottom kids) ok = absurd ok
    column-inside f r (row_piece s from y height cols) ok = absurd ok
    column-inside f r (column_tree number from end extent kids) ok = all-inside number kids ok.2

  -- ---- and stay so

  module _ (sound : IsSound d) (flags : Flags) (inside : ℕ → Token → ℕ → PlainTrees) where
    count-same : (room : ℕ) (trees : PlainTrees) → count_of (all_lowered_in d flags inside room trees) ≡ count_of trees
    unfolding all_lowered_in
    count-same room no_trees = refl
    count-same room (more_trees tree trees) = ap (λ n. 1 + n) (count-same room trees)

    few-same : (r room : ℕ) (trees : PlainTrees) → AreFew r (count_of trees)
        → AreFew r (count_of (all_lowered_in d flags inside room trees))
    few-same r room trees few = rw (count-same room trees) few

    module _ (good : (r : ℕ) (q : Token) (h : ℕ) → r < length d.rows → AreGood r (inside r q h)) where
      mutual
        unfolding IsSettled AreSettled AreColumns IsColumn lowered_in all_lowered_in

        pub lowered-settled : (f room : ℕ) (tree : PlainTree) → IsSettled f tree
            → IsSettled f (lowered_in d flags inside room tree)
        lowered-settled f room (atom_tree k y) ok = ok
        lowered-settled f room (piece b starts y bottom kids) ok =
            (ok.0, ok.1, ok.2, all-lowered f (room - (box_of d b).bottom) kids ok.3)
        lowered-settled f room (row_piece r from y None cols) ok =
            go (is_flagged flags r) (columns-lowered r (room - y) cols ok.4)
          where
            go : (b : Bool) → AreColumns r (all_lowered_in d flags inside (room - y) cols) → IsSettled f (cond b
                (row_piece r from y (Some (least_height d r from (room - y))) (inside r from (least_height d r from (room - y))))
                (row_piece r from y None (all_lowered_in d flags inside (room - y) cols)))
            go true kept =
                let made = good r from (least_height d r from (room - y)) ok.0 in
                let small = least-small d sound r ok.0 from (room - y) in
                (ok.0, ok.1, omega arith, made.few, made.columns)
            go false kept = (ok.0, ok.1, tt, few-same r (room - y) cols ok.3, kept)
        lowered-settled f room (row_piece r from y (Some height) cols) ok = (
          ok.0,
          ok.1,
          ok.2,
          few-same r (made_height d r height) cols ok.3,
          columns-lowered r (made_height d r height) cols ok.4,
        )
        lowered-settled f room (column_tree number from end extent kids) ok =
            (ok.0, ok.1, all-lowered number room kids ok.2)

        pub all-lowered : (f room : ℕ) (trees : PlainTrees) → AreSettled f trees
            → AreSettled f (all_lowered_in d flags inside room trees)
        all-lowered f room no_trees ok = tt
        all-lowered f room (more_trees tree trees) ok = (lowered-settled f room tree ok.0, all-lowered f room trees ok.1)

        pub columns-lowered : (r room : ℕ) (trees : PlainTrees) → AreColumns r trees
            → AreColumns r (all_lowered_in d flags inside room trees)
        columns-lowered r room no_trees ok = tt
        columns-lowered r room (more_trees tree trees) ok = (column-lowered r room tree ok.0, columns-lowered r room trees ok.1)

        column-lowered : (r room : ℕ) (tree : PlainTree) → IsColumn r tree → IsColumn r (lowered_in d flags inside room tree)
        column-lowered r room (atom_tree k y) ok = absurd ok
        column-lowered r room (piece b starts y bottom kids) ok = absurd ok
        column-lowered r room (row_piece s from y height cols) ok = absurd ok
        column-lowered r room (column_tree number from end extent kids) ok =
            (ok.0, ok.1, all-lowered number room kids ok.2)

      pub good-lowered : (r room : ℕ) (trees : PlainTrees) → AreGood r trees
          → AreGood r (all_lowered_in d flags inside room trees)
      good-lowered r room trees ok =
          record { few = few-same r room trees ok.few; columns = columns-lowered r room trees ok.columns }
