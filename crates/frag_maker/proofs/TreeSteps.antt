-- The trees of what is placed, from one thing that stands there to the next, without a count.
use Rattle.std.proofs.Common.{◌≡◌, ℕ, zero, suc, ◌≤◌, Bool, true, false, cond, List, [], ◌∷◌, length}
use Rattle.std.proofs.Common.{Some, None, refl, ◌∙◌, ap, arith}
use Rattle.mc_base.specs.PlainTree.{PlainTree, plain_trees, piece, row_piece, atom as atom_tree}
use Rattle.flow_list.specs.Placing.{RowLaid, Placed, opens_at, closes_at, atom_at, row_at}
use Rattle.flow_list.specs.Fragments.{closes_here, inside_box, behind_box, bottom_of, trees_of, all_trees}

inside-le : (b : ℕ) (xs : List Placed) → length (inside_box b xs) ≤ length xs
inside-le b [] = omega arith
inside-le b (x ∷ xs) = go (closes_here b x) (inside-le b xs)
  where
    go : (c : Bool) → length (inside_box b xs) ≤ length xs → length (cond c [] (x ∷ inside_box b xs)) ≤ length (x ∷ xs)
    go true le = omega arith
    go false le = omega arith

behind-le : (b : ℕ) (xs : List Placed) → length (behind_box b xs) ≤ length xs
behind-le b [] = omega arith
behind-le b (x ∷ xs) = go (closes_here b x) (behind-le b xs)
  where
    go : (c : Bool) → length (behind_box b xs) ≤ length xs → length (cond c xs (behind_box b xs)) ≤ length (x ∷ xs)
    go true le = omega arith
    go false le = omega arith

module _ (columns : RowLaid → List PlainTree) where
  -- the piece of a row that stands at y
  abbrev row_tree : RowLaid → ℕ → PlainTree
  row_tree r y = row_piece r.row r.from y (cond r.filled None (Some r.height)) (plain_trees (columns r))

  -- a greater count than needed changes nothing
  trees-enough : (n m : ℕ) (xs : List Placed) → length xs ≤ n → length xs ≤ m → trees_of columns n xs ≡ trees_of columns m xs
  unfolding trees_of
  trees-enough zero zero xs a b = refl
  trees-enough zero (suc m) [] a b = refl
  trees-enough zero (suc m) (x ∷ xs) a b = absurd (omega arith)
  trees-enough (suc n) zero [] a b = refl
  trees-enough (suc n) zero (x ∷ xs) a b = absurd (omega arith)
  trees-enough (suc n) (suc m) [] a b = refl
  trees-enough (suc n) (suc m) (opens_at c y starts ∷ xs) a b =
      let i = inside-le c xs in
      let e = behind-le c xs in
      ap (λ ts. piece c starts y (bottom_of c xs) (plain_trees ts) ∷ trees_of columns n (behind_box c xs))
      (trees-enough n m (inside_box c xs) (omega arith) (omega arith))
      ∙ ap (λ ts. piece c starts y (bottom_of c xs) (plain_trees (trees_of columns m (inside_box c xs))) ∷ ts)
      (trees-enough n m (behind_box c xs) (omega arith) (omega arith))
  trees-enough (suc n) (suc m) (closes_at c y ∷ xs) a b = trees-enough n m xs (omega arith) (omega arith)
  trees-enough (suc n) (suc m) (atom_at k y ∷ xs) a b =
      ap (λ ts. atom_tree k y ∷ ts) (trees-enough n m xs (omega arith) (omega arith))
  trees-enough (suc n) (suc m) (row_at r y ∷ xs) a b =
      ap (λ ts. row_tree r y ∷ ts) (trees-enough n m xs (omega arith) (omega arith))

  pub trees-none : all_trees columns [] ≡ []
  unfolding trees_of
  trees-none = refl

  -- where a box starts or continues: what stands before its end is in it
  pub trees-opens : (b y : ℕ) (starts : Bool) (xs : List Placed) → all_trees columns (opens_at b y starts ∷ xs)
      ≡ piece b starts y (bottom_of b xs) (plain_trees (all_trees columns (inside_box b xs))) ∷ all_trees columns
      (behind_box b xs)
  unfolding trees_of
  trees-opens b y starts xs =
      ap (λ ts. piece b starts y (bottom_of b xs) (plain_trees ts) ∷ trees_of columns (length xs) (behind_box b xs))
      (trees-enough (length xs) (length (inside_box b xs)) (inside_box b xs) (inside-le b xs) (omega arith))
      ∙ ap (λ ts. piece b starts y (bottom_of b xs) (plain_trees (all_trees columns (inside_box b xs))) ∷ ts)
      (trees-enough (length xs) (length (behind_box b xs)) (behind_box b xs) (behind-le b xs) (omega arith))

  pub trees-closes : (b y : ℕ) (xs : List Placed) → all_trees columns (closes_at b y ∷ xs) ≡ all_trees columns xs
  unfolding trees_of
  trees-closes b y xs = refl

  pub trees-atom : (k y : ℕ) (xs : List Placed) → all_trees columns (atom_at k y ∷ xs) ≡ atom_tree k y ∷ all_trees columns xs
  unfolding trees_of
  trees-atom k y xs = refl

  pub trees-row : (r : RowLaid) (y : ℕ) (xs : List Placed) → all_trees columns (row_at r y ∷ xs)
      ≡ row_piece r.row r.from y (cond r.filled None (Some r.height)) (plain_trees (columns r)) ∷ all_trees columns xs
  unfolding trees_of
  trees-row r y xs = refl
