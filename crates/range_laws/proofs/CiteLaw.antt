-- The law that each line of a range cites sizes that stand before it.
use Rattle.std.proofs.Common.{◌≡◌, ℕ, ◌==◌, ◌⊎◌, inl, inr, false, cond, List, [], ◌∷◌, length, refl, subst, sym, ◌∙◌, ap, arith}
use Rattle.std.proofs.Common.{Option}
use Rattle.std.specs.Prelude.{All}
use Rattle.std.specs.List.{flat_map}
use Rattle.std.proofs.lemmas.Bool.Decides.{nat_tests}
use Rattle.std.proofs.lemmas.List.Elements.{All-nil, All-cons}
use Rattle.flow_list.specs.Data.{FlowsData}
use Rattle.flow_data.specs.Flows.{row_of, flow_in}
use Rattle.flow_laws.specs.RangeLaws.{told_of, RangesAccount}
use Rattle.flow_list.specs.Book.{AllStand}
use Rattle.flow_list.specs.Certificate.{Use, column_owned, owned_to, range_owned, range_uses, uses_of}
use Rattle.flow_list.specs.Column.{ColumnLine, column}
use Rattle.flow_list.specs.Ranges.{Range, Reason, tall, area, left, bad, over, judged, lines_of}
use Rattle.flow_list.specs.Rows.{fails, most_columns, rows_to, all_rows}
use Rattle.flow_list.specs.Tokens.{Token}
use Rattle.range_laws.specs.Cites.{HasListForEachLine, CitesStand, LinesCite}
use Rattle.range_laws.specs.Entries.{LinesCiteIn}
use Rattle.range_laws.proofs.Cites.{chain-lists, column-lists, fills-have-lists}
use Rattle.range_laws.proofs.CitesStand.{EachStand, chain-stand, column-stand, fills-stand}
use Rattle.range_laws.proofs.Standing.{Stand, stand-all, all-stand, stand-front, stand-back}

each-all : (book : List Use) (lists : List (List Use)) → EachStand book lists → All (AllStand book) lists
each-all book [] e = All-nil (AllStand book)
each-all book (us ∷ lists) e = All-cons (AllStand book) us lists (stand-all book us e.0) (each-all book lists e.1)

module _ (d : FlowsData) (r : ℕ) (q : Token) where
  owned-length : (x : Range) → length (range_owned d r q x) ≡ length (lines_of (judged (all_rows d) d r q x.low))
  unfolding range_owned judged all_rows
  owned-length x =
      let n = length d.rows in
      chain-lists (λ t. column (rows_to d n) d (flow_in d r) t x.low) (flow_in d r) fails
      (λ t. column_owned (owned_to d n) (rows_to d n) d (flow_in d r) t x.low)
      (λ t. column-lists (owned_to d n) (rows_to d n) (fills-have-lists d n) d (flow_in d r) t x.low)
      (most_columns (row_of d r).n (flow_in d r) q) q

  owned-stand : (book : List Use) (x : Range) → Stand book (uses_of (judged (all_rows d) d r q x.low)) →
      EachStand book (range_owned d r q x)
  unfolding range_owned judged all_rows
  owned-stand book x s =
      let n = length d.rows in
      chain-stand book (λ t. column (rows_to d n) d (flow_in d r) t x.low) (flow_in d r) fails
      (λ t. column_owned (owned_to d n) (rows_to d n) d (flow_in d r) t x.low)
      (λ t. column-stand book (owned_to d n) (rows_to d n) (fills-stand book d n) d (flow_in d r) t x.low)
      (most_columns (row_of d r).n (flow_in d r) q) q s

  told-cases : (low : ℕ) (w : Reason) → (told_of d r q low w ≡ []) ⊎ (told_of d r q low w ≡ judged (all_rows d) d r q low)
  told-cases low (tall k) = inl refl
  told-cases low area = inl refl
  told-cases low (left at) = inr refl
  told-cases low (bad c) = inr refl
  told-cases low (over c) = inr refl

  has-list : (x : Range) → x.lines ≡ lines_of (told_of d r q x.low x.reason) → HasListForEachLine d r q x
  has-list x told = go (told-cases x.low x.reason)
    where
      go : (told_of d r q x.low x.reason ≡ []) ⊎ (told_of d r q x.low x.reason ≡ judged (all_rows d) d r q x.low) →
          HasListForEachLine d r q x
      go (inl none) = inl (told ∙ ap lines_of none)
      go (inr same) = inr (owned-length x ∙ sym (ap length (told ∙ ap lines_of same)))

  pub cites-stand : (x : Range) → CitesStand d r q x
  cites-stand x = go x.lines refl
    where
      go : (ls : List ColumnLine) → x.lines ≡ ls → CitesStand d r q x
      go [] e = inl e
      go (l ∷ ls) e =
          let some : (length x.lines == 0) ≡ false = ap (λ xs. length xs == 0) e ∙ grind (arith, nat_tests) in
          inr (λ book stand. each-all book (range_owned d r q x) (owned-stand book x
          (all-stand book _ (subst (λ b. AllStand book (cond b [] (uses_of (judged (all_rows d) d r q x.low)))) some stand))))

  pub lines-cite : (available : Option ℕ) → RangesAccount d r q available → LinesCite d r q available
  lines-cite available law = record {
    one_list_each = λ k e lt. has-list _ (law.each_tells k e lt);
    cites_stand = λ k e lt. cites-stand _;
  }

  -- so in each book that holds what these ranges use
  pub lines-cite-in : (book : List Use) (xs : List Range) → Stand book (flat_map (range_uses d r q) xs) →
      LinesCiteIn d book (r, q) xs
  lines-cite-in book [] stand = All-nil (λ (x : Range). (x.lines ≡ []) ⊎ All (AllStand book) (range_owned d r q x))
  lines-cite-in book (x ∷ xs) stand =
      All-cons (λ (x : Range). (x.lines ≡ []) ⊎ All (AllStand book) (range_owned d r q x)) x xs (go (cites-stand x))
      (lines-cite-in book xs (stand-back book (range_uses d r q x) (flat_map (range_uses d r q) xs) stand))
    where
      go : CitesStand d r q x → (x.lines ≡ []) ⊎ All (AllStand book) (range_owned d r q x)
      go (inl none) = inl none
      go (inr some) =
          inr (some book (stand-all book (range_uses d r q x)
          (stand-front book (range_uses d r q x) (flat_map (range_uses d r q) xs) stand)))
