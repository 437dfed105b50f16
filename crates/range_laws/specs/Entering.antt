-- Sizes are entered in a book in one order, each once and after the sizes that it uses itself (this project's own).
use Rattle.std.specs.Prelude.{◌≡◌, ℕ, ◌<◌, ◌≤◌, false, List, [], ◌∷◌, ◌++◌, length, All}
use Rattle.std.specs.List.{flat_map}
use Rattle.flow_list.specs.Data.{FlowsData}
use Rattle.flow_list.specs.Tokens.{Token}
use Rattle.flow_list.specs.Rows.{all_rows}
use Rattle.flow_list.specs.RowHeights.{size_of}
use Rattle.flow_list.specs.Ranges.{judged}
use Rattle.flow_list.specs.Certificate.{Use, stands_in, uses_of, columns_from, size_ranges, range_uses, size_uses, entered}
use Rattle.flow_list.specs.Book.{AllStand, AreOfRows, IsTrueBook, after_uses}

-- a book with further sizes after its own
pub record Extends (old new : List Use) : Type 0 where
  pub more : List Use
  pub is : new ≡ old ++ more

-- The law of entering, of any data.
pub record UsesEnter (d : FlowsData) : Type 0 where
  -- two lists entered one after the other are their concatenation entered
  pub one_list : (book us vs : List Use) → after_uses d (after_uses d book us) vs ≡ after_uses d book (us ++ vs)
  -- a book only grows
  pub extends : (book us : List Use) → Extends book (after_uses d book us)
  -- what was entered stands there
  pub stand : (book us : List Use) → AllStand (after_uses d book us) us
  -- where all stand there nothing changes
  pub none_new : (book us : List Use) → AllStand book us → after_uses d book us ≡ book

-- What a size uses are sizes of the data's rows of greater numbers.
abbrev pub UsesAreLater : FlowsData → Use → Type 0
UsesAreLater d u = All (λ (v : Use). (u.0 < v.0) × (v.0 < length d.rows)) (size_uses d u)

-- The law of the book, of sound flows.
pub record BookStaysTrue (d : FlowsData) : Type 0 where
  -- a size uses sizes of later rows alone
  pub uses_are_later : (u : Use) → u.0 < length d.rows → UsesAreLater d u
  -- a true book stays true
  pub stays_true : (book us : List Use) → AreOfRows d us → IsTrueBook d book → IsTrueBook d (after_uses d book us)
  -- a depth as great as the count of rows, or greater, enters the same
  pub depth : (depth : ℕ) (book us : List Use) → AreOfRows d us → length d.rows ≤ depth →
      entered d depth book us ≡ after_uses d book us
  -- a size isn't entered with those that it uses
  pub not_itself : (book : List Use) (u : Use) → u.0 < length d.rows → stands_in book u ≡ false →
      stands_in (after_uses d book (size_uses d u)) u ≡ false
  -- so one that isn't there is entered right after them
  pub one_size : (book : List Use) (u : Use) → u.0 < length d.rows → stands_in book u ≡ false →
      after_uses d book (u ∷ []) ≡ after_uses d book (size_uses d u) ++ u ∷ []

-- The law of a size's own columns, of row r of sound flows from a place on.
pub record OwnColumnsEnter (d : FlowsData) (r : ℕ) (q : Token) : Type 0 where
  -- they are the columns that are judged at the size
  pub judged_there : columns_from d r q (size_of d r q) ≡ judged (all_rows d) d r q (size_of d r q)
  -- what they use is entered after what the ranges use
  pub after_ranges : (book : List Use) → after_uses d book (size_uses d (r, q)) ≡
      after_uses d (after_uses d book (flat_map (range_uses d r q) (size_ranges d r q)))
      (uses_of (judged (all_rows d) d r q (size_of d r q)))
  -- where all of it stands there then, nothing new is entered for them
  pub none_new : (book : List Use) → AllStand (after_uses d book (flat_map (range_uses d r q) (size_ranges d r q)))
      (uses_of (judged (all_rows d) d r q (size_of d r q))) →
      after_uses d book (size_uses d (r, q)) ≡ after_uses d book (flat_map (range_uses d r q) (size_ranges d r q))
