-- The book of sizes as they are entered: which books are true, and what a book is after sizes are entered (this project's own).
use Rattle.std.specs.Prelude.{◌≡◌, suc, ◌<◌, true, false, List, ◌∷◌, ◌++◌, length, All}
use Rattle.flow_data.specs.declared.data.FlowsData.{FlowsData}
use Rattle.flow_list.specs.Certificate.{Use, stands_in, size_uses, entered}

-- each of these sizes stands in the book
abbrev pub AllStand : List Use → List Use → Type 0
AllStand book us = All (λ u. stands_in book u ≡ true) us

-- each of these is a size of one of the data's rows
abbrev pub AreOfRows : FlowsData → List Use → Type 0
AreOfRows d us = All (λ (u : Use). u.0 < length d.rows) us

-- A true book: no size stands in it twice, and each stands after the sizes that it uses itself.
pub record IsTrueBook (d : FlowsData) (book : List Use) : Type 0 where
  pub once : (first : List Use) (u : Use) (rest : List Use) → book ≡ first ++ u ∷ rest → stands_in first u ≡ false
  pub after_its_uses : (first : List Use) (u : Use) (rest : List Use) → book ≡ first ++ u ∷ rest → AllStand first (size_uses d u)

-- the book after these sizes are entered, deep enough for all rows of the data
unfoldable pub after_uses : FlowsData → List Use → List Use → List Use
after_uses d book us = entered d (suc (length d.rows)) book us
