-- What is filed under a name.
use Rattle.std.specs.Prelude.{◌≡◌, ◌<◌, ℕ, List, Option, Some, slice_get, option_and_then, nat_eq, length, Vec}
use Rattle.std.specs.Cmp.Lexicographic.{pointwise}
use Rattle.std.specs.declared.alloc.Global.{Global}
use Rattle.indexmap.specs.IndexMap.{get_by}
use Rattle.css_winner.specs.declared.filing.Place.{Place}
use Rattle.css_winner.specs.declared.filing.Filing.{Filing}

-- the number of a name
abbrev pub number_of : Filing → List ℕ → Option ℕ
number_of filing name = get_by (λ key. pointwise nat_eq name key.items) filing.numbers

-- the selector at a place of a list of lists
abbrev pub place_at : List (Vec Place Global) → ℕ → ℕ → Option Place
place_at lists number at = option_and_then (λ list. slice_get list.items at) (slice_get lists number)

-- a name has this number, and the list of that number has the selector
pub record IsFiled (filing : Filing) (name : List ℕ) (place : Place) : Type 0 where
  pub number : ℕ
  pub numbered : number_of filing name ≡ Some number
  pub at : ℕ
  pub listed : place_at filing.lists.items number at ≡ Some place

-- each number has its list
abbrev pub IsSound : Filing → Type 0
IsSound filing = (name : List ℕ) (number : ℕ) → number_of filing name ≡ Some number → number < length filing.lists.items
