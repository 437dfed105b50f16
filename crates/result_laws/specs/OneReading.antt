-- A text says at most one result: the one that is read in it (this project's own).
use Rattle.std.specs.Prelude.{◌≡◌, ℕ, List, Ok}
use Rattle.result_laws.specs.Given.{GivenResult, IsResult}
use Rattle.result_laws.specs.Reading.{result_of}

-- The law: a text is a result exactly where that result is read in it, so it is one result at most.
pub record OneReading (text : List ℕ) : Type 0 where
  pub read : (r : GivenResult) → IsResult text r → result_of text ≡ Ok r
  pub said : (r : GivenResult) → result_of text ≡ Ok r → IsResult text r
  pub alone : (r s : GivenResult) → IsResult text r → IsResult text s → r ≡ s
