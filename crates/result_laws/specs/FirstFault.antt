-- The fault that is told of a text is its first (this project's own).
use Rattle.std.specs.Prelude.{◌≡◌, ◌≢◌, ℕ, ◌<◌, ◌≤◌, ◌⊎◌, List, [], ◌∷◌, ◌++◌, length, take, drop, get_or, All, Err}
use Rattle.mc_base.specs.declared.read_error.Fault.{Fault}
use Rattle.result_laws.specs.Given.{GivenResult, IsResult}
use Rattle.result_laws.specs.Reading.{result_of}

-- Some result begins with these bytes.
abbrev pub BeginsResult : List ℕ → Type 0
BeginsResult front = (rest : List ℕ) × (r : GivenResult) × IsResult (front ++ rest) r

-- from space to `~`, or a line feed
abbrev pub IsTextByte : ℕ → Type 0
IsTextByte b = ((32 ≤ b) × (b ≤ 126)) ⊎ (b ≡ 10)

-- Rule 1 stands at the first byte that may stand in no result. Any other fault stands at a line or at the end of the text: some
-- result begins with all that is before it, and none with that and the whole line at which it stands, where a line feed ends it.
pub record IsFirstFault (text : List ℕ) (f : Fault) : Type 0 where
  pub wrong_byte : f.rule ≡ 1 → (f.at < length text) × (IsTextByte (get_or text f.at 0) → ⊥) × All IsTextByte (take f.at text)
  pub begins : f.rule ≢ 1 → BeginsResult (take f.at text)
  pub refused : f.rule ≢ 1 → (line rest : List ℕ) → drop f.at text ≡ line ++ 10 ∷ rest → All (λ b. b ≢ 10) line
      → BeginsResult (take f.at text ++ (line ++ 10 ∷ [])) → ⊥

-- The law: the fault of a text that is no result is its first.
abbrev pub FaultsAreFirst : List ℕ → Type 0
FaultsAreFirst text = (f : Fault) → result_of text ≡ Err f → IsFirstFault text f
