-- The words of a line, as they are taken from its front (this project's own).
use Rattle.std.specs.Prelude.{ℕ, List, [], ◌∷◌, length, nat_le, Option, Some, None}
use Rattle.flow_list.specs.Tokens.{Token}
use Rattle.result_laws.specs.Words.{parted, smalls_of, where_true, ◌>>=◌}

-- the parts behind the byte at the front
abbrev pub behind : ℕ → List ℕ → List (List ℕ)
behind stop [] = []
behind stop (b ∷ bytes) = parted stop bytes

abbrev pub two_of : List (List ℕ) → Option (List ℕ × List ℕ)
two_of (a ∷ b ∷ []) = Some (a, b)
two_of _ = None

abbrev pub three_of : List (List ℕ) → Option (List ℕ × List ℕ × List ℕ)
three_of (a ∷ b ∷ c ∷ []) = Some (a, b, c)
three_of _ = None

abbrev pub four_of : List (List ℕ) → Option (List ℕ × List ℕ × List ℕ × List ℕ)
four_of (a ∷ b ∷ c ∷ d ∷ []) = Some (a, b, c, d)
four_of _ = None

-- a place of at most this many numbers
abbrev pub token_to : ℕ → List ℕ → Option Token
token_to most word = smalls_of (parted 46 word) >>= λ q. where_true (nat_le (length q) most) q
