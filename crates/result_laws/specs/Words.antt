-- What is read in the words of a line.
use Rattle.std.specs.Prelude.{ℕ, ◌==◌, nat_lt, nat_le, ◌^◌, List, [], ◌∷◌, length, Bool, true, false, Option, Some, None, codes}
use Rattle.std.specs.Prelude.{if◌then◌else◌}
use Rattle.std.specs.Str.{bytes_eq}
use Rattle.flow_text.specs.Numbers.{number_at}
use Rattle.flow_list.specs.Tokens.{Token}

-- what stands between bytes of one value
abbrev pub onto : ℕ → List (List ℕ) → List (List ℕ)
onto b [] = (b ∷ []) ∷ []
onto b (w ∷ ws) = (b ∷ w) ∷ ws

unfoldable pub parted : ℕ → List ℕ → List (List ℕ)
parted stop [] = [] ∷ []
parted stop (b ∷ bytes) = let rest = parted stop bytes in elim (b == stop) [ true ↦ [] ∷ rest | false ↦ onto b rest ]

abbrev pub words_of : List ℕ → List (List ℕ)
words_of text = parted 32 text

infixl 10 ◌>>=◌
abbrev pub ◌>>=◌ : {A B : Type 0} → Option A → (A → Option B) → Option B
None >>= f = None
(Some x) >>= f = f x

abbrev pub all_of : ℕ × List ℕ → Option ℕ
all_of (n, []) = Some n
all_of (n, b ∷ bytes) = None

-- a word that is a number
unfoldable pub number_of : List ℕ → Option ℕ
number_of word = number_at word >>= all_of

abbrev pub where_true : {A : Type 0} → Bool → A → Option A
where_true true x = Some x
where_true false x = None

unfoldable pub small_of : List ℕ → Option ℕ
small_of word = number_of word >>= λ n. where_true (nat_lt n (2 ^ 32)) n

abbrev pub smalls_of : List (List ℕ) → Option (List ℕ)
smalls_of [] = Some []
smalls_of (w ∷ ws) = small_of w >>= λ n. smalls_of ws >>= λ ns. Some (n ∷ ns)

abbrev pub numbers_of : List (List ℕ) → Option (List ℕ)
numbers_of [] = Some []
numbers_of (w ∷ ws) = number_of w >>= λ n. numbers_of ws >>= λ ns. Some (n ∷ ns)

unfoldable pub token_of : List ℕ → Option Token
token_of word = smalls_of (parted 46 word) >>= λ q. where_true (nat_le (length q) 3) q

-- `-`, or a number that is read so
abbrev pub dash_or : (List ℕ → Option ℕ) → List ℕ → Option (Option ℕ)
dash_or read word = if bytes_eq word (codes "-") then Some None else (read word >>= λ n. Some (Some n))

abbrev pub end_of_word : List ℕ → Option (Option Token)
end_of_word word = if bytes_eq word (codes "!") then Some None else (token_of word >>= λ q. Some (Some q))

abbrev pub yes_or_no : List ℕ → Option Bool
yes_or_no word = if bytes_eq word (codes "yes") then Some true else (if bytes_eq word (codes "no") then Some false else None)
