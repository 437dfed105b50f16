-- Lists of selectors (Selectors 3, sections 4, 5 and 8): compound selectors with a join between two, and selectors with a comma
-- between two. White space may stand around > + ~ and the comma, and around the list.
use Rattle.std.specs.Prelude.{◌≡◌, ℕ, List, [], ◌∷◌, true, Option, Some, None}
use Rattle.mc_base.specs.declared.refusal.Found.{Found}
use Rattle.css_data.specs.declared.selector.Selector.{Selector}
use Rattle.css_data.specs.declared.selector.Test.{Test}
use Rattle.css_data.specs.declared.selector.Join.{Join}
use Rattle.css_data.specs.declared.selector.Join.TheVariants.{Descendant, Child, Next, Later}
use Rattle.css_tokens.specs.declared.lexeme.Lexeme.{Lexeme}
use Rattle.css_tokens.specs.Facts.{is_space, is_delim, ident_of}
use Rattle.css_prelude.specs.declared.pseudo.Tested.{Tested}
use Rattle.css_prelude.specs.declared.compound.Compounded.{Compounded}
use Rattle.css_prelude.specs.declared.selecting.Selectors.{Selectors}
use Rattle.css_prelude.specs.Words.{or_found}
use Rattle.css_prelude.specs.Selecting.{selectors_of}
use Rattle.selector_laws.specs.Spaces.{AreSpaces, Spaced, IsSign}
use Rattle.selector_laws.specs.Tests.{IsTest}

-- what joins two compound selectors, and the rest
abbrev pub IsJoin : Join → List Lexeme → List Lexeme → Type 0
IsJoin Descendant xs rest = (space : Lexeme) × (more : List Lexeme) × (xs ≡ space ∷ more) × (is_space space ≡ true)
    × Spaced more rest
IsJoin Child xs rest = IsSign 62 xs rest
IsJoin Next xs rest = IsSign 43 xs rest
IsJoin Later xs rest = IsSign 126 xs rest

-- Compound selectors.

-- neither a type nor *, or *, or a type, and the rest
abbrev pub IsElement : Option (Option (List ℕ)) → List Lexeme → List Lexeme → Type 0
IsElement None xs rest = xs ≡ rest
IsElement (Some None) xs rest = (star : Lexeme) × (xs ≡ star ∷ rest) × (is_delim 42 star ≡ true)
IsElement (Some (Some name)) xs rest = (type : Lexeme) × (xs ≡ type ∷ rest) × (ident_of type ≡ Some name)

-- tests one after the other, and the rest
abbrev pub AreTests : List Tested → List Lexeme → List Lexeme → Type 0
AreTests [] xs rest = xs ≡ rest
AreTests (t ∷ ts) xs rest = (more : List Lexeme) × IsTest t xs more × AreTests ts more rest

abbrev pub named : Option (Option (List ℕ)) → Option (List ℕ)
named None = None
named (Some name) = name

abbrev pub tests_in : List Tested → List Test
tests_in [] = []
tests_in (t ∷ ts) = t.test ∷ tests_in ts

-- the first construct that isn't laid out
abbrev pub found_among : List Tested → Option Found
found_among [] = None
found_among (t ∷ ts) = or_found t.found (found_among ts)

-- at least one of both
abbrev pub IsSome : Option (Option (List ℕ)) → List Tested → Type 0
IsSome None [] = ⊥
IsSome None (t ∷ ts) = Unit {0}
IsSome (Some name) ts = Unit {0}

-- a compound selector, and the rest: a type or * or neither, and tests, at least one of both
pub record IsCompound (c : Compounded) (xs rest : List Lexeme) : Type 0 where
  pub element : Option (Option (List ℕ))
  pub tests : List Tested
  pub more : List Lexeme
  pub element_is : IsElement element xs more
  pub tests_are : AreTests tests more rest
  pub some : IsSome element tests
  pub whole : c ≡ record {
    compound = record { element = named element; tests = tests_in tests };
    found = found_among tests;
  }

-- Selectors.

-- compound selectors, each with what stands after it: nothing, a join or a comma
pub data Row : Type 0 where
  Last : (c : Compounded) → Row
  Joined : (c : Compounded) (join : Join) (more : Row) → Row
  Comma : (c : Compounded) (more : Row) → Row

abbrev pub IsRow : Row → List Lexeme → Type 0
IsRow (Last c) xs = (rest : List Lexeme) × IsCompound c xs rest × AreSpaces rest
IsRow (Joined c join row) xs = (rest : List Lexeme) × (more : List Lexeme) × IsCompound c xs rest × IsJoin join rest more
    × IsRow row more
IsRow (Comma c row) xs = (rest : List Lexeme) × (more : List Lexeme) × IsCompound c xs rest × IsSign 44 rest more × IsRow row more

abbrev pub alone : Compounded → Selector
alone c = record { compounds = c.compound ∷ []; joins = [] }

-- the first selector of a row
abbrev pub first_in : Row → Selector
first_in (Last c) = alone c
first_in (Joined c join row) = record {
  compounds = c.compound ∷ (first_in row).compounds;
  joins = join ∷ (first_in row).joins;
}
first_in (Comma c row) = alone c

-- and those after it
abbrev pub others_in : Row → List Selector
others_in (Last c) = []
others_in (Joined c join row) = others_in row
others_in (Comma c row) = first_in row ∷ others_in row

abbrev pub found_in : Row → Option Found
found_in (Last c) = c.found
found_in (Joined c join row) = or_found c.found (found_in row)
found_in (Comma c row) = or_found c.found (found_in row)

-- These lexemes are this list of selectors, with this first construct that isn't laid out.
pub record AreSelectors (xs : List Lexeme) (s : Selectors) : Type 0 where
  pub row : Row
  pub more : List Lexeme
  pub spaced : Spaced xs more
  pub row_is : IsRow row more
  pub whole : s ≡ record { selectors = first_in row ∷ others_in row; found = found_in row }

-- what is read is what the lexemes are
abbrev pub SelectorsAreSaid : Type 0
SelectorsAreSaid = (xs : List Lexeme) (s : Selectors) → selectors_of xs ≡ Some s → AreSelectors xs s

-- what the lexemes are is read
abbrev pub SelectorsAreRead : Type 0
SelectorsAreRead = (xs : List Lexeme) (s : Selectors) → AreSelectors xs s → selectors_of xs ≡ Some s

-- they are one list of selectors at most
abbrev pub OneListOfSelectors : Type 0
OneListOfSelectors = (xs : List Lexeme) (s t : Selectors) → AreSelectors xs s → AreSelectors xs t → s ≡ t
