-- Which declarations a block says (CSS Syntax 3, sections 5.4.4 to 5.4.6; CSS 2.1, section 4.1.8), and what is its first fault.
use Rattle.std.specs.Prelude.{◌≡◌, ◌⊎◌, ℕ, List, [], ◌∷◌, ◌++◌, map, codes, Bool, true, false, Some, None}
use Rattle.std.specs.List.{list_any}
use Rattle.mc_base.specs.declared.refusal.Refusal.{Refusal}
use Rattle.css_data.specs.declared.rule.RawDeclaration.{RawDeclaration}
use Rattle.css_tokens.specs.declared.lexeme.Fault.{Fault}
use Rattle.css_tokens.specs.declared.lexeme.Lexeme.{Lexeme}
use Rattle.css_tokens.specs.Facts.{is_space, is_delim, is_word, ident_of, begins_space}
use Rattle.css_laws.specs.Texts.{IsTokens, IsBadByte}
use Rattle.css_laws.specs.Values.{Values, Nil, One, Closed, Open, written, AreValues, faults_in, IsFirst}
use Rattle.css_syntax.specs.Tokens.{token_of}
use Rattle.css_syntax.specs.Blocks.{is_escape}
use Rattle.css_syntax.specs.Sheets.{grammar_refusal}

-- white space alone, or nothing
abbrev pub AreSpaces : List Lexeme → Type 0
AreSpaces [] = Unit {0}
AreSpaces (x ∷ xs) = (is_space x ≡ true) × AreSpaces xs

-- whether white space stands last
abbrev pub ends_space : List Lexeme → Bool
ends_space [] = false
ends_space (x ∷ []) = is_space x
ends_space (x ∷ (y ∷ xs)) = ends_space (y ∷ xs)

-- !important, in any case, with white space between the two or none
pub record IsImportant (xs : List Lexeme) : Type 0 where
  pub mark : Lexeme
  pub white : List Lexeme
  pub word : Lexeme
  pub name : List ℕ
  pub whole : xs ≡ mark ∷ (white ++ word ∷ [])
  pub marked : is_delim 33 mark ≡ true
  pub spaces : AreSpaces white
  pub named : ident_of word ≡ Some name
  pub is : is_word name (codes "important") ≡ true

-- A value with a final !important, or all of what stands there, which has none.
abbrev pub IsValue : List Lexeme → List Lexeme → Bool → Type 0
IsValue xs value true = (white : List Lexeme) × (final : List Lexeme) × (xs ≡ value ++ (white ++ final))
    × (ends_space value ≡ false) × AreSpaces white × IsImportant final
IsValue xs value false = (xs ≡ value) × ((front final : List Lexeme) → xs ≡ front ++ final → IsImportant final → ⊥)

-- A piece says a declaration: a name, a colon, and a value that isn't empty. White space may stand before and after each of
-- these. No backslash stands in it.
pub record Declares (piece : List Lexeme) (d : RawDeclaration) : Type 0 where
  pub before : List Lexeme
  pub name : Lexeme
  pub between : List Lexeme
  pub colon : Lexeme
  pub white : List Lexeme
  pub rest : List Lexeme
  pub last : List Lexeme
  pub value : List Lexeme
  pub whole : piece ≡ before ++ (name ∷ (between ++ (colon ∷ (white ++ (rest ++ last)))))
  pub spaces : AreSpaces before × AreSpaces between × AreSpaces white × AreSpaces last
  pub begins : begins_space rest ≡ false
  pub ends : ends_space rest ≡ false
  pub named : ident_of name ≡ Some d.name
  pub stands : d.offset ≡ name.at
  pub parted : is_delim 58 colon ≡ true
  pub valued : IsValue rest value d.important
  pub some : value ≡ [] → ⊥
  pub value_is : d.value ≡ map token_of value
  pub no_escape : list_any is_escape piece ≡ false

-- none of the values is or begins with a token that passes a test
abbrev pub HaveNone : (Lexeme → Bool) → Values → Type 0
HaveNone test Nil = Unit {0}
HaveNone test (One x more) = (test x ≡ false) × HaveNone test more
HaveNone test (Closed opening inside closing more) = (test opening ≡ false) × HaveNone test more
HaveNone test (Open opening inside) = test opening ≡ false

-- these tokens are values without a fault, of which none is or begins with a token that passes a test
pub record AreSound (test : Lexeme → Bool) (xs : List Lexeme) : Type 0 where
  pub values : Values
  pub whole : xs ≡ written values
  pub are : AreValues None values
  pub sound : faults_in values ≡ []
  pub apart : HaveNone test values

-- pieces with semicolons between them
abbrev pub ArePieces : List (List Lexeme) → List Lexeme → Type 0
ArePieces [] xs = ⊥
ArePieces (piece ∷ more) xs = AreSound (is_delim 59) piece
    × (((xs ≡ piece) × (more ≡ []))
    ⊎ ((semicolon : Lexeme) × (rest : List Lexeme) × (xs ≡ piece ++ (semicolon ∷ rest)) × (is_delim 59 semicolon ≡ true)
    × ArePieces more rest))

-- what pieces declare; those that declare nothing are left out
abbrev pub AreDeclared : List (List Lexeme) → List RawDeclaration → Type 0
AreDeclared [] all = all ≡ []
AreDeclared (piece ∷ more) all =
    ((d : RawDeclaration) × (others : List RawDeclaration) × (all ≡ d ∷ others) × Declares piece d × AreDeclared more others)
    ⊎ (((d : RawDeclaration) → Declares piece d → ⊥) × AreDeclared more all)

-- tokens say these declarations
pub record AreDeclarations (xs : List Lexeme) (all : List RawDeclaration) : Type 0 where
  pub pieces : List (List Lexeme)
  pub parted : ArePieces pieces xs
  pub declared : AreDeclared pieces all

-- The text of a style attribute says these declarations.
pub record IsStyle (bytes : List ℕ) (all : List RawDeclaration) : Type 0 where
  pub tokens : List Lexeme
  pub said : IsTokens bytes tokens
  pub are : AreDeclarations tokens all

-- the first fault of tokens that are no sheet but a block
pub record IsBlockFault (xs : List Lexeme) (f : Fault) : Type 0 where
  pub values : Values
  pub whole : xs ≡ written values
  pub are : AreValues None values
  pub first : IsFirst f (faults_in values)

-- The first fault of a style attribute: its first bad byte (1); else the first of its strings and comments that aren't closed
-- (3, 2), of its brackets that aren't closed, and of closing signs that close nothing (4).
abbrev pub IsStyleFault : List ℕ → Fault → Type 0
IsStyleFault bytes f = IsBadByte bytes f ⊎ ((xs : List Lexeme) × IsTokens bytes xs × IsBlockFault xs f)

-- why it is refused
abbrev pub IsStyleRefusal : List ℕ → Refusal → Type 0
IsStyleRefusal bytes e = (f : Fault) × IsStyleFault bytes f × (e ≡ grammar_refusal f)
