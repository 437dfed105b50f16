-- Lists of media (CSS 2.1, section 7.2.1): media with a comma between two, or nothing. White space may stand anywhere.
use Rattle.std.specs.Prelude.{◌≡◌, ◌⊎◌, ℕ, List, [], ◌∷◌, Bool, true, false, ◌||◌, Some}
use Rattle.css_tokens.specs.declared.lexeme.Lexeme.{Lexeme}
use Rattle.css_tokens.specs.Facts.{ident_of}
use Rattle.css_prelude.specs.Media.{is_medium, is_screen, media_of}
use Rattle.selector_laws.specs.Spaces.{AreSpaces, Spaced, IsSign}

-- a medium: all, screen, print or speech
abbrev pub IsMedium : List ℕ → Lexeme → Type 0
IsMedium medium x = (ident_of x ≡ Some medium) × (is_medium medium ≡ true)

-- a medium, and those after it, each after a comma
abbrev pub AreListed : List ℕ → List (List ℕ) → List Lexeme → Type 0
AreListed medium [] xs = (x : Lexeme) × (rest : List Lexeme) × (xs ≡ x ∷ rest) × IsMedium medium x × AreSpaces rest
AreListed medium (next ∷ others) xs = (x : Lexeme) × (rest : List Lexeme) × (more : List Lexeme) × (xs ≡ x ∷ rest)
    × IsMedium medium x × IsSign 44 rest more × AreListed next others more

-- whether all or screen is among media
abbrev pub screen_among : List (List ℕ) → Bool
screen_among [] = false
screen_among (medium ∷ media) = is_screen medium || screen_among media

-- no media, which applies
abbrev pub AreNoMedia : List Lexeme → Bool → Type 0
AreNoMedia xs applies = AreSpaces xs × (applies ≡ true)

-- one medium or more, which applies where all or screen is among them
pub record AreSomeMedia (xs : List Lexeme) (applies : Bool) : Type 0 where
  pub first : List ℕ
  pub others : List (List ℕ)
  pub more : List Lexeme
  pub spaced : Spaced xs more
  pub listed : AreListed first others more
  pub whole : applies ≡ screen_among (first ∷ others)

-- these lexemes are a list of media, which applies or doesn't
abbrev pub AreMedia : List Lexeme → Bool → Type 0
AreMedia xs applies = AreNoMedia xs applies ⊎ AreSomeMedia xs applies

-- what is read is what the lexemes are
abbrev pub MediaAreSaid : Type 0
MediaAreSaid = (xs : List Lexeme) (applies : Bool) → media_of xs ≡ Some applies → AreMedia xs applies

-- what the lexemes are is read
abbrev pub MediaAreRead : Type 0
MediaAreRead = (xs : List Lexeme) (applies : Bool) → AreMedia xs applies → media_of xs ≡ Some applies

-- a list of media either applies or doesn't
abbrev pub OneAnswerOfMedia : Type 0
OneAnswerOfMedia = (xs : List Lexeme) (a b : Bool) → AreMedia xs a → AreMedia xs b → a ≡ b
