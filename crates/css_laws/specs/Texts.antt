-- Which tokens a text says: at each place the longest is taken (CSS Syntax 3, sections 3.3 and 4.3).
use Rattle.std.specs.Prelude.{◌≡◌, ◌≤◌, ◌<◌, ℕ, List, [], ◌∷◌, ◌++◌, length, chars, IsUtf8, Option, option_to_list, Ok, Err}
use Rattle.mc_base.specs.SoundText.{sound_len}
use Rattle.html_grammar.specs.declared.place.Place.{Place}
use Rattle.html_grammar.specs.Places.{places_of}
use Rattle.html_grammar.specs.Documents.{NoZero}
use Rattle.css_tokens.specs.declared.lexeme.Lexeme.{Lexeme}
use Rattle.css_tokens.specs.declared.lexeme.Fault.{Fault}
use Rattle.css_tokens.specs.Lexing.{lexed}
use Rattle.css_laws.specs.Forms.{IsPiece}

-- the token or comment that stands first: it has its form, and nothing longer has one
pub record IsNext (x : Option Lexeme) (one rest : List Place) : Type 0 where
  pub form : IsPiece x one rest
  pub longest : (y : Option Lexeme) (longer more : List Place) → one ++ rest ≡ longer ++ more → IsPiece y longer more
      → length longer ≤ length one

-- the characters are these tokens and comments, one after the other
abbrev pub AreCut : List (Option Lexeme) → List Place → Type 0
AreCut [] ps = ps ≡ []
AreCut (x ∷ xs) ps = (one : List Place) × (rest : List Place) × (ps ≡ one ++ rest) × IsNext x one rest × AreCut xs rest

-- without the comments
abbrev pub tokens_in : List (Option Lexeme) → List Lexeme
tokens_in [] = []
tokens_in (x ∷ xs) = option_to_list x ++ tokens_in xs

-- The text says these tokens: it is UTF-8 without U+0000, and they are what its characters are cut into.
pub record IsTokens (bytes : List ℕ) (xs : List Lexeme) : Type 0 where
  pub utf8 : IsUtf8 bytes
  pub no_zero : NoZero bytes
  pub cut : List (Option Lexeme)
  pub cut_is : AreCut cut (places_of (chars bytes))
  pub tokens_are : xs ≡ tokens_in cut

-- the first byte that is zero or where no character begins
pub record IsBadByte (bytes : List ℕ) (f : Fault) : Type 0 where
  pub before_end : sound_len bytes < length bytes
  pub which : f ≡ record { at = sound_len bytes; rule = 1 }

-- what is read is what the text says
abbrev pub TokensAreSaid : Type 0
TokensAreSaid = (bytes : List ℕ) (xs : List Lexeme) → lexed bytes ≡ Ok xs → IsTokens bytes xs

-- what the text says is read
abbrev pub TokensAreRead : Type 0
TokensAreRead = (bytes : List ℕ) (xs : List Lexeme) → IsTokens bytes xs → lexed bytes ≡ Ok xs

-- a text says one list of tokens at most
abbrev pub OneListOfTokens : Type 0
OneListOfTokens = (bytes : List ℕ) (xs ys : List Lexeme) → IsTokens bytes xs → IsTokens bytes ys → xs ≡ ys

-- it says none exactly where it has a bad byte, and its fault is the first one
abbrev pub BadBytesAreFaults : Type 0
BadBytesAreFaults = (bytes : List ℕ) (f : Fault) → lexed bytes ≡ Err f → IsBadByte bytes f

abbrev pub BadBytesAreRefused : Type 0
BadBytesAreRefused = (bytes : List ℕ) (f : Fault) → IsBadByte bytes f → lexed bytes ≡ Err f
