-- Lists of media (CSS 2.1, section 7.2.1): all, screen, print and speech with commas, or nothing.
use Rattle.std.specs.Prelude.{ℕ, List, [], ◌∷◌, codes, Bool, true, false, ◌||◌, if◌then◌else◌, Option, Some, None}
use Rattle.css_tokens.specs.declared.lexeme.Lexeme.{Lexeme}
use Rattle.css_tokens.specs.Facts.{is_in, is_space, is_delim, ident_of}
use Rattle.css_prelude.specs.declared.media.Awaits.{Awaits}
use Rattle.css_prelude.specs.declared.media.Awaits.TheVariants as awaits
use Rattle.css_prelude.specs.declared.media.Listed.{Listed}
use Rattle.css_prelude.specs.Options.{◌>>=◌}

unfoldable pub is_medium : List ℕ → Bool
is_medium word = is_in word (codes "all" ∷ codes "screen" ∷ codes "print" ∷ codes "speech" ∷ [])

-- the media that apply
unfoldable pub is_screen : List ℕ → Bool
is_screen word = is_in word (codes "all" ∷ codes "screen" ∷ [])

abbrev pub listed_as : Awaits → Bool → Listed
listed_as a applies = record { awaits = a; applies = applies }

abbrev pub word_taken : Awaits → Bool → List ℕ → Option Listed
word_taken awaits.First applies word = Some (listed_as awaits.Comma (applies || is_screen word))
word_taken awaits.Word applies word = Some (listed_as awaits.Comma (applies || is_screen word))
word_taken awaits.Comma applies word = None

abbrev pub with_word : Listed → List ℕ → Option Listed
with_word l word = if is_medium word then word_taken l.awaits l.applies word else None

abbrev pub comma_taken : Awaits → Bool → Option Listed
comma_taken awaits.First applies = None
comma_taken awaits.Word applies = None
comma_taken awaits.Comma applies = Some (listed_as awaits.Word applies)

abbrev pub with_comma : Listed → Option Listed
with_comma l = comma_taken l.awaits l.applies

abbrev pub with : Listed → Lexeme → Option Listed
with l x = if is_space x then Some l else (if is_delim 44 x then with_comma l else (ident_of x >>= with_word l))

abbrev pub ended_at : Awaits → Bool → Option Bool
ended_at awaits.First applies = Some true
ended_at awaits.Word applies = None
ended_at awaits.Comma applies = Some applies

abbrev pub ended : Listed → Option Bool
ended l = ended_at l.awaits l.applies

abbrev pub listed_from : Listed → List Lexeme → Option Bool
listed_from l [] = ended l
listed_from l (x ∷ xs) = with l x >>= λ next. listed_from next xs

-- whether the media that a prelude lists apply
abbrev pub media_of : List Lexeme → Option Bool
media_of xs = listed_from (listed_as awaits.First false) xs
