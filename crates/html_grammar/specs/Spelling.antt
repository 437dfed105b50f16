-- Which characters spell which token: the forms. Where a form says what may not stand after it, it goes as far as it
-- can.
use Rattle.std.specs.Prelude.{◌≡◌, ◌⊎◌, ℕ, List, [], ◌∷◌, ◌++◌, map, Bool, true, false, ◌&&◌, ◌||◌, Option, Some, None}
use Rattle.std.specs.Prelude.{option_map, codes, encode_utf8_all}
use Rattle.std.specs.Char.{to_ascii_lowercase, is_ascii_alphabetic, is_ascii_alphanumeric}
use Rattle.html_grammar.specs.declared.dom.Attribute.{Attribute}
use Rattle.html_grammar.specs.declared.place.Place.{Place}
use Rattle.html_grammar.specs.declared.token.Piece.{Piece}
use Rattle.html_grammar.specs.declared.token.Spelled.{Spelled}
use Rattle.html_grammar.specs.declared.token.Spelled.TheVariants.{Plain, Reference, Unknown}
use Rattle.html_grammar.specs.declared.token.Tag.{Tag}
use Rattle.html_grammar.specs.declared.token.Token.{Token}
use Rattle.html_grammar.specs.declared.token.Token.TheVariants.{Start, Raw, End, Comment, Doctype, Char}
use Rattle.html_grammar.specs.Names.{same, is_raw}
use Rattle.html_grammar.specs.References.{named_character}
use Rattle.html_grammar.specs.Places.{place_or, begins_with, begins}
use Rattle.html_grammar.specs.Tokens.{is_space}
use Rattle.html_grammar.specs.Grammar.{run_text}
use Rattle.html_grammar.specs.Lexing.{is_name_char, is_key_char, is_bare_char, is_other, begins_text, number_from, is_character}
use Rattle.html_grammar.specs.Lexing.{is_radix_digit, or_first, is_doubled, ends_raw, raw_piece, bad_reference}

abbrev pub codes_of : List Place → List ℕ
codes_of ps = map (λ p. p.character) ps

-- every one of these passes a test; and there is at least one
abbrev pub Passes : (ℕ → Bool) → List Place → Type 0
Passes test [] = Unit {0}
Passes test (p ∷ ps) = (test p.character ≡ true) × Passes test ps

abbrev pub SomePass : (ℕ → Bool) → List Place → Type 0
SomePass test [] = ⊥
SomePass test (p ∷ ps) = Passes test (p ∷ ps)

-- nowhere within the first list does something begin
abbrev pub NoneBegins : (List Place → Bool) → List Place → List Place → Type 0
NoneBegins test [] rest = Unit {0}
NoneBegins test (p ∷ inner) rest = (test (p ∷ (inner ++ rest)) ≡ false) × NoneBegins test inner rest

-- References, after their &.

-- digits, and ;
pub record IsNumeral (radix n : ℕ) (form : List Place) : Type 0 where
  pub digits : List Place
  pub last : Place
  pub whole : form ≡ digits ++ last ∷ []
  pub some : SomePass (is_radix_digit radix) digits
  pub ends : last.character ≡ 59
  pub value : n ≡ number_from radix 0 (codes_of digits)

-- #, and decimal digits, or x and hexadecimal ones
abbrev pub IsNumberReference : ℕ → List Place → Type 0
IsNumberReference n form = (hash : Place) × (more : List Place) × (hash.character ≡ 35)
    × (((form ≡ hash ∷ more) × IsNumeral 10 n more)
    ⊎ ((ex : Place) × (form ≡ hash ∷ (ex ∷ more)) × (ex.character ≡ 120) × IsNumeral 16 n more))

-- letters and digits, and ;
pub record IsNameReference (name : List ℕ) (form : List Place) : Type 0 where
  pub letters : List Place
  pub last : Place
  pub whole : form ≡ letters ++ last ∷ []
  pub some : SomePass is_ascii_alphanumeric letters
  pub ends : last.character ≡ 59
  pub named : name ≡ codes_of letters

-- a reference to this character; to none; of a name that isn't in the table
abbrev pub IsReference : ℕ → List Place → Type 0
IsReference c form = (IsNumberReference c form × (is_character c ≡ true))
    ⊎ ((name : List ℕ) × IsNameReference name form × (named_character name ≡ Some c))

abbrev pub IsBadReference : List Place → Type 0
IsBadReference form = (n : ℕ) × IsNumberReference n form × (is_character n ≡ false)

abbrev pub IsUnknownReference : List Place → Type 0
IsUnknownReference form = (name : List ℕ) × IsNameReference name form × (named_character name ≡ None)

-- whether the places begin with any reference
abbrev pub BeginsReference : List Place → Type 0
BeginsReference ps = (form : List Place) × (more : List Place) × (ps ≡ form ++ more)
    × (((n : ℕ) × IsNumberReference n form) ⊎ ((name : List ℕ) × IsNameReference name form))

abbrev pub BeginsBad : List Place → Type 0
BeginsBad ps = (form : List Place) × (more : List Place) × (ps ≡ form ++ more) × IsBadReference form

abbrev pub BeginsUnknown : List Place → Type 0
BeginsUnknown ps = (form : List Place) × (more : List Place) × (ps ≡ form ++ more) × IsUnknownReference form

-- A character of a text, with what stands after it: itself, and no & that begins a reference; a reference; or the & of
-- one whose name isn't in the table.
abbrev pub IsCharacter : ℕ → ℕ → Spelled → List Place → List Place → Type 0
IsCharacter at c Plain one rest = (p : Place) × (one ≡ p ∷ []) × (p.at ≡ at) × (p.character ≡ c)
    × (c ≡ 38 → BeginsReference rest → ⊥)
IsCharacter at c Reference one rest = (p : Place) × (form : List Place) × (one ≡ p ∷ form) × (p.at ≡ at) × (p.character ≡ 38)
    × IsReference c form
IsCharacter at c Unknown one rest = (p : Place) × (one ≡ p ∷ []) × (p.at ≡ at) × (p.character ≡ 38) × (c ≡ 38)
    × BeginsUnknown rest

-- The same in a value, where the & of a reference to no character is read as it stands, and marked by its place.
abbrev pub IsPiece : ℕ → ℕ → Spelled → Option ℕ → List Place → List Place → Type 0
IsPiece at c s None one rest = IsCharacter at c s one rest
IsPiece at c s (Some bad) one rest = (p : Place) × (one ≡ p ∷ []) × (p.at ≡ at) × (p.character ≡ 38) × (c ≡ 38) × (s ≡ Plain)
    × (bad ≡ at) × BeginsBad rest

-- Text, each piece of which begins with a character that passes a test, by its tokens, and the first place that is
-- marked.
abbrev pub IsText : (ℕ → Bool) → List Token → Option ℕ → List Place → List Place → Type 0
IsText test [] bad one rest = (one ≡ []) × (bad ≡ None)
IsText test (Char at c s ∷ ts) bad one rest = (here : List Place) × (more : List Place) × (one ≡ here ++ more)
    × (now : Option ℕ) × (later : Option ℕ) × (bad ≡ or_first now later)
    × IsPiece at c s now here (more ++ rest) × (begins_with test here ≡ true) × IsText test ts later more rest
IsText test _ bad one rest = ⊥

-- where the first reference stands whose name isn't in the table
abbrev pub unknown_here : ℕ → Spelled → Option ℕ
unknown_here at Plain = None
unknown_here at Reference = None
unknown_here at Unknown = Some at

abbrev pub first_unknown : List Token → Option ℕ
first_unknown [] = None
first_unknown (Start tag ∷ ts) = first_unknown ts
first_unknown (Raw tag text ∷ ts) = first_unknown ts
first_unknown (End at m ∷ ts) = first_unknown ts
first_unknown (Comment at ∷ ts) = first_unknown ts
first_unknown (Doctype at ∷ ts) = first_unknown ts
first_unknown (Char at c s ∷ ts) = or_first (unknown_here at s) (first_unknown ts)

-- Attributes.

-- a value in quotes, or without
pub record IsQuoted (q : ℕ) (toks : List Token) (bad : Option ℕ) (at : ℕ) (form rest : List Place) : Type 0 where
  pub opening : Place
  pub inner : List Place
  pub closing : Place
  pub whole : form ≡ opening ∷ (inner ++ closing ∷ [])
  pub opens : opening.character ≡ q
  pub closes : closing.character ≡ q
  pub text : IsText (is_other q) toks bad inner (closing ∷ rest)
  pub stands : at ≡ place_or 0 (inner ++ closing ∷ [])

abbrev pub IsBare : List Token → Option ℕ → ℕ → List Place → List Place → Type 0
IsBare toks bad at form rest = IsText is_bare_char toks bad form rest × (begins_with is_bare_char form ≡ true)
    × (begins_with is_bare_char rest ≡ false) × (at ≡ place_or 0 form)

abbrev pub IsValue : List Token → Option ℕ → ℕ → List Place → List Place → Type 0
IsValue toks bad at form rest = IsQuoted 34 toks bad at form rest
    ⊎ (IsQuoted 39 toks bad at form rest ⊎ IsBare toks bad at form rest)

-- after an attribute's name: nothing, or = and the value
abbrev pub IsAssigned : ℕ → Attribute → Option ℕ → Option ℕ → List Place → List Place → Type 0
IsAssigned at a unknown bad tail rest =
    ((tail ≡ []) × (begins 61 rest ≡ false) × (a.value ≡ []) × (a.offset ≡ at) × (unknown ≡ None) × (bad ≡ None))
    ⊎ ((equals : Place) × (form : List Place) × (toks : List Token) × (tail ≡ equals ∷ form) × (equals.character ≡ 61)
    × IsValue toks bad a.offset form rest
    × (a.value ≡ run_text toks) × (unknown ≡ first_unknown toks))

pub record IsAttribute (a : Attribute) (unknown bad : Option ℕ) (one rest : List Place) : Type 0 where
  pub first : Place
  pub more : List Place
  pub tail : List Place
  pub whole : one ≡ first ∷ (more ++ tail)
  pub named : Passes is_key_char (first ∷ more)
  pub stops : begins_with is_key_char (tail ++ rest) ≡ false
  pub name_is : a.name ≡ encode_utf8_all (map to_ascii_lowercase (codes_of (first ∷ more)))
  pub value_is : IsAssigned first.at a unknown bad tail rest

-- the end of a start tag: white space, perhaps /, and >
pub record IsTagEnd (one : List Place) : Type 0 where
  pub white : List Place
  pub last : Place
  pub spaces : Passes is_space white
  pub ends : last.character ≡ 62
  pub whole : (one ≡ white ++ last ∷ []) ⊎ ((slash : Place) × (slash.character ≡ 47) × (one ≡ white ++ (slash ∷ (last ∷ []))))

-- attributes, each after white space, and the end of the tag
abbrev pub IsAttributes : List Attribute → Option ℕ → Option ℕ → List Place → List Place → Type 0
IsAttributes [] unknown bad one rest = (unknown ≡ None) × (bad ≡ None) × IsTagEnd one
IsAttributes (a ∷ others) unknown bad one rest =
    (here : Option ℕ) × (later : Option ℕ) × (now : Option ℕ) × (then : Option ℕ) × (white : List Place) × (spelled : List Place)
    × (more : List Place) × (one ≡ white ++ (spelled ++ more))
    × SomePass is_space white × (unknown ≡ or_first here later) × (bad ≡ or_first now then)
    × IsAttribute a here now spelled (more ++ rest) × IsAttributes others later then more rest

-- Tags.

-- a letter, then letters, digits and -; the name is in lower case
abbrev pub IsTagName : List Place → List ℕ → Type 0
IsTagName [] name = ⊥
IsTagName (p ∷ ps) name = (is_ascii_alphabetic p.character ≡ true) × Passes is_name_char (p ∷ ps)
    × (name ≡ map to_ascii_lowercase (codes_of (p ∷ ps)))

-- <, a name, attributes, >; the tag is marked with the first reference in it that names no character
pub record IsTag (tag : Tag) (one rest : List Place) : Type 0 where
  pub angle : Place
  pub named : List Place
  pub more : List Place
  pub bad : Option ℕ
  pub whole : one ≡ angle ∷ (named ++ more)
  pub opens : angle.character ≡ 60
  pub stands : angle.at ≡ tag.at
  pub name_is : IsTagName named tag.name
  pub stops : begins_with is_name_char (more ++ rest) ≡ false
  pub attributes_are : IsAttributes tag.attributes tag.unknown bad more rest
  pub late : tag.late ≡ option_map bad_reference bad

-- a tag of which no two attributes have one name
abbrev pub IsOnce : Tag → Type 0
IsOnce tag = is_doubled tag.attributes ≡ false

-- </, a name, white space, >
pub record IsEndTag (at : ℕ) (name : List ℕ) (one rest : List Place) : Type 0 where
  pub angle : Place
  pub slash : Place
  pub named : List Place
  pub white : List Place
  pub last : Place
  pub whole : one ≡ angle ∷ (slash ∷ (named ++ (white ++ last ∷ [])))
  pub opens : angle.character ≡ 60
  pub stands : angle.at ≡ at
  pub slashed : slash.character ≡ 47
  pub name_is : IsTagName named name
  pub stops : begins_with is_name_char (white ++ (last ∷ rest)) ≡ false
  pub spaces : Passes is_space white
  pub ends : last.character ≡ 62

-- a line feed directly after <pre>
abbrev pub takes_line_feed : Tag → List Place → Bool
takes_line_feed tag rest = same tag.name (codes "pre") && begins 10 rest

-- a start tag; of pre with the line feed after it
abbrev pub IsStart : Tag → List Place → List Place → Type 0
IsStart tag one rest = (IsTag tag one rest × (takes_line_feed tag rest ≡ false))
    ⊎ ((tagged : List Place) × (feed : Place) × (one ≡ tagged ++ feed ∷ []) × IsTag tag tagged (feed ∷ rest)
    × (takes_line_feed tag (feed ∷ rest) ≡ true))

-- raw text, up to the first end tag of the element's name
pub record IsRaw (tag : Tag) (text : Option Piece) (one rest : List Place) : Type 0 where
  pub tagged : List Place
  pub inner : List Place
  pub ending : List Place
  pub at : ℕ
  pub name : List ℕ
  pub whole : one ≡ tagged ++ (inner ++ ending)
  pub tag_is : IsTag tag tagged (inner ++ (ending ++ rest))
  pub not_over : NoneBegins (ends_raw tag.name) inner (ending ++ rest)
  pub over : ends_raw tag.name (ending ++ rest) ≡ true
  pub end_is : IsEndTag at name ending rest
  pub text_is : text ≡ raw_piece (place_or 0 inner) (codes_of inner)

-- <!-- up to the first --> after it
pub record IsComment (at : ℕ) (one rest : List Place) : Type 0 where
  pub opening : List Place
  pub inner : List Place
  pub closing : List Place
  pub whole : one ≡ opening ++ (inner ++ closing)
  pub opens : codes_of opening ≡ codes "<!--"
  pub stands : place_or 0 opening ≡ at
  pub closes : codes_of closing ≡ codes "-->"
  pub not_over : NoneBegins (begins_text (codes "-->")) inner (closing ++ rest)

-- <!doctype in any case, up to >
pub record IsDoctype (at : ℕ) (one : List Place) : Type 0 where
  pub angle : Place
  pub mark : List Place
  pub inner : List Place
  pub last : Place
  pub whole : one ≡ angle ∷ (mark ++ (inner ++ last ∷ []))
  pub opens : angle.character ≡ 60
  pub stands : angle.at ≡ at
  pub marks : map to_ascii_lowercase (codes_of mark) ≡ codes "!doctype"
  pub passes : Passes (is_other 62) inner
  pub ends : last.character ≡ 62

-- what makes a < begin something else than text
abbrev pub begins_markup : List Place → Bool
begins_markup ps = begins_with is_ascii_alphabetic ps || (begins 47 ps || (begins 33 ps || begins 63 ps))

-- These places spell this token, and those stand after it. No two attributes of a tag have one name, and each
-- reference names a character.
abbrev pub IsToken : Token → List Place → List Place → Type 0
IsToken (Start tag) one rest = (is_raw tag.name ≡ false) × IsStart tag one rest × IsOnce tag × (tag.late ≡ None)
IsToken (Raw tag text) one rest = (is_raw tag.name ≡ true) × IsRaw tag text one rest × IsOnce tag × (tag.late ≡ None)
IsToken (End at m) one rest = IsEndTag at m one rest
IsToken (Comment at) one rest = IsComment at one rest
IsToken (Doctype at) one rest = IsDoctype at one
IsToken (Char at c s) one rest = IsCharacter at c s one rest × (begins 60 one ≡ true → begins_markup rest ≡ false)

-- The places of a text spell these tokens.
abbrev pub IsLexed : List Token → List Place → Type 0
IsLexed [] ps = ps ≡ []
IsLexed (t ∷ ts) ps = (one : List Place) × (rest : List Place) × (ps ≡ one ++ rest) × IsToken t one rest × IsLexed ts rest
