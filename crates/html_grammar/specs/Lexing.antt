-- The token in front of the places of a text, as it is read. In the functions on counts the count is at least that of
-- the places.
use Rattle.std.specs.Prelude.{ℕ, zero, suc, ◌+◌, ◌*◌, ◌==◌, nat_lt, min, List, [], ◌∷◌, ◌++◌, map, drop, length, Bool, true}
use Rattle.std.specs.Prelude.{false, ◌&&◌, ◌||◌, not, if◌then◌else◌, Option, Some, None, Result, Ok, Err, codes, encode_utf8}
use Rattle.std.specs.Prelude.{encode_utf8_all, option_map, unwrap_or}
use Rattle.std.specs.Char.{to_ascii_lowercase, is_ascii_alphabetic, is_ascii_alphanumeric, is_digit, digit_value}
use Rattle.mc_base.specs.Reading.{◌>>=◌, fault}
use Rattle.html_grammar.specs.declared.dom.Attribute.{Attribute}
use Rattle.html_grammar.specs.declared.place.Place.{Place}
use Rattle.mc_base.specs.declared.read_error.Fault.{Fault}
use Rattle.html_grammar.specs.declared.token.Meaning.{Meaning}
use Rattle.html_grammar.specs.declared.token.Meaning.TheVariants as meanings
use Rattle.html_grammar.specs.declared.token.Piece.{Piece}
use Rattle.html_grammar.specs.declared.token.ReadAttribute.{ReadAttribute}
use Rattle.html_grammar.specs.declared.token.ReadAttributes.{ReadAttributes}
use Rattle.html_grammar.specs.declared.token.Spelled.TheVariants.{Plain, Reference, Unknown}
use Rattle.html_grammar.specs.declared.token.Tag.{Tag}
use Rattle.html_grammar.specs.declared.token.Token.{Token}
use Rattle.html_grammar.specs.declared.token.Token.TheVariants.{Start, Raw, End, Comment, Doctype, Char}
use Rattle.html_grammar.specs.declared.token.Value.{Value}
use Rattle.html_grammar.specs.Names.{same, is_raw}
use Rattle.html_grammar.specs.References.{named_character}
use Rattle.html_grammar.specs.Places.{behind_first, place_or, codes_while, behind_while, begins_with, begins}
use Rattle.html_grammar.specs.Tokens.{is_space}

-- letters, digits and - of a tag's name
abbrev pub is_name_char : ℕ → Bool
is_name_char c = is_ascii_alphanumeric c || (c == 45)

-- a character of an attribute's name
abbrev pub is_key_char : ℕ → Bool
is_key_char c = not (is_space c || ((c == 34) || ((c == 39) || ((c == 62) || ((c == 47) || ((c == 61) || (c == 60)))))))

-- a character of a value without quotes
abbrev pub is_bare_char : ℕ → Bool
is_bare_char c = not (is_space c || ((c == 34) || ((c == 39) || ((c == 61) || ((c == 60) || ((c == 62) || (c == 96)))))))

-- any character but this
abbrev pub is_other : ℕ → ℕ → Bool
is_other q c = not (c == q)

-- whether these characters stand in front
abbrev pub begins_text : List ℕ → List Place → Bool
begins_text [] ps = true
begins_text (c ∷ cs) [] = false
begins_text (c ∷ cs) (p ∷ ps) = (p.character == c) && begins_text cs ps

-- the same without regard to the case of ASCII letters, where these are in lower case
abbrev pub begins_folded : List ℕ → List Place → Bool
begins_folded [] ps = true
begins_folded (c ∷ cs) [] = false
begins_folded (c ∷ cs) (p ∷ ps) = (to_ascii_lowercase p.character == c) && begins_folded cs ps

-- References, after their &.

-- the number that digits spell, cut at 110000, above which no character is
abbrev pub number_from : ℕ → ℕ → List ℕ → ℕ
number_from radix n [] = n
number_from radix n (d ∷ ds) = number_from radix (min (n * radix + digit_value d) 0x110000) ds

-- a character above U+0000
abbrev pub is_character : ℕ → Bool
is_character n = nat_lt 0 n && (nat_lt n 0xD800 || (nat_lt 0xDFFF n && nat_lt n 0x110000))

abbrev pub is_radix_digit : ℕ → ℕ → Bool
is_radix_digit radix c = is_digit c radix

abbrev pub numbered : ℕ → List Place → List Place → Meaning × List Place
numbered n ps rest = if is_character n then (meanings.Character n, rest) else (meanings.Bad, ps)

-- digits and ;
unfoldable pub number_at : ℕ → List Place → List Place → Meaning × List Place
number_at radix ps digits =
    if begins_with (is_radix_digit radix) digits && begins 59 (behind_while (is_radix_digit radix) digits)
    then numbered (number_from radix 0 (codes_while (is_radix_digit radix) digits)) ps
    (behind_first (behind_while (is_radix_digit radix) digits))
    else (meanings.Plain, ps)

abbrev pub found_or_unknown : Option ℕ → List Place → List Place → Meaning × List Place
found_or_unknown None ps rest = (meanings.Unknown, ps)
found_or_unknown (Some c) ps rest = (meanings.Character c, rest)

-- letters and digits and ;
unfoldable pub name_at : List Place → Meaning × List Place
name_at ps =
    if begins_with is_ascii_alphanumeric ps && begins 59 (behind_while is_ascii_alphanumeric ps)
    then found_or_unknown (named_character (codes_while is_ascii_alphanumeric ps)) ps
    (behind_first (behind_while is_ascii_alphanumeric ps))
    else (meanings.Plain, ps)

-- what a & begins, and what stands after the reference, or after the & where it is none
unfoldable pub meaning_at : List Place → Meaning × List Place
meaning_at ps =
    if begins 35 ps then
    (if begins 120 (behind_first ps) then number_at 16 ps (behind_first (behind_first ps)) else number_at 10 ps (behind_first ps))
    else name_at ps

-- Values of attributes.

-- the first of two places
abbrev pub first_of : Option ℕ → ℕ → Option ℕ
first_of None at = Some at
first_of (Some x) at = Some x

abbrev pub empty_value : Value
empty_value = record { text = []; unknown = None; bad = None }

abbrev pub with_char : Value → ℕ → Value
with_char v c = record { text = v.text ++ encode_utf8 c; unknown = v.unknown; bad = v.bad }

abbrev pub by_meaning : Value → ℕ → Meaning × List Place → Value × List Place
by_meaning v at (meanings.Plain, rest) = (with_char v 38, rest)
by_meaning v at (meanings.Unknown, rest) =
    (record { text = v.text ++ encode_utf8 38; unknown = first_of v.unknown at; bad = v.bad }, rest)
by_meaning v at (meanings.Bad, rest) =
    (record { text = v.text ++ encode_utf8 38; unknown = v.unknown; bad = first_of v.bad at }, rest)
by_meaning v at (meanings.Character c, rest) = (with_char v c, rest)

-- a value with what the first place adds, and what stands after
unfoldable pub added : Value → Place → List Place → Value × List Place
added v p ps = if p.character == 38 then by_meaning v p.at (meaning_at ps) else (with_char v p.character, ps)

-- a value so far, and the characters after it that pass a test
unfoldable pub value_from : ℕ → (ℕ → Bool) → Value → List Place → Value × List Place
value_from zero test v ps = (v, ps)
value_from (suc n) test v [] = (v, [])
value_from (suc n) test v (p ∷ ps) = if test p.character then value_from n test (added v p ps).0 (added v p ps).1 else (v, p ∷ ps)

abbrev pub read_as : List ℕ → ℕ → Value × List Place → List Place → Result (ReadAttribute × List Place) Fault
read_as name at v rest = Ok (record { name = name; value = v.0; offset = at }, rest)

-- after an opening quote, in a tag at this byte
unfoldable pub quoted_at : ℕ → ℕ → List ℕ → ℕ → List Place → Result (ReadAttribute × List Place) Fault
quoted_at n tag name q ps =
    if begins q (value_from n (is_other q) empty_value ps).1
    then read_as name (place_or 0 ps) (value_from n (is_other q) empty_value ps)
    (behind_first (value_from n (is_other q) empty_value ps).1)
    else fault tag 3

unfoldable pub bare_at : ℕ → ℕ → List ℕ → List Place → Result (ReadAttribute × List Place) Fault
bare_at n tag name ps =
    if begins_with is_bare_char ps
    then read_as name (place_or 0 ps) (value_from n is_bare_char empty_value ps) (value_from n is_bare_char empty_value ps).1
    else fault tag 3

-- after the =
unfoldable pub value_at : ℕ → ℕ → List ℕ → List Place → Result (ReadAttribute × List Place) Fault
value_at n tag name ps =
    if begins 34 ps then quoted_at n tag name 34 (behind_first ps)
    else (if begins 39 ps then quoted_at n tag name 39 (behind_first ps)
    else bare_at n tag name ps)

-- after the name, which begins at a byte
unfoldable pub assigned_at : ℕ → ℕ → ℕ → List ℕ → List Place → Result (ReadAttribute × List Place) Fault
assigned_at n tag at name ps =
    if begins 61 ps then value_at n tag name (behind_first ps) else read_as name at (empty_value, ps) ps

-- an attribute's name in front: in lower case, as bytes
abbrev pub key : List Place → List ℕ
key ps = encode_utf8_all (map to_ascii_lowercase (codes_while is_key_char ps))

-- an attribute
unfoldable pub attribute_at : ℕ → ℕ → List Place → Result (ReadAttribute × List Place) Fault
attribute_at n tag ps =
    if begins_with is_key_char ps then assigned_at n tag (place_or 0 ps) (key ps) (behind_while is_key_char ps)
    else fault tag 3

abbrev pub some_attribute : ReadAttribute × List Place → Result (Option ReadAttribute × List Place) Fault
some_attribute x = Ok (Some x.0, x.1)

-- the next attribute, or none at the end of the tag
unfoldable pub piece_at : ℕ → ℕ → List Place → Result (Option ReadAttribute × List Place) Fault
piece_at n tag ps =
    if begins 62 (behind_while is_space ps) then Ok (None, behind_first (behind_while is_space ps))
    else (if begins 47 (behind_while is_space ps) then
    (if begins 62 (behind_first (behind_while is_space ps)) then Ok (None, behind_first (behind_first (behind_while is_space ps)))
    else fault tag 3)
    else
    (if begins_with is_space ps then (attribute_at n tag (behind_while is_space ps) >>= some_attribute) else fault tag 3))

abbrev pub no_attributes : ReadAttributes
no_attributes = record { all = []; unknown = None; bad = None }

abbrev pub or_first : Option ℕ → Option ℕ → Option ℕ
or_first None b = b
or_first (Some a) b = Some a

abbrev pub with_attribute : ReadAttributes → ReadAttribute → ReadAttributes
with_attribute x a = record {
  all = x.all ++ record { name = a.name; value = a.value.text; offset = a.offset } ∷ [];
  unknown = or_first x.unknown a.value.unknown;
  bad = or_first x.bad a.value.bad;
}

-- after a piece: more, or the end
abbrev pub continued : ReadAttributes → Option ReadAttribute → List Place
    → (ReadAttributes → Result (ReadAttributes × List Place) Fault) → Result (ReadAttributes × List Place) Fault
continued x None rest more = Ok (x, rest)
continued x (Some a) rest more = more (with_attribute x a)

-- the attributes so far and those up to the end of the tag, and what stands after it
unfoldable pub attributes_from : ℕ → ℕ → ℕ → ReadAttributes → List Place → Result (ReadAttributes × List Place) Fault
attributes_from zero n tag x ps = fault tag 3
attributes_from (suc k) n tag x ps = piece_at n tag ps >>= λ r. continued x r.0 r.1 (λ y. attributes_from k n tag y r.1)

abbrev pub is_named : List ℕ → List Attribute → Bool
is_named name [] = false
is_named name (a ∷ rest) = same name a.name || is_named name rest

-- whether a name stands twice
abbrev pub is_doubled : List Attribute → Bool
is_doubled [] = false
is_doubled (a ∷ rest) = is_named a.name rest || is_doubled rest

-- Tags.

-- the name of a tag in front, in lower case
abbrev pub tag_name : List Place → List ℕ
tag_name ps = map to_ascii_lowercase (codes_while is_name_char ps)

-- an end tag after its </
unfoldable pub end_at : ℕ → List Place → Result (Token × List Place) Fault
end_at at ps =
    if begins_with is_ascii_alphabetic ps && begins 62 (behind_while is_space (behind_while is_name_char ps))
    then Ok (End at (tag_name ps), behind_first (behind_while is_space (behind_while is_name_char ps)))
    else fault at 3

-- Raw text ends at </, the name, and white space, / or >.
abbrev pub is_past_name : ℕ → Bool
is_past_name c = is_space c || ((c == 47) || (c == 62))

abbrev pub ends_raw : List ℕ → List Place → Bool
ends_raw name ps =
    begins 60 ps && (begins 47 (behind_first ps)
    && (begins_folded name (drop 2 ps) && begins_with is_past_name (drop (length name) (drop 2 ps))))

abbrev pub raw_codes : List ℕ → List Place → List ℕ
raw_codes name [] = []
raw_codes name (p ∷ ps) = if ends_raw name (p ∷ ps) then [] else (p.character ∷ raw_codes name ps)

abbrev pub behind_raw : List ℕ → List Place → List Place
behind_raw name [] = []
behind_raw name (p ∷ ps) = if ends_raw name (p ∷ ps) then (p ∷ ps) else behind_raw name ps

-- the text in front of the end tag, if there is any
abbrev pub raw_piece : ℕ → List ℕ → Option Piece
raw_piece at [] = None
raw_piece at (c ∷ cs) = Some (record { at = at; text = encode_utf8_all (c ∷ cs) })

-- a tag with a fault that comes after those that it has
abbrev pub or_late : Tag → Fault → Tag
or_late tag f = record {
  at = tag.at;
  name = tag.name;
  attributes = tag.attributes;
  unknown = tag.unknown;
  late = Some (unwrap_or tag.late f);
}

abbrev pub with_late : Tag → Fault → Tag
with_late tag f = record { at = tag.at; name = tag.name; attributes = tag.attributes; unknown = tag.unknown; late = Some f }

abbrev pub raw_ended : Tag → Option Piece → Result (Token × List Place) Fault → Result (Token × List Place) Fault
raw_ended tag text (Ok e) = Ok (Raw tag text, e.1)
raw_ended tag text (Err f) = Ok (Raw (or_late tag f) text, [])

-- the content and the end tag of a raw element, after its start tag
unfoldable pub raw_at : Tag → List Place → Result (Token × List Place) Fault
raw_at tag ps =
    if begins 60 (behind_raw tag.name ps)
    then raw_ended tag (raw_piece (place_or 0 ps) (raw_codes tag.name ps))
    (end_at (place_or 0 (behind_raw tag.name ps)) (drop 2 (behind_raw tag.name ps)))
    else Ok (Raw (with_late tag (record { at = tag.at; rule = 9 })) None, [])

abbrev pub bad_reference : ℕ → Fault
bad_reference at = record { at = at; rule = 5 }

abbrev pub tag_of : ℕ → List ℕ → ReadAttributes → Tag
tag_of at name x = record { at = at; name = name; attributes = x.all; unknown = x.unknown; late = option_map bad_reference x.bad }

-- a start tag with what belongs to it: raw text, and the line feed after <pre>
unfoldable pub behind_tag : Tag → List Place → Result (Token × List Place) Fault
behind_tag tag ps =
    if is_raw tag.name then raw_at tag ps
    else (if same tag.name (codes "pre") && begins 10 ps then Ok (Start tag, behind_first ps) else Ok (Start tag, ps))

abbrev pub or_doubled : ℕ → List ℕ → ReadAttributes × List Place → Result (Token × List Place) Fault
or_doubled at name x = if is_doubled x.0.all then fault at 4 else behind_tag (tag_of at name x.0) x.1

-- a start tag after its <
unfoldable pub start_at : ℕ → ℕ → List Place → Result (Token × List Place) Fault
start_at n at ps = attributes_from n n at no_attributes (behind_while is_name_char ps) >>= or_doubled at (tag_name ps)

-- Comments and doctypes.

-- from these characters on
abbrev pub from_text : List ℕ → List Place → List Place
from_text t [] = []
from_text t (p ∷ ps) = if begins_text t (p ∷ ps) then (p ∷ ps) else from_text t ps

-- after <!--
unfoldable pub comment_at : ℕ → List Place → Result (Token × List Place) Fault
comment_at at ps = if begins 45 (from_text (codes "-->") ps) then Ok (Comment at, drop 3 (from_text (codes "-->") ps)) else
    fault at 2

-- after <!doctype
unfoldable pub doctype_at : ℕ → List Place → Result (Token × List Place) Fault
doctype_at at ps = if begins 62 (behind_while (is_other 62) ps) then Ok (Doctype at, behind_first (behind_while (is_other 62) ps))
    else fault at 3

-- after the < of <!
unfoldable pub mark_at : ℕ → List Place → Result (Token × List Place) Fault
mark_at at ps =
    if begins_text (codes "!--") ps then comment_at at (drop 3 ps)
    else (if begins_folded (codes "!doctype") ps then doctype_at at (drop 8 ps) else fault at 3)

-- a character of the text by what its & begins
abbrev pub char_by_meaning : ℕ → Meaning × List Place → Result (Token × List Place) Fault
char_by_meaning at (meanings.Plain, rest) = Ok (Char at 38 Plain, rest)
char_by_meaning at (meanings.Unknown, rest) = Ok (Char at 38 Unknown, rest)
char_by_meaning at (meanings.Bad, rest) = fault at 5
char_by_meaning at (meanings.Character c, rest) = Ok (Char at c Reference, rest)

-- a token after its first place
unfoldable pub token_at : ℕ → Place → List Place → Result (Token × List Place) Fault
token_at n p ps =
    if p.character == 60 then
    (if begins_with is_ascii_alphabetic ps then start_at n p.at ps
    else (if begins 47 ps then end_at p.at (behind_first ps)
    else (if begins 33 ps then mark_at p.at ps
    else (if begins 63 ps then fault p.at 3 else Ok (Char p.at p.character Plain, ps)))))
    else (if p.character == 38 then char_by_meaning p.at (meaning_at ps)
    else Ok (Char p.at p.character Plain, ps))
