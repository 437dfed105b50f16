-- Tokens: where they stand, and what they hold that isn't laid out.
use Rattle.std.specs.Prelude.{ℕ, ◌==◌, List, [], Bool, true, false, ◌||◌, Option, Some, None, Result, Ok, Err, if◌then◌else◌}
use Rattle.mc_base.specs.declared.refusal.Found.{Found}
use Rattle.mc_base.specs.declared.refusal.ConstructName.TheVariants as constructs
use Rattle.mc_base.specs.declared.read_error.Fault.{Fault}
use Rattle.html_grammar.specs.declared.dom.Attribute.{Attribute}
use Rattle.html_grammar.specs.declared.token.Tag.{Tag}
use Rattle.html_grammar.specs.declared.token.Token.{Token}
use Rattle.html_grammar.specs.declared.token.Token.TheVariants.{Start, Raw, End, Comment, Doctype, Char}
use Rattle.html_grammar.specs.declared.token.Spelled.{Spelled}
use Rattle.html_grammar.specs.declared.token.Spelled.TheVariants.{Plain, Reference, Unknown}
use Rattle.html_grammar.specs.Names.{same, is_refused, is_head_void}

-- white space: space, tab and line feed
abbrev pub is_space : ℕ → Bool
is_space c = (c == 32) || ((c == 10) || (c == 9))

-- the byte at which a token begins
abbrev pub place_of : Token → ℕ
place_of (Start tag) = tag.at
place_of (Raw tag text) = tag.at
place_of (End at name) = at
place_of (Comment at) = at
place_of (Doctype at) = at
place_of (Char at c s) = at

-- a character of the structure's white space: a reference is none
abbrev pub is_white : ℕ → Spelled → Bool
is_white c Plain = is_space c
is_white c Reference = false
is_white c Unknown = false

-- white space or a comment
abbrev pub is_blank : Token → Bool
is_blank (Start tag) = false
is_blank (Raw tag text) = false
is_blank (End at name) = false
is_blank (Comment at) = true
is_blank (Doctype at) = false
is_blank (Char at c s) = is_white c s

-- a start tag of this name
abbrev pub is_start : List ℕ → Token → Bool
is_start m (Start tag) = same tag.name m
is_start m _ = false

-- an end tag of this name
abbrev pub is_end : List ℕ → Token → Bool
is_end m (End at name) = same name m
is_end m _ = false

abbrev pub is_doctype : Token → Bool
is_doctype (Doctype at) = true
is_doctype _ = false

-- an element of the head
abbrev pub is_head_element : Token → Bool
is_head_element (Start tag) = is_head_void tag.name
is_head_element (Raw tag text) = true
is_head_element (End at name) = false
is_head_element (Comment at) = false
is_head_element (Doctype at) = false
is_head_element (Char at c s) = false

abbrev pub attributes_of : Token → List Attribute
attributes_of (Start tag) = tag.attributes
attributes_of (Raw tag text) = tag.attributes
attributes_of (End at name) = []
attributes_of (Comment at) = []
attributes_of (Doctype at) = []
attributes_of (Char at c s) = []

-- the fault that a token has after its own place
abbrev pub late_of : Token → Option Fault
late_of (Start tag) = tag.late
late_of (Raw tag text) = tag.late
late_of (End at name) = None
late_of (Comment at) = None
late_of (Doctype at) = None
late_of (Char at c s) = None

abbrev pub reference_at : Option ℕ → Option Found
reference_at None = None
reference_at (Some at) = Some (record { offset = at; name = constructs.Reference })

-- the first in a tag that isn't laid out: the element stands before the references in its attributes
abbrev pub tag_construct : Tag → Option Found
tag_construct tag = if is_refused tag.name then Some (record { offset = tag.at; name = constructs.Element }) else reference_at
    tag.unknown

abbrev pub char_construct : ℕ → Spelled → Option Found
char_construct at Plain = None
char_construct at Reference = None
char_construct at Unknown = reference_at (Some at)

-- the first in a token that isn't laid out
abbrev pub construct_of : Token → Option Found
construct_of (Start tag) = tag_construct tag
construct_of (Raw tag text) = tag_construct tag
construct_of (End at name) = None
construct_of (Comment at) = None
construct_of (Doctype at) = None
construct_of (Char at c s) = char_construct at s
