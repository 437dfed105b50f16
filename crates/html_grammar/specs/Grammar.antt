-- Which tokens have which tree: by recursion on the tree, without any list of open elements.
use Rattle.std.specs.Prelude.{◌≡◌, ◌⊎◌, ℕ, List, [], ◌∷◌, ◌++◌, Bool, true, false, IsTrue, MatchBool, if◌then◌else◌, Option, Some}
use Rattle.std.specs.Prelude.{None, max, suc, codes, encode_utf8}
use Rattle.html_grammar.specs.declared.dom.Attribute.{Attribute}
use Rattle.mc_base.specs.declared.read_error.Fault.{Fault}
use Rattle.html_grammar.specs.declared.token.Piece.{Piece}
use Rattle.html_grammar.specs.declared.token.Spelled.{Spelled}
use Rattle.html_grammar.specs.declared.token.Tag.{Tag}
use Rattle.html_grammar.specs.declared.token.Token.{Token}
use Rattle.html_grammar.specs.declared.token.Token.TheVariants.{Start, Raw, End, Comment, Doctype, Char}
use Rattle.html_grammar.specs.Names.{same, is_outer, is_void, is_head_void, omits, closes}
use Rattle.html_grammar.specs.Tokens.{place_of, is_blank, is_start, is_end, is_doctype, is_head_element, attributes_of}
use Rattle.html_grammar.specs.Tree.{Forest, Nil, Element, Words}

-- after comments
abbrev pub skip_comments : List Token → List Token
skip_comments [] = []
skip_comments (Start tag ∷ ts) = Start tag ∷ ts
skip_comments (Raw tag text ∷ ts) = Raw tag text ∷ ts
skip_comments (End at m ∷ ts) = End at m ∷ ts
skip_comments (Comment at ∷ ts) = skip_comments ts
skip_comments (Doctype at ∷ ts) = Doctype at ∷ ts
skip_comments (Char at c s ∷ ts) = Char at c s ∷ ts

-- after comments and white space
abbrev pub skip_blank : List Token → List Token
skip_blank [] = []
skip_blank (t ∷ ts) = if is_blank t then skip_blank ts else (t ∷ ts)

-- the text in front
abbrev pub run_text : List Token → List ℕ
run_text (Char at c s ∷ ts) = encode_utf8 c ++ run_text ts
run_text _ = []

-- and what stands after it
abbrev pub behind_run : List Token → List Token
behind_run [] = []
behind_run (Start tag ∷ ts) = Start tag ∷ ts
behind_run (Raw tag text ∷ ts) = Raw tag text ∷ ts
behind_run (End at m ∷ ts) = End at m ∷ ts
behind_run (Comment at ∷ ts) = Comment at ∷ ts
behind_run (Doctype at ∷ ts) = Doctype at ∷ ts
behind_run (Char at c s ∷ ts) = behind_run ts

-- How the content of an element ends (HTML, "optional tags"): at the end of the text or before an end tag of another
-- name, where its own may be missing; before a start tag that closes it; with its own end tag. The last list is what
-- follows the element.
abbrev pub Closed : List ℕ → List Token → List Token → Type 0
Closed name [] rest = IsTrue (omits name) × (rest ≡ [])
Closed name (Start tag ∷ ts) rest = IsTrue (closes tag.name name) × (rest ≡ Start tag ∷ ts)
Closed name (Raw tag text ∷ ts) rest = IsTrue (closes tag.name name) × (rest ≡ Raw tag text ∷ ts)
Closed name (End at m ∷ ts) rest = MatchBool (same m name) (rest ≡ ts) (IsTrue (omits name) × (rest ≡ End at m ∷ ts))
Closed name (Comment at ∷ ts) rest = ⊥
Closed name (Doctype at ∷ ts) rest = ⊥
Closed name (Char at c s ∷ ts) rest = ⊥

-- a start tag, whatever its references
abbrev pub tag_as : ℕ → List ℕ → List Attribute → Option ℕ → Option Fault → Tag
tag_as at m attrs unknown late = record { at = at; name = m; attributes = attrs; unknown = unknown; late = late }

-- what stands in a raw element: its text, if there is any
abbrev pub raw_forest : Option Piece → Forest
raw_forest None = Nil
raw_forest (Some p) = Words p.at p.text Nil

-- In an element of this name these nodes are spelled by the tokens up to the rest. An element stands where its start
-- tag doesn't close the element that it would stand in; it is void, or has its content and its end, or is raw text.
abbrev pub Content : List ℕ → Forest → List Token → List Token → Type 0
Content name Nil toks rest = skip_comments toks ≡ rest
Content name (Words at text next) toks rest =
    (c : ℕ) × (s : Spelled) × (more : List Token) × (skip_comments toks ≡ Char at c s ∷ more)
    × (text ≡ encode_utf8 c ++ run_text more) × Content name next (behind_run more) rest
Content name (Element at m attrs kids next) toks rest =
    (unknown : Option ℕ) × (late : Option Fault) × (inner : List Token) × (after : List Token) × (closes m name ≡ false)
    × (((skip_comments toks ≡ Start (tag_as at m attrs unknown late) ∷ inner) × (is_outer m ≡ false)
    × MatchBool (is_void m) ((kids ≡ Nil) × (after ≡ inner)) ((end : List Token) × Content m kids inner end × Closed m end after))
    ⊎ ((text : Option Piece) × (skip_comments toks ≡ Raw (tag_as at m attrs unknown late) text ∷ inner) × (kids ≡ raw_forest text)
    × (after ≡ inner)))
    × Content name next after rest

abbrev pub begins_head_element : List Token → Bool
begins_head_element [] = false
begins_head_element (t ∷ ts) = is_head_element t

-- These elements of the head are spelled by the tokens up to the rest, where no more of them stands.
abbrev pub HeadPart : Forest → List Token → List Token → Type 0
HeadPart Nil toks rest = (skip_blank toks ≡ rest) × (begins_head_element rest ≡ false)
HeadPart (Words at text next) toks rest = ⊥
HeadPart (Element at m attrs kids next) toks rest =
    (unknown : Option ℕ) × (late : Option Fault) × (inner : List Token)
    × (((skip_blank toks ≡ Start (tag_as at m attrs unknown late) ∷ inner) × (is_head_void m ≡ true) × (kids ≡ Nil))
    ⊎ ((text : Option Piece) × (skip_blank toks ≡ Raw (tag_as at m attrs unknown late) text ∷ inner) × (kids ≡ raw_forest text)))
    × HeadPart next inner rest

-- Where one of html, head and body begins: with its tag, or, where that is missing, at the next token or at the end of
-- the text, without attributes.
pub record Begun : Type 0 where
  pub at : ℕ
  pub attributes : List Attribute
  pub inner : List Token

abbrev pub begun : List ℕ → ℕ → List Token → Begun
begun name size [] = record { at = size; attributes = []; inner = [] }
begun name size (t ∷ ts) = if is_start name t then record { at = place_of t; attributes = attributes_of t; inner = ts } else
    record { at = place_of t; attributes = []; inner = t ∷ ts }

abbrev pub behind_doctype : List Token → List Token
behind_doctype [] = []
behind_doctype (t ∷ ts) = if is_doctype t then ts else (t ∷ ts)

abbrev pub behind_end : List ℕ → List Token → List Token
behind_end m [] = []
behind_end m (t ∷ ts) = if is_end m t then ts else (t ∷ ts)

-- where html begins, in a text of this many bytes; where head begins; where body begins after the head's elements
abbrev pub html_begun : ℕ → List Token → Begun
html_begun size toks = begun (codes "html") size (skip_blank (behind_doctype (skip_blank toks)))

abbrev pub head_begun : ℕ → List Token → Begun
head_begun size toks = begun (codes "head") size (skip_blank (html_begun size toks).inner)

abbrev pub body_begun : ℕ → List Token → Begun
body_begun size past = begun (codes "body") size (skip_blank (behind_end (codes "head") past))

abbrev pub whole_tree : Begun → Begun → Forest → Begun → Forest → Forest
whole_tree html head head_kids body kids =
    Element html.at (codes "html") html.attributes
    (Element head.at (codes "head") head.attributes head_kids
    (Element body.at (codes "body") body.attributes kids Nil)) Nil

-- The tokens of a text of this many bytes are a document with this tree.
pub record IsDocument (size : ℕ) (toks : List Token) (tree : Forest) : Type 0 where
  pub head_kids : Forest
  pub past : List Token
  pub kids : Forest
  pub end : List Token
  pub after : List Token
  pub head_part : HeadPart head_kids (head_begun size toks).inner past
  pub content : Content (codes "body") kids (body_begun size past).inner end
  pub closed : Closed (codes "body") end after
  pub nothing : skip_blank (behind_end (codes "html") (skip_blank after)) ≡ []
  pub whole : tree ≡ whole_tree (html_begun size toks) (head_begun size toks) head_kids (body_begun size past) kids

-- how many elements stand one inside another at most
abbrev pub depth_of : Forest → ℕ
depth_of Nil = 0
depth_of (Words at text next) = depth_of next
depth_of (Element at m attrs kids next) = max (suc (depth_of kids)) (depth_of next)
