-- The tree of tokens, or the first fault, as a run of steps.
use Rattle.std.specs.Prelude.{ℕ, ◌+◌, max, List, [], ◌∷◌, ◌++◌, length, Option, Some, None, Result, Ok, Bool, true, false, ◌&&◌}
use Rattle.std.specs.Prelude.{not, if◌then◌else◌, codes, encode_utf8}
use Rattle.mc_base.specs.Reading.{◌>>=◌, fault}
use Rattle.html_grammar.specs.declared.dom.Attribute.{Attribute}
use Rattle.html_grammar.specs.declared.dom.DomNode.{DomNode}
use Rattle.html_grammar.specs.declared.stage.Open.{Open}
use Rattle.html_grammar.specs.declared.stage.Stage.{Stage}
use Rattle.html_grammar.specs.declared.stage.Stage.TheVariants.{Opening, BeforeHead, InHead, BehindHead, InBody}
use Rattle.mc_base.specs.declared.read_error.Fault.{Fault}
use Rattle.html_grammar.specs.declared.token.Piece.{Piece}
use Rattle.html_grammar.specs.declared.token.Spelled.{Spelled}
use Rattle.html_grammar.specs.declared.token.Tag.{Tag}
use Rattle.html_grammar.specs.declared.token.Token.{Token}
use Rattle.html_grammar.specs.declared.token.Token.TheVariants.{Start, Raw, End, Comment, Doctype, Char}
use Rattle.html_grammar.specs.Names.{same, is_outer, is_void, omits, closes}
use Rattle.html_grammar.specs.Tokens.{place_of, is_white, is_blank, is_start, is_end, is_doctype, is_head_element, attributes_of}
use Rattle.html_grammar.specs.Tree.{element_node, words_node}

-- How far reading has come, the nodes so far, text that goes on, the elements whose end is to come from body inwards
-- and the innermost first, whether the end of html is to come, and how many elements stand one inside another at most.
pub record State : Type 0 where
  pub stage : Stage
  pub nodes : List DomNode
  pub words : Option Piece
  pub opens : List Open
  pub html : Bool
  pub deepest : ℕ

abbrev pub opening_state : State
opening_state = record { stage = Opening false; nodes = []; words = None; opens = []; html = true; deepest = 0 }

abbrev pub innermost : List Open → Option ℕ
innermost [] = None
innermost (o ∷ os) = Some o.number

-- with the text so far as a node
abbrev pub flushed : List DomNode → Option Piece → List Open → List DomNode
flushed nodes None opens = nodes
flushed nodes (Some p) opens = nodes ++ words_node (innermost opens) p.at p.text ∷ []

abbrev pub nodes_at_rest : State → List DomNode
nodes_at_rest s = flushed s.nodes s.words s.opens

-- the elements that a start tag doesn't close
abbrev pub drop_closed : List ℕ → List Open → List Open
drop_closed m [] = []
drop_closed m (o ∷ os) = if closes m o.name then drop_closed m os else (o ∷ os)

-- an element begins, in the innermost that is open
abbrev pub started : State → List DomNode → Tag → List Open → Result State Fault
started s nodes tag [] = fault tag.at 8
started s nodes tag (o ∷ os) = if is_outer tag.name then fault tag.at 8 else Ok (record {
  stage = s.stage;
  nodes = nodes ++ element_node (Some o.number) tag.at tag.name tag.attributes ∷ [];
  words = None;
  opens = (if is_void tag.name then (o ∷ os) else (record { number = length nodes; name = tag.name } ∷ o ∷ os));
  html = s.html;
  deepest = max s.deepest (length (o ∷ os) + 2);
})

-- the text of a raw element of this number
abbrev pub raw_nodes : ℕ → Option Piece → List DomNode
raw_nodes k None = []
raw_nodes k (Some p) = words_node (Some k) p.at p.text ∷ []

-- a raw element, whole
abbrev pub with_raw : List DomNode → Option ℕ → Tag → Option Piece → List DomNode
with_raw nodes parent tag text = nodes ++ (element_node parent tag.at tag.name tag.attributes ∷ raw_nodes (length nodes) text)

abbrev pub raw_put : State → List DomNode → Tag → Option Piece → List Open → Result State Fault
raw_put s nodes tag text [] = fault tag.at 8
raw_put s nodes tag text (o ∷ os) = Ok (record {
  stage = s.stage;
  nodes = with_raw nodes (Some o.number) tag text;
  words = None;
  opens = o ∷ os;
  html = s.html;
  deepest = max s.deepest (length (o ∷ os) + 2);
})

-- the elements that an end tag leaves open, and whether it leaves html so
abbrev pub without : ℕ → List ℕ → Bool → List Open → Result (List Open × Bool) Fault
without at m html [] = if html && same m (codes "html") then Ok ([], false) else fault at 6
without at m html (o ∷ os) = if same m o.name then Ok (os, html) else (if omits o.name then without at m html os else fault at 6)

abbrev pub ended : State → List DomNode → List Open × Bool → Result State Fault
ended s nodes left =
    Ok (record { stage = s.stage; nodes = nodes; words = None; opens = left.0; html = left.1; deepest = s.deepest })

abbrev pub with_words : State → Option Piece → State
with_words s words = record {
  stage = s.stage;
  nodes = s.nodes;
  words = words;
  opens = s.opens;
  html = s.html;
  deepest = s.deepest;
}

abbrev pub spoken : Option Piece → ℕ → ℕ → Piece
spoken None at c = record { at = at; text = encode_utf8 c }
spoken (Some p) at c = record { at = p.at; text = p.text ++ encode_utf8 c }

-- a character of the text; after the body only white space stands
abbrev pub spell : State → ℕ → ℕ → Spelled → List Open → Result State Fault
spell s at c spelled [] = if is_white c spelled then Ok s else fault at 8
spell s at c spelled (o ∷ os) = Ok (with_words s (Some (spoken s.words at c)))

-- a token in the body, or after it
unfoldable pub step : State → Token → Result State Fault
step s (Start tag) = started s (nodes_at_rest s) tag (drop_closed tag.name s.opens)
step s (Raw tag text) = raw_put s (nodes_at_rest s) tag text (drop_closed tag.name s.opens)
step s (End at m) = without at m s.html s.opens >>= ended s (nodes_at_rest s)
step s (Comment at) = ended s (nodes_at_rest s) (s.opens, s.html)
step s (Doctype at) = fault at 8
step s (Char at c spelled) = spell s at c spelled s.opens

-- one of html, head and body begins
abbrev pub begin_html : State → ℕ → List Attribute → State
begin_html s at attrs = record {
  stage = BeforeHead;
  nodes = s.nodes ++ element_node None at (codes "html") attrs ∷ [];
  words = None;
  opens = s.opens;
  html = s.html;
  deepest = max s.deepest 2;
}

abbrev pub begin_head : State → ℕ → List Attribute → State
begin_head s at attrs = record {
  stage = InHead;
  nodes = s.nodes ++ element_node (Some 0) at (codes "head") attrs ∷ [];
  words = None;
  opens = s.opens;
  html = s.html;
  deepest = s.deepest;
}

abbrev pub end_head : State → State
end_head s = record { stage = BehindHead; nodes = s.nodes; words = None; opens = s.opens; html = s.html; deepest = s.deepest }

abbrev pub begin_body : State → ℕ → List Attribute → State
begin_body s at attrs = record {
  stage = InBody;
  nodes = s.nodes ++ element_node (Some 0) at (codes "body") attrs ∷ [];
  words = None;
  opens = record { number = length s.nodes; name = codes "body" } ∷ [];
  html = s.html;
  deepest = s.deepest;
}

-- the nodes of an element of the head, whose number is 1
abbrev pub head_element : List DomNode → Token → List DomNode
head_element nodes (Start tag) = with_raw nodes (Some 1) tag None
head_element nodes (Raw tag text) = with_raw nodes (Some 1) tag text
head_element nodes (End at name) = nodes
head_element nodes (Comment at) = nodes
head_element nodes (Doctype at) = nodes
head_element nodes (Char at c s) = nodes

abbrev pub in_head : State → Token → State
in_head s t = record {
  stage = s.stage;
  nodes = head_element s.nodes t;
  words = None;
  opens = s.opens;
  html = s.html;
  deepest = max s.deepest 3;
}

abbrev pub with_doctype : State → State
with_doctype s = record {
  stage = Opening true;
  nodes = s.nodes;
  words = s.words;
  opens = s.opens;
  html = s.html;
  deepest = s.deepest;
}

-- a token at each stage; one that a part doesn't take begins the next part
unfoldable pub take_behind_head : State → Token → Result State Fault
take_behind_head s t = if is_blank t then Ok s
    else (if is_start (codes "body") t then Ok (begin_body s (place_of t) (attributes_of t))
    else step (begin_body s (place_of t) []) t)

unfoldable pub take_in_head : State → Token → Result State Fault
take_in_head s t = if is_blank t then Ok s
    else (if is_head_element t then Ok (in_head s t)
    else (if is_end (codes "head") t then Ok (end_head s)
    else take_behind_head (end_head s) t))

unfoldable pub take_before_head : State → Token → Result State Fault
take_before_head s t = if is_blank t then Ok s
    else (if is_start (codes "head") t then Ok (begin_head s (place_of t) (attributes_of t))
    else take_in_head (begin_head s (place_of t) []) t)

unfoldable pub take_opening : Bool → State → Token → Result State Fault
take_opening doctype s t = if is_blank t then Ok s
    else (if not doctype && is_doctype t then Ok (with_doctype s)
    else (if is_start (codes "html") t then Ok (begin_html s (place_of t) (attributes_of t))
    else take_before_head (begin_html s (place_of t) []) t))

abbrev pub take_at : Stage → State → Token → Result State Fault
take_at (Opening doctype) s t = take_opening doctype s t
take_at BeforeHead s t = take_before_head s t
take_at InHead s t = take_in_head s t
take_at BehindHead s t = take_behind_head s t
take_at InBody s t = step s t

unfoldable pub take_token : State → Token → Result State Fault
take_token s t = take_at s.stage s t

-- whether the end of each of these may be missing
abbrev pub all_omit : List Open → Bool
all_omit [] = true
all_omit (o ∷ os) = omits o.name && all_omit os

-- the nodes of a whole document, and how many of its elements stand one inside another at most
pub record Built : Type 0 where
  pub nodes : List DomNode
  pub deepest : ℕ

abbrev pub finish : ℕ → State → Result Built Fault
finish size s = if all_omit s.opens then Ok (record { nodes = nodes_at_rest s; deepest = s.deepest }) else fault size 7

abbrev pub conclude_at : Stage → ℕ → State → Result Built Fault
conclude_at (Opening doctype) size s = finish size (begin_body (end_head (begin_head (begin_html s size []) size [])) size [])
conclude_at BeforeHead size s = finish size (begin_body (end_head (begin_head s size [])) size [])
conclude_at InHead size s = finish size (begin_body (end_head s) size [])
conclude_at BehindHead size s = finish size (begin_body s size [])
conclude_at InBody size s = finish size s

-- the end of a text of this many bytes
unfoldable pub conclude : ℕ → State → Result Built Fault
conclude size s = conclude_at s.stage size s

-- the reading after these tokens, or the first fault
abbrev pub read_all : State → List Token → Result State Fault
read_all s [] = Ok s
read_all s (t ∷ ts) = take_token s t >>= λ next. read_all next ts

-- what the tokens of a text of this many bytes come to, or the first fault
unfoldable pub built : ℕ → List Token → Result Built Fault
built size toks = read_all opening_state toks >>= conclude size
