-- Which texts are documents, with which tree; the laws of documents on the bytes of a text.
use Rattle.std.specs.Prelude.{◌≡◌, ◌≤◌, ℕ, List, [], ◌∷◌, length, chars, IsUtf8, Option, None, Ok}
use Rattle.mc_base.specs.declared.refusal.Found.{Found}
use Rattle.html_grammar.specs.declared.dom.Dom.{Dom}
use Rattle.html_grammar.specs.declared.token.Token.{Token}
use Rattle.html_grammar.specs.Tokens.{construct_of}
use Rattle.html_grammar.specs.Tree.{Forest, nodes_from}
use Rattle.html_grammar.specs.Places.{places_of}
use Rattle.html_grammar.specs.Spelling.{IsLexed}
use Rattle.html_grammar.specs.Grammar.{IsDocument, depth_of}
use Rattle.html_grammar.specs.Laws.{built_as}
use Rattle.html_grammar.specs.Whole.{Reading, or_found, read_text, count_elements, dom_of}

-- no byte is zero
abbrev pub NoZero : List ℕ → Type 0
NoZero [] = Unit {0}
NoZero (b ∷ bytes) = (b ≡ 0 → ⊥) × NoZero bytes

-- the first in these tokens that isn't laid out
abbrev pub first_construct : List Token → Option Found
first_construct [] = None
first_construct (t ∷ ts) = or_found (construct_of t) (first_construct ts)

-- The bytes are a document with this tree, and with this first construct that isn't laid out: they are UTF-8 without
-- U+0000, and their characters spell tokens that are a document.
pub record IsText (bytes : List ℕ) (tree : Forest) (construct : Option Found) : Type 0 where
  pub utf8 : IsUtf8 bytes
  pub no_zero : NoZero bytes
  pub tokens : List Token
  pub spelled : IsLexed tokens (places_of (chars bytes))
  pub document : IsDocument (length bytes) tokens tree
  pub first : construct ≡ first_construct tokens

abbrev pub reading_as : Forest → Option Found → Reading
reading_as tree construct = record { built = built_as tree; construct = construct }

-- what is spelled as a document is read
abbrev pub TextsAreRead : Type 0
TextsAreRead = (bytes : List ℕ) (tree : Forest) (construct : Option Found) → IsText bytes tree construct
    → read_text bytes ≡ Ok (reading_as tree construct)

-- what is read is spelled so
abbrev pub WhatIsReadIsSpelled : Type 0
WhatIsReadIsSpelled = (bytes : List ℕ) (r : Reading) → read_text bytes ≡ Ok r → (tree : Forest) × IsText bytes tree r.construct
    × (r ≡ reading_as tree r.construct)

-- a text has at most one tree, and at most one first construct
abbrev pub OneTreeOfText : Type 0
OneTreeOfText = (bytes : List ℕ) (f g : Forest) (c d : Option Found) → IsText bytes f c → IsText bytes g d → (f ≡ g) × (c ≡ d)

-- The document of a text: the nodes of its tree, one after the other, and what isn't laid out. It has at most 20,000
-- elements, and at most 64 stand one inside another.
pub record IsDomOf (bytes : List ℕ) (dom : Dom) : Type 0 where
  pub tree : Forest
  pub text : IsText bytes tree dom.construct
  pub nodes : dom.nodes ≡ nodes_from None 0 tree
  pub elements : count_elements dom.nodes ≤ 20000
  pub depth : depth_of tree ≤ 64

-- what is answered is the document of the text; and a text's document is answered
abbrev pub DomsAreOfTheirTexts : Type 0
DomsAreOfTheirTexts = (bytes : List ℕ) (dom : Dom) → dom_of bytes ≡ Ok dom → IsDomOf bytes dom

abbrev pub TextsHaveTheirDoms : Type 0
TextsHaveTheirDoms = (bytes : List ℕ) (dom : Dom) → IsDomOf bytes dom → dom_of bytes ≡ Ok dom
