-- Which fault of a text is the first, by the grammar alone: tokens that some document begins with, and after them a
-- place where no token stands, or one with which no document goes on. Of faults at one place the one of lesser number
-- comes first: what a token's form breaks (2, 3), a name that stands twice (4), a reference in text (5), an end tag that
-- closes nothing (6) or anything else out of its place (8), raw text without its end (9). What a tag has after its own
-- place comes last.
use Rattle.std.specs.Prelude.{◌≡◌, ◌<◌, ◌≤◌, ◌⊎◌, ℕ, List, [], ◌∷◌, ◌++◌, drop, length, chars, IsUtf8, true, false, Option, Some}
use Rattle.std.specs.Prelude.{None, Err, codes}
use Rattle.std.specs.Char.{is_ascii_alphabetic}
use Rattle.mc_base.specs.declared.refusal.Found.{Found}
use Rattle.mc_base.specs.declared.refusal.Refusal.{Refusal}
use Rattle.mc_base.specs.declared.refusal.Refusal.TheVariants as refusals
use Rattle.mc_base.specs.declared.refusal.LimitName.TheVariants as limits
use Rattle.html_grammar.specs.declared.place.Place.{Place}
use Rattle.mc_base.specs.declared.read_error.Fault.{Fault}
use Rattle.mc_base.specs.SoundText.{sound_len}
use Rattle.html_grammar.specs.declared.token.Tag.{Tag}
use Rattle.html_grammar.specs.declared.token.Token.{Token}
use Rattle.html_grammar.specs.declared.token.Token.TheVariants.{Start, Raw, End, Comment, Doctype, Char}
use Rattle.html_grammar.specs.Names.{is_raw}
use Rattle.html_grammar.specs.Places.{place_or, places_of, begins_with, begins}
use Rattle.html_grammar.specs.Tree.{Forest, nodes_from}
use Rattle.html_grammar.specs.Grammar.{IsDocument, depth_of}
use Rattle.html_grammar.specs.Faults.{IsFront, rule_of}
use Rattle.html_grammar.specs.Lexing.{begins_text, is_doubled, ends_raw}
use Rattle.html_grammar.specs.Spelling.{NoneBegins, BeginsBad, IsTag, IsOnce, IsEndTag, IsDoctype, IsToken}
use Rattle.html_grammar.specs.Whole.{read_text, count_elements, grammar_refusal, dom_of}
use Rattle.html_grammar.specs.Documents.{NoZero, IsText}

abbrev pub fault_as : ℕ → ℕ → Fault
fault_as at rule = record { at = at; rule = rule }

-- the places spell these tokens up to a rest
abbrev pub IsLexedTo : List Token → List Place → List Place → Type 0
IsLexedTo [] ps rest = ps ≡ rest
IsLexedTo (t ∷ ts) ps rest = (one : List Place) × (more : List Place) × (ps ≡ one ++ more) × IsToken t one more
    × IsLexedTo ts more rest

-- the places begin with a start tag
pub record HasTag (tag : Tag) (ps : List Place) : Type 0 where
  pub one : List Place
  pub rest : List Place
  pub whole : ps ≡ one ++ rest
  pub is : IsTag tag one rest

-- a token that begins with a start tag of this name
abbrev pub IsStartOf : List ℕ → Token → Type 0
IsStartOf m (Start tag) = (tag.name ≡ m) × (is_raw m ≡ false)
IsStartOf m (Raw tag text) = (tag.name ≡ m) × (is_raw m ≡ true)
IsStartOf m (End at name) = ⊥
IsStartOf m (Comment at) = ⊥
IsStartOf m (Doctype at) = ⊥
IsStartOf m (Char at c s) = ⊥

-- no document goes on so with a start tag of this name; some does
abbrev pub Barred : ℕ → List Token → List ℕ → Type 0
Barred size front m = (t : Token) → IsStartOf m t → IsFront size (front ++ t ∷ []) → ⊥

abbrev pub Allowed : ℕ → List Token → List ℕ → Type 0
Allowed size front m = (t : Token) × IsStartOf m t × IsFront size (front ++ t ∷ [])

-- where raw text of this name ends; that it doesn't
pub record RawEnds (name : List ℕ) (ps : List Place) : Type 0 where
  pub inner : List Place
  pub behind : List Place
  pub whole : ps ≡ inner ++ behind
  pub not_over : NoneBegins (ends_raw name) inner behind
  pub over : ends_raw name behind ≡ true

abbrev pub NeverEnds : List ℕ → List Place → Type 0
NeverEnds name ps = NoneBegins (ends_raw name) ps []

-- a comment that isn't closed
abbrev pub IsOpenComment : Place → List Place → Fault → Type 0
IsOpenComment p ps f = (p.character ≡ 60) × (begins_text (codes "!--") ps ≡ true)
    × NoneBegins (begins_text (codes "-->")) (drop 3 ps) [] × (f ≡ fault_as p.at 2)

-- what begins like a tag, an end tag or a doctype, and is none
abbrev pub IsOffForm : Place → List Place → Fault → Type 0
IsOffForm p ps f = (p.character ≡ 60) × (f ≡ fault_as p.at 3)
    × (((begins_with is_ascii_alphabetic ps ≡ true) × ((tag : Tag) → HasTag tag (p ∷ ps) → ⊥))
    ⊎ (((begins 47 ps ≡ true) × ((at : ℕ) (name : List ℕ) (one rest : List Place) → p ∷ ps ≡ one ++ rest
    → IsEndTag at name one rest → ⊥))
    ⊎ (((begins 33 ps ≡ true) × (begins_text (codes "!--") ps ≡ false)
    × ((at : ℕ) (one rest : List Place) → p ∷ ps ≡ one ++ rest → IsDoctype at one → ⊥))
    ⊎ (begins 63 ps ≡ true))))

-- a tag with a name that stands twice
abbrev pub IsTwice : Place → List Place → Fault → Type 0
IsTwice p ps f = (tag : Tag) × HasTag tag (p ∷ ps) × (is_doubled tag.attributes ≡ true) × (f ≡ fault_as p.at 4)

-- a reference in the text that names no character
abbrev pub IsBadHere : Place → List Place → Fault → Type 0
IsBadHere p ps f = (p.character ≡ 38) × BeginsBad ps × (f ≡ fault_as p.at 5)

-- a token with which no document goes on
abbrev pub IsOutOfPlace : ℕ → List Token → Place → List Place → Fault → Type 0
IsOutOfPlace size front p ps f = (t : Token) × (one : List Place) × (rest : List Place) × (p ∷ ps ≡ one ++ rest)
    × IsToken t one rest
    × (IsFront size (front ++ t ∷ []) → ⊥) × (f ≡ fault_as p.at (rule_of t))

-- a tag with which no document goes on, whatever its attributes and its content
abbrev pub IsTagOutOfPlace : ℕ → List Token → Place → List Place → Fault → Type 0
IsTagOutOfPlace size front p ps f = (tag : Tag) × HasTag tag (p ∷ ps) × IsOnce tag × Barred size front tag.name
    × (f ≡ fault_as p.at 8)

-- a tag in its place with raw text that doesn't end; with a bad reference in its attributes; with an end tag off its form
abbrev pub IsLate : Place → Tag → List Place → Fault → Type 0
IsLate p tag rest f =
    ((is_raw tag.name ≡ true) × NeverEnds tag.name rest × (f ≡ fault_as p.at 9))
    ⊎ (((is_raw tag.name ≡ true → RawEnds tag.name rest) × (tag.late ≡ Some f))
    ⊎ ((is_raw tag.name ≡ true) × (tag.late ≡ None) × (ends : RawEnds tag.name rest)
    × ((at : ℕ) (name : List ℕ) (one more : List Place) → ends.behind ≡ one ++ more → IsEndTag at name one more → ⊥)
    × (f ≡ fault_as (place_or 0 ends.behind) 3)))

abbrev pub IsLateHere : ℕ → List Token → Place → List Place → Fault → Type 0
IsLateHere size front p ps f = (tag : Tag) × (has : HasTag tag (p ∷ ps)) × IsOnce tag × Allowed size front tag.name
    × IsLate p tag has.rest f

abbrev pub IsFaultHere : ℕ → List Token → Place → List Place → Fault → Type 0
IsFaultHere size front p ps f =
    IsOpenComment p ps f ⊎ (IsOffForm p ps f
    ⊎ (IsTwice p ps f ⊎ (IsBadHere p ps f
    ⊎ (IsOutOfPlace size front p ps f ⊎ (IsTagOutOfPlace size front p ps f ⊎ IsLateHere size front p ps f)))))

-- After these tokens: at the next place, or at the end of the text, where an element is open whose end tag may not be
-- missing (7).
abbrev pub IsFaultBehind : ℕ → List Token → List Place → Fault → Type 0
IsFaultBehind size front [] f = ((tree : Forest) → IsDocument size front tree → ⊥) × (f ≡ fault_as size 7)
IsFaultBehind size front (p ∷ ps) f = IsFaultHere size front p ps f

-- The first fault of a text of places.
pub record IsFaultOf (size : ℕ) (ps : List Place) (f : Fault) : Type 0 where
  pub front : List Token
  pub rest : List Place
  pub spelled : IsLexedTo front ps rest
  pub goes_on : IsFront size front
  pub fault : IsFaultBehind size front rest f

-- The first fault of a text: its first byte that is zero or where no character begins (1), before all others.
abbrev pub IsFirstFaultOf : List ℕ → Fault → Type 0
IsFirstFaultOf bytes f =
    ((sound_len bytes < length bytes) × (f ≡ fault_as (sound_len bytes) 1))
    ⊎ (IsUtf8 bytes × NoZero bytes × IsFaultOf (length bytes) (places_of (chars bytes)) f)

-- the fault of a text that is reported is the first
abbrev pub TheFaultOfATextIsTheFirst : Type 0
TheFaultOfATextIsTheFirst = (bytes : List ℕ) (f : Fault) → read_text bytes ≡ Err f → IsFirstFaultOf bytes f

-- Why a text is refused: its first fault; or it is a document with more than 20,000 elements, or with more than 64 of
-- them one inside another.
abbrev pub IsRefusalOf : List ℕ → Refusal → Type 0
IsRefusalOf bytes e =
    ((f : Fault) × IsFirstFaultOf bytes f × (e ≡ grammar_refusal f))
    ⊎ (((tree : Forest) × (construct : Option Found) × IsText bytes tree construct
    × (20000 < count_elements (nodes_from None 0 tree)) × (e ≡ refusals.Limit limits.Elements 20001 20000))
    ⊎ ((tree : Forest) × (construct : Option Found) × IsText bytes tree construct
    × (count_elements (nodes_from None 0 tree) ≤ 20000) × (64 < depth_of tree) × (e ≡ refusals.Limit limits.Depth 65 64)))

-- every refusal has such a reason
abbrev pub RefusalsHaveReasons : Type 0
RefusalsHaveReasons = (bytes : List ℕ) (e : Refusal) → dom_of bytes ≡ Err e → IsRefusalOf bytes e
