-- The document of a text, or its first fault.
use Rattle.std.specs.Prelude.{ℕ, zero, suc, ◌==◌, nat_lt, min, not, List, [], ◌∷◌, length, chars, count_by, take_while, Bool}
use Rattle.std.specs.Prelude.{true, false, Option, Some, None, Result, Ok, Err, if◌then◌else◌}
use Rattle.std.specs.Str.Lossy.{utf8_valid_len}
use Rattle.mc_base.specs.declared.refusal.Found.{Found}
use Rattle.mc_base.specs.declared.refusal.Refusal.{Refusal}
use Rattle.mc_base.specs.declared.refusal.Refusal.TheVariants as refusals
use Rattle.mc_base.specs.declared.refusal.Input.TheVariants as inputs
use Rattle.mc_base.specs.declared.refusal.LimitName.TheVariants as limits
use Rattle.mc_base.specs.Reading.{◌>>=◌, fault}
use Rattle.html_grammar.specs.declared.dom.Dom.{Dom}
use Rattle.html_grammar.specs.declared.dom.DomNode.{DomNode}
use Rattle.html_grammar.specs.declared.dom.NodeKind.{NodeKind}
use Rattle.html_grammar.specs.declared.dom.NodeKind.TheVariants as kinds
use Rattle.html_grammar.specs.declared.place.Place.{Place}
use Rattle.mc_base.specs.declared.read_error.Fault.{Fault}
use Rattle.mc_base.specs.SoundText.{sound_len}
use Rattle.html_grammar.specs.Places.{places_of}
use Rattle.html_grammar.specs.Tokens.{late_of, construct_of}
use Rattle.html_grammar.specs.Machine.{State, Built, opening_state, take_token, conclude}
use Rattle.html_grammar.specs.Lexing.{token_at}

-- what reading comes to, and the first construct that isn't laid out
pub record Reading : Type 0 where
  pub built : Built
  pub construct : Option Found

abbrev pub or_found : Option Found → Option Found → Option Found
or_found None b = b
or_found (Some a) b = Some a

abbrev pub not_late : Option Fault → Result State Fault → Result State Fault
not_late None r = r
not_late (Some f) (Ok s) = Err f
not_late (Some f) (Err e) = Err e

abbrev pub concluded : ℕ → Option Found → State → Result Reading Fault
concluded size seen s = conclude size s >>= λ last. Ok (record { built = last; construct = seen })

-- The tokens one after the other, of which there are at most as many as counted: a token's own form comes first, then
-- the structure, then what the token has after its place.
unfoldable pub read_from : ℕ → ℕ → Option Found → State → List Place → Result Reading Fault
read_from n size seen s [] = concluded size seen s
read_from zero size seen s (p ∷ ps) = concluded size seen s
read_from (suc n) size seen s (p ∷ ps) =
    token_at size p ps >>= λ t. not_late (late_of t.0) (take_token s t.0) >>= λ next.
    read_from n size (or_found seen (construct_of t.0)) next t.1

-- the reading of a text, or its first fault
unfoldable pub read_text : List ℕ → Result Reading Fault
read_text bytes =
    if nat_lt (sound_len bytes) (length bytes) then fault (sound_len bytes) 1
    else read_from (length bytes) (length bytes) None opening_state (places_of (chars bytes))

abbrev pub is_element_kind : NodeKind → Bool
is_element_kind (kinds.Element name attributes) = true
is_element_kind (kinds.Words text) = false

abbrev pub is_element : DomNode → Bool
is_element n = is_element_kind n.kind

abbrev pub count_elements : List DomNode → ℕ
count_elements nodes = count_by is_element nodes

-- a fault as it is reported: the letter is h
abbrev pub grammar_refusal : Fault → Refusal
grammar_refusal f = refusals.Grammar inputs.Document f.at (record { letter = 104; number = f.rule })

-- at most 20,000 elements, and at most 64 of them one inside another
abbrev pub within_limits : Reading → Result Dom Refusal
within_limits r =
    if nat_lt 20000 (count_elements r.built.nodes) then Err (refusals.Limit limits.Elements 20001 20000)
    else (if nat_lt 64 r.built.deepest then Err (refusals.Limit limits.Depth 65 64)
    else Ok (record { nodes = r.built.nodes; construct = r.construct }))

abbrev pub refused_or_within : Result Reading Fault → Result Dom Refusal
refused_or_within (Ok r) = within_limits r
refused_or_within (Err f) = Err (grammar_refusal f)

-- the document of a text, or why it is refused
unfoldable pub dom_of : List ℕ → Result Dom Refusal
dom_of bytes = refused_or_within (read_text bytes)
