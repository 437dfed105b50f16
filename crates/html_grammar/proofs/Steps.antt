-- Runs over comments, text and the end of an element.
use Rattle.std.proofs.Common.{◌≡◌, ℕ, List, [], ◌∷◌, ◌++◌, Some, None, Result, Bool, true, false, refl, ap, ◌∙◌, append_assoc}
use Rattle.std.specs.Prelude.{IsTrue, MatchBool, encode_utf8}
use Rattle.std.proofs.lemmas.List.{append-nil}
use Rattle.mc_base.specs.Reading.{◌>>=◌, fault}
use Rattle.html_grammar.specs.declared.dom.DomNode.{DomNode}
use Rattle.html_grammar.specs.declared.stage.Open.{Open}
use Rattle.html_grammar.specs.declared.stage.Stage.TheVariants.{InBody}
use Rattle.mc_base.specs.declared.read_error.Fault.{Fault}
use Rattle.html_grammar.specs.declared.token.Token.{Token}
use Rattle.html_grammar.specs.declared.token.Token.TheVariants.{Start, Raw, End, Comment, Doctype, Char}
use Rattle.html_grammar.specs.Names.{same, omits}
use Rattle.html_grammar.specs.Tree.{words_node}
use Rattle.html_grammar.specs.Grammar.{skip_comments, run_text, behind_run, Closed}
use Rattle.html_grammar.specs.Machine.{State, Built, nodes_at_rest, drop_closed, started, raw_put, without, ended, spell, step}
use Rattle.html_grammar.specs.Machine.{finish}

-- a step, always unfolded
abbrev pub go : State → Token → Result State Fault
go s (Start tag) = started s (nodes_at_rest s) tag (drop_closed tag.name s.opens)
go s (Raw tag text) = raw_put s (nodes_at_rest s) tag text (drop_closed tag.name s.opens)
go s (End at m) = without at m s.html s.opens >>= ended s (nodes_at_rest s)
go s (Comment at) = ended s (nodes_at_rest s) (s.opens, s.html)
go s (Doctype at) = fault at 8
go s (Char at c spelled) = spell s at c spelled s.opens

pub step_is_go : (s : State) (t : Token) → step s t ≡ go s t
unfolding step
step_is_go s (Start tag) = refl
step_is_go s (Raw tag text) = refl
step_is_go s (End at m) = refl
step_is_go s (Comment at) = refl
step_is_go s (Doctype at) = refl
step_is_go s (Char at c spelled) = refl

-- the rest of a text, in the body or after it
abbrev pub run : ℕ → State → List Token → Result Built Fault
run size s [] = finish size s
run size s (t ∷ ts) = go s t >>= λ next. run size next ts

abbrev pub at_rest : List DomNode → List Open → Bool → ℕ → State
at_rest nodes opens html d = record { stage = InBody; nodes = nodes; words = None; opens = opens; html = html; deepest = d }

abbrev pub speaking : List DomNode → ℕ → List ℕ → List Open → Bool → ℕ → State
speaking nodes at text opens html d =
    record {
      stage = InBody;
      nodes = nodes;
      words = Some (record { at = at; text = text });
      opens = opens;
      html = html;
      deepest = d;
    }

abbrev pub open_as : ℕ → List ℕ → Open
open_as k name = record { number = k; name = name }

pub over_comments : (size : ℕ) (nodes : List DomNode) (opens : List Open) (html : Bool) (d : ℕ) (toks : List Token)
    → run size (at_rest nodes opens html d) toks ≡ run size (at_rest nodes opens html d) (skip_comments toks)
over_comments size nodes opens html d (Comment at ∷ ts) = over_comments size nodes opens html d ts
over_comments size nodes opens html d _ = refl

pub over_text : (size : ℕ) (nodes : List DomNode) (at : ℕ) (text : List ℕ) (o : Open) (os : List Open) (html : Bool) (d : ℕ)
    (toks : List Token)
    → run size (speaking nodes at text (o ∷ os) html d) toks
    ≡ run size (at_rest (nodes ++ words_node (Some o.number) at (text ++ run_text toks) ∷ []) (o ∷ os) html d) (behind_run toks)
over_text size nodes at text o os html d (Doctype a ∷ ts) = refl
over_text size nodes at text o os html d (Char a c s ∷ ts) = over_text size nodes at (text ++ encode_utf8 c) o os html d ts
    ∙ ap (λ (t : List ℕ). run size (at_rest (nodes ++ words_node (Some o.number) at t ∷ []) (o ∷ os) html d) (behind_run ts))
    (append_assoc text (encode_utf8 c) (run_text ts))
over_text size nodes at text o os html d _ = rw append-nil refl

-- an element ends as the steps say
pub over_end : (size : ℕ) (nodes : List DomNode) (k : ℕ) (name : List ℕ) (os : List Open) (html : Bool) (d : ℕ)
    (before after : List Token) → Closed name before after
    → run size (at_rest nodes (open_as k name ∷ os) html d) before ≡ run size (at_rest nodes os html d) after
over_end size nodes k name os html d [] after h = rw (h.1, h.0) refl
over_end size nodes k name os html d (Start tag ∷ ts) after h = rw (h.1, h.0) refl
over_end size nodes k name os html d (Raw tag text ∷ ts) after h = rw (h.1, h.0) refl
over_end size nodes k name os html d (End at m ∷ ts) after h = by_name (same m name) refl h
  where
    by_name : (b : Bool) → same m name ≡ b → MatchBool b (after ≡ ts) (IsTrue (omits name) × (after ≡ End at m ∷ ts))
        → run size (at_rest nodes (open_as k name ∷ os) html d) (End at m ∷ ts) ≡ run size (at_rest nodes os html d) after
    by_name true is h = rw (is, h) refl
    by_name false is h = rw (is, h.0, h.1) refl
over_end size nodes k name os html d (Comment at ∷ ts) after h = absurd h
over_end size nodes k name os html d (Doctype at ∷ ts) after h = absurd h
over_end size nodes k name os html d (Char at c s ∷ ts) after h = absurd h
