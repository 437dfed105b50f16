-- Reading up to the body.
use Rattle.std.proofs.Common.{◌≡◌, ℕ, List, [], ◌∷◌, ◌++◌, length, Option, Some, None, Result, Ok, Err, Bool, true, false, cond}
use Rattle.std.proofs.Common.{not, ◌&&◌, refl, sym, ap, ◌∙◌}
use Rattle.std.specs.Prelude.{max, codes}
use Rattle.std.proofs.lemmas.List.{append-nil}
use Rattle.mc_base.specs.Reading.{◌>>=◌, fault}
use Rattle.html_grammar.specs.declared.dom.Attribute.{Attribute}
use Rattle.html_grammar.specs.declared.dom.DomNode.{DomNode}
use Rattle.html_grammar.specs.declared.stage.Open.{Open}
use Rattle.html_grammar.specs.declared.stage.Stage.{Stage}
use Rattle.html_grammar.specs.declared.stage.Stage.TheVariants.{Opening, BeforeHead, InHead, BehindHead, InBody}
use Rattle.mc_base.specs.declared.read_error.Fault.{Fault}
use Rattle.mc_base.proofs.ReadSteps.{given_is}
use Rattle.html_grammar.specs.declared.token.Piece.{Piece}
use Rattle.html_grammar.specs.declared.token.Tag.{Tag}
use Rattle.html_grammar.specs.declared.token.Token.{Token}
use Rattle.html_grammar.specs.declared.token.Token.TheVariants.{Start, Raw, End, Comment, Doctype, Char}
use Rattle.html_grammar.specs.Names.{is_outer, is_head_void}
use Rattle.html_grammar.specs.Tokens.{place_of, is_white, is_blank, is_start, is_end, is_doctype, is_head_element, attributes_of}
use Rattle.html_grammar.specs.Tree.{Forest, Nil, Element, Words, element_node, nodes_from}
use Rattle.html_grammar.specs.Grammar.{skip_blank, raw_forest, Begun, begun, behind_doctype, behind_end, html_begun, head_begun}
use Rattle.html_grammar.specs.Grammar.{body_begun}
use Rattle.html_grammar.specs.Machine.{State, Built, opening_state, nodes_at_rest, started, raw_put, raw_nodes, without, ended}
use Rattle.html_grammar.specs.Machine.{spell, begin_html, begin_head, end_head, begin_body, in_head, with_doctype}
use Rattle.html_grammar.specs.Machine.{take_behind_head, take_in_head, take_before_head, take_opening, take_at, take_token}
use Rattle.html_grammar.specs.Machine.{conclude_at, conclude, read_all, built}
use Rattle.html_grammar.proofs.Steps.{go, step_is_go, run, at_rest, open_as}
use Rattle.html_grammar.proofs.Complete.{grown_by, raw_kids}

-- the steps at each stage, always unfolded
abbrev pub go_behind_head : State → Token → Result State Fault
go_behind_head s t = cond (is_blank t) (Ok s)
    (cond (is_start (codes "body") t) (Ok (begin_body s (place_of t) (attributes_of t))) (go (begin_body s (place_of t) []) t))

abbrev pub go_in_head : State → Token → Result State Fault
go_in_head s t = cond (is_blank t) (Ok s)
    (cond (is_head_element t) (Ok (in_head s t))
    (cond (is_end (codes "head") t) (Ok (end_head s)) (go_behind_head (end_head s) t)))

abbrev pub go_before_head : State → Token → Result State Fault
go_before_head s t = cond (is_blank t) (Ok s)
    (cond (is_start (codes "head") t) (Ok (begin_head s (place_of t) (attributes_of t)))
    (go_in_head (begin_head s (place_of t) []) t))

abbrev pub go_opening : Bool → State → Token → Result State Fault
go_opening doctype s t = cond (is_blank t) (Ok s)
    (cond (not doctype && is_doctype t) (Ok (with_doctype s))
    (cond (is_start (codes "html") t) (Ok (begin_html s (place_of t) (attributes_of t)))
    (go_before_head (begin_html s (place_of t) []) t)))

abbrev pub go_at : Stage → State → Token → Result State Fault
go_at (Opening doctype) s t = go_opening doctype s t
go_at BeforeHead s t = go_before_head s t
go_at InHead s t = go_in_head s t
go_at BehindHead s t = go_behind_head s t
go_at InBody s t = go s t

behind_head_is : (s : State) (t : Token) → take_behind_head s t ≡ go_behind_head s t
unfolding take_behind_head
behind_head_is s t =
    ap (λ (x : Result State Fault).
    cond (is_blank t) (Ok s) (cond (is_start (codes "body") t) (Ok (begin_body s (place_of t) (attributes_of t))) x))
    (step_is_go (begin_body s (place_of t) []) t)

in_head_is : (s : State) (t : Token) → take_in_head s t ≡ go_in_head s t
unfolding take_in_head
in_head_is s t =
    ap (λ (x : Result State Fault).
    cond (is_blank t) (Ok s) (cond (is_head_element t) (Ok (in_head s t))
    (cond (is_end (codes "head") t) (Ok (end_head s)) x))) (behind_head_is (end_head s) t)

before_head_is : (s : State) (t : Token) → take_before_head s t ≡ go_before_head s t
unfolding take_before_head
before_head_is s t =
    ap (λ (x : Result State Fault).
    cond (is_blank t) (Ok s) (cond (is_start (codes "head") t) (Ok (begin_head s (place_of t) (attributes_of t))) x))
    (in_head_is (begin_head s (place_of t) []) t)

opening_is : (doctype : Bool) (s : State) (t : Token) → take_opening doctype s t ≡ go_opening doctype s t
unfolding take_opening
opening_is doctype s t =
    ap (λ (x : Result State Fault).
    cond (is_blank t) (Ok s) (cond (not doctype && is_doctype t) (Ok (with_doctype s))
    (cond (is_start (codes "html") t) (Ok (begin_html s (place_of t) (attributes_of t))) x)))
    (before_head_is (begin_html s (place_of t) []) t)

at_is : (stage : Stage) (s : State) (t : Token) → take_at stage s t ≡ go_at stage s t
at_is (Opening doctype) s t = opening_is doctype s t
at_is BeforeHead s t = before_head_is s t
at_is InHead s t = in_head_is s t
at_is BehindHead s t = behind_head_is s t
at_is InBody s t = step_is_go s t

pub take_is : (s : State) (t : Token) → take_token s t ≡ go_at s.stage s t
unfolding take_token
take_is s t = at_is s.stage s t

-- the rest of a text
abbrev pub rest_of : ℕ → State → List Token → Result Built Fault
rest_of size s [] = conclude_at s.stage size s
rest_of size s (t ∷ ts) = go_at s.stage s t >>= λ next. rest_of size next ts

bind_alike : (a b : Result State Fault) (f g : State → Result Built Fault) → a ≡ b → ((x : State) → f x ≡ g x)
    → (a >>= f) ≡ (b >>= g)
bind_alike a b f g e h = ap (λ (x : Result State Fault). x >>= f) e ∙ by_case b
  where
    by_case : (r : Result State Fault) → (r >>= f) ≡ (r >>= g)
    by_case (Ok x) = h x
    by_case (Err x) = refl

bind_bind : (a : Result State Fault) (f : State → Result State Fault) (g : State → Result Built Fault)
    → ((a >>= f) >>= g) ≡ (a >>= λ x. f x >>= g)
bind_bind (Ok x) f g = refl
bind_bind (Err x) f g = refl

pub reading_is_rest : (size : ℕ) (s : State) (toks : List Token) → (read_all s toks >>= conclude size) ≡ rest_of size s toks
unfolding conclude
reading_is_rest size s [] = refl
reading_is_rest size s (t ∷ ts) = bind_bind (take_token s t) (λ next. read_all next ts) (conclude size)
    ∙ bind_alike (take_token s t) (go_at s.stage s t) (λ next. read_all next ts >>= conclude size) (λ next. rest_of size next ts)
    (take_is s t) (λ next. reading_is_rest size next ts)

-- a step in the body stays there
started_stays : (s : State) (nodes : List DomNode) (tag : Tag) (opens : List Open) (next : State)
    → started s nodes tag opens ≡ Ok next → next.stage ≡ s.stage
started_stays s nodes tag [] next h = absurd cc
started_stays s nodes tag (o ∷ os) next h = by_outer (is_outer tag.name) _ h
  where
    by_outer : (b : Bool) (x : State) → cond b (fault tag.at 8) (Ok x) ≡ Ok next → next.stage ≡ x.stage
    by_outer true x h = absurd cc
    by_outer false x h = ap (λ (y : State). y.stage) (sym (given_is x next h))

stays : (s : State) (t : Token) (next : State) → go s t ≡ Ok next → next.stage ≡ s.stage
stays s (Start tag) next h = started_stays s _ tag _ next h
stays s (Raw tag text) next h = by_opens _ h
  where
    by_opens : (opens : List Open) → raw_put s (nodes_at_rest s) tag text opens ≡ Ok next → next.stage ≡ s.stage
    by_opens [] h = absurd cc
    by_opens (o ∷ os) h = ap (λ (y : State). y.stage) (sym (given_is _ next h))
stays s (End at m) next h = by_left (without at m s.html s.opens) h
  where
    by_left : (r : Result (List Open × Bool) Fault) → (r >>= ended s (nodes_at_rest s)) ≡ Ok next → next.stage ≡ s.stage
    by_left (Ok left) h = ap (λ (y : State). y.stage) (sym (given_is _ next h))
    by_left (Err e) h = absurd cc
stays s (Comment at) next h = ap (λ (y : State). y.stage) (sym (given_is _ next h))
stays s (Doctype at) next h = absurd cc
stays s (Char at c spelled) next h = by_opens s.opens h
  where
    by_white : (b : Bool) → cond b (Ok s) (fault at 8) ≡ Ok next → next.stage ≡ s.stage
    by_white true h = ap (λ (y : State). y.stage) (sym (given_is s next h))
    by_white false h = absurd cc

    by_opens : (opens : List Open) → spell s at c spelled opens ≡ Ok next → next.stage ≡ s.stage
    by_opens [] h = by_white (is_white c spelled) h
    by_opens (o ∷ os) h = ap (λ (y : State). y.stage) (sym (given_is _ next h))

pub rest_is_run : (size : ℕ) (s : State) (toks : List Token) → s.stage ≡ InBody → rest_of size s toks ≡ run size s toks
rest_is_run size s [] is = ap (λ (x : Stage). conclude_at x size s) is
rest_is_run size s (t ∷ ts) is = ap (λ (x : Stage). go_at x s t >>= λ next. rest_of size next ts) is
    ∙ (by_step (go s t) refl (λ next. rest_is_run size next ts))
  where
    by_step : (r : Result State Fault) → go s t ≡ r
        → ((next : State) → next.stage ≡ InBody → rest_of size next ts ≡ run size next ts)
        → (r >>= λ next. rest_of size next ts) ≡ (r >>= λ next. run size next ts)
    by_step (Ok next) e h = h next (stays s t next e ∙ is)
    by_step (Err e) x h = refl

-- after the head
abbrev pub behind_head : List DomNode → ℕ → State
behind_head nodes d = record { stage = BehindHead; nodes = nodes; words = None; opens = []; html = true; deepest = d }

abbrev pub bodied : List DomNode → ℕ → ℕ → List Attribute → State
bodied nodes d at attrs = at_rest (nodes ++ element_node (Some 0) at (codes "body") attrs ∷ [])
    (open_as (length nodes) (codes "body") ∷ []) true d

abbrev pub in_body : ℕ → List DomNode → ℕ → Begun → Result Built Fault
in_body size nodes d o = run size (bodied nodes d o.at o.attributes) o.inner

-- white space and comments are passed over
blank_or : (size : ℕ) (s : State) (t : Token) (ts : List Token) (full : Result State Fault)
    (target : List Token → Result Built Fault)
    → rest_of size s ts ≡ target (skip_blank ts)
    → (is_blank t ≡ false → (full >>= λ next. rest_of size next ts) ≡ target (t ∷ ts))
    → (b : Bool) → is_blank t ≡ b
    → (cond b (Ok s) full >>= λ next. rest_of size next ts) ≡ target (cond b (skip_blank ts) (t ∷ ts))
blank_or size s t ts full target h g true is = h
blank_or size s t ts full target h g false is = g is

pub from_behind_head : (size : ℕ) (nodes : List DomNode) (d : ℕ) (toks : List Token)
    → rest_of size (behind_head nodes d) toks ≡ in_body size nodes d (begun (codes "body") size (skip_blank toks))
from_behind_head size nodes d [] = refl
from_behind_head size nodes d (t ∷ ts) =
    blank_or size (behind_head nodes d) t ts _ (λ x. in_body size nodes d (begun (codes "body") size x))
    (from_behind_head size nodes d ts) (λ full. by_start (is_start (codes "body") t)) (is_blank t) refl
  where
    by_start : (b : Bool) → (cond b (Ok (bodied nodes d (place_of t) (attributes_of t))) (go (bodied nodes d (place_of t) []) t)
        >>= λ next. rest_of size next ts)
        ≡ in_body size nodes d (cond b (record { at = place_of t; attributes = attributes_of t; inner = ts })
        (record { at = place_of t; attributes = []; inner = t ∷ ts }))
    by_start true = rest_is_run size (bodied nodes d (place_of t) (attributes_of t)) ts refl
    by_start false = rest_is_run size (bodied nodes d (place_of t) []) (t ∷ ts) refl

-- the head
abbrev pub at_head : List DomNode → ℕ → State
at_head nodes d = record { stage = InHead; nodes = nodes; words = None; opens = []; html = true; deepest = d }

-- the elements in front that are elements of the head, and what stands after them
unfoldable pub head_forest : List Token → Forest
head_forest [] = Nil
head_forest (Start tag ∷ ts) = cond (is_head_void tag.name) (Element tag.at tag.name tag.attributes Nil (head_forest ts)) Nil
head_forest (Raw tag text ∷ ts) = Element tag.at tag.name tag.attributes (raw_forest text) (head_forest ts)
head_forest (End at m ∷ ts) = Nil
head_forest (Comment at ∷ ts) = head_forest ts
head_forest (Doctype at ∷ ts) = Nil
head_forest (Char at c s ∷ ts) = cond (is_white c s) (head_forest ts) Nil

unfoldable pub head_rest : List Token → List Token
head_rest [] = []
head_rest (Start tag ∷ ts) = cond (is_head_void tag.name) (head_rest ts) (Start tag ∷ ts)
head_rest (Raw tag text ∷ ts) = head_rest ts
head_rest (End at m ∷ ts) = End at m ∷ ts
head_rest (Comment at ∷ ts) = head_rest ts
head_rest (Doctype at ∷ ts) = Doctype at ∷ ts
head_rest (Char at c s ∷ ts) = cond (is_white c s) (head_rest ts) (Char at c s ∷ ts)

abbrev pub deepened_head : ℕ → Forest → ℕ
deepened_head d Nil = d
deepened_head d (Words at text next) = deepened_head d next
deepened_head d (Element at m attrs kids next) = deepened_head (max d 3) next

-- what the head comes to
abbrev pub headed : ℕ → List DomNode → ℕ → Forest → List Token → Result Built Fault
headed size nodes d f rest = rest_of size (behind_head (nodes ++ nodes_from (Some 1) (length nodes) f) (deepened_head d f))
    (behind_end (codes "head") rest)

head_nodes : (nodes : List DomNode) (tag : Tag) (text : Option Piece) (next : Forest)
    → (nodes ++ (element_node (Some 1) tag.at tag.name tag.attributes ∷ raw_nodes (length nodes) text)) ++ nodes_from (Some 1)
    (length (nodes ++ (element_node (Some 1) tag.at tag.name tag.attributes ∷ raw_nodes (length nodes) text))) next
    ≡ nodes ++ nodes_from (Some 1) (length nodes) (Element tag.at tag.name tag.attributes (raw_forest text) next)
head_nodes nodes tag text next =
    ap (λ (x : List DomNode). x ++ nodes_from (Some 1) (length x) next)
    (sym (raw_kids nodes (element_node (Some 1) tag.at tag.name tag.attributes) text))
    ∙ grown_by (Some 1) nodes (element_node (Some 1) tag.at tag.name tag.attributes) (raw_forest text) next

-- where nothing of the head stands
not_head : (size : ℕ) (nodes : List DomNode) (d : ℕ) (t : Token) (ts : List Token) → is_blank t ≡ false
    → is_head_element t ≡ false → rest_of size (at_head nodes d) (t ∷ ts) ≡ headed size nodes d Nil (t ∷ ts)
not_head size nodes d t ts full other =
    ap (λ (b : Bool). cond b (Ok (at_head nodes d)) (cond (is_head_element t) (Ok (in_head (at_head nodes d) t)) left) >>= λ next.
    rest_of size next ts) full
    ∙ ap (λ (b : Bool). cond b (Ok (in_head (at_head nodes d) t)) left >>= λ next. rest_of size next ts) other
    ∙ by_end (is_end (codes "head") t)
    ∙ ap (λ (x : List DomNode). rest_of size (behind_head x d) (behind_end (codes "head") (t ∷ ts))) (sym (append-nil nodes))
  where
    left : Result State Fault
    left = cond (is_end (codes "head") t) (Ok (behind_head nodes d)) (go_behind_head (behind_head nodes d) t)

    by_end : (b : Bool) → (cond b (Ok (behind_head nodes d)) (go_behind_head (behind_head nodes d) t) >>= λ next.
        rest_of size next ts) ≡ rest_of size (behind_head nodes d) (cond b ts (t ∷ ts))
    by_end true = refl
    by_end false = refl

pub from_head : (size : ℕ) (nodes : List DomNode) (d : ℕ) (toks : List Token)
    → rest_of size (at_head nodes d) toks ≡ headed size nodes d (head_forest toks) (head_rest toks)
unfolding head_forest head_rest
from_head size nodes d [] = rw append-nil refl
from_head size nodes d (Start tag ∷ ts) =
    by_void (from_head size (nodes ++ element_node (Some 1) tag.at tag.name tag.attributes ∷ []) (max d 3) ts)
    (is_head_void tag.name) refl
  where
    by_void : rest_of size (at_head (nodes ++ element_node (Some 1) tag.at tag.name tag.attributes ∷ []) (max d 3)) ts
        ≡ headed size (nodes ++ element_node (Some 1) tag.at tag.name tag.attributes ∷ []) (max d 3) (head_forest ts)
        (head_rest ts)
        → (b : Bool) → is_head_void tag.name ≡ b
        → rest_of size (at_head nodes d) (Start tag ∷ ts) ≡ headed size nodes d
        (cond b (Element tag.at tag.name tag.attributes Nil (head_forest ts)) Nil) (cond b (head_rest ts) (Start tag ∷ ts))
    by_void h true is =
        rw is (h
        ∙ ap (λ (x : List DomNode). rest_of size (behind_head x (deepened_head (max d 3) (head_forest ts)))
        (behind_end (codes "head") (head_rest ts))) (head_nodes nodes tag None (head_forest ts)))
    by_void h false is = not_head size nodes d (Start tag) ts refl is
from_head size nodes d (Raw tag text ∷ ts) =
    from_head size (nodes ++ (element_node (Some 1) tag.at tag.name tag.attributes ∷ raw_nodes (length nodes) text)) (max d 3) ts
    ∙ ap (λ (x : List DomNode). rest_of size (behind_head x (deepened_head (max d 3) (head_forest ts)))
    (behind_end (codes "head") (head_rest ts))) (head_nodes nodes tag text (head_forest ts))
from_head size nodes d (End at m ∷ ts) = not_head size nodes d (End at m) ts refl refl
from_head size nodes d (Comment at ∷ ts) = from_head size nodes d ts
from_head size nodes d (Doctype at ∷ ts) = not_head size nodes d (Doctype at) ts refl refl
from_head size nodes d (Char at c s ∷ ts) = by_white (from_head size nodes d ts) (is_white c s) refl
  where
    by_white : rest_of size (at_head nodes d) ts ≡ headed size nodes d (head_forest ts) (head_rest ts) → (b : Bool)
        → is_white c s ≡ b
        → rest_of size (at_head nodes d) (Char at c s ∷ ts) ≡ headed size nodes d (cond b (head_forest ts) Nil)
        (cond b (head_rest ts) (Char at c s ∷ ts))
    by_white h true is = rw is h
    by_white h false is = not_head size nodes d (Char at c s) ts is refl

-- html
abbrev pub at_html : List DomNode → ℕ → State
at_html nodes d = record { stage = BeforeHead; nodes = nodes; words = None; opens = []; html = true; deepest = d }

abbrev pub in_html : ℕ → List DomNode → ℕ → Begun → Result Built Fault
in_html size nodes d o = rest_of size (at_head (nodes ++ element_node (Some 0) o.at (codes "head") o.attributes ∷ []) d) o.inner

from_html : (size : ℕ) (nodes : List DomNode) (d : ℕ) (toks : List Token)
    → rest_of size (at_html nodes d) toks ≡ in_html size nodes d (begun (codes "head") size (skip_blank toks))
from_html size nodes d [] = refl
from_html size nodes d (t ∷ ts) = blank_or size (at_html nodes d) t ts _ (λ x. in_html size nodes d (begun (codes "head") size x))
    (from_html size nodes d ts) (λ full. by_start (is_start (codes "head") t)) (is_blank t) refl
  where
    by_start : (b : Bool)
        → (cond b (Ok (begin_head (at_html nodes d) (place_of t) (attributes_of t)))
        (go_in_head (begin_head (at_html nodes d) (place_of t) []) t) >>= λ next. rest_of size next ts)
        ≡ in_html size nodes d (cond b (record { at = place_of t; attributes = attributes_of t; inner = ts })
        (record { at = place_of t; attributes = []; inner = t ∷ ts }))
    by_start true = refl
    by_start false = refl

-- before html
abbrev pub at_opening : Bool → State
at_opening doctype = record { stage = Opening doctype; nodes = []; words = None; opens = []; html = true; deepest = 0 }

abbrev pub outermost : ℕ → Begun → Result Built Fault
outermost size o = rest_of size (at_html (element_node None o.at (codes "html") o.attributes ∷ []) 2) o.inner

-- a token that is neither blank nor the doctype
html_begins : (size : ℕ) (doctype : Bool) (t : Token) (ts : List Token) (b : Bool)
    → (cond b (Ok (begin_html (at_opening doctype) (place_of t) (attributes_of t)))
    (go_before_head (begin_html (at_opening doctype) (place_of t) []) t) >>= λ next. rest_of size next ts)
    ≡ outermost size (cond b (record { at = place_of t; attributes = attributes_of t; inner = ts })
    (record { at = place_of t; attributes = []; inner = t ∷ ts }))
html_begins size doctype t ts true = refl
html_begins size doctype t ts false = refl

from_doctype : (size : ℕ) (toks : List Token)
    → rest_of size (at_opening true) toks ≡ outermost size (begun (codes "html") size (skip_blank toks))
from_doctype size [] = refl
from_doctype size (t ∷ ts) = blank_or size (at_opening true) t ts _ (λ x. outermost size (begun (codes "html") size x))
    (from_doctype size ts) (λ full. html_begins size true t ts (is_start (codes "html") t)) (is_blank t) refl

from_opening : (size : ℕ) (toks : List Token)
    → rest_of size (at_opening false) toks
    ≡ outermost size (begun (codes "html") size (skip_blank (behind_doctype (skip_blank toks))))
from_opening size [] = refl
from_opening size (t ∷ ts) = blank_or size (at_opening false) t ts _
    (λ x. outermost size (begun (codes "html") size (skip_blank (behind_doctype x)))) (from_opening size ts)
    (λ full. by_doctype full (is_doctype t)) (is_blank t) refl
  where
    by_doctype : is_blank t ≡ false → (b : Bool)
        → (cond b (Ok (with_doctype (at_opening false)))
        (cond (is_start (codes "html") t) (Ok (begin_html (at_opening false) (place_of t) (attributes_of t)))
        (go_before_head (begin_html (at_opening false) (place_of t) []) t)) >>= λ next. rest_of size next ts)
        ≡ outermost size (begun (codes "html") size (skip_blank (cond b ts (t ∷ ts))))
    by_doctype full true = from_doctype size ts
    by_doctype full false = html_begins size false t ts (is_start (codes "html") t)
        ∙ sym (ap (λ (b : Bool). outermost size (begun (codes "html") size (cond b (skip_blank ts) (t ∷ ts)))) full)

-- the nodes up to the head's end, and the depth there
abbrev pub first_nodes : ℕ → List Token → List DomNode
first_nodes size toks = element_node None (html_begun size toks).at (codes "html") (html_begun size toks).attributes
    ∷ (element_node (Some 0) (head_begun size toks).at (codes "head") (head_begun size toks).attributes ∷ [])

abbrev pub with_head : ℕ → List Token → List DomNode
with_head size toks = first_nodes size toks ++ nodes_from (Some 1) 2 (head_forest (head_begun size toks).inner)

-- the rest after the head
abbrev pub past_head : ℕ → List Token → List Token
past_head size toks = head_rest (head_begun size toks).inner

abbrev pub head_depth : ℕ → List Token → ℕ
head_depth size toks = deepened_head 2 (head_forest (head_begun size toks).inner)

abbrev pub body_at : ℕ → List Token → State
body_at size toks = bodied (with_head size toks) (head_depth size toks) (body_begun size (past_head size toks)).at
    (body_begun size (past_head size toks)).attributes

abbrev pub body_tokens : ℕ → List Token → List Token
body_tokens size toks = (body_begun size (past_head size toks)).inner

pub rest_is_body : (size : ℕ) (toks : List Token)
    → rest_of size opening_state toks ≡ run size (body_at size toks) (body_tokens size toks)
rest_is_body size toks =
    from_opening size toks
    ∙ from_html size _ 2 (html_begun size toks).inner
    ∙ from_head size (first_nodes size toks) 2 (head_begun size toks).inner
    ∙ from_behind_head size (with_head size toks) (head_depth size toks) (behind_end (codes "head") (past_head size toks))

pub built_is_body : (size : ℕ) (toks : List Token) → built size toks ≡ run size (body_at size toks) (body_tokens size toks)
unfolding built
built_is_body size toks = reading_is_rest size opening_state toks ∙ rest_is_body size toks
