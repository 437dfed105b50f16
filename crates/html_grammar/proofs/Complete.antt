-- What is a document is read.
use Rattle.std.proofs.Common.{◌≡◌, ℕ, suc, ◌+◌, ◌≤◌, List, [], ◌∷◌, ◌++◌, length, Option, Some, None, Ok, Bool, true, false, cond}
use Rattle.std.proofs.Common.{refl, sym, ap, ◌∙◌, append_assoc, arith, length-append, inl, inr}
use Rattle.std.specs.Prelude.{MatchBool, ◌⊎◌, max, encode_utf8, codes}
use Rattle.std.proofs.lemmas.List.{append-nil}
use Rattle.html_grammar.specs.declared.dom.Attribute.{Attribute}
use Rattle.html_grammar.specs.declared.dom.DomNode.{DomNode}
use Rattle.html_grammar.specs.declared.stage.Open.{Open}
use Rattle.mc_base.specs.declared.read_error.Fault.{Fault}
use Rattle.html_grammar.specs.declared.token.Piece.{Piece}
use Rattle.html_grammar.specs.declared.token.Token.{Token}
use Rattle.html_grammar.specs.declared.token.Token.TheVariants.{Start, Raw, End, Comment, Doctype, Char}
use Rattle.html_grammar.specs.Names.{same, is_outer, is_void, closes}
use Rattle.html_grammar.specs.Tokens.{is_white}
use Rattle.html_grammar.specs.Tree.{Forest, Nil, Element, Words, element_node, words_node, nodes_from}
use Rattle.html_grammar.specs.Grammar.{skip_comments, skip_blank, behind_run, Closed, Content, tag_as, raw_forest, depth_of}
use Rattle.html_grammar.specs.Grammar.{behind_end}
use Rattle.html_grammar.specs.Machine.{raw_nodes}
use Rattle.html_grammar.proofs.Steps.{run, at_rest, open_as, over_comments, over_text, over_end}

length_one : (nodes : List DomNode) (r : DomNode) → length (nodes ++ r ∷ []) ≡ suc (length nodes)
length_one nodes r = simp length-append (omega arith)

-- the nodes after one more
pub grown : (p : Option ℕ) (nodes : List DomNode) (r : DomNode) (next : Forest)
    → (nodes ++ r ∷ []) ++ nodes_from p (length (nodes ++ r ∷ [])) next ≡ nodes ++ (r ∷ nodes_from p (suc (length nodes)) next)
grown p nodes r next = ap (λ (n : ℕ). (nodes ++ r ∷ []) ++ nodes_from p n next) (length_one nodes r)
    ∙ append_assoc nodes (r ∷ []) (nodes_from p (suc (length nodes)) next)

-- the nodes in an element
abbrev pub inside : List DomNode → Forest → List DomNode
inside nodes kids = nodes_from (Some (length nodes)) (suc (length nodes)) kids

abbrev pub with_kids : List DomNode → DomNode → Forest → List DomNode
with_kids nodes r kids = (nodes ++ r ∷ []) ++ nodes_from (Some (length nodes)) (length (nodes ++ r ∷ [])) kids

-- the nodes after an element
pub grown_by : (p : Option ℕ) (nodes : List DomNode) (r : DomNode) (kids next : Forest)
    → with_kids nodes r kids ++ nodes_from p (length (with_kids nodes r kids)) next
    ≡ nodes ++ (r ∷ (inside nodes kids ++ nodes_from p (suc (length nodes) + length (inside nodes kids)) next))
grown_by p nodes r kids next =
    let e : with_kids nodes r kids ≡ nodes ++ (r ∷ inside nodes kids) = grown (Some (length nodes)) nodes r kids in
    let l : length (nodes ++ (r ∷ inside nodes kids)) ≡ suc (length nodes) + length (inside nodes kids) =
    simp length-append (omega arith) in
    ap (λ (x : List DomNode). x ++ nodes_from p (length x) next) e
    ∙ ap (λ (n : ℕ). (nodes ++ (r ∷ inside nodes kids)) ++ nodes_from p n next) l
    ∙ append_assoc nodes (r ∷ inside nodes kids) (nodes_from p (suc (length nodes) + length (inside nodes kids)) next)

-- how deep it goes over nodes that stand in this many elements from body inwards
abbrev pub deepened : ℕ → ℕ → Forest → ℕ
deepened d l Nil = d
deepened d l (Words at text next) = deepened d l next
deepened d l (Element at m attrs kids next) = deepened (deepened (max d (l + 2)) (suc l) kids) l next

deepened_raw : (d l : ℕ) (text : Option Piece) → deepened d l (raw_forest text) ≡ d
deepened_raw d l None = refl
deepened_raw d l (Some p) = refl

pub raw_kids : (nodes : List DomNode) (r : DomNode) (text : Option Piece)
    → with_kids nodes r (raw_forest text) ≡ nodes ++ (r ∷ raw_nodes (length nodes) text)
raw_kids nodes r None = append-nil (nodes ++ r ∷ [])
raw_kids nodes r (Some p) = append_assoc nodes (r ∷ []) (words_node (Some (length nodes)) p.at p.text ∷ [])

-- what a run over the content of an element does
abbrev pub Runs : ℕ → List ℕ → Forest → Type 0
Runs size name f = (nodes : List DomNode) (k : ℕ) (os : List Open) (html : Bool) (d : ℕ) (toks rest : List Token)
    → Content name f toks rest
    → run size (at_rest nodes (open_as k name ∷ os) html d) toks
    ≡ run size (at_rest (nodes ++ nodes_from (Some k) (length nodes) f) (open_as k name ∷ os) html
    (deepened d (length (open_as k name ∷ os)) f)) rest

over_started : (size : ℕ) (name : List ℕ) (at : ℕ) (m : List ℕ) (attrs : List Attribute) (kids next : Forest) → Runs size m kids
    → Runs size name next
    → (nodes : List DomNode) (k : ℕ) (os : List Open) (html : Bool) (d : ℕ) (toks after rest : List Token)
    → Content name next after rest
    → (b : Bool) → is_void m ≡ b → MatchBool b ((kids ≡ Nil) × (after ≡ toks))
    ((end : List Token) × Content m kids toks end × Closed m end after)
    → run size (at_rest (nodes ++ element_node (Some k) at m attrs ∷ [])
    (cond (is_void m) (open_as k name ∷ os) (open_as (length nodes) m ∷ open_as k name ∷ os)) html
    (max d (length (open_as k name ∷ os) + 2))) toks
    ≡ run size (at_rest (nodes ++ nodes_from (Some k) (length nodes) (Element at m attrs kids next)) (open_as k name ∷ os) html
    (deepened d (length (open_as k name ∷ os)) (Element at m attrs kids next))) rest
over_started size name at m attrs kids next in_kids behind nodes k os html d toks after rest h true is g =
    let o = open_as k name in
    let l = length (o ∷ os) in
    let r = element_node (Some k) at m attrs in
    let none : with_kids nodes r kids ≡ nodes ++ r ∷ [] = rw (g.0, append-nil) refl in
    let flat : deepened (max d (l + 2)) (suc l) kids ≡ max d (l + 2) = rw g.0 refl in
    rw is (
    ap (run size (at_rest (nodes ++ r ∷ []) (o ∷ os) html (max d (l + 2)))) (sym g.1)
    ∙ ap (λ (x : List DomNode). run size (at_rest x (o ∷ os) html (max d (l + 2))) after) (sym none)
    ∙ ap (λ (x : ℕ). run size (at_rest (with_kids nodes r kids) (o ∷ os) html x) after) (sym flat)
    ∙ behind (with_kids nodes r kids) k os html (deepened (max d (l + 2)) (suc l) kids) after rest h
    ∙ ap (λ (x : List DomNode). run size (at_rest x (o ∷ os) html (deepened (deepened (max d (l + 2)) (suc l) kids) l next)) rest)
    (grown_by (Some k) nodes r kids next))
over_started size name at m attrs kids next in_kids behind nodes k os html d toks after rest h false is g =
    let o = open_as k name in
    let l = length (o ∷ os) in
    let r = element_node (Some k) at m attrs in
    rw is (
    in_kids (nodes ++ r ∷ []) (length nodes) (o ∷ os) html (max d (l + 2)) toks g.0 g.1
    ∙ over_end size (with_kids nodes r kids) (length nodes) m (o ∷ os) html (deepened (max d (l + 2)) (suc l) kids) g.0 after g.2
    ∙ behind (with_kids nodes r kids) k os html (deepened (max d (l + 2)) (suc l) kids) after rest h
    ∙ ap (λ (x : List DomNode). run size (at_rest x (o ∷ os) html (deepened (deepened (max d (l + 2)) (suc l) kids) l next)) rest)
    (grown_by (Some k) nodes r kids next))

over_raw : (size : ℕ) (name : List ℕ) (at : ℕ) (m : List ℕ) (attrs : List Attribute) (kids next : Forest) (text : Option Piece)
    → kids ≡ raw_forest text → Runs size name next
    → (nodes : List DomNode) (k : ℕ) (os : List Open) (html : Bool) (d : ℕ) (after rest : List Token)
    → Content name next after rest
    → run size (at_rest (nodes ++ (element_node (Some k) at m attrs ∷ raw_nodes (length nodes) text)) (open_as k name ∷ os) html
    (max d (length (open_as k name ∷ os) + 2))) after
    ≡ run size (at_rest (nodes ++ nodes_from (Some k) (length nodes) (Element at m attrs kids next)) (open_as k name ∷ os) html
    (deepened d (length (open_as k name ∷ os)) (Element at m attrs kids next))) rest
over_raw size name at m attrs kids next text is behind nodes k os html d after rest h =
    let o = open_as k name in
    let l = length (o ∷ os) in
    let r = element_node (Some k) at m attrs in
    let all : with_kids nodes r kids ≡ nodes ++ (r ∷ raw_nodes (length nodes) text) = ap (with_kids nodes r) is
    ∙ raw_kids nodes r text in
    let flat : deepened (max d (l + 2)) (suc l) kids ≡ max d (l + 2) = ap (deepened (max d (l + 2)) (suc l)) is
    ∙ deepened_raw (max d (l + 2)) (suc l) text in
    ap (λ (x : List DomNode). run size (at_rest x (o ∷ os) html (max d (l + 2))) after) (sym all)
    ∙ ap (λ (x : ℕ). run size (at_rest (with_kids nodes r kids) (o ∷ os) html x) after) (sym flat)
    ∙ behind (with_kids nodes r kids) k os html (deepened (max d (l + 2)) (suc l) kids) after rest h
    ∙ ap (λ (x : List DomNode). run size (at_rest x (o ∷ os) html (deepened (deepened (max d (l + 2)) (suc l) kids) l next)) rest)
    (grown_by (Some k) nodes r kids next)

-- the two forms of an element, after comments
abbrev pub Form : ℕ → List ℕ → List Attribute → Forest → List Token → Option ℕ → Option Fault → List Token → List Token → Type 0
Form at m attrs kids skipped unknown late inner after =
    ((skipped ≡ Start (tag_as at m attrs unknown late) ∷ inner) × (is_outer m ≡ false)
    × MatchBool (is_void m) ((kids ≡ Nil) × (after ≡ inner)) ((end : List Token) × Content m kids inner end × Closed m end after))
    ⊎ ((text : Option Piece) × (skipped ≡ Raw (tag_as at m attrs unknown late) text ∷ inner) × (kids ≡ raw_forest text)
    × (after ≡ inner))

over_form : (size : ℕ) (name : List ℕ) (at : ℕ) (m : List ℕ) (attrs : List Attribute) (kids next : Forest) → Runs size m kids
    → Runs size name next
    → (nodes : List DomNode) (k : ℕ) (os : List Open) (html : Bool) (d : ℕ) (skipped rest : List Token) (unknown : Option ℕ)
    (late : Option Fault) (inner after : List Token)
    → closes m name ≡ false → Form at m attrs kids skipped unknown late inner after → Content name next after rest
    → run size (at_rest nodes (open_as k name ∷ os) html d) skipped
    ≡ run size (at_rest (nodes ++ nodes_from (Some k) (length nodes) (Element at m attrs kids next)) (open_as k name ∷ os) html
    (deepened d (length (open_as k name ∷ os)) (Element at m attrs kids next))) rest
over_form size name at m attrs kids next in_kids behind nodes k os html d skipped rest unknown late inner after stays (inl g) h =
    rw (g.0, stays, g.1) (over_started size name at m attrs kids next in_kids behind nodes k os html d inner after rest h
    (is_void m) refl g.2)
over_form size name at m attrs kids next in_kids behind nodes k os html d skipped rest unknown late inner after stays (inr g) h =
    rw (g.1, stays)
    (ap (run size (at_rest (nodes ++ (element_node (Some k) at m attrs ∷ raw_nodes (length nodes) g.0)) (open_as k name ∷ os)
    html (max d (length (open_as k name ∷ os) + 2)))) (sym g.3)
    ∙ over_raw size name at m attrs kids next g.0 g.2 behind nodes k os html d after rest h)

pub over_content : (size : ℕ) (name : List ℕ) (f : Forest) → Runs size name f
over_content size name Nil nodes k os html d toks rest h = over_comments size nodes (open_as k name ∷ os) html d toks
    ∙ rw (h, append-nil) refl
over_content size name (Words at text next) nodes k os html d toks rest h =
    let o = open_as k name in
    let w = words_node (Some k) at text in
    over_comments size nodes (o ∷ os) html d toks
    ∙ ap (run size (at_rest nodes (o ∷ os) html d)) h.3
    ∙ over_text size nodes at (encode_utf8 h.0) o os html d h.2
    ∙ ap (λ (t : List ℕ). run size (at_rest (nodes ++ words_node (Some k) at t ∷ []) (o ∷ os) html d) (behind_run h.2)) (sym h.4)
    ∙ over_content size name next (nodes ++ w ∷ []) k os html d (behind_run h.2) rest h.5
    ∙ ap (λ (x : List DomNode). run size (at_rest x (o ∷ os) html (deepened d (length (o ∷ os)) next)) rest)
    (grown (Some k) nodes w next)
over_content size name (Element at m attrs kids next) nodes k os html d toks rest h =
    over_comments size nodes (open_as k name ∷ os) html d toks
    ∙ over_form size name at m attrs kids next (over_content size m kids) (over_content size name next) nodes k os html d
    (skip_comments toks) rest h.0 h.1 h.2 h.3 h.4 h.5 h.6

-- after the body: white space and comments, and perhaps the end of html
over_blank : (size : ℕ) (nodes : List DomNode) (html : Bool) (d : ℕ) (toks : List Token)
    → run size (at_rest nodes [] html d) toks ≡ run size (at_rest nodes [] html d) (skip_blank toks)
over_blank size nodes html d (Comment at ∷ ts) = over_blank size nodes html d ts
over_blank size nodes html d (Char at c s ∷ ts) = by_white (over_blank size nodes html d ts) (is_white c s) refl
  where
    by_white : run size (at_rest nodes [] html d) ts ≡ run size (at_rest nodes [] html d) (skip_blank ts) → (b : Bool)
        → is_white c s ≡ b → run size (at_rest nodes [] html d) (Char at c s ∷ ts)
        ≡ run size (at_rest nodes [] html d) (skip_blank (Char at c s ∷ ts))
    by_white h true is = rw is h
    by_white h false is = let e : (Char at c s ∷ ts) ≡ skip_blank (Char at c s ∷ ts) = rw is refl
        in ap (run size (at_rest nodes [] html d)) e
over_blank size nodes html d _ = refl

-- what a run comes to where nothing is open
abbrev pub Comes : ℕ → List DomNode → ℕ → Bool → List Token → Type 0
Comes size nodes d html toks = run size (at_rest nodes [] html d) toks ≡ Ok (record { nodes = nodes; deepest = d })

over_nothing : (size : ℕ) (nodes : List DomNode) (html : Bool) (d : ℕ) (toks : List Token) → skip_blank toks ≡ []
    → Comes size nodes d html toks
over_nothing size nodes html d toks h = over_blank size nodes html d toks ∙ rw h refl

over_end_of_html : (size : ℕ) (nodes : List DomNode) (d : ℕ) (toks : List Token)
    → skip_blank (behind_end (codes "html") toks) ≡ [] → Comes size nodes d true toks
over_end_of_html size nodes d [] h = refl
over_end_of_html size nodes d (Start tag ∷ ts) h = over_nothing size nodes true d (Start tag ∷ ts) h
over_end_of_html size nodes d (Raw tag text ∷ ts) h = over_nothing size nodes true d (Raw tag text ∷ ts) h
over_end_of_html size nodes d (End at m ∷ ts) h = by_name (same m (codes "html")) refl h
  where
    by_name : (b : Bool) → same m (codes "html") ≡ b → skip_blank (cond b ts (End at m ∷ ts)) ≡ []
        → Comes size nodes d true (End at m ∷ ts)
    by_name true is h = rw is (over_nothing size nodes false d ts h)
    by_name false is h = absurd cc
over_end_of_html size nodes d (Comment at ∷ ts) h = over_nothing size nodes true d (Comment at ∷ ts) h
over_end_of_html size nodes d (Doctype at ∷ ts) h = over_nothing size nodes true d (Doctype at ∷ ts) h
over_end_of_html size nodes d (Char at c s ∷ ts) h = over_nothing size nodes true d (Char at c s ∷ ts) h

pub over_rest : (size : ℕ) (nodes : List DomNode) (d : ℕ) (toks : List Token)
    → skip_blank (behind_end (codes "html") (skip_blank toks)) ≡ [] → Comes size nodes d true toks
over_rest size nodes d toks h = over_blank size nodes true d toks ∙ over_end_of_html size nodes d (skip_blank toks) h

-- the depth of a forest, as a run counts it
pub deeper : (f : Forest) (d l : ℕ) → suc l ≤ d → deepened d l f ≡ max d (suc l + depth_of f)
deeper Nil d l h = omega arith
deeper (Words at text next) d l h = deeper next d l h
deeper (Element at m attrs kids next) d l h =
    let a = deeper kids (max d (l + 2)) (suc l) (omega arith) in
    let b = deeper next (deepened (max d (l + 2)) (suc l) kids) l (omega (arith, a)) in
    b ∙ omega (arith, a)
