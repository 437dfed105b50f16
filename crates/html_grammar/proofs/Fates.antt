-- Whether a start tag may stand depends on its name alone.
use Rattle.std.proofs.Common.{◌≡◌, ℕ, List, [], ◌∷◌, length, Option, Result, Ok, Err, Bool, true, false, cond, not, ◌&&◌, refl}
use Rattle.std.proofs.Common.{sym, ap, ◌∙◌}
use Rattle.std.specs.Prelude.{codes}
use Rattle.std.proofs.lemmas.Bool.{true≢false}
use Rattle.mc_base.specs.Reading.{fault}
use Rattle.html_grammar.specs.declared.dom.DomNode.{DomNode}
use Rattle.html_grammar.specs.declared.stage.Open.{Open}
use Rattle.html_grammar.specs.declared.stage.Stage.{Stage}
use Rattle.html_grammar.specs.declared.stage.Stage.TheVariants.{Opening, BeforeHead, InHead, BehindHead, InBody}
use Rattle.mc_base.specs.declared.read_error.Fault.{Fault}
use Rattle.html_grammar.specs.declared.token.Piece.{Piece}
use Rattle.html_grammar.specs.declared.token.Tag.{Tag}
use Rattle.html_grammar.specs.declared.token.Token.{Token}
use Rattle.html_grammar.specs.declared.token.Token.TheVariants.{Start, Raw, End, Comment, Doctype, Char}
use Rattle.html_grammar.specs.Names.{same, is_outer, is_head_void, closes}
use Rattle.html_grammar.specs.Machine.{State, drop_closed, started, raw_put, begin_html, begin_head, end_head, begin_body}
use Rattle.html_grammar.specs.Machine.{take_token}
use Rattle.html_grammar.specs.FirstFaults.{IsStartOf}
use Rattle.html_grammar.proofs.Steps.{go}
use Rattle.html_grammar.proofs.Stages.{go_behind_head, go_in_head, go_before_head, go_opening, go_at, take_is}

abbrev pub is_good : {A : Type 0} → Result A Fault → Bool
is_good (Ok x) = true
is_good (Err e) = false

good_if : {A : Type 0} (b : Bool) (x : A) (r : Result A Fault) → is_good (cond b (Ok x) r) ≡ cond b true (is_good r)
good_if true x r = refl
good_if false x r = refl

-- for a start tag, and for one with its raw text: in elements that are open
abbrev may_start : List ℕ → List Open → Bool
may_start m [] = false
may_start m (o ∷ os) = not (is_outer m)

abbrev is_some_open : List Open → Bool
is_some_open [] = false
is_some_open (o ∷ os) = true

start_good : (s : State) (nodes : List DomNode) (tag : Tag) (opens : List Open)
    → is_good (started s nodes tag opens) ≡ may_start tag.name opens
start_good s nodes tag [] = refl
start_good s nodes tag (o ∷ os) = by_outer (is_outer tag.name) _
  where
    by_outer : (b : Bool) (x : State) → is_good (cond b (fault tag.at 8) (Ok x)) ≡ not b
    by_outer true x = refl
    by_outer false x = refl

raw_good : (s : State) (nodes : List DomNode) (tag : Tag) (text : Option Piece) (opens : List Open)
    → is_good (raw_put s nodes tag text opens) ≡ is_some_open opens
raw_good s nodes tag text [] = refl
raw_good s nodes tag text (o ∷ os) = refl

-- in the body alone
only_body_start : (m : List ℕ) (k : ℕ) → may_start m (drop_closed m (record { number = k; name = codes "body" } ∷ []))
    ≡ cond (closes m (codes "body")) false (not (is_outer m))
only_body_start m k = by_close (closes m (codes "body"))
  where
    by_close : (b : Bool) → may_start m (cond b [] (record { number = k; name = codes "body" } ∷ []))
        ≡ cond b false (not (is_outer m))
    by_close true = refl
    by_close false = refl

only_body_raw : (m : List ℕ) (k : ℕ) → is_some_open (drop_closed m (record { number = k; name = codes "body" } ∷ []))
    ≡ not (closes m (codes "body"))
only_body_raw m k = by_close (closes m (codes "body"))
  where
    by_close : (b : Bool) → is_some_open (cond b [] (record { number = k; name = codes "body" } ∷ [])) ≡ not b
    by_close true = refl
    by_close false = refl

abbrev start_behind_head : List ℕ → Bool
start_behind_head m = cond (same m (codes "body")) true (cond (closes m (codes "body")) false (not (is_outer m)))

behind_head_start : (s : State) (tag : Tag) → is_good (go_behind_head s (Start tag)) ≡ start_behind_head tag.name
behind_head_start s tag =
    good_if (same tag.name (codes "body")) _ (go (begin_body s tag.at []) (Start tag))
    ∙ ap (λ (b : Bool). cond (same tag.name (codes "body")) true b) (start_good (begin_body s tag.at []) _ tag _
    ∙ only_body_start tag.name (length s.nodes))

in_head_start : (s : State) (tag : Tag)
    → is_good (go_in_head s (Start tag)) ≡ cond (is_head_void tag.name) true (start_behind_head tag.name)
in_head_start s tag = good_if (is_head_void tag.name) _ (go_behind_head (end_head s) (Start tag))
    ∙ ap (λ (b : Bool). cond (is_head_void tag.name) true b) (behind_head_start (end_head s) tag)

before_head_start : (s : State) (tag : Tag)
    → is_good (go_before_head s (Start tag)) ≡ cond (same tag.name (codes "head")) true
    (cond (is_head_void tag.name) true (start_behind_head tag.name))
before_head_start s tag = good_if (same tag.name (codes "head")) _ (go_in_head (begin_head s tag.at []) (Start tag))
    ∙ ap (λ (b : Bool). cond (same tag.name (codes "head")) true b) (in_head_start (begin_head s tag.at []) tag)

no_doctype : (doctype : Bool) (x y : Result State Fault) → cond (not doctype && false) x y ≡ y
no_doctype true x y = refl
no_doctype false x y = refl

opening_start : (doctype : Bool) (s : State) (tag : Tag)
    → is_good (go_opening doctype s (Start tag)) ≡ cond (same tag.name (codes "html")) true
    (cond (same tag.name (codes "head")) true (cond (is_head_void tag.name) true (start_behind_head tag.name)))
opening_start doctype s tag =
    ap is_good (no_doctype doctype _
    (cond (same tag.name (codes "html")) (Ok (begin_html s tag.at tag.attributes))
    (go_before_head (begin_html s tag.at []) (Start tag))))
    ∙ good_if (same tag.name (codes "html")) _ (go_before_head (begin_html s tag.at []) (Start tag))
    ∙ ap (λ (b : Bool). cond (same tag.name (codes "html")) true b) (before_head_start (begin_html s tag.at []) tag)

-- for each stage, by the name
abbrev start_fate : Stage → List Open → List ℕ → Bool
start_fate (Opening doctype) opens m =
    cond (same m (codes "html")) true (cond (same m (codes "head")) true (cond (is_head_void m) true (start_behind_head m)))
start_fate BeforeHead opens m = cond (same m (codes "head")) true (cond (is_head_void m) true (start_behind_head m))
start_fate InHead opens m = cond (is_head_void m) true (start_behind_head m)
start_fate BehindHead opens m = start_behind_head m
start_fate InBody opens m = may_start m (drop_closed m opens)

start_at_stage : (stage : Stage) (s : State) (tag : Tag) → is_good (go_at stage s (Start tag)) ≡ start_fate stage s.opens tag.name
start_at_stage (Opening doctype) s tag = opening_start doctype s tag
start_at_stage BeforeHead s tag = before_head_start s tag
start_at_stage InHead s tag = in_head_start s tag
start_at_stage BehindHead s tag = behind_head_start s tag
start_at_stage InBody s tag = start_good s _ tag (drop_closed tag.name s.opens)

behind_head_raw : (s : State) (tag : Tag) (text : Option Piece)
    → is_good (go_behind_head s (Raw tag text)) ≡ not (closes tag.name (codes "body"))
behind_head_raw s tag text = raw_good (begin_body s tag.at []) _ tag text _ ∙ only_body_raw tag.name (length s.nodes)

abbrev raw_fate : Stage → List Open → List ℕ → Bool
raw_fate (Opening doctype) opens m = true
raw_fate BeforeHead opens m = true
raw_fate InHead opens m = true
raw_fate BehindHead opens m = not (closes m (codes "body"))
raw_fate InBody opens m = is_some_open (drop_closed m opens)

opening_raw : (doctype : Bool) (s : State) (tag : Tag) (text : Option Piece)
    → is_good (go_opening doctype s (Raw tag text)) ≡ true
opening_raw true s tag text = refl
opening_raw false s tag text = refl

raw_at_stage : (stage : Stage) (s : State) (tag : Tag) (text : Option Piece)
    → is_good (go_at stage s (Raw tag text)) ≡ raw_fate stage s.opens tag.name
raw_at_stage (Opening doctype) s tag text = opening_raw doctype s tag text
raw_at_stage BeforeHead s tag text = refl
raw_at_stage InHead s tag text = refl
raw_at_stage BehindHead s tag text = behind_head_raw s tag text
raw_at_stage InBody s tag text = raw_good s _ tag text (drop_closed tag.name s.opens)

pub alike : (s : State) (m : List ℕ) (t u : Token) → IsStartOf m t → IsStartOf m u
    → is_good (take_token s t) ≡ is_good (take_token s u)
alike s m (Start tag) (Start tag') h g =
    ap is_good (take_is s (Start tag)) ∙ start_at_stage s.stage s tag ∙ ap (start_fate s.stage s.opens) (h.0 ∙ sym g.0)
    ∙ sym (start_at_stage s.stage s tag') ∙ sym (ap is_good (take_is s (Start tag')))
alike s m (Start tag) (Raw tag' text') h g = absurd (true≢false (sym g.1 ∙ h.1))
alike s m (Raw tag text) (Start tag') h g = absurd (true≢false (sym h.1 ∙ g.1))
alike s m (Raw tag text) (Raw tag' text') h g =
    ap is_good (take_is s (Raw tag text)) ∙ raw_at_stage s.stage s tag text ∙ ap (raw_fate s.stage s.opens) (h.0 ∙ sym g.0)
    ∙ sym (raw_at_stage s.stage s tag' text') ∙ sym (ap is_good (take_is s (Raw tag' text')))
alike s m (End at name) u h g = absurd h
alike s m (Comment at) u h g = absurd h
alike s m (Doctype at) u h g = absurd h
alike s m (Char at c spelled) u h g = absurd h
alike s m (Start tag) (End at name) h g = absurd g
alike s m (Start tag) (Comment at) h g = absurd g
alike s m (Start tag) (Doctype at) h g = absurd g
alike s m (Start tag) (Char at c spelled) h g = absurd g
alike s m (Raw tag text) (End at name) h g = absurd g
alike s m (Raw tag text) (Comment at) h g = absurd g
alike s m (Raw tag text) (Doctype at) h g = absurd g
alike s m (Raw tag text) (Char at c spelled) h g = absurd g
