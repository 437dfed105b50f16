-- The first fault of tokens.
use Rattle.std.proofs.Common.{◌≡◌, ℕ, List, [], ◌∷◌, ◌++◌, Option, None, Result, Ok, Err, Bool, true, false, cond, not, ◌&&◌}
use Rattle.std.proofs.Common.{refl, sym, ap, subst, ◌∙◌, append_assoc, inl, inr}
use Rattle.std.specs.Prelude.{◌⊎◌, codes}
use Rattle.html_grammar.specs.declared.dom.DomNode.{DomNode}
use Rattle.html_grammar.specs.declared.stage.Open.{Open}
use Rattle.html_grammar.specs.declared.stage.Stage.{Stage}
use Rattle.html_grammar.specs.declared.stage.Stage.TheVariants.{Opening, BeforeHead, InHead, BehindHead, InBody}
use Rattle.mc_base.specs.declared.read_error.Fault.{Fault}
use Rattle.html_grammar.specs.declared.token.Piece.{Piece}
use Rattle.html_grammar.specs.declared.token.Spelled.{Spelled}
use Rattle.html_grammar.specs.declared.token.Tag.{Tag}
use Rattle.html_grammar.specs.declared.token.Token.{Token}
use Rattle.html_grammar.specs.declared.token.Token.TheVariants.{Start, Raw, End, Comment, Doctype, Char}
use Rattle.std.proofs.lemmas.Slice.Eq.{bytes_eq-Decides}
use Rattle.mc_base.specs.Reading.{◌>>=◌, fault}
use Rattle.mc_base.proofs.ReadSteps.{failed, failed_is, seen, fault_is}
use Rattle.html_grammar.specs.Names.{same, is_outer, omits}
use Rattle.html_grammar.specs.Tokens.{place_of, is_white, is_blank, is_start, is_end, is_doctype, is_head_element}
use Rattle.html_grammar.specs.Machine.{State, Built, opening_state, nodes_at_rest, flushed, started, raw_put, drop_closed}
use Rattle.html_grammar.specs.Machine.{without, spell, begin_html, begin_head, end_head, begin_body, take_token, finish, all_omit}
use Rattle.html_grammar.specs.Machine.{conclude_at, conclude, read_all, built}
use Rattle.html_grammar.specs.Faults.{IsFront, rule_of, IsStuck, IsFirstFault}
use Rattle.html_grammar.proofs.Steps.{go, run}
use Rattle.html_grammar.proofs.Stages.{go_behind_head, go_in_head, go_before_head, go_opening, go_at, take_is, rest_of}
use Rattle.html_grammar.proofs.Stages.{reading_is_rest, rest_is_run}
use Rattle.html_grammar.proofs.Whole.{document_is_read}
use Rattle.html_grammar.proofs.Sound.{document_of}

same_self : (x : List ℕ) → same x x ≡ true
unfolding same
same_self x = (bytes_eq-Decides x x).1 refl

pub in_turn : (s : State) (a b : List Token) → read_all s (a ++ b) ≡ (read_all s a >>= λ next. read_all next b)
in_turn s [] b = refl
in_turn s (t ∷ a) b = by_step (take_token s t) (λ next. in_turn next a b)
  where
    by_step : (r : Result State Fault)
        → ((next : State) → read_all next (a ++ b) ≡ (read_all next a >>= λ after. read_all after b))
        → (r >>= λ next. read_all next (a ++ b)) ≡ ((r >>= λ next. read_all next a) >>= λ after. read_all after b)
    by_step (Ok next) h = h next
    by_step (Err e) h = refl

-- each reading can come to its end: the end tags of what is open
ends_of : List Open → List Token
ends_of [] = []
ends_of (o ∷ os) = End 0 o.name ∷ ends_of os

ends_end : (size : ℕ) (stage : Stage) (nodes : List DomNode) (words : Option Piece) (opens : List Open) (html : Bool) (d : ℕ)
    → (all : Built) × (run size (record { stage = stage; nodes = nodes; words = words; opens = opens; html = html; deepest = d })
    (ends_of opens) ≡ Ok all)
unfolding ends_of
ends_end size stage nodes words [] html d = (record { nodes = flushed nodes words []; deepest = d }, refl)
ends_end size stage nodes words (o ∷ os) html d =
    let h = ends_end size stage (flushed nodes words (o ∷ os)) None os html d in
    (h.0, rw (same_self o.name) h.1)

body_omits : omits (codes "body") ≡ true
unfolding omits same
body_omits = refl

body_ends : (size : ℕ) (s : State) (at : ℕ) → (all : Built) × (finish size (begin_body s at []) ≡ Ok all)
body_ends size s at = (record { nodes = nodes_at_rest (begin_body s at []); deepest = s.deepest }, rw body_omits refl)

pub can_end : (size : ℕ) (s : State) → (more : List Token) × (all : Built) × (rest_of size s more ≡ Ok all)
can_end size s = by_stage s.stage refl
  where
    by_stage : (stage : Stage) → s.stage ≡ stage → (more : List Token) × (all : Built) × (rest_of size s more ≡ Ok all)
    by_stage (Opening doctype) is = let e = body_ends size (end_head (begin_head (begin_html s size []) size [])) size
        in ([], e.0, ap (λ (x : Stage). conclude_at x size s) is ∙ e.1)
    by_stage BeforeHead is = let e = body_ends size (end_head (begin_head s size [])) size
        in ([], e.0, ap (λ (x : Stage). conclude_at x size s) is ∙ e.1)
    by_stage InHead is = let e = body_ends size (end_head s) size in ([], e.0, ap (λ (x : Stage). conclude_at x size s) is ∙ e.1)
    by_stage BehindHead is = let e = body_ends size s size in ([], e.0, ap (λ (x : Stage). conclude_at x size s) is ∙ e.1)
    by_stage InBody is = let e = ends_end size s.stage s.nodes s.words s.opens s.html s.deepest
        in (ends_of s.opens, e.0, rest_is_run size s (ends_of s.opens) is ∙ e.1)

split : (size : ℕ) (front more : List Token) → (read_all opening_state (front ++ more) >>= conclude size)
    ≡ ((read_all opening_state front >>= λ next. read_all next more) >>= conclude size)
split size front more = ap (λ (x : Result State Fault). x >>= conclude size) (in_turn opening_state front more)

pub is_front : (size : ℕ) (front : List Token) (s : State) → read_all opening_state front ≡ Ok s → IsFront size front
unfolding built
is_front size front s h =
    let e = can_end size s in
    let whole : built size (front ++ e.0) ≡ Ok e.1 =
    split size front e.0
    ∙ ap (λ (x : Result State Fault). (x >>= λ next. read_all next e.0) >>= conclude size) h
    ∙ reading_is_rest size s e.0 ∙ e.2 in
    let d = document_of size (front ++ e.0) e.1 whole in
    (e.0, d.0, d.1)

pub no_front : (size : ℕ) (front : List Token) (f : Fault) → read_all opening_state front ≡ Err f → IsFront size front → ⊥
unfolding built
no_front size front f h is =
    let d = document_is_read size (front ++ is.0) is.1 is.2 in
    let e : built size (front ++ is.0) ≡ Err f = split size front is.0
    ∙ ap (λ (x : Result State Fault). (x >>= λ next. read_all next is.0) >>= conclude size) h in
    absurd cc

-- which fault a token has
passed : {A : Type 0} (b : Bool) (x : A) (r : Result A Fault) (f : Fault) → cond b (Ok x) r ≡ Err f → r ≡ Err f
passed true x r f h = absurd cc
passed false x r f h = h

bound_fault : {A B : Type 0} (r : Result A Fault) (g : A → B) (f : Fault) → (r >>= λ x. Ok (g x)) ≡ Err f → r ≡ Err f
bound_fault (Ok x) g f h = absurd cc
bound_fault (Err e) g f h = let same_e : e ≡ f = cc in ap (λ (x : Fault). Err x) same_e

abbrev IsOf : Token → Fault → Type 0
IsOf t f = f ≡ record { at = place_of t; rule = rule_of t }

start_fault : (s : State) (nodes : List DomNode) (tag : Tag) (opens : List Open) (f : Fault) → started s nodes tag opens ≡ Err f
    → IsOf (Start tag) f
start_fault s nodes tag [] f h = fault_is tag.at 8 f h
start_fault s nodes tag (o ∷ os) f h = by_outer (is_outer tag.name) _ h
  where
    by_outer : (b : Bool) (x : State) → cond b (fault tag.at 8) (Ok x) ≡ Err f → IsOf (Start tag) f
    by_outer true x h = fault_is tag.at 8 f h
    by_outer false x h = absurd cc

raw_fault : (s : State) (nodes : List DomNode) (tag : Tag) (text : Option Piece) (opens : List Open) (f : Fault)
    → raw_put s nodes tag text opens ≡ Err f → IsOf (Raw tag text) f
raw_fault s nodes tag text [] f h = fault_is tag.at 8 f h
raw_fault s nodes tag text (o ∷ os) f h = absurd cc

end_fault : (at : ℕ) (m : List ℕ) (html : Bool) (opens : List Open) (f : Fault) → without at m html opens ≡ Err f
    → IsOf (End at m) f
end_fault at m html [] f h = by_html (html && same m (codes "html")) h
  where
    by_html : (b : Bool) → cond {A = Result (List Open × Bool) Fault} b (Ok ([], false)) (fault at 6) ≡ Err f → IsOf (End at m) f
    by_html true h = absurd cc
    by_html false h = fault_is at 6 f h
end_fault at m html (o ∷ os) f h = by_name (end_fault at m html os f) (same m o.name) (omits o.name) h
  where
    by_name : (without at m html os ≡ Err f → IsOf (End at m) f) → (b c : Bool)
        → cond b (Ok (os, html)) (cond c (without at m html os) (fault at 6)) ≡ Err f → IsOf (End at m) f
    by_name below true c h = absurd cc
    by_name below false true h = below h
    by_name below false false h = fault_is at 6 f h

text_fault : (s : State) (at c : ℕ) (spelled : Spelled) (opens : List Open) (f : Fault) → spell s at c spelled opens ≡ Err f
    → IsOf (Char at c spelled) f
text_fault s at c spelled [] f h = fault_is at 8 f (passed (is_white c spelled) s _ f h)
text_fault s at c spelled (o ∷ os) f h = absurd cc

pub step_fault : (s : State) (t : Token) (f : Fault) → go s t ≡ Err f → IsOf t f
step_fault s (Start tag) f h = start_fault s _ tag (drop_closed tag.name s.opens) f h
step_fault s (Raw tag text) f h = raw_fault s _ tag text (drop_closed tag.name s.opens) f h
step_fault s (End at m) f h = end_fault at m s.html s.opens f (bound_fault (without at m s.html s.opens) _ f h)
step_fault s (Comment at) f h = absurd cc
step_fault s (Doctype at) f h = fault_is at 8 f h
step_fault s (Char at c spelled) f h = text_fault s at c spelled s.opens f h

behind_head_fault : (s : State) (t : Token) (f : Fault) → go_behind_head s t ≡ Err f → IsOf t f
behind_head_fault s t f h = step_fault (begin_body s (place_of t) []) t f
    (passed (is_start (codes "body") t) _ _ f (passed (is_blank t) s _ f h))

head_fault : (s : State) (t : Token) (f : Fault) → go_in_head s t ≡ Err f → IsOf t f
head_fault s t f h = behind_head_fault (end_head s) t f
    (passed (is_end (codes "head") t) _ _ f (passed (is_head_element t) _ _ f (passed (is_blank t) s _ f h)))

before_head_fault : (s : State) (t : Token) (f : Fault) → go_before_head s t ≡ Err f → IsOf t f
before_head_fault s t f h = head_fault (begin_head s (place_of t) []) t f
    (passed (is_start (codes "head") t) _ _ f (passed (is_blank t) s _ f h))

opening_fault : (doctype : Bool) (s : State) (t : Token) (f : Fault) → go_opening doctype s t ≡ Err f → IsOf t f
opening_fault doctype s t f h =
    before_head_fault (begin_html s (place_of t) []) t f
    (passed (is_start (codes "html") t) _ _ f (passed (not doctype && is_doctype t) _ _ f (passed (is_blank t) s _ f h)))

at_fault : (stage : Stage) (s : State) (t : Token) (f : Fault) → go_at stage s t ≡ Err f → IsOf t f
at_fault (Opening doctype) s t f h = opening_fault doctype s t f h
at_fault BeforeHead s t f h = before_head_fault s t f h
at_fault InHead s t f h = head_fault s t f h
at_fault BehindHead s t f h = behind_head_fault s t f h
at_fault InBody s t f h = step_fault s t f h

pub taken_fault : (s : State) (t : Token) (f : Fault) → take_token s t ≡ Err f → IsOf t f
taken_fault s t f h = at_fault s.stage s t f (sym (take_is s t) ∙ h)

pub one_more : (front : List Token) (s : State) (t : Token) → read_all opening_state front ≡ Ok s
    → read_all opening_state (front ++ t ∷ []) ≡ take_token s t
one_more front s t h = in_turn opening_state front (t ∷ [])
    ∙ ap (λ (x : Result State Fault). x >>= λ next. read_all next (t ∷ [])) h ∙ by_step (take_token s t)
  where
    by_step : (r : Result State Fault) → (r >>= λ next. read_all next []) ≡ r
    by_step (Ok x) = refl
    by_step (Err f) = refl

stuck_at : (size : ℕ) (toks front : List Token) (s : State) (f : Fault) → read_all opening_state front ≡ Ok s
    → read_all s toks ≡ Err f → IsStuck size (front ++ toks) f
stuck_at size [] front s f h e = absurd cc
stuck_at size (t ∷ ts) front s f h e = by_step (λ next is. stuck_at size ts (front ++ t ∷ []) next f (one_more front s t h ∙ is))
    (seen (take_token s t))
  where
    by_step : ((next : State) → take_token s t ≡ Ok next → read_all next ts ≡ Err f → IsStuck size ((front ++ t ∷ []) ++ ts) f)
        → ((x : State) × (take_token s t ≡ Ok x)) ⊎ ((g : Fault) × (take_token s t ≡ Err g)) → IsStuck size (front ++ t ∷ ts) f
    by_step later (inl g) = subst (λ (x : List Token). IsStuck size x f) (append_assoc front (t ∷ []) ts)
        (later g.0 g.1 (sym (ap (λ (x : Result State Fault). x >>= λ next. read_all next ts) g.1) ∙ e))
    by_step later (inr g) =
        let same_f : g.0 ≡ f = failed_is {A = State} g.0 f
        (sym (ap (λ (x : Result State Fault). x >>= λ next. read_all next ts) g.1) ∙ e) in
        record {
          front = front;
          token = t;
          rest = ts;
          whole = refl;
          goes_on = is_front size front s h;
          no_more = no_front size (front ++ t ∷ []) g.0 (one_more front s t h ∙ g.1);
          which = sym same_f ∙ taken_fault s t g.0 g.1;
        }

finish_fault : (size : ℕ) (s : State) (f : Fault) → finish size s ≡ Err f → f ≡ record { at = size; rule = 7 }
finish_fault size s f h = fault_is {A = Built} size 7 f (passed (all_omit s.opens) _ _ f h)

cut_fault : (size : ℕ) (stage : Stage) (s : State) (f : Fault) → conclude_at stage size s ≡ Err f
    → f ≡ record { at = size; rule = 7 }
cut_fault size (Opening doctype) s f h =
    finish_fault size (begin_body (end_head (begin_head (begin_html s size []) size [])) size []) f h
cut_fault size BeforeHead s f h = finish_fault size (begin_body (end_head (begin_head s size [])) size []) f h
cut_fault size InHead s f h = finish_fault size (begin_body (end_head s) size []) f h
cut_fault size BehindHead s f h = finish_fault size (begin_body s size []) f h
cut_fault size InBody s f h = finish_fault size s f h

pub concluded_fault : (size : ℕ) (s : State) (f : Fault) → conclude size s ≡ Err f → f ≡ record { at = size; rule = 7 }
unfolding conclude
concluded_fault size s f h = cut_fault size s.stage s f h

pub first_fault : (size : ℕ) (toks : List Token) (f : Fault) → built size toks ≡ Err f → IsFirstFault size toks f
unfolding built
first_fault size toks f h = by_reading (seen (read_all opening_state toks))
  where
    by_reading : ((s : State) × (read_all opening_state toks ≡ Ok s)) ⊎ ((g : Fault) × (read_all opening_state toks ≡ Err g))
        → IsFirstFault size toks f
    by_reading (inl r) = inr (record {
      goes_on = is_front size toks r.0 r.1;
      not_over = λ tree d. let ok = document_is_read size toks tree d in let was : built size toks ≡ Err f = h in absurd cc;
      which = concluded_fault size r.0 f (sym (ap (λ (x : Result State Fault). x >>= conclude size) r.1) ∙ h);
    })
    by_reading (inr g) =
        let same_f : g.0 ≡ f = failed_is {A = Built} g.0 f (sym (ap (λ (x : Result State Fault). x >>= conclude size) g.1) ∙ h) in
        inl (stuck_at size toks [] opening_state f refl (g.1 ∙ ap (λ (x : Fault). failed {A = State} x) same_f))
