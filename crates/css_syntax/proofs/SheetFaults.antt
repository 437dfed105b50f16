-- The first fault of a sheet is the one that is found.
use Rattle.std.proofs.Common.{◌≡◌, ℕ, List, [], ◌∷◌, ◌++◌, Bool, true, false, cond, ◌&&◌, ◌||◌}
use Rattle.std.proofs.Common.{refl, sym, ap, subst, ◌∙◌, append_assoc, inl, inr}
use Rattle.std.specs.Prelude.{◌⊎◌, ◌==◌, Option, Some, None, is_some}
use Rattle.std.proofs.lemmas.Bool.{eqb-true, or_parts}
use Rattle.css_tokens.specs.declared.lexeme.Fault.{Fault}
use Rattle.css_tokens.specs.declared.lexeme.Lexeme.{Lexeme}
use Rattle.css_tokens.specs.declared.lexeme.Symbol.{Symbol}
use Rattle.css_tokens.specs.declared.lexeme.Symbol.TheVariants.{Ident, Hash, Quoted, Number, Percent, Dimension, Function, Delim}
use Rattle.css_tokens.specs.declared.lexeme.Symbol.TheVariants.{Space, Broken}
use Rattle.css_tokens.specs.Facts.{is_space, is_space_in, is_delim, closer, closer_in, closer_of, broken_of, sign_of}
use Rattle.css_laws.specs.Values.{Values, Nil, One, Closed, Open, written, IsWhole, closes_around, AreValues, fault_by, fault_of}
use Rattle.css_laws.specs.Values.{faults_in}
use Rattle.css_syntax.specs.declared.at_rules.AtRule.{AtRule}
use Rattle.css_syntax.specs.declared.at_rules.AtRule.TheVariants as kinds
use Rattle.css_syntax.specs.declared.brackets.Brackets.{Brackets}
use Rattle.css_syntax.specs.declared.brackets.Frame.{Frame}
use Rattle.css_syntax.specs.declared.brackets.Frame.TheVariants as frames
use Rattle.css_syntax.specs.declared.brackets.Open as opens
use Rattle.css_syntax.specs.AtRules.{at_rule_of}
use Rattle.css_syntax.specs.Opens.{innermost, popped}
use Rattle.css_syntax.specs.Brackets.{with_fault, opened, closed, closes, bracket_step, is_media, block_of, is_at_rule}
use Rattle.css_syntax.specs.Brackets.{prelude_step, prelude_frame, is_two, is_open_comment, begun, sheet_step, step_by, step}
use Rattle.css_syntax.specs.Brackets.{at_end, stepped}
use Rattle.css_syntax.specs.Styling.{HaveNone}
use Rattle.css_syntax.specs.Sheeting.{is_stop, is_gap}
use Rattle.css_syntax.proofs.Folding.{fault_as, Told, told_same}
use Rattle.css_syntax.proofs.BlockFaults.{innermost_push, popped_push, bracket_as, matches_push, folded, folded_append, state_as}
use Rattle.css_syntax.proofs.BlockFaults.{is_symbol, is_kind, kind_of_closer, closing_sign, step_plain, step_open, step_close}
use Rattle.css_syntax.proofs.BlockFaults.{open_faults, left_folded, open_append, folded_told, same_turned}

-- Steps inside brackets and preludes.

abbrev pub nothing_stops : Lexeme → Bool
nothing_stops x = false

pub have_none : (vs : Values) → HaveNone nothing_stops vs
have_none Nil = tt
have_none (One x more) = (refl, have_none more)
have_none (Closed a inside b more) = (refl, have_none more)
have_none (Open a inside) = refl

-- what closes the bracket around is a closing sign
abbrev pub Kinds : Option ℕ → Type 0
Kinds None = Unit {0}
Kinds (Some c) = is_kind c ≡ true

kind_opens_none : (c : ℕ) → is_kind c ≡ true → closer c ≡ None
kind_opens_none c h = by_round (c == 41) refl h
  where
    by_square : (b : Bool) → (c == 93) ≡ b → (b || (c == 125)) ≡ true → closer c ≡ None
    by_square true e h = ap closer (eqb-true c 93 e)
    by_square false e h = ap closer (eqb-true c 125 h)

    by_round : (b : Bool) → (c == 41) ≡ b → (b || ((c == 93) || (c == 125))) ≡ true → closer c ≡ None
    by_round true e h = ap closer (eqb-true c 41 e)
    by_round false e h = by_square (c == 93) refl h

pub opener_closes_none : (around : Option ℕ) (x : Lexeme) (c : ℕ) → Kinds around → closer_of x ≡ Some c
    → closes_around around x ≡ false
opener_closes_none None x c k h = refl
opener_closes_none (Some d) x c k h = by_test (is_delim d x) refl
  where
    none : (o : Option ℕ) → o ≡ Some c → o ≡ None → ⊥
    none o a b = cc

    by_test : (b : Bool) → is_delim d x ≡ b → is_delim d x ≡ false
    by_test true e = absurd (none (closer_of x) h (ap closer_in (is_symbol x d e) ∙ kind_opens_none d k))
    by_test false e = e

-- a token that neither closes what is around nor stops is read as in a bracket
abbrev pub Quiet : Option ℕ → (Lexeme → Bool) → List opens.Open → Type 0
Quiet around test os = (f : Option Fault) (x : Lexeme) (xs : List Lexeme) → closes_around around x ≡ false → test x ≡ false
    → (step (state_as os f) x xs ≡ bracket_step (state_as os f) x) × (closes (innermost os) x ≡ false)

pub in_bracket : (os : List opens.Open) (at c : ℕ) (f : Option Fault) (x : Lexeme) (xs : List Lexeme)
    → step (state_as (os ++ bracket_as at c ∷ []) f) x xs ≡ bracket_step (state_as (os ++ bracket_as at c ∷ []) f) x
unfolding step
in_bracket os at c f x xs = let s = state_as (os ++ bracket_as at c ∷ []) f
    in ap (λ (o : Option opens.Open). step_by o s x xs) (innermost_push os (bracket_as at c))

pub quiet_bracket : (os : List opens.Open) (at c : ℕ) → Quiet (Some c) nothing_stops (os ++ bracket_as at c ∷ [])
quiet_bracket os at c = λ f x xs closes_none none. (in_bracket os at c f x xs, matches_push os at c x ∙ closes_none)

pub whole_step : (vs : Values) (around : Option ℕ) (test : Lexeme → Bool) (os : List opens.Open) (f : Option Fault)
    (rest : List Lexeme) → AreValues around vs → IsWhole vs → Kinds around
    → HaveNone test vs → Quiet around test os
    → stepped (state_as os f) (written vs ++ rest) ≡ stepped (state_as os (folded f (faults_in vs))) rest
whole_step Nil around test os f rest h w k n q = refl
whole_step (One x more) around test os f rest h w k n q =
    let s = state_as os f in
    let tail = written more ++ rest in
    let one = q f x tail h.1 n.0 in
    ap (λ (t : Brackets). stepped t tail) (one.0 ∙ step_plain s x one.1 h.0)
    ∙ whole_step more around test os (folded f (fault_of x)) rest h.2 w k n.1 q
    ∙ ap (λ (g : Option Fault). stepped (state_as os g) rest) (sym (folded_append f (fault_of x) (faults_in more)))
whole_step (Closed a inside b more) around test os f rest h w k n q =
    let c = h.0 in
    let s = state_as os f in
    let at = sign_of a in
    let inner = os ++ bracket_as at c ∷ [] in
    let sign = closing_sign a b c h.1 h.4 in
    let tail = written more ++ rest in
    let kind = (kind_of_closer a c h.1).1 in
    let front = q f a (written inside ++ (b ∷ tail)) (opener_closes_none around a c k h.1) n.0 in
    ap (λ (x : List Lexeme). stepped s (a ∷ x)) (append_assoc (written inside) (b ∷ written more) rest)
    ∙ ap (λ (t : Brackets). stepped t (written inside ++ (b ∷ tail))) (front.0 ∙ step_open s a c h.1)
    ∙ whole_step inside (Some c) nothing_stops inner f (b ∷ tail) h.2 h.3 kind (have_none inside) (quiet_bracket os at c)
    ∙ ap (λ (t : Brackets). stepped t tail) (in_bracket os at c (folded f (faults_in inside)) b tail
    ∙ step_close os (folded f (faults_in inside)) at c b sign h.4)
    ∙ whole_step more around test os (folded f (faults_in inside)) rest h.5 w k n.1 q
    ∙ ap (λ (g : Option Fault). stepped (state_as os g) rest) (sym (folded_append f (faults_in inside) (faults_in more)))
whole_step (Open a inside) around test os f rest h w k n q = absurd w

pub tail_step : (vs : Values) (around : Option ℕ) (test : Lexeme → Bool) (os : List opens.Open) (f : Option Fault)
    (fs : List Fault) → AreValues around vs → Kinds around
    → HaveNone test vs → Quiet around test os → Told f fs
    → Told (at_end (stepped (state_as os f) (written vs))) (open_faults os ++ (faults_in vs ++ fs))
tail_step Nil around test os f fs h k n q t =
    subst (λ (o : Option Fault). Told o (open_faults os ++ fs)) (sym (left_folded f os)) (folded_told f (open_faults os) fs t)
tail_step (One x more) around test os f fs h k n q t =
    let s = state_as os f in
    let g = fault_of x in
    let one = q f x (written more) h.1 n.0 in
    let found = tail_step more around test os (folded f g) (g ++ fs) h.2 k n.1 q (folded_told f g fs t) in
    subst (λ (u : Brackets). Told (at_end (stepped u (written more))) (open_faults os ++ ((g ++ faults_in more) ++ fs)))
    (sym (one.0 ∙ step_plain s x one.1 h.0))
    (told_same (at_end (stepped (state_as os (folded f g)) (written more))) _ _
    (same_turned (open_faults os) g (faults_in more) fs) found)
tail_step (Closed a inside b more) around test os f fs h k n q t =
    let c = h.0 in
    let s = state_as os f in
    let g = faults_in inside in
    let at = sign_of a in
    let inner = os ++ bracket_as at c ∷ [] in
    let sign = closing_sign a b c h.1 h.4 in
    let kind = (kind_of_closer a c h.1).1 in
    let front = q f a (written inside ++ (b ∷ written more)) (opener_closes_none around a c k h.1) n.0 in
    let found = tail_step more around test os (folded f g) (g ++ fs) h.5 k n.1 q (folded_told f g fs t) in
    let steps : stepped s (a ∷ (written inside ++ (b ∷ written more))) ≡ stepped (state_as os (folded f g)) (written more) =
    ap (λ (u : Brackets). stepped u (written inside ++ (b ∷ written more))) (front.0 ∙ step_open s a c h.1)
    ∙ whole_step inside (Some c) nothing_stops inner f (b ∷ written more) h.2 h.3 kind (have_none inside)
    (quiet_bracket os at c)
    ∙ ap (λ (u : Brackets). stepped u (written more)) (in_bracket os at c (folded f g) b (written more)
    ∙ step_close os (folded f g) at c b sign h.4) in
    subst (λ (u : Brackets). Told (at_end u) (open_faults os ++ ((g ++ faults_in more) ++ fs))) (sym steps)
    (told_same (at_end (stepped (state_as os (folded f g)) (written more))) _ _
    (same_turned (open_faults os) g (faults_in more) fs) found)
tail_step (Open a inside) around test os f fs h k n q t =
    let c = h.0 in
    let s = state_as os f in
    let at = sign_of a in
    let o = bracket_as at c in
    let g = fault_as at 4 in
    let kind = (kind_of_closer a c h.1).1 in
    let front = q f a (written inside) (opener_closes_none around a c k h.1) n in
    let found = tail_step inside (Some c) nothing_stops (os ++ o ∷ []) f fs h.2 kind (have_none inside)
    (quiet_bracket os at c) t in
    let lists : open_faults (os ++ o ∷ []) ++ (faults_in inside ++ fs) ≡ open_faults os ++ ((g ∷ faults_in inside) ++ fs) =
    ap (λ (x : List Fault). x ++ (faults_in inside ++ fs)) (open_append os o)
    ∙ append_assoc (open_faults os) (g ∷ []) (faults_in inside ++ fs) in
    subst (λ (u : Brackets). Told (at_end (stepped u (written inside))) (open_faults os ++ ((g ∷ faults_in inside) ++ fs)))
    (sym (front.0 ∙ step_open s a c h.1))
    (subst (Told (at_end (stepped (state_as (os ++ o ∷ []) f) (written inside)))) lists found)

-- Between rules, of the sheet or of a block of @media.

abbrev pub open_as : ℕ → Frame → opens.Open
open_as at frame = record { at = at; frame = frame }

abbrev pub Between : Option ℕ → List opens.Open → Type 0
Between around os = ((around ≡ None) × (os ≡ []))
    ⊎ ((outer : List opens.Open) × (at : ℕ) × (around ≡ Some 125) × (os ≡ outer ++ open_as at frames.Media ∷ []))

pub between_kinds : (around : Option ℕ) (os : List opens.Open) → Between around os → Kinds around
between_kinds around os (inl b) = subst Kinds (sym b.0) tt
between_kinds around os (inr b) = subst Kinds (sym b.2) refl

pub between_step : (around : Option ℕ) (os : List opens.Open) → Between around os
    → (f : Option Fault) (x : Lexeme) (xs : List Lexeme) → step (state_as os f) x xs ≡ sheet_step (state_as os f) x xs
unfolding step
between_step around os (inl b) f x xs = ap (λ (o : List opens.Open). step_by (innermost o) (state_as os f) x xs) b.1
between_step around os (inr b) f x xs =
    ap (λ (o : List opens.Open). step_by (innermost o) (state_as os f) x xs) b.3
    ∙ ap (λ (o : Option opens.Open). step_by o (state_as os f) x xs) (innermost_push b.0 (open_as b.1 frames.Media))

and_false : (b : Bool) → (b && false) ≡ false
and_false true = refl
and_false false = refl

-- no } that closes the block of @media
no_media_end : (around : Option ℕ) (os : List opens.Open) → Between around os → (x : Lexeme) → closes_around around x ≡ false
    → (is_delim 125 x && is_media (innermost os)) ≡ false
no_media_end around os (inl b) x h = ap (λ (o : List opens.Open). is_delim 125 x && is_media (innermost o)) b.1
    ∙ and_false (is_delim 125 x)
no_media_end around os (inr b) x h =
    ap (λ (t : Bool). t && is_media (innermost os)) (sym (ap (λ (o : Option ℕ). closes_around o x) b.2) ∙ h)

abbrev pub framed : ℕ → Option AtRule → opens.Open
framed at kind = open_as at (prelude_frame kind)

prelude_is_at_rule : (kind : Option AtRule) → is_at_rule (prelude_frame kind) ≡ is_some kind
prelude_is_at_rule None = refl
prelude_is_at_rule (Some kinds.Skipped) = refl
prelude_is_at_rule (Some kinds.Media) = refl
prelude_is_at_rule (Some kinds.Other) = refl

prelude_closes : (kind : Option AtRule) (at : ℕ) (x : Lexeme) → closes (Some (framed at kind)) x ≡ false
prelude_closes None at x = refl
prelude_closes (Some kinds.Skipped) at x = refl
prelude_closes (Some kinds.Media) at x = refl
prelude_closes (Some kinds.Other) at x = refl

prelude_steps : (kind : Option AtRule) (at : ℕ) (s : Brackets) (x : Lexeme) (xs : List Lexeme)
    → step_by (Some (framed at kind)) s x xs ≡ prelude_step s (framed at kind) x
prelude_steps None at s x xs = refl
prelude_steps (Some kinds.Skipped) at s x xs = refl
prelude_steps (Some kinds.Media) at s x xs = refl
prelude_steps (Some kinds.Other) at s x xs = refl

pub in_prelude : (os : List opens.Open) (at : ℕ) (kind : Option AtRule) (f : Option Fault) (x : Lexeme) (xs : List Lexeme)
    → step (state_as (os ++ framed at kind ∷ []) f) x xs ≡ prelude_step (state_as (os ++ framed at kind ∷ []) f)
    (framed at kind) x
unfolding step
in_prelude os at kind f x xs =
    let s = state_as (os ++ framed at kind ∷ []) f in
    ap (λ (o : Option opens.Open). step_by o s x xs) (innermost_push os (framed at kind)) ∙ prelude_steps kind at s x xs

-- where nothing ends it, a prelude is read as in a bracket
plain_prelude : (around : Option ℕ) (os : List opens.Open) (at : ℕ) (kind : Option AtRule) → Between around os
    → (f : Option Fault) (x : Lexeme) → closes_around around x ≡ false → is_stop kind x ≡ false
    → prelude_step (state_as (os ++ framed at kind ∷ []) f) (framed at kind) x
    ≡ bracket_step (state_as (os ++ framed at kind ∷ []) f) x
unfolding prelude_step
plain_prelude around os at kind b f x none stop =
    let o = framed at kind in
    let all = os ++ o ∷ [] in
    let s = state_as all f in
    let parts = or_parts (is_delim 123 x) (is_some kind && is_delim 59 x) stop in
    ap (λ (t : Bool). cond t (opened (closed s) x.at (block_of o.frame))
    (cond (is_delim 59 x && is_at_rule o.frame) (closed s)
    (cond (is_delim 125 x && is_media (innermost (popped all))) (closed (closed (with_fault s at 5)))
    (bracket_step s x)))) parts.0
    ∙ ap (λ (t : Bool). cond t (closed s)
    (cond (is_delim 125 x && is_media (innermost (popped all))) (closed (closed (with_fault s at 5))) (bracket_step s x)))
    (ap (λ (t : Bool). is_delim 59 x && t) (prelude_is_at_rule kind) ∙ turned (is_delim 59 x) (is_some kind) parts.1)
    ∙ ap (λ (t : Bool). cond t (closed (closed (with_fault s at 5))) (bracket_step s x))
    (ap (λ (y : List opens.Open). is_delim 125 x && is_media (innermost y)) (popped_push os o)
    ∙ no_media_end around os b x none)
  where
    turned : (a c : Bool) → (c && a) ≡ false → (a && c) ≡ false
    turned true true h = h
    turned true false h = refl
    turned false c h = refl

pub quiet_prelude : (around : Option ℕ) (os : List opens.Open) (at : ℕ) (kind : Option AtRule) → Between around os
    → Quiet around (is_stop kind) (os ++ framed at kind ∷ [])
quiet_prelude around os at kind b = λ f x xs none stop. (
  in_prelude os at kind f x xs ∙ plain_prelude around os at kind b f x none stop,
  ap (λ (o : Option opens.Open). closes o x) (innermost_push os (framed at kind)) ∙ prelude_closes kind at x,
)

-- a prelude begins
pub enter : (around : Option ℕ) (os : List opens.Open) → Between around os → (f : Option Fault) (x : Lexeme) (xs : List Lexeme)
    → is_gap x ≡ false → closes_around around x ≡ false
    → stepped (state_as os f) (x ∷ xs) ≡ stepped (state_as (os ++ framed x.at (at_rule_of x xs) ∷ []) f) (x ∷ xs)
unfolding sheet_step
enter around os b f x xs gap none =
    let s = state_as os f in
    let kind = at_rule_of x xs in
    let parts = or_parts (is_space x) (is_open_comment x) gap in
    ap (λ (t : Brackets). stepped t xs) (
    between_step around os b f x xs
    ∙ ap (λ (t : Bool). cond t s (cond (is_open_comment x) (with_fault s x.at 2)
    (cond (is_delim 125 x && is_media (innermost os)) (closed s) (begun s x (prelude_frame kind))))) parts.0
    ∙ ap (λ (t : Bool). cond t (with_fault s x.at 2)
    (cond (is_delim 125 x && is_media (innermost os)) (closed s) (begun s x (prelude_frame kind)))) parts.1
    ∙ ap (λ (t : Bool). cond t (closed s) (begun s x (prelude_frame kind))) (no_media_end around os b x none)
    ∙ sym (in_prelude os x.at kind f x xs))

-- white space, or a comment that isn't closed
pub gap_step : (around : Option ℕ) (os : List opens.Open) → Between around os → (f : Option Fault) (x : Lexeme) (xs : List Lexeme)
    → is_gap x ≡ true → step (state_as os f) x xs ≡ state_as os (folded f (fault_of x))
unfolding sheet_step
gap_step around os b f x xs gap = between_step around os b f x xs ∙ by_space (is_space x) refl gap
  where
    s : Brackets
    s = state_as os f

    kind : Option AtRule
    kind = at_rule_of x xs

    space_fault : (y : Symbol) (at : ℕ) → is_space_in y ≡ true → fault_of (record { at = at; symbol = y }) ≡ []
    space_fault (Ident text) at h = absurd cc
    space_fault (Hash text) at h = absurd cc
    space_fault (Quoted text) at h = absurd cc
    space_fault (Number digits) at h = absurd cc
    space_fault (Percent digits) at h = absurd cc
    space_fault (Dimension digits unit) at h = absurd cc
    space_fault (Function name paren) at h = absurd cc
    space_fault (Delim c) at h = absurd cc
    space_fault Space at h = refl
    space_fault (Broken rule) at h = absurd cc

    comment_fault : (o : Option ℕ) → is_two o ≡ true → fault_by x o ≡ fault_as x.at 2 ∷ []
    comment_fault None h = absurd cc
    comment_fault (Some rule) h = ap (λ (r : ℕ). fault_as x.at r ∷ []) (eqb-true rule 2 h)

    rest : Brackets
    rest = cond (is_open_comment x) (with_fault s x.at 2)
        (cond (is_delim 125 x && is_media (innermost os)) (closed s) (begun s x (prelude_frame kind)))

    by_space : (t : Bool) → is_space x ≡ t → (t || is_open_comment x) ≡ true
        → sheet_step s x xs ≡ state_as os (folded f (fault_of x))
    by_space true e h = ap (λ (t : Bool). cond t s rest) e
        ∙ ap (λ (g : List Fault). state_as os (folded f g)) (sym (space_fault x.symbol x.at e))
    by_space false e h =
        ap (λ (t : Bool). cond t s rest) e
        ∙ ap (λ (t : Bool). cond t (with_fault s x.at 2)
        (cond (is_delim 125 x && is_media (innermost os)) (closed s) (begun s x (prelude_frame kind)))) h
        ∙ ap (λ (g : List Fault). state_as os (folded f g)) (sym (comment_fault (broken_of x) h))
