-- Items of a sheet are read one after the other, and their first fault is found.
use Rattle.std.proofs.Common.{◌≡◌, ℕ, List, [], ◌∷◌, ◌++◌, Bool, true, false, cond, ◌&&◌, ◌||◌}
use Rattle.std.proofs.Common.{refl, sym, ap, subst, ◌∙◌, append_assoc, append-nil, inl, inr}
use Rattle.std.specs.Prelude.{◌⊎◌, ◌==◌, Option, Some, None, is_some}
use Rattle.std.specs.Option.{option_map}
use Rattle.std.proofs.lemmas.Bool.{true≢false, or_parts}
use Rattle.css_tokens.specs.declared.lexeme.Fault.{Fault}
use Rattle.css_tokens.specs.declared.lexeme.Lexeme.{Lexeme}
use Rattle.css_tokens.specs.declared.lexeme.Symbol.{Symbol}
use Rattle.css_tokens.specs.Facts.{delim_in, is_this, is_space, is_space_in, is_delim, closer_in, closer_of, ident_in}
use Rattle.css_tokens.specs.Facts.{broken_in}
use Rattle.css_laws.specs.Values.{Values, Nil, One, Closed, Open, written, IsWhole, closes_around, AreValues, fault_of, faults_in}
use Rattle.css_syntax.specs.declared.at_rules.AtRule.{AtRule}
use Rattle.css_syntax.specs.declared.at_rules.AtRule.TheVariants as kinds
use Rattle.css_syntax.specs.declared.brackets.Brackets.{Brackets}
use Rattle.css_syntax.specs.declared.brackets.Frame.{Frame}
use Rattle.css_syntax.specs.declared.brackets.Frame.TheVariants as frames
use Rattle.css_syntax.specs.declared.brackets.Open as opens
use Rattle.css_syntax.specs.AtRules as rules
use Rattle.css_syntax.specs.Opens.{innermost, popped}
use Rattle.css_syntax.specs.Brackets.{with_fault, opened, closed, bracket_step, is_media, block_of, is_at_rule, prelude_step}
use Rattle.css_syntax.specs.Brackets.{prelude_frame, is_two, is_open_comment, begun, sheet_step, step, rule_of, at_end, stepped}
use Rattle.css_syntax.specs.Brackets.{sheet_fault}
use Rattle.css_syntax.specs.Blocks.{offset_of}
use Rattle.css_syntax.specs.Sheeting.{Items, End, Gap, Block, Ended, Media, Lost, Unclosed, UnclosedMedia, tokens_of, kind_of}
use Rattle.css_syntax.specs.Sheeting.{is_media_kind, is_stop, is_gap, begins_gap, IsPrelude, AreWhole, AreItems, faults_of}
use Rattle.css_syntax.proofs.Folding.{fault_as, Same, Told, told_same}
use Rattle.css_syntax.proofs.BlockFaults.{innermost_push, popped_push, bracket_as, folded, folded_append, state_as, is_symbol}
use Rattle.css_syntax.proofs.BlockFaults.{closing_sign, step_close, open_faults, left_folded, open_append, folded_told}
use Rattle.css_syntax.proofs.BlockFaults.{same_turned, append_none}
use Rattle.css_syntax.proofs.SheetFaults.{nothing_stops, have_none, Kinds, opener_closes_none, in_bracket, quiet_bracket}
use Rattle.css_syntax.proofs.SheetFaults.{whole_step, tail_step, open_as, Between, between_kinds, between_step, framed}
use Rattle.css_syntax.proofs.SheetFaults.{in_prelude, quiet_prelude, enter, gap_step}

-- A token that is a character.

pub signed_first : (c : ℕ) (y : Lexeme) (ys : List Lexeme) → is_delim c y ≡ true → rules.first_name (y ∷ ys) ≡ None
signed_first c y ys h =
    ap ident_in (is_symbol y c h)

pub other_sign : (c d : ℕ) (y : Lexeme) → is_delim c y ≡ true → (c == d) ≡ false → is_delim d y ≡ false
other_sign c d y h n = ap (λ (s : Symbol). is_this d (delim_in s)) (is_symbol y c h) ∙ n

pub no_gap : (c : ℕ) (y : Lexeme) → is_delim c y ≡ true → is_gap y ≡ false
no_gap c y h = ap (λ (s : Symbol). is_space_in s || is_two (broken_in s)) (is_symbol y c h)

pub opens_block : (y : Lexeme) → is_delim 123 y ≡ true → closer_of y ≡ Some 125
opens_block y h = ap closer_in (is_symbol y 123 h)

pub kind_front : (x : Lexeme) (t rest : List Lexeme) → rules.first_name rest ≡ None
    → rules.at_rule_of x (t ++ rest) ≡ rules.at_rule_of x t
kind_front x [] rest h = ap (λ (o : Option (List ℕ)). cond (is_delim 64 x) (option_map rules.kind_of o) None) h
kind_front x (y ∷ t) rest h = refl

-- Preludes.

first_stays : (around : Option ℕ) (p : Values) (x : Lexeme) (t : List Lexeme) → Kinds around → AreValues around p
    → written p ≡ x ∷ t → closes_around around x ≡ false
first_stays around Nil x t k h e = absurd cc
first_stays around (One y more) x t k h e = ap (closes_around around) (sym (first_is y x (written more) t e)) ∙ h.1
  where
    first_is : (a b : Lexeme) (u v : List Lexeme) → a ∷ u ≡ b ∷ v → a ≡ b
    first_is a b u v e = cc
first_stays around (Closed a inside b more) x t k h e =
    ap (closes_around around) (sym (first_is a x (written inside ++ (b ∷ written more)) t e))
    ∙ opener_closes_none around a h.0 k h.1
  where
    first_is : (a b : Lexeme) (u v : List Lexeme) → a ∷ u ≡ b ∷ v → a ≡ b
    first_is a b u v e = cc
first_stays around (Open a inside) x t k h e = ap (closes_around around) (sym (first_is a x (written inside) t e))
    ∙ opener_closes_none around a h.0 k h.1
  where
    first_is : (a b : Lexeme) (u v : List Lexeme) → a ∷ u ≡ b ∷ v → a ≡ b
    first_is a b u v e = cc

abbrev pub prelude_open : Values → opens.Open
prelude_open p = framed (offset_of (written p)) (kind_of (written p))

begin : (around : Option ℕ) (os : List opens.Open) (f : Option Fault) (p : Values) (rest : List Lexeme) → Between around os
    → IsPrelude around p → (written p ≡ [] → ⊥) → rules.first_name rest ≡ None
    → stepped (state_as os f) (written p ++ rest) ≡ stepped (state_as (os ++ prelude_open p ∷ []) f) (written p ++ rest)
begin around os f p rest b h some none = by_list (written p) refl
  where
    by_list : (ws : List Lexeme) → written p ≡ ws
        → stepped (state_as os f) (written p ++ rest) ≡ stepped (state_as (os ++ prelude_open p ∷ []) f) (written p ++ rest)
    by_list [] e = absurd (some e)
    by_list (x ∷ t) e =
        let gap : is_gap x ≡ false = sym (ap begins_gap e) ∙ h.begins in
        ap (λ (z : List Lexeme). stepped (state_as os f) (z ++ rest)) e
        ∙ enter around os b f x (t ++ rest) gap (first_stays around p x t (between_kinds around os b) h.are e)
        ∙ ap (λ (k : Option AtRule). stepped (state_as (os ++ framed x.at k ∷ []) f) (x ∷ (t ++ rest))) (kind_front x t rest none)
        ∙ ap (λ (z : List Lexeme). stepped (state_as (os ++ framed (offset_of z) (kind_of z) ∷ []) f) (z ++ rest)) (sym e)

some_or_nil : (p : Values) → (p ≡ Nil) ⊎ (written p ≡ [] → ⊥)
some_or_nil Nil = inl refl
some_or_nil (One x more) = inr (λ e. absurd cc)
some_or_nil (Closed a inside b more) = inr (λ e. absurd cc)
some_or_nil (Open a inside) = inr (λ e. absurd cc)

-- a prelude up to what ends it
prelude_read : (around : Option ℕ) (os : List opens.Open) (f : Option Fault) (p : Values) (rest : List Lexeme) → Between around os
    → IsPrelude around p → IsWhole p → (written p ≡ [] → ⊥) → rules.first_name rest ≡ None
    → stepped (state_as os f) (written p ++ rest) ≡ stepped (state_as (os ++ prelude_open p ∷ []) (folded f (faults_in p))) rest
prelude_read around os f p rest b h w some none =
    let k = kind_of (written p) in
    begin around os f p rest b h some none
    ∙ whole_step p around (is_stop k) (os ++ prelude_open p ∷ []) f rest h.are w (between_kinds around os b) h.apart
    (quiet_prelude around os (offset_of (written p)) k b)

abbrev block_open : Values → Lexeme → opens.Open
block_open p y = open_as y.at (block_of (prelude_frame (kind_of (written p))))

open_block : (os : List opens.Open) (at : ℕ) (kind : Option AtRule) (f : Option Fault) (y : Lexeme) → is_delim 123 y ≡ true
    → prelude_step (state_as (os ++ framed at kind ∷ []) f) (framed at kind) y
    ≡ state_as (os ++ open_as y.at (block_of (prelude_frame kind)) ∷ []) f
unfolding prelude_step
open_block os at kind f y h =
    let o = framed at kind in
    let all = os ++ o ∷ [] in
    let s = state_as all f in
    ap (λ (t : Bool). cond t (opened (closed s) y.at (block_of o.frame))
    (cond (is_delim 59 y && is_at_rule o.frame) (closed s)
    (cond (is_delim 125 y && is_media (innermost (popped all))) (closed (closed (with_fault s at 5)))
    (bracket_step s y)))) h
    ∙ ap (λ (z : List opens.Open). state_as (z ++ open_as y.at (block_of (prelude_frame kind)) ∷ []) f) (popped_push os o)

-- into a block
enter_block : (around : Option ℕ) (os : List opens.Open) (f : Option Fault) (p : Values) (y : Lexeme) (ys : List Lexeme)
    → Between around os → IsPrelude around p → IsWhole p → is_delim 123 y ≡ true
    → stepped (state_as os f) (written p ++ (y ∷ ys)) ≡ stepped (state_as (os ++ block_open p y ∷ []) (folded f (faults_in p))) ys
enter_block around os f p y ys b h w opens_it = by_some (some_or_nil p)
  where
    no_at : rules.at_rule_of y ys ≡ None
    no_at = ap (λ (t : Bool). cond t (option_map rules.kind_of (rules.first_name ys)) None) (other_sign 123 64 y opens_it refl)

    alone : stepped (state_as os f) (y ∷ ys) ≡ stepped (state_as (os ++ block_open Nil y ∷ []) f) ys
    alone =
        enter around os b f y ys (no_gap 123 y opens_it)
        (opener_closes_none around y 125 (between_kinds around os b) (opens_block y opens_it))
        ∙ ap (λ (k : Option AtRule). stepped (state_as (os ++ framed y.at k ∷ []) f) (y ∷ ys)) no_at
        ∙ ap (λ (s : Brackets). stepped s ys) (in_prelude os y.at None f y ys ∙ open_block os y.at None f y opens_it)

    by_some : (p ≡ Nil) ⊎ (written p ≡ [] → ⊥)
        → stepped (state_as os f) (written p ++ (y ∷ ys))
        ≡ stepped (state_as (os ++ block_open p y ∷ []) (folded f (faults_in p))) ys
    by_some (inl e) =
        ap (λ (q : Values). stepped (state_as os f) (written q ++ (y ∷ ys))) e ∙ alone
        ∙ ap (λ (q : Values). stepped (state_as (os ++ block_open q y ∷ []) (folded f (faults_in q))) ys) (sym e)
    by_some (inr some) =
        let g = folded f (faults_in p) in
        let at = offset_of (written p) in
        let k = kind_of (written p) in
        prelude_read around os f p (y ∷ ys) b h w some (signed_first 123 y ys opens_it)
        ∙ ap (λ (s : Brackets). stepped s ys) (in_prelude os at k g y ys ∙ open_block os at k g y opens_it)

plain_block : (kind : Option AtRule) → is_media_kind kind ≡ false → block_of (prelude_frame kind) ≡ frames.Bracket 125
plain_block None h = refl
plain_block (Some kinds.Skipped) h = refl
plain_block (Some kinds.Media) h = absurd cc
plain_block (Some kinds.Other) h = refl

media_block : (kind : Option AtRule) → is_media_kind kind ≡ true → block_of (prelude_frame kind) ≡ frames.Media
media_block None h = absurd cc
media_block (Some kinds.Skipped) h = absurd cc
media_block (Some kinds.Media) h = refl
media_block (Some kinds.Other) h = absurd cc

-- into a block of values
enter_values : (around : Option ℕ) (os : List opens.Open) (f : Option Fault) (p : Values) (y : Lexeme) (ys : List Lexeme)
    → Between around os → IsPrelude around p → IsWhole p → is_media_kind (kind_of (written p)) ≡ false → is_delim 123 y ≡ true
    → stepped (state_as os f) (written p ++ (y ∷ ys))
    ≡ stepped (state_as (os ++ bracket_as y.at 125 ∷ []) (folded f (faults_in p))) ys
enter_values around os f p y ys b h w m o =
    enter_block around os f p y ys b h w o
    ∙ ap (λ (fr : Frame). stepped (state_as (os ++ open_as y.at fr ∷ []) (folded f (faults_in p))) ys)
    (plain_block (kind_of (written p)) m)

-- into a block of @media
enter_media : (around : Option ℕ) (os : List opens.Open) (f : Option Fault) (p : Values) (y : Lexeme) (ys : List Lexeme)
    → Between around os → IsPrelude around p → IsWhole p → is_media_kind (kind_of (written p)) ≡ true → is_delim 123 y ≡ true
    → stepped (state_as os f) (written p ++ (y ∷ ys))
    ≡ stepped (state_as (os ++ open_as y.at frames.Media ∷ []) (folded f (faults_in p))) ys
enter_media around os f p y ys b h w m o =
    enter_block around os f p y ys b h w o
    ∙ ap (λ (fr : Frame). stepped (state_as (os ++ open_as y.at fr ∷ []) (folded f (faults_in p))) ys)
    (media_block (kind_of (written p)) m)

block_read : (around : Option ℕ) (os : List opens.Open) (f : Option Fault) (p : Values) (y : Lexeme) (v : Values) (c : Lexeme)
    (rest : List Lexeme) → Between around os → IsPrelude around p → IsWhole p
    → is_media_kind (kind_of (written p)) ≡ false → is_delim 123 y ≡ true → AreValues (Some 125) v → IsWhole v
    → is_delim 125 c ≡ true
    → stepped (state_as os f) (written p ++ (y ∷ (written v ++ (c ∷ rest))))
    ≡ stepped (state_as os (folded (folded f (faults_in p)) (faults_in v))) rest
block_read around os f p y v c rest b h w m o are whole closes =
    let g = folded f (faults_in p) in
    let sign = closing_sign y c 125 (opens_block y o) closes in
    enter_values around os f p y (written v ++ (c ∷ rest)) b h w m o
    ∙ whole_step v (Some 125) nothing_stops (os ++ bracket_as y.at 125 ∷ []) g (c ∷ rest) are whole refl (have_none v)
    (quiet_bracket os y.at 125)
    ∙ ap (λ (s : Brackets). stepped s rest) (in_bracket os y.at 125 (folded g (faults_in v)) c rest
    ∙ step_close os (folded g (faults_in v)) y.at 125 c sign closes)

prelude_is_at : (kind : Option AtRule) → is_some kind ≡ true → is_at_rule (prelude_frame kind) ≡ true
prelude_is_at None h = absurd cc
prelude_is_at (Some kinds.Skipped) h = refl
prelude_is_at (Some kinds.Media) h = refl
prelude_is_at (Some kinds.Other) h = refl

end_prelude : (os : List opens.Open) (at : ℕ) (kind : Option AtRule) (f : Option Fault) (x : Lexeme) → is_some kind ≡ true
    → is_delim 59 x ≡ true
    → prelude_step (state_as (os ++ framed at kind ∷ []) f) (framed at kind) x ≡ state_as os f
unfolding prelude_step
end_prelude os at kind f x some h =
    let o = framed at kind in
    let all = os ++ o ∷ [] in
    let s = state_as all f in
    ap (λ (t : Bool). cond t (opened (closed s) x.at (block_of o.frame))
    (cond (is_delim 59 x && is_at_rule o.frame) (closed s)
    (cond (is_delim 125 x && is_media (innermost (popped all))) (closed (closed (with_fault s at 5)))
    (bracket_step s x)))) (other_sign 59 123 x h refl)
    ∙ ap (λ (t : Bool). cond (t && is_at_rule o.frame) (closed s)
    (cond (is_delim 125 x && is_media (innermost (popped all))) (closed (closed (with_fault s at 5))) (bracket_step s x)))
    h
    ∙ ap (λ (t : Bool). cond t (closed s)
    (cond (is_delim 125 x && is_media (innermost (popped all))) (closed (closed (with_fault s at 5))) (bracket_step s x)))
    (prelude_is_at kind some)
    ∙ ap (λ (z : List opens.Open). state_as z f) (popped_push os o)

no_kind : (p : Values) → is_some (kind_of (written p)) ≡ true → written p ≡ [] → ⊥
no_kind p h e = true≢false (sym h ∙ ap (λ (z : List Lexeme). is_some (kind_of z)) e)

ended_read : (around : Option ℕ) (os : List opens.Open) (f : Option Fault) (p : Values) (x : Lexeme) (rest : List Lexeme)
    → Between around os → IsPrelude around p → IsWhole p
    → is_some (kind_of (written p)) ≡ true → is_delim 59 x ≡ true
    → stepped (state_as os f) (written p ++ (x ∷ rest)) ≡ stepped (state_as os (folded f (faults_in p))) rest
ended_read around os f p x rest b h w some s =
    let g = folded f (faults_in p) in
    let at = offset_of (written p) in
    let k = kind_of (written p) in
    prelude_read around os f p (x ∷ rest) b h w (no_kind p some) (signed_first 59 x rest s)
    ∙ ap (λ (u : Brackets). stepped u rest) (in_prelude os at k g x rest ∙ end_prelude os at k g x some s)

-- the end of a block of @media, in a prelude and between rules
abbrev media_open : ℕ → opens.Open
media_open at = open_as at frames.Media

lost_prelude : (outer : List opens.Open) (m at : ℕ) (kind : Option AtRule) (f : Option Fault) (c : Lexeme) → is_delim 125 c ≡ true
    → prelude_step (state_as ((outer ++ media_open m ∷ []) ++ framed at kind ∷ []) f) (framed at kind) c
    ≡ state_as outer (folded f (fault_as at 5 ∷ []))
unfolding prelude_step
lost_prelude outer m at kind f c h =
    let os = outer ++ media_open m ∷ [] in
    let o = framed at kind in
    let all = os ++ o ∷ [] in
    let s = state_as all f in
    let inside : is_media (innermost (popped all)) ≡ true =
    ap (λ (z : List opens.Open). is_media (innermost z)) (popped_push os o)
    ∙ ap is_media (innermost_push outer (media_open m)) in
    ap (λ (t : Bool). cond t (opened (closed s) c.at (block_of o.frame))
    (cond (is_delim 59 c && is_at_rule o.frame) (closed s)
    (cond (is_delim 125 c && is_media (innermost (popped all))) (closed (closed (with_fault s at 5)))
    (bracket_step s c)))) (other_sign 125 123 c h refl)
    ∙ ap (λ (t : Bool). cond (t && is_at_rule o.frame) (closed s)
    (cond (is_delim 125 c && is_media (innermost (popped all))) (closed (closed (with_fault s at 5))) (bracket_step s c)))
    (other_sign 125 59 c h refl)
    ∙ ap (λ (t : Bool). cond (t && is_media (innermost (popped all))) (closed (closed (with_fault s at 5))) (bracket_step s c)) h
    ∙ ap (λ (t : Bool). cond t (closed (closed (with_fault s at 5))) (bracket_step s c)) inside
    ∙ ap (λ (z : List opens.Open). state_as (popped z) (folded f (fault_as at 5 ∷ []))) (popped_push os o)
    ∙ ap (λ (z : List opens.Open). state_as z (folded f (fault_as at 5 ∷ []))) (popped_push outer (media_open m))

lost_read : (outer : List opens.Open) (m : ℕ) (f : Option Fault) (p : Values) (c : Lexeme) (rest : List Lexeme)
    → IsPrelude (Some 125) p → IsWhole p → (written p ≡ [] → ⊥) → is_delim 125 c ≡ true
    → stepped (state_as (outer ++ media_open m ∷ []) f) (written p ++ (c ∷ rest))
    ≡ stepped (state_as outer (folded f (faults_in p ++ fault_as (offset_of (written p)) 5 ∷ []))) rest
lost_read outer m f p c rest h w some s =
    let os = outer ++ media_open m ∷ [] in
    let g = folded f (faults_in p) in
    let at = offset_of (written p) in
    let k = kind_of (written p) in
    prelude_read (Some 125) os f p (c ∷ rest) (inr (outer, m, refl, refl)) h w some (signed_first 125 c rest s)
    ∙ ap (λ (u : Brackets). stepped u rest) (in_prelude os at k g c rest ∙ lost_prelude outer m at k g c s)
    ∙ ap (λ (o : Option Fault). stepped (state_as outer o) rest) (sym (folded_append f (faults_in p) (fault_as at 5 ∷ [])))

media_end : (outer : List opens.Open) (m : ℕ) (f : Option Fault) (c : Lexeme) (rest : List Lexeme) → is_delim 125 c ≡ true
    → step (state_as (outer ++ media_open m ∷ []) f) c rest ≡ state_as outer f
unfolding sheet_step
media_end outer m f c rest h =
    let os = outer ++ media_open m ∷ [] in
    let s = state_as os f in
    let kind = rules.at_rule_of c rest in
    let gaps = or_parts (is_space c) (is_open_comment c) (no_gap 125 c h) in
    between_step (Some 125) os (inr (outer, m, refl, refl)) f c rest
    ∙ ap (λ (t : Bool). cond t s (cond (is_open_comment c) (with_fault s c.at 2)
    (cond (is_delim 125 c && is_media (innermost os)) (closed s) (begun s c (prelude_frame kind))))) gaps.0
    ∙ ap (λ (t : Bool). cond t (with_fault s c.at 2)
    (cond (is_delim 125 c && is_media (innermost os)) (closed s) (begun s c (prelude_frame kind)))) gaps.1
    ∙ ap (λ (t : Bool). cond (t && is_media (innermost os)) (closed s) (begun s c (prelude_frame kind))) h
    ∙ ap (λ (t : Option opens.Open). cond (is_media t) (closed s) (begun s c (prelude_frame kind)))
    (innermost_push outer (media_open m))
    ∙ ap (λ (z : List opens.Open). state_as z f) (popped_push outer (media_open m))

-- lists of tokens one after the other
three : (a : List Lexeme) (y : Lexeme) (b : List Lexeme) (c : Lexeme) (d e : List Lexeme)
    → (a ++ (y ∷ (b ++ (c ∷ d)))) ++ e ≡ a ++ (y ∷ (b ++ (c ∷ (d ++ e))))
three a y b c d e = append_assoc a (y ∷ (b ++ (c ∷ d))) e ∙ ap (λ (z : List Lexeme). a ++ (y ∷ z)) (append_assoc b (c ∷ d) e)

folded_three : (f : Option Fault) (a b c : List Fault) → folded (folded (folded f a) b) c ≡ folded f (a ++ (b ++ c))
folded_three f a b c = sym (folded_append f a (b ++ c) ∙ folded_append (folded f a) b c)

-- a block of @media is read up to its end
media_read : (items : Items) (outer : List opens.Open) (m : ℕ) (f : Option Fault) (c : Lexeme) (rest : List Lexeme)
    → AreItems (Some 125) items → AreWhole items → is_delim 125 c ≡ true
    → stepped (state_as (outer ++ media_open m ∷ []) f) (tokens_of items ++ (c ∷ rest))
    ≡ stepped (state_as outer (folded f (faults_of items))) rest
media_read End outer m f c rest h w s = ap (λ (u : Brackets). stepped u rest) (media_end outer m f c rest s)
media_read (Gap x more) outer m f c rest h w s =
    let os = outer ++ media_open m ∷ [] in
    let tail = tokens_of more ++ (c ∷ rest) in
    ap (λ (u : Brackets). stepped u tail) (gap_step (Some 125) os (inr (outer, m, refl, refl)) f x tail h.0)
    ∙ media_read more outer m (folded f (fault_of x)) c rest h.1 w s
    ∙ ap (λ (o : Option Fault). stepped (state_as outer o) rest) (sym (folded_append f (fault_of x) (faults_of more)))
media_read (Block p a v b more) outer m f c rest h w s =
    let os = outer ++ media_open m ∷ [] in
    let tail = tokens_of more ++ (c ∷ rest) in
    ap (stepped (state_as os f)) (three (written p) a (written v) b (tokens_of more) (c ∷ rest))
    ∙ block_read (Some 125) os f p a v b tail (inr (outer, m, refl, refl)) h.0 h.1 h.2 h.3 h.4 h.5 h.6
    ∙ media_read more outer m (folded (folded f (faults_in p)) (faults_in v)) c rest h.7 w s
    ∙ ap (λ (o : Option Fault). stepped (state_as outer o) rest) (folded_three f (faults_in p) (faults_in v) (faults_of more))
media_read (Ended p x more) outer m f c rest h w s =
    let os = outer ++ media_open m ∷ [] in
    let tail = tokens_of more ++ (c ∷ rest) in
    ap (stepped (state_as os f)) (append_assoc (written p) (x ∷ tokens_of more) (c ∷ rest))
    ∙ ended_read (Some 125) os f p x tail (inr (outer, m, refl, refl)) h.0 h.1 h.2 h.3
    ∙ media_read more outer m (folded f (faults_in p)) c rest h.4 w s
    ∙ ap (λ (o : Option Fault). stepped (state_as outer o) rest) (sym (folded_append f (faults_in p) (faults_of more)))
media_read (Media p a inside b more) outer m f c rest h w s =
    let os = outer ++ media_open m ∷ [] in
    let tail = tokens_of more ++ (c ∷ rest) in
    let g = folded f (faults_in p) in
    ap (stepped (state_as os f)) (three (written p) a (tokens_of inside) b (tokens_of more) (c ∷ rest))
    ∙ enter_media (Some 125) os f p a (tokens_of inside ++ (b ∷ tail)) (inr (outer, m, refl, refl)) h.0 h.1 h.2 h.3
    ∙ media_read inside os a.at g b tail h.4 h.5 h.6
    ∙ media_read more outer m (folded g (faults_of inside)) c rest h.7 w s
    ∙ ap (λ (o : Option Fault). stepped (state_as outer o) rest)
    (folded_three f (faults_in p) (faults_of inside) (faults_of more))
media_read (Lost p) outer m f c rest h w s = lost_read outer m f p c rest h.0 w h.1 s
media_read (Unclosed p a v) outer m f c rest h w s = absurd w
media_read (UnclosedMedia p a inside) outer m f c rest h w s = absurd w

-- The end of the text.

prelude_rule : (kind : Option AtRule) → rule_of (prelude_frame kind) ≡ 5
prelude_rule None = refl
prelude_rule (Some kinds.Skipped) = refl
prelude_rule (Some kinds.Media) = refl
prelude_rule (Some kinds.Other) = refl

-- what was found in front comes before what is found behind
moved : (os a b fs : List Fault) → Same (os ++ (b ++ (a ++ fs))) (os ++ ((a ++ b) ++ fs))
moved os a b fs = same_turned os a b fs

told_front : (o : Option Fault) (os a b fs : List Fault) → Told o (os ++ (b ++ (a ++ fs))) → Told o (os ++ ((a ++ b) ++ fs))
told_front o os a b fs t = told_same o _ _ (moved os a b fs) t

told_three : (o : Option Fault) (os a b c fs : List Fault) → Told o (os ++ (c ++ (b ++ (a ++ fs))))
    → Told o (os ++ ((a ++ (b ++ c)) ++ fs))
told_three o os a b c fs t = told_front o os a (b ++ c) fs (told_front o os b c (a ++ fs) t)

pub items_tail : (items : Items) (around : Option ℕ) (os : List opens.Open) (f : Option Fault) (fs : List Fault)
    → AreItems around items → Between around os → Told f fs
    → Told (at_end (stepped (state_as os f) (tokens_of items))) (open_faults os ++ (faults_of items ++ fs))
items_tail End around os f fs h b t =
    subst (λ (o : Option Fault). Told o (open_faults os ++ fs)) (sym (left_folded f os)) (folded_told f (open_faults os) fs t)
items_tail (Gap x more) around os f fs h b t =
    let g = fault_of x in
    let found = items_tail more around os (folded f g) (g ++ fs) h.1 b (folded_told f g fs t) in
    subst (λ (u : Brackets). Told (at_end (stepped u (tokens_of more))) (open_faults os ++ ((g ++ faults_of more) ++ fs)))
    (sym (gap_step around os b f x (tokens_of more) h.0))
    (told_front (at_end (stepped (state_as os (folded f g)) (tokens_of more))) (open_faults os) g (faults_of more) fs found)
items_tail (Block p a v c more) around os f fs h b t =
    let g = folded f (faults_in p) in
    let found = items_tail more around os (folded g (faults_in v)) (faults_in v ++ (faults_in p ++ fs)) h.7 b
    (folded_told g (faults_in v) (faults_in p ++ fs) (folded_told f (faults_in p) fs t)) in
    subst (λ (u : Brackets). Told (at_end u) (open_faults os ++ ((faults_in p ++ (faults_in v ++ faults_of more)) ++ fs)))
    (sym (block_read around os f p a v c (tokens_of more) b h.0 h.1 h.2 h.3 h.4 h.5 h.6))
    (told_three (at_end (stepped (state_as os (folded g (faults_in v))) (tokens_of more))) (open_faults os) (faults_in p)
    (faults_in v) (faults_of more) fs found)
items_tail (Ended p x more) around os f fs h b t =
    let g = folded f (faults_in p) in
    let found = items_tail more around os g (faults_in p ++ fs) h.4 b (folded_told f (faults_in p) fs t) in
    subst (λ (u : Brackets). Told (at_end u) (open_faults os ++ ((faults_in p ++ faults_of more) ++ fs)))
    (sym (ended_read around os f p x (tokens_of more) b h.0 h.1 h.2 h.3))
    (told_front (at_end (stepped (state_as os g) (tokens_of more))) (open_faults os) (faults_in p) (faults_of more) fs found)
items_tail (Media p a inside c more) around os f fs h b t =
    let g = folded f (faults_in p) in
    let i = faults_of inside in
    let found = items_tail more around os (folded g i) (i ++ (faults_in p ++ fs)) h.7 b
    (folded_told g i (faults_in p ++ fs) (folded_told f (faults_in p) fs t)) in
    let steps = enter_media around os f p a (tokens_of inside ++ (c ∷ tokens_of more)) b h.0 h.1 h.2 h.3
    ∙ media_read inside os a.at g c (tokens_of more) h.4 h.5 h.6 in
    subst (λ (u : Brackets). Told (at_end u) (open_faults os ++ ((faults_in p ++ (i ++ faults_of more)) ++ fs))) (sym steps)
    (told_three (at_end (stepped (state_as os (folded g i)) (tokens_of more))) (open_faults os) (faults_in p) i (faults_of more)
    fs found)
items_tail (Lost p) around os f fs h b t =
    let at = offset_of (written p) in
    let k = kind_of (written p) in
    let o = prelude_open p in
    let g = fault_as at 5 in
    let found = tail_step p around (is_stop k) (os ++ o ∷ []) f fs h.0.are (between_kinds around os b) h.0.apart
    (quiet_prelude around os at k b) t in
    let begun : stepped (state_as os f) (written p) ≡ stepped (state_as (os ++ o ∷ []) f) (written p) =
    ap (stepped (state_as os f)) (sym (append-nil (written p))) ∙ begin around os f p [] b h.0 h.1 refl
    ∙ ap (stepped (state_as (os ++ o ∷ []) f)) (append-nil (written p)) in
    let lists : open_faults (os ++ o ∷ []) ++ (faults_in p ++ fs) ≡ open_faults os ++ ((g ∷ []) ++ (faults_in p ++ fs)) =
    ap (λ (x : List Fault). x ++ (faults_in p ++ fs))
    (open_append os o ∙ ap (λ (r : ℕ). open_faults os ++ fault_as at r ∷ []) (prelude_rule k))
    ∙ append_assoc (open_faults os) (g ∷ []) (faults_in p ++ fs) in
    subst (λ (u : Brackets). Told (at_end u) (open_faults os ++ ((faults_in p ++ g ∷ []) ++ fs))) (sym begun)
    (told_front (at_end (stepped (state_as (os ++ o ∷ []) f) (written p))) (open_faults os) (faults_in p) (g ∷ []) fs
    (subst (Told (at_end (stepped (state_as (os ++ o ∷ []) f) (written p)))) lists found))
items_tail (Unclosed p a v) around os f fs h b t =
    let o = bracket_as a.at 125 in
    let g = folded f (faults_in p) in
    let k = fault_as a.at 4 in
    let found = tail_step v (Some 125) nothing_stops (os ++ o ∷ []) g (faults_in p ++ fs) h.4 refl (have_none v)
    (quiet_bracket os a.at 125) (folded_told f (faults_in p) fs t) in
    let lists : open_faults (os ++ o ∷ []) ++ (faults_in v ++ (faults_in p ++ fs))
    ≡ open_faults os ++ ((k ∷ faults_in v) ++ (faults_in p ++ fs)) =
    ap (λ (x : List Fault). x ++ (faults_in v ++ (faults_in p ++ fs))) (open_append os o)
    ∙ append_assoc (open_faults os) (k ∷ []) (faults_in v ++ (faults_in p ++ fs)) in
    subst (λ (u : Brackets). Told (at_end u) (open_faults os ++ ((faults_in p ++ (k ∷ faults_in v)) ++ fs)))
    (sym (enter_values around os f p a (written v) b h.0 h.1 h.2 h.3))
    (told_front (at_end (stepped (state_as (os ++ o ∷ []) g) (written v))) (open_faults os) (faults_in p) (k ∷ faults_in v) fs
    (subst (Told (at_end (stepped (state_as (os ++ o ∷ []) g) (written v)))) lists found))
items_tail (UnclosedMedia p a inside) around os f fs h b t =
    let o = media_open a.at in
    let g = folded f (faults_in p) in
    let k = fault_as a.at 4 in
    let i = faults_of inside in
    let found = items_tail inside (Some 125) (os ++ o ∷ []) g (faults_in p ++ fs) h.4 (inr (os, a.at, refl, refl))
    (folded_told f (faults_in p) fs t) in
    let lists : open_faults (os ++ o ∷ []) ++ (i ++ (faults_in p ++ fs)) ≡ open_faults os ++ ((k ∷ i) ++ (faults_in p ++ fs)) =
    ap (λ (x : List Fault). x ++ (i ++ (faults_in p ++ fs))) (open_append os o)
    ∙ append_assoc (open_faults os) (k ∷ []) (i ++ (faults_in p ++ fs)) in
    subst (λ (u : Brackets). Told (at_end u) (open_faults os ++ ((faults_in p ++ (k ∷ i)) ++ fs)))
    (sym (enter_media around os f p a (tokens_of inside) b h.0 h.1 h.2 h.3))
    (told_front (at_end (stepped (state_as (os ++ o ∷ []) g) (tokens_of inside))) (open_faults os) (faults_in p) (k ∷ i) fs
    (subst (Told (at_end (stepped (state_as (os ++ o ∷ []) g) (tokens_of inside)))) lists found))

-- the first fault of a sheet is the one that is found
pub sheet_told : (items : Items) → AreItems None items → Told (sheet_fault (tokens_of items)) (faults_of items)
sheet_told items h = told_same (sheet_fault (tokens_of items)) (faults_of items ++ []) (faults_of items)
    (append_none (faults_of items)) (items_tail items None [] None [] h (inl (refl, refl)) (λ f a. a))
