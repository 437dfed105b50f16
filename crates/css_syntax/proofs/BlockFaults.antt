-- The first fault of component values is the one that is found, and all tokens are values.
use Rattle.std.proofs.Common.{◌≡◌, ℕ, ◌-◌, List, [], ◌∷◌, ◌++◌, map, take, length, Bool, true, false, cond, ◌||◌}
use Rattle.std.proofs.Common.{refl, sym, ap, subst, ◌∙◌, append_assoc, arith, length-append, inl, inr}
use Rattle.std.specs.Prelude.{◌⊎◌, ◌==◌, Option, Some, None, slice_get}
use Rattle.std.proofs.lemmas.Bool.{eqb-true}
use Rattle.css_tokens.specs.declared.lexeme.Fault.{Fault}
use Rattle.css_tokens.specs.declared.lexeme.Lexeme.{Lexeme}
use Rattle.css_tokens.specs.declared.lexeme.Symbol.{Symbol}
use Rattle.css_tokens.specs.declared.lexeme.Symbol.TheVariants.{Ident, Hash, Quoted, Number, Percent, Dimension, Function, Delim}
use Rattle.css_tokens.specs.declared.lexeme.Symbol.TheVariants.{Space, Broken}
use Rattle.css_tokens.specs.Facts.{delim_in, is_this, is_delim, is_closer, closer, closer_in, closer_of, broken_in, broken_of}
use Rattle.css_tokens.specs.Facts.{sign_of}
use Rattle.css_laws.specs.Values.{Values, Nil, One, Closed, Open, written, IsWhole, closes_around, AreValues, fault_by, fault_of}
use Rattle.css_laws.specs.Values.{faults_in, Among}
use Rattle.css_syntax.specs.declared.brackets.Brackets.{Brackets}
use Rattle.css_syntax.specs.declared.brackets.Frame.TheVariants as frames
use Rattle.css_syntax.specs.declared.brackets.Open as opens
use Rattle.css_syntax.specs.Opens.{innermost, popped}
use Rattle.css_syntax.specs.Brackets.{first_fault, with_fault, closed, closes, closing_step, unbroken_step, bracket_by}
use Rattle.css_syntax.specs.Brackets.{bracket_step, rule_of, left_open, at_end, nothing_open, bracketed, block_fault}
use Rattle.css_syntax.proofs.Folding.{fault_as, Same, Told, told_same, told_more, in_front, behind, either, same_swap}
use Rattle.css_syntax.proofs.Folding.{same_itself}

-- What is open.

one_less : (os : List opens.Open) (o : opens.Open) → length (os ++ o ∷ []) - 1 ≡ length os
one_less os o = let l = length-append os (o ∷ []) in omega (arith, l)

pub innermost_push : (os : List opens.Open) (o : opens.Open) → innermost (os ++ o ∷ []) ≡ Some o
innermost_push os o = ap (λ (n : ℕ). slice_get (os ++ o ∷ []) n) (one_less os o) ∙ last_of os
  where
    last_of : (os : List opens.Open) → slice_get (os ++ o ∷ []) (length os) ≡ Some o
    last_of [] = refl
    last_of (p ∷ os) = last_of os

pub popped_push : (os : List opens.Open) (o : opens.Open) → popped (os ++ o ∷ []) ≡ os
popped_push os o = ap (λ (n : ℕ). take n (os ++ o ∷ [])) (one_less os o) ∙ front_of os
  where
    front_of : (os : List opens.Open) → take (length os) (os ++ o ∷ []) ≡ os
    front_of [] = refl
    front_of (p ∷ os) = ap (λ (x : List opens.Open). p ∷ x) (front_of os)

-- what is open closes what the bracket around closes
abbrev pub Matches : Option ℕ → List opens.Open → Type 0
Matches around os = (x : Lexeme) → closes (innermost os) x ≡ closes_around around x

abbrev pub bracket_as : ℕ → ℕ → opens.Open
bracket_as at c = record { at = at; frame = frames.Bracket c }

pub matches_push : (os : List opens.Open) (at c : ℕ) → Matches (Some c) (os ++ bracket_as at c ∷ [])
matches_push os at c = λ x. ap (λ (o : Option opens.Open). closes o x) (innermost_push os (bracket_as at c))

-- Faults one after the other.

abbrev pub folded : Option Fault → List Fault → Option Fault
folded o [] = o
folded o (f ∷ fs) = folded (first_fault o f) fs

pub folded_append : (o : Option Fault) (fs gs : List Fault) → folded o (fs ++ gs) ≡ folded (folded o fs) gs
folded_append o [] gs = refl
folded_append o (f ∷ fs) gs = folded_append (first_fault o f) fs gs

abbrev pub state_as : List opens.Open → Option Fault → Brackets
state_as os o = record { opens = os; fault = o }

abbrev pub after : Brackets → List Fault → Brackets
after s fs = state_as s.opens (folded s.fault fs)

-- Signs.

pub not_broken : (x : Lexeme) (c : ℕ) → closer_of x ≡ Some c → broken_of x ≡ None
not_broken x c h = by_symbol x.symbol h
  where
    by_symbol : (y : Symbol) → closer_in y ≡ Some c → broken_in y ≡ None
    by_symbol (Ident text) h = refl
    by_symbol (Hash text) h = refl
    by_symbol (Quoted text) h = refl
    by_symbol (Number digits) h = refl
    by_symbol (Percent digits) h = refl
    by_symbol (Dimension digits unit) h = refl
    by_symbol (Function name paren) h = refl
    by_symbol (Delim d) h = refl
    by_symbol Space h = refl
    by_symbol (Broken rule) h = absurd cc

pub is_symbol : (x : Lexeme) (c : ℕ) → is_delim c x ≡ true → x.symbol ≡ Delim c
is_symbol x c h = by_symbol x.symbol h
  where
    by_symbol : (y : Symbol) → is_this c (delim_in y) ≡ true → y ≡ Delim c
    by_symbol (Ident text) h = absurd cc
    by_symbol (Hash text) h = absurd cc
    by_symbol (Quoted text) h = absurd cc
    by_symbol (Number digits) h = absurd cc
    by_symbol (Percent digits) h = absurd cc
    by_symbol (Dimension digits unit) h = absurd cc
    by_symbol (Function name paren) h = absurd cc
    by_symbol (Delim d) h = ap Delim (eqb-true d c h)
    by_symbol Space h = absurd cc
    by_symbol (Broken rule) h = absurd cc

abbrev pub is_kind : ℕ → Bool
is_kind c = (c == 41) || ((c == 93) || (c == 125))

kinds : (c : ℕ) → (d : ℕ) → closer d ≡ Some c → (closer c ≡ None) × (is_kind c ≡ true)
kinds c d h = by_round (d == 40) h
  where
    is_this_kind : (k : ℕ) → closer k ≡ None → is_kind k ≡ true → Some k ≡ Some c → (closer c ≡ None) × (is_kind c ≡ true)
    is_this_kind k a b e = let same : c ≡ k = cc in (ap closer same ∙ a, ap is_kind same ∙ b)

    by_curly : (b : Bool) → cond b (Some 125) None ≡ Some c → (closer c ≡ None) × (is_kind c ≡ true)
    by_curly true e = is_this_kind 125 refl refl e
    by_curly false e = absurd cc

    by_square : (b : Bool) → cond b (Some 93) (cond (d == 123) (Some 125) None) ≡ Some c → (closer c ≡ None) × (is_kind c ≡ true)
    by_square true e = is_this_kind 93 refl refl e
    by_square false e = by_curly (d == 123) e

    by_round : (b : Bool) → cond b (Some 41) (cond (d == 91) (Some 93) (cond (d == 123) (Some 125) None)) ≡ Some c
        → (closer c ≡ None) × (is_kind c ≡ true)
    by_round true e = is_this_kind 41 refl refl e
    by_round false e = by_square (d == 91) e

pub kind_of_closer : (x : Lexeme) (c : ℕ) → closer_of x ≡ Some c → (closer c ≡ None) × (is_kind c ≡ true)
kind_of_closer x c h = by_symbol x.symbol h
  where
    by_symbol : (y : Symbol) → closer_in y ≡ Some c → (closer c ≡ None) × (is_kind c ≡ true)
    by_symbol (Ident text) h = absurd cc
    by_symbol (Hash text) h = absurd cc
    by_symbol (Quoted text) h = absurd cc
    by_symbol (Number digits) h = absurd cc
    by_symbol (Percent digits) h = absurd cc
    by_symbol (Dimension digits unit) h = absurd cc
    by_symbol (Function name paren) h = let same : c ≡ 41 = cc in (ap closer same, ap is_kind same)
    by_symbol (Delim d) h = kinds c d h
    by_symbol Space h = absurd cc
    by_symbol (Broken rule) h = absurd cc

-- a closing sign of a bracket
pub record Sign (b : Lexeme) : Type 0 where
  pub sound : broken_of b ≡ None
  pub opens_none : closer_of b ≡ None
  pub closer : is_closer b ≡ true

pub closing_sign : (a b : Lexeme) (c : ℕ) → closer_of a ≡ Some c → is_delim c b ≡ true → Sign b
closing_sign a b c h d =
    let e = is_symbol b c d in
    let k = kind_of_closer a c h in
    record {
      sound = ap broken_in e;
      opens_none = ap closer_in e ∙ k.0;
      closer = ap (λ (y : Symbol). is_this 41 (delim_in y) || (is_this 93 (delim_in y) || is_this 125 (delim_in y))) e ∙ k.1;
    }

-- Steps.

pub step_plain : (s : Brackets) (x : Lexeme) → closes (innermost s.opens) x ≡ false → closer_of x ≡ None
    → bracket_step s x ≡ after s (fault_of x)
unfolding bracket_step
step_plain s x no_close none = by_broken (broken_of x)
  where
    by_closer : (b : Bool) → cond b (closing_step s x) s ≡ after s (cond b (fault_as x.at 4 ∷ []) [])
    by_closer true = ap (λ (b : Bool). cond b (closed s) (with_fault s x.at 4)) no_close
    by_closer false = refl

    by_broken : (o : Option ℕ) → bracket_by s x o ≡ after s (fault_by x o)
    by_broken (Some rule) = refl
    by_broken None = ap (unbroken_step s x) none ∙ by_closer (is_closer x)

step_one : (s : Brackets) (x : Lexeme) (around : Option ℕ) → Matches around s.opens → closer_of x ≡ None
    → closes_around around x ≡ false → bracket_step s x ≡ after s (fault_of x)
step_one s x around m none closes_none = step_plain s x (m x ∙ closes_none) none

pub step_open : (s : Brackets) (x : Lexeme) (c : ℕ) → closer_of x ≡ Some c
    → bracket_step s x ≡ state_as (s.opens ++ bracket_as (sign_of x) c ∷ []) s.fault
unfolding bracket_step
step_open s x c h = ap (bracket_by s x) (not_broken x c h) ∙ ap (unbroken_step s x) h

pub step_close : (os : List opens.Open) (o : Option Fault) (at c : ℕ) (b : Lexeme) → Sign b → is_delim c b ≡ true
    → bracket_step (state_as (os ++ bracket_as at c ∷ []) o) b ≡ state_as os o
unfolding bracket_step
step_close os o at c b sign d =
    let s = state_as (os ++ bracket_as at c ∷ []) o in
    ap (bracket_by s b) sign.sound ∙ ap (unbroken_step s b) sign.opens_none
    ∙ ap (λ (x : Bool). cond x (closing_step s b) s) sign.closer
    ∙ ap (λ (x : Bool). cond x (closed s) (with_fault s b.at 4)) (matches_push os at c b ∙ d)
    ∙ ap (λ (x : List opens.Open). state_as x o) (popped_push os (bracket_as at c))

-- Values in which nothing stays open leave what is open, and add their faults.
pub whole_read : (vs : Values) (around : Option ℕ) (s : Brackets) (rest : List Lexeme) → AreValues around vs → IsWhole vs
    → Matches around s.opens
    → bracketed s (written vs ++ rest) ≡ bracketed (after s (faults_in vs)) rest
whole_read Nil around s rest h w m = refl
whole_read (One x more) around s rest h w m =
    ap (λ (t : Brackets). bracketed t (written more ++ rest)) (step_one s x around m h.0 h.1)
    ∙ whole_read more around (after s (fault_of x)) rest h.2 w m
    ∙ ap (λ (f : Option Fault). bracketed (state_as s.opens f) rest) (sym (folded_append s.fault (fault_of x) (faults_in more)))
whole_read (Closed a inside b more) around s rest h w m =
    let c = h.0 in
    let inner = state_as (s.opens ++ bracket_as (sign_of a) c ∷ []) s.fault in
    let sign = closing_sign a b c h.1 h.4 in
    let tail = written more ++ rest in
    ap (λ (x : List Lexeme). bracketed s (a ∷ x)) (append_assoc (written inside) (b ∷ written more) rest)
    ∙ ap (λ (t : Brackets). bracketed t (written inside ++ (b ∷ tail))) (step_open s a c h.1)
    ∙ whole_read inside (Some c) inner (b ∷ tail) h.2 h.3 (matches_push s.opens (sign_of a) c)
    ∙ ap (λ (t : Brackets). bracketed t tail) (step_close s.opens (folded s.fault (faults_in inside)) (sign_of a) c b sign h.4)
    ∙ whole_read more around (after s (faults_in inside)) rest h.5 w m
    ∙ ap (λ (f : Option Fault). bracketed (state_as s.opens f) rest)
    (sym (folded_append s.fault (faults_in inside) (faults_in more)))
whole_read (Open a inside) around s rest h w m = absurd w

-- What is open at the end.

abbrev pub open_fault : opens.Open → Fault
open_fault o = fault_as o.at (rule_of o.frame)

abbrev pub open_faults : List opens.Open → List Fault
open_faults os = map open_fault os

pub left_folded : (o : Option Fault) (os : List opens.Open) → left_open o os ≡ folded o (open_faults os)
left_folded o [] = refl
left_folded o (p ∷ os) = left_folded (first_fault o (open_fault p)) os

pub open_append : (os : List opens.Open) (o : opens.Open) → open_faults (os ++ o ∷ []) ≡ open_faults os ++ open_fault o ∷ []
open_append [] o = refl
open_append (p ∷ os) o = ap (λ (x : List Fault). open_fault p ∷ x) (open_append os o)

same_middle : (fs : List Fault) (g : Fault) (gs : List Fault) → Same (fs ++ (g ∷ gs)) (g ∷ (fs ++ gs))
same_middle fs g gs = record { there = λ f a. there f (either f fs (g ∷ gs) a); back = λ f a. back f a }
  where
    there : (f : Fault) → Among f fs ⊎ Among f (g ∷ gs) → Among f (g ∷ (fs ++ gs))
    there f (inl a) = inr (in_front f fs gs a)
    there f (inr (inl e)) = inl e
    there f (inr (inr a)) = inr (behind f fs gs a)

    back_more : (f : Fault) → Among f fs ⊎ Among f gs → Among f (fs ++ (g ∷ gs))
    back_more f (inl a) = in_front f fs (g ∷ gs) a
    back_more f (inr a) = behind f fs (g ∷ gs) (inr a)

    back : (f : Fault) → (f ≡ g) ⊎ Among f (fs ++ gs) → Among f (fs ++ (g ∷ gs))
    back f (inl e) = behind f fs (g ∷ gs) (inl e)
    back f (inr a) = back_more f (either f fs gs a)

pub folded_told : (o : Option Fault) (gs fs : List Fault) → Told o fs → Told (folded o gs) (gs ++ fs)
folded_told o [] fs h = h
folded_told o (g ∷ gs) fs h = told_same (folded (first_fault o g) gs) (gs ++ (g ∷ fs)) (g ∷ (gs ++ fs)) (same_middle gs g fs)
    (folded_told (first_fault o g) gs (g ∷ fs) (told_more o g fs h))

pub same_parts : (a b c d : List Fault) → Same a b → Same c d → Same (a ++ c) (b ++ d)
same_parts a b c d s t = record { there = λ f x. there f (either f a c x); back = λ f x. back f (either f b d x) }
  where
    there : (f : Fault) → Among f a ⊎ Among f c → Among f (b ++ d)
    there f (inl x) = in_front f b d (s.there f x)
    there f (inr x) = behind f b d (t.there f x)

    back : (f : Fault) → Among f b ⊎ Among f d → Among f (a ++ c)
    back f (inl x) = in_front f a c (s.back f x)
    back f (inr x) = behind f a c (t.back f x)

-- faults found before, in the other order
pub same_turned : (os a b fs : List Fault) → Same (os ++ (b ++ (a ++ fs))) (os ++ ((a ++ b) ++ fs))
same_turned os a b fs = same_parts os os (b ++ (a ++ fs)) ((a ++ b) ++ fs) (same_itself os)
    (subst (λ (x : List Fault). Same x ((a ++ b) ++ fs)) (append_assoc b a fs)
    (same_parts (b ++ a) (a ++ b) fs fs (same_swap b a) (same_itself fs)))

-- all of what is open, what was found before, and what is at fault in the values is told
pub tail_read : (vs : Values) (around : Option ℕ) (s : Brackets) (fs : List Fault) → AreValues around vs → Matches around s.opens
    → Told s.fault fs
    → Told (at_end (bracketed s (written vs))) (open_faults s.opens ++ (faults_in vs ++ fs))
tail_read Nil around s fs h m t =
    subst (λ (o : Option Fault). Told o (open_faults s.opens ++ fs)) (sym (left_folded s.fault s.opens))
    (folded_told s.fault (open_faults s.opens) fs t)
tail_read (One x more) around s fs h m t =
    let f = fault_of x in
    let found = tail_read more around (after s f) (f ++ fs) h.2 m (folded_told s.fault f fs t) in
    let step = step_one s x around m h.0 h.1 in
    subst (λ (u : Brackets). Told (at_end (bracketed u (written more))) (open_faults s.opens ++ ((f ++ faults_in more) ++ fs)))
    (sym step)
    (told_same (at_end (bracketed (after s f) (written more))) _ _ (same_turned (open_faults s.opens) f (faults_in more) fs)
    found)
tail_read (Closed a inside b more) around s fs h m t =
    let c = h.0 in
    let f = faults_in inside in
    let inner = state_as (s.opens ++ bracket_as (sign_of a) c ∷ []) s.fault in
    let sign = closing_sign a b c h.1 h.4 in
    let found = tail_read more around (after s f) (f ++ fs) h.5 m (folded_told s.fault f fs t) in
    let step : bracketed s (a ∷ (written inside ++ (b ∷ written more))) ≡ bracketed (after s f) (written more) =
    ap (λ (u : Brackets). bracketed u (written inside ++ (b ∷ written more))) (step_open s a c h.1)
    ∙ whole_read inside (Some c) inner (b ∷ written more) h.2 h.3 (matches_push s.opens (sign_of a) c)
    ∙ ap (λ (u : Brackets). bracketed u (written more)) (step_close s.opens (folded s.fault f) (sign_of a) c b sign h.4) in
    subst (λ (u : Brackets). Told (at_end u) (open_faults s.opens ++ ((f ++ faults_in more) ++ fs))) (sym step)
    (told_same (at_end (bracketed (after s f) (written more))) _ _ (same_turned (open_faults s.opens) f (faults_in more) fs)
    found)
tail_read (Open a inside) around s fs h m t =
    let c = h.0 in
    let o = bracket_as (sign_of a) c in
    let g = fault_as (sign_of a) 4 in
    let found = tail_read inside (Some c) (state_as (s.opens ++ o ∷ []) s.fault) fs h.2 (matches_push s.opens (sign_of a) c) t in
    let lists : open_faults (s.opens ++ o ∷ []) ++ (faults_in inside ++ fs)
    ≡ open_faults s.opens ++ ((g ∷ faults_in inside) ++ fs) =
    ap (λ (x : List Fault). x ++ (faults_in inside ++ fs)) (open_append s.opens o)
    ∙ append_assoc (open_faults s.opens) (g ∷ []) (faults_in inside ++ fs) in
    subst (λ (u : Brackets). Told (at_end (bracketed u (written inside))) (open_faults s.opens ++ ((g ∷ faults_in inside) ++ fs)))
    (sym (step_open s a c h.1))
    (subst (Told (at_end (bracketed (state_as (s.opens ++ o ∷ []) s.fault) (written inside)))) lists found)

pub append_none : (fs : List Fault) → Same (fs ++ []) fs
append_none fs = record { there = λ f a. there f (either f fs [] a); back = λ f a. in_front f fs [] a }
  where
    there : (f : Fault) → Among f fs ⊎ Among f [] → Among f fs
    there f (inl a) = a
    there f (inr a) = absurd a

-- the first fault of a block is the one that is found
pub block_told : (vs : Values) → AreValues None vs → Told (block_fault (written vs)) (faults_in vs)
block_told vs h = told_same (block_fault (written vs)) (faults_in vs ++ []) (faults_in vs) (append_none (faults_in vs))
    (tail_read vs None nothing_open [] h (λ x. refl) (λ f a. a))

-- All tokens are values.

abbrev around_of : List ℕ → Option ℕ
around_of [] = None
around_of (c ∷ cs) = Some c

-- how tokens go on where brackets are open, the innermost first
abbrev Rest : List ℕ → List Lexeme → Type 0
Rest [] xs = (vs : Values) × AreValues None vs × (written vs ≡ xs)
Rest (c ∷ cs) xs = (vs : Values) × AreValues (Some c) vs
    × ((written vs ≡ xs) ⊎ (IsWhole vs × (b : Lexeme) × (more : List Lexeme) × (xs ≡ written vs ++ (b ∷ more))
    × (is_delim c b ≡ true) × Rest cs more))

-- with something in front
grow : (cs : List ℕ) (front xs : List Lexeme) (g : Values → Values) → ((ws : Values) → written (g ws) ≡ front ++ written ws)
    → ((ws : Values) → AreValues (around_of cs) ws → AreValues (around_of cs) (g ws))
    → ((ws : Values) → IsWhole ws → IsWhole (g ws)) → Rest cs xs → Rest cs (front ++ xs)
grow [] front xs g eq keeps whole r = (g r.0, keeps r.0 r.1, eq r.0 ∙ ap (λ (y : List Lexeme). front ++ y) r.2)
grow (c ∷ cs) front xs g eq keeps whole r = (g r.0, keeps r.0 r.1, by_end r.2)
  where
    by_end : (written r.0 ≡ xs) ⊎ (IsWhole r.0 × (b : Lexeme) × (more : List Lexeme) × (xs ≡ written r.0 ++ (b ∷ more))
        × (is_delim c b ≡ true) × Rest cs more)
        → (written (g r.0) ≡ front ++ xs)
        ⊎ (IsWhole (g r.0) × (b : Lexeme) × (more : List Lexeme) × (front ++ xs ≡ written (g r.0) ++ (b ∷ more))
        × (is_delim c b ≡ true) × Rest cs more)
    by_end (inl e) = inl (eq r.0 ∙ ap (λ (y : List Lexeme). front ++ y) e)
    by_end (inr e) = inr (
      whole r.0 e.0,
      e.1,
      e.2,
      ap (λ (y : List Lexeme). front ++ y) e.3 ∙ sym (append_assoc front (written r.0) (e.1 ∷ e.2))
          ∙ ap (λ (y : List Lexeme). y ++ (e.1 ∷ e.2)) (sym (eq r.0)),
      e.4,
      e.5,
    )

with_open : (cs : List ℕ) (x : Lexeme) (k : ℕ) (xs : List Lexeme) (vs : Values) → closer_of x ≡ Some k → AreValues (Some k) vs
    → written vs ≡ xs → Rest cs (x ∷ xs)
with_open [] x k xs vs e are w = (Open x vs, (k, e, are), ap (λ (y : List Lexeme). x ∷ y) w)
with_open (c ∷ cs) x k xs vs e are w = (Open x vs, (k, e, are), inl (ap (λ (y : List Lexeme). x ∷ y) w))

with_one : (cs : List ℕ) (x : Lexeme) (xs : List Lexeme) → closer_of x ≡ None → closes_around (around_of cs) x ≡ false
    → Rest cs xs → Rest cs (x ∷ xs)
with_one cs x xs e n r = grow cs (x ∷ []) xs (One x) (λ ws. refl) (λ ws are. (e, n, are)) (λ ws w. w) r

with_closed : (cs : List ℕ) (x : Lexeme) (k : ℕ) (xs : List Lexeme) (vs : Values) (b : Lexeme) (more : List Lexeme)
    → closer_of x ≡ Some k → AreValues (Some k) vs → IsWhole vs
    → xs ≡ written vs ++ (b ∷ more) → is_delim k b ≡ true → Rest cs more → Rest cs (x ∷ xs)
with_closed cs x k xs vs b more e are whole w d r =
    let front = x ∷ (written vs ++ b ∷ []) in
    let grown = grow cs front more (Closed x vs b)
    (λ ws. ap (λ (y : List Lexeme). x ∷ y) (sym (append_assoc (written vs) (b ∷ []) (written ws))))
    (λ ws a. (k, e, are, whole, d, a)) (λ ws a. a) r in
    subst (Rest cs) (ap (λ (y : List Lexeme). x ∷ y) (append_assoc (written vs) (b ∷ []) more ∙ sym w)) grown

rest_more : (x : Lexeme) (xs : List Lexeme) → ((cs : List ℕ) → Rest cs xs) → (cs : List ℕ) → Rest cs (x ∷ xs)
rest_more x xs below cs = by_opening (closer_of x) refl
  where
    by_inside : (k : ℕ) → closer_of x ≡ Some k → (r : Rest (k ∷ cs) xs) → Rest cs (x ∷ xs)
    by_inside k e r = by_end r.2
      where
        by_end : (written r.0 ≡ xs) ⊎ (IsWhole r.0 × (b : Lexeme) × (more : List Lexeme) × (xs ≡ written r.0 ++ (b ∷ more))
            × (is_delim k b ≡ true) × Rest cs more) → Rest cs (x ∷ xs)
        by_end (inl w) = with_open cs x k xs r.0 e r.1 w
        by_end (inr w) = with_closed cs x k xs r.0 w.1 w.2 e r.1 w.0 w.3 w.4 w.5

    by_closing : (c : ℕ) (ds : List ℕ) → closer_of x ≡ None → (b : Bool) → is_delim c x ≡ b → Rest (c ∷ ds) (x ∷ xs)
    by_closing c ds e true h = (Nil, tt, inr (tt, x, xs, refl, h, below ds))
    by_closing c ds e false h = with_one (c ∷ ds) x xs e h (below (c ∷ ds))

    by_around : (ds : List ℕ) → closer_of x ≡ None → Rest ds (x ∷ xs)
    by_around [] e = with_one [] x xs e refl (below [])
    by_around (c ∷ ds) e = by_closing c ds e (is_delim c x) refl

    by_opening : (o : Option ℕ) → closer_of x ≡ o → Rest cs (x ∷ xs)
    by_opening (Some k) e = by_inside k e (below (k ∷ cs))
    by_opening None e = by_around cs e

rests : (xs : List Lexeme) (cs : List ℕ) → Rest cs xs
rests [] [] = (Nil, tt, refl)
rests [] (c ∷ cs) = (Nil, tt, inl refl)
rests (x ∷ xs) cs = rest_more x xs (rests xs) cs

pub values_of : (xs : List Lexeme) → (vs : Values) × AreValues None vs × (written vs ≡ xs)
values_of xs = rests xs []
