-- A stack, its innermost element and the rest.
use Rattle.std.proofs.Common.{◌≡◌, ℕ, ◌+◌, ◌-◌, ◌<◌, List, [], ◌∷◌, ◌++◌, length, take, get_or, Option, Some, None, Bool, true}
use Rattle.std.proofs.Common.{false, Result, Ok, refl, sym, ap, subst, ◌∙◌, arith}
use Rattle.std.specs.Prelude.{IsSome}
use Rattle.std.specs.Option.{option_to_list}
use Rattle.std.proofs.lemmas.List.{take_more, take_all, reverse-append, length-reverse}
use Rattle.html_grammar.specs.declared.stage.Open.{Open}
use Rattle.mc_base.specs.declared.read_error.Fault.{Fault}
use Rattle.mc_base.specs.declared.read_error.ReadError.{ReadError}
use Rattle.mc_base.specs.Reading.{fault}
use Rattle.html_subset.specs.Gives.{Gives}
use Rattle.html_grammar.specs.Names.{same, omits, closes}
use Rattle.html_grammar.specs.Machine.{without, drop_closed, all_omit}
use Rattle.html_subset.specs.Stack.{stack_of, closed_on_top}

pub stack_push : (xs : List Open) (o : Open) → stack_of (xs ++ o ∷ []) ≡ o ∷ stack_of xs
unfolding stack_of
stack_push xs o = reverse-append xs (o ∷ [])

-- by the index of the last
pub stack_top : (xs : List Open) (n : ℕ) (d : Open) → n ≡ length xs → 0 < n
    → stack_of xs ≡ get_or xs (n - 1) d ∷ stack_of (take (n - 1) xs)
stack_top xs n d e h =
    let k : n - 1 + 1 ≡ n = omega arith in
    let whole : xs ≡ take (n - 1) xs ++ get_or xs (n - 1) d ∷ [] = sym (take_all n xs (omega arith))
    ∙ ap (λ (m : ℕ). take m xs) (sym k) ∙ take_more xs (n - 1) d (omega arith) in
    ap stack_of whole ∙ stack_push (take (n - 1) xs) (get_or xs (n - 1) d)

pub stack_none : (xs : List Open) → length xs ≡ 0 → stack_of xs ≡ []
unfolding stack_of
stack_none [] h = refl
stack_none (x ∷ xs) h = absurd (omega arith)

pub length_stack : (xs : List Open) → length (stack_of xs) ≡ length xs
unfolding stack_of
length_stack xs = length-reverse xs

pub found_on_top : (at : ℕ) (m : List ℕ) (html : Bool) (xs ys : List Open) (o : Open) → stack_of xs ≡ o ∷ stack_of ys
    → same m o.name ≡ true → without at m html (stack_of xs) ≡ Ok (stack_of ys, html)
found_on_top at m html xs ys o top is = rw (top, is) refl

pub stopped_on_top : (at : ℕ) (m : List ℕ) (html : Bool) (xs ys : List Open) (o : Open) → stack_of xs ≡ o ∷ stack_of ys
    → same m o.name ≡ false → omits o.name ≡ false → without at m html (stack_of xs) ≡ fault at 6
stopped_on_top at m html xs ys o top is full = rw (top, is, full) refl

pub passed_on_top : (at : ℕ) (m : List ℕ) (html : Bool) (xs ys : List Open) (o : Open) → stack_of xs ≡ o ∷ stack_of ys
    → same m o.name ≡ false → omits o.name ≡ true → without at m html (stack_of ys) ≡ without at m html (stack_of xs)
passed_on_top at m html xs ys o top is may = rw (top, is, may) refl

-- at the bottom stands html
pub at_bottom_gives : (r : Result Bool (ReadError Fault)) (at : ℕ) (m : List ℕ) (html : Bool) (xs ys : List Open)
    (total : Result (List Open × Bool) Fault) → length xs ≡ 0 → length ys ≡ 0
    → without at m html (stack_of xs) ≡ total → Gives (λ left. ([], left)) r (without at m html [])
    → Gives (λ left. (stack_of ys, left)) r total
at_bottom_gives r at m html xs ys total h k so_far gives =
    let e : without at m html [] ≡ total = ap (without at m html) (sym (stack_none xs h)) ∙ so_far in
    subst (λ (os : List Open). Gives (λ left. (os, left)) r total) (sym (stack_none ys k))
    (subst (λ (f : Result (List Open × Bool) Fault). Gives (λ left. ([], left)) r f) e gives)

-- a stack on whose top something is closed is not empty, and the closing goes on below it
abbrev Drops : List ℕ → List Open → List Open → Type 0
Drops m whole below = drop_closed m below ≡ drop_closed m whole

drops_top : (m : List ℕ) (o : Open) (os : List Open) → closes m o.name ≡ true → Drops m (o ∷ os) os
drops_top m o os h = rw h refl

pub some_on_top : (m : List ℕ) (xs : List Open) → closed_on_top m (stack_of xs) ≡ true → 0 < length xs
some_on_top m [] h = let none = stack_none [] refl in absurd (let e : closed_on_top m [] ≡ true = rw none at h in cc)
some_on_top m (x ∷ xs) h = omega arith

pub dropped_below : (m : List ℕ) (xs ys : List Open) (o : Open) → stack_of xs ≡ o ∷ stack_of ys
    → closed_on_top m (stack_of xs) ≡ true → drop_closed m (stack_of ys) ≡ drop_closed m (stack_of xs)
dropped_below m xs ys o top h = let e : closes m o.name ≡ true = rw top at h in rw top (drops_top m o (stack_of ys) e)

pub popped : (m : List ℕ) (xs ys : List Open) (r : Option Open) → IsSome r → xs ≡ ys ++ option_to_list r
    → closed_on_top m (stack_of xs) ≡ true → drop_closed m (stack_of ys) ≡ drop_closed m (stack_of xs)
popped m xs ys None some e h = absurd cc
popped m xs ys (Some o) some e h = dropped_below m xs ys o (ap stack_of e ∙ stack_push ys o) h

pub is_shorter : (k n : ℕ) (r : Option Open) → IsSome r → k + length (option_to_list r) ≡ n → k < n
is_shorter k n None some e = absurd cc
is_shorter k n (Some o) some e = omega arith

pub all_omit_top : (xs ys : List Open) (o : Open) → stack_of xs ≡ o ∷ stack_of ys → omits o.name ≡ true
    → all_omit (stack_of ys) ≡ all_omit (stack_of xs)
all_omit_top xs ys o top h = rw (top, h) refl

pub not_all_omit : (xs ys : List Open) (o : Open) → stack_of xs ≡ o ∷ stack_of ys → omits o.name ≡ false
    → all_omit (stack_of xs) ≡ false
not_all_omit xs ys o top h = rw (top, h) refl

pub all_omit_none : (xs : List Open) → length xs ≡ 0 → all_omit (stack_of xs) ≡ true
all_omit_none xs h = rw (stack_none xs h) refl
