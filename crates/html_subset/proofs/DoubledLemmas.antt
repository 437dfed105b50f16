-- Names that stand twice, found by the names that stood before.
use Rattle.std.proofs.Common.{◌≡◌, ℕ, suc, ◌+◌, ◌<◌, List, [], ◌∷◌, ◌++◌, length, take, drop, get_or, Bool, true, false, cond}
use Rattle.std.proofs.Common.{◌||◌, Option, Some, is_some, ◌⊎◌, inl, inr, refl, sym, ap, ◌∙◌, drop-cons}
use Rattle.std.specs.Str.{bytes_eq}
use Rattle.std.proofs.Math.Bool.{or-false, or-true}
use Rattle.std.proofs.lemmas.List.{take-append-drop, take_more}
use Rattle.std.proofs.lemmas.Slice.Eq.{bytes_eq-Decides}
use Rattle.std.proofs.lemmas.Bool.Decides.{same_from_decides}
use Rattle.html_grammar.specs.declared.dom.Attribute.{Attribute}
use Rattle.html_grammar.specs.Names.{same}
use Rattle.html_grammar.specs.Lexing.{is_named, is_doubled}

same_sym : (a b : List ℕ) → same a b ≡ same b a
unfolding same
same_sym a b = same_from_decides {P = a ≡ b} (bytes_eq a b) (bytes_eq b a) (bytes_eq-Decides a b)
    (λ e. sym ((bytes_eq-Decides b a).0 e), λ e. (bytes_eq-Decides b a).1 (sym e))

pub same_is : (a b : List ℕ) → same a b ≡ bytes_eq a b
unfolding same
same_is a b = refl

or_assoc : (p q r : Bool) → (p || (q || r)) ≡ ((p || q) || r)
or_assoc true q r = refl
or_assoc false q r = refl

one_of : (p q : Bool) → (p || q) ≡ true → (p ≡ true) ⊎ (q ≡ true)
one_of true q h = inl refl
one_of false q h = inr h

none_of : (p q : Bool) → (p || q) ≡ false → (p ≡ false) × (q ≡ false)
none_of true q h = absurd cc
none_of false q h = (refl, h)

pub named_push : (q : List ℕ) (xs : List Attribute) (a : Attribute) → is_named q (xs ++ a ∷ []) ≡ (is_named q xs || same q a.name)
named_push q [] a = or-false (same q a.name)
named_push q (x ∷ xs) a = ap (λ (b : Bool). same q x.name || b) (named_push q xs a)
    ∙ or_assoc (same q x.name) (is_named q xs) (same q a.name)

named_middle : (q : List ℕ) (xs ys : List Attribute) (a : Attribute) → same q a.name ≡ true → is_named q (xs ++ a ∷ ys) ≡ true
named_middle q [] ys a h = rw h refl
named_middle q (x ∷ xs) ys a h = rw (named_middle q xs ys a h) (or-true (same q x.name))

by_case : (xs ys : List Attribute) (a x : Attribute) → (same a.name x.name ≡ true) ⊎ (is_named a.name xs ≡ true)
    → (is_named a.name xs ≡ true → is_doubled (xs ++ a ∷ ys) ≡ true) → is_doubled (x ∷ (xs ++ a ∷ ys)) ≡ true
by_case xs ys a x (inl e) again = rw (named_middle x.name xs ys a (same_sym x.name a.name ∙ e)) refl
by_case xs ys a x (inr e) again = rw (again e) (or-true (is_named x.name (xs ++ a ∷ ys)))

doubled_later : (xs ys : List Attribute) (a : Attribute) → is_named a.name xs ≡ true → is_doubled (xs ++ a ∷ ys) ≡ true
doubled_later [] ys a h = absurd cc
doubled_later (x ∷ xs) ys a h = by_case xs ys a x (one_of (same a.name x.name) (is_named a.name xs) h) (doubled_later xs ys a)

doubled_push : (xs : List Attribute) (a : Attribute) → is_doubled xs ≡ false → is_named a.name xs ≡ false
    → is_doubled (xs ++ a ∷ []) ≡ false
doubled_push [] a h k = refl
doubled_push (x ∷ xs) a h k =
    let once = none_of (is_named x.name xs) (is_doubled xs) h in
    let other = none_of (same a.name x.name) (is_named a.name xs) k in
    let first : is_named x.name (xs ++ a ∷ []) ≡ false = named_push x.name xs a
    ∙ rw (once.0, same_sym x.name a.name, other.0) refl in
    rw (first, doubled_push xs a once.1 other.1) refl

-- an attribute whose name stood before it
pub doubled_at : (as' : List Attribute) (i : ℕ) (a : Attribute) → i < length as' → a ≡ get_or as' i a
    → is_named a.name (take i as') ≡ true → is_doubled as' ≡ true
doubled_at as' i a lt is h =
    let back : drop i as' ≡ a ∷ drop (suc i) as' = drop-cons as' i a lt ∙ ap (λ (x : Attribute). x ∷ drop (suc i) as') (sym is) in
    let whole : as' ≡ take i as' ++ a ∷ drop (suc i) as' = sym (take-append-drop i as')
    ∙ ap (λ (rest : List Attribute). take i as' ++ rest) back in
    ap is_doubled whole ∙ doubled_later (take i as') (drop (suc i) as') a h

taken_more : (as' : List Attribute) (i : ℕ) (a : Attribute) → i < length as' → a ≡ get_or as' i a
    → take (i + 1) as' ≡ take i as' ++ a ∷ []
taken_more as' i a lt is = take_more as' i a lt ∙ ap (λ (x : Attribute). take i as' ++ x ∷ []) (sym is)

pub still_once : (as' : List Attribute) (i : ℕ) (a : Attribute) → i < length as' → a ≡ get_or as' i a
    → is_doubled (take i as') ≡ false → is_named a.name (take i as') ≡ false → is_doubled (take (i + 1) as') ≡ false
still_once as' i a lt is once new = ap is_doubled (taken_more as' i a lt is) ∙ doubled_push (take i as') a once new

some_update : {X : Type 0} (b : Bool) (o : Option X) (w : X) → is_some (cond b (Some w) o) ≡ (is_some o || b)
some_update true o w = sym (or-true (is_some o))
some_update false o w = sym (or-false (is_some o))

-- the names that stand before the next are those before, and its own
pub names_more : {X : Type 0} (as' : List Attribute) (i : ℕ) (a : Attribute) (q : List ℕ) (old new : Option X) (w : X)
    → i < length as' → a ≡ get_or as' i a
    → is_some old ≡ is_named q (take i as') → new ≡ cond (bytes_eq a.name q) (Some w) old
    → is_some new ≡ is_named q (take (i + 1) as')
names_more as' i a q old new w lt is before after =
    let tested : bytes_eq a.name q ≡ same q a.name = sym (same_is a.name q) ∙ same_sym a.name q in
    let one : is_some new ≡ (is_some old || bytes_eq a.name q) = ap is_some after ∙ some_update (bytes_eq a.name q) old w in
    let two : is_named q (take (i + 1) as') ≡ (is_named q (take i as') || same q a.name) =
    ap (is_named q) (taken_more as' i a lt is) ∙ named_push q (take i as') a in
    one ∙ rw (before, tested) (sym two)
