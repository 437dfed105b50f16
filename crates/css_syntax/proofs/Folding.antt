-- The first of faults, found one by one.
use Rattle.std.proofs.Common.{◌≡◌, ℕ, List, [], ◌∷◌, ◌++◌, Bool, true, false, cond, ◌&&◌, ◌||◌, nat_lt}
use Rattle.std.proofs.Common.{refl, ap, ◌∙◌, arith, inl, inr}
use Rattle.std.specs.Prelude.{◌⊎◌, ◌==◌, Option, Some, None}
use Rattle.css_tokens.specs.declared.lexeme.Fault.{Fault}
use Rattle.css_laws.specs.Values.{is_before, Among, IsFirst}
use Rattle.css_syntax.specs.Brackets.{first_fault}

abbrev pub fault_as : ℕ → ℕ → Fault
fault_as at rule = record { at = at; rule = rule }

-- the same faults, in any order
pub record Same (fs gs : List Fault) : Type 0 where
  pub there : (f : Fault) → Among f fs → Among f gs
  pub back : (f : Fault) → Among f gs → Among f fs

-- what was found: the first, or that there is none
abbrev pub Told : Option Fault → List Fault → Type 0
Told None fs = (f : Fault) → Among f fs → ⊥
Told (Some f) fs = IsFirst f fs

pub told_same : (o : Option Fault) (fs gs : List Fault) → Same fs gs → Told o fs → Told o gs
told_same None fs gs s h = λ f a. h f (s.back f a)
told_same (Some f) fs gs s h = record { among = s.there f h.among; none_before = λ g a. h.none_before g (s.back g a) }

none_itself : (f : Fault) → is_before f f ≡ false
none_itself f = by_numbers f.at f.rule
  where
    by_numbers : (a r : ℕ) → (nat_lt a a || ((a == a) && nat_lt r r)) ≡ false
    by_numbers a r = grind arith

-- the order is total, and goes on
pub total : (f g : Fault) → is_before f g ≡ true → is_before g f ≡ false
total f g h = by_numbers f.at f.rule g.at g.rule h
  where
    by_numbers : (a r b s : ℕ) → (nat_lt a b || ((a == b) && nat_lt r s)) ≡ true
        → (nat_lt b a || ((b == a) && nat_lt s r)) ≡ false
    by_numbers a r b s h = grind (arith, h)

goes_on : (e f g : Fault) → is_before f g ≡ false → is_before e f ≡ false → is_before e g ≡ false
goes_on e f g h k = by_numbers e.at e.rule f.at f.rule g.at g.rule h k
  where
    by_numbers : (c t a r b s : ℕ) → (nat_lt a b || ((a == b) && nat_lt r s)) ≡ false
        → (nat_lt c a || ((c == a) && nat_lt t r)) ≡ false
        → (nat_lt c b || ((c == b) && nat_lt t s)) ≡ false
    by_numbers c t a r b s h k = grind (arith, h, k)

one_more : (f g : Fault) (fs : List Fault) → IsFirst f fs → (b : Bool) → is_before f g ≡ b
    → Told (cond b (Some f) (Some g)) (g ∷ fs)
one_more f g fs h true e = record { among = inr h.among; none_before = by_among }
  where
    by_among : (k : Fault) → (k ≡ g) ⊎ Among k fs → is_before k f ≡ false
    by_among k (inl same) = ap (λ (x : Fault). is_before x f) same ∙ total f g e
    by_among k (inr a) = h.none_before k a
one_more f g fs h false e = record { among = inl refl; none_before = by_among }
  where
    by_among : (k : Fault) → (k ≡ g) ⊎ Among k fs → is_before k g ≡ false
    by_among k (inl same) = ap (λ (x : Fault). is_before x g) same ∙ none_itself g
    by_among k (inr a) = goes_on k f g e (h.none_before k a)

-- one fault more
pub told_more : (o : Option Fault) (g : Fault) (fs : List Fault) → Told o fs → Told (first_fault o g) (g ∷ fs)
told_more None g fs h = record { among = inl refl; none_before = by_among }
  where
    by_among : (k : Fault) → (k ≡ g) ⊎ Among k fs → is_before k g ≡ false
    by_among k (inl same) = ap (λ (x : Fault). is_before x g) same ∙ none_itself g
    by_among k (inr a) = absurd (h k a)
told_more (Some f) g fs h = one_more f g fs h (is_before f g) refl

-- Members of lists.

pub in_front : (f : Fault) (fs gs : List Fault) → Among f fs → Among f (fs ++ gs)
in_front f [] gs a = absurd a
in_front f (g ∷ fs) gs (inl e) = inl e
in_front f (g ∷ fs) gs (inr a) = inr (in_front f fs gs a)

pub behind : (f : Fault) (fs gs : List Fault) → Among f gs → Among f (fs ++ gs)
behind f [] gs a = a
behind f (g ∷ fs) gs a = inr (behind f fs gs a)

pub either : (f : Fault) (fs gs : List Fault) → Among f (fs ++ gs) → Among f fs ⊎ Among f gs
either f [] gs a = inr a
either f (g ∷ fs) gs (inl e) = inl (inl e)
either f (g ∷ fs) gs (inr a) = by_either (either f fs gs a)
  where
    by_either : Among f fs ⊎ Among f gs → Among f (g ∷ fs) ⊎ Among f gs
    by_either (inl a) = inl (inr a)
    by_either (inr a) = inr a

pub same_swap : (fs gs : List Fault) → Same (fs ++ gs) (gs ++ fs)
same_swap fs gs = record { there = λ f a. turned f fs gs (either f fs gs a); back = λ f a. turned f gs fs (either f gs fs a) }
  where
    turned : (f : Fault) (fs gs : List Fault) → Among f fs ⊎ Among f gs → Among f (gs ++ fs)
    turned f fs gs (inl a) = behind f gs fs a
    turned f fs gs (inr a) = in_front f gs fs a

pub same_itself : (fs : List Fault) → Same fs fs
same_itself fs = record { there = λ f a. a; back = λ f a. a }

pub same_then : (fs gs hs : List Fault) → Same fs gs → Same gs hs → Same fs hs
same_then fs gs hs a b = record { there = λ f x. b.there f (a.there f x); back = λ f x. a.back f (b.back f x) }

-- there is one first fault at most
pub first_once : (f g : Fault) (fs : List Fault) → IsFirst f fs → IsFirst g fs → f ≡ g
first_once f g fs h k = by_numbers f.at f.rule g.at g.rule (k.none_before f h.among) (h.none_before g k.among)
  where
    by_numbers : (a r b s : ℕ) → (nat_lt a b || ((a == b) && nat_lt r s)) ≡ false
        → (nat_lt b a || ((b == a) && nat_lt s r)) ≡ false
        → fault_as a r ≡ fault_as b s
    by_numbers a r b s h k =
        let e : a ≡ b = grind (arith, h, k) in
        let d : r ≡ s = grind (arith, h, k) in
        ap (λ (x : ℕ). fault_as x r) e ∙ ap (fault_as b) d
