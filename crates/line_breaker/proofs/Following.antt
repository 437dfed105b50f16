-- What follows a place.
use Rattle.std.proofs.Common.{◌≡◌, ℕ, zero, suc, ◌+◌, ◌-◌, ◌≤◌, ◌<◌, min, Bool, true, false, cond, leb, ◌&&◌, ◌||◌, List, [], ◌∷◌}
use Rattle.std.proofs.Common.{length, drop, Option, Some, None, refl, sym, ap, subst, ◌∙◌, arith}
use Rattle.std.proofs.lemmas.Bool.Decides.{nat_tests}
use Rattle.std.proofs.Math.Bool.{and-false, or-false}
use Rattle.inline_text.specs.declared.content.Piece.{Piece}
use Rattle.inline_text.specs.declared.content.Piece.TheVariants.{Char, Image, Forced, Chance}
use Rattle.line_breaker.specs.declared.places.Place.{Place}
use Rattle.line_breaker.specs.Lines.{is_forced, stretch_len, content_ahead}
use Rattle.line_breaker.specs.Arrays.{need, place_at, nothing_ahead, least_of, opportunity_before, ahead_of, aheads_from}
use Rattle.line_breaker.specs.Arrays.{ahead_at, fits_in}

pub ahead_at-from : (places : List Place) (opportunities : List Bool) (at : ℕ) (ps : List Piece) (k : ℕ) → k ≤ length ps
    → ahead_at (aheads_from places opportunities at ps) k ≡ ahead_of places opportunities (at + k) (drop k ps)
ahead_at-from places opportunities at [] zero le = let same : at ≡ at + 0 = omega arith in ap nothing_ahead same
ahead_at-from places opportunities at [] (suc k) le = absurd (omega arith)
ahead_at-from places opportunities at (p ∷ ps) zero le = let same : at ≡ at + 0 = omega arith
    in ap (λ (n : ℕ). ahead_of places opportunities n (p ∷ ps)) same
ahead_at-from places opportunities at (p ∷ ps) (suc k) le =
    let same : at + 1 + k ≡ at + suc k = omega arith in
    ahead_at-from places opportunities (at + 1) ps k (omega arith)
    ∙ ap (λ (n : ℕ). ahead_of places opportunities n (drop k ps)) same

pub length-aheads : (places : List Place) (opportunities : List Bool) (at : ℕ) (ps : List Piece)
    → length (aheads_from places opportunities at ps) ≡ length ps + 1
length-aheads places opportunities at [] = refl
length-aheads places opportunities at (p ∷ ps) = let deeper = length-aheads places opportunities (at + 1) ps
    in omega (arith, deeper)

pub end_is : (places : List Place) (opportunities : List Bool) (at : ℕ) (ps : List Piece)
    → (ahead_of places opportunities at ps).end ≡ at + stretch_len ps
end_is places opportunities at [] = omega arith
end_is places opportunities at (Char ch style ∷ ps) = let deeper = end_is places opportunities (at + 1) ps
    in omega (arith, deeper)
end_is places opportunities at (Image w h style ∷ ps) = let deeper = end_is places opportunities (at + 1) ps
    in omega (arith, deeper)
end_is places opportunities at (Forced ∷ ps) = refl
end_is places opportunities at (Chance ∷ ps) = let deeper = end_is places opportunities (at + 1) ps in omega (arith, deeper)

content_is : (places : List Place) (opportunities : List Bool) (at : ℕ) (ps : List Piece)
    → (ahead_of places opportunities at ps).content ≡ content_ahead ps
content_is places opportunities at [] = refl
content_is places opportunities at (Char ch style ∷ ps) = refl
content_is places opportunities at (Image w h style ∷ ps) = refl
content_is places opportunities at (Forced ∷ ps) = refl
content_is places opportunities at (Chance ∷ ps) = content_is places opportunities (at + 1) ps

pub opens_is : (places : List Place) (opportunities : List Bool) (at : ℕ) (ps : List Piece)
    → (ahead_of places opportunities at ps).opens ≡ (opportunity_before opportunities at && content_ahead ps)
opens_is places opportunities at [] = sym (and-false (opportunity_before opportunities at))
opens_is places opportunities at (Char ch style ∷ ps) = refl
opens_is places opportunities at (Image w h style ∷ ps) = refl
opens_is places opportunities at (Forced ∷ ps) = sym (and-false (opportunity_before opportunities at))
opens_is places opportunities at (Chance ∷ ps) =
    ap (λ (b : Bool). opportunity_before opportunities at && b) (content_is places opportunities (at + 1) ps)

-- ---- what fits

-- a line that ends at this place reaches no further than the width
abbrev pub reaches : List Place → ℕ → ℕ → ℕ → Bool
reaches places base width at = leb (need (place_at places at) - base) width

-- in this stretch, some opportunity with content after it fits
abbrev pub any_fits : List Place → List Bool → ℕ → ℕ → ℕ → List Piece → Bool
any_fits places opportunities base width at [] = false
any_fits places opportunities base width at (p ∷ ps) =
    cond (is_forced p) false ((opportunity_before opportunities at && content_ahead (p ∷ ps) && reaches places base width at)
    || any_fits places opportunities base width (at + 1) ps)

least-fits : (a b base width : ℕ) → leb (min a b - base) width ≡ (leb (a - base) width || leb (b - base) width)
least-fits a b base width = grind (arith, nat_tests)

fits_least_of : (n base width : ℕ) (o : Option ℕ)
    → fits_in base width (least_of n o) ≡ (leb (n - base) width || fits_in base width o)
fits_least_of n base width None = sym (or-false (leb (n - base) width))
fits_least_of n base width (Some m) = least-fits n m base width

fits_choice : (b : Bool) (n base width : ℕ) (o : Option ℕ)
    → fits_in base width (cond b (least_of n o) o) ≡ ((b && leb (n - base) width) || fits_in base width o)
fits_choice true n base width o = fits_least_of n base width o
fits_choice false n base width o = refl

pub least_is : (places : List Place) (opportunities : List Bool) (base width at : ℕ) (ps : List Piece)
    → fits_in base width (ahead_of places opportunities at ps).least ≡ any_fits places opportunities base width at ps
least_is places opportunities base width at [] = refl
least_is places opportunities base width at (Char ch style ∷ ps) =
    fits_choice (opportunity_before opportunities at && true) (need (place_at places at)) base width
    (ahead_of places opportunities (at + 1) ps).least
    ∙ ap (λ (b : Bool). (opportunity_before opportunities at && true && reaches places base width at) || b)
    (least_is places opportunities base width (at + 1) ps)
least_is places opportunities base width at (Image w h style ∷ ps) =
    fits_choice (opportunity_before opportunities at && true) (need (place_at places at)) base width
    (ahead_of places opportunities (at + 1) ps).least
    ∙ ap (λ (b : Bool). (opportunity_before opportunities at && true && reaches places base width at) || b)
    (least_is places opportunities base width (at + 1) ps)
least_is places opportunities base width at (Forced ∷ ps) = refl
least_is places opportunities base width at (Chance ∷ ps) =
    fits_choice (opportunity_before opportunities at && (ahead_of places opportunities (at + 1) ps).content)
    (need (place_at places at)) base width (ahead_of places opportunities (at + 1) ps).least
    ∙ ap (λ (c : Bool). (opportunity_before opportunities at && c && reaches places base width at)
    || fits_in base width (ahead_of places opportunities (at + 1) ps).least) (content_is places opportunities (at + 1) ps)
    ∙ ap (λ (b : Bool). (opportunity_before opportunities at && content_ahead ps && reaches places base width at) || b)
    (least_is places opportunities base width (at + 1) ps)

-- an opportunity of these pieces, the first of which stands after place `at`, that fits
pub record Fitting (places : List Place) (opportunities : List Bool) (base width at : ℕ) (ps : List Piece) (j place : ℕ) :
    Type 0 where
  pub is : place ≡ at + j
  pub within : j < stretch_len ps
  pub opportunity : opportunity_before opportunities place ≡ true
  pub content : content_ahead (drop j ps) ≡ true
  pub fits : reaches places base width place ≡ true

neither : {P : Type 0} (a b : Bool) → (a || b) ≡ false → (a ≡ false → b ≡ false → P) → P
neither true b e go = absurd cc
neither false b e go = go refl e

all_three : (a b c : Bool) → (a && b && c) ≡ false → a ≡ true → b ≡ true → c ≡ true → ⊥
all_three true true true e p q r = absurd cc
all_three true true false e p q r = absurd cc
all_three true false c e p q r = absurd cc
all_three false b c e p q r = absurd cc

none_here : (places : List Place) (opportunities : List Bool) (base width at : ℕ) (p : Piece) (ps : List Piece) (j place : ℕ)
    → is_forced p ≡ false
    → ((j : ℕ) → Fitting places opportunities base width (at + 1) ps j place → ⊥)
    → (opportunity_before opportunities at && content_ahead (p ∷ ps) && reaches places base width at) ≡ false
    → Fitting places opportunities base width at (p ∷ ps) j place → ⊥
none_here places opportunities base width at p ps zero place open_end deeper none f =
    let same : place ≡ at = let e = f.is in omega (arith, e) in
    all_three (opportunity_before opportunities at) (content_ahead (p ∷ ps)) (reaches places base width at) none
    (subst (λ (n : ℕ). opportunity_before opportunities n ≡ true) same f.opportunity) f.content
    (subst (λ (n : ℕ). reaches places base width n ≡ true) same f.fits)
none_here places opportunities base width at p ps (suc j) place open_end deeper none f =
    let len : stretch_len (p ∷ ps) ≡ stretch_len ps + 1 = ap (λ (b : Bool). cond b 1 (stretch_len ps + 1)) open_end in
    deeper j (record {
      is = let e = f.is in omega (arith, e);
      within = let lt = f.within in omega (arith, lt, len);
      opportunity = f.opportunity;
      content = f.content;
      fits = f.fits;
    })

pub none_fits : (places : List Place) (opportunities : List Bool) (base width at : ℕ) (ps : List Piece) (j place : ℕ)
    → any_fits places opportunities base width at ps ≡ false → Fitting places opportunities base width at ps j place → ⊥
none_fits places opportunities base width at [] j place none f = let lt = f.within in omega (arith, lt)
none_fits places opportunities base width at (Char ch style ∷ ps) j place none f =
    neither _ _ none λ here later. none_here places opportunities base width at (Char ch style) ps j place refl
    (λ k g. none_fits places opportunities base width (at + 1) ps k place later g) here f
none_fits places opportunities base width at (Image w h style ∷ ps) j place none f =
    neither _ _ none λ here later. none_here places opportunities base width at (Image w h style) ps j place refl
    (λ k g. none_fits places opportunities base width (at + 1) ps k place later g) here f
none_fits places opportunities base width at (Forced ∷ ps) zero place none f = let e = f.content in absurd cc
none_fits places opportunities base width at (Forced ∷ ps) (suc j) place none f = let lt = f.within in omega (arith, lt)
none_fits places opportunities base width at (Chance ∷ ps) j place none f =
    neither _ _ none λ here later. none_here places opportunities base width at Chance ps j place refl
    (λ k g. none_fits places opportunities base width (at + 1) ps k place later g) here f

-- some opportunity fits
abbrev pub SomeFits : List Place → List Bool → ℕ → ℕ → ℕ → List Piece → Type 0
SomeFits places opportunities base width at ps = (j : ℕ) × (place : ℕ) × Fitting places opportunities base width at ps j place

some_later : (places : List Place) (opportunities : List Bool) (base width at : ℕ) (p : Piece) (ps : List Piece)
    → is_forced p ≡ false → SomeFits places opportunities base width (at + 1) ps
    → SomeFits places opportunities base width at (p ∷ ps)
some_later places opportunities base width at p ps open_end h =
    let len : stretch_len (p ∷ ps) ≡ stretch_len ps + 1 = ap (λ (b : Bool). cond b 1 (stretch_len ps + 1)) open_end in
    let f = h.2 in (
      suc h.0,
      h.1,
      record {
        is = let e = f.is in omega (arith, e);
        within = let lt = f.within in omega (arith, lt, len);
        opportunity = f.opportunity;
        content = f.content;
        fits = f.fits;
      },
    )

some_here : (places : List Place) (opportunities : List Bool) (base width at : ℕ) (p : Piece) (ps : List Piece) (a b c : Bool)
    → is_forced p ≡ false → opportunity_before opportunities at ≡ a → content_ahead (p ∷ ps) ≡ b
    → reaches places base width at ≡ c
    → ((a && b && c) || any_fits places opportunities base width (at + 1) ps) ≡ true
    → (any_fits places opportunities base width (at + 1) ps ≡ true → SomeFits places opportunities base width (at + 1) ps)
    → SomeFits places opportunities base width at (p ∷ ps)
some_here places opportunities base width at p ps true true true open_end is_a is_b is_c e later =
    let len : stretch_len (p ∷ ps) ≡ stretch_len ps + 1 = ap (λ (b : Bool). cond b 1 (stretch_len ps + 1)) open_end in
    (0, at, record { is = omega arith; within = omega (arith, len); opportunity = is_a; content = is_b; fits = is_c })
some_here places opportunities base width at p ps true true false open_end is_a is_b is_c e later =
    some_later places opportunities base width at p ps open_end (later e)
some_here places opportunities base width at p ps true false c open_end is_a is_b is_c e later =
    some_later places opportunities base width at p ps open_end (later e)
some_here places opportunities base width at p ps false b c open_end is_a is_b is_c e later =
    some_later places opportunities base width at p ps open_end (later e)

pub some_fits : (places : List Place) (opportunities : List Bool) (base width at : ℕ) (ps : List Piece)
    → any_fits places opportunities base width at ps ≡ true → SomeFits places opportunities base width at ps
some_fits places opportunities base width at [] e = absurd cc
some_fits places opportunities base width at (Char ch style ∷ ps) e = some_here places opportunities base width at (Char ch style)
    ps _ _ _ refl refl refl refl e (λ h. some_fits places opportunities base width (at + 1) ps h)
some_fits places opportunities base width at (Image w i style ∷ ps) e =
    some_here places opportunities base width at (Image w i style) ps _ _ _ refl refl refl refl e
    (λ h. some_fits places opportunities base width (at + 1) ps h)
some_fits places opportunities base width at (Forced ∷ ps) e = absurd cc
some_fits places opportunities base width at (Chance ∷ ps) e = some_here places opportunities base width at Chance ps _ _ _ refl
    refl refl refl e (λ h. some_fits places opportunities base width (at + 1) ps h)

-- ---- stretches

pub stretch-drop : (ps : List Piece) (j : ℕ) → j < stretch_len ps → stretch_len (drop j ps) + j ≡ stretch_len ps
stretch-drop ps zero lt = omega arith
stretch-drop [] (suc j) lt = absurd (omega arith)
stretch-drop (Char ch style ∷ ps) (suc j) lt = let deeper = stretch-drop ps j (omega arith) in omega (arith, deeper)
stretch-drop (Image w h style ∷ ps) (suc j) lt = let deeper = stretch-drop ps j (omega arith) in omega (arith, deeper)
stretch-drop (Forced ∷ ps) (suc j) lt = absurd (omega arith)
stretch-drop (Chance ∷ ps) (suc j) lt = let deeper = stretch-drop ps j (omega arith) in omega (arith, deeper)

pub stretch-within : (ps : List Piece) → stretch_len ps ≤ length ps
stretch-within [] = omega arith
stretch-within (Char ch style ∷ ps) = let deeper = stretch-within ps in omega (arith, deeper)
stretch-within (Image w h style ∷ ps) = let deeper = stretch-within ps in omega (arith, deeper)
stretch-within (Forced ∷ ps) = omega arith
stretch-within (Chance ∷ ps) = let deeper = stretch-within ps in omega (arith, deeper)

pub stretch-some : (ps : List Piece) → 0 < length ps → 0 < stretch_len ps
stretch-some [] some = absurd (omega arith)
stretch-some (Char ch style ∷ ps) some = omega arith
stretch-some (Image w h style ∷ ps) some = omega arith
stretch-some (Forced ∷ ps) some = omega arith
stretch-some (Chance ∷ ps) some = omega arith
