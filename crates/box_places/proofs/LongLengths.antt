-- The first used length that is too long.
use Rattle.std.proofs.Common.{◌≡◌, ℕ, ◌≤◌, List, [], ◌∷◌, ◌++◌, Bool, true, false, nat_lt, Option, Some, None, refl, ap, ◌∙◌}
use Rattle.std.proofs.Common.{arith, flat_map, if◌then◌else◌}
use Rattle.std.proofs.lemmas.List.Concat.{flat_map-append}
use Rattle.std.proofs.lemmas.Bool.Decides.{nat_tests}
use Rattle.std.specs.List.{AllByRecursion}
use Rattle.mc_base.specs.declared.refusal.Refusal.{Refusal}
use Rattle.mc_base.specs.declared.refusal.Refusal.TheVariants as refusals
use Rattle.mc_base.specs.declared.refusal.LimitName.TheVariants as limits
use Rattle.box_data.specs.BoxTree.{or_else}
use Rattle.box_data.specs.declared.placed.Placed.{Placed}
use Rattle.box_data.specs.Limits.{first_above, greatest_length, used_lengths, gap_lengths, size_lengths, all_used_lengths}
use Rattle.box_data.specs.Limits.{long, passed}
use Rattle.box_places.specs.Bounds.{IsLow}

first_above-append : (limit : ℕ) (xs ys : List ℕ) → first_above limit (xs ++ ys)
    ≡ or_else (first_above limit xs) (first_above limit ys)
first_above-append limit [] ys = refl
first_above-append limit (x ∷ xs) ys =
    elim (nat_lt limit x) as (λ b. (if b then Some x else first_above limit (xs ++ ys))
    ≡ or_else (if b then Some x else first_above limit xs) (first_above limit ys))
    [ true ↦ refl | false ↦ first_above-append limit xs ys ]

-- the lengths that each box has
abbrev pub sides_and_width : Placed → List ℕ
sides_and_width p =
    p.margin.top ∷ (p.margin.right ∷ (p.margin.bottom ∷ (p.margin.left ∷
    (p.padding.top ∷ (p.padding.right ∷ (p.padding.bottom ∷ (p.padding.left ∷ (p.w ∷ []))))))))

pub first_used : (p : Placed) → first_above greatest_length (used_lengths p)
    ≡ or_else (first_above greatest_length (sides_and_width p))
    (or_else (first_above greatest_length (gap_lengths p.kind p.gap))
    (first_above greatest_length (flat_map size_lengths p.images)))
first_used p = first_above-append greatest_length (sides_and_width p) (gap_lengths p.kind p.gap ++ flat_map size_lengths p.images)
    ∙ ap (or_else (first_above greatest_length (sides_and_width p)))
    (first_above-append greatest_length (gap_lengths p.kind p.gap) (flat_map size_lengths p.images))

-- ---- a box without such a length

not_passed : (o : Option ℕ) (refusal : ℕ → Refusal) → passed o refusal ≡ None → o ≡ None
not_passed None refusal h = refl
not_passed (Some n) refusal h = cc

low_front : (limit : ℕ) (xs ys : List ℕ) → first_above limit (xs ++ ys) ≡ None → AllByRecursion (λ x. x ≤ limit) xs
low_front limit [] ys h = tt
low_front limit (x ∷ xs) ys h = step (nat_lt limit x) refl h (low_front limit xs ys)
  where
    step : (b : Bool) → nat_lt limit x ≡ b → (if b then Some x else first_above limit (xs ++ ys)) ≡ None
        → (first_above limit (xs ++ ys) ≡ None → AllByRecursion (λ y. y ≤ limit) xs)
        → (x ≤ limit) × AllByRecursion (λ y. y ≤ limit) xs
    step true e none rest = cc
    step false e none rest = (grind (arith, nat_tests), rest none)

pub low : (p : Placed) → long (used_lengths p) ≡ None → IsLow p
low p h =
    let rest = gap_lengths p.kind p.gap ++ flat_map size_lengths p.images in
    let none = not_passed (first_above greatest_length (used_lengths p))
    (λ n. refusals.Limit limits.Length n greatest_length) h in
    let all = low_front greatest_length (sides_and_width p) rest none in
    record { margin = all.1.1.1.0; padding = all.1.1.1.1.1.1.1.0; w = all.1.1.1.1.1.1.1.1.0 }

-- ---- boxes in order

parts : (places : List Placed) (p : Placed) (rest : List Placed)
    → first_above greatest_length (all_used_lengths (places ++ p ∷ rest))
    ≡ or_else (first_above greatest_length (all_used_lengths places))
    (or_else (first_above greatest_length (used_lengths p)) (first_above greatest_length (all_used_lengths rest)))
parts places p rest =
    ap (first_above greatest_length) (flat_map-append used_lengths places (p ∷ rest))
    ∙ first_above-append greatest_length (all_used_lengths places) (used_lengths p ++ all_used_lengths rest)
    ∙ ap (or_else (first_above greatest_length (all_used_lengths places)))
    (first_above-append greatest_length (used_lengths p) (all_used_lengths rest))

none_of : (a b whole : Option ℕ) (refusal : ℕ → Refusal) → whole ≡ or_else a (or_else b None) → passed a refusal ≡ None
    → passed b refusal ≡ None
    → passed whole refusal ≡ None
none_of None None whole refusal e h k = ap (λ o. passed o refusal) e
none_of None (Some b) whole refusal e h k = cc
none_of (Some a) b whole refusal e h k = cc

earliest : (a b c whole : Option ℕ) (refusal : ℕ → Refusal) (r : Refusal) → whole ≡ or_else a (or_else b c)
    → passed a refusal ≡ None
    → passed b refusal ≡ Some r → passed whole refusal ≡ Some r
earliest None None c whole refusal r e h k = cc
earliest None (Some b) c whole refusal r e h k = ap (λ o. passed o refusal) e ∙ k
earliest (Some a) b c whole refusal r e h k = cc

pub long_more : (places : List Placed) (p : Placed) → long (all_used_lengths places) ≡ None → long (used_lengths p) ≡ None
    → long (all_used_lengths (places ++ p ∷ [])) ≡ None
long_more places p h k = none_of _ _ _ _ (parts places p []) h k

pub long_at : (places : List Placed) (p : Placed) (rest : List Placed) (e : Refusal) → long (all_used_lengths places) ≡ None
    → long (used_lengths p) ≡ Some e → long (all_used_lengths (places ++ p ∷ rest)) ≡ Some e
long_at places p rest e h k = earliest _ _ _ _ _ _ (parts places p rest) h k
