-- Half of a signed number, rounded down.
use Rattle.std.proofs.Common.{◌≡◌, ℕ, arith, ap, ◌∙◌, ℤ, pos, negsuc, ◌+ℤ◌, ◌-ℤ◌, ◌≤ℤ◌, w64}
use Rattle.std.specs.Int.{int_div_euclid}
use Rattle.std.proofs.lemmas.Int.{ints}
use mir.Val.{SFits, of_z, to_z}

half-least : (x : ℤ) → (int_div_euclid x (pos 2) +ℤ int_div_euclid x (pos 2)) ≤ℤ x
half-least (pos a) = omega (arith, ints)
half-least (negsuc a) = omega (arith, ints)

half-most : (x : ℤ) → x ≤ℤ (int_div_euclid x (pos 2) +ℤ int_div_euclid x (pos 2) +ℤ pos 1)
half-most (pos a) = omega (arith, ints)
half-most (negsuc a) = omega (arith, ints)

-- what a division at 64 bits gives
pub halved : (x r : ℤ) → SFits w64 x → r ≡ int_div_euclid (to_z w64 (of_z w64 x)) (pos 2)
    → ((to_z w64 (of_z w64 r) +ℤ to_z w64 (of_z w64 r)) ≤ℤ x) × (x ≤ℤ (to_z w64 (of_z w64 r) +ℤ to_z w64 (of_z w64 r) +ℤ pos 1))
halved x r fits e =
    let same : to_z w64 (of_z w64 x) ≡ x = omega (arith, ints) in
    let d : r ≡ int_div_euclid x (pos 2) = e ∙ ap (λ (y : ℤ). int_div_euclid y (pos 2)) same in
    let low = half-least x in
    let high = half-most x in
    (omega (arith, ints, d, low, high), omega (arith, ints, d, low, high))

pub above_is : (a d line a' d' : ℕ) (length h r : ℤ) → h ≡ int_div_euclid length (pos 2) → length ≡ pos line -ℤ pos a -ℤ pos d
    → a ≡ a' → d ≡ d' → r ≡ pos a +ℤ h
    → r ≡ pos a' +ℤ int_div_euclid (pos line -ℤ pos a' -ℤ pos d') (pos 2)
above_is a d line a' d' length h r half whole same_a same_d is =
    is ∙ ap (λ (x : ℤ). pos a +ℤ x) (half ∙ ap (λ (x : ℤ). int_div_euclid x (pos 2)) whole)
    ∙ ap (λ (n : ℕ). pos n +ℤ int_div_euclid (pos line -ℤ pos n -ℤ pos d) (pos 2)) same_a
    ∙ ap (λ (n : ℕ). pos a' +ℤ int_div_euclid (pos line -ℤ pos a' -ℤ pos n) (pos 2)) same_d
