-- Where a character's advance is found.
use Rattle.std.proofs.Common.{◌≡◌, ℕ, zero, suc, ◌+◌, ◌≤◌, ◌<◌, false, eqb, List, [], ◌∷◌, length, get_or, Some, None, refl}
use Rattle.std.proofs.Common.{arith, tests}
use Rattle.std.specs.Ordering.{nat_cmp, ordering_index}
use Rattle.std.specs.declared.cmp.Ordering.TheVariants.{Equal}
use Rattle.std.specs.List.Sorted.{IsNonDecreasingBy}
use Rattle.std.proofs.lemmas.Bool.{ne_eqb, eq-eqb, le-ltb}
use Rattle.font_table.specs.declared.fonts.Advance.{Advance}
use Rattle.font_table.specs.Sound.{AreSound}
use Rattle.font_table.specs.Choice.{own_advance}

pub at_least : (least : ℕ) (xs : List Advance) (i : ℕ) (d : Advance) → AreSound least xs → i < length xs
    → least ≤ (get_or xs i d).ch
at_least least [] i d sound lt = absurd (omega arith)
at_least least (a ∷ xs) zero d sound lt = sound.0
at_least least (a ∷ xs) (suc i) d sound lt = let deeper = at_least (a.ch + 1) xs i d sound.2 (omega arith)
    in omega (arith, deeper, sound.0)

pub at_most : (least : ℕ) (xs : List Advance) (i : ℕ) (d : Advance) → AreSound least xs → i < length xs
    → (get_or xs i d).amount ≤ 10000
at_most least [] i d sound lt = absurd (omega arith)
at_most least (a ∷ xs) zero d sound lt = sound.1
at_most least (a ∷ xs) (suc i) d sound lt = at_most (a.ch + 1) xs i d sound.2 (omega arith)

rising : (least : ℕ) (xs : List Advance) (i j : ℕ) (d : Advance) → AreSound least xs → i ≤ j → j < length xs
    → (get_or xs i d).ch ≤ (get_or xs j d).ch
rising least [] i j d sound le lt = absurd (omega arith)
rising least (a ∷ xs) zero zero d sound le lt = omega arith
rising least (a ∷ xs) zero (suc j) d sound le lt = let deeper = at_least (a.ch + 1) xs j d sound.2 (omega arith)
    in omega (arith, deeper)
rising least (a ∷ xs) (suc i) zero d sound le lt = absurd (omega arith)
rising least (a ∷ xs) (suc i) (suc j) d sound le lt = rising (a.ch + 1) xs i j d sound.2 (omega arith) (omega arith)

higher : (x a b : ℕ) → a ≤ b → ordering_index (nat_cmp a x) ≤ ordering_index (nat_cmp b x)
higher x a b le = grind (arith, tests)

pub searchable : (xs : List Advance) (ch : ℕ) → AreSound 0 xs
    → IsNonDecreasingBy (λ (y : Advance). ordering_index (nat_cmp y.ch ch)) xs
searchable xs ch sound i j d le lt = higher ch (get_or xs i d).ch (get_or xs j d).ch (rising 0 xs i j d sound le lt)

pub own-at : (least : ℕ) (xs : List Advance) (i : ℕ) (d : Advance) (ch : ℕ) → AreSound least xs → i < length xs
    → (get_or xs i d).ch ≡ ch → own_advance xs ch ≡ Some (get_or xs i d).amount
own-at least [] i d ch sound lt is = absurd (omega arith)
own-at least (a ∷ xs) zero d ch sound lt is = rw (eq-eqb a.ch ch is) refl
own-at least (a ∷ xs) (suc i) d ch sound lt is =
    let later = at_least (a.ch + 1) xs i d sound.2 (omega arith) in
    let other : eqb a.ch ch ≡ false = ne_eqb a.ch ch (λ same. omega (arith, same, is, later)) in
    rw other (own-at (a.ch + 1) xs i d ch sound.2 (omega arith) is)

pub own-none : (xs : List Advance) (d : Advance) (ch : ℕ) → ((i : ℕ) → i < length xs → (get_or xs i d).ch ≡ ch → ⊥)
    → own_advance xs ch ≡ None
own-none [] d ch none = refl
own-none (a ∷ xs) d ch none =
    let other : eqb a.ch ch ≡ false = ne_eqb a.ch ch (none 0 (omega arith)) in
    rw other (own-none xs d ch (λ i lt. none (suc i) (omega (arith, lt))))

pub equal_is : (a x : ℕ) → a ≡ x → nat_cmp a x ≡ Equal
equal_is a x same = rw (le-ltb a x (omega (arith, same)), eq-eqb a x same) refl
