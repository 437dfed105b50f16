-- What a cut and an insert leave of a list.
use Rattle.std.proofs.Common.{◌≡◌, ℕ, suc, ◌+◌, ◌-◌, ◌<◌, ◌≤◌, List, [], ◌∷◌, ◌++◌, length, take, drop, refl, sym, ap, ◌∙◌, arith}
use Rattle.std.proofs.Common.{length-drop}
use Rattle.std.proofs.Math.Seq.{take-append-add, take-append_seam, drop-append_seam, drop-append-add}
use Rattle.std.proofs.lemmas.List.{take-take, drop-drop, length-take-le, append_assoc}
use Rattle.std.specs.List.{insert}

-- the parts that a rotation, a cut at the end and a rotation back leave
pub left_of : {X : Type 0} → (xs : List X) (start end behind : ℕ) → start ≤ end → end ≤ length xs → behind ≡ length xs - end
    → drop behind (take (behind + start) (drop end xs ++ take end xs)) ++ take behind (take (behind + start) (drop end xs
    ++ take end xs))
    ≡ take start xs ++ drop end xs
left_of xs start end behind le within is =
    let len : length (drop end xs) ≡ behind = length-drop end xs ∙ sym is in
    let short : take start (take end xs) ≡ take start xs = take-take start end xs le in
    let all : take (behind + start) (drop end xs ++ take end xs) ≡ drop end xs ++ take start xs =
    rw (← len) (take-append-add (drop end xs) (take end xs) start ∙ ap (λ ys. drop end xs ++ ys) short) in
    let front : drop behind (drop end xs ++ take start xs) ≡ take start xs = rw (← len) (drop-append_seam (drop end xs)
    (take start xs)) in
    let back : take behind (drop end xs ++ take start xs) ≡ drop end xs = rw (← len) (take-append_seam (drop end xs)
    (take start xs)) in
    rw (all, front, back) refl

-- an item put in, and those after it cut up to a place
pub put_and_cut : {X : Type 0} → (xs : List X) (start end : ℕ) (x : X) → start < end → end ≤ length xs
    → take (start + 2) (insert xs (start + 1) x) ++ drop (end + 1) (insert xs (start + 1) x)
    ≡ take (start + 1) xs ++ (x ∷ [] ++ drop end xs)
put_and_cut xs start end x lt within =
    let len : length (take (start + 1) xs) ≡ start + 1 = length-take-le (start + 1) xs (omega arith) in
    let n : start + 2 ≡ length (take (start + 1) xs) + 1 = omega (arith, len) in
    let m : end + 1 ≡ length (take (start + 1) xs) + suc (end - (start + 1)) = omega (arith, len) in
    let front : take (start + 2) (insert xs (start + 1) x) ≡ take (start + 1) xs ++ x ∷ [] =
    rw n (take-append-add (take (start + 1) xs) (x ∷ drop (start + 1) xs) 1) in
    let place : start + 1 + (end - (start + 1)) ≡ end = omega arith in
    let back : drop (end + 1) (insert xs (start + 1) x) ≡ drop end xs =
    rw m (drop-append-add (take (start + 1) xs) (x ∷ drop (start + 1) xs) (suc (end - (start + 1)))
    ∙ drop-drop (end - (start + 1)) (start + 1) xs ∙ ap (λ k. drop k xs) place) in
    rw (front, back) (append_assoc (take (start + 1) xs) (x ∷ []) (drop end xs))
