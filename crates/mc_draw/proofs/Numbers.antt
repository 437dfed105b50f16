-- What is read as a number is a number of at most 19 digits, spelled there.
use Rattle.std.proofs.Common.{◌≡◌, ℕ, ◌^◌, ◌<◌, ◌≤◌, List, [], ◌∷◌, ◌++◌, length, take, get_or, Bool, true}
use Rattle.std.proofs.Common.{false, eqb, leb, cond, not, Some, None, refl, sym, subst, arith}
use Rattle.std.specs.Fmt.{decimal}
use Rattle.std.specs.Str.Parse.{digits_value}
use Rattle.std.proofs.Math.Nat.{pow-le-pow_right}
use Rattle.std.proofs.lemmas.List.{take-append-drop}
use Rattle.std.proofs.lemmas.Bool.{eq-eqb, and_parts, leb-true}
use Rattle.std.proofs.lemmas.Int.Digits.{digits_value-lt}
use Rattle.std.proofs.lemmas.Fmt.{decimal-digits_value}
use Rattle.flow_text.specs.Numbers.{IsNumber, digits_len, is_numeral, number_at}
use Rattle.flow_text.proofs.NumberLemmas.{all_digits_front}
use Rattle.flow_text.proofs.FormLemmas.{own, pass}

pub guarded : {A : Type 0} (b : Bool) (x y : A) → cond b (pass x) None ≡ pass y → (b ≡ true) × (x ≡ y)
guarded true x y e = (refl, cc)
guarded false x y e = absurd cc

-- what makes digits a number
record Small (ds : List ℕ) : Type 0 where
  some : 0 < length ds
  plain : get_or ds 0 0 ≡ 48 → length ds ≡ 1
  few : length ds ≤ 19

small : (ds : List ℕ) → is_numeral ds ≡ true → Small ds
small [] h = absurd cc
small (d ∷ []) h = record { some = omega arith; plain = λ e. refl; few = omega arith }
small (d ∷ e ∷ ds) h =
    let p = and_parts (not (eqb d 48)) (leb (length (d ∷ e ∷ ds)) 19) h in
    record {
      some = omega arith;
      plain = λ is. let same = eq-eqb d 48 is in let no = rw same at p.0 in absurd cc;
      few = leb-true (length (d ∷ e ∷ ds)) 19 p.1;
    }

pub number_takes : (bytes : List ℕ) (x : ℕ × List ℕ) → number_at bytes ≡ Some x → (bytes ≡ decimal x.0 ++ x.1) × IsNumber x.0
unfolding number_at
number_takes bytes x h =
    let g = guarded (is_numeral (take (digits_len bytes) bytes)) _ x h in
    let s = small (take (digits_len bytes) bytes) g.0 in
    let digits = all_digits_front bytes in
    let bound = digits_value-lt 10 (take (digits_len bytes) bytes) digits in
    let some = s.some in
    let few = s.few in
    let room : 10 ^ length (take (digits_len bytes) bytes) ≤ 10 ^ 19 = pow-le-pow_right (omega arith) few in
    let fits : digits_value 10 (take (digits_len bytes) bytes) < 2 ^ 64 = omega arith in
    let spelled : decimal (digits_value 10 (take (digits_len bytes) bytes)) ≡ take (digits_len bytes) bytes =
    decimal-digits_value own (take (digits_len bytes) bytes) digits some s.plain fits in
    let P : ℕ × List ℕ → Type 0 = λ y. (bytes ≡ decimal y.0 ++ y.1) × IsNumber y.0 in
    let value : IsNumber (digits_value 10 (take (digits_len bytes) bytes)) = omega arith in
    subst P g.1 (rw spelled (sym (take-append-drop (digits_len bytes) bytes)), value)
