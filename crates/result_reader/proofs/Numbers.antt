-- Words that are numbers.
use Rattle.std.proofs.Common.{◌≡◌, ℕ, ◌<◌, ◌≤◌, Bool, true, false, List, [], ◌∷◌, length, take, drop, refl}
use Rattle.std.proofs.Common.{◌∙◌, ap, subst, cond, arith, length-drop, Option, Some, None}
use Rattle.std.specs.Str.Parse.{digits_value, AllDigits}
use Rattle.std.proofs.lemmas.Bool.Decides.{nat_tests}
use Rattle.std.proofs.lemmas.List.{take_all, drop_all}
use Rattle.flow_text.specs.Numbers.{digits_len, is_numeral, number_at}
use Rattle.flow_text.proofs.NumberLemmas.{all_digits_front}
use Rattle.result_laws.specs.Words.{number_of, all_of, ◌>>=◌}

-- a number has at most 19 digits
pub few-digits : (w : List ℕ) → is_numeral w ≡ true → length w ≤ 19
few-digits [] e = omega arith
few-digits (d ∷ []) e = omega arith
few-digits (d ∷ b ∷ ds) e = grind (arith, nat_tests)

-- a word of digits alone
pub all-digits : (w : List ℕ) → length w ≤ digits_len w → AllDigits 10 w
all-digits w le = subst (AllDigits 10) (take_all (digits_len w) w le) (all_digits_front w)

abbrev numbered : Bool → ℕ → List ℕ → Option ℕ
numbered t v rest = cond t (Some (v, rest)) None >>= all_of

number-parts : (w : List ℕ)
    → number_of w
    ≡ numbered (is_numeral (take (digits_len w) w)) (digits_value 10 (take (digits_len w) w)) (drop (digits_len w) w)
unfolding number_of number_at
number-parts w = refl

numbered-part : (t : Bool) (v : ℕ) (rest : List ℕ) → 0 < length rest → numbered t v rest ≡ None
numbered-part true v [] lt = absurd (omega arith)
numbered-part true v (b ∷ rest) lt = refl
numbered-part false v rest lt = refl

-- one with something behind its digits is none
pub part-number : (w : List ℕ) → digits_len w < length w → number_of w ≡ None
part-number w lt =
    let long : 0 < length (drop (digits_len w) w) = simp length-drop (omega arith) in
    number-parts w
    ∙ numbered-part (is_numeral (take (digits_len w) w)) (digits_value 10 (take (digits_len w) w)) (drop (digits_len w) w) long

whole-parts : (w : List ℕ) → length w ≤ digits_len w → number_of w ≡ numbered (is_numeral w) (digits_value 10 w) []
whole-parts w le =
    number-parts w ∙ ap (λ (ds : List ℕ). numbered (is_numeral ds) (digits_value 10 ds) (drop (digits_len w) w))
    (take_all (digits_len w) w le) ∙ ap (numbered (is_numeral w) (digits_value 10 w)) (drop_all (digits_len w) w le)

-- and one of digits alone is their number, or none
pub whole-number : (w : List ℕ) → length w ≤ digits_len w → is_numeral w ≡ true → number_of w ≡ Some (digits_value 10 w)
whole-number w le e = whole-parts w le ∙ ap (λ (t : Bool). numbered t (digits_value 10 w) []) e

pub no-number : (w : List ℕ) → length w ≤ digits_len w → is_numeral w ≡ false → number_of w ≡ None
no-number w le e = whole-parts w le ∙ ap (λ (t : Bool). numbered t (digits_value 10 w) []) e

pub ruleset number_rules = (few-digits, all-digits, part-number, whole-number, no-number)
