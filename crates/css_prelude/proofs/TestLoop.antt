-- Reading tests one after the other, as a loop does.
use Rattle.std.proofs.Common.{◌≡◌, ℕ, suc, ◌+◌, ◌-◌, ◌≤◌, ◌<◌, List, Option, Some, None, true, false, refl, sym, ◌∙◌, arith}
use Rattle.css_tokens.specs.declared.lexeme.Lexeme.{Lexeme}
use Rattle.css_prelude.specs.declared.pseudo.Tested.{Tested}
use Rattle.css_prelude.specs.declared.compound.Tests.{Tests}
use Rattle.css_prelude.specs.Compounds.{begins_test, test_at, tests_from, with_test}

abbrev Read : Type 0
Read = Option (Tests × List Lexeme)

pub tests_stop : (n i : ℕ) (all : Tests) (xs : List Lexeme) (total : Read) → i < n → begins_test xs ≡ false
    → tests_from (n - i) all xs ≡ total → Some (all, xs) ≡ total
unfolding tests_from
tests_stop n i all xs total lt off so_far =
    let k : n - i ≡ suc (n - (i + 1)) = omega arith in
    let one : tests_from (n - i) all xs ≡ Some (all, xs) = rw (k, off) refl in
    sym one ∙ so_far

pub tests_off : (n i : ℕ) (all : Tests) (xs : List Lexeme) (total : Read) → i < n → begins_test xs ≡ true → None ≡ test_at xs
    → tests_from (n - i) all xs ≡ total → None ≡ total
unfolding tests_from
tests_off n i all xs total lt on none so_far =
    let k : n - i ≡ suc (n - (i + 1)) = omega arith in
    let one : tests_from (n - i) all xs ≡ None = rw (k, on, ← none) refl in
    sym one ∙ so_far

pub tests_go : (n i : ℕ) (all then : Tests) (xs after : List Lexeme) (t : Tested) (total : Read) → i < n → begins_test xs ≡ true
    → Some (t, after) ≡ test_at xs → then ≡ with_test all t → tests_from (n - i) all xs ≡ total
    → tests_from (n - (i + 1)) then after ≡ total
unfolding tests_from
tests_go n i all then xs after t total lt on some grown so_far =
    let k : n - i ≡ suc (n - (i + 1)) = omega arith in
    let one : tests_from (n - i) all xs ≡ tests_from (n - (i + 1)) (with_test all t) after = rw (k, on, ← some) refl in
    rw grown (sym one ∙ so_far)

pub tests_out : (n i : ℕ) (all : Tests) (xs : List Lexeme) (total : Read) → n ≤ i → tests_from (n - i) all xs ≡ total
    → Some (all, xs) ≡ total
unfolding tests_from
tests_out n i all xs total le so_far =
    let k : n - i ≡ 0 = omega arith in
    let one : tests_from (n - i) all xs ≡ Some (all, xs) = rw k refl in
    sym one ∙ so_far
