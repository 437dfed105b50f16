-- Reading rules one after the other, as a loop does.
use Rattle.std.proofs.Common.{◌≡◌, ℕ, suc, ◌+◌, ◌-◌, ◌≤◌, ◌<◌, List, refl, sym, ap, ◌∙◌, arith}
use Rattle.css_tokens.specs.declared.lexeme.Lexeme.{Lexeme}
use Rattle.css_syntax.specs.declared.rules.Rules.{Rules}
use Rattle.css_syntax.specs.Rules.{turn, rules_from}

one_turn : (k : ℕ) (s : Rules) (xs : List Lexeme) → rules_from (suc k) s xs ≡ rules_from k (turn s xs).0 (turn s xs).1
unfolding rules_from
one_turn k s xs = refl

none_left : (s : Rules) (xs : List Lexeme) → rules_from 0 s xs ≡ s
unfolding rules_from
none_left s xs = refl

pub goes_on : (n i : ℕ) (s then total : Rules) (xs after : List Lexeme) → i < n → (then, after) ≡ turn s xs
    → rules_from (n - i) s xs ≡ total → rules_from (n - (i + 1)) then after ≡ total
goes_on n i s then total xs after lt read so_far =
    let k : n - i ≡ suc (n - (i + 1)) = omega arith in
    let one : rules_from (n - i) s xs ≡ rules_from (n - (i + 1)) (turn s xs).0 (turn s xs).1 = ap (λ (m : ℕ). rules_from m s xs) k
    ∙ one_turn (n - (i + 1)) s xs in
    let same : rules_from (n - (i + 1)) then after ≡ rules_from (n - (i + 1)) (turn s xs).0 (turn s xs).1 =
    ap (λ (r : Rules × List Lexeme). rules_from (n - (i + 1)) r.0 r.1) read in
    same ∙ sym one ∙ so_far

pub is_over : (n i : ℕ) (s total : Rules) (xs : List Lexeme) → n ≤ i → rules_from (n - i) s xs ≡ total → s ≡ total
is_over n i s total xs le so_far =
    let k : n - i ≡ 0 = omega arith in
    sym (none_left s xs) ∙ ap (λ (m : ℕ). rules_from m s xs) (sym k) ∙ so_far
