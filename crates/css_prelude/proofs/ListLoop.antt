-- Reading a list of selectors, as a loop does.
use Rattle.std.proofs.Common.{◌≡◌, ℕ, suc, ◌+◌, ◌-◌, ◌≤◌, ◌<◌, List, Option, Some, None, refl, sym, ap, ◌∙◌, arith}
use Rattle.css_tokens.specs.declared.lexeme.Lexeme.{Lexeme}
use Rattle.css_prelude.specs.declared.selecting.Selecting.{Selecting}
use Rattle.css_prelude.specs.declared.selecting.Selectors.{Selectors}
use Rattle.css_prelude.specs.declared.selecting.Turn.{Turn}
use Rattle.css_prelude.specs.declared.selecting.Turn.TheVariants as turns
use Rattle.css_prelude.specs.Selecting.{turn, list_from, whole, continued}

one_turn : (k size : ℕ) (s : Selecting) (xs after : List Lexeme) (x : Turn × Selecting) → (x, after) ≡ turn size s xs
    → list_from (suc k) size s xs ≡ continued x (λ then. list_from k size then after)
unfolding list_from
one_turn k size s xs after x read =
    ap (λ (r : (Turn × Selecting) × List Lexeme). continued r.0 (λ then. list_from k size then r.1)) (sym read)

turned : (n i size : ℕ) (s : Selecting) (xs after : List Lexeme) (x : Turn × Selecting) (total : Option Selectors) → i < n
    → (x, after) ≡ turn size s xs → list_from (n - i) size s xs ≡ total
    → continued x (λ then. list_from (n - (i + 1)) size then after) ≡ total
turned n i size s xs after x total lt read so_far =
    let k : n - i ≡ suc (n - (i + 1)) = omega arith in
    sym (one_turn (n - (i + 1)) size s xs after x read) ∙ ap (λ (m : ℕ). list_from m size s xs) (sym k) ∙ so_far

pub list_goes : (n i size : ℕ) (s then : Selecting) (xs after : List Lexeme) (total : Option Selectors) → i < n
    → ((turns.More, then), after) ≡ turn size s xs → list_from (n - i) size s xs ≡ total
    → list_from (n - (i + 1)) size then after ≡ total
list_goes n i size s then xs after total lt read so_far = turned n i size s xs after (turns.More, then) total lt read so_far

pub list_done : (n i size : ℕ) (s then : Selecting) (xs after : List Lexeme) (total : Option Selectors) → i < n
    → ((turns.Done, then), after) ≡ turn size s xs → list_from (n - i) size s xs ≡ total → Some (whole then) ≡ total
list_done n i size s then xs after total lt read so_far = turned n i size s xs after (turns.Done, then) total lt read so_far

pub list_off : (n i size : ℕ) (s then : Selecting) (xs after : List Lexeme) (total : Option Selectors) → i < n
    → ((turns.Off, then), after) ≡ turn size s xs → list_from (n - i) size s xs ≡ total → None ≡ total
list_off n i size s then xs after total lt read so_far = turned n i size s xs after (turns.Off, then) total lt read so_far

pub list_out : (n i size : ℕ) (s : Selecting) (xs : List Lexeme) (total : Option Selectors) → n ≤ i
    → list_from (n - i) size s xs ≡ total → None ≡ total
unfolding list_from
list_out n i size s xs total le so_far =
    let k : n - i ≡ 0 = omega arith in
    let one : list_from (n - i) size s xs ≡ None = rw k refl in
    sym one ∙ so_far
