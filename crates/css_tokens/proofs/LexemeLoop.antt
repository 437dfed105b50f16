-- Reading lexemes one after the other, as a loop does.
use Rattle.std.proofs.Common.{◌≡◌, ℕ, zero, suc, ◌+◌, ◌-◌, ◌≤◌, ◌<◌, List, [], ◌∷◌, ◌++◌, Option, Some, None, refl, sym, ap, ◌∙◌}
use Rattle.std.proofs.Common.{arith, append_assoc}
use Rattle.std.specs.Prelude.{option_to_list}
use Rattle.std.proofs.lemmas.Grind.{common_steps}
use Rattle.html_grammar.specs.declared.place.Place.{Place}
use Rattle.html_grammar.specs.Places.{first}
use Rattle.css_tokens.specs.declared.lexeme.Lexeme.{Lexeme}
use Rattle.css_tokens.specs.Lexing.{piece_at, lexemes_from}

nothing_behind : (k : ℕ) (ps : List Place) → first ps ≡ None → lexemes_from k ps ≡ []
unfolding lexemes_from
nothing_behind zero ps h = refl
nothing_behind (suc k) [] h = refl
nothing_behind (suc k) (p ∷ ps) h = absurd cc

nothing_counted : (ps : List Place) → lexemes_from 0 ps ≡ []
unfolding lexemes_from
nothing_counted ps = refl

ended : (all none total : List Lexeme) → none ≡ [] → all ++ none ≡ total → all ≡ total
ended all none total e h = grind (arith, common_steps)

pub nothing_left : (k : ℕ) (all total : List Lexeme) (ps : List Place) → first ps ≡ None → all ++ lexemes_from k ps ≡ total
    → all ≡ total
nothing_left k all total ps none so_far = ended all (lexemes_from k ps) total (nothing_behind k ps none) so_far

pub no_turn_left : (n i : ℕ) (all total : List Lexeme) (ps : List Place) → n ≤ i → all ++ lexemes_from (n - i) ps ≡ total
    → all ≡ total
no_turn_left n i all total ps le so_far =
    let k : n - i ≡ 0 = omega arith in
    ended all (lexemes_from (n - i) ps) total (ap (λ (m : ℕ). lexemes_from m ps) k ∙ nothing_counted ps) so_far

one_turn : (k : ℕ) (p : Place) (ps after : List Place) (x : Option Lexeme) → (x, after) ≡ piece_at (p ∷ ps)
    → lexemes_from (suc k) (p ∷ ps) ≡ option_to_list x ++ lexemes_from k after
unfolding lexemes_from
one_turn k p ps after x read = ap (λ (r : Option Lexeme × List Place). option_to_list r.0 ++ lexemes_from k r.1) (sym read)

pub goes_on : (n i : ℕ) (all then total : List Lexeme) (ps after : List Place) (p : Place) (x : Option Lexeme) → i < n
    → first ps ≡ Some p → (x, after) ≡ piece_at ps
    → then ≡ all ++ option_to_list x → all ++ lexemes_from (n - i) ps ≡ total → then ++ lexemes_from (n - (i + 1)) after ≡ total
goes_on n i all then total [] after p x lt some read grown so_far = absurd cc
goes_on n i all then total (q ∷ qs) after p x lt some read grown so_far =
    let k : n - i ≡ suc (n - (i + 1)) = omega arith in
    let one = one_turn (n - (i + 1)) q qs after x read in
    let whole : lexemes_from (n - i) (q ∷ qs) ≡ option_to_list x ++ lexemes_from (n - (i + 1)) after =
    ap (λ (m : ℕ). lexemes_from m (q ∷ qs)) k ∙ one in
    rw grown (append_assoc all (option_to_list x) (lexemes_from (n - (i + 1)) after)
    ∙ (ap (λ (t : List Lexeme). all ++ t) (sym whole) ∙ so_far))
