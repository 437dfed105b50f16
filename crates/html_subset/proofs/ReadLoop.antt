-- Reading tokens one after the other, as a loop does.
use Rattle.std.proofs.Common.{◌≡◌, ℕ, zero, suc, ◌-◌, ◌+◌, ◌≤◌, ◌<◌, List, [], ◌∷◌, Option, Some, None, Result, Ok, Err, refl}
use Rattle.std.proofs.Common.{sym, ap, ◌∙◌, arith}
use Rattle.mc_base.specs.declared.refusal.Found.{Found}
use Rattle.html_grammar.specs.declared.place.Place.{Place}
use Rattle.mc_base.specs.declared.read_error.Fault.{Fault}
use Rattle.html_grammar.specs.declared.token.Token.{Token}
use Rattle.html_grammar.specs.Places.{first, behind_first}
use Rattle.html_grammar.specs.Tokens.{late_of, construct_of}
use Rattle.html_grammar.specs.Machine.{State, take_token}
use Rattle.html_grammar.specs.Lexing.{token_at}
use Rattle.html_grammar.specs.Whole.{Reading, or_found, not_late, concluded, read_from}
use Rattle.mc_base.specs.declared.read_error.ReadError.{ReadError}
use Rattle.mc_base.specs.declared.read_error.ReadError.TheVariants as errors
use Rattle.mc_base.specs.Reading.{◌>>=◌}
use Rattle.html_subset.specs.Gives.{Fails}
use Rattle.html_subset.specs.Turn.{turn}

abbrev Total : Type 0
Total = Result Reading Fault

by_state : (r : Result State Fault) (c : Option Found) (ps : List Place) (g : State → Option Found → List Place → Total)
    → (r >>= λ next. g next c ps)
    ≡ ((r >>= λ next. Ok (next, c, ps)) >>= λ (x : State × Option Found × List Place). g x.0 x.1 x.2)
by_state (Ok s) c ps g = refl
by_state (Err e) c ps g = refl

by_token : (r : Result (Token × List Place) Fault) (h : Token → Result State Fault)
    (g : State → Option Found → List Place → Total)
    → (r >>= λ t. h t.0 >>= λ next. g next (construct_of t.0) t.1)
    ≡ ((r >>= λ t. h t.0 >>= λ next. Ok (next, construct_of t.0, t.1)) >>= λ (x : State × Option Found × List Place).
    g x.0 x.1 x.2)
by_token (Ok t) h g = by_state (h t.0) (construct_of t.0) t.1 g
by_token (Err e) h g = refl

front_is : (ps : List Place) (p : Place) → first ps ≡ Some p → ps ≡ p ∷ behind_first ps
front_is [] p h = absurd cc
front_is (q ∷ ps) p h = let same_p : q ≡ p = cc in ap (λ (x : Place). x ∷ ps) same_p

one_turn : (k size : ℕ) (seen : Option Found) (s : State) (p : Place) (ps : List Place)
    → read_from (suc k) size seen s (p ∷ ps) ≡ (turn size s p ps >>= λ x. read_from k size (or_found seen x.1) x.0 x.2)
unfolding read_from turn
one_turn k size seen s p ps = by_token (token_at size p ps) (λ t. not_late (late_of t) (take_token s t))
    (λ next c qs. read_from k size (or_found seen c) next qs)

pub nothing_left : (k size : ℕ) (seen : Option Found) (s : State) (ps : List Place) (total : Total) → first ps ≡ None
    → read_from k size seen s ps ≡ total → concluded size seen s ≡ total
unfolding read_from
nothing_left zero size seen s [] total h e = e
nothing_left (suc k) size seen s [] total h e = e
nothing_left k size seen s (p ∷ ps) total h e = absurd cc

at_zero : (size : ℕ) (seen : Option Found) (s : State) (ps : List Place) → read_from 0 size seen s ps ≡ concluded size seen s
unfolding read_from
at_zero size seen s [] = refl
at_zero size seen s (p ∷ ps) = refl

pub no_turn_left : (n i size : ℕ) (seen : Option Found) (s : State) (ps : List Place) (total : Total) → n ≤ i
    → read_from (n - i) size seen s ps ≡ total → concluded size seen s ≡ total
no_turn_left n i size seen s ps total le e = let k : n - i ≡ 0 = omega arith in sym (at_zero size seen s ps)
    ∙ ap (λ (m : ℕ). read_from m size seen s ps) (sym k) ∙ e

turned : (n i size : ℕ) (seen : Option Found) (s : State) (ps : List Place) (p : Place) → i < n → first ps ≡ Some p
    → read_from (n - i) size seen s ps
    ≡ (turn size s p (behind_first ps) >>= λ x. read_from (n - (i + 1)) size (or_found seen x.1) x.0 x.2)
turned n i size seen s ps p lt h =
    let k : n - i ≡ suc (n - (i + 1)) = omega arith in
    ap (λ (m : ℕ). read_from m size seen s ps) k ∙ ap (read_from (suc (n - (i + 1))) size seen s) (front_is ps p h)
    ∙ one_turn (n - (i + 1)) size seen s p (behind_first ps)

pub goes_on : (n i size : ℕ) (seen then found : Option Found) (s next : State) (ps after : List Place) (p : Place) (total : Total)
    → i < n → first ps ≡ Some p
    → turn size s p (behind_first ps) ≡ Ok (next, found, after) → then ≡ or_found seen found
    → read_from (n - i) size seen s ps ≡ total → read_from (n - (i + 1)) size then next after ≡ total
goes_on n i size seen then found s next ps after p total lt h took is so_far =
    let one = turned n i size seen s ps p lt h in
    rw is (sym (rw took at one) ∙ so_far)

pub turn_fails : (e : ReadError Fault) (n i size : ℕ) (seen : Option Found) (s : State) (ps : List Place) (p : Place)
    (total : Total) → i < n → first ps ≡ Some p
    → Fails e (turn size s p (behind_first ps)) → read_from (n - i) size seen s ps ≡ total → Fails e total
turn_fails errors.Memory n i size seen s ps p total lt h fails so_far = tt
turn_fails (errors.Fault f) n i size seen s ps p total lt h fails so_far = let one = turned n i size seen s ps p lt h
    in sym so_far ∙ rw fails at one
