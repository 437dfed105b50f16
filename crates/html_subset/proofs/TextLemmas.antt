-- Looking ahead.
use Rattle.std.proofs.Common.{◌≡◌, ℕ, suc, ◌+◌, ◌-◌, ◌<◌, List, [], ◌∷◌, length, drop, None, false, refl, ap, ◌∙◌, sym, arith}
use Rattle.std.proofs.Common.{drop-cons}
use Rattle.std.proofs.lemmas.List.{drop_all}
use Rattle.html_grammar.specs.declared.place.Place.{Place}
use Rattle.html_grammar.specs.Places.{first, behind_first}
use Rattle.html_grammar.specs.Lexing.{begins_text, begins_folded}

-- where the text ends, no more characters come
pub text_out : (wanted : List ℕ) (i : ℕ) (ps : List Place) → i < length wanted → first ps ≡ None
    → begins_text (drop i wanted) ps ≡ false
text_out wanted i [] lt none = rw (drop-cons wanted i 0 lt) refl
text_out wanted i (p ∷ ps) lt none = absurd cc

pub folded_out : (wanted : List ℕ) (i : ℕ) (ps : List Place) → i < length wanted → first ps ≡ None
    → begins_folded (drop i wanted) ps ≡ false
folded_out wanted i [] lt none = rw (drop-cons wanted i 0 lt) refl
folded_out wanted i (p ∷ ps) lt none = absurd cc

drop_first : (k : ℕ) (ps : List Place) → drop k (behind_first ps) ≡ drop (suc k) ps
drop_first k [] = drop_all k [] (omega arith)
drop_first k (p ∷ ps) = refl

pub past_one : (n i : ℕ) (ps : List Place) → i < n → drop (n - (i + 1)) (behind_first ps) ≡ drop (n - i) ps
past_one n i ps lt =
    let k : n - i ≡ suc (n - (i + 1)) = omega arith in
    drop_first (n - (i + 1)) ps ∙ ap (λ (m : ℕ). drop m ps) (sym k)
