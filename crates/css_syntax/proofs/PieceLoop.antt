-- Reading pieces one after the other, as a loop does.
use Rattle.std.proofs.Common.{◌≡◌, ℕ, zero, suc, ◌+◌, ◌-◌, ◌≤◌, ◌<◌, List, [], ◌∷◌, ◌++◌, take, drop, Option, Some, None, refl}
use Rattle.std.proofs.Common.{sym, ap, ◌∙◌, arith, append_assoc}
use Rattle.std.specs.Prelude.{option_to_list}
use Rattle.std.proofs.lemmas.List.{append-nil}
use Rattle.css_data.specs.declared.rule.RawDeclaration.{RawDeclaration}
use Rattle.css_tokens.specs.declared.lexeme.Lexeme.{Lexeme}
use Rattle.css_tokens.specs.Facts.{first, behind_first}
use Rattle.css_syntax.specs.Blocks.{declaration_of, piece_len, declarations_from}

nothing_behind : (k : ℕ) (xs : List Lexeme) → first xs ≡ None → declarations_from k xs ≡ []
unfolding declarations_from
nothing_behind zero xs h = refl
nothing_behind (suc k) [] h = refl
nothing_behind (suc k) (x ∷ xs) h = absurd cc

nothing_counted : (xs : List Lexeme) → declarations_from 0 xs ≡ []
unfolding declarations_from
nothing_counted xs = refl

ended : (all none total : List RawDeclaration) → none ≡ [] → all ++ none ≡ total → all ≡ total
ended all none total e h = sym (append-nil all) ∙ ap (λ (t : List RawDeclaration). all ++ t) (sym e) ∙ h

pub nothing_left : (k : ℕ) (all total : List RawDeclaration) (xs : List Lexeme) → first xs ≡ None
    → all ++ declarations_from k xs ≡ total → all ≡ total
nothing_left k all total xs none so_far = ended all (declarations_from k xs) total (nothing_behind k xs none) so_far

pub no_piece_left : (n i : ℕ) (all total : List RawDeclaration) (xs : List Lexeme) → n ≤ i
    → all ++ declarations_from (n - i) xs ≡ total → all ≡ total
no_piece_left n i all total xs le so_far =
    let k : n - i ≡ 0 = omega arith in
    ended all (declarations_from (n - i) xs) total (ap (λ (m : ℕ). declarations_from m xs) k ∙ nothing_counted xs) so_far

one_piece : (k : ℕ) (x : Lexeme) (xs : List Lexeme)
    → declarations_from (suc k) (x ∷ xs) ≡ option_to_list (declaration_of (take (piece_len (x ∷ xs)) (x ∷ xs)))
    ++ declarations_from k (behind_first (drop (piece_len (x ∷ xs)) (x ∷ xs)))
unfolding declarations_from
one_piece k x xs = refl

pub goes_on : (n i : ℕ) (all then total : List RawDeclaration) (xs piece rest after : List Lexeme) (x : Lexeme)
    (d : Option RawDeclaration) → i < n → first xs ≡ Some x
    → piece ≡ take (piece_len xs) xs → rest ≡ drop (piece_len xs) xs → after ≡ behind_first rest → d ≡ declaration_of piece
    → then ≡ all ++ option_to_list d → all ++ declarations_from (n - i) xs ≡ total
    → then ++ declarations_from (n - (i + 1)) after ≡ total
goes_on n i all then total [] piece rest after x d lt some front back behind read grown so_far = absurd cc
goes_on n i all then total (y ∷ ys) piece rest after x d lt some front back behind read grown so_far =
    let m = n - (i + 1) in
    let k : n - i ≡ suc m = omega arith in
    let now : d ≡ declaration_of (take (piece_len (y ∷ ys)) (y ∷ ys)) = read ∙ ap declaration_of front in
    let later : after ≡ behind_first (drop (piece_len (y ∷ ys)) (y ∷ ys)) = behind ∙ ap behind_first back in
    let two : option_to_list d ++ declarations_from m after ≡ declarations_from (n - i) (y ∷ ys) =
    ap (λ (o : Option RawDeclaration). option_to_list o ++ declarations_from m after) now
    ∙ ap (λ (zs : List Lexeme). option_to_list (declaration_of (take (piece_len (y ∷ ys)) (y ∷ ys))) ++ declarations_from m
    zs) later
    ∙ sym (one_piece m y ys) ∙ ap (λ (j : ℕ). declarations_from j (y ∷ ys)) (sym k) in
    rw grown (append_assoc all (option_to_list d) (declarations_from m after)
    ∙ (ap (λ (t : List RawDeclaration). all ++ t) two ∙ so_far))
