-- Reading a text is cutting it into its tokens.
use Rattle.std.proofs.Common.{◌≡◌, ℕ, zero, suc, ◌+◌, ◌≤◌, List, [], ◌∷◌, ◌++◌, take, length, Bool, true, false, cond, not}
use Rattle.std.proofs.Common.{nat_lt, Result, Ok, Err, refl, sym, ap, ◌∙◌, arith, length-append}
use Rattle.std.specs.Prelude.{Option, option_to_list, min, chars, IsUtf8, take_while}
use Rattle.std.specs.List.{prefix_len}
use Rattle.std.proofs.lemmas.Bool.{ne_eqb, ltb-true, lt-ltb}
use Rattle.std.proofs.lemmas.Str.{utf8_valid_len-IsUtf8}
use Rattle.mc_base.specs.SoundText.{sound_len, is_nonzero}
use Rattle.html_grammar.specs.declared.place.Place.{Place}
use Rattle.html_grammar.specs.Places.{places_of}
use Rattle.html_grammar.specs.Documents.{NoZero}
use Rattle.html_grammar.proofs.Texts.{bytes_are_good, places_fit}
use Rattle.css_tokens.specs.declared.lexeme.Fault.{Fault}
use Rattle.css_tokens.specs.declared.lexeme.Lexeme.{Lexeme}
use Rattle.css_tokens.specs.Lexing.{piece_at, lexemes_from, lexed}
use Rattle.css_laws.specs.Texts.{IsNext, AreCut, tokens_in, IsTokens, IsBadByte}
use Rattle.css_laws.proofs.Runs.{same_front}
use Rattle.css_laws.proofs.Found.{piece, piece_has, some_places}
use Rattle.css_laws.proofs.Reach.{reach}

-- what stands first is read
next_read : (x : Option Lexeme) (one rest : List Place) → IsNext x one rest → piece_at (one ++ rest) ≡ piece x rest
next_read x [] rest n = let s = some_places x [] rest n.form in absurd (omega (arith, s))
next_read x (p ∷ one) rest n =
    let all = p ∷ (one ++ rest) in
    let h = piece_has p (one ++ rest) in
    let r = piece_at all in
    let long = n.longest r.0 h.one r.1 h.whole h.is in
    let mine = reach x (p ∷ one) rest n.form in
    let far = mine.0 in
    let a : length all ≡ length (p ∷ one) + length rest = length-append (p ∷ one) rest in
    let b : length all ≡ length h.one + length r.1 = ap length h.whole ∙ length-append h.one r.1 in
    let same = same_front (p ∷ one) rest h.one r.1 h.whole (omega (arith, long, far, a, b)) in
    let alone : piece x [] ≡ piece r.0 [] = sym mine.1 ∙ ap (λ (y : List Place). piece_at (y ++ [])) same.0
    ∙ (reach r.0 h.one r.1 h.is).1 in
    ap (λ (y : Option Lexeme × List Place). piece y.0 r.1) (sym alone) ∙ ap (piece x) (sym same.1)

-- and what is read stands first
read_next : (p : Place) (ps : List Place) → IsNext (piece_at (p ∷ ps)).0 (piece_has p ps).one (piece_at (p ∷ ps)).1
read_next p ps = record {
  form = (piece_has p ps).is;
  longest = λ y longer more e k.
      let h = piece_has p ps in
      let r = piece_at (p ∷ ps) in
      let far = (reach y longer more k).0 in
      let same : length r.1 ≡ length (piece_at (longer ++ more)).1 =
      ap (λ (x : List Place). length (piece_at x).1) (h.whole ∙ e) in
      let l : length h.one + length r.1 ≡ length longer + length more = sym (length-append h.one r.1) ∙ ap length e
      ∙ length-append longer more in
      omega (arith, far, same, l);
}

nothing_left : (n : ℕ) → lexemes_from n [] ≡ []
unfolding lexemes_from
nothing_left zero = refl
nothing_left (suc n) = refl

one_step : (k : ℕ) (x : Option Lexeme) (one rest : List Place) → IsNext x one rest
    → lexemes_from (suc k) (one ++ rest) ≡ option_to_list x ++ lexemes_from k rest
unfolding lexemes_from
one_step k x [] rest n = let s = some_places x [] rest n.form in absurd (omega (arith, s))
one_step k x (p ∷ one) rest n = ap (λ (y : Option Lexeme × List Place). option_to_list y.0 ++ lexemes_from k y.1)
    (next_read x (p ∷ one) rest n)

-- what characters are cut into is read
cut_read : (n : ℕ) (cut : List (Option Lexeme)) (ps : List Place) → AreCut cut ps → length ps ≤ n
    → lexemes_from n ps ≡ tokens_in cut
cut_read n [] ps h le = ap (lexemes_from n) h ∙ nothing_left n
cut_read zero (x ∷ cut) ps h le =
    let s = some_places x h.0 h.1 h.3.form in
    let l = ap length h.2 ∙ length-append h.0 h.1 in
    absurd (omega (arith, s, l, le))
cut_read (suc k) (x ∷ cut) ps h le =
    let s = some_places x h.0 h.1 h.3.form in
    let l = ap length h.2 ∙ length-append h.0 h.1 in
    ap (lexemes_from (suc k)) h.2 ∙ one_step k x h.0 h.1 h.3
    ∙ ap (λ (y : List Lexeme). option_to_list x ++ y) (cut_read k cut h.1 h.4 (omega (arith, s, l, le)))

-- what is read is what the characters are cut into
read_cut : (n : ℕ) (ps : List Place) → length ps ≤ n → (cut : List (Option Lexeme)) × AreCut cut ps
    × (lexemes_from n ps ≡ tokens_in cut)
unfolding lexemes_from
read_cut zero [] le = ([], refl, refl)
read_cut zero (p ∷ ps) le = absurd (omega (arith, le))
read_cut (suc n) [] le = ([], refl, refl)
read_cut (suc n) (p ∷ ps) le =
    let h = piece_has p ps in
    let r = piece_at (p ∷ ps) in
    let s = some_places r.0 h.one r.1 h.is in
    let l = ap length h.whole ∙ length-append h.one r.1 in
    let more = read_cut n r.1 (omega (arith, s, l, le)) in
    (r.0 ∷ more.0, (h.one, r.1, h.whole, read_next p ps, more.1), ap (λ (y : List Lexeme). option_to_list r.0 ++ y) more.2)

-- Whole texts.

abbrev before_zero : List ℕ → ℕ
before_zero bytes = length (take_while is_nonzero bytes)

one_before : (b : ℕ) (bytes : List ℕ) → is_nonzero b ≡ true → before_zero (b ∷ bytes) ≡ suc (before_zero bytes)
one_before b bytes h =
    ap (λ (x : Bool). length (take (cond x (1 + prefix_len is_nonzero bytes) 0) (b ∷ bytes))) h
    ∙ ap (λ (n : ℕ). length (take n (b ∷ bytes))) (next (prefix_len is_nonzero bytes))
  where
    next : (n : ℕ) → 1 + n ≡ suc n
    next n = omega arith

all_before : (bytes : List ℕ) → NoZero bytes → before_zero bytes ≡ length bytes
all_before [] h = refl
all_before (b ∷ bytes) h = one_before b bytes (ap not (ne_eqb b 0 h.0)) ∙ ap suc (all_before bytes h.1)

good_bytes : (bytes : List ℕ) → IsUtf8 bytes → NoZero bytes → nat_lt (sound_len bytes) (length bytes) ≡ false
good_bytes bytes u z =
    let a = utf8_valid_len-IsUtf8 bytes u in
    let b = all_before bytes z in
    ap (λ (n : ℕ). nat_lt (min n (before_zero bytes)) (length bytes)) a
    ∙ ap (λ (n : ℕ). nat_lt (min (length bytes) n) (length bytes)) b ∙ at_length (length bytes)
  where
    at_length : (n : ℕ) → nat_lt (min n n) n ≡ false
    at_length n = grind arith

abbrev bad : List ℕ → Result (List Lexeme) Fault
bad bytes = Err (record { at = sound_len bytes; rule = 1 })

abbrev good : List ℕ → Result (List Lexeme) Fault
good bytes = Ok (lexemes_from (length bytes) (places_of (chars bytes)))

same_ok : (xs ys : List Lexeme) (r : Result (List Lexeme) Fault) → r ≡ Ok xs → r ≡ Ok ys → xs ≡ ys
same_ok xs ys r a b = cc

same_err : (f g : Fault) (r : Result (List Lexeme) Fault) → r ≡ Err f → r ≡ Err g → f ≡ g
same_err f g r a b = cc

pub tokens_said : (bytes : List ℕ) (xs : List Lexeme) → lexed bytes ≡ Ok xs → IsTokens bytes xs
unfolding lexed
tokens_said bytes xs h = by_bad (nat_lt (sound_len bytes) (length bytes)) refl h
  where
    by_bad : (b : Bool) → nat_lt (sound_len bytes) (length bytes) ≡ b → cond b (bad bytes) (good bytes) ≡ Ok xs
        → IsTokens bytes xs
    by_bad true e h = absurd cc
    by_bad false e h =
        let sound = bytes_are_good bytes e in
        let c = read_cut (length bytes) (places_of (chars bytes)) (places_fit bytes sound.0) in
        record {
          utf8 = sound.0;
          no_zero = sound.1;
          cut = c.0;
          cut_is = c.1;
          tokens_are = same_ok xs (lexemes_from (length bytes) (places_of (chars bytes))) (good bytes) h refl ∙ c.2;
        }

pub tokens_read : (bytes : List ℕ) (xs : List Lexeme) → IsTokens bytes xs → lexed bytes ≡ Ok xs
unfolding lexed
tokens_read bytes xs t =
    ap (λ (b : Bool). cond b (bad bytes) (good bytes)) (good_bytes bytes t.utf8 t.no_zero)
    ∙ ap (λ (ys : List Lexeme). Ok ys) (cut_read (length bytes) t.cut (places_of (chars bytes)) t.cut_is (places_fit bytes t.utf8)
    ∙ sym t.tokens_are)

pub one_list : (bytes : List ℕ) (xs ys : List Lexeme) → IsTokens bytes xs → IsTokens bytes ys → xs ≡ ys
one_list bytes xs ys a b = same_ok xs ys (lexed bytes) (tokens_read bytes xs a) (tokens_read bytes ys b)

pub bad_said : (bytes : List ℕ) (f : Fault) → lexed bytes ≡ Err f → IsBadByte bytes f
unfolding lexed
bad_said bytes f h = by_bad (nat_lt (sound_len bytes) (length bytes)) refl h
  where
    by_bad : (b : Bool) → nat_lt (sound_len bytes) (length bytes) ≡ b → cond b (bad bytes) (good bytes) ≡ Err f
        → IsBadByte bytes f
    by_bad true e h = record {
      before_end = ltb-true (sound_len bytes) (length bytes) e;
      which = same_err f (record { at = sound_len bytes; rule = 1 }) (bad bytes) h refl;
    }
    by_bad false e h = absurd cc

pub bad_refused : (bytes : List ℕ) (f : Fault) → IsBadByte bytes f → lexed bytes ≡ Err f
unfolding lexed
bad_refused bytes f h =
    ap (λ (b : Bool). cond b (bad bytes) (good bytes)) (lt-ltb (sound_len bytes) (length bytes) h.before_end)
    ∙ ap (λ (g : Fault). Err g) (sym h.which)
