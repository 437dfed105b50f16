-- White space at the ends of lists of tokens, and the last of a list.
use Rattle.std.proofs.Common.{◌≡◌, ℕ, suc, ◌+◌, ◌-◌, List, [], ◌∷◌, ◌++◌, take, length, Bool, true, false, cond, ◌&&◌}
use Rattle.std.proofs.Common.{refl, sym, ap, ◌∙◌, arith, length-append}
use Rattle.std.specs.Prelude.{◌==◌, Some, slice_get}
use Rattle.std.proofs.lemmas.Bool.{and_parts}
use Rattle.css_tokens.specs.declared.lexeme.Lexeme.{Lexeme}
use Rattle.css_tokens.specs.Facts.{is_space, begins_space, behind_spaces}
use Rattle.css_syntax.specs.Blocks.{trimmed_len, trimmed, last, before_last}
use Rattle.css_syntax.specs.Styling.{AreSpaces, ends_space}

-- White space in front.

pub record Fronted (xs : List Lexeme) : Type 0 where
  pub white : List Lexeme
  pub whole : xs ≡ white ++ behind_spaces xs
  pub spaces : AreSpaces white
  pub stops : begins_space (behind_spaces xs) ≡ false

pub fronted : (xs : List Lexeme) → Fronted xs
fronted [] = record { white = []; whole = refl; spaces = tt; stops = refl }
fronted (x ∷ xs) = by_space (fronted xs) (is_space x) refl
  where
    by_space : Fronted xs → (b : Bool) → is_space x ≡ b → Fronted (x ∷ xs)
    by_space f true e =
        let same : behind_spaces (x ∷ xs) ≡ behind_spaces xs = ap (λ (b : Bool). cond b (behind_spaces xs) (x ∷ xs)) e in
        record {
          white = x ∷ f.white;
          whole = ap (λ (y : List Lexeme). x ∷ y) f.whole ∙ ap (λ (y : List Lexeme). x ∷ (f.white ++ y)) (sym same);
          spaces = (e, f.spaces);
          stops = ap begins_space same ∙ f.stops;
        }
    by_space f false e =
        let same : behind_spaces (x ∷ xs) ≡ x ∷ xs = ap (λ (b : Bool). cond b (behind_spaces xs) (x ∷ xs)) e in
        record { white = []; whole = sym same; spaces = tt; stops = ap begins_space same ∙ e }

pub no_front : (xs : List Lexeme) → begins_space xs ≡ false → behind_spaces xs ≡ xs
no_front [] h = refl
no_front (x ∷ xs) h = ap (λ (b : Bool). cond b (behind_spaces xs) (x ∷ xs)) h

pub spaces_back : (white xs : List Lexeme) → AreSpaces white → begins_space xs ≡ false → behind_spaces (white ++ xs) ≡ xs
spaces_back [] xs h stops = no_front xs stops
spaces_back (x ∷ white) xs h stops = ap (λ (b : Bool). cond b (behind_spaces (white ++ xs)) (x ∷ (white ++ xs))) h.0
    ∙ spaces_back white xs h.1 stops

-- White space at the end.

abbrev is_nil : List Lexeme → Bool
is_nil [] = true
is_nil (x ∷ xs) = false

-- without it
abbrev pub cut : List Lexeme → List Lexeme
cut [] = []
cut (x ∷ xs) = cond (is_space x && is_nil (cut xs)) [] (x ∷ cut xs)

cut_both : (xs : List Lexeme) → (trimmed xs ≡ cut xs) × ((trimmed_len xs == 0) ≡ is_nil (cut xs))
cut_both [] = (refl, refl)
cut_both (x ∷ xs) = by_end (cut_both xs) (is_space x && is_nil (cut xs)) refl
  where
    one_more : (n : ℕ) → 1 + n ≡ suc n
    one_more n = omega arith

    some_more : (n : ℕ) → ((1 + n) == 0) ≡ false
    some_more n = grind arith

    by_end : (trimmed xs ≡ cut xs) × ((trimmed_len xs == 0) ≡ is_nil (cut xs)) → (b : Bool) → (is_space x && is_nil (cut xs)) ≡ b
        → (trimmed (x ∷ xs) ≡ cut (x ∷ xs)) × ((trimmed_len (x ∷ xs) == 0) ≡ is_nil (cut (x ∷ xs)))
    by_end h true e =
        let test : (is_space x && (trimmed_len xs == 0)) ≡ true = ap (λ (b : Bool). is_space x && b) h.1 ∙ e in (
          ap (λ (b : Bool). take (cond b 0 (1 + trimmed_len xs)) (x ∷ xs)) test
              ∙ sym (ap (λ (b : Bool). cond b [] (x ∷ cut xs)) e),
          ap (λ (b : Bool). cond b 0 (1 + trimmed_len xs) == 0) test ∙ sym (ap (λ (b : Bool). is_nil (cond b [] (x ∷ cut xs))) e),
        )
    by_end h false e =
        let test : (is_space x && (trimmed_len xs == 0)) ≡ false = ap (λ (b : Bool). is_space x && b) h.1 ∙ e in (
          ap (λ (b : Bool). take (cond b 0 (1 + trimmed_len xs)) (x ∷ xs)) test
              ∙ ap (λ (n : ℕ). take n (x ∷ xs)) (one_more (trimmed_len xs)) ∙ ap (λ (y : List Lexeme). x ∷ y) h.0
              ∙ sym (ap (λ (b : Bool). cond b [] (x ∷ cut xs)) e),
          ap (λ (b : Bool). cond b 0 (1 + trimmed_len xs) == 0) test ∙ some_more (trimmed_len xs)
              ∙ sym (ap (λ (b : Bool). is_nil (cond b [] (x ∷ cut xs))) e),
        )

pub trimmed_cut : (xs : List Lexeme) → trimmed xs ≡ cut xs
trimmed_cut xs = (cut_both xs).0

pub record Ended (xs : List Lexeme) : Type 0 where
  pub white : List Lexeme
  pub whole : xs ≡ cut xs ++ white
  pub spaces : AreSpaces white
  pub stops : ends_space (cut xs) ≡ false

pub cut_ended : (xs : List Lexeme) → Ended xs
cut_ended [] = record { white = []; whole = refl; spaces = tt; stops = refl }
cut_ended (x ∷ xs) = by_end (is_space x && is_nil (cut xs)) refl (cut_ended xs)
  where
    nothing : (ys : List Lexeme) → is_nil ys ≡ true → ys ≡ []
    nothing [] h = refl
    nothing (y ∷ ys) h = absurd cc

    stops : (ys : List Lexeme) → (is_space x && is_nil ys) ≡ false → ends_space ys ≡ false → ends_space (x ∷ ys) ≡ false
    stops [] e h = by_true (is_space x) e
      where
        by_true : (b : Bool) → (b && true) ≡ false → b ≡ false
        by_true true e = e
        by_true false e = refl
    stops (y ∷ ys) e h = h

    by_end : (b : Bool) → (is_space x && is_nil (cut xs)) ≡ b → Ended xs → Ended (x ∷ xs)
    by_end true e t =
        let a = and_parts (is_space x) (is_nil (cut xs)) e in
        let none = nothing (cut xs) a.1 in
        let same : cut (x ∷ xs) ≡ [] = ap (λ (b : Bool). cond b [] (x ∷ cut xs)) e in
        record {
          white = x ∷ t.white;
          whole = ap (λ (y : List Lexeme). x ∷ y) (t.whole ∙ ap (λ (y : List Lexeme). y ++ t.white) none)
              ∙ ap (λ (y : List Lexeme). y ++ (x ∷ t.white)) (sym same);
          spaces = (a.0, t.spaces);
          stops = ap ends_space same;
        }
    by_end false e t =
        let same : cut (x ∷ xs) ≡ x ∷ cut xs = ap (λ (b : Bool). cond b [] (x ∷ cut xs)) e in
        record {
          white = t.white;
          whole = ap (λ (y : List Lexeme). x ∷ y) t.whole ∙ ap (λ (y : List Lexeme). y ++ t.white) (sym same);
          spaces = t.spaces;
          stops = ap ends_space same ∙ stops (cut xs) e t.stops;
        }

cut_spaces : (white : List Lexeme) → AreSpaces white → cut white ≡ []
cut_spaces [] h = refl
cut_spaces (x ∷ white) h =
    ap (λ (b : Bool). cond (b && is_nil (cut white)) [] (x ∷ cut white)) h.0
    ∙ ap (λ (y : List Lexeme). cond (is_nil y) [] (x ∷ cut white)) (cut_spaces white h.1)

-- white space behind what doesn't end with it goes
pub cut_back : (xs white : List Lexeme) → ends_space xs ≡ false → AreSpaces white → cut (xs ++ white) ≡ xs
cut_back [] white h spaces = cut_spaces white spaces
cut_back (x ∷ []) white h spaces =
    ap (λ (b : Bool). cond (b && is_nil (cut white)) [] (x ∷ cut white)) h
    ∙ ap (λ (y : List Lexeme). x ∷ y) (cut_spaces white spaces)
cut_back (x ∷ (y ∷ xs)) white h spaces =
    let more = cut_back (y ∷ xs) white h spaces in
    ap (λ (z : List Lexeme). cond (is_space x && is_nil z) [] (x ∷ z)) more
    ∙ ap (λ (b : Bool). cond b [] (x ∷ (y ∷ xs))) (none (is_space x))
  where
    none : (b : Bool) → (b && false) ≡ false
    none true = refl
    none false = refl

-- The last of a list.

one_less : (xs : List Lexeme) (x : Lexeme) → length (xs ++ x ∷ []) - 1 ≡ length xs
one_less xs x = let l = length-append xs (x ∷ []) in omega (arith, l)

pub last_back : (xs : List Lexeme) (x : Lexeme) → last (xs ++ x ∷ []) ≡ Some x
last_back xs x = ap (λ (n : ℕ). slice_get (xs ++ x ∷ []) n) (one_less xs x) ∙ last_of xs
  where
    last_of : (ys : List Lexeme) → slice_get (ys ++ x ∷ []) (length ys) ≡ Some x
    last_of [] = refl
    last_of (y ∷ ys) = last_of ys

pub front_back : (xs : List Lexeme) (x : Lexeme) → before_last (xs ++ x ∷ []) ≡ xs
front_back xs x = ap (λ (n : ℕ). take n (xs ++ x ∷ [])) (one_less xs x) ∙ front_of xs
  where
    front_of : (ys : List Lexeme) → take (length ys) (ys ++ x ∷ []) ≡ ys
    front_of [] = refl
    front_of (y ∷ ys) = ap (λ (z : List Lexeme). y ∷ z) (front_of ys)

pub record Lasting (xs : List Lexeme) : Type 0 where
  pub front : List Lexeme
  pub final : Lexeme
  pub whole : xs ≡ front ++ final ∷ []

pub lasting : (x : Lexeme) (xs : List Lexeme) → Lasting (x ∷ xs)
lasting x [] = record { front = []; final = x; whole = refl }
lasting x (y ∷ xs) = let l = lasting y xs
    in record { front = x ∷ l.front; final = l.final; whole = ap (λ (z : List Lexeme). x ∷ z) l.whole }

-- what stands last isn't white space
pub ends_other : (xs : List Lexeme) (x : Lexeme) → is_space x ≡ false → ends_space (xs ++ x ∷ []) ≡ false
ends_other [] x h = h
ends_other (y ∷ []) x h = h
ends_other (y ∷ (z ∷ xs)) x h = ends_other (z ∷ xs) x h
