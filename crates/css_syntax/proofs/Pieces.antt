-- Blocks are read piece by piece, and without a fault.
use Rattle.std.proofs.Common.{◌≡◌, ℕ, zero, suc, ◌+◌, ◌-◌, ◌≤◌, List, [], ◌∷◌, ◌++◌, take, drop, length, Bool, true, false, cond}
use Rattle.std.proofs.Common.{◌&&◌}
use Rattle.std.proofs.Common.{refl, sym, ap, subst, ◌∙◌, append_assoc, append-nil, arith, length-append, inl, inr}
use Rattle.std.specs.Prelude.{◌⊎◌, ◌==◌, Option, Some, None, option_to_list, is_some}
use Rattle.std.proofs.lemmas.Bool.{ne_eqb}
use Rattle.css_data.specs.declared.rule.RawDeclaration.{RawDeclaration}
use Rattle.css_tokens.specs.declared.depth.Stop.TheVariants as stops
use Rattle.css_tokens.specs.declared.lexeme.Fault.{Fault}
use Rattle.css_tokens.specs.declared.lexeme.Lexeme.{Lexeme}
use Rattle.css_tokens.specs.declared.lexeme.Symbol.{Symbol}
use Rattle.css_tokens.specs.Facts.{is_delim, is_closer, closer_in, closer_of, broken_in, broken_of, behind_first, deeper}
use Rattle.css_tokens.specs.Facts.{front_len}
use Rattle.css_tokens.specs.Stops.{stops_at}
use Rattle.css_laws.specs.Values.{Values, Nil, One, Closed, Open, written, IsWhole, AreValues, fault_by, fault_of, faults_in}
use Rattle.css_syntax.specs.Brackets.{nothing_open, at_end, bracketed, block_fault}
use Rattle.css_syntax.specs.Blocks.{declaration_of, piece_len, declarations_from, declarations_of}
use Rattle.css_syntax.specs.Styling.{Declares, HaveNone, AreSound, ArePieces, AreDeclared, AreDeclarations}
use Rattle.css_syntax.proofs.Folding.{fault_as, Told}
use Rattle.css_syntax.proofs.BlockFaults.{Sign, closing_sign, is_symbol, whole_read, block_told, values_of, after}
use Rattle.css_syntax.proofs.DeclaredForms.{declares_found, declares_back, declares_none}

-- Values without a fault.

pub both_empty : (a b : List Fault) → a ++ b ≡ [] → (a ≡ []) × (b ≡ [])
both_empty [] b e = (refl, e)
both_empty (x ∷ a) b e = absurd cc

-- a token by itself that isn't at fault is no closing sign
pub no_closer : (x : Lexeme) → fault_of x ≡ [] → is_closer x ≡ false
no_closer x h = by_broken (broken_of x) h
  where
    by_closer : (b : Bool) → cond b (fault_as x.at 4 ∷ []) [] ≡ [] → b ≡ false
    by_closer true e = absurd cc
    by_closer false e = refl

    by_broken : (o : Option ℕ) → fault_by x o ≡ [] → is_closer x ≡ false
    by_broken (Some rule) e = absurd cc
    by_broken None e = by_closer (is_closer x) e

pub whole_of : (vs : Values) → faults_in vs ≡ [] → IsWhole vs
whole_of Nil h = tt
whole_of (One x more) h = whole_of more (both_empty (fault_of x) (faults_in more) h).1
whole_of (Closed a inside b more) h = whole_of more (both_empty (faults_in inside) (faults_in more) h).1
whole_of (Open a inside) h = absurd cc

-- How deep.

one_less : (test : Lexeme → Bool) (d : ℕ) (x : Lexeme) (xs : List Lexeme) → ((d == 0) && test x) ≡ false
    → front_len test d (x ∷ xs) ≡ 1 + front_len test (deeper d x) xs
one_less test d x xs h = ap (λ (b : Bool). cond b 0 (1 + front_len test (deeper d x) xs)) h

goes_down : (d : ℕ) (x : Lexeme) (c : ℕ) → closer_of x ≡ Some c → deeper d x ≡ suc d
goes_down d x c h = ap (λ (o : Option ℕ). cond (is_some o) (d + 1) (cond (is_closer x) (d - 1) d)) h ∙ more d
  where
    more : (d : ℕ) → d + 1 ≡ suc d
    more d = omega arith

goes_up : (d : ℕ) (b : Lexeme) → Sign b → deeper (suc d) b ≡ d
goes_up d b s =
    ap (λ (o : Option ℕ). cond (is_some o) (suc d + 1) (cond (is_closer b) (suc d - 1) (suc d))) s.opens_none
    ∙ ap (λ (x : Bool). cond x (suc d - 1) (suc d)) s.closer ∙ less d
  where
    less : (d : ℕ) → suc d - 1 ≡ d
    less d = omega arith

stays : (d : ℕ) (x : Lexeme) → closer_of x ≡ None → is_closer x ≡ false → deeper d x ≡ d
stays d x none closer =
    ap (λ (o : Option ℕ). cond (is_some o) (d + 1) (cond (is_closer x) (d - 1) d)) none
    ∙ ap (λ (b : Bool). cond b (d - 1) d) closer

not_flat : (d : ℕ) (b : Bool) → ((suc d == 0) && b) ≡ false
not_flat d b = ap (λ (x : Bool). x && b) (ne_eqb (suc d) 0 (λ e. absurd cc))

-- in a bracket nothing stops
deep : (test : Lexeme → Bool) (vs : Values) (around : Option ℕ) (d : ℕ) (rest : List Lexeme) → AreValues around vs
    → faults_in vs ≡ []
    → front_len test (suc d) (written vs ++ rest) ≡ length (written vs) + front_len test (suc d) rest
deep test Nil around d rest h e = let n = front_len test (suc d) rest in omega arith
deep test (One x more) around d rest h e =
    let f = both_empty (fault_of x) (faults_in more) e in
    let tail = written more ++ rest in
    let a : front_len test (suc d) (x ∷ tail) ≡ 1 + front_len test (suc d) tail =
    one_less test (suc d) x tail (not_flat d (test x))
    ∙ ap (λ (n : ℕ). 1 + front_len test n tail) (stays (suc d) x h.0 (no_closer x f.0)) in
    let b = deep test more around d rest h.2 f.1 in
    omega (arith, a, b)
deep test (Closed x inside y more) around d rest h e =
    let f = both_empty (faults_in inside) (faults_in more) e in
    let tail = written more ++ rest in
    let sign = closing_sign x y h.0 h.1 h.4 in
    let lists : (x ∷ (written inside ++ (y ∷ written more))) ++ rest ≡ x ∷ (written inside ++ (y ∷ tail)) =
    ap (λ (z : List Lexeme). x ∷ z) (append_assoc (written inside) (y ∷ written more) rest) in
    let a : front_len test (suc d) ((x ∷ (written inside ++ (y ∷ written more))) ++ rest)
    ≡ 1 + front_len test (suc (suc d)) (written inside ++ (y ∷ tail)) =
    ap (front_len test (suc d)) lists ∙ one_less test (suc d) x (written inside ++ (y ∷ tail)) (not_flat d (test x))
    ∙ ap (λ (n : ℕ). 1 + front_len test n (written inside ++ (y ∷ tail))) (goes_down (suc d) x h.0 h.1) in
    let b = deep test inside (Some h.0) (suc d) (y ∷ tail) h.2 f.0 in
    let c : front_len test (suc (suc d)) (y ∷ tail) ≡ 1 + front_len test (suc d) tail =
    one_less test (suc (suc d)) y tail (not_flat (suc d) (test y))
    ∙ ap (λ (n : ℕ). 1 + front_len test n tail) (goes_up (suc d) y sign) in
    let k = deep test more around d rest h.5 f.1 in
    let l = length-append (written inside) (y ∷ written more) in
    omega (arith, a, b, c, k, l)
deep test (Open x inside) around d rest h e = absurd cc

-- outside brackets nothing stops where no value does
pub flat : (test : Lexeme → Bool) (vs : Values) (around : Option ℕ) (rest : List Lexeme) → AreValues around vs → faults_in vs ≡ []
    → HaveNone test vs
    → front_len test 0 (written vs ++ rest) ≡ length (written vs) + front_len test 0 rest
flat test Nil around rest h e none = let n = front_len test 0 rest in omega arith
flat test (One x more) around rest h e none =
    let f = both_empty (fault_of x) (faults_in more) e in
    let tail = written more ++ rest in
    let a : front_len test 0 (x ∷ tail) ≡ 1 + front_len test 0 tail = one_less test 0 x tail none.0
    ∙ ap (λ (n : ℕ). 1 + front_len test n tail) (stays 0 x h.0 (no_closer x f.0)) in
    let b = flat test more around rest h.2 f.1 none.1 in
    omega (arith, a, b)
flat test (Closed x inside y more) around rest h e none =
    let f = both_empty (faults_in inside) (faults_in more) e in
    let tail = written more ++ rest in
    let sign = closing_sign x y h.0 h.1 h.4 in
    let lists : (x ∷ (written inside ++ (y ∷ written more))) ++ rest ≡ x ∷ (written inside ++ (y ∷ tail)) =
    ap (λ (z : List Lexeme). x ∷ z) (append_assoc (written inside) (y ∷ written more) rest) in
    let a : front_len test 0 ((x ∷ (written inside ++ (y ∷ written more))) ++ rest)
    ≡ 1 + front_len test (suc 0) (written inside ++ (y ∷ tail)) =
    ap (front_len test 0) lists ∙ one_less test 0 x (written inside ++ (y ∷ tail)) none.0
    ∙ ap (λ (n : ℕ). 1 + front_len test n (written inside ++ (y ∷ tail))) (goes_down 0 x h.0 h.1) in
    let b = deep test inside (Some h.0) 0 (y ∷ tail) h.2 f.0 in
    let c : front_len test (suc 0) (y ∷ tail) ≡ 1 + front_len test 0 tail = one_less test (suc 0) y tail (not_flat 0 (test y))
    ∙ ap (λ (n : ℕ). 1 + front_len test n tail) (goes_up 0 y sign) in
    let k = flat test more around rest h.5 f.1 none.1 in
    let l = length-append (written inside) (y ∷ written more) in
    omega (arith, a, b, c, k, l)
flat test (Open x inside) around rest h e none = absurd cc

-- Pieces.

abbrev semicolon : Lexeme → Bool
semicolon x = is_delim 59 x

sound_len : (p rest : List Lexeme) → AreSound (is_delim 59) p → piece_len (p ++ rest) ≡ length p + piece_len rest
sound_len p rest s =
    ap (λ (y : List Lexeme). piece_len (y ++ rest)) s.whole ∙ flat (is_delim 59) s.values None rest s.are s.sound s.apart
    ∙ ap (λ (y : List Lexeme). length y + piece_len rest) (sym s.whole)

pub front_take : (p rest : List Lexeme) → take (length p) (p ++ rest) ≡ p
front_take [] rest = refl
front_take (x ∷ p) rest = ap (λ (y : List Lexeme). x ∷ y) (front_take p rest)

pub front_drop : (p rest : List Lexeme) → drop (length p) (p ++ rest) ≡ rest
front_drop [] rest = refl
front_drop (x ∷ p) rest = front_drop p rest

record Heads (p : List Lexeme) (more : List (List Lexeme)) (all : List RawDeclaration) : Type 0 where
  others : List RawDeclaration
  whole : all ≡ option_to_list (declaration_of p) ++ others
  are : AreDeclared more others

heads : (p : List Lexeme) (more : List (List Lexeme)) (all : List RawDeclaration) → AreDeclared (p ∷ more) all → Heads p more all
heads p more all h = by_either h
  where
    by_either : ((d : RawDeclaration) × (others : List RawDeclaration) × (all ≡ d ∷ others) × Declares p d
        × AreDeclared more others)
        ⊎ (((d : RawDeclaration) → Declares p d → ⊥) × AreDeclared more all) → Heads p more all
    by_either (inl h) = record {
      others = h.1;
      whole = h.2
          ∙ ap (λ (o : Option RawDeclaration). option_to_list o ++ h.1) (sym (declares_back p h.0 h.3));
      are = h.4;
    }
    by_either (inr h) = record {
      others = all;
      whole = ap (λ (o : Option RawDeclaration). option_to_list o ++ all) (sym (declares_none p h.0));
      are = h.1;
    }

nothing : (n : ℕ) → declarations_from n [] ≡ []
unfolding declarations_from
nothing zero = refl
nothing (suc n) = refl

no_declaration : declaration_of [] ≡ None
unfolding declaration_of
no_declaration = refl

one_piece : (k : ℕ) (xs p rest : List Lexeme) → suc zero ≤ length xs → xs ≡ p ++ rest → piece_len xs ≡ length p
    → declarations_from (suc k) xs ≡ option_to_list (declaration_of p) ++ declarations_from k (behind_first rest)
unfolding declarations_from
one_piece k [] p rest some e len = absurd (omega (arith, some))
one_piece k (x ∷ xs) p rest some e len =
    let t : take (piece_len (x ∷ xs)) (x ∷ xs) ≡ p = ap (λ (n : ℕ). take n (x ∷ xs)) len ∙ ap (take (length p)) e
    ∙ front_take p rest in
    let d : drop (piece_len (x ∷ xs)) (x ∷ xs) ≡ rest = ap (λ (n : ℕ). drop n (x ∷ xs)) len ∙ ap (drop (length p)) e
    ∙ front_drop p rest in
    ap (λ (y : List Lexeme). option_to_list (declaration_of y) ++ declarations_from k
    (behind_first (drop (piece_len (x ∷ xs)) (x ∷ xs)))) t
    ∙ ap (λ (y : List Lexeme). option_to_list (declaration_of p) ++ declarations_from k (behind_first y)) d

last_piece : (n : ℕ) (p : List Lexeme) → AreSound (is_delim 59) p → length p ≤ n
    → declarations_from n p ≡ option_to_list (declaration_of p) ++ []
last_piece n [] s le = nothing n ∙ ap (λ (o : Option RawDeclaration). option_to_list o ++ []) (sym no_declaration)
last_piece zero (x ∷ p) s le = absurd (omega (arith, le))
last_piece (suc k) (x ∷ p) s le =
    let all = x ∷ p in
    let l : piece_len all ≡ length all = ap piece_len (sym (append-nil all)) ∙ sound_len all [] s ∙ none (length all) in
    one_piece k all all [] (omega arith) (sym (append-nil all)) l
    ∙ ap (λ (y : List RawDeclaration). option_to_list (declaration_of all) ++ y) (nothing k)
  where
    none : (n : ℕ) → n + 0 ≡ n
    none n = omega arith

pub pieces_back : (n : ℕ) (ps : List (List Lexeme)) (xs : List Lexeme) (all : List RawDeclaration) → ArePieces ps xs
    → AreDeclared ps all → length xs ≤ n → declarations_from n xs ≡ all
pieces_back n [] xs all h d le = absurd h
pieces_back n (p ∷ more) xs all h d le = by_end h.1 (λ k rest others. pieces_back k more rest others)
  where
    g : Heads p more all
    g = heads p more all d

    nothing_more : (ps : List (List Lexeme)) (others : List RawDeclaration) → ps ≡ [] → AreDeclared ps others → others ≡ []
    nothing_more [] others e h = h
    nothing_more (q ∷ qs) others e h = absurd cc

    step : (n : ℕ) (semi : Lexeme) (rest : List Lexeme) → xs ≡ p ++ (semi ∷ rest) → is_delim 59 semi ≡ true → length xs ≤ n
        → ((k : ℕ) → length rest ≤ k → declarations_from k rest ≡ g.others) → declarations_from n xs ≡ all
    step zero semi rest e s le below = let l = ap length e ∙ length-append p (semi ∷ rest) in absurd (omega (arith, l, le))
    step (suc k) semi rest e s le below =
        let l = ap length e ∙ length-append p (semi ∷ rest) in
        let stop : piece_len (semi ∷ rest) ≡ 0 =
        ap (λ (b : Bool). cond b 0 (1 + front_len (stops_at (stops.At 59)) (deeper 0 semi) rest)) s in
        let len : piece_len xs ≡ length p = ap piece_len e ∙ sound_len p (semi ∷ rest) h.0 ∙ ap (λ (n : ℕ). length p + n) stop
        ∙ none (length p) in
        one_piece k xs p (semi ∷ rest) (omega (arith, l)) e len
        ∙ ap (λ (y : List RawDeclaration). option_to_list (declaration_of p) ++ y) (below k (omega (arith, l, le))) ∙ sym g.whole
      where
        none : (n : ℕ) → n + 0 ≡ n
        none n = omega arith

    by_end : ((xs ≡ p) × (more ≡ []))
        ⊎ ((semicolon : Lexeme) × (rest : List Lexeme) × (xs ≡ p ++ (semicolon ∷ rest)) × (is_delim 59 semicolon ≡ true)
        × ArePieces more rest)
        → ((k : ℕ) (rest : List Lexeme) (others : List RawDeclaration) → ArePieces more rest → AreDeclared more others
        → length rest ≤ k → declarations_from k rest ≡ others) → declarations_from n xs ≡ all
    by_end (inl e) below =
        let l = ap length e.0 in
        ap (declarations_from n) e.0 ∙ last_piece n p h.0 (omega (arith, l, le))
        ∙ ap (λ (y : List RawDeclaration). option_to_list (declaration_of p) ++ y) (sym (nothing_more more g.others e.1 g.are))
        ∙ sym g.whole
    by_end (inr e) below = step n e.0 e.1 e.2 e.3 le (λ k l. below k e.1 g.others e.4 g.are l)

-- Values without a fault are pieces.

sound_nil : AreSound (is_delim 59) []
sound_nil = record { values = Nil; whole = refl; are = tt; sound = refl; apart = tt }

sound_one : (x : Lexeme) (p : List Lexeme) → closer_of x ≡ None → fault_of x ≡ [] → is_delim 59 x ≡ false
    → AreSound (is_delim 59) p → AreSound (is_delim 59) (x ∷ p)
sound_one x p none fault other s = record {
  values = One x s.values;
  whole = ap (λ (y : List Lexeme). x ∷ y) s.whole;
  are = (none, refl, s.are);
  sound = ap (λ (y : List Fault). y ++ faults_in s.values) fault ∙ s.sound;
  apart = (other, s.apart);
}

-- what opens a bracket is no semicolon
pub no_semicolon : (x : Lexeme) (c : ℕ) → closer_of x ≡ Some c → is_delim 59 x ≡ false
no_semicolon x c h = by_test (is_delim 59 x) refl
  where
    none : (o : Option ℕ) → o ≡ Some c → o ≡ None → ⊥
    none o a b = cc

    by_test : (b : Bool) → is_delim 59 x ≡ b → is_delim 59 x ≡ false
    by_test true e = absurd (none (closer_of x) h (ap closer_in (is_symbol x 59 e)))
    by_test false e = e

sound_closed : (x : Lexeme) (inside : Values) (y : Lexeme) (c : ℕ) (p : List Lexeme) → closer_of x ≡ Some c
    → AreValues (Some c) inside → IsWhole inside → is_delim c y ≡ true → faults_in inside ≡ []
    → AreSound (is_delim 59) p → AreSound (is_delim 59) ((x ∷ (written inside ++ y ∷ [])) ++ p)
sound_closed x inside y c p opens are whole closes fault s = record {
  values = Closed x inside y s.values;
  whole = ap (λ (z : List Lexeme). x ∷ z) (append_assoc (written inside) (y ∷ []) p
      ∙ ap (λ (z : List Lexeme). written inside ++ (y ∷ z)) s.whole);
  are = (c, opens, are, whole, closes, s.are);
  sound = ap (λ (z : List Fault). z ++ faults_in s.values) fault ∙ s.sound;
  apart = (no_semicolon x c opens, s.apart);
}

record Parted (xs : List Lexeme) : Type 0 where
  first : List Lexeme
  more : List (List Lexeme)
  are : ArePieces (first ∷ more) xs

-- with something more in the first piece
fronted : (front xs : List Lexeme) (p : Parted xs) → AreSound (is_delim 59) (front ++ p.first) → Parted (front ++ xs)
fronted front xs p s = record { first = front ++ p.first; more = p.more; are = (s, by_end p.are.1) }
  where
    by_end : ((xs ≡ p.first) × (p.more ≡ []))
        ⊎ ((semicolon : Lexeme) × (rest : List Lexeme) × (xs ≡ p.first ++ (semicolon ∷ rest)) × (is_delim 59 semicolon ≡ true)
        × ArePieces p.more rest)
        → ((front ++ xs ≡ front ++ p.first) × (p.more ≡ []))
        ⊎ ((semicolon : Lexeme) × (rest : List Lexeme) × (front ++ xs ≡ (front ++ p.first) ++ (semicolon ∷ rest))
        × (is_delim 59 semicolon ≡ true) × ArePieces p.more rest)
    by_end (inl e) = inl (ap (λ (y : List Lexeme). front ++ y) e.0, e.1)
    by_end (inr e) = inr (
      e.0,
      e.1,
      ap (λ (y : List Lexeme). front ++ y) e.2 ∙ sym (append_assoc front p.first (e.0 ∷ e.1)),
      e.3,
      e.4,
    )

pieces_found : (vs : Values) → AreValues None vs → faults_in vs ≡ [] → Parted (written vs)
pieces_found Nil h e = record { first = []; more = []; are = (sound_nil, inl (refl, refl)) }
pieces_found (One x more) h e = by_semicolon (pieces_found more h.2 f.1) (is_delim 59 x) refl
  where
    f : (fault_of x ≡ []) × (faults_in more ≡ [])
    f = both_empty (fault_of x) (faults_in more) e

    by_semicolon : Parted (written more) → (b : Bool) → is_delim 59 x ≡ b → Parted (x ∷ written more)
    by_semicolon p true s = record
        { first = []; more = p.first ∷ p.more; are = (sound_nil, inr (x, written more, refl, s, p.are)) }
    by_semicolon p false s = fronted (x ∷ []) (written more) p (sound_one x p.first h.0 f.0 s p.are.0)
pieces_found (Closed x inside y more) h e =
    let f = both_empty (faults_in inside) (faults_in more) e in
    let p = pieces_found more h.5 f.1 in
    let front = x ∷ (written inside ++ y ∷ []) in
    subst Parted (ap (λ (z : List Lexeme). x ∷ z) (append_assoc (written inside) (y ∷ []) (written more)))
    (fronted front (written more) p (sound_closed x inside y h.0 p.first h.1 h.2 h.3 h.4 f.0 p.are.0))
pieces_found (Open x inside) h e = absurd cc

abbrev all_declared : List (List Lexeme) → List RawDeclaration
all_declared [] = []
all_declared (p ∷ more) = option_to_list (declaration_of p) ++ all_declared more

are_declared : (ps : List (List Lexeme)) → AreDeclared ps (all_declared ps)
are_declared [] = refl
are_declared (p ∷ more) = by_option (declaration_of p) refl (are_declared more)
  where
    none : (d : RawDeclaration) (o : Option RawDeclaration) → o ≡ None → o ≡ Some d → ⊥
    none d o a b = cc

    by_option : (o : Option RawDeclaration) → declaration_of p ≡ o → AreDeclared more (all_declared more)
        → AreDeclared (p ∷ more) (option_to_list o ++ all_declared more)
    by_option (Some d) e h = inl (d, all_declared more, refl, declares_found p d e, h)
    by_option None e h = inr (λ d says. none d (declaration_of p) e (declares_back p d says), h)

-- Blocks.

pub no_faults : (fs : List Fault) → Told None fs → fs ≡ []
no_faults [] t = refl
no_faults (f ∷ fs) t = absurd (t f (inl refl))

pub block_found : (xs : List Lexeme) → block_fault xs ≡ None → AreDeclarations xs (declarations_of xs)
block_found xs h =
    let v = values_of xs in
    let told : Told None (faults_in v.0) =
    subst (λ (o : Option Fault). Told o (faults_in v.0)) (ap block_fault v.2 ∙ h) (block_told v.0 v.1) in
    let p = subst Parted v.2 (pieces_found v.0 v.1 (no_faults (faults_in v.0) told)) in
    let ps = p.first ∷ p.more in
    let are = are_declared ps in
    let same = pieces_back (length xs) ps xs (all_declared ps) p.are are (omega arith) in
    record { pieces = ps; parted = p.are; declared = subst (AreDeclared ps) (sym same) are }

sound_read : (p rest : List Lexeme) → AreSound (is_delim 59) p → bracketed nothing_open (p ++ rest) ≡ bracketed nothing_open rest
sound_read p rest s =
    ap (λ (y : List Lexeme). bracketed nothing_open (y ++ rest)) s.whole
    ∙ whole_read s.values None nothing_open rest s.are (whole_of s.values s.sound) (λ x. refl)
    ∙ ap (λ (fs : List Fault). bracketed (after nothing_open fs) rest) s.sound

semicolon_read : (x : Lexeme) (rest : List Lexeme) → is_delim 59 x ≡ true
    → bracketed nothing_open (x ∷ rest) ≡ bracketed nothing_open rest
semicolon_read x rest h =
    let e = is_symbol x 59 h in
    let sound : fault_of x ≡ [] = ap (λ (y : Symbol). cond_fault x.at y) e in
    whole_read (One x Nil) None nothing_open rest (ap closer_in e, refl, tt) tt (λ y. refl)
    ∙ ap (λ (fs : List Fault). bracketed (after nothing_open (fs ++ [])) rest) sound
  where
    cond_fault : ℕ → Symbol → List Fault
    cond_fault at y = fault_by (record { at = at; symbol = y }) (broken_in y)

block_read : (ps : List (List Lexeme)) (xs : List Lexeme) → ArePieces ps xs → bracketed nothing_open xs ≡ nothing_open
block_read [] xs h = absurd h
block_read (p ∷ more) xs h = by_end h.1 (block_read more)
  where
    by_end : ((xs ≡ p) × (more ≡ []))
        ⊎ ((semicolon : Lexeme) × (rest : List Lexeme) × (xs ≡ p ++ (semicolon ∷ rest)) × (is_delim 59 semicolon ≡ true)
        × ArePieces more rest)
        → ((rest : List Lexeme) → ArePieces more rest → bracketed nothing_open rest ≡ nothing_open)
        → bracketed nothing_open xs ≡ nothing_open
    by_end (inl e) below = ap (bracketed nothing_open) (e.0 ∙ sym (append-nil p)) ∙ sound_read p [] h.0
    by_end (inr e) below = ap (bracketed nothing_open) e.2 ∙ sound_read p (e.0 ∷ e.1) h.0 ∙ semicolon_read e.0 e.1 e.3
        ∙ below e.1 e.4

pub block_back : (xs : List Lexeme) (all : List RawDeclaration) → AreDeclarations xs all
    → (block_fault xs ≡ None) × (declarations_of xs ≡ all)
block_back xs all h = (
  ap at_end (block_read h.pieces xs h.parted),
  pieces_back (length xs) h.pieces xs all h.parted h.declared (omega arith),
)
