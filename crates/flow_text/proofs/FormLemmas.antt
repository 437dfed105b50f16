-- What a line says is what is read in it.
use Rattle.std.proofs.Common.{◌≡◌, ℕ, zero, suc, ◌^◌, ◌<◌, ◌≤◌, List, [], ◌∷◌, ◌++◌, length, take, drop, get_or, Bool, true}
use Rattle.std.proofs.Common.{false, eqb, ltb, leb, cond, not, Option, Some, None, refl, sym, ap, ◌∙◌, subst, arith, inl, inr}
use Rattle.std.specs.Prelude.{IfSome, codes, nat_eq}
use Rattle.std.specs.Char.{is_ascii_digit}
use Rattle.std.specs.Int.{IsInRange}
use Rattle.std.specs.List.{starts_with}
use Rattle.std.specs.Str.{bytes_eq}
use Rattle.std.specs.Fmt.{decimal}
use Rattle.std.specs.Str.Parse.{digits_value, AllDigits}
use Rattle.std.proofs.Math.Nat.{pow-le-pow_right}
use Rattle.std.proofs.lemmas.List.{take-append-drop, take_at, drop_at, append-nil}
use Rattle.std.proofs.lemmas.Bool.{eqb-true, eqb-false, ne_eqb, eq-eqb, and_parts, leb-true, le-leb, ltb-false, le-ltb}
use Rattle.std.proofs.lemmas.Bool.Decides.{nat_tests, Decides-eqb}
use Rattle.std.proofs.lemmas.Slice.Eq.{bytes_eq-Decides, starts_is}
use Rattle.std.proofs.lemmas.Str.Parse.{IsNumeralModel, numerals_by_value, tells_digits, digit_at}
use Rattle.std.proofs.lemmas.Int.Digits.{digits_value-lt}
use Rattle.std.proofs.lemmas.Fmt.{digits_decimal, digits_value-decimal, decimal-digits_value, decimal_nonempty, first_decimal}
use Rattle.std.proofs.lemmas.Fmt.{length-decimal-le, decimal_digit}
use Rattle.mc_base.specs.declared.level.Level.{Level}
use Rattle.mc_base.specs.declared.level.Level.TheVariants.{Forced, L0, L1, L2}
use Rattle.mc_base.specs.Finding.{◌>>=◌}
use Rattle.mc_base.proofs.FindSteps.{some_step}
use Rattle.flow_text.specs.declared.line.Form.{Form}
use Rattle.flow_text.specs.declared.line.Form.TheVariants.{Flow, First, Margin, Solid, Wall, Start, End, Atom, Row, Break, Close}
use Rattle.flow_text.specs.Numbers.{IsNumber, field, digits_len, is_numeral, number_at, field_at}
use Rattle.flow_text.specs.Forms.{level_text, available_text, fill_text, inside_text, IsAmounts, IsForm, behind, alone}
use Rattle.flow_text.specs.Forms.{last_field, level_of, level_at, fill_at, or_else, inside_at, amounts_at, start_at, row_end}
use Rattle.flow_text.specs.Forms.{row_open, row_behind, row_at, word_of, form_of}
use Rattle.flow_text.proofs.NumberLemmas.{all_digits_front}

pub own : IsNumeralModel (AllDigits 10) (digits_value 10)
own = numerals_by_value (AllDigits 10) tells_digits

abbrev pub pass : {A : Type 0} → A → Option A
pass x = Some x

some_is : {A : Type 0} (x y : A) → pass x ≡ pass y → x ≡ y
some_is x y e = cc

guarded : {A : Type 0} (b : Bool) (x y : A) → cond b (pass x) None ≡ pass y → (b ≡ true) × (x ≡ y)
guarded true x y e = (refl, cc)
guarded false x y e = absurd cc

refused : {A : Type 0} (b : Bool) (r : Option A) (y : A) → cond b None r ≡ pass y → (b ≡ false) × (r ≡ pass y)
refused true r y e = absurd cc
refused false r y e = (refl, e)

-- numbers

-- what makes digits a number
record Small (ds : List ℕ) : Type 0 where
  some : 0 < length ds
  plain : get_or ds 0 0 ≡ 48 → length ds ≡ 1
  few : length ds ≤ 19

small : (ds : List ℕ) → is_numeral ds ≡ true → Small ds
small [] h = absurd cc
small (d ∷ []) h = record { some = omega arith; plain = λ e. refl; few = omega arith }
small (d ∷ e ∷ ds) h =
    let p = and_parts (not (eqb d 48)) (leb (length (d ∷ e ∷ ds)) 19) h in
    record {
      some = omega arith;
      plain = λ is. let same = eq-eqb d 48 is in let no = rw same at p.0 in absurd cc;
      few = leb-true (length (d ∷ e ∷ ds)) 19 p.1;
    }

is_small : (ds : List ℕ) → Small ds → is_numeral ds ≡ true
is_small [] h = absurd (let some = h.some in omega arith)
is_small (d ∷ []) h = refl
is_small (d ∷ e ∷ ds) h =
    let plain = h.plain in
    let few = h.few in
    let other : eqb d 48 ≡ false = ne_eqb d 48 (λ is. let one = plain is in omega arith) in
    rw (other, le-leb (suc (suc (length ds))) 19 few) refl

number_takes : (bytes : List ℕ) (x : ℕ × List ℕ) → number_at bytes ≡ Some x → (bytes ≡ decimal x.0 ++ x.1) × IsNumber x.0
unfolding number_at
number_takes bytes x h =
    let g = guarded (is_numeral (take (digits_len bytes) bytes)) _ x h in
    let s = small (take (digits_len bytes) bytes) g.0 in
    let digits = all_digits_front bytes in
    let bound = digits_value-lt 10 (take (digits_len bytes) bytes) digits in
    let some = s.some in
    let few = s.few in
    let room : 10 ^ length (take (digits_len bytes) bytes) ≤ 10 ^ 19 = pow-le-pow_right (omega arith) few in
    let fits : digits_value 10 (take (digits_len bytes) bytes) < 2 ^ 64 = omega arith in
    let spelled : decimal (digits_value 10 (take (digits_len bytes) bytes)) ≡ take (digits_len bytes) bytes =
    decimal-digits_value own (take (digits_len bytes) bytes) digits some s.plain fits in
    let P : ℕ × List ℕ → Type 0 = λ y. (bytes ≡ decimal y.0 ++ y.1) × IsNumber y.0 in
    let value : IsNumber (digits_value 10 (take (digits_len bytes) bytes)) = omega arith in
    subst P g.1 (rw spelled (sym (take-append-drop (digits_len bytes) bytes)), value)

-- what follows begins with no digit
abbrev pub Stops : List ℕ → Type 0
Stops [] = Unit {0}
Stops (b ∷ bytes) = is_ascii_digit b ≡ false

digit_passes : (d : ℕ) → IsInRange 48 57 d → is_ascii_digit d ≡ true
digit_passes d h = grind (arith, nat_tests)

all_digits_len : (ds rest : List ℕ) → AllDigits 10 ds → Stops rest → digits_len (ds ++ rest) ≡ length ds
all_digits_len [] [] h s = refl
all_digits_len [] (b ∷ rest) h s = rw s refl
all_digits_len (d ∷ ds) rest h s =
    let range = digit_at (d ∷ ds) 0 h (omega arith) in
    rw (digit_passes d range, all_digits_len ds rest h.1 s) (omega arith)

plain_decimal : (n : ℕ) → n < 2 ^ 64 → get_or (decimal n) 0 0 ≡ 48 → length (decimal n) ≡ 1
plain_decimal zero f e = rw (decimal_digit 0 (omega arith)) refl
plain_decimal (suc n) f e = absurd (let first = first_decimal (suc n) (omega arith) f in omega arith)

pub number_again : (n : ℕ) (rest : List ℕ) → IsNumber n → Stops rest → number_at (decimal n ++ rest) ≡ Some (n, rest)
unfolding number_at
number_again n rest fits stops =
    let f : n < 2 ^ 64 = omega arith in
    let digits = digits_decimal own n f in
    let len = all_digits_len (decimal n) rest digits stops in
    let front : take (length (decimal n)) (decimal n ++ rest) ≡ decimal n = take_at (decimal n) rest (length (decimal n)) refl in
    let back : drop (length (decimal n)) (decimal n ++ rest) ≡ rest = drop_at (decimal n) rest (length (decimal n)) refl in
    let numeral : is_numeral (decimal n) ≡ true =
    is_small (decimal n) (record {
      some = decimal_nonempty n f;
      plain = plain_decimal n f;
      few = length-decimal-le 19 n (omega arith) fits f;
    }) in
    rw (len, front, back, numeral, digits_value-decimal own n f) refl

-- a test of a chain, and what follows where it fails
tested : {A P : Type 0} (b : Bool) (r s : Option A) (y : A) → cond b r s ≡ pass y → (b ≡ true → r ≡ pass y → P)
    → (b ≡ false → s ≡ pass y → P) → P
tested true r s y e k l = k refl e
tested false r s y e k l = l refl e

kept : {A : Type 0} (b : Bool) (r : Option A) (y : A) → cond b r None ≡ pass y → (b ≡ true) × (r ≡ pass y)
kept true r y e = (refl, e)
kept false r y e = absurd cc

field_takes : (bytes : List ℕ) (x : ℕ × List ℕ) → field_at bytes ≡ pass x → (bytes ≡ field x.0 ++ x.1) × IsNumber x.0
field_takes [] x h = absurd cc
field_takes (b ∷ bytes) x h =
    let k = kept (eqb b 32) (number_at bytes) x h in
    let n = number_takes bytes x k.1 in
    (ap (λ (c : ℕ). c ∷ bytes) (eqb-true b 32 k.0) ∙ ap (λ (t : List ℕ). 32 ∷ t) n.0, n.1)

alone_takes : {A : Type 0} (x : A) (rest : List ℕ) (y : A) → alone x rest ≡ pass y → (rest ≡ []) × (x ≡ y)
alone_takes x [] y h = (refl, some_is x y h)
alone_takes x (b ∷ rest) y h = absurd cc

last_takes : (bytes : List ℕ) (u : ℕ) → last_field bytes ≡ pass u → IsNumber u × (bytes ≡ field u)
unfolding last_field
last_takes bytes u h = some_step (field_at bytes) _ u h (λ x e g.
    let f = field_takes bytes x e in
    let a = alone_takes x.0 x.1 u g in
    let P : ℕ → Type 0 = λ n. IsNumber n × (bytes ≡ field n) in
    subst P a.1 (f.1, f.0 ∙ ap (λ (t : List ℕ). field x.0 ++ t) a.0 ∙ append-nil (field x.0)))

pub last_again : (u : ℕ) → IsNumber u → last_field (field u) ≡ pass u
unfolding last_field
last_again u fits = ap (λ (t : List ℕ). field_at t >>= λ f. alone f.0 f.1) (sym (append-nil (field u)))
    ∙ rw (number_again u [] fits tt) refl

level_is : (c : ℕ) (level : Level) → level_of c ≡ pass level → 32 ∷ c ∷ [] ≡ level_text level
level_is c level h =
    tested (eqb c 70) _ _ level h (λ is e. is_level c 70 Forced level refl is e) (λ _ h.
    tested (eqb c 48) _ _ level h (λ is e. is_level c 48 L0 level refl is e) (λ _ h.
    tested (eqb c 49) _ _ level h (λ is e. is_level c 49 L1 level refl is e) (λ _ h.
    tested (eqb c 50) _ _ level h (λ is e. is_level c 50 L2 level refl is e) (λ _ h. absurd cc))))
  where
    is_level : (c d : ℕ) (l level : Level) → 32 ∷ d ∷ [] ≡ level_text l → eqb c d ≡ true → pass l ≡ pass level
        → 32 ∷ c ∷ [] ≡ level_text level
    is_level c d l level spelled is e = ap (λ (n : ℕ). 32 ∷ n ∷ []) (eqb-true c d is) ∙ spelled
        ∙ ap level_text (some_is l level e)

level_takes : (bytes : List ℕ) (level : Level) → level_at bytes ≡ pass level → bytes ≡ level_text level
unfolding level_at
level_takes [] level h = absurd cc
level_takes (b ∷ []) level h = absurd cc
level_takes (b ∷ c ∷ []) level h = some_step (cond (eqb b 32) (pass c) None) _ level h (λ d e g.
    let k = guarded (eqb b 32) c d e in
    ap (λ (n : ℕ). n ∷ c ∷ []) (eqb-true b 32 k.0) ∙ ap (λ (n : ℕ). 32 ∷ n ∷ []) k.1 ∙ level_is d level g)
level_takes (b ∷ c ∷ d ∷ bytes) level h = absurd cc

level_again : (level : Level) → level_at (level_text level) ≡ pass level
unfolding level_at
level_again Forced = refl
level_again L0 = refl
level_again L1 = refl
level_again L2 = refl

same_bytes : (a b : List ℕ) → bytes_eq a b ≡ true → a ≡ b
same_bytes a b h = (bytes_eq-Decides a b).0 h

fill_takes : (bytes : List ℕ) (auto : Bool) → fill_at bytes ≡ pass auto → bytes ≡ fill_text auto
unfolding fill_at
fill_takes bytes auto h =
    tested (bytes_eq bytes (codes " balance")) _ _ auto h (λ is e. same_bytes bytes (codes " balance") is
    ∙ ap fill_text (some_is false auto e)) (λ _ h.
    tested (bytes_eq bytes (codes " auto")) _ _ auto h (λ is e. same_bytes bytes (codes " auto") is
    ∙ ap fill_text (some_is true auto e)) (λ _ h. absurd cc))

fill_again : (auto : Bool) → fill_at (fill_text auto) ≡ pass auto
unfolding fill_at
fill_again false = refl
fill_again true = refl

behind_takes : (front bytes rest : List ℕ) → behind front bytes ≡ pass rest → bytes ≡ front ++ rest
behind_takes front bytes rest h =
    let g = guarded (starts_with nat_eq bytes front) _ rest h in
    (starts_is Decides-eqb bytes front (starts_with nat_eq bytes front) refl).0 g.0 ∙ ap (λ (t : List ℕ). front ++ t) g.1

inside_takes : (bytes : List ℕ) (x : Bool × List ℕ) → inside_at bytes ≡ pass x → bytes ≡ inside_text x.0 ++ x.1
unfolding inside_at
inside_takes bytes x h = by_word (behind (codes " auto") bytes) refl h
  where
    by_word : (o : Option (List ℕ)) → behind (codes " auto") bytes ≡ o
        → or_else (o >>= λ rest. Some (false, rest)) (behind (codes " avoid") bytes >>= λ rest. Some (true, rest)) ≡ pass x
        → bytes ≡ inside_text x.0 ++ x.1
    by_word (Some rest) is e = behind_takes (codes " auto") bytes rest is
        ∙ ap (λ (y : Bool × List ℕ). inside_text y.0 ++ y.1) (some_is (false, rest) x e)
    by_word None is e = some_step (behind (codes " avoid") bytes) _ x e (λ rest i g. behind_takes (codes " avoid") bytes rest i
        ∙ ap (λ (y : Bool × List ℕ). inside_text y.0 ++ y.1) (some_is (true, rest) x g))

inside_again : (avoid : Bool) (rest : List ℕ) → inside_at (inside_text avoid ++ rest) ≡ pass (avoid, rest)
unfolding inside_at
inside_again false rest = refl
inside_again true rest = refl

amounts_takes : (bytes : List ℕ) (x : ℕ × ℕ) → amounts_at bytes ≡ pass x → IsNumber x.0 × IsNumber x.1 × IsAmounts x.0 x.1 bytes
unfolding amounts_at
amounts_takes [] x h =
    let P : ℕ × ℕ → Type 0 = λ y. IsNumber y.0 × IsNumber y.1 × IsAmounts y.0 y.1 [] in
    subst P (some_is (0, 0) x h) (omega arith, omega arith, inr (refl, refl, refl))
amounts_takes (b ∷ bytes) x h =
    some_step (field_at (b ∷ bytes)) _ x h (λ top e g. some_step (last_field top.1) _ x g (λ bottom i k.
    let f = field_takes (b ∷ bytes) top e in
    let l = last_takes top.1 bottom i in
    let P : ℕ × ℕ → Type 0 = λ y. IsNumber y.0 × IsNumber y.1 × IsAmounts y.0 y.1 (b ∷ bytes) in
    subst P (some_is (top.0, bottom) x k) (f.1, l.0, inl (f.0 ∙ ap (λ (t : List ℕ). field top.0 ++ t) l.1))))

amounts_again : (top bottom : ℕ) (bytes : List ℕ) → IsNumber top → IsNumber bottom → IsAmounts top bottom bytes
    → amounts_at bytes ≡ pass (top, bottom)
unfolding amounts_at
amounts_again top bottom bytes t b (inl e) = rw e (rw (number_again top (field bottom) t refl, last_again bottom b) refl)
amounts_again top bottom bytes t b (inr e) = rw (e.0, e.1, e.2) refl

start_takes : (bytes : List ℕ) (form : Form) → start_at bytes ≡ pass form → IsForm form (40 ∷ bytes)
unfolding start_at
start_takes bytes form h = some_step (field_at bytes) _ form h
    (λ number e1 h1. some_step (field_at number.1) _ form h1 (λ x e2 h2. some_step (field_at x.1) _ form h2 (λ w e3 h3.
    some_step (inside_at w.1) _ form h3 (λ inside e4 h4. some_step (amounts_at inside.1) _ form h4 (λ amounts e5 h5.
    let f1 = field_takes bytes number e1 in
    let f2 = field_takes number.1 x e2 in
    let f3 = field_takes x.1 w e3 in
    let f4 = inside_takes w.1 inside e4 in
    let f5 = amounts_takes inside.1 amounts e5 in
    let P : Form → Type 0 = λ f. IsForm f (40 ∷ bytes) in
    subst P (some_is _ form h5) (
      f1.1,
      f2.1,
      f3.1,
      f5.0,
      f5.1,
      inside.1,
      f5.2,
      ap (λ (t : List ℕ). 40 ∷ t) (f1.0
          ∙ ap (λ (t : List ℕ). field number.0 ++ t)
          (f2.0 ∙ ap (λ (t : List ℕ). field x.0 ++ t) (f3.0 ∙ ap (λ (t : List ℕ). field w.0 ++ t) f4))),
    ))))))

start_again : (number x w top bottom : ℕ) (avoid : Bool) (amounts : List ℕ) → IsNumber number → IsNumber x → IsNumber w
    → IsNumber top → IsNumber bottom → IsAmounts top bottom amounts
    → start_at (field number ++ (field x ++ (field w ++ (inside_text avoid ++ amounts))))
    ≡ pass (Start number x w avoid top bottom)
unfolding start_at
start_again number x w top bottom avoid amounts n1 n2 n3 n4 n5 a =
    rw (
      number_again number (field x ++ (field w ++ (inside_text avoid ++ amounts))) n1 refl,
      number_again x (field w ++ (inside_text avoid ++ amounts)) n2 refl,
      number_again w (inside_text avoid ++ amounts) n3 (stops_inside avoid amounts),
      inside_again avoid amounts,
      amounts_again top bottom amounts n4 n5 a,
    ) refl
  where
    stops_inside : (avoid : Bool) (rest : List ℕ) → Stops (inside_text avoid ++ rest)
    stops_inside false rest = refl
    stops_inside true rest = refl

-- rows

-- three numbers before a tail
three : (a b c d : List ℕ) (n w st : ℕ) (t : List ℕ) → a ≡ field n ++ b → b ≡ field w ++ c → c ≡ field st ++ d → d ≡ t
    → a ≡ field n ++ (field w ++ (field st ++ t))
three a b c d n w st t e1 e2 e3 e4 = e1
    ∙ ap (λ (x : List ℕ). field n ++ x) (e2 ∙ ap (λ (x : List ℕ). field w ++ x) (e3 ∙ ap (λ (x : List ℕ). field st ++ x) e4))

-- A or X, and what follows it
end_takes : (n w st : ℕ) (x : ℕ × List ℕ) (front : List ℕ) (form : Form) → 0 < n → IsNumber n → IsNumber w → IsNumber st
    → IsNumber x.0 → row_end n w st x ≡ pass form
    → ((t : List ℕ) → (field x.0 ++ x.1 ≡ t) → front ≡ codes "row" ++ (field n ++ (field w ++ (field st ++ t))))
    → IsForm form front
end_takes n w st (x, []) front form some n1 n2 n3 n4 h whole =
    let P : Form → Type 0 = λ f. IsForm f front in
    subst P (some_is _ form h) (some, n1, n2, n3, n4, whole (field x) (append-nil (field x)))
end_takes n w st (x, b ∷ bytes) front form some n1 n2 n3 n4 h whole =
    let r = refused (ltb x 64) (fill_at (b ∷ bytes) >>= λ auto. Some (First n w st (Some x) auto)) form h in
    some_step (fill_at (b ∷ bytes)) _ form r.1 (λ auto e g.
    let P : Form → Type 0 = λ f. IsForm f front in
    subst P (some_is _ form g) (
      some,
      n1,
      n2,
      n3,
      (ltb-false x 64 r.0, n4),
      whole (field x ++ fill_text auto) (ap (λ (t : List ℕ). field x ++ t) (fill_takes (b ∷ bytes) auto e)),
    ))

row_takes : (bytes : List ℕ) (form : Form) → row_at bytes ≡ pass form → IsForm form (codes "row" ++ bytes)
unfolding row_at row_behind
row_takes bytes form h = some_step (field_at bytes) _ form h (λ n e1 h1.
    let r = refused (eqb n.0 0) _ form h1 in
    some_step (field_at n.1) _ form r.1 (λ w e2 h2. some_step (field_at w.1) _ form h2 (λ st e3 h3.
    let f1 = field_takes bytes n e1 in
    let f2 = field_takes n.1 w e2 in
    let f3 = field_takes w.1 st e3 in
    let some : 0 < n.0 = let other = eqb-false n.0 0 r.0 in omega arith in
    by_dash n w st some f1 f2 f3 (behind (codes " -") st.1) refl h3)))
  where
    by_dash : (n w st : ℕ × List ℕ) → 0 < n.0 → (bytes ≡ field n.0 ++ n.1) × IsNumber n.0
        → (n.1 ≡ field w.0 ++ w.1) × IsNumber w.0 → (w.1 ≡ field st.0 ++ st.1) × IsNumber st.0
        → (o : Option (List ℕ)) → behind (codes " -") st.1 ≡ o → row_open n.0 w.0 st.0 o st.1 ≡ pass form
        → IsForm form (codes "row" ++ bytes)
    by_dash n w st some f1 f2 f3 (Some rest) is e = some_step (fill_at rest) _ form e (λ auto i g.
        let P : Form → Type 0 = λ f. IsForm f (codes "row" ++ bytes) in
        let tail : st.1 ≡ codes " -" ++ fill_text auto = behind_takes (codes " -") st.1 rest is
        ∙ ap (λ (t : List ℕ). codes " -" ++ t) (fill_takes rest auto i) in
        subst P (some_is _ form g) (
          some,
          f1.1,
          f2.1,
          f3.1,
          tt,
          ap (λ (t : List ℕ). codes "row" ++ t)
              (three bytes n.1 w.1 st.1 n.0 w.0 st.0 (codes " -" ++ fill_text auto) f1.0 f2.0 f3.0 tail),
        ))
    by_dash n w st some f1 f2 f3 None is e = some_step (field_at st.1) _ form e (λ x i g.
        let f4 = field_takes st.1 x i in
        end_takes n.0 w.0 st.0 x (codes "row" ++ bytes) form some f1.1 f2.1 f3.1 f4.1 g
        (λ t same. ap (λ (y : List ℕ). codes "row" ++ y)
        (three bytes n.1 w.1 st.1 n.0 w.0 st.0 t f1.0 f2.0 f3.0 (f4.0 ∙ same))))

-- no number begins with the sign of any height
no_dash : (ds rest : List ℕ) → AllDigits 10 ds → 0 < length ds → behind (codes " -") (32 ∷ (ds ++ rest)) ≡ None
no_dash [] rest h some = absurd (omega arith)
no_dash (d ∷ ds) rest h some =
    let range = digit_at (d ∷ ds) 0 h (omega arith) in
    let other : eqb 45 d ≡ false = ne_eqb 45 d (λ e. omega arith) in
    rw other refl

no_dash_number : (x : ℕ) (rest : List ℕ) → IsNumber x → behind (codes " -") (32 ∷ (decimal x ++ rest)) ≡ None
no_dash_number x rest fits = let f : x < 2 ^ 64 = omega arith
    in no_dash (decimal x) rest (digits_decimal own x f) (decimal_nonempty x f)

open_again : (n w st : ℕ) (available : Option ℕ) (auto : Bool) → IfSome available (λ a. (64 ≤ a) × IsNumber a)
    → row_behind n w st (available_text available ++ fill_text auto) ≡ pass (First n w st available auto)
unfolding row_behind
open_again n w st None auto h = rw (fill_again auto) refl
open_again n w st (Some a) false h =
    rw (no_dash_number a (fill_text false) h.1, number_again a (fill_text false) h.1 refl, le-ltb a 64 h.0, fill_again false) refl
open_again n w st (Some a) true h =
    rw (no_dash_number a (fill_text true) h.1, number_again a (fill_text true) h.1 refl, le-ltb a 64 h.0, fill_again true) refl

inner_again : (n w st x : ℕ) → IsNumber x → row_behind n w st (field x ++ []) ≡ pass (Row n w st x)
unfolding row_behind
inner_again n w st x h = rw (no_dash_number x [] h, number_again x [] h tt) refl

stops_open : (available : Option ℕ) (auto : Bool) → Stops (available_text available ++ fill_text auto)
stops_open None auto = refl
stops_open (Some a) auto = refl

row_again : (n w st : ℕ) (tail : List ℕ) (form : Form) → 0 < n → IsNumber n → IsNumber w → IsNumber st → Stops tail
    → row_behind n w st tail ≡ pass form → row_at (field n ++ (field w ++ (field st ++ tail))) ≡ pass form
unfolding row_at
row_again n w st tail form some n1 n2 n3 stops h =
    let other : eqb n 0 ≡ false = ne_eqb n 0 (omega arith) in
    rw (
      number_again n (field w ++ (field st ++ tail)) n1 refl,
      other,
      number_again w (field st ++ tail) n2 refl,
      number_again st tail n3 stops,
    ) h

word_takes : (text : List ℕ) (form : Form) → word_of text ≡ pass form → IsForm form text
unfolding word_of
word_takes text form h =
    let P : Form → Type 0 = λ f. IsForm f text in
    tested (bytes_eq text (codes "w")) _ _ form h (λ is e. subst P (some_is Wall form e) (same_bytes text (codes "w") is)) (λ _ h.
    tested (bytes_eq text (codes "end")) _ _ form h (λ is e. subst P (some_is Close form e) (same_bytes text (codes "end") is))
    (λ _ h.
    tested (bytes_eq text (codes "flow 1")) _ _ form h
    (λ is e. subst P (some_is Flow form e) (same_bytes text (codes "flow 1") is)) (λ _ h.
    some_step (behind (codes "row") text) _ form h
    (λ rest i g. subst (IsForm form) (sym (behind_takes (codes "row") text rest i)) (row_takes rest form g)))))

-- a line of one number
one_takes : (make : ℕ → Form) (b c : ℕ) (rest : List ℕ) (form : Form)
    → ((u : ℕ) → IsNumber u → c ∷ rest ≡ c ∷ field u → IsForm (make u) (c ∷ rest)) → eqb b c ≡ true
    → (last_field rest >>= λ u. Some (make u)) ≡ pass form → IsForm form (b ∷ rest)
one_takes make b c rest form says is e = some_step (last_field rest) _ form e (λ u i g.
    let l = last_takes rest u i in
    subst (λ (d : ℕ). IsForm form (d ∷ rest)) (sym (eqb-true b c is))
    (subst (λ (f : Form). IsForm f (c ∷ rest)) (some_is (make u) form g) (says u l.0 (ap (λ (t : List ℕ). c ∷ t) l.1))))

pub form_takes : (text : List ℕ) (form : Form) → form_of text ≡ pass form → IsForm form text
unfolding form_of
form_takes [] form h = absurd cc
form_takes (b ∷ rest) form h =
    tested (eqb b 97) _ _ form h (λ is e. one_takes (λ u. Atom u) b 97 rest form (λ u n t. (n, t)) is e) (λ _ h.
    tested (eqb b 109) _ _ form h (λ is e. one_takes (λ u. Margin u) b 109 rest form (λ u n t. (n, t)) is e) (λ _ h.
    tested (eqb b 115) _ _ form h (λ is e. one_takes (λ u. Solid u) b 115 rest form (λ u n t. (n, t)) is e) (λ _ h.
    tested (eqb b 124) _ _ form h (λ is e. some_step (level_at rest) _ form e (λ level i g.
    subst (λ (f : Form). IsForm f (b ∷ rest)) (some_is (Break level) form g) (ap (λ (c : ℕ). c ∷ rest) (eqb-true b 124 is)
    ∙ ap (λ (t : List ℕ). 124 ∷ t) (level_takes rest level i)))) (λ _ h.
    tested (eqb b 40) _ _ form h (λ is e. subst (λ (c : ℕ). IsForm form (c ∷ rest)) (sym (eqb-true b 40 is))
    (start_takes rest form e)) (λ _ h.
    tested (eqb b 41) _ _ form h (λ is e. one_takes (λ u. End u) b 41 rest form (λ u n t. (n, t)) is e)
    (λ _ h. word_takes (b ∷ rest) form h))))))

word_row : (rest : List ℕ) (form : Form) → row_at rest ≡ pass form → form_of (codes "row" ++ rest) ≡ pass form
unfolding form_of word_of
word_row rest form h = h

pub form_again : (form : Form) (text : List ℕ) → IsForm form text → form_of text ≡ pass form
unfolding form_of word_of
form_again Flow text h = rw h refl
form_again (First n w st available auto) text h =
    rw h.5 (word_row (field n ++ (field w ++ (field st ++ (available_text available ++ fill_text auto))))
    (First n w st available auto)
    (row_again n w st (available_text available ++ fill_text auto) (First n w st available auto) h.0 h.1 h.2 h.3
    (stops_open available auto) (open_again n w st available auto h.4)))
form_again (Margin u) text h = rw h.1 (rw (last_again u h.0) refl)
form_again (Solid u) text h = rw h.1 (rw (last_again u h.0) refl)
form_again Wall text h = rw h refl
form_again (Start number x w avoid top bottom) text h =
    rw h.7 (start_again number x w top bottom avoid h.5 h.0 h.1 h.2 h.3 h.4 h.6)
form_again (End number) text h = rw h.1 (rw (last_again number h.0) refl)
form_again (Atom u) text h = rw h.1 (rw (last_again u h.0) refl)
form_again (Row n w st x) text h =
    rw h.5 (ap (λ (t : List ℕ). form_of (codes "row" ++ (field n ++ (field w ++ (field st ++ t))))) (sym (append-nil (field x)))
    ∙ word_row (field n ++ (field w ++ (field st ++ (field x ++ [])))) (Row n w st x)
    (row_again n w st (field x ++ []) (Row n w st x) h.0 h.1 h.2 h.3 refl (inner_again n w st x h.4)))
form_again (Break level) text h = rw h (rw (level_again level) refl)
form_again Close text h = rw h refl
