-- How a line after `cert` is spelled, and its bytes.
use Rattle.std.proofs.Common.{◌≡◌, ℕ, ◌==◌, ◌<◌, Bool, true, false, ◌||◌, List, [], ◌∷◌, ◌++◌, map, refl}
use Rattle.std.proofs.Common.{◌∙◌, arith, Option, Some, None}
use Rattle.std.specs.Prelude.{nat_lt, codes, All, IfSome}
use Rattle.std.specs.List.{list_any, flat_map}
use Rattle.std.specs.Fmt.{decimal}
use Rattle.std.specs.Str.Parse.{AllDigits}
use Rattle.std.proofs.lemmas.Bool.{or_from, or_parts}
use Rattle.std.proofs.lemmas.List.Folds.{list_any-append}
use Rattle.std.proofs.lemmas.List.Elements.{All-head, All-tail}
use Rattle.std.proofs.lemmas.Bool.Decides.{nat_tests}
use Rattle.std.proofs.lemmas.Fmt.{digits_decimal}
use Rattle.std.proofs.lemmas.Str.Parse.{digit_at}
use Rattle.flow_text.specs.Numbers.{IsNumber}
use Rattle.flow_text.proofs.FormLemmas.{own}
use Rattle.flow_list.specs.Tokens.{Token}
use Rattle.flow_list.specs.Ranges.{Reason, tall, area, left, bad, over}
use Rattle.flow_list.specs.TreeText.{spaced, token_text}
use Rattle.flow_list.specs.ResultText.{line_words, number_or_dash, end_text, reason_words}
use Rattle.result_laws.specs.Given.{size, balanced, filled, IsSmall, IsToken, IsHeadLine, IsReasonLine}
use Rattle.result_laws.specs.Given.{IsCitedLine, head_words, fits_text, column_words}
use Rattle.result_laws.specs.Reading.{CertLine, entry, range, column, close}

abbrev pub words_in : CertLine → List (List ℕ)
words_in (entry head) = head_words head
words_in (range low high reason) = codes "range" ∷ decimal low ∷ decimal high ∷ reason_words reason
words_in (column c) = column_words c.line ++ map decimal c.cites
words_in close = codes "end" ∷ []

abbrev pub text_in : CertLine → List ℕ
text_in l = line_words (words_in l)

abbrev pub IsLine : Bool → CertLine → Type 0
IsLine cites (entry head) = IsHeadLine head
IsLine cites (range low high reason) = IsNumber low × IsNumber high × IsReasonLine reason
IsLine cites (column c) = IsCitedLine cites c
IsLine cites close = Unit {0}

-- ---- bytes from `!` to `~`, and from space to `~`

abbrev pub not_plain : ℕ → Bool
not_plain b = nat_lt b 33 || nat_lt 126 b

abbrev pub not_printed : ℕ → Bool
not_printed b = nat_lt b 32 || nat_lt 126 b

abbrev pub Plain : List ℕ → Type 0
Plain w = list_any not_plain w ≡ false

abbrev pub Printed : List ℕ → Type 0
Printed w = list_any not_printed w ≡ false

abbrev pub AllPlain : List (List ℕ) → Type 0
AllPlain [] = Unit {0}
AllPlain (w ∷ ws) = Plain w × AllPlain ws

plain-append : (v w : List ℕ) → Plain v → Plain w → Plain (v ++ w)
plain-append v w p q = list_any-append not_plain v w ∙ or_from (list_any not_plain v) (list_any not_plain w) p q

printed-append : (v w : List ℕ) → Printed v → Printed w → Printed (v ++ w)
printed-append v w p q = list_any-append not_printed v w ∙ or_from (list_any not_printed v) (list_any not_printed w) p q

digits-plain : (ds : List ℕ) → AllDigits 10 ds → Plain ds
digits-plain [] h = refl
digits-plain (d ∷ ds) h =
    let range = digit_at (d ∷ ds) 0 h (omega arith) in
    or_from (not_plain d) (list_any not_plain ds) (grind (arith, nat_tests, range)) (digits-plain ds h.1)

number-plain : (n : ℕ) → IsNumber n → Plain (decimal n)
number-plain n is = digits-plain (decimal n) (digits_decimal own n (omega arith))

small-plain : (n : ℕ) → IsSmall n → Plain (decimal n)
small-plain n is = number-plain n (omega arith)

-- a number below 2^32 is one of at most 19 digits
pub small-number : (n : ℕ) → IsSmall n → IsNumber n
small-number n is = omega arith

abbrev pub AllSmall : List ℕ → Type 0
AllSmall [] = Unit {0}
AllSmall (n ∷ ns) = IsSmall n × AllSmall ns

pub all-small : (ns : List ℕ) → All IsSmall ns → AllSmall ns
all-small [] a = tt
all-small (n ∷ ns) a = (All-head IsSmall n ns a, all-small ns (All-tail IsSmall n ns a))

dots-plain : (ns : List ℕ) → AllSmall ns → Plain (flat_map (λ n. 46 ∷ decimal n) ns)
dots-plain [] a = refl
dots-plain (n ∷ ns) a = plain-append (46 ∷ decimal n) (flat_map (λ n. 46 ∷ decimal n) ns) (small-plain n a.0) (dots-plain ns a.1)

token-plain : (q : Token) → IsToken q → Plain (token_text q)
token-plain [] is = absurd (let k = is.0 in omega arith)
token-plain (i ∷ ns) is =
    let a = all-small (i ∷ ns) is.2 in
    plain-append (decimal i) (flat_map (λ n. 46 ∷ decimal n) ns) (small-plain i a.0) (dots-plain ns a.1)

available-plain : (a : Option ℕ) → IfSome a IsNumber → Plain (number_or_dash a)
available-plain None is = refl
available-plain (Some n) is = number-plain n is

stop-plain : (a : Option ℕ) → IfSome a IsSmall → Plain (number_or_dash a)
stop-plain None is = refl
stop-plain (Some n) is = small-plain n is

end-plain : (q : Option Token) → IfSome q IsToken → Plain (end_text q)
end-plain None is = refl
end-plain (Some q) is = token-plain q is

fits-plain : (fits : Bool) → Plain (fits_text fits)
fits-plain true = refl
fits-plain false = refl

reason-plain : (r : Reason) → IsReasonLine r → AllPlain (reason_words r)
reason-plain (tall k) is = (refl, (small-plain k is, tt))
reason-plain area is = (refl, tt)
reason-plain (left q) is = (refl, (token-plain q is, tt))
reason-plain (bad c) is = (refl, (small-plain c is, tt))
reason-plain (over c) is = (refl, (small-plain c is, tt))

cites-plain : (ns : List ℕ) → All IsNumber ns → AllPlain (map decimal ns)
cites-plain [] a = tt
cites-plain (n ∷ ns) a = (number-plain n (All-head IsNumber n ns a), cites-plain ns (All-tail IsNumber n ns a))

pub words-plain : (cites : Bool) (l : CertLine) → IsLine cites l → AllPlain (words_in l)
words-plain cites (entry (size r q h)) is = (refl, (small-plain r is.0, (token-plain q is.1, (number-plain h is.2, tt))))
words-plain cites (entry (balanced r a h fits)) is =
    (refl, (small-plain r is.0, (available-plain a is.1, (number-plain h is.2, (fits-plain fits, tt)))))
words-plain cites (entry (filled r a h)) is = (refl, (small-plain r is.0, (available-plain a is.1, (number-plain h is.2, tt))))
words-plain cites (range low high reason) is =
    (refl, (number-plain low is.0, (number-plain high is.1, reason-plain reason is.2)))
words-plain cites (column c) is =
    (refl, (small-plain c.line.depth is.0, (end-plain c.line.end is.1, (stop-plain c.line.stop is.2, cites-plain c.cites is.3))))
words-plain cites close is = (refl, tt)

-- ---- a line of plain words is printed

plain-printed : (w : List ℕ) → Plain w → Printed w
plain-printed [] p = refl
plain-printed (b ∷ w) p =
    let k = or_parts (not_plain b) (list_any not_plain w) p in
    or_from (not_printed b) (list_any not_printed w) (one k.0) (plain-printed w k.1)
  where
    one : not_plain b ≡ false → not_printed b ≡ false
    one e = let l = or_parts (nat_lt b 33) (nat_lt 126 b) e in
        let m = l.0 in or_from (nat_lt b 32) (nat_lt 126 b) (grind (arith, nat_tests)) l.1

spaced-printed : (ws : List (List ℕ)) → AllPlain ws → Printed (spaced ws)
spaced-printed [] p = refl
spaced-printed (w ∷ ws) p = printed-append (32 ∷ w) (spaced ws) (plain-printed w p.0) (spaced-printed ws p.1)

line-printed : (ws : List (List ℕ)) → AllPlain ws → Printed (line_words ws)
line-printed [] p = refl
line-printed (w ∷ ws) p = printed-append w (spaced ws) (plain-printed w p.0) (spaced-printed ws p.1)

pub text-printed : (cites : Bool) (l : CertLine) → IsLine cites l → Printed (text_in l)
text-printed cites l is = line-printed (words_in l) (words-plain cites l is)

-- ---- bytes that aren't in a text

abbrev pub Without : ℕ → List ℕ → Type 0
Without stop w = list_any (λ b. b == stop) w ≡ false

abbrev pub AllWithout : ℕ → List (List ℕ) → Type 0
AllWithout stop [] = Unit {0}
AllWithout stop (w ∷ ws) = Without stop w × AllWithout stop ws

plain-without : (w : List ℕ) → Plain w → Without 32 w
plain-without [] p = refl
plain-without (b ∷ w) p =
    let k = or_parts (not_plain b) (list_any not_plain w) p in
    or_from (b == 32) (list_any (λ c. c == 32) w) (one k.0) (plain-without w k.1)
  where
    one : not_plain b ≡ false → (b == 32) ≡ false
    one e = let l = or_parts (nat_lt b 33) (nat_lt 126 b) e in let m = l.0 in grind (arith, nat_tests)

pub all-without : (ws : List (List ℕ)) → AllPlain ws → AllWithout 32 ws
all-without [] p = tt
all-without (w ∷ ws) p = (plain-without w p.0, all-without ws p.1)

pub printed-without : (w : List ℕ) → Printed w → Without 10 w
printed-without [] p = refl
printed-without (b ∷ w) p =
    let k = or_parts (not_printed b) (list_any not_printed w) p in
    or_from (b == 10) (list_any (λ c. c == 10) w) (one k.0) (printed-without w k.1)
  where
    one : not_printed b ≡ false → (b == 10) ≡ false
    one e = let l = or_parts (nat_lt b 32) (nat_lt 126 b) e in let m = l.0 in grind (arith, nat_tests)

digits-without : (stop : ℕ) (ds : List ℕ) → stop < 48 → AllDigits 10 ds → Without stop ds
digits-without stop [] lt h = refl
digits-without stop (d ∷ ds) lt h =
    let range = digit_at (d ∷ ds) 0 h (omega arith) in
    or_from (d == stop) (list_any (λ b. b == stop) ds) (grind (arith, nat_tests, range)) (digits-without stop ds lt h.1)

number-without : (stop n : ℕ) → stop < 48 → IsNumber n → Without stop (decimal n)
number-without stop n lt is = digits-without stop (decimal n) lt (digits_decimal own n (omega arith))

pub decimals-without : (ns : List ℕ) → AllSmall ns → AllWithout 46 (map decimal ns)
decimals-without [] a = tt
decimals-without (n ∷ ns) a = (number-without 46 n (omega arith) (small-number n a.0), decimals-without ns a.1)
