-- What a line after `cert` says is what is read in it.
use Rattle.std.proofs.Common.{◌≡◌, ℕ, ◌<◌, Bool, true, false, List, [], ◌∷◌, ◌++◌, length, map, refl, sym, ◌∙◌, ap}
use Rattle.std.proofs.Common.{subst}
use Rattle.std.proofs.Common.{arith, Option, Some, None}
use Rattle.std.specs.Prelude.{codes, All, IfSome}
use Rattle.std.specs.List.{flat_map}
use Rattle.std.specs.Fmt.{decimal}
use Rattle.std.specs.Str.{bytes_eq}
use Rattle.std.proofs.lemmas.List.{append-nil}
use Rattle.std.proofs.lemmas.List.Elements.{All-nil, All-head}
use Rattle.std.proofs.lemmas.Fmt.{digits_decimal, decimal_nonempty}
use Rattle.std.proofs.lemmas.Str.Parse.{digit_at}
use Rattle.std.specs.Str.Parse.{AllDigits}
use Rattle.flow_text.specs.Numbers.{IsNumber}
use Rattle.flow_text.proofs.FormLemmas.{own}
use Rattle.flow_list.specs.Tokens.{Token}
use Rattle.flow_list.specs.Ranges.{Reason, tall, area, left, bad, over}
use Rattle.flow_list.specs.TreeText.{token_text}
use Rattle.flow_list.specs.ResultText.{line_words, number_or_dash, end_text, reason_words}
use Rattle.result_laws.specs.Given.{size, balanced, filled, IsSmall, IsToken, IsReasonLine, fits_text}
use Rattle.result_laws.specs.Words.{words_of, number_of, small_of, token_of, ◌>>=◌, dash_or, end_of_word, yes_or_no}
use Rattle.result_laws.specs.Reading.{CertLine, entry, range, column, close, line_of, line_of_words, head_of_size, head_of_row}
use Rattle.result_laws.specs.Reading.{head_of_auto, reason_of_words, range_of_words, cites_of, column_of_words}
use Rattle.result_laws.proofs.Spelling.{words_in, text_in, IsLine, words-plain, all-without, AllWithout}
use Rattle.result_laws.proofs.WordsBack.{joined, parted-words, parts-join, some-step, tested, same-bytes, some-same}
use Rattle.result_laws.proofs.WordsBack.{number-back, number-said, small-back, small-said, numbers-back, numbers-said, token-back}
use Rattle.result_laws.proofs.WordsBack.{token-said, cons-same}

-- ---- no number or place begins with a sign

digits-never : (s : ℕ) (ds rest : List ℕ) → s < 48 → AllDigits 10 ds → 0 < length ds → bytes_eq (ds ++ rest) (s ∷ []) ≡ false
digits-never s [] rest lt h some = absurd (omega arith)
digits-never s (d ∷ ds) rest lt h some = go (bytes_eq (d ∷ (ds ++ rest)) (s ∷ [])) refl
  where
    go : (t : Bool) → bytes_eq (d ∷ (ds ++ rest)) (s ∷ []) ≡ t → t ≡ false
    go false e = refl
    go true e =
        let k = same-bytes (d ∷ (ds ++ rest)) (s ∷ []) e in
        let same : d ≡ s = cc in
        let range = digit_at (d ∷ ds) 0 h (omega arith) in
        absurd (omega arith)

number-never : (s n : ℕ) (rest : List ℕ) → s < 48 → IsNumber n → bytes_eq (decimal n ++ rest) (s ∷ []) ≡ false
number-never s n rest lt is =
    digits-never s (decimal n) rest lt (digits_decimal own n (omega arith)) (decimal_nonempty n (omega arith))

number-alone : (s n : ℕ) → s < 48 → IsNumber n → bytes_eq (decimal n) (s ∷ []) ≡ false
number-alone s n lt is = subst (λ bs. bytes_eq bs (s ∷ []) ≡ false) (append-nil (decimal n)) (number-never s n [] lt is)

token-never : (q : Token) → IsToken q → bytes_eq (token_text q) (33 ∷ []) ≡ false
token-never [] is = absurd (let k = is.0 in omega arith)
token-never (i ∷ ns) is =
    let k : IsSmall i = All-head IsSmall i ns is.2 in
    number-never 33 i (flat_map (λ n. 46 ∷ decimal n) ns) (omega arith) (omega arith)

-- ---- a number or a dash, an end, a word

available-back : (a : Option ℕ) → IfSome a IsNumber → dash_or number_of (number_or_dash a) ≡ Some a
available-back None is = refl
available-back (Some n) is = rw (number-alone 45 n (omega arith) is, number-back n is) refl

stop-back : (a : Option ℕ) → IfSome a IsSmall → dash_or small_of (number_or_dash a) ≡ Some a
stop-back None is = refl
stop-back (Some n) is = rw (number-alone 45 n (omega arith) (omega arith), small-back n is) refl

end-back : (q : Option Token) → IfSome q IsToken → end_of_word (end_text q) ≡ Some q
end-back None is = refl
end-back (Some q) is = rw (token-never q is, token-back q is) refl

fits-back : (fits : Bool) → yes_or_no (fits_text fits) ≡ Some fits
fits-back true = refl
fits-back false = refl

-- what a word that is a dash or is read so says
dash-said : (read : List ℕ → Option ℕ) (Is : ℕ → Type 0) (w : List ℕ) (a : Option ℕ)
    → ((n : ℕ) → read w ≡ Some n → (w ≡ decimal n) × Is n) → dash_or read w ≡ Some a → (w ≡ number_or_dash a) × IfSome a Is
dash-said read Is w a says e = tested ((w ≡ number_or_dash a) × IfSome a Is) (bytes_eq w (codes "-")) (Some None) _ a e
    (λ t f. subst (λ (b : Option ℕ). (w ≡ number_or_dash b) × IfSome b Is) (some-same None a f) (same-bytes w (codes "-") t, tt))
    (λ t f. some-step ((w ≡ number_or_dash a) × IfSome a Is) (read w) _ a f (λ n i g.
    let k = says n i in
    subst (λ (b : Option ℕ). (w ≡ number_or_dash b) × IfSome b Is) (some-same (Some n) a g) (k.0, k.1)))

available-said : (w : List ℕ) (a : Option ℕ) → dash_or number_of w ≡ Some a → (w ≡ number_or_dash a) × IfSome a IsNumber
available-said w a e = dash-said number_of IsNumber w a (number-said w) e

stop-said : (w : List ℕ) (a : Option ℕ) → dash_or small_of w ≡ Some a → (w ≡ number_or_dash a) × IfSome a IsSmall
stop-said w a e = dash-said small_of IsSmall w a (small-said w) e

end-said : (w : List ℕ) (q : Option Token) → end_of_word w ≡ Some q → (w ≡ end_text q) × IfSome q IsToken
end-said w q e = tested ((w ≡ end_text q) × IfSome q IsToken) (bytes_eq w (codes "!")) (Some None) _ q e
    (λ t f. subst (λ (b : Option Token). (w ≡ end_text b) × IfSome b IsToken) (some-same None q f)
    (same-bytes w (codes "!") t, tt))
    (λ t f. some-step ((w ≡ end_text q) × IfSome q IsToken) (token_of w) _ q f (λ p i g.
    let k = token-said w p i in
    subst (λ (b : Option Token). (w ≡ end_text b) × IfSome b IsToken) (some-same (Some p) q g) (k.0, k.1)))

fits-said : (w : List ℕ) (fits : Bool) → yes_or_no w ≡ Some fits → w ≡ fits_text fits
fits-said w fits e = tested (w ≡ fits_text fits) (bytes_eq w (codes "yes")) (Some true) _ fits e
    (λ t f. same-bytes w (codes "yes") t ∙ ap fits_text (some-same true fits f))
    (λ t f. tested (w ≡ fits_text fits) (bytes_eq w (codes "no")) (Some false) None fits f
    (λ t g. same-bytes w (codes "no") t ∙ ap fits_text (some-same false fits g)) (λ t g. absurd cc))

-- ---- a line is read back

reason-back : (r : Reason) → IsReasonLine r → reason_of_words (reason_words r) ≡ Some r
reason-back (tall k) is = rw (small-back k is) refl
reason-back area is = refl
reason-back (left q) is = rw (token-back q is) refl
reason-back (bad c) is = rw (small-back c is) refl
reason-back (over c) is = rw (small-back c is) refl

cites-back : (cites : Bool) (ns : List ℕ) → All IsNumber ns → (cites ≡ false → ns ≡ [])
    → cites_of cites (map decimal ns) ≡ Some ns
cites-back cites [] a none = refl
cites-back true (n ∷ ns) a none = numbers-back (n ∷ ns) a
cites-back false (n ∷ ns) a none = absurd (let k = none refl in cc)

words-back : (cites : Bool) (l : CertLine) → IsLine cites l → (l ≡ close → ⊥) → line_of_words cites (words_in l) ≡ Some l
words-back cites (entry (size r q h)) is never = rw (small-back r is.0, token-back q is.1, number-back h is.2) refl
words-back cites (entry (balanced r a h fits)) is never =
    rw (small-back r is.0, available-back a is.1, number-back h is.2, fits-back fits) refl
words-back cites (entry (filled r a h)) is never = rw (small-back r is.0, available-back a is.1, number-back h is.2) refl
words-back cites (range low high reason) is never =
    rw (number-back low is.0, number-back high is.1, reason-back reason is.2) refl
words-back cites (column c) is never =
    rw (
      small-back c.line.depth is.0,
      end-back c.line.end is.1,
      stop-back c.line.stop is.2,
      cites-back cites c.cites is.3 is.4,
    ) refl
words-back cites close is never = absurd (never refl)

by-words : (cites : Bool) (text : List ℕ) → bytes_eq text (codes "end") ≡ false
    → line_of cites text ≡ line_of_words cites (words_of text)
unfolding line_of
by-words cites text e = rw e refl

text-joined : (ws : List (List ℕ)) → line_words ws ≡ joined 32 ws
text-joined [] = refl
text-joined (w ∷ ws) = refl

parted-back : (ws : List (List ℕ)) → (ws ≡ [] → ⊥) → AllWithout 32 ws → words_of (line_words ws) ≡ ws
parted-back [] never a = absurd (never refl)
parted-back (w ∷ ws) never a = parted-words 32 w ws a.0 a.1

line-from : (cites : Bool) (l : CertLine) → IsLine cites l → (l ≡ close → ⊥) → (words_in l ≡ [] → ⊥)
    → bytes_eq (text_in l) (codes "end") ≡ false → line_of cites (text_in l) ≡ Some l
line-from cites l is never some other =
    by-words cites (text_in l) other
    ∙ ap (line_of_words cites) (parted-back (words_in l) some (all-without (words_in l) (words-plain cites l is)))
    ∙ words-back cites l is never

close-back : (cites : Bool) → line_of cites (text_in close) ≡ Some close
unfolding line_of
close-back cites = refl

pub line-back : (cites : Bool) (l : CertLine) → IsLine cites l → line_of cites (text_in l) ≡ Some l
line-back cites (entry (size r q h)) is = line-from cites (entry (size r q h)) is (λ e. cc) (λ e. cc) refl
line-back cites (entry (balanced r a h fits)) is = line-from cites (entry (balanced r a h fits)) is (λ e. cc) (λ e. cc) refl
line-back cites (entry (filled r a h)) is = line-from cites (entry (filled r a h)) is (λ e. cc) (λ e. cc) refl
line-back cites (range low high reason) is = line-from cites (range low high reason) is (λ e. cc) (λ e. cc) refl
line-back cites (column c) is = line-from cites (column c) is (λ e. cc) (λ e. cc) refl
line-back cites close is = close-back cites

-- ---- what is read in a line is what it says

abbrev Says : Bool → List (List ℕ) → CertLine → Type 0
Says cites ws l = (ws ≡ words_in l) × IsLine cites l

size-said : (cites : Bool) (w : List ℕ) (ws : List (List ℕ)) (l : CertLine) → w ≡ codes "size" → head_of_size ws ≡ Some l
    → Says cites (w ∷ ws) l
size-said cites w [] l is e = absurd cc
size-said cites w (r ∷ []) l is e = absurd cc
size-said cites w (r ∷ q ∷ []) l is e = absurd cc
size-said cites w (r ∷ q ∷ h ∷ []) l is e = some-step (Says cites (w ∷ r ∷ q ∷ h ∷ []) l) (small_of r) _ l e
    (λ r' i e. some-step (Says cites (w ∷ r ∷ q ∷ h ∷ []) l) (token_of q) _ l e
    (λ q' j e. some-step (Says cites (w ∷ r ∷ q ∷ h ∷ []) l) (number_of h) _ l e
    (λ h' k e.
    let a = small-said r r' i in
    let b = token-said q q' j in
    let c = number-said h h' k in
    subst (Says cites (w ∷ r ∷ q ∷ h ∷ [])) (some-same (entry (size r' q' h')) l e)
    (cons-same is (cons-same a.0 (cons-same b.0 (cons-same c.0 refl))), (a.1, b.1, c.1)))))
size-said cites w (r ∷ q ∷ h ∷ x ∷ ws) l is e = absurd cc

row-said : (cites : Bool) (w : List ℕ) (ws : List (List ℕ)) (l : CertLine) → w ≡ codes "row" → head_of_row ws ≡ Some l
    → Says cites (w ∷ ws) l
row-said cites w [] l is e = absurd cc
row-said cites w (r ∷ []) l is e = absurd cc
row-said cites w (r ∷ q ∷ []) l is e = absurd cc
row-said cites w (r ∷ q ∷ h ∷ []) l is e = absurd cc
row-said cites w (r ∷ q ∷ h ∷ x ∷ []) l is e = some-step (Says cites (w ∷ r ∷ q ∷ h ∷ x ∷ []) l) (small_of r) _ l e
    (λ r' i e. some-step (Says cites (w ∷ r ∷ q ∷ h ∷ x ∷ []) l) (dash_or number_of q) _ l e
    (λ a' j e. some-step (Says cites (w ∷ r ∷ q ∷ h ∷ x ∷ []) l) (number_of h) _ l e
    (λ h' k e. some-step (Says cites (w ∷ r ∷ q ∷ h ∷ x ∷ []) l) (yes_or_no x) _ l e
    (λ x' m e.
    let a = small-said r r' i in
    let b = available-said q a' j in
    let c = number-said h h' k in
    let d = fits-said x x' m in
    subst (Says cites (w ∷ r ∷ q ∷ h ∷ x ∷ [])) (some-same (entry (balanced r' a' h' x')) l e)
    (cons-same is (cons-same a.0 (cons-same b.0 (cons-same c.0 (cons-same d refl)))), (a.1, b.1, c.1))))))
row-said cites w (r ∷ q ∷ h ∷ x ∷ y ∷ ws) l is e = absurd cc

auto-said : (cites : Bool) (w : List ℕ) (ws : List (List ℕ)) (l : CertLine) → w ≡ codes "auto" → head_of_auto ws ≡ Some l
    → Says cites (w ∷ ws) l
auto-said cites w [] l is e = absurd cc
auto-said cites w (r ∷ []) l is e = absurd cc
auto-said cites w (r ∷ q ∷ []) l is e = absurd cc
auto-said cites w (r ∷ q ∷ h ∷ []) l is e = some-step (Says cites (w ∷ r ∷ q ∷ h ∷ []) l) (small_of r) _ l e
    (λ r' i e. some-step (Says cites (w ∷ r ∷ q ∷ h ∷ []) l) (dash_or number_of q) _ l e
    (λ a' j e. some-step (Says cites (w ∷ r ∷ q ∷ h ∷ []) l) (number_of h) _ l e
    (λ h' k e.
    let a = small-said r r' i in
    let b = available-said q a' j in
    let c = number-said h h' k in
    subst (Says cites (w ∷ r ∷ q ∷ h ∷ [])) (some-same (entry (filled r' a' h')) l e)
    (cons-same is (cons-same a.0 (cons-same b.0 (cons-same c.0 refl))), (a.1, b.1, c.1)))))
auto-said cites w (r ∷ q ∷ h ∷ x ∷ ws) l is e = absurd cc

abbrev SaysReason : List (List ℕ) → Reason → Type 0
SaysReason ws r = (ws ≡ reason_words r) × IsReasonLine r

small-reason : (make : ℕ → Reason) (word w n : List ℕ) (r : Reason) → ((k : ℕ) → reason_words (make k) ≡ word ∷ decimal k ∷ [])
    → ((k : ℕ) → IsSmall k → IsReasonLine (make k)) → w ≡ word → (small_of n >>= λ k. Some (make k)) ≡ Some r
    → SaysReason (w ∷ n ∷ []) r
small-reason make word w n r spelled line is e = some-step (SaysReason (w ∷ n ∷ []) r) (small_of n) _ r e (λ k i f.
    let a = small-said n k i in
    subst (SaysReason (w ∷ n ∷ [])) (some-same (make k) r f) (cons-same is (cons-same a.0 refl) ∙ sym (spelled k), line k a.1))

reason-said : (ws : List (List ℕ)) (r : Reason) → reason_of_words ws ≡ Some r → SaysReason ws r
reason-said [] r e = absurd cc
reason-said (w ∷ []) r e = tested (SaysReason (w ∷ []) r) (bytes_eq w (codes "area")) (Some area) None r e
    (λ t f. subst (SaysReason (w ∷ [])) (some-same area r f) (cons-same (same-bytes w (codes "area") t) refl, tt))
    (λ t f. absurd cc)
reason-said (w ∷ n ∷ []) r e =
    tested (SaysReason (w ∷ n ∷ []) r) (bytes_eq w (codes "tall")) _ _ r e
    (λ t f. small-reason (λ k. tall k) (codes "tall") w n r (λ k. refl) (λ k s. s) (same-bytes w (codes "tall") t) f) (λ _ e.
    tested (SaysReason (w ∷ n ∷ []) r) (bytes_eq w (codes "left")) _ _ r e
    (λ t f. some-step (SaysReason (w ∷ n ∷ []) r) (token_of n) _ r f (λ q i g.
    let a = token-said n q i in
    subst (SaysReason (w ∷ n ∷ [])) (some-same (left q) r g)
    (cons-same (same-bytes w (codes "left") t) (cons-same a.0 refl), a.1))) (λ _ e.
    tested (SaysReason (w ∷ n ∷ []) r) (bytes_eq w (codes "bad")) _ _ r e
    (λ t f. small-reason (λ k. bad k) (codes "bad") w n r (λ k. refl) (λ k s. s) (same-bytes w (codes "bad") t) f) (λ _ e.
    tested (SaysReason (w ∷ n ∷ []) r) (bytes_eq w (codes "over")) _ None r e
    (λ t f. small-reason (λ k. over k) (codes "over") w n r (λ k. refl) (λ k s. s) (same-bytes w (codes "over") t) f)
    (λ _ e. absurd cc))))
reason-said (w ∷ n ∷ x ∷ ws) r e = absurd cc

range-said : (cites : Bool) (w : List ℕ) (ws : List (List ℕ)) (l : CertLine) → w ≡ codes "range" → range_of_words ws ≡ Some l
    → Says cites (w ∷ ws) l
range-said cites w [] l is e = absurd cc
range-said cites w (low ∷ []) l is e = absurd cc
range-said cites w (low ∷ high ∷ ws) l is e = some-step (Says cites (w ∷ low ∷ high ∷ ws) l) (number_of low) _ l e
    (λ low' i e. some-step (Says cites (w ∷ low ∷ high ∷ ws) l) (number_of high) _ l e
    (λ high' j e. some-step (Says cites (w ∷ low ∷ high ∷ ws) l) (reason_of_words ws) _ l e
    (λ r k e.
    let a = number-said low low' i in
    let b = number-said high high' j in
    let c = reason-said ws r k in
    subst (Says cites (w ∷ low ∷ high ∷ ws)) (some-same (range low' high' r) l e)
    (cons-same is (cons-same a.0 (cons-same b.0 c.0)), (a.1, b.1, c.1)))))

cites-said : (cites : Bool) (ws : List (List ℕ)) (ns : List ℕ) → cites_of cites ws ≡ Some ns
    → (ws ≡ map decimal ns) × All IsNumber ns × (cites ≡ false → ns ≡ [])
cites-said cites [] ns e =
    subst (λ ms. ([] ≡ map decimal ms) × All IsNumber ms × (cites ≡ false → ms ≡ [])) (some-same [] ns e)
    (refl, All-nil IsNumber, λ _. refl)
cites-said false (w ∷ ws) ns e = absurd cc
cites-said true (w ∷ ws) ns e = let a = numbers-said (w ∷ ws) ns e in (a.0, a.1, λ t. absurd cc)

column-said : (cites : Bool) (w : List ℕ) (ws : List (List ℕ)) (l : CertLine) → w ≡ codes "col"
    → column_of_words cites ws ≡ Some l
    → Says cites (w ∷ ws) l
column-said cites w [] l is e = absurd cc
column-said cites w (depth ∷ []) l is e = absurd cc
column-said cites w (depth ∷ end ∷ []) l is e = absurd cc
column-said cites w (depth ∷ end ∷ stop ∷ ws) l is e =
    some-step (Says cites (w ∷ depth ∷ end ∷ stop ∷ ws) l) (small_of depth) _ l e
    (λ n i e. some-step (Says cites (w ∷ depth ∷ end ∷ stop ∷ ws) l) (end_of_word end) _ l e
    (λ q j e. some-step (Says cites (w ∷ depth ∷ end ∷ stop ∷ ws) l) (dash_or small_of stop) _ l e
    (λ s k e. some-step (Says cites (w ∷ depth ∷ end ∷ stop ∷ ws) l) (cites_of cites ws) _ l e
    (λ ns m e.
    let a = small-said depth n i in
    let b = end-said end q j in
    let c = stop-said stop s k in
    let d = cites-said cites ws ns m in
    subst (Says cites (w ∷ depth ∷ end ∷ stop ∷ ws))
    (some-same (column (record { line = record { depth = n; end = q; stop = s }; cites = ns })) l e)
    (cons-same is (cons-same a.0 (cons-same b.0 (cons-same c.0 d.0))), (a.1, b.1, c.1, d.1, d.2))))))

words-said : (cites : Bool) (ws : List (List ℕ)) (l : CertLine) → line_of_words cites ws ≡ Some l → Says cites ws l
words-said cites [] l e = absurd cc
words-said cites (w ∷ ws) l e =
    tested (Says cites (w ∷ ws) l) (bytes_eq w (codes "col")) _ _ l e
    (λ t f. column-said cites w ws l (same-bytes w (codes "col") t) f) (λ _ e.
    tested (Says cites (w ∷ ws) l) (bytes_eq w (codes "range")) _ _ l e
    (λ t f. range-said cites w ws l (same-bytes w (codes "range") t) f) (λ _ e.
    tested (Says cites (w ∷ ws) l) (bytes_eq w (codes "size")) _ _ l e
    (λ t f. size-said cites w ws l (same-bytes w (codes "size") t) f) (λ _ e.
    tested (Says cites (w ∷ ws) l) (bytes_eq w (codes "row")) _ _ l e
    (λ t f. row-said cites w ws l (same-bytes w (codes "row") t) f) (λ _ e.
    tested (Says cites (w ∷ ws) l) (bytes_eq w (codes "auto")) _ None l e
    (λ t f. auto-said cites w ws l (same-bytes w (codes "auto") t) f) (λ _ e. absurd cc)))))

pub line-said : (cites : Bool) (text : List ℕ) (l : CertLine) → line_of cites text ≡ Some l → (text ≡ text_in l) × IsLine cites l
unfolding line_of
line-said cites text l e = tested ((text ≡ text_in l) × IsLine cites l) (bytes_eq text (codes "end")) (Some close) _ l e
    (λ t f. subst (λ (x : CertLine). (text ≡ text_in x) × IsLine cites x) (some-same close l f)
    (same-bytes text (codes "end") t, tt))
    (λ _ f.
    let k = words-said cites (words_of text) l f in
    (sym (parts-join 32 text) ∙ sym (text-joined (words_of text)) ∙ ap line_words k.0, k.1))
