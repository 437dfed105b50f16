-- The forms of a line, both ways: what is read is of its form, and what is of a form is read.
use Rattle.std.proofs.Common.{◌≡◌, ℕ, ◌+◌, ◌*◌, ◌≤◌, ◌<◌, Bool, true, false, cond, eqb, ltb, leb, ◌&&◌, List, [], ◌∷◌, length}
use Rattle.std.proofs.Common.{get_or, Option, Some, None, inl, inr, refl, sym, ap, subst, ◌∙◌, arith}
use Rattle.std.specs.Prelude.{IsTrue, codes}
use Rattle.std.specs.List.{AllByRecursion, list_all}
use Rattle.std.specs.Char.{digit_value}
use Rattle.std.specs.Str.{bytes_eq}
use Rattle.std.specs.Str.Parse.{digits_value, digits_value_after}
use Rattle.std.proofs.lemmas.Bool.{ne_eqb, eqb-true, eqb-false, leb-true, ltb-true, ltb-false, lt-ltb, le-ltb, le-leb}
use Rattle.std.proofs.lemmas.Slice.Eq.{bytes_eq-Decides}
use Rattle.mc_base.specs.Finding.{◌>>=◌}
use Rattle.mc_base.proofs.FindSteps.{some_step}
use lib.Utf8.{scalar, scalar_cases}
use Rattle.font_table.specs.declared.fonts.Advance.{Advance}
use Rattle.font_table.specs.declared.fonts.Face.{Face}
use Rattle.font_table.specs.Table.{spaced, is_digit, is_hex_digit, is_name_byte, IsDecimal, IsCode, style_word, IsFaceLine}
use Rattle.font_table.specs.Table.{IsCharacterLine}
use Rattle.font_table.specs.Forms.{word_at, base, is_digit_of, digits_from, number_at, scalar_of, code_at, behind_keyword}
use Rattle.font_table.specs.Forms.{name_at, field_at, weight_at, style_of, style_at, face_at, character_at}

-- ---- tools

-- a test that passed, and one that failed
pub passed : {A P : Type 0} (b : Bool) (x : Option A) (y : A) → cond b x None ≡ Some y → (b ≡ true → x ≡ Some y → P) → P
passed true x y e go = go refl e
passed false x y e go = absurd cc

pub failed : {A P : Type 0} (b : Bool) (x : Option A) (y : A) → cond b None x ≡ Some y → (b ≡ false → x ≡ Some y → P) → P
failed true x y e go = absurd cc
failed false x y e go = go refl e

pub both : {P : Type 0} (a b : Bool) → (a && b) ≡ true → (a ≡ true → b ≡ true → P) → P
both true b e go = go refl e
both false b e go = absurd cc

abbrev pub some : {A : Type 0} → A → Option A
some x = Some x

pub some_is : {A : Type 0} (x y : A) → some x ≡ some y → x ≡ y
some_is x y e = cc

-- ---- words

abbrev pub HasNoSpace : List ℕ → Type 0
HasNoSpace bytes = AllByRecursion (λ b. eqb b 32 ≡ false) bytes

pub without_space : (p : ℕ → Bool) → ((b : ℕ) → p b ≡ true → eqb b 32 ≡ false) → (bytes : List ℕ) → list_all p bytes ≡ true
    → HasNoSpace bytes
without_space p h [] e = tt
without_space p h (b ∷ bytes) e = both (p b) (list_all p bytes) e (λ first rest. (h b first, without_space p h bytes rest))

pub word_again : (word rest : List ℕ) → HasNoSpace word → word_at (spaced word rest) ≡ Some (word, rest)
word_again [] rest h = refl
word_again (b ∷ word) rest h = rw (h.0, word_again word rest h.1) refl

first_is : (b : ℕ) (bs word rest : List ℕ) (r : Bool) → eqb b 32 ≡ r
    → ((w t : List ℕ) → word_at bs ≡ Some (w, t) → bs ≡ spaced w t)
    → cond {A = Option (List ℕ × List ℕ)} r (Some ([], bs)) (word_at bs >>= λ x. Some (b ∷ x.0, x.1)) ≡ Some (word, rest)
    → b ∷ bs ≡ spaced word rest
first_is b bs word rest true is_space deeper e =
    let pair : ([], bs) ≡ (word, rest) = some_is {A = List ℕ × List ℕ} ([], bs) (word, rest) e in
    let w-is : [] ≡ word = ap (λ (x : List ℕ × List ℕ). x.0) pair in
    let t-is : bs ≡ rest = ap (λ (x : List ℕ × List ℕ). x.1) pair in
    let b-is : b ≡ 32 = eqb-true b 32 is_space in
    rw (← w-is, ← t-is, b-is) refl
first_is b bs word rest false no_space deeper e =
    some_step (word_at bs) (λ x. Some (b ∷ x.0, x.1)) (word, rest) e λ x is_x made.
    let pair = some_is {A = List ℕ × List ℕ} (b ∷ x.0, x.1) (word, rest) made in
    let w-is : b ∷ x.0 ≡ word = ap (λ (x : List ℕ × List ℕ). x.0) pair in
    let t-is : x.1 ≡ rest = ap (λ (x : List ℕ × List ℕ). x.1) pair in
    let under : bs ≡ spaced x.0 x.1 = deeper x.0 x.1 is_x in
    ap (λ (t : List ℕ). b ∷ t) under ∙ ap (λ (w : List ℕ). spaced w x.1) w-is ∙ ap (λ (t : List ℕ). spaced word t) t-is

pub word_found : (bytes word rest : List ℕ) → word_at bytes ≡ Some (word, rest) → bytes ≡ spaced word rest
word_found [] word rest e = absurd cc
word_found (b ∷ bs) word rest e = first_is b bs word rest (eqb b 32) refl (λ w t h. word_found bs w t h) e

-- ---- numbers

pub record Number (hex : Bool) (most : ℕ) (digits : List ℕ) (n : ℕ) : Type 0 where
  pub filled : 0 < length digits
  pub digits_only : list_all (is_digit_of hex) digits ≡ true
  pub value : n ≡ digits_value (base hex) digits
  pub within : n ≤ most

grows : (hex : Bool) (n : ℕ) (digits : List ℕ) → n ≤ digits_value_after (base hex) n digits
grows hex n [] = omega arith
grows false n (b ∷ digits) = let deeper = grows false (n * 10 + digit_value b) digits in omega (arith, deeper)
grows true n (b ∷ digits) = let deeper = grows true (n * 16 + digit_value b) digits in omega (arith, deeper)

digits_found : (hex : Bool) (most n : ℕ) (digits : List ℕ) (v : ℕ) → n ≤ most → digits_from hex most n digits ≡ Some v
    → (list_all (is_digit_of hex) digits ≡ true) × (v ≡ digits_value_after (base hex) n digits) × (v ≤ most)
digits_found hex most n [] v within e = let same = some_is n v e in (refl, sym same, omega (arith, same))
digits_found hex most n (b ∷ digits) v within e =
    passed (is_digit_of hex b) _ v e λ is_digit_b more.
    passed (leb (n * base hex + digit_value b) most) _ v more λ fits rest.
    let deeper = digits_found hex most (n * base hex + digit_value b) digits v (leb-true _ _ fits) rest in
    (rw (is_digit_b, deeper.0) refl, deeper.1, deeper.2)

digits_again : (hex : Bool) (most n : ℕ) (digits : List ℕ) → list_all (is_digit_of hex) digits ≡ true
    → digits_value_after (base hex) n digits ≤ most
    → digits_from hex most n digits ≡ Some (digits_value_after (base hex) n digits)
digits_again hex most n [] all within = refl
digits_again hex most n (b ∷ digits) all within =
    both (is_digit_of hex b) (list_all (is_digit_of hex) digits) all λ first others.
    let fits : leb (n * base hex + digit_value b) most ≡ true =
    le-leb _ _ (omega (arith, grows hex (n * base hex + digit_value b) digits, within)) in
    rw (first, fits) (digits_again hex most (n * base hex + digit_value b) digits others within)

pub number_found : (hex : Bool) (most : ℕ) (digits : List ℕ) (v : ℕ) → number_at hex most digits ≡ Some v
    → Number hex most digits v
unfolding number_at
number_found hex most digits v e =
    failed (eqb (length digits) 0) _ v e λ some more.
    let d = digits_found hex most 0 digits v (omega arith) more in
    record { filled = omega (arith, eqb-false _ _ some); digits_only = d.0; value = d.1; within = d.2 }

pub number_again : (hex : Bool) (most : ℕ) (digits : List ℕ) (v : ℕ) → Number hex most digits v
    → number_at hex most digits ≡ Some v
unfolding number_at
number_again hex most digits v h =
    let filled : eqb (length digits) 0 ≡ false = ne_eqb _ _ (λ none. omega (arith, none, h.filled)) in
    rw filled (digits_again hex most 0 digits h.digits_only (omega (arith, h.value, h.within))
    ∙ ap (λ (n : ℕ). Some n) (sym h.value))

pub decimal_again : (most : ℕ) (digits : List ℕ) (v : ℕ) → IsDecimal digits v → v ≤ most → number_at false most digits ≡ Some v
decimal_again most digits v h within =
    number_again false most digits v (record { filled = h.filled; digits_only = h.digits_only; value = h.value; within = within })

pub decimal_found : (most : ℕ) (digits : List ℕ) (v : ℕ) → number_at false most digits ≡ Some v → IsDecimal digits v × (v ≤ most)
decimal_found most digits v e = let h = number_found false most digits v e
    in (record { filled = h.filled; digits_only = h.digits_only; value = h.value }, h.within)

digit_no_space : (b : ℕ) → is_digit b ≡ true → eqb b 32 ≡ false
digit_no_space b e = both (leb 48 b) (leb b 57) e λ low high. ne_eqb b 32 (λ same. omega (arith, leb-true 48 b low, same))

hex_digit_no_space : (b : ℕ) → is_hex_digit b ≡ true → eqb b 32 ≡ false
hex_digit_no_space b e = ne_eqb b 32 (λ same. let f : is_hex_digit 32 ≡ true = subst (λ (n : ℕ). is_hex_digit n ≡ true) same e
    in absurd cc)

name_no_space : (b : ℕ) → is_name_byte b ≡ true → eqb b 32 ≡ false
name_no_space b e = ne_eqb b 32 (λ same. let f : is_name_byte 32 ≡ true = subst (λ (n : ℕ). is_name_byte n ≡ true) same e
    in absurd cc)

decimal_word : (digits : List ℕ) (v : ℕ) (rest : List ℕ) → IsDecimal digits v → word_at (spaced digits rest) ≡ Some (digits, rest)
decimal_word digits v rest h = word_again digits rest (without_space is_digit digit_no_space digits h.digits_only)

-- ---- codes

scalar_most : (n : ℕ) → scalar n ≡ true → n ≤ 0x10FFFF
scalar_most n e = elim (scalar_cases n e) [ inl low ↦ omega arith | inr high ↦ omega (arith, high.0, high.1) ]

long_or_other : (first : Bool) (long : Bool) → (first && long) ≡ false → first ≡ true → long ≡ false
long_or_other true long e f = e
long_or_other false long e f = absurd cc

not_both : (first : Bool) (long : Bool) → (first ≡ true → long ≡ false) → (first && long) ≡ false
not_both true long h = h refl
not_both false long h = refl

pub code_found : (digits : List ℕ) (v : ℕ) → code_at digits ≡ Some v → IsCode digits v
unfolding code_at
code_found digits v e =
    failed (eqb (get_or digits 0 0) 48 && ltb 1 (length digits)) _ v e λ short more.
    some_step (number_at true 0x10FFFF digits) scalar_of v more λ n is_n rest.
    passed (scalar n) (Some n) v rest λ is_scalar same.
    let h = number_found true 0x10FFFF digits n is_n in
    let n-is : n ≡ v = some_is n v same in
    record {
      filled = h.filled;
      digits_only = h.digits_only;
      shortest =
          λ zero_first.
          let one : ltb 1 (length digits) ≡ false = long_or_other (eqb (get_or digits 0 0) 48) (ltb 1 (length digits)) short
          (ap (λ (n : ℕ). eqb n 48) zero_first) in omega (arith, ltb-false _ _ one, h.filled);
      value = sym n-is ∙ h.value;
      scalar = rw (← n-is) is_scalar;
    }

pub code_again : (digits : List ℕ) (v : ℕ) → IsCode digits v → code_at digits ≡ Some v
unfolding code_at
code_again digits v h =
    let short : (eqb (get_or digits 0 0) 48 && ltb 1 (length digits)) ≡ false =
    not_both (eqb (get_or digits 0 0) 48) (ltb 1 (length digits))
    (λ first. let one = h.shortest (eqb-true (get_or digits 0 0) 48 first)
    in le-ltb 1 (length digits) (omega (arith, one))) in
    let numbers = number_again true 0x10FFFF digits v
    (record { filled = h.filled; digits_only = h.digits_only; value = h.value; within = scalar_most v h.scalar }) in
    rw (short, numbers, h.scalar) refl

code_word : (digits : List ℕ) (v : ℕ) (rest : List ℕ) → IsCode digits v → word_at (spaced digits rest) ≡ Some (digits, rest)
code_word digits v rest h = word_again digits rest (without_space is_hex_digit hex_digit_no_space digits h.digits_only)

-- ---- the fields of a line

keyword_found : (keyword line rest : List ℕ) → behind_keyword keyword line ≡ Some rest → line ≡ spaced keyword rest
unfolding behind_keyword
keyword_found keyword line rest e =
    some_step (word_at line) _ rest e λ word is_word more.
    passed (bytes_eq word.0 keyword) (Some word.1) rest more λ same is_rest.
    word_found line word.0 word.1 is_word ∙ ap (λ (w : List ℕ). spaced w word.1) ((bytes_eq-Decides word.0 keyword).0 same)
    ∙ ap (λ (t : List ℕ). spaced keyword t) (some_is word.1 rest is_rest)

field_found : (most : ℕ) (bytes : List ℕ) (x : ℕ × List ℕ) → field_at most bytes ≡ Some x
    → (digits : List ℕ) × (bytes ≡ spaced digits x.1) × IsDecimal digits x.0 × (x.0 ≤ most)
unfolding field_at
field_found most bytes x e =
    some_step (word_at bytes) _ x e λ word is_word more.
    some_step (number_at false most word.0) _ x more λ n is_n made.
    let h = decimal_found most word.0 n is_n in
    subst (λ (y : ℕ × List ℕ). (digits : List ℕ) × (bytes ≡ spaced digits y.1) × IsDecimal digits y.0 × (y.0 ≤ most))
    (some_is {A = ℕ × List ℕ} (n, word.1) x made)
    (word.0, word_found bytes word.0 word.1 is_word, h.0, h.1)

field_again : (most : ℕ) (digits : List ℕ) (v : ℕ) (rest : List ℕ) → IsDecimal digits v → v ≤ most
    → field_at most (spaced digits rest) ≡ Some (v, rest)
unfolding field_at
field_again most digits v rest h within = rw (decimal_word digits v rest h, decimal_again most digits v h within) refl

weight_found : (bytes : List ℕ) (x : ℕ × List ℕ) → weight_at bytes ≡ Some x → (digits : List ℕ) × (bytes ≡ spaced digits x.1)
    × IsDecimal digits x.0 × (x.0 ≤ 1000) × (1 ≤ x.0)
unfolding weight_at
weight_found bytes x e =
    some_step (field_at 1000 bytes) _ x e λ f is_f more.
    passed (ltb 0 f.0) (Some f) x more λ weighs made.
    let h = field_found 1000 bytes f is_f in
    subst (λ (y : ℕ × List ℕ). (digits : List ℕ) × (bytes ≡ spaced digits y.1) × IsDecimal digits y.0 × (y.0 ≤ 1000) × (1 ≤ y.0))
    (some_is f x made)
    (h.0, h.1, h.2, h.3, omega (arith, ltb-true 0 f.0 weighs))

weight_again : (digits : List ℕ) (v : ℕ) (rest : List ℕ) → IsDecimal digits v → v ≤ 1000 → 1 ≤ v
    → weight_at (spaced digits rest) ≡ Some (v, rest)
unfolding weight_at
weight_again digits v rest h within weighs =
    let some : ltb 0 v ≡ true = lt-ltb 0 v (omega (arith, weighs)) in
    rw (field_again 1000 digits v rest h within, some) refl

name_found : (bytes : List ℕ) (x : List ℕ × List ℕ) → name_at bytes ≡ Some x → (bytes ≡ spaced x.0 x.1) × (0 < length x.0)
    × IsTrue (list_all is_name_byte x.0)
unfolding name_at
name_found bytes x e =
    some_step (word_at bytes) _ x e λ word is_word more.
    passed (ltb 0 (length word.0) && list_all is_name_byte word.0) (Some word) x more λ good made.
    both (ltb 0 (length word.0)) (list_all is_name_byte word.0) good λ filled named.
    subst (λ (y : List ℕ × List ℕ). (bytes ≡ spaced y.0 y.1) × (0 < length y.0) × IsTrue (list_all is_name_byte y.0))
    (some_is word x made)
    (word_found bytes word.0 word.1 is_word, ltb-true _ _ filled, named)

name_again : (name rest : List ℕ) → 0 < length name → IsTrue (list_all is_name_byte name)
    → name_at (spaced name rest) ≡ Some (name, rest)
unfolding name_at
name_again name rest filled named =
    let some : ltb 0 (length name) ≡ true = lt-ltb _ _ filled in
    rw (word_again name rest (without_space is_name_byte name_no_space name named), some, named) refl

style_is : (word : List ℕ) (italic : Bool) → style_of word ≡ Some italic → word ≡ style_word italic
unfolding style_of
style_is word italic e = by_test (bytes_eq word (codes "normal")) refl e
  where
    by_test : (r : Bool) → bytes_eq word (codes "normal") ≡ r
        → cond r (Some false) (cond (bytes_eq word (codes "italic")) (Some true) None) ≡ Some italic → word ≡ style_word italic
    by_test true t e = (bytes_eq-Decides word (codes "normal")).0 t ∙ ap style_word (some_is false italic e)
    by_test false t e = passed (bytes_eq word (codes "italic")) (Some true) italic e λ same is_true.
        (bytes_eq-Decides word (codes "italic")).0 same ∙ ap style_word (some_is true italic is_true)

style_found : (bytes : List ℕ) (x : Bool × List ℕ) → style_at bytes ≡ Some x → bytes ≡ spaced (style_word x.0) x.1
unfolding style_at
style_found bytes x e =
    some_step (word_at bytes) _ x e λ word is_word more.
    some_step (style_of word.0) _ x more λ italic is_italic made.
    subst (λ (y : Bool × List ℕ). bytes ≡ spaced (style_word y.0) y.1) (some_is {A = Bool × List ℕ} (italic, word.1) x made)
    (word_found bytes word.0 word.1 is_word ∙ ap (λ (w : List ℕ). spaced w word.1) (style_is word.0 italic is_italic))

style_again : (italic : Bool) (rest : List ℕ) → style_at (spaced (style_word italic) rest) ≡ Some (italic, rest)
unfolding style_at style_of
style_again false rest = refl
style_again true rest = refl

-- ---- lines

pub face_found : (line : List ℕ) (face : Face) → face_at line ≡ Some face → IsFaceLine line face × (face.advances ≡ [])
unfolding face_at
face_found line face e =
    some_step (behind_keyword (codes "face") line) _ face e λ behind is_behind e1.
    some_step (name_at behind) _ face e1 λ name is_name e2.
    some_step (weight_at name.1) _ face e2 λ weight is_weight e3.
    some_step (style_at weight.1) _ face e3 λ style is_style e4.
    some_step (field_at 10000 style.1) _ face e4 λ ascent is_ascent e5.
    some_step (field_at 10000 ascent.1) _ face e5 λ descent is_descent e6.
    some_step (number_at false 10000 descent.1) _ face e6 λ default is_default made.
    let n = name_found behind name is_name in
    let w = weight_found name.1 weight is_weight in
    let a = field_found 10000 style.1 ascent is_ascent in
    let d = field_found 10000 ascent.1 descent is_descent in
    let f = decimal_found 10000 descent.1 default is_default in
    let words : line ≡ spaced (codes "face")
    (spaced name.0 (spaced w.0 (spaced (style_word style.0) (spaced a.0 (spaced d.0 descent.1))))) =
    keyword_found (codes "face") line behind is_behind
    ∙ ap (spaced (codes "face")) (n.0
    ∙ ap (spaced name.0) (w.1 ∙ ap (spaced w.0)
    (style_found weight.1 style is_style ∙ ap (spaced (style_word style.0)) (a.1 ∙ ap (spaced a.0) d.1)))) in
    subst (λ (y : Face). IsFaceLine line y × (y.advances ≡ [])) (some_is _ face made) (
      record {
        weight = w.0;
        ascent = a.0;
        descent = d.0;
        default = descent.1;
        words = words;
        named = n.1;
        name_bytes = n.2;
        is_weight = w.2;
        weighs = w.4;
        weight_most = w.3;
        is_ascent = a.2;
        ascent_most = a.3;
        is_descent = d.2;
        descent_most = d.3;
        is_default = f.0;
        default_most = f.1;
      },
      refl,
    )

keyword_again_face : (rest : List ℕ) → behind_keyword (codes "face") (spaced (codes "face") rest) ≡ Some rest
unfolding behind_keyword
keyword_again_face rest = refl

keyword_again_ch : (rest : List ℕ) → behind_keyword (codes "ch") (spaced (codes "ch") rest) ≡ Some rest
unfolding behind_keyword
keyword_again_ch rest = refl

pub face_again : (line : List ℕ) (face : Face) → IsFaceLine line face → face_at line ≡ Some (record face { advances = [] })
unfolding face_at
face_again line face h =
    ap face_at h.words ∙ rw (
      keyword_again_face _,
      name_again face.name _ h.named h.name_bytes,
      weight_again h.weight face.weight _ h.is_weight h.weight_most h.weighs,
      style_again face.italic _,
      field_again 10000 h.ascent face.ascent _ h.is_ascent h.ascent_most,
      field_again 10000 h.descent face.descent _ h.is_descent h.descent_most,
      decimal_again 10000 h.default face.default_advance h.is_default h.default_most,
    ) refl

pub character_found : (line : List ℕ) (a : Advance) → character_at line ≡ Some a → IsCharacterLine line a
unfolding character_at
character_found line a e =
    some_step (behind_keyword (codes "ch") line) _ a e λ behind is_behind e1.
    some_step (word_at behind) _ a e1 λ word is_word e2.
    some_step (code_at word.0) _ a e2 λ ch is_ch e3.
    some_step (number_at false 10000 word.1) _ a e3 λ amount is_amount made.
    let f = decimal_found 10000 word.1 amount is_amount in
    subst (λ (y : Advance). IsCharacterLine line y) (some_is _ a made)
    (record {
      hex = word.0;
      amount = word.1;
      words = keyword_found (codes "ch") line behind is_behind
          ∙ ap (spaced (codes "ch")) (word_found behind word.0 word.1 is_word);
      is_code = code_found word.0 ch is_ch;
      is_amount = f.0;
      amount_most = f.1;
    })

pub character_again : (line : List ℕ) (a : Advance) → IsCharacterLine line a → character_at line ≡ Some a
unfolding character_at
character_again line a h =
    ap character_at h.words ∙ rw (
      keyword_again_ch _,
      code_word h.hex a.ch _ h.is_code,
      code_again h.hex a.ch h.is_code,
      decimal_again 10000 h.amount a.amount h.is_amount h.amount_most,
    ) refl

-- no line is of both forms
pub one_form : (line : List ℕ) (face : Face) (a : Advance) → IsFaceLine line face → IsCharacterLine line a → ⊥
one_form line face a f c =
    let heads : 102 ≡ 99 = ap (λ (bytes : List ℕ). get_or bytes 0 0) (sym f.words ∙ c.words) in
    omega (arith, heads)

pub not_a_face : (line : List ℕ) (a : Advance) → IsCharacterLine line a → face_at line ≡ None
not_a_face line a c = by_result (face_at line) refl
  where
    by_result : (r : Option Face) → face_at line ≡ r → face_at line ≡ None
    by_result None e = e
    by_result (Some face) e = absurd (one_form line face a (face_found line face e).0 c)
