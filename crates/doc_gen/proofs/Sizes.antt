-- How long a generated document is.
use Rattle.std.proofs.Common.{◌≡◌, ◌≢◌, ◌⊎◌, inl, inr, ℕ, zero, suc, ◌+◌, ◌*◌, ◌/◌, ◌%◌, ◌≤◌, ◌==◌, true, false, [], ◌∷◌}
use Rattle.std.proofs.Common.{◌++◌, length, length-append, codes, ap, arith}
use Rattle.std.proofs.lemmas.Bool.Decides.{eqb_tells}
use Rattle.std.specs.Prelude.{◌&&◌, not, if◌then◌else◌}
use Rattle.doc_gen.specs.Document.{next_state, draw_of, state_after, letters, word, word_state, words, paragraph, heading_line}
use Rattle.doc_gen.specs.Document.{has_heading, heading, after_heading, part_state, parts, document, document_head, document_foot}

letters_long : (n s : ℕ) → length (letters n s) ≡ n
unfolding letters
letters_long zero s = omega arith
letters_long (suc n) s =
    let before = letters_long n s in
    let joined = length-append (letters n s) ((97 + draw_of (state_after n s) % 26) ∷ []) in
    omega (arith, before, joined)

word_long : (s : ℕ) → length (word s) ≤ 9
unfolding word
word_long s = let is = letters_long (1 + draw_of s % 9) (next_state s) in omega (arith, is)

words_long : (n s : ℕ) → length (words n s) ≤ 10 * n
unfolding words
words_long zero s = omega arith
words_long (suc zero) s = let one = word_long s in omega (arith, one)
words_long (suc (suc n)) s =
    let before = words_long (suc n) s in
    let one = word_long (word_state (suc n) s) in
    let joined = length-append (words (suc n) s) (32 ∷ word (word_state (suc n) s)) in
    omega (arith, before, one, joined)

paragraph_long : (s : ℕ) → length (paragraph s) ≤ 798
unfolding paragraph
paragraph_long s =
    let n = 20 + draw_of s % 60 in
    let inner = words_long n (next_state s) in
    let one = length-append (codes "<p>") (words n (next_state s) ++ codes "</p>\n") in
    let two = length-append (words n (next_state s)) (codes "</p>\n") in
    omega (arith, inner, one, two)

line_long : (s : ℕ) → length (heading_line s) ≤ 64
unfolding heading_line
line_long s =
    let inner = words_long 3 s in
    let one = length-append (codes "<h2 style=\"column-span:all\">") (words 3 s ++ codes "</h2>\n") in
    let two = length-append (words 3 s) (codes "</h2>\n") in
    omega (arith, inner, one, two)

-- a heading counts at every sixteenth part
heading_long : (i s : ℕ) → length (heading i s) + 64 * ((i + 15) / 16) ≤ 64 * ((i + 16) / 16)
unfolding heading has_heading
heading_long i s = go (eqb_tells (i % 16) 0)
  where
    at_most : (first : _) → length (if not first && true then heading_line s else []) ≤ 64
    at_most true = omega arith
    at_most false = line_long s

    none : (first : _) → length (if not first && false then heading_line s else []) ≡ 0
    none true = omega arith
    none false = omega arith

    go : (((i % 16 == 0) ≡ true) × (i % 16 ≡ 0)) ⊎ (((i % 16 == 0) ≡ false) × (i % 16 ≢ 0))
        → length (if not (i == 0) && (i % 16 == 0) then heading_line s else []) + 64 * ((i + 15) / 16) ≤ 64 * ((i + 16) / 16)
    go (inl whole) =
        let is = whole.1 in
        let most = at_most (i == 0) in
        let same = ap (λ b. length (if not (i == 0) && b then heading_line s else [])) whole.0 in
        omega (arith, is, most, same)
    go (inr other) =
        let nothing = none (i == 0) in
        let same = ap (λ b. length (if not (i == 0) && b then heading_line s else [])) other.0 in
        omega (arith, nothing, same)

parts_long : (n s : ℕ) → length (parts n s) ≤ 798 * n + 64 * ((n + 15) / 16)
unfolding parts
parts_long zero s = omega arith
parts_long (suc n) s =
    let here = part_state n s in
    let before = parts_long n s in
    let head = heading_long n here in
    let body = paragraph_long (after_heading n here) in
    let one = length-append (parts n s) (heading n here ++ paragraph (after_heading n here)) in
    let two = length-append (heading n here) (paragraph (after_heading n here)) in
    omega (arith, before, head, body, one, two)

pub document_long : (start count : ℕ) → count ≤ 5000 → length (document start count) ≤ 4194304
document_long start count few =
    let inner = parts_long count start in
    let one = length-append document_head (parts count start ++ document_foot) in
    let two = length-append (parts count start) document_foot in
    omega (arith, few, inner, one, two)
