-- The generated document of a start and a count of paragraphs. Its words come from draws, numbers that a recurrence gives.
-- All of it is this project's own.
use Rattle.std.specs.Prelude.{ℕ, zero, suc, ◌+◌, ◌*◌, ◌/◌, ◌%◌, ◌^◌, ◌==◌, ◌&&◌, not, Bool, if◌then◌else◌, List, [], ◌∷◌, ◌++◌}
use Rattle.std.specs.Prelude.{codes}

-- the state after a draw, by a recurrence modulo 2^64, and what is drawn from a state: the upper 31 bits of the next one
unfoldable pub next_state : ℕ → ℕ
next_state s = (s * 6364136223846793005 + 1442695040888963407) % 2 ^ 64

unfoldable pub draw_of : ℕ → ℕ
draw_of s = next_state s / 2 ^ 33

-- the state after n draws
unfoldable pub state_after : (n s : ℕ) → ℕ
state_after zero s = s
state_after (suc n) s = next_state (state_after n s)

-- n letters from `a` to `z`, a draw for each
unfoldable pub letters : (n s : ℕ) → List ℕ
letters zero s = []
letters (suc n) s = letters n s ++ (97 + draw_of (state_after n s) % 26) ∷ []

-- a word: a draw for its length, from 1 to 9, then its letters; and the state after it
unfoldable pub word : ℕ → List ℕ
word s = letters (1 + draw_of s % 9) (next_state s)

unfoldable pub after_word : ℕ → ℕ
after_word s = state_after (1 + draw_of s % 9) (next_state s)

-- the state where the word stands that n words precede
unfoldable pub word_state : (n s : ℕ) → ℕ
word_state zero s = s
word_state (suc n) s = after_word (word_state n s)

-- n words, joined by one space
unfoldable pub words : (n s : ℕ) → List ℕ
words zero s = []
words (suc zero) s = word s
words (suc (suc n)) s = words (suc n) s ++ 32 ∷ word (word_state (suc n) s)

-- a paragraph: a draw for its count of words, from 20 to 79, then its words; and the state after it
unfoldable pub paragraph : ℕ → List ℕ
paragraph s = codes "<p>" ++ words (20 + draw_of s % 60) (next_state s) ++ codes "</p>\n"

unfoldable pub after_paragraph : ℕ → ℕ
after_paragraph s = word_state (20 + draw_of s % 60) (next_state s)

-- a heading across the columns, of three words
unfoldable pub heading_line : ℕ → List ℕ
heading_line s = codes "<h2 style=\"column-span:all\">" ++ words 3 s ++ codes "</h2>\n"

-- one stands before every sixteenth paragraph but the first
unfoldable pub has_heading : ℕ → Bool
has_heading i = not (i == 0) && i % 16 == 0

unfoldable pub heading : (i s : ℕ) → List ℕ
heading i s = if has_heading i then heading_line s else []

-- the state after what stands before a paragraph
unfoldable pub after_heading : (i s : ℕ) → ℕ
after_heading i s = if has_heading i then word_state 3 s else s

-- the state after n paragraphs and their headings, and the text of these
unfoldable pub part_state : (n s : ℕ) → ℕ
part_state zero s = s
part_state (suc n) s = after_paragraph (after_heading n (part_state n s))

unfoldable pub parts : (n s : ℕ) → List ℕ
parts zero s = []
parts (suc n) s = parts n s ++ (heading n (part_state n s) ++ paragraph (after_heading n (part_state n s)))

-- what stands before the paragraphs, and after them
abbrev pub document_head : List ℕ
document_head = codes "<!DOCTYPE html>\n<title>gen</title>\n<style>div{column-count:3;column-gap:16px}</style>\n<div>\n"

abbrev pub document_foot : List ℕ
document_foot = codes "</div>\n"

-- the document of so many paragraphs
abbrev pub document : (start count : ℕ) → List ℕ
document start count = document_head ++ parts count start ++ document_foot
