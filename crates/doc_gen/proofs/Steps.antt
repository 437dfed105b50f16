-- One more letter, word and paragraph.
use Rattle.std.proofs.Common.{◌≡◌, ℕ, zero, suc, ◌+◌, ◌*◌, ◌%◌, ◌^◌, ◌≤◌, [], ◌∷◌, ◌++◌, refl, sym, arith, add-one, List, ap, ◌∙◌}
use Rattle.std.proofs.Common.{append_assoc}
use Rattle.std.proofs.Math.Nat.{mod-add-mod}
use Rattle.std.proofs.lemmas.Grind.{common_steps}
use Rattle.doc_gen.specs.Document.{next_state, draw_of, state_after, letters, word, after_word, word_state, words, paragraph}
use Rattle.doc_gen.specs.Document.{after_paragraph, heading, after_heading, part_state, parts}

pub state_none : (s : ℕ) → state_after 0 s ≡ s
unfolding state_after
state_none s = refl

pub letters_none : (s : ℕ) → letters 0 s ≡ []
unfolding letters
letters_none s = refl

pub part_state_none : (s : ℕ) → part_state 0 s ≡ s
unfolding part_state
part_state_none s = refl

pub parts_none : (s : ℕ) → parts 0 s ≡ []
unfolding parts
parts_none s = refl

pub state_more : (n s : ℕ) → state_after (n + 1) s ≡ next_state (state_after n s)
unfolding state_after
state_more n s = rw add-one

pub letters_more : (n s : ℕ) → letters (n + 1) s ≡ letters n s ++ (97 + draw_of (state_after n s) % 26) ∷ []
unfolding letters
letters_more n s = rw add-one

pub word_state_more : (n s : ℕ) → word_state (n + 1) s ≡ after_word (word_state n s)
unfolding word_state
word_state_more n s = rw add-one

pub words_one : (s : ℕ) → words 1 s ≡ word s
unfolding words
words_one s = refl

pub word_state_one : (s : ℕ) → word_state 1 s ≡ after_word s
unfolding word_state
word_state_one s = refl

pub words_more : (n s : ℕ) → 1 ≤ n → words (n + 1) s ≡ words n s ++ 32 ∷ word (word_state n s)
unfolding words
words_more zero s some = absurd (omega arith)
words_more (suc n) s some = rw add-one

pub part_state_more : (n s : ℕ) → part_state (n + 1) s ≡ after_paragraph (after_heading n (part_state n s))
unfolding part_state
part_state_more n s = rw add-one

pub parts_more : (n s : ℕ) → parts (n + 1) s
    ≡ parts n s ++ (heading n (part_state n s) ++ paragraph (after_heading n (part_state n s)))
unfolding parts
parts_more n s = rw add-one

pub next_is : (s : ℕ) → next_state s ≡ (s * 6364136223846793005 % 2 ^ 64 + 1442695040888963407) % 2 ^ 64
unfolding next_state
next_is s = sym (mod-add-mod (s * 6364136223846793005) (2 ^ 64) 1442695040888963407)

-- three pieces that are put one after another
pub three_pieces : (old first second third a b c : List ℕ) → first ≡ old ++ a → second ≡ first ++ b → third ≡ second ++ c
    → third ≡ old ++ ((a ++ b) ++ c)
three_pieces old first second third a b c p q r =
    r ∙ (ap (λ (t : List ℕ). t ++ c) (q ∙ (ap (λ (t : List ℕ). t ++ b) p ∙ append_assoc old a b)) ∙ append_assoc old (a ++ b) c)

pub ruleset letter_steps = (common_steps, letters_none, state_none, letters_more, state_more)

pub ruleset word_steps = (common_steps, words_one, word_state_one, words_more, word_state_more)

pub ruleset part_steps = (common_steps, parts_none, part_state_none, parts_more, part_state_more)
