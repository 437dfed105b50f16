-- A line has a step just where it is written so.
use Rattle.std.proofs.Common.{◌≡◌, ℕ, List, [], ◌∷◌, ◌++◌, length, Bool, true, false, eqb, cond, ◌&&◌, nat_lt, codes}
use Rattle.std.proofs.Common.{Option, Some, None, refl, ap}
use Rattle.std.specs.List.{list_all}
use Rattle.std.proofs.lemmas.Slice.Eq.{bytes_eq-Decides}
use Rattle.std.proofs.lemmas.Bool.Decides.{Decides-eqb}
use Rattle.mc_base.specs.Finding.{◌>>=◌}
use Rattle.html_grammar.specs.Names.{same}
use Rattle.edit_script.specs.declared.script.Edit.TheVariants as edits
use Rattle.edit_script.specs.declared.script.Step.{Step}
use Rattle.edit_script.specs.declared.script.Step.TheVariants as steps
use Rattle.edit_script.specs.Laws.{WhatIsWrittenIsAStep, AStepIsWrittenSo}
use Rattle.edit_script.specs.Spelling.{IsSpelled, is_id, is_no_space}
use Rattle.edit_script.specs.Steps.{word_at, id_at, words_at, class_at, removal_at, edit_at, step_of}

-- a word that has no space is the first
word_front : (word rest : List ℕ) → list_all is_no_space word ≡ true → word_at (word ++ 32 ∷ rest) ≡ Some (word, rest)
word_front [] rest all = refl
word_front (b ∷ word) rest all = by_space (eqb b 32) refl (word_front word rest)
  where
    by_space : (t : Bool) → eqb b 32 ≡ t
        → (list_all is_no_space word ≡ true → word_at (word ++ 32 ∷ rest) ≡ Some (word, rest))
        → word_at (b ∷ (word ++ 32 ∷ rest)) ≡ Some (b ∷ word, rest)
    by_space true is below = absurd (let e : false ≡ true = rw is at all in cc)
    by_space false is below = rw (is, below (by_rest (is_no_space b) all)) refl
      where
        by_rest : (t : Bool) → (t && list_all is_no_space word) ≡ true → list_all is_no_space word ≡ true
        by_rest true e = e
        by_rest false e = absurd (let no : false ≡ true = e in cc)

all_of_id : (id : List ℕ) → is_id id ≡ true → list_all is_no_space id ≡ true
all_of_id id is = by_len (nat_lt 0 (length id)) is
  where
    by_len : (t : Bool) → (t && list_all is_no_space id) ≡ true → list_all is_no_space id ≡ true
    by_len true e = e
    by_len false e = absurd (let no : false ≡ true = e in cc)

id_front : (id rest : List ℕ) → is_id id ≡ true → id_at (id ++ 32 ∷ rest) ≡ Some (id, rest)
unfolding id_at
id_front id rest is = rw (word_front id rest (all_of_id id is), is) refl

pub what_is_written : WhatIsWrittenIsAStep
unfolding step_of edit_at words_at class_at removal_at same
what_is_written steps.Print line w = rw w.written refl
what_is_written (steps.Change (edits.Words id rest)) line w = rw (w.written, id_front id rest w.named) refl
what_is_written (steps.Change (edits.Class id rest)) line w = rw (w.written, id_front id rest w.named) refl
what_is_written (steps.Change (edits.Remove id)) line w = rw (w.written, w.named) refl

some_is : (x y : List ℕ × List ℕ) → Some x ≡ Some y → x ≡ y
some_is x y e = cc

abbrev Word : Type 0
Word = Option (List ℕ × List ℕ)

abbrev grown : ℕ → Word → Word
grown b word = word >>= λ x. Some (b ∷ x.0, x.1)

-- what stands before the first space, the space, and what stands after it are the whole
word_back : (bytes word rest : List ℕ) → word_at bytes ≡ Some (word, rest) → bytes ≡ word ++ 32 ∷ rest
word_back [] word rest is = absurd (let no : None ≡ Some (word, rest) = is in cc)
word_back (b ∷ bytes) word rest is = by_space (eqb b 32) refl is (word_back bytes)
  where
    further : (front : Option (List ℕ × List ℕ)) → word_at bytes ≡ front
        → grown b front ≡ Some (word, rest)
        → ((w r : List ℕ) → word_at bytes ≡ Some (w, r) → bytes ≡ w ++ 32 ∷ r) → b ∷ bytes ≡ word ++ 32 ∷ rest
    further None is_front e below = absurd (let no : None ≡ Some (word, rest) = e in cc)
    further (Some (front, back)) is_front e below =
        let all = below front back is_front in
        let whole = some_is _ _ e in
        let w : b ∷ front ≡ word = ap (λ (x : List ℕ × List ℕ). x.0) whole in
        let r : back ≡ rest = ap (λ (x : List ℕ × List ℕ). x.1) whole in
        rw (all, ← w, ← r) refl

    by_space : (t : Bool) → eqb b 32 ≡ t
        → cond t (Some ([], bytes)) (grown b (word_at bytes)) ≡ Some (word, rest)
        → ((w r : List ℕ) → word_at bytes ≡ Some (w, r) → bytes ≡ w ++ 32 ∷ r) → b ∷ bytes ≡ word ++ 32 ∷ rest
    by_space true space e below =
        let whole = some_is _ _ e in
        let w : [] ≡ word = ap (λ (x : List ℕ × List ℕ). x.0) whole in
        let r : bytes ≡ rest = ap (λ (x : List ℕ × List ℕ). x.1) whole in
        let at : b ≡ 32 = (Decides-eqb b 32).0 space in
        rw (← w, ← r, at) refl
    by_space false space e below = further (word_at bytes) refl e below

same_is : (a b : List ℕ) → same a b ≡ true → a ≡ b
unfolding same
same_is a b is = (bytes_eq-Decides a b).0 is

-- what an option gives in a step that gives something
gives : {A B : Type 0} (o : Option A) (f : A → Option B) (y : B) → (o >>= f) ≡ Some y → (x : A) × (o ≡ Some x) × (f x ≡ Some y)
gives None f y e = absurd (let no : None ≡ Some y = e in cc)
gives (Some x) f y e = (x, refl, e)

where_true : {A : Type 0} (t : Bool) (o : Option A) (y : A) → cond t o None ≡ Some y → (t ≡ true) × (o ≡ Some y)
where_true true o y e = (refl, e)
where_true false o y e = absurd (let no : None ≡ Some y = e in cc)

id_back : (bytes : List ℕ) (x : List ℕ × List ℕ) → id_at bytes ≡ Some x → (bytes ≡ x.0 ++ 32 ∷ x.1) × (is_id x.0 ≡ true)
unfolding id_at
id_back bytes x e =
    let g = gives (word_at bytes) (λ x. cond (is_id x.0) (Some x) None) x e in
    let h = where_true (is_id g.0.0) (Some g.0) x g.2 in
    let same_pair : g.0 ≡ x = let s : Some g.0 ≡ Some x = h.1 in cc in
    (rw (← same_pair) (word_back bytes g.0.0 g.0.1 g.1), rw (← same_pair) h.0)

words_written : (bytes id rest : List ℕ) (step : Step) → bytes ≡ id ++ 32 ∷ rest → is_id id ≡ true
    → steps.Change (edits.Words id rest) ≡ step → IsSpelled step (codes "text" ++ 32 ∷ bytes)
words_written bytes id rest step all named is = rw (← is, all) (record { written = refl; named = named })

words_back : (bytes : List ℕ) (step : Step) → words_at bytes ≡ Some step → IsSpelled step (codes "text" ++ 32 ∷ bytes)
unfolding words_at
words_back bytes step e =
    let g = gives (id_at bytes) (λ x. Some (steps.Change (edits.Words x.0 x.1))) step e in
    let b = id_back bytes g.0 g.1 in
    words_written bytes g.0.0 g.0.1 step b.0 b.1
    (let s : Some (steps.Change (edits.Words g.0.0 g.0.1)) ≡ Some step = g.2 in cc)

class_written : (bytes id rest : List ℕ) (step : Step) → bytes ≡ id ++ 32 ∷ rest → is_id id ≡ true
    → steps.Change (edits.Class id rest) ≡ step → IsSpelled step (codes "class" ++ 32 ∷ bytes)
class_written bytes id rest step all named is = rw (← is, all) (record { written = refl; named = named })

class_back : (bytes : List ℕ) (step : Step) → class_at bytes ≡ Some step → IsSpelled step (codes "class" ++ 32 ∷ bytes)
unfolding class_at
class_back bytes step e =
    let g = gives (id_at bytes) (λ x. Some (steps.Change (edits.Class x.0 x.1))) step e in
    let b = id_back bytes g.0 g.1 in
    class_written bytes g.0.0 g.0.1 step b.0 b.1
    (let s : Some (steps.Change (edits.Class g.0.0 g.0.1)) ≡ Some step = g.2 in cc)

removal_back : (bytes : List ℕ) (step : Step) → removal_at bytes ≡ Some step → IsSpelled step (codes "remove" ++ 32 ∷ bytes)
unfolding removal_at
removal_back bytes step e =
    let h = where_true (is_id bytes) (Some (steps.Change (edits.Remove bytes))) step e in
    let is : steps.Change (edits.Remove bytes) ≡ step = let s : Some (steps.Change (edits.Remove bytes)) ≡ Some step = h.1 in
    cc in
    rw (← is) (record { written = refl; named = h.0 })

edit_back : (word bytes : List ℕ) (step : Step) → edit_at word bytes ≡ Some step → IsSpelled step (word ++ 32 ∷ bytes)
unfolding edit_at
edit_back word bytes step e = by_text (same word (codes "text")) refl e
  where
    by_remove : (t : Bool) → same word (codes "remove") ≡ t → cond t (removal_at bytes) None ≡ Some step
        → IsSpelled step (word ++ 32 ∷ bytes)
    by_remove true is e = rw (same_is word (codes "remove") is) (removal_back bytes step e)
    by_remove false is e = absurd (let no : None ≡ Some step = e in cc)

    by_class : (t : Bool) → same word (codes "class") ≡ t
        → cond t (class_at bytes) (cond (same word (codes "remove")) (removal_at bytes) None) ≡ Some step
        → IsSpelled step (word ++ 32 ∷ bytes)
    by_class true is e = rw (same_is word (codes "class") is) (class_back bytes step e)
    by_class false is e = by_remove (same word (codes "remove")) refl e

    by_text : (t : Bool) → same word (codes "text") ≡ t
        → cond t (words_at bytes) (cond (same word (codes "class")) (class_at bytes)
        (cond (same word (codes "remove")) (removal_at bytes) None)) ≡ Some step
        → IsSpelled step (word ++ 32 ∷ bytes)
    by_text true is e = rw (same_is word (codes "text") is) (words_back bytes step e)
    by_text false is e = by_class (same word (codes "class")) refl e

pub a_step_is_written : AStepIsWrittenSo
unfolding step_of
a_step_is_written step line e = by_print (same line (codes "print")) refl e
  where
    by_print : (t : Bool) → same line (codes "print") ≡ t
        → cond t (Some steps.Print) (word_at line >>= λ x. edit_at x.0 x.1) ≡ Some step → IsSpelled step line
    by_print true is e =
        let it : steps.Print ≡ step = cc in
        rw (← it) (record { written = same_is line (codes "print") is; named = tt })
    by_print false is e =
        let g = gives (word_at line) (λ x. edit_at x.0 x.1) step e in
        rw (word_back line g.0.0 g.0.1 g.1) (edit_back g.0.0 g.0.1 step g.2)
