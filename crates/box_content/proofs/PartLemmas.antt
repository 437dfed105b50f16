-- The row of a part, with its voids, is what the part's marks say.
use Rattle.std.proofs.Common.{◌≡◌, ℕ, List, [], ◌∷◌, ◌++◌, Option, None, refl, sym, ap, ◌∙◌, map, append_assoc}
use Rattle.std.specs.Prelude.{not, reverse}
use Rattle.box_data.specs.declared.mark.Mark.{Mark}
use Rattle.box_data.specs.declared.mark.Mark.TheVariants as marked
use Rattle.box_data.specs.declared.placed.Placed.{Placed}
use Rattle.box_data.specs.Content.{Content, done, opens, closes, leaf, holds, spanner, part, led, has_spanner, row_of_part}
use Rattle.box_data.specs.Content.{leaf_mark, holder_mark, marks}
use Rattle.box_data.specs.Bounds.{IsNumbered, AreNumbered}
use Rattle.box_content.specs.Cutting.{opening, left_in, voids_of, first_closing, last_opening, row_inside, row_marks}
use Rattle.box_content.specs.Walking.{or_void}
use Rattle.box_content.proofs.ContentLemmas.{marks-or_void, leaf_closes_nothing, leaf_opens_nothing, holder_closes_nothing}

-- the marks up to the next spanner
abbrev pub plain : Content → List Mark
plain done = []
plain (opens p next) = marked.Opens p.number ∷ plain next
plain (closes p next) = marked.Closes p.number ∷ plain next
plain (leaf l next) = leaf_mark l ∷ plain next
plain (holds h inside next) = holder_mark h ∷ (marks inside ++ (marked.End ∷ plain next))
plain (spanner inside next) = []

-- ---- the void behind the last start of a box

abbrev trailed : List Placed → List Mark → List Mark
trailed places ms = ms ++ voids_of places (last_opening ms)

last_behind : (xs ys : List Mark) (y : Mark) → last_opening (xs ++ (y ∷ ys)) ≡ last_opening (y ∷ ys)
last_behind [] ys y = refl
last_behind (x ∷ []) ys y = refl
last_behind (x ∷ (z ∷ xs)) ys y = last_behind (z ∷ xs) ys y

trailed_start : (places : List Placed) (p : Placed) (ms : List Mark) → IsNumbered places p
    → ◌≡◌ {A = List Mark} (marked.Opens p.number ∷ or_void p.number p.content_x (trailed places ms))
    (trailed places (marked.Opens p.number ∷ ms))
trailed_start places p [] h =
    ap (λ (o : Option Placed). marked.Opens p.number ∷ (marked.Void p.number (left_in o) ∷ [])) (sym h)
trailed_start places p (m ∷ ms) h = refl

trailed_other : (places : List Placed) (m : Mark) (ms : List Mark) → opening m ≡ None
    → ◌≡◌ {A = List Mark} (m ∷ trailed places ms) (trailed places (m ∷ ms))
trailed_other places m [] h = ap (λ (o : Option ℕ). m ∷ voids_of places o) (sym h)
trailed_other places m (n ∷ ms) h = refl

trailed_block : (places : List Placed) (m : Mark) (inside ms : List Mark)
    → ◌≡◌ {A = List Mark} (m ∷ (inside ++ (marked.End ∷ trailed places ms))) (trailed places (m ∷ (inside ++ (marked.End ∷ ms))))
trailed_block places m inside ms =
    ap (λ (ns : List Mark). m ∷ (inside ++ ns)) (trailed_other places marked.End ms refl)
    ∙ ap (λ (ns : List Mark). m ∷ ns) (sym (append_assoc inside (marked.End ∷ ms)
    (voids_of places (last_opening (marked.End ∷ ms)))))
    ∙ ap (λ (o : Option ℕ). (m ∷ (inside ++ (marked.End ∷ ms))) ++ voids_of places o)
    (sym (last_behind (m ∷ inside) ms marked.End))

pub marks-part : (places : List Placed) (c : Content) → AreNumbered places c → marks (part c) ≡ trailed places (plain c)
marks-part places done h = refl
marks-part places (opens p next) h =
    ap (λ (ms : List Mark). marked.Opens p.number ∷ ms)
    (marks-or_void p p.content_x (part next) ∙ ap (or_void p.number p.content_x) (marks-part places next h.1))
    ∙ trailed_start places p (plain next) h.0
marks-part places (closes p next) h =
    ap (λ (ms : List Mark). marked.Closes p.number ∷ ms) (marks-part places next h.1)
    ∙ trailed_other places (marked.Closes p.number) (plain next) refl
marks-part places (leaf l next) h =
    ap (λ (ms : List Mark). leaf_mark l ∷ ms) (marks-part places next h.1)
    ∙ trailed_other places (leaf_mark l) (plain next) (leaf_opens_nothing l)
marks-part places (holds k inside next) h =
    ap (λ (ms : List Mark). holder_mark k ∷ (marks inside ++ (marked.End ∷ ms))) (marks-part places next h.2)
    ∙ trailed_block places (holder_mark k) (marks inside) (plain next)
marks-part places (spanner inside next) h = refl

-- ---- the void before the first end of a box

abbrev framed_part : List Placed → List Mark → List Mark
framed_part places ms = voids_of places (first_closing ms) ++ trailed places ms

pub marks-led : (places : List Placed) (c : Content) → AreNumbered places c → marks (led (part c)) ≡ framed_part places (plain c)
marks-led places done h = refl
marks-led places (opens p next) h = marks-part places (opens p next) h
marks-led places (closes p next) h =
    ap (λ (ms : List Mark). marked.Void p.number p.content_x ∷ ms) (marks-part places (closes p next) h)
    ∙ ap (λ (o : Option Placed). marked.Void p.number (left_in o) ∷ trailed places (plain (closes p next))) (sym h.0)
marks-led places (leaf l next) h =
    marks-part places (leaf l next) h
    ∙ ap (λ (o : Option ℕ). voids_of places o ++ trailed places (plain (leaf l next))) (sym (leaf_closes_nothing l))
marks-led places (holds k inside next) h =
    marks-part places (holds k inside next) h
    ∙ ap (λ (o : Option ℕ). voids_of places o ++ trailed places (plain (holds k inside next))) (sym (holder_closes_nothing k))
marks-led places (spanner inside next) h = refl

-- ---- the row

abbrev pub numbers : List Placed → List ℕ
numbers still_open = map (λ (b : Placed). b.number) (reverse still_open)

ended : (v r w more : List Mark) → (v ++ (r ++ w)) ++ (marked.End ∷ more) ≡ (v ++ (r ++ (w ++ marked.End ∷ []))) ++ more
ended v r w more = simp append_assoc refl

a_row : (places : List Placed) (c : Placed) (x : ℕ) (still_open : List Placed) (content more : Content)
    → AreNumbered places content
    → ◌≡◌ {A = List Mark} (marked.Row c.number x (not (has_spanner content)) (numbers still_open) ∷
    (marks (led (part content)) ++ (marked.End ∷ marks more)))
    (marked.Row c.number x (not (has_spanner content)) (numbers still_open) ∷ (row_inside places (plain content) ++ marks more))
a_row places c x still_open content more h =
    ap (λ (ms : List Mark). marked.Row c.number x (not (has_spanner content)) (numbers still_open) ∷ ms)
    (ap (λ (ms : List Mark). ms ++ (marked.End ∷ marks more)) (marks-led places content h)
    ∙ ended (voids_of places (first_closing (plain content))) (plain content) (voids_of places (last_opening (plain content)))
    (marks more))

pub marks-row : (places : List Placed) (c : Placed) (x : ℕ) (still_open : List Placed) (content more : Content)
    → AreNumbered places content
    → marks (row_of_part c x still_open content more)
    ≡ row_marks places c.number x (numbers still_open) (not (has_spanner content)) (plain content) ++ marks more
marks-row places c x still_open done more h = refl
marks-row places c x still_open (opens p next) more h = a_row places c x still_open (opens p next) more h
marks-row places c x still_open (closes p next) more h = a_row places c x still_open (closes p next) more h
marks-row places c x still_open (leaf l next) more h = a_row places c x still_open (leaf l next) more h
marks-row places c x still_open (holds k inside next) more h = a_row places c x still_open (holds k inside next) more h
marks-row places c x still_open (spanner inside next) more h = refl
