-- The marks of a content, put together from those of what stands in it.
use Rattle.std.proofs.Common.{◌≡◌, ℕ, suc, true, false, List, [], ◌∷◌, ◌++◌, Some, None, refl, sym, ap, ◌∙◌, append_assoc}
use Rattle.line_breaker.specs.declared.line.Line.{Line}
use Rattle.box_data.specs.declared.mark.Mark.{Mark}
use Rattle.box_data.specs.declared.mark.Mark.TheVariants as marked
use Rattle.box_data.specs.declared.placed.Placed.{Placed}
use Rattle.box_data.specs.Content.{Leaf, line, image, void, Holder, stack, row, Content, done, opens, closes, leaf, holds}
use Rattle.box_data.specs.Content.{spanner, before, lines_from}
use Rattle.box_data.specs.Content.{leaf_mark, holder_mark, marks}
use Rattle.box_data.specs.Content as contents
use Rattle.box_content.specs.Cutting.{is_spanner, begins, closing, opening, open_after, depth_after}
use Rattle.box_content.specs.Walking.{or_void, line_marks}

pub marks-before : (a b : Content) → marks (before a b) ≡ marks a ++ marks b
marks-before done b = refl
marks-before (opens p next) b = ap (λ (ms : List Mark). marked.Opens p.number ∷ ms) (marks-before next b)
marks-before (closes p next) b = ap (λ (ms : List Mark). marked.Closes p.number ∷ ms) (marks-before next b)
marks-before (leaf l next) b = ap (λ (ms : List Mark). leaf_mark l ∷ ms) (marks-before next b)
marks-before (holds h inside next) b =
    ap (λ (ms : List Mark). holder_mark h ∷ (marks inside ++ (marked.End ∷ ms))) (marks-before next b)
    ∙ ap (λ (ms : List Mark). holder_mark h ∷ ms) (sym (append_assoc (marks inside) (marked.End ∷ marks next) (marks b)))
marks-before (spanner inside next) b =
    ap (λ (ms : List Mark). marked.Spanner ∷ (marks inside ++ (marked.End ∷ ms))) (marks-before next b)
    ∙ ap (λ (ms : List Mark). marked.Spanner ∷ ms) (sym (append_assoc (marks inside) (marked.End ∷ marks next) (marks b)))

pub marks-or_void : (p : Placed) (x : ℕ) (c : Content) → marks (contents.or_void p x c) ≡ or_void p.number x (marks c)
marks-or_void p x done = refl
marks-or_void p x (opens q next) = refl
marks-or_void p x (closes q next) = refl
marks-or_void p x (leaf l next) = refl
marks-or_void p x (holds h inside next) = refl
marks-or_void p x (spanner inside next) = refl

pub marks-lines : (p : Placed) (index : ℕ) (ls : List Line) (more : Content)
    → marks (lines_from p index ls more) ≡ line_marks p.number index ls ++ marks more
marks-lines p index [] more = refl
marks-lines p index (l ∷ ls) more = ap (λ (ms : List Mark). marked.Line p.number index ∷ ms) (marks-lines p (suc index) ls more)

-- ---- what the mark of a leaf or a holder is

pub leaf_is_no_spanner : (l : Leaf) → is_spanner (leaf_mark l) ≡ false
leaf_is_no_spanner (line p index l) = refl
leaf_is_no_spanner (image p) = refl
leaf_is_no_spanner (void p x) = refl

pub leaf_begins_nothing : (l : Leaf) → begins (leaf_mark l) ≡ false
leaf_begins_nothing (line p index l) = refl
leaf_begins_nothing (image p) = refl
leaf_begins_nothing (void p x) = refl

pub leaf_closes_nothing : (l : Leaf) → closing (leaf_mark l) ≡ None
leaf_closes_nothing (line p index l) = refl
leaf_closes_nothing (image p) = refl
leaf_closes_nothing (void p x) = refl

pub leaf_opens_nothing : (l : Leaf) → opening (leaf_mark l) ≡ None
leaf_opens_nothing (line p index l) = refl
leaf_opens_nothing (image p) = refl
leaf_opens_nothing (void p x) = refl

pub leaf_keeps_open : (boxes : List ℕ) (l : Leaf) → open_after boxes (leaf_mark l) ≡ boxes
leaf_keeps_open boxes (line p index l) = refl
leaf_keeps_open boxes (image p) = refl
leaf_keeps_open boxes (void p x) = refl

pub leaf_keeps_depth : (depth : ℕ) (l : Leaf) → depth_after depth (leaf_mark l) ≡ Some depth
leaf_keeps_depth depth (line p index l) = refl
leaf_keeps_depth depth (image p) = refl
leaf_keeps_depth depth (void p x) = refl

pub holder_is_no_spanner : (h : Holder) → is_spanner (holder_mark h) ≡ false
holder_is_no_spanner (stack p) = refl
holder_is_no_spanner (row p x is_last opened) = refl

pub holder_begins : (h : Holder) → begins (holder_mark h) ≡ true
holder_begins (stack p) = refl
holder_begins (row p x is_last opened) = refl

pub holder_closes_nothing : (h : Holder) → closing (holder_mark h) ≡ None
holder_closes_nothing (stack p) = refl
holder_closes_nothing (row p x is_last opened) = refl

pub holder_keeps_open : (boxes : List ℕ) (h : Holder) → open_after boxes (holder_mark h) ≡ boxes
holder_keeps_open boxes (stack p) = refl
holder_keeps_open boxes (row p x is_last opened) = refl

pub holder_deepens : (depth : ℕ) (h : Holder) → depth_after depth (holder_mark h) ≡ Some (suc depth)
holder_deepens depth (stack p) = refl
holder_deepens depth (row p x is_last opened) = refl
