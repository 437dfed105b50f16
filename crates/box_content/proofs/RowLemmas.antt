-- Cutting the marks of a content mark by mark gives the marks of its rows.
use Rattle.std.proofs.Common.{◌≡◌, ℕ, ◌-◌, suc, Bool, true, false, List, [], ◌∷◌, ◌++◌, Option, Some, refl, sym, ap, ◌∙◌, map}
use Rattle.std.proofs.Common.{take, drop, length, arith, append_assoc}
use Rattle.std.specs.Prelude.{not, reverse, fold, if◌then◌else◌}
use Rattle.std.proofs.lemmas.List.{append-nil, reverse-append, map-append, length_push, take_at}
use Rattle.std.proofs.lemmas.List.Sums.{fold-append}
use Rattle.box_data.specs.declared.mark.Mark.{Mark}
use Rattle.box_data.specs.declared.mark.Mark.TheVariants as marked
use Rattle.box_data.specs.declared.placed.Placed.{Placed}
use Rattle.box_data.specs.Content.{Holder, Content, done, opens, closes, leaf, holds, spanner, before, has_spanner, row_of_part}
use Rattle.box_data.specs.Content.{spanners, rows}
use Rattle.box_data.specs.Content.{leaf_mark, holder_mark, marks}
use Rattle.box_data.specs.Bounds.{AreNumbered}
use Rattle.box_content.specs.declared.cutting.Around.{Around}
use Rattle.box_content.specs.declared.cutting.Around.TheVariants.{Nothing, Block, Spanner}
use Rattle.box_content.specs.Cutting.{Cut, step, row_behind, row_marks, rows_in, depth_after, block_behind, spanner_behind}
use Rattle.box_content.specs.Cutting.{open_after, is_spanner, begins}
use Rattle.box_content.proofs.ContentLemmas.{marks-before, leaf_is_no_spanner, leaf_begins_nothing, leaf_keeps_open}
use Rattle.box_content.proofs.ContentLemmas.{leaf_keeps_depth}
use Rattle.box_content.proofs.ContentLemmas.{holder_is_no_spanner, holder_begins, holder_keeps_open, holder_deepens}
use Rattle.box_content.proofs.PartLemmas.{plain, numbers, marks-row}

abbrev cut_at : (c x : ℕ) (rows part : List Mark) (opened now : List ℕ) → Around → Cut
cut_at c x rows part opened now around =
    record { place = c; x = x; rows = rows; part = part; opened = opened; still_open = now; around = around }

abbrev ran : List Placed → Cut → List Mark → Cut
ran places cut ms = fold (step places) cut ms

one_more : (part ms : List Mark) (m : Mark) → (part ++ m ∷ []) ++ ms ≡ part ++ (m ∷ ms)
one_more part ms m = append_assoc part (m ∷ []) ms

block_more : (part inside ms : List Mark) (m n : Mark) → (((part ++ m ∷ []) ++ inside) ++ n ∷ []) ++ ms
    ≡ part ++ (m ∷ (inside ++ (n ∷ ms)))
block_more part inside ms m n = simp append_assoc refl

-- ---- in a block

abbrev in_block_at : (c x : ℕ) (rows part : List Mark) (opened now : List ℕ) (depth : ℕ) → Cut
in_block_at c x rows part opened now depth = cut_at c x rows part opened now (Block depth)

in_block_on : (places : List Placed) (c x : ℕ) (rows part ms : List Mark) (opened now : List ℕ) (depth deep : ℕ) (m : Mark)
    → depth_after depth m ≡ Some deep
    → ran places (in_block_at c x rows part opened now depth) (m ∷ ms)
    ≡ ran places (in_block_at c x rows (part ++ m ∷ []) opened now deep) ms
in_block_on places c x rows part ms opened now depth deep m h =
    ap (λ (o : Option ℕ). ran places (cut_at c x rows (part ++ m ∷ []) opened now (block_behind o)) ms) h

abbrev BlockIs : List Placed → (c x : ℕ) (rows : List Mark) (opened now : List ℕ) (depth : ℕ) (part : List Mark) → List Mark
    → Type 0
BlockIs places c x rows opened now depth part ms =
    ran places (in_block_at c x rows part opened now depth) ms ≡ in_block_at c x rows (part ++ ms) opened now depth

block_one : (places : List Placed) (c x : ℕ) (rows part ms : List Mark) (opened now : List ℕ) (depth : ℕ) (m : Mark)
    → depth_after depth m ≡ Some depth
    → BlockIs places c x rows opened now depth (part ++ m ∷ []) ms → BlockIs places c x rows opened now depth part (m ∷ ms)
block_one places c x rows part ms opened now depth m h rest =
    in_block_on places c x rows part ms opened now depth depth m h ∙ rest
    ∙ ap (λ (ns : List Mark). in_block_at c x rows ns opened now depth) (one_more part ms m)

block_in_block : (places : List Placed) (c x : ℕ) (rows part inside ms : List Mark) (opened now : List ℕ) (depth : ℕ) (m : Mark)
    → depth_after depth m ≡ Some (suc depth)
    → BlockIs places c x rows opened now (suc depth) (part ++ m ∷ []) inside
    → BlockIs places c x rows opened now depth (((part ++ m ∷ []) ++ inside) ++ marked.End ∷ []) ms
    → BlockIs places c x rows opened now depth part (m ∷ (inside ++ (marked.End ∷ ms)))
block_in_block places c x rows part inside ms opened now depth m h deep rest =
    in_block_on places c x rows part (inside ++ (marked.End ∷ ms)) opened now depth (suc depth) m h
    ∙ fold-append (step places) (in_block_at c x rows (part ++ m ∷ []) opened now (suc depth)) inside (marked.End ∷ ms)
    ∙ ap (λ (cut : Cut). ran places cut (marked.End ∷ ms)) deep
    ∙ rest
    ∙ ap (λ (ns : List Mark). in_block_at c x rows ns opened now depth) (block_more part inside ms m marked.End)

block_all : (places : List Placed) (c x : ℕ) (rows part : List Mark) (opened now : List ℕ) (depth : ℕ) (inside : Content)
    → BlockIs places c x rows opened now depth part (marks inside)
block_all places c x rows part opened now depth done =
    ap (λ (ns : List Mark). in_block_at c x rows ns opened now depth) (sym (append-nil part))
block_all places c x rows part opened now depth (opens p next) =
    block_one places c x rows part (marks next) opened now depth (marked.Opens p.number) refl
    (block_all places c x rows (part ++ marked.Opens p.number ∷ []) opened now depth next)
block_all places c x rows part opened now depth (closes p next) =
    block_one places c x rows part (marks next) opened now depth (marked.Closes p.number) refl
    (block_all places c x rows (part ++ marked.Closes p.number ∷ []) opened now depth next)
block_all places c x rows part opened now depth (leaf l next) =
    block_one places c x rows part (marks next) opened now depth (leaf_mark l) (leaf_keeps_depth depth l)
    (block_all places c x rows (part ++ leaf_mark l ∷ []) opened now depth next)
block_all places c x rows part opened now depth (holds h inside next) =
    block_in_block places c x rows part (marks inside) (marks next) opened now depth (holder_mark h) (holder_deepens depth h)
    (block_all places c x rows (part ++ holder_mark h ∷ []) opened now (suc depth) inside)
    (block_all places c x rows (((part ++ holder_mark h ∷ []) ++ marks inside) ++ marked.End ∷ []) opened now depth next)
block_all places c x rows part opened now depth (spanner inside next) =
    block_in_block places c x rows part (marks inside) (marks next) opened now depth marked.Spanner refl
    (block_all places c x rows (part ++ marked.Spanner ∷ []) opened now (suc depth) inside)
    (block_all places c x rows (((part ++ marked.Spanner ∷ []) ++ marks inside) ++ marked.End ∷ []) opened now depth next)

-- ---- in a spanner

abbrev in_spanner_at : (c x : ℕ) (rows : List Mark) (opened now : List ℕ) (depth : ℕ) → Cut
in_spanner_at c x rows opened now depth = cut_at c x rows [] opened now (Spanner depth)

in_spanner_on : (places : List Placed) (c x : ℕ) (rows ms : List Mark) (opened now : List ℕ) (depth deep : ℕ) (m : Mark)
    → depth_after depth m ≡ Some deep
    → ran places (in_spanner_at c x rows opened now depth) (m ∷ ms)
    ≡ ran places (in_spanner_at c x (rows ++ m ∷ []) opened now deep) ms
in_spanner_on places c x rows ms opened now depth deep m h =
    ap (λ (o : Option ℕ). ran places (spanner_behind o (in_spanner_at c x rows opened now depth) m) ms) h

abbrev SpannerIs : List Placed → (c x : ℕ) (opened now : List ℕ) (depth : ℕ) (rows : List Mark) → List Mark → Type 0
SpannerIs places c x opened now depth rows ms =
    ran places (in_spanner_at c x rows opened now depth) ms ≡ in_spanner_at c x (rows ++ ms) opened now depth

spanner_one : (places : List Placed) (c x : ℕ) (rows ms : List Mark) (opened now : List ℕ) (depth : ℕ) (m : Mark)
    → depth_after depth m ≡ Some depth
    → SpannerIs places c x opened now depth (rows ++ m ∷ []) ms → SpannerIs places c x opened now depth rows (m ∷ ms)
spanner_one places c x rows ms opened now depth m h rest =
    in_spanner_on places c x rows ms opened now depth depth m h ∙ rest
    ∙ ap (λ (ns : List Mark). in_spanner_at c x ns opened now depth) (one_more rows ms m)

block_in_spanner : (places : List Placed) (c x : ℕ) (rows inside ms : List Mark) (opened now : List ℕ) (depth : ℕ) (m : Mark)
    → depth_after depth m ≡ Some (suc depth)
    → SpannerIs places c x opened now (suc depth) (rows ++ m ∷ []) inside
    → SpannerIs places c x opened now depth (((rows ++ m ∷ []) ++ inside) ++ marked.End ∷ []) ms
    → SpannerIs places c x opened now depth rows (m ∷ (inside ++ (marked.End ∷ ms)))
block_in_spanner places c x rows inside ms opened now depth m h deep rest =
    in_spanner_on places c x rows (inside ++ (marked.End ∷ ms)) opened now depth (suc depth) m h
    ∙ fold-append (step places) (in_spanner_at c x (rows ++ m ∷ []) opened now (suc depth)) inside (marked.End ∷ ms)
    ∙ ap (λ (cut : Cut). ran places cut (marked.End ∷ ms)) deep
    ∙ rest
    ∙ ap (λ (ns : List Mark). in_spanner_at c x ns opened now depth) (block_more rows inside ms m marked.End)

spanner_all : (places : List Placed) (c x : ℕ) (rows : List Mark) (opened now : List ℕ) (depth : ℕ) (inside : Content)
    → SpannerIs places c x opened now depth rows (marks inside)
spanner_all places c x rows opened now depth done =
    ap (λ (ns : List Mark). in_spanner_at c x ns opened now depth) (sym (append-nil rows))
spanner_all places c x rows opened now depth (opens p next) =
    spanner_one places c x rows (marks next) opened now depth (marked.Opens p.number) refl
    (spanner_all places c x (rows ++ marked.Opens p.number ∷ []) opened now depth next)
spanner_all places c x rows opened now depth (closes p next) =
    spanner_one places c x rows (marks next) opened now depth (marked.Closes p.number) refl
    (spanner_all places c x (rows ++ marked.Closes p.number ∷ []) opened now depth next)
spanner_all places c x rows opened now depth (leaf l next) =
    spanner_one places c x rows (marks next) opened now depth (leaf_mark l) (leaf_keeps_depth depth l)
    (spanner_all places c x (rows ++ leaf_mark l ∷ []) opened now depth next)
spanner_all places c x rows opened now depth (holds h inside next) =
    block_in_spanner places c x rows (marks inside) (marks next) opened now depth (holder_mark h) (holder_deepens depth h)
    (spanner_all places c x (rows ++ holder_mark h ∷ []) opened now (suc depth) inside)
    (spanner_all places c x (((rows ++ holder_mark h ∷ []) ++ marks inside) ++ marked.End ∷ []) opened now depth next)
spanner_all places c x rows opened now depth (spanner inside next) =
    block_in_spanner places c x rows (marks inside) (marks next) opened now depth marked.Spanner refl
    (spanner_all places c x (rows ++ marked.Spanner ∷ []) opened now (suc depth) inside)
    (spanner_all places c x (((rows ++ marked.Spanner ∷ []) ++ marks inside) ++ marked.End ∷ []) opened now depth next)

-- ---- the boxes that are open

opened_more : (still_open : List Placed) (p : Placed) → numbers still_open ++ p.number ∷ [] ≡ numbers (p ∷ still_open)
opened_more still_open p =
    sym (ap (map (λ (b : Placed). b.number)) (reverse-append (p ∷ []) still_open)
    ∙ map-append (λ (b : Placed). b.number) (reverse still_open) (p ∷ []))

opened_less : (still_open : List Placed) (p : Placed) → open_after (numbers still_open) (marked.Closes p.number)
    ≡ numbers (drop 1 still_open)
opened_less [] p = refl
opened_less (q ∷ still_open) p =
    let e = opened_more still_open q in
    let longer : length (numbers (q ∷ still_open)) ≡ suc (length (numbers still_open)) =
    sym (ap length e) ∙ length_push (numbers still_open) q.number ∙ omega arith in
    let n : length (numbers still_open) ≡ length (numbers (q ∷ still_open)) - 1 = omega (arith, longer) in
    ap (λ (ns : List ℕ). take (length (numbers (q ∷ still_open)) - 1) ns) (sym e)
    ∙ take_at (numbers still_open) (q.number ∷ []) (length (numbers (q ∷ still_open)) - 1) n

-- ---- the content itself

abbrev flow_at : (c x : ℕ) (rows part : List Mark) (opened now : List ℕ) → Cut
flow_at c x rows part opened now = cut_at c x rows part opened now Nothing

abbrev finished : List Placed → Cut → List Mark
finished places cut = (row_behind places true cut).rows

-- a mark that is no spanner, by what begins with it and what is open behind it
flow_on : (places : List Placed) (c x : ℕ) (rows part ms : List Mark) (opened now then_now : List ℕ) (block : Bool) (m : Mark)
    → is_spanner m ≡ false → begins m ≡ block → open_after now m ≡ then_now
    → ran places (flow_at c x rows part opened now) (m ∷ ms)
    ≡ ran places (cut_at c x rows (part ++ m ∷ []) opened then_now (if block then Block 0 else Nothing)) ms
flow_on places c x rows part ms opened now then_now block m no_spanner is_block h =
    ap (λ (b : Bool). ran places (if b then cut_at c x (rows ++ row_marks places c x opened false part) [] opened now (Spanner 0)
    else cut_at c x rows (part ++ m ∷ []) opened (open_after now m) (if begins m then Block 0 else Nothing)) ms) no_spanner
    ∙ ap (λ (b : Bool). ran places (cut_at c x rows (part ++ m ∷ []) opened (open_after now m)
    (if b then Block 0 else Nothing)) ms) is_block
    ∙ ap (λ (ns : List ℕ). ran places (cut_at c x rows (part ++ m ∷ []) opened ns (if block then Block 0 else Nothing)) ms) h

flow_block : (places : List Placed) (c x : ℕ) (rows part ms : List Mark) (opened now : List ℕ) (h : Holder) (inside : Content)
    → ran places (flow_at c x rows part opened now) (holder_mark h ∷ (marks inside ++ (marked.End ∷ ms)))
    ≡ ran places (flow_at c x rows (((part ++ holder_mark h ∷ []) ++ marks inside) ++ marked.End ∷ []) opened now) ms
flow_block places c x rows part ms opened now h inside =
    let m = holder_mark h in
    flow_on places c x rows part (marks inside ++ (marked.End ∷ ms)) opened now now true m (holder_is_no_spanner h)
    (holder_begins h)
    (holder_keeps_open now h)
    ∙ fold-append (step places) (in_block_at c x rows (part ++ m ∷ []) opened now 0) (marks inside) (marked.End ∷ ms)
    ∙ ap (λ (cut : Cut). ran places cut (marked.End ∷ ms)) (block_all places c x rows (part ++ m ∷ []) opened now 0 inside)

flow_spanner : (places : List Placed) (c x : ℕ) (rows part ms : List Mark) (opened now : List ℕ) (inside : Content)
    → ran places (flow_at c x rows part opened now) (marked.Spanner ∷ (marks inside ++ (marked.End ∷ ms)))
    ≡ ran places (flow_at c x ((rows ++ row_marks places c x opened false part) ++ marks inside) [] now now) ms
flow_spanner places c x rows part ms opened now inside =
    let front = rows ++ row_marks places c x opened false part in
    fold-append (step places) (in_spanner_at c x front opened now 0) (marks inside) (marked.End ∷ ms)
    ∙ ap (λ (cut : Cut). ran places cut (marked.End ∷ ms)) (spanner_all places c x front opened now 0 inside)

-- the row of this part, where this content follows, and what stands behind that row
abbrev followed : List Placed → (c : Placed) (x : ℕ) (part : List Mark) (opened : List ℕ) (still_open : List Placed)
    → Content → List Mark
followed places c x part opened still_open content =
    row_marks places c.number x opened (not (has_spanner content)) (part ++ plain content) ++ marks
    (spanners c x still_open content)

abbrev FlowIs : List Placed → (c : Placed) (x : ℕ) (rows part : List Mark) (opened : List ℕ) (still_open : List Placed)
    → Content → Type 0
FlowIs places c x rows part opened still_open content =
    finished places (ran places (flow_at c.number x rows part opened (numbers still_open)) (marks content))
    ≡ rows ++ followed places c x part opened still_open content

spanner_then : (places : List Placed) (c : Placed) (x : ℕ) (rows part : List Mark) (opened : List ℕ)
    (still_open : List Placed) (inside next : Content)
    → AreNumbered places next
    → FlowIs places c x ((rows ++ row_marks places c.number x opened false part) ++ marks inside) []
    (numbers still_open) still_open next
    → FlowIs places c x rows part opened still_open (spanner inside next)
spanner_then places c x rows part opened still_open inside next h rest =
    let front = row_marks places c.number x opened false part in
    let more = spanners c x still_open next in
    let after = row_marks places c.number x (numbers still_open) (not (has_spanner next)) (plain next) ++ marks more in
    let both : marks (before inside (row_of_part c x still_open next more)) ≡ marks inside ++ after =
    marks-before inside (row_of_part c x still_open next more)
    ∙ ap (λ (ms : List Mark). marks inside ++ ms) (marks-row places c x still_open next more h) in
    ap (finished places) (flow_spanner places c.number x rows part (marks next) opened (numbers still_open) inside)
    ∙ rest
    ∙ append_assoc (rows ++ front) (marks inside) after
    ∙ append_assoc rows front (marks inside ++ after)
    ∙ ap (λ (ms : List Mark). rows ++ (front ++ ms)) (sym both)
    ∙ ap (λ (ms : List Mark). rows ++ (row_marks places c.number x opened false ms ++ marks
    (before inside (row_of_part c x still_open next more))))
    (sym (append-nil part))

-- one step of the induction: where a piece of the content adds these marks to the part
flow_step : (places : List Placed) (c : Placed) (x : ℕ) (rows part added wanted : List Mark) (opened : List ℕ)
    (still_open : List Placed) (next : Content) (start : Cut)
    → start ≡ ran places (flow_at c.number x rows added opened (numbers still_open)) (marks next)
    → FlowIs places c x rows added opened still_open next
    → added ++ plain next ≡ part ++ wanted
    → finished places start ≡ rows ++ (row_marks places c.number x opened (not (has_spanner next)) (part ++ wanted) ++ marks
    (spanners c x still_open next))
flow_step places c x rows part added wanted opened still_open next start is rest e =
    ap (finished places) is ∙ rest
    ∙ ap (λ (ms : List Mark). rows ++ (row_marks places c.number x opened (not (has_spanner next)) ms ++ marks
    (spanners c x still_open next))) e

pub flow_is : (places : List Placed) (c : Placed) (x : ℕ) (rows part : List Mark) (opened : List ℕ) (still_open : List Placed)
    (content : Content)
    → AreNumbered places content → FlowIs places c x rows part opened still_open content
flow_is places c x rows part opened still_open done h =
    ap (λ (ms : List Mark). rows ++ row_marks places c.number x opened true ms) (sym (append-nil part))
    ∙ ap (λ (ms : List Mark). rows ++ ms) (sym (append-nil (row_marks places c.number x opened true (part ++ []))))
flow_is places c x rows part opened still_open (opens p next) h =
    flow_step places c x rows part (part ++ marked.Opens p.number ∷ []) (marked.Opens p.number ∷ plain next) opened
    (p ∷ still_open) next _
    (flow_on places c.number x rows part (marks next) opened (numbers still_open) (numbers (p ∷ still_open)) false
    (marked.Opens p.number)
    refl refl (opened_more still_open p))
    (flow_is places c x rows (part ++ marked.Opens p.number ∷ []) opened (p ∷ still_open) next h.1)
    (one_more part (plain next) (marked.Opens p.number))
flow_is places c x rows part opened still_open (closes p next) h =
    flow_step places c x rows part (part ++ marked.Closes p.number ∷ []) (marked.Closes p.number ∷ plain next) opened
    (drop 1 still_open) next _
    (flow_on places c.number x rows part (marks next) opened (numbers still_open) (numbers (drop 1 still_open)) false
    (marked.Closes p.number)
    refl refl (opened_less still_open p))
    (flow_is places c x rows (part ++ marked.Closes p.number ∷ []) opened (drop 1 still_open) next h.1)
    (one_more part (plain next) (marked.Closes p.number))
flow_is places c x rows part opened still_open (leaf l next) h =
    flow_step places c x rows part (part ++ leaf_mark l ∷ []) (leaf_mark l ∷ plain next) opened still_open next _
    (flow_on places c.number x rows part (marks next) opened (numbers still_open) (numbers still_open) false (leaf_mark l)
    (leaf_is_no_spanner l) (leaf_begins_nothing l) (leaf_keeps_open (numbers still_open) l))
    (flow_is places c x rows (part ++ leaf_mark l ∷ []) opened still_open next h.1)
    (one_more part (plain next) (leaf_mark l))
flow_is places c x rows part opened still_open (holds k inside next) h =
    flow_step places c x rows part (((part ++ holder_mark k ∷ []) ++ marks inside) ++ marked.End ∷ [])
    (holder_mark k ∷ (marks inside ++ (marked.End ∷ plain next))) opened still_open next _
    (flow_block places c.number x rows part (marks next) opened (numbers still_open) k inside)
    (flow_is places c x rows (((part ++ holder_mark k ∷ []) ++ marks inside) ++ marked.End ∷ []) opened still_open next h.2)
    (block_more part (marks inside) (plain next) (holder_mark k) marked.End)
flow_is places c x rows part opened still_open (spanner inside next) h =
    spanner_then places c x rows part opened still_open inside next h.1
    (flow_is places c x ((rows ++ row_marks places c.number x opened false part) ++ marks inside) []
    (numbers still_open) still_open next h.1)

-- the marks of a content are cut into those of its rows
pub rows_are : (places : List Placed) (c : Placed) (x : ℕ) (content : Content) → AreNumbered places content
    → rows_in places c.number x (marks content) ≡ marks (rows c x content)
rows_are places c x content h =
    flow_is places c x [] [] [] [] content h ∙ sym (marks-row places c x [] content (spanners c x [] content) h)
