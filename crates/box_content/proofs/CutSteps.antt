-- How deep blocks are nested after some marks, and what the last mark of a part opens.
use Rattle.std.proofs.Common.{◌≡◌, ℕ, zero, suc, ◌+◌, ◌-◌, ◌≤◌, ◌<◌, List, [], ◌∷◌, ◌++◌, Option, Some, None, refl, sym, ap}
use Rattle.std.proofs.Common.{◌∙◌, length, take, drop, arith, append_assoc}
use Rattle.std.specs.Prelude.{IfSome, fold, slice_get}
use Rattle.std.proofs.lemmas.List.{take-append-drop, length-drop}
use Rattle.box_data.specs.declared.mark.Mark.{Mark}
use Rattle.box_data.specs.declared.mark.Mark.TheVariants as marked
use Rattle.box_data.specs.declared.placed.Placed.{Placed}
use Rattle.line_breaker.specs.declared.line.Line.{Line}
use Rattle.box_content.specs.declared.cutting.Around.{Around}
use Rattle.box_content.specs.declared.cutting.Around.TheVariants.{Nothing, Block, Spanner}
use Rattle.box_content.specs.Cutting.{Cut, step, in_flow, at_start, depth_in, depth_after, block_behind, spanner_behind}
use Rattle.box_content.specs.Cutting.{opening, last_opening}
use Rattle.box_content.specs.Walking.{or_void, line_marks}

-- ---- depths

depth_after_small : (depth : ℕ) (m : Mark) → IfSome (depth_after depth m) (λ d. d ≤ suc depth)
depth_after_small depth (marked.Opens n) = omega arith
depth_after_small depth (marked.Closes n) = omega arith
depth_after_small depth (marked.Line n index) = omega arith
depth_after_small depth (marked.Image n) = omega arith
depth_after_small depth (marked.Void n x) = omega arith
depth_after_small depth (marked.Stack n) = omega arith
depth_after_small depth (marked.Row n x is_last opened) = omega arith
depth_after_small depth marked.Spanner = omega arith
depth_after_small zero marked.End = tt
depth_after_small (suc depth) marked.End = omega arith

block_small : (depth : ℕ) (o : Option ℕ) → IfSome o (λ d. d ≤ suc depth) → depth_in (block_behind o) ≤ suc depth
block_small depth None h = omega arith
block_small depth (Some d) h = h

spanner_small : (depth : ℕ) (o : Option ℕ) (cut : Cut) (m : Mark) → IfSome o (λ d. d ≤ suc depth)
    → depth_in (spanner_behind o cut m).around ≤ suc depth
spanner_small depth None cut m h = omega arith
spanner_small depth (Some d) cut m h = h

flow_small : (places : List Placed) (cut : Cut) (m : Mark) → depth_in (in_flow places cut m).around ≤ 1
flow_small places cut (marked.Opens n) = omega arith
flow_small places cut (marked.Closes n) = omega arith
flow_small places cut (marked.Line n index) = omega arith
flow_small places cut (marked.Image n) = omega arith
flow_small places cut (marked.Void n x) = omega arith
flow_small places cut (marked.Stack n) = omega arith
flow_small places cut (marked.Row n x is_last opened) = omega arith
flow_small places cut marked.Spanner = omega arith
flow_small places cut marked.End = omega arith

step_small : (places : List Placed) (cut : Cut) (a : Around) (m : Mark)
    → depth_in (step places (record cut { around = a }) m).around ≤ suc (depth_in a)
step_small places cut Nothing m = flow_small places (record cut { around = Nothing }) m
step_small places cut (Block depth) m = block_small depth (depth_after depth m) (depth_after_small depth m)
step_small places cut (Spanner depth) m =
    spanner_small depth (depth_after depth m) (record cut { around = Spanner depth }) m (depth_after_small depth m)

depth_from : (places : List Placed) (cut : Cut) (ms : List Mark)
    → depth_in (fold (step places) cut ms).around ≤ depth_in cut.around + length ms
depth_from places cut [] = omega arith
depth_from places cut (m ∷ ms) =
    let now = step_small places cut cut.around m in
    let rest = depth_from places (step places cut m) ms in
    omega (arith, now, rest)

-- no deeper than the marks are many
pub depth_small : (places : List Placed) (c x : ℕ) (ms : List Mark)
    → depth_in (fold (step places) (at_start c x) ms).around ≤ length ms
depth_small places c x ms = let h = depth_from places (at_start c x) ms in omega (arith, h)

-- ---- the last mark

abbrev pub opened_by : Option Mark → Option ℕ
opened_by None = None
opened_by (Some m) = opening m

at_last : (ms : List Mark) (m : Mark) (k : ℕ) → length ms ≡ k → last_opening (m ∷ ms) ≡ opened_by (slice_get (m ∷ ms) k)
at_last [] m k e = ap (λ (i : ℕ). opened_by (slice_get (m ∷ []) i)) e
at_last (n ∷ ms) m k e = at_last ms n (length ms) refl ∙ ap (λ (i : ℕ). opened_by (slice_get (m ∷ (n ∷ ms)) i)) e

pub last_is : (ms : List Mark) → last_opening ms ≡ opened_by (slice_get ms (length ms - 1))
last_is [] = refl
last_is (m ∷ ms) = at_last ms m (length (m ∷ ms) - 1) (omega arith)

-- ---- voids

or_void_kept : (n x : ℕ) (ms : List Mark) → 0 < length ms → or_void n x ms ≡ ms
or_void_kept n x [] h = absurd (omega arith)
or_void_kept n x (m ∷ ms) h = refl

pub no_void : (n x from : ℕ) (ms : List Mark) → from < length ms → ms ≡ take from ms ++ or_void n x (drop from ms)
no_void n x from ms h =
    sym (take-append-drop from ms)
    ∙ ap (λ (rest : List Mark). take from ms ++ rest) (sym (or_void_kept n x (drop from ms) (omega (arith, length-drop from ms))))

-- ---- lines

lines_upto : (n at i : ℕ) (ls : List Line) → i < length ls
    → line_marks n at (take (suc i) ls) ≡ line_marks n at (take i ls) ++ marked.Line n (at + i) ∷ []
lines_upto n at i [] h = absurd (omega arith)
lines_upto n at zero (l ∷ ls) h = ap (λ (k : ℕ). marked.Line n k ∷ []) (let e : at ≡ at + 0 = omega arith in e)
lines_upto n at (suc i) (l ∷ ls) h =
    let e : suc at + i ≡ at + suc i = omega arith in
    ap (λ (ms : List Mark). marked.Line n at ∷ ms)
    (lines_upto n (suc at) i ls (omega arith) ∙ ap (λ (k : ℕ). line_marks n (suc at) (take i ls) ++ marked.Line n k ∷ []) e)

pub lines_more : (n i : ℕ) (ls : List Line) (so_far front : List Mark) → i < length ls
    → so_far ≡ front ++ line_marks n 0 (take i ls)
    → so_far ++ marked.Line n i ∷ [] ≡ front ++ line_marks n 0 (take (i + 1) ls)
lines_more n i ls so_far front h e =
    let next : suc i ≡ i + 1 = omega arith in
    let here : 0 + i ≡ i = omega arith in
    ap (λ (ms : List Mark). ms ++ marked.Line n i ∷ []) e
    ∙ append_assoc front (line_marks n 0 (take i ls)) (marked.Line n i ∷ [])
    ∙ ap (λ (ms : List Mark). front ++ ms)
    (ap (λ (k : ℕ). line_marks n 0 (take i ls) ++ marked.Line n k ∷ []) (sym here) ∙ sym (lines_upto n 0 i ls h)
    ∙ ap (λ (k : ℕ). line_marks n 0 (take k ls)) next)
