-- What the marks of a content say of rows one inside another is what the content says.
use Rattle.std.proofs.Common.{◌≡◌, ℕ, zero, suc, ◌+◌, ◌≤◌, min, max, Bool, true, false, ◌||◌, List, [], ◌∷◌, ◌++◌}
use Rattle.std.proofs.Common.{Option}
use Rattle.std.proofs.Common.{refl, sym, ap, ◌∙◌, arith, append_assoc, zero-add}
use Rattle.std.specs.Prelude.{nat_lt, if◌then◌else◌}
use Rattle.std.specs.List.{list_any}
use Rattle.std.proofs.lemmas.Bool.Decides.{nat_tests}
use Rattle.mc_base.specs.declared.refusal.Refusal.{Refusal}
use Rattle.mc_base.specs.declared.refusal.Refusal.TheVariants as refusals
use Rattle.mc_base.specs.declared.refusal.LimitName.TheVariants as names
use Rattle.flow_data.specs.declared.data.FlowsData.{FlowsData}
use Rattle.flow_data.specs.Soundness.{item_total}
use Rattle.box_data.specs.declared.mark.Mark.{Mark}
use Rattle.box_data.specs.declared.mark.Mark.TheVariants as marked
use Rattle.box_data.specs.BoxTree.{or_else}
use Rattle.box_data.specs.Content.{Leaf, line, image, void, Holder, stack, row, Content, done, opens, closes, leaf, holds}
use Rattle.box_data.specs.Content.{spanner, leaf_mark, holder_mark, marks as marks_of}
use Rattle.box_data.specs.DocumentFlows.{is_stack}
use Rattle.box_data.specs.Limits.{nesting, item_count, inner_counts, when}
use Rattle.flow_maker.specs.Premises.{HasNoSpanner}
use Rattle.doc_limits.specs.declared.nests.OpenFlow.{OpenFlow}
use Rattle.doc_limits.specs.declared.nests.Nests.{Nests}
use Rattle.doc_limits.specs.Tallies.{most_with, nearest, farther, begun, leaf_in, held_in, close, step, run, many}

-- ---- numbers

abbrev most_of : List ℕ → ℕ
most_of [] = 0
most_of (n ∷ ns) = max n (most_of ns)

most_append : (ms ns : List ℕ) → most_of (ms ++ ns) ≡ max (most_of ms) (most_of ns)
most_append [] ns = omega arith
most_append (m ∷ ms) ns = let rest = most_append ms ns in omega (arith, rest)

either_most : (limit m n : ℕ) → (nat_lt limit m || nat_lt limit n) ≡ nat_lt limit (max m n)
either_most limit m n = grind (arith, nat_tests)

any_most : (limit : ℕ) (ns : List ℕ) → list_any (λ n. nat_lt limit n) ns ≡ nat_lt limit (most_of ns)
any_most limit [] = grind (arith, nat_tests)
any_most limit (n ∷ ns) = ap (λ b. nat_lt limit n || b) (any_most limit ns) ∙ either_most limit n (most_of ns)

-- a flow that stands in so many rows, with itself, stands in a row; and it is a row in another
abbrev is_in : ℕ → Bool
is_in zero = false
is_in (suc x) = true

abbrev own : ℕ → ℕ → ℕ
own zero n = 0
own (suc zero) n = 0
own (suc (suc x)) n = n

most_own : (x items most : ℕ) → most_with (record { depth = min x 4; items = items }) most ≡ max most (own x items)
most_own zero items most = grind (arith, nat_tests)
most_own (suc zero) items most = grind (arith, nat_tests)
most_own (suc (suc x)) items most = grind (arith, nat_tests)

row_most : (x n : ℕ) (ms ns : List ℕ) → most_of ((if is_in x then n ∷ [] else []) ++ ms ++ ns)
    ≡ max (own (suc x) n) (max (most_of ms) (most_of ns))
row_most zero n ms ns = let both = most_append ms ns in omega (arith, both)
row_most (suc x) n ms ns = let both = most_append ms ns in omega (arith, both)

nesting_above : (around : ℕ) (r : Content) → around ≤ nesting around r
nesting_above around done = omega arith
nesting_above around (opens p next) = nesting_above around next
nesting_above around (closes p next) = nesting_above around next
nesting_above around (leaf l next) = nesting_above around next
nesting_above around (holds h inside next) = let rest = nesting_above around next in omega (arith, rest)
nesting_above around (spanner inside next) = nesting_above around next

-- ---- where a row or a stack begins

abbrev below : ℕ → Holder → ℕ
below x h = if is_stack h then 0 else suc x

abbrev inner : (x : ℕ) → Holder → Content → Content → ℕ
inner x h inside next = max (own (below x h) (item_count inside)) (max (most_of (inner_counts (is_in (below x h)) inside))
    (most_of (inner_counts (is_in x) next)))

inner_most : (x : ℕ) (h : Holder) (inside next : Content) → most_of (inner_counts (is_in x) (holds h inside next))
    ≡ inner x h inside next
inner_most x (stack p) inside next =
    let both = most_append (inner_counts false inside) (inner_counts (is_in x) next) in omega (arith, both)
inner_most x (row p at is_last opened) inside next =
    row_most x (item_count inside) (inner_counts true inside) (inner_counts (is_in x) next)

begins : (x : ℕ) (h : Holder) (s : Nests) → s.flow.depth ≡ min x 4 → step s (holder_mark h) ≡ held_in s (min (below x h) 4)
begins x (stack p) s depth = ap (λ d. held_in s d) (omega arith)
begins x (row p at is_last opened) s depth = ap (λ d. held_in s d) (omega (arith, depth))

leaf_taken : (s : Nests) (l : Leaf) → step s (leaf_mark l) ≡ leaf_in s
leaf_taken s (line p index size) = refl
leaf_taken s (image p) = refl
leaf_taken s (void p x) = refl

-- ---- the marks of what is left of a flow, and its end

abbrev nests : OpenFlow → List OpenFlow → (deepest most : ℕ) → Nests
nests o outer deepest most = record { flow = o; outer = outer; deepest = deepest; most = most }

-- where the flow stands in x rows and has k items so far
abbrev ended_with : Nests → (x k : ℕ) → Content → Nests
ended_with s x k r =
    nests (nearest s.outer) (farther s.outer) (max s.deepest (min (nesting x r) 4))
    (max s.most (max (own x (min (k + item_count r) 2001)) (min (most_of (inner_counts (is_in x) r)) 2001)))

same_nests : {o : OpenFlow} {outer : List OpenFlow} {d e m n : ℕ} → d ≡ e → m ≡ n → nests o outer d m ≡ nests o outer e n
same_nests {o} {outer} {d} {e} {m} {n} deep most =
    ap (λ k. nests o outer k m) deep ∙ ap (λ k. nests o outer e k) most

closing : (s : Nests) (x k : ℕ) → s.flow.depth ≡ min x 4 → s.flow.items ≡ min k 2001
    → most_with s.flow s.most ≡ max s.most (own x (min k 2001))
closing s x k depth items =
    ap (λ d. most_with (record { depth = d; items = s.flow.items }) s.most) depth ∙ most_own x s.flow.items s.most
    ∙ ap (λ n. max s.most (own x n)) items

own_capped : (x n : ℕ) → own x (min n 2001) ≡ min (own x n) 2001
own_capped zero n = omega arith
own_capped (suc zero) n = omega arith
own_capped (suc (suc x)) n = refl

deepest_past : (x : ℕ) (h : Holder) (inside next : Content) (deepest : ℕ)
    → max (max (max deepest (min (below x h) 4)) (min (nesting (below x h) inside) 4)) (min (nesting x next) 4)
    ≡ max deepest (min (nesting x (holds h inside next)) 4)
deepest_past x h inside next deepest = let above = nesting_above (below x h) inside in omega (arith, above)

suc_over : (k n : ℕ) → suc k + n ≡ k + suc n
suc_over k n = omega arith

-- greatest numbers, in another order
in_turn : (a b c d : ℕ) → max (max a b) (max c d) ≡ max a (max c (max b d))
in_turn a b c d = omega arith

max_twice : (a b c : ℕ) → max (max a b) c ≡ max a (max b c)
max_twice a b c = omega arith

min_both : (a b cap : ℕ) → max (min a cap) (min b cap) ≡ min (max a b) cap
min_both a b cap = omega arith

capped_three : (a b c : ℕ) → max (max (min a 2001) (min b 2001)) (min c 2001) ≡ min (max a (max b c)) 2001
capped_three a b c =
    max_twice (min a 2001) (min b 2001) (min c 2001) ∙ ap (λ n. max (min a 2001) n) (min_both b c 2001)
    ∙ min_both a (max b c) 2001

most_past : (x : ℕ) (h : Holder) (inside next : Content) (most k : ℕ)
    → max (max most (max (own (below x h) (min (0 + item_count inside) 2001)) (min (most_of (inner_counts (is_in
    (below x h)) inside)) 2001)))
    (max (own x (min (suc k + item_count next) 2001)) (min (most_of (inner_counts (is_in x) next)) 2001))
    ≡ max most (max (own x (min (k + item_count (holds h inside next)) 2001)) (min (most_of (inner_counts (is_in x)
    (holds h inside next))) 2001))
most_past x h inside next most k =
    let y = below x h in
    let one = min (most_of (inner_counts (is_in y) inside)) 2001 in
    let two = min (most_of (inner_counts (is_in x) next)) 2001 in
    let here = own x (min (k + item_count (holds h inside next)) 2001) in
    let its = min (own y (item_count inside)) 2001 in
    ap (λ n. max (max most (max (own y (min n 2001)) one)) (max (own x (min (suc k + item_count next) 2001)) two))
    (zero-add (item_count inside))
    ∙ ap (λ n. max (max most (max n one)) (max (own x (min (suc k + item_count next) 2001)) two)) (own_capped y
    (item_count inside))
    ∙ ap (λ n. max (max most (max its one)) (max (own x (min n 2001)) two)) (suc_over k (item_count next))
    ∙ in_turn most (max its one) here two
    ∙ ap (λ n. max most (max here n)) (capped_three (own y (item_count inside)) (most_of (inner_counts (is_in y) inside))
    (most_of (inner_counts (is_in x) next)) ∙ ap (λ n. min n 2001) (sym (inner_most x h inside next)))

most_end : (x k most : ℕ) (o : OpenFlow) → most_with o most ≡ max most (own x (min k 2001))
    → most_with o most ≡ max most (max (own x (min (k + 0) 2001)) (min 0 2001))
most_end x k most o h =
    let same : own x (min k 2001) ≡ own x (min (k + 0) 2001) = ap (λ n. own x (min n 2001)) (omega arith) in omega
    (arith, h, same)

over : (r : Content) (s : Nests) (x k : ℕ) (after : List Mark) → HasNoSpanner r → s.flow.depth ≡ min x 4
    → s.flow.items ≡ min k 2001
    → min x 4 ≤ s.deepest → run s (marks_of r ++ marked.End ∷ after) ≡ run (ended_with s x k r) after
over done s x k after cut depth items deep =
    ap (λ t. run t after) (same_nests {o = nearest s.outer} {outer = farther s.outer} (omega (arith, deep))
    (most_end x k s.most s.flow (closing s x k depth items)))
over (opens p next) s x k after cut depth items deep = over next s x k after cut depth items deep
over (closes p next) s x k after cut depth items deep = over next s x k after cut depth items deep
over (leaf l next) s x k after cut depth items deep =
    ap (λ t. run t (marks_of next ++ marked.End ∷ after)) (leaf_taken s l)
    ∙ over next (leaf_in s) x (suc k) after cut depth (omega (arith, items)) deep
    ∙ ap (λ n. run (nests (nearest s.outer) (farther s.outer) (max s.deepest (min (nesting x next) 4))
    (max s.most (max (own x (min n 2001)) (min (most_of (inner_counts (is_in x) next)) 2001)))) after)
    (omega arith)
over (holds h inside next) s x k after cut depth items deep =
    let left : List Mark = marks_of next ++ marked.End ∷ after in
    let y : ℕ = below x h in
    let t : Nests = held_in s (min y 4) in
    let u : Nests = ended_with t y 0 inside in
    ap (λ v. run v ((marks_of inside ++ marked.End ∷ marks_of next) ++ marked.End ∷ after)) (begins x h s depth)
    ∙ ap (λ ms. run t ms) (append_assoc (marks_of inside) (marked.End ∷ marks_of next) (marked.End ∷ after))
    ∙ over inside t y 0 left cut.0 refl refl (omega arith)
    ∙ over next u x (suc k) after cut.1 depth (omega (arith, items)) (omega (arith, deep))
    ∙ ap (λ v. run v after) (same_nests {o = nearest s.outer} {outer = farther s.outer}
    (deepest_past x h inside next s.deepest)
    (most_past x h inside next s.most k))
over (spanner inside next) s x k after cut depth items deep = absurd cut

-- ---- the document

run_append : (s : Nests) (ms more : List Mark) → run s (ms ++ more) ≡ run (run s ms) more
run_append s [] more = refl
run_append s (m ∷ ms) more = run_append (step s m) ms more

-- what is wanted of a content
abbrev pub many_of : Content → FlowsData → Option Refusal
many_of content d =
    or_else (when (nat_lt 3 (nesting 0 content)) (refusals.Limit names.Nest 4 3))
    (or_else (when (nat_lt 100000 (item_total d)) (refusals.Limit names.Items 100001 100000))
    (when (list_any (λ n. nat_lt 2000 n) (inner_counts false content)) (refusals.Limit names.InnerItems 2001 2000)))

abbrev many_by : FlowsData → (deep inner : Bool) → Option Refusal
many_by d deep inner =
    or_else (when deep (refusals.Limit names.Nest 4 3))
    (or_else (when (nat_lt 100000 (item_total d)) (refusals.Limit names.Items 100001 100000))
    (when inner (refusals.Limit names.InnerItems 2001 2000)))

deep_capped : (n : ℕ) → nat_lt 3 (max 0 (min n 4)) ≡ nat_lt 3 n
deep_capped n = grind (arith, nat_tests)

most_capped : (n : ℕ) → nat_lt 2000 (max 0 (max 0 (min n 2001))) ≡ nat_lt 2000 n
most_capped n = grind (arith, nat_tests)

tallied : (content : Content) (d : FlowsData) → HasNoSpanner content → many (close (run begun (marks_of content))) d
    ≡ many_of content d
tallied content d cut =
    ap (λ s. many s d) (sym (run_append begun (marks_of content) (marked.End ∷ []))
    ∙ over content begun 0 0 [] cut (omega arith) (omega arith) (omega arith))
    ∙ ap (λ b. many_by d b (nat_lt 2000 (max 0 (max 0 (min (most_of (inner_counts false content)) 2001))))) (deep_capped
    (nesting 0 content))
    ∙ ap (λ b. many_by d (nat_lt 3 (nesting 0 content)) b)
    (most_capped (most_of (inner_counts false content)) ∙ sym (any_most 2000 (inner_counts false content)))

pub many_tallied : (marks : List Mark) (content : Content) (d : FlowsData) → marks ≡ marks_of content → HasNoSpanner content
    → many (close (run begun marks)) d ≡ many_of content d
many_tallied marks content d same cut = ap (λ ms. many (close (run begun ms)) d) same ∙ tallied content d cut
