-- One step of the pass over a list of boxes.
use Rattle.std.proofs.Common.{◌≡◌, ℕ, suc, ◌+◌, ◌*◌, ◌^◌, ◌<◌, ◌≤◌, ◌⊎◌, List, [], ◌∷◌, ◌++◌, length, get_or, drop, All, Some}
use Rattle.std.proofs.Common.{None, inl, inr, sym, ap, ap₂, ◌∙◌, arith, append_assoc}
use Rattle.std.proofs.lemmas.List.{at_drop_more}
use Rattle.std.proofs.lemmas.List.Elements.{All-push, All-weaker}
use Rattle.mc_base.specs.declared.refusal.Refusal.{Refusal}
use Rattle.mc_base.specs.declared.refusal.Refusal.TheVariants.{NoMemory as Memory}
use Rattle.box_data.specs.declared.style.BoxStyle.{BoxStyle}
use Rattle.box_data.specs.declared.placed.Placed.{Placed}
use Rattle.box_data.specs.declared.tree.BoxNode.{BoxNode}
use Rattle.box_data.specs.Limits.{all_used_lengths, long, used_lengths}
use Rattle.box_places.specs.declared.place.ContainingBlock.{ContainingBlock}
use Rattle.box_places.specs.Bounds.{IsWithin}
use Rattle.box_places.specs.Passes.{placed_in, inside, around_of, placed_behind}
use Rattle.box_places.proofs.LongLengths.{long_at}

-- ---- the boxes from one on

ahead : (styles : List BoxStyle) (outer : ContainingBlock) (blocks : List ContainingBlock) (nodes : List BoxNode)
    (number : ℕ) (node : BoxNode)
    → number < length nodes → node ≡ get_or nodes number node
    → placed_behind styles outer blocks number (drop number nodes)
    ≡ placed_in styles number node (around_of outer blocks node.parent)
    ∷ placed_behind styles outer (blocks ++ inside (placed_in styles number node (around_of outer blocks node.parent))
    (around_of outer blocks node.parent) ∷ [])
    (number + 1) (drop (number + 1) nodes)
ahead styles outer blocks nodes number node lt is =
    let around = around_of outer blocks node.parent in
    let p = placed_in styles number node around in
    let next : suc number ≡ number + 1 = omega arith in
    at_drop_more (λ (ns : List BoxNode). placed_behind styles outer blocks number ns) nodes number node lt
    ∙ ap (λ (n : BoxNode). placed_behind styles outer blocks number (n ∷ drop (number + 1) nodes)) (sym is)
    ∙ ap (λ k. p ∷ placed_behind styles outer (blocks ++ inside p around ∷ []) k (drop (number + 1) nodes)) next

pub placed_more : (styles : List BoxStyle) (outer : ContainingBlock) (blocks : List ContainingBlock) (nodes : List BoxNode)
    (number : ℕ) (node : BoxNode)
    (around : ContainingBlock) (places whole : List Placed) (place : Placed) (block : ContainingBlock)
    → places ++ placed_behind styles outer blocks number (drop number nodes) ≡ whole
    → number < length nodes → node ≡ get_or nodes number node → around ≡ around_of outer blocks node.parent
    → place ≡ placed_in styles number node around → block ≡ inside place around
    → (places ++ place ∷ []) ++ placed_behind styles outer (blocks ++ block ∷ []) (number + 1) (drop (number + 1) nodes) ≡ whole
placed_more styles outer blocks nodes number node around places whole place block so_far lt is is_around is_place is_block =
    let here = around_of outer blocks node.parent in
    let p = placed_in styles number node here in
    let place_is : place ≡ p = is_place ∙ ap (placed_in styles number node) is_around in
    let block_is : block ≡ inside p here = is_block ∙ ap₂ inside place_is is_around in
    append_assoc places (place ∷ []) (placed_behind styles outer (blocks ++ block ∷ []) (number + 1) (drop (number + 1) nodes))
    ∙ ap₂ (λ (q : Placed) (b : ContainingBlock). places ++
    (q ∷ placed_behind styles outer (blocks ++ b ∷ []) (number + 1) (drop (number + 1) nodes))) place_is block_is
    ∙ ap (λ t. places ++ t) (sym (ahead styles outer blocks nodes number node lt is))
    ∙ so_far

-- ---- a refusal

pub refused_at : (styles : List BoxStyle) (outer : ContainingBlock) (blocks : List ContainingBlock) (nodes : List BoxNode)
    (number : ℕ) (node : BoxNode)
    (around : ContainingBlock) (places whole : List Placed) (e : Refusal)
    → places ++ placed_behind styles outer blocks number (drop number nodes) ≡ whole
    → number < length nodes → node ≡ get_or nodes number node → around ≡ around_of outer blocks node.parent
    → long (all_used_lengths places) ≡ None
    → (e ≡ Memory) ⊎ (long (used_lengths (placed_in styles number node around)) ≡ Some e)
    → (e ≡ Memory) ⊎ (long (all_used_lengths whole) ≡ Some e)
refused_at styles outer blocks nodes number node around places whole e so_far lt is is_around lengths (inl out) = inl out
refused_at styles outer blocks nodes number node around places whole e so_far lt is is_around lengths (inr above) =
    let here = around_of outer blocks node.parent in
    let p = placed_in styles number node here in
    let rest = placed_behind styles outer (blocks ++ inside p here ∷ []) (number + 1) (drop (number + 1) nodes) in
    let same : whole ≡ places ++ p ∷ rest = sym so_far
    ∙ ap (λ t. places ++ t) (ahead styles outer blocks nodes number node lt is) in
    let it : long (used_lengths p) ≡ Some e = ap (λ a. long (used_lengths (placed_in styles number node a))) (sym is_around)
    ∙ above in
    inr (ap (λ t. long (all_used_lengths t)) same ∙ long_at places p rest e lengths it)

-- ---- how far right blocks begin

pub within_more : (a b : ℕ) (block : ContainingBlock) → a ≤ b → IsWithin a block → IsWithin b block
within_more a b block le h = record { x = omega (arith, h.x); span_x = omega (arith, h.span_x); w = h.w; span_w = h.span_w }

pub all_within : (number : ℕ) (blocks : List ContainingBlock) (block : ContainingBlock)
    → All (IsWithin (number * (3 * 2 ^ 24))) blocks
    → IsWithin (number * (3 * 2 ^ 24) + 3 * 2 ^ 24) block → All (IsWithin ((number + 1) * (3 * 2 ^ 24))) (blocks ++ block ∷ [])
all_within number blocks block all here =
    All-push (IsWithin ((number + 1) * (3 * 2 ^ 24))) blocks block
    (All-weaker (IsWithin (number * (3 * 2 ^ 24))) (IsWithin ((number + 1) * (3 * 2 ^ 24)))
    (λ b h. within_more (number * (3 * 2 ^ 24)) ((number + 1) * (3 * 2 ^ 24)) b (omega arith) h) blocks all)
    (within_more (number * (3 * 2 ^ 24) + 3 * 2 ^ 24) ((number + 1) * (3 * 2 ^ 24)) block (omega arith) here)
