-- The boxes of a tree's list in their places are those of the tree.
use Rattle.std.proofs.Common.{◌≡◌, ℕ, suc, ◌+◌, ◌<◌, List, [], ◌∷◌, ◌++◌, length, Option, Some, None, refl, sym, ap, ap₂, ◌∙◌}
use Rattle.std.proofs.Common.{arith, append_assoc, length-append, append-nil, add-zero}
use Rattle.std.proofs.lemmas.List.{get_or_at, get_or_append_left}
use Rattle.inline_text.specs.declared.content.Piece.{Piece}
use Rattle.box_data.specs.declared.tree.BoxNode.{BoxNode}
use Rattle.box_data.specs.declared.style.BoxStyle.{BoxStyle}
use Rattle.box_data.specs.declared.placed.Placed.{Placed}
use Rattle.box_data.specs.BoxTree.{Boxes, none, box, Node, box_count, box_nodes, in_order, runs_of}
use Rattle.box_data.specs.Widths.{placed, placed_one, placed_from, place_in, outermost}
use Rattle.box_places.specs.declared.place.ContainingBlock.{ContainingBlock}
use Rattle.box_places.specs.Parts.{pieces_of, node_of, place_of, block_of}
use Rattle.box_places.specs.Passes.{placed_in, inside, around_of, placed_behind, all_placed}

-- ---- one box

-- a box of the tree, as one of the list
abbrev list_node : Option ℕ → Node → BoxNode
list_node parent node = record { parent = parent; element = node.element; kind = node.kind; runs = runs_of node.run }

pieces_again : (run : Option (List Piece)) → pieces_of (runs_of run) ≡ run
pieces_again None = refl
pieces_again (Some run) = refl

node_again : (parent : Option ℕ) (node : Node) → node_of (list_node parent node) ≡ node
node_again parent node =
    let with : Option (List Piece) → Node = λ run. record { element = node.element; kind = node.kind; run = run } in
    ap with (pieces_again node.run)

abbrev one : List BoxStyle → Option ℕ → ℕ → Node → ContainingBlock → Placed
one styles parent n node around = placed_one styles [] parent n node (place_of around)

abbrev inner : Placed → ContainingBlock → ContainingBlock
inner p around = block_of (place_in p (place_of around))

first_placed : (styles : List BoxStyle) (outer : ContainingBlock) (blocks : List ContainingBlock) (n : ℕ) (parent : Option ℕ)
    (around : ContainingBlock) (node : Node) (rest : List BoxNode) → around_of outer blocks parent ≡ around
    → placed_behind styles outer blocks n (list_node parent node ∷ rest)
    ≡ one styles parent n node around ∷ placed_behind styles outer
    (blocks ++ inner (one styles parent n node around) around ∷ []) (suc n) rest
unfolding placed_in inside
first_placed styles outer blocks n parent around node rest e =
    let after : ContainingBlock → Node → List Placed =
    λ a m. one styles parent n m a ∷ placed_behind styles outer (blocks ++ inner (one styles parent n m a) a ∷ []) (suc n) rest
    in ap₂ after e (node_again parent node)

-- ---- a tree

-- the number of a box that stands before this many
abbrev IsBefore : ℕ → Option ℕ → Type 0
IsBefore n None = Unit {0}
IsBefore n (Some k) = k < n

before_more : (m n : ℕ) (parent : Option ℕ) → IsBefore m parent → IsBefore (m + n) parent
before_more m n None h = tt
before_more m n (Some k) h = omega arith

around-more : (outer : ContainingBlock) (blocks more : List ContainingBlock) (parent : Option ℕ) → IsBefore (length blocks) parent
    → around_of outer (blocks ++ more) parent ≡ around_of outer blocks parent
around-more outer blocks more None h = refl
around-more outer blocks more (Some k) h = get_or_append_left blocks more outer k h

-- what follows after the boxes of a tree, with the blocks that they make
record Follows (styles : List BoxStyle) (outer : ContainingBlock) (blocks : List ContainingBlock) (n : ℕ) (parent : Option ℕ)
    (around : ContainingBlock) (tree : Boxes Node) : Type 0 where
  more : List ContainingBlock
  count : length more ≡ box_count tree
  places : (rest : List BoxNode) → placed_behind styles outer blocks n (box_nodes parent n tree ++ rest)
      ≡ in_order (placed_from styles [] parent n (place_of around) tree)
      ++ placed_behind styles outer (blocks ++ more) (n + box_count tree) rest

more_blocks : (blocks : List ContainingBlock) (b : ContainingBlock) (kids next : List ContainingBlock)
    → ((blocks ++ b ∷ []) ++ kids) ++ next ≡ blocks ++ (b ∷ (kids ++ next))
more_blocks blocks b kids next = simp append_assoc

-- two parts, one after the other
joined : (behind : List BoxNode → List Placed) (of_kids of_next rest : List BoxNode) (kids later next : List Placed)
    (at : List ContainingBlock → ℕ → List Placed) (bs cs : List ContainingBlock) (m k : ℕ)
    → behind (of_kids ++ (of_next ++ rest)) ≡ kids ++ later → later ≡ next ++ at bs m → bs ≡ cs → m ≡ k
    → behind ((of_kids ++ of_next) ++ rest) ≡ (kids ++ next) ++ at cs k
joined behind of_kids of_next rest kids later next at bs cs m k first second same_blocks same_number =
    ap behind (append_assoc of_kids of_next rest)
    ∙ first
    ∙ ap (λ t. kids ++ t) second
    ∙ sym (append_assoc kids next (at bs m))
    ∙ ap₂ (λ (ds : List ContainingBlock) (j : ℕ). (kids ++ next) ++ at ds j) same_blocks same_number

follows : (styles : List BoxStyle) (outer : ContainingBlock) (blocks : List ContainingBlock) (n : ℕ) (parent : Option ℕ)
    (around : ContainingBlock) (tree : Boxes Node) → length blocks ≡ n → IsBefore (length blocks) parent
    → around_of outer blocks parent ≡ around → Follows styles outer blocks n parent around tree
follows styles outer blocks n parent around none count before e = record {
  more = [];
  count = refl;
  places = λ rest. ap₂ (λ (bs : List ContainingBlock) (m : ℕ). placed_behind styles outer bs m rest)
      (sym (append-nil blocks)) (sym (add-zero n));
}
follows styles outer blocks n parent around (box node kids next) count before e =
    let p = one styles parent n node around in
    let b = inner p around in
    let with_box = blocks ++ b ∷ [] in
    let counted : length with_box ≡ suc n = omega (arith, length-append blocks (b ∷ []), count) in
    let here : around_of outer with_box (Some n) ≡ b = get_or_at blocks b [] outer n count in
    let k = follows styles outer with_box (suc n) (Some n) b kids counted (omega (arith, counted)) here in
    let with_kids = with_box ++ k.more in
    let counted_kids : length with_kids ≡ suc n + box_count kids =
    omega (arith, length-append with_box k.more, counted, k.count) in
    let still : around_of outer with_kids parent ≡ around =
    ap (λ bs. around_of outer bs parent) (append_assoc blocks (b ∷ []) k.more)
    ∙ around-more outer blocks (b ∷ [] ++ k.more) parent before ∙ e in
    let longer : length with_kids ≡ length blocks + length (b ∷ [] ++ k.more) =
    ap length (append_assoc blocks (b ∷ []) k.more) ∙ length-append blocks (b ∷ [] ++ k.more) in
    let before_kids : IsBefore (length with_kids) parent =
    rw longer (before_more (length blocks) (length (b ∷ [] ++ k.more)) parent before) in
    let x = follows styles outer with_kids (suc n + box_count kids) parent around next counted_kids before_kids still in
    let of_kids = box_nodes (Some n) (suc n) kids in
    let of_next = box_nodes parent (suc n + box_count kids) next in
    let placed_kids = in_order (placed_from styles [] (Some n) (suc n) (place_of b) kids) in
    let placed_next = in_order (placed_from styles [] parent (suc n + box_count kids) (place_of around) next) in
    let total : suc n + box_count kids + box_count next ≡ n + suc (box_count kids + box_count next) = omega arith in
    record {
      more = b ∷ (k.more ++ x.more);
      count = omega (arith, length-append k.more x.more, k.count, x.count);
      places = λ rest.
          first_placed styles outer blocks n parent around node ((of_kids ++ of_next) ++ rest) e
          ∙ ap (λ t. p ∷ t) (joined (placed_behind styles outer with_box (suc n)) of_kids of_next rest placed_kids
          (placed_behind styles outer with_kids (suc n + box_count kids) (of_next ++ rest)) placed_next
          (λ (bs : List ContainingBlock) (m : ℕ). placed_behind styles outer bs m rest) (with_kids ++ x.more)
          (blocks ++ (b ∷ (k.more ++ x.more))) (suc n + box_count kids + box_count next)
          (n + suc (box_count kids + box_count next))
          (k.places (of_next ++ rest)) (x.places rest) (more_blocks blocks b k.more x.more) total);
    }

-- the boxes of a tree, by its list
pub all_of_tree : (styles : List BoxStyle) (width : ℕ) (tree : Boxes Node)
    → all_placed styles width (box_nodes None 0 tree) ≡ in_order (placed styles [] width tree)
all_of_tree styles width tree =
    let outer = block_of (outermost width) in
    let all = follows styles outer [] 0 None outer tree refl tt refl in
    ap (λ nodes. all_placed styles width nodes) (sym (append-nil (box_nodes None 0 tree)))
    ∙ all.places []
    ∙ append-nil (in_order (placed styles [] width tree))
