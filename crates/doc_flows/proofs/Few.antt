-- A run has few pieces: at most eight for each byte of the texts and of the names of elements.
use Rattle.std.proofs.Common.{ℕ, zero, suc, ◌+◌, ◌-◌, ◌*◌, ◌≤◌, ◌<◌, ◌^◌, Bool, true, false, List, [], ◌∷◌, ◌++◌, map, length, Option, Some, None, arith}
use Rattle.std.specs.Prelude.{◌==◌, ◌&&◌, not, if◌then◌else◌, codes, replicate, sum_by, IfSome}
use Rattle.std.specs.List.{AllByRecursion}
use Rattle.std.specs.Str.{chars, chars_after, continuation_len, lead_bits}
use Rattle.std.proofs.lemmas.List.{length-append, length-map}
use Rattle.std.proofs.lemmas.List.Sums.{sum_by-cons, sum_by-append}
use Rattle.html_grammar.specs.declared.dom.Attribute.{Attribute}
use Rattle.html_grammar.specs.Names.{same}
use Rattle.html_grammar.specs.Tree.{Forest, Nil, Element, Words, nodes_from, element_node, words_node}
use Rattle.html_subset.specs.WellFormed.{node_bytes}
use Rattle.inline_text.specs.declared.content.Piece.{Piece}
use Rattle.inline_text.specs.declared.content.Piece.TheVariants as pieces
use Rattle.inline_text.specs.declared.content.RunStyle.{RunStyle}
use Rattle.inline_text.specs.declared.content.Runs.{Runs}
use Rattle.inline_text.specs.WhiteSpace.{keeps, kept, is_white, collapsed_char, char_becomes, piece_becomes, follows_content, precedes_content, becomes, collapsed_behind}
use Rattle.box_data.specs.declared.style.BoxStyle.{BoxStyle}
use Rattle.box_data.specs.declared.tree.BoxKind.{BoxKind as Kind}
use Rattle.box_data.specs.declared.tree.BoxKind.TheVariants.{Anonymous as anonymous}
use Rattle.box_data.specs.declared.tree.BoxNode.{BoxNode}
use Rattle.box_data.specs.Styles.{style_of, texts_of}
use Rattle.box_data.specs.BoxTree.{Boxes, none, box, box_count, Node, node_count, with_characters, is_shown, is_block, is_image, is_empty, image_piece, inline_pieces, front, run_of, has_blocks, makes_line, with_run, own_run, element_box, boxes_behind, boxes_of, box_nodes, runs_of}

-- ---- texts and names of a tree

abbrev pub weight : Forest → ℕ
weight Nil = 0
weight (Element at name attributes kids next) = length name + weight kids + weight next
weight (Words at text next) = length text + weight next

after_few : (n c : ℕ) (bs : List ℕ) → length (chars_after n c bs) ≤ suc (length bs)
after_few zero c [] = omega arith
after_few zero c (b ∷ bs) = let more = after_few (continuation_len b) (lead_bits b) bs in omega (arith, more)
after_few (suc n) c [] = omega arith
after_few (suc n) c (b ∷ bs) = let more = after_few n (c * 64 + (b - 128)) bs in omega (arith, more)

chars_few : (bs : List ℕ) → length (chars bs) ≤ length bs
unfolding chars
chars_few [] = omega arith
chars_few (b ∷ bs) = after_few (continuation_len b) (lead_bits b) bs

pub weight_within : (parent : Option ℕ) (k : ℕ) (tree : Forest)
    → weight (with_characters tree) ≤ sum_by node_bytes (nodes_from parent k tree)
weight_within parent k Nil = omega arith
weight_within parent k (Words at text next) =
    let more = weight_within parent (suc k) next in
    omega (arith, more, chars_few text, sum_by-cons node_bytes (words_node parent at text) (nodes_from parent (suc k) next))
weight_within parent k (Element at name attributes kids next) =
    let inside = nodes_from (Some k) (suc k) kids in
    let behind = nodes_from parent (suc k + length inside) next in
    let a = weight_within (Some k) (suc k) kids in
    let b = weight_within parent (suc k + length inside) next in
    omega (
      arith,
      a,
      b,
      sum_by-append node_bytes inside behind,
      sum_by-cons node_bytes (element_node parent at name attributes) (inside ++ behind),
    )

-- ---- what collapsing makes of pieces

kept_few : (ch style : ℕ) → length (kept ch style) ≤ 8
kept_few ch style = go (ch == 10) (ch == 9)
  where
    go : (feed tab : Bool) → length
        (if feed then pieces.Forced ∷ [] else if tab then replicate 8 (pieces.Char 32 style) else pieces.Char ch style ∷ []) ≤ 8
    go true tab = omega arith
    go false true = omega arith
    go false false = omega arith

collapsed_few : (ch style : ℕ) (stays : Bool) → length (collapsed_char ch style stays) ≤ 8
collapsed_few ch style stays = go (is_white ch) stays
  where
    go : (white stays : Bool) → length
        (if white then (if stays then pieces.Char 32 style ∷ [] else []) else pieces.Char ch style ∷ []) ≤ 8
    go true true = omega arith
    go true false = omega arith
    go false stays = omega arith

char_few : (keep : Bool) (ch style : ℕ) (stays : Bool) → length (char_becomes keep ch style stays) ≤ 8
char_few true ch style stays = kept_few ch style
char_few false ch style stays = collapsed_few ch style stays

piece_few : (styles : List RunStyle) (p : Piece) (stays : Bool) → length (piece_becomes styles p stays) ≤ 8
piece_few styles (pieces.Char ch style) stays = char_few (keeps styles style) ch style stays
piece_few styles (pieces.Image w h style) stays = omega arith
piece_few styles pieces.Forced stays = omega arith
piece_few styles pieces.Chance stays = omega arith

run_few : (styles : List RunStyle) (before ps : List Piece) → length (collapsed_behind styles before ps) ≤ 8 * length ps
run_few styles before [] = omega arith
run_few styles before (p ∷ after) =
    let first = piece_few styles p (follows_content styles before && precedes_content styles after) in
    let rest = run_few styles (p ∷ before) after in
    omega (arith, first, rest, length-append (becomes styles before p after) (collapsed_behind styles (p ∷ before) after))

-- ---- inline content

pieces_few : (s : BoxStyle) (k : ℕ) (name : List ℕ) (attributes : List Attribute) (inside : List Piece)
    → length (inline_pieces s k name attributes inside) ≤ length name + length inside
unfolding same
pieces_few s k [] attributes inside = go (is_shown s)
  where
    go : (shown : Bool) → length (if not shown then [] else inside) ≤ length {A = ℕ} [] + length inside
    go true = omega arith
    go false = omega arith
pieces_few s k (c ∷ name) attributes inside =
    go (is_shown s) (is_image (c ∷ name)) (same (c ∷ name) (codes "br")) (same (c ∷ name) (codes "wbr"))
  where
    go : (shown image br wbr : Bool) → length
        (if not shown then [] else if image then image_piece k attributes ∷ [] else if br then pieces.Forced ∷ [] else
        if wbr then pieces.Chance ∷ [] else inside) ≤ suc (length name) + length inside
    go false image br wbr = omega arith
    go true true br wbr = omega arith
    go true false true wbr = omega arith
    go true false false true = omega arith
    go true false false false = omega arith

front_few : (styles : List BoxStyle) (parent k : ℕ) (tree : Forest) → length (front styles parent k tree) ≤ weight tree
front_few styles parent k Nil = omega arith
front_few styles parent k (Words at text next) =
    let more = front_few styles parent (suc k) next in
    omega (
      arith,
      more,
      length-map text (λ ch. pieces.Char ch parent),
      length-append (map (λ ch. pieces.Char ch parent) text) (front styles parent (suc k) next),
    )
front_few styles parent k (Element at name attributes kids next) =
    let own = inline_pieces (style_of styles k) k name attributes (front styles k (suc k) kids) in
    let rest = front styles parent (suc k + node_count kids) next in
    let a = front_few styles k (suc k) kids in
    let b = front_few styles parent (suc k + node_count kids) next in
    let c = pieces_few (style_of styles k) k name attributes (front styles k (suc k) kids) in
    go (is_block (style_of styles k)) own rest (omega (arith, a, b, c, length-append own rest))
  where
    go : (is : Bool) (own rest : List Piece) → length (own ++ rest) ≤ length name + weight kids + weight next
        → length (if is then [] else (own ++ rest)) ≤ length name + weight kids + weight next
    go true own rest h = omega arith
    go false own rest h = h

-- ---- boxes

abbrev RunIs : ℕ → Option (List Piece) → Type 0
RunIs most None = Unit {0}
RunIs most (Some run) = length run ≤ 8 * most + 1

abbrev BoxIs : ℕ → Boxes Node → Type 0
BoxIs most none = Unit {0}
BoxIs most (box node kids next) = RunIs most node.run × BoxIs most kids × BoxIs most next

module _ (most : ℕ) (styles : List BoxStyle) where
  whole_run : (parent k : ℕ) (tree : Forest) → weight tree ≤ most → length (run_of styles (front styles parent k tree)) ≤ 8 * most + 1
  whole_run parent k tree h =
      omega (arith, h, front_few styles parent k tree, run_few (texts_of styles) [] (front styles parent k tree))

  with_run_is : (parent : ℕ) (run : List Piece) (boxes : Boxes Node) → length run ≤ 8 * most + 1 → BoxIs most boxes
      → BoxIs most (with_run parent run boxes)
  with_run_is parent run boxes few h = go (makes_line run)
    where
      go : (b : Bool) → BoxIs most (if b then box (record { element = parent; kind = anonymous; run = Some run }) none boxes else boxes)
      go true = (few, tt, h)
      go false = h

  own_run_is : (k : ℕ) (name : List ℕ) (attributes : List Attribute) (kids : Forest) → weight kids ≤ most
      → RunIs most (own_run styles k name attributes kids)
  own_run_is k name attributes kids h = go (is_image name) (is_empty name) (has_blocks styles (suc k) kids)
    where
      go : (image empty blocks : Bool) → RunIs most (if image then Some (image_piece k attributes ∷ []) else if empty then None else
          if blocks then None else Some (run_of styles (front styles k (suc k) kids)))
      go true empty blocks = omega arith
      go false true blocks = tt
      go false false true = tt
      go false false false = whole_run k (suc k) kids h

  element_is : (k : ℕ) (name : List ℕ) (attributes : List Attribute) (kids : Forest) (inside next : Boxes Node) → weight kids ≤ most
      → BoxIs most inside → BoxIs most next → BoxIs most (element_box styles k name attributes kids inside next)
  element_is k name attributes kids inside next h in_is next_is =
      (own_run_is k name attributes kids h, go (is_empty name) (has_blocks styles (suc k) kids), next_is)
    where
      go : (empty blocks : Bool) → BoxIs most (if empty then none else if blocks then
          with_run k (run_of styles (front styles k (suc k) kids)) inside else none)
      go true blocks = tt
      go false true = with_run_is k (run_of styles (front styles k (suc k) kids)) inside (whole_run k (suc k) kids h) in_is
      go false false = tt

  behind_is : (parent k : ℕ) (tree : Forest) → weight tree ≤ most → BoxIs most (boxes_behind styles parent k tree)
  behind_is parent k Nil h = tt
  behind_is parent k (Words at text next) h = behind_is parent (suc k) next (omega (arith, h))
  behind_is parent k (Element at name attributes kids next) h =
      let j = suc k + node_count kids in
      let inner : weight kids ≤ most = omega (arith, h) in
      let later : weight next ≤ most = omega (arith, h) in
      let more = behind_is parent j next later in
      let run = run_of styles (front styles parent j next) in
      go _ _ (is_block (style_of styles k))
      (element_is k name attributes kids (boxes_behind styles k (suc k) kids) (with_run parent run (boxes_behind styles parent j next))
      inner (behind_is k (suc k) kids inner)
      (with_run_is parent run (boxes_behind styles parent j next) (whole_run parent j next later) more))
      more
    where
      go : (own rest : Boxes Node) → (is : Bool) → BoxIs most own → BoxIs most rest → BoxIs most (if is then own else rest)
      go own rest true a b = a
      go own rest false a b = b

  all_are : (tree : Forest) → weight tree ≤ most → BoxIs most (boxes_of styles tree)
  all_are Nil h = tt
  all_are (Words at text next) h = tt
  all_are (Element at name attributes kids next) h =
      let inner : weight kids ≤ most = omega (arith, h) in
      go _ (is_shown (style_of styles 0))
      (element_is 0 name attributes kids (boxes_behind styles 0 1 kids) none inner (behind_is 0 1 kids inner) tt)
    where
      go : (own : Boxes Node) → (is : Bool) → BoxIs most own → BoxIs most (if is then own else none)
      go own true a = a
      go own false a = tt

-- ---- the list of boxes

abbrev pub HasFew : BoxNode → Type 0
HasFew node = IfSome node.runs (λ (runs : Runs). length runs.pieces < 2 ^ 32)

all_append : {X : Type 0} (Q : X → Type 0) (xs ys : List X) → AllByRecursion Q xs → AllByRecursion Q ys → AllByRecursion Q (xs ++ ys)
all_append Q [] ys a b = b
all_append Q (x ∷ xs) ys (h, a) b = (h, all_append Q xs ys a b)

node_few : (most : ℕ) → 8 * most + 1 < 2 ^ 32 → (run : Option (List Piece)) (parent : Option ℕ) (element : ℕ) (kind : Kind) → RunIs most run
    → HasFew (record { parent = parent; element = element; kind = kind; runs = runs_of run })
node_few most small None parent element kind h = tt
node_few most small (Some run) parent element kind h = omega (arith, small, h)

nodes_few : (most : ℕ) → 8 * most + 1 < 2 ^ 32 → (parent : Option ℕ) (n : ℕ) (boxes : Boxes Node) → BoxIs most boxes
    → AllByRecursion HasFew (box_nodes parent n boxes)
nodes_few most small parent n none h = tt
nodes_few most small parent n (box node kids next) (run, kids_are, next_are) = (
  node_few most small node.run parent node.element node.kind run,
  all_append HasFew (box_nodes (Some n) (suc n) kids) (box_nodes parent (suc n + box_count kids) next)
      (nodes_few most small (Some n) (suc n) kids kids_are) (nodes_few most small parent (suc n + box_count kids) next next_are),
)

-- where the nodes of a tree have so few bytes, each run has fewer than 2^32 pieces
pub runs_are_few : (styles : List BoxStyle) (tree : Forest) → sum_by node_bytes (nodes_from None 0 tree) ≤ 2 ^ 28 + 64
    → AllByRecursion HasFew (box_nodes None 0 (boxes_of styles (with_characters tree)))
runs_are_few styles tree h =
    nodes_few (2 ^ 28 + 64) (omega arith) None 0 (boxes_of styles (with_characters tree))
    (all_are (2 ^ 28 + 64) styles (with_characters tree) (omega (arith, h, weight_within None 0 tree)))
