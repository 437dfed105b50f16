-- How many boxes a document has, and how deep they stand.
use Rattle.std.proofs.Common.{◌≡◌, ℕ, suc, ◌+◌, ◌*◌, ◌^◌, ◌≤◌, max, List, length, Bool, true, false, refl, ap, arith}
use Rattle.std.proofs.Common.{length-append}
use Rattle.std.specs.Prelude.{if◌then◌else◌, Option, Some, None}
use Rattle.inline_text.specs.declared.content.Piece.{Piece}
use Rattle.html_grammar.specs.Grammar.{depth_of}
use Rattle.html_grammar.specs.declared.dom.Attribute.{Attribute}
use Rattle.html_grammar.specs.Tree.{Forest, Nil, Element, Words, nodes_from}
use Rattle.box_data.specs.declared.style.BoxStyle.{BoxStyle}
use Rattle.box_data.specs.declared.tree.BoxKind.TheVariants.{Anonymous as anonymous}
use Rattle.box_data.specs.Styles.{style_of}
use Rattle.box_data.specs.BoxTree.{Boxes, none, box, box_count, Node, is_empty, is_block, is_shown, has_blocks, front, run_of}
use Rattle.box_data.specs.BoxTree.{makes_line, with_run, with_characters, element_box, boxes_behind, boxes_of, node_count}

abbrev pub box_depth : {A : Type 0} → Boxes A → ℕ
box_depth none = 0
box_depth (box a kids next) = max (suc (box_depth kids)) (box_depth next)

-- at most this deep and this many
pub record IsWithin (deep many : ℕ) (boxes : Boxes Node) : Type 0 where
  pub depth : box_depth boxes ≤ deep
  pub count : box_count boxes ≤ many

run_within : (deep many : ℕ) (parent : ℕ) (run : List Piece) (boxes : Boxes Node) → 1 ≤ deep → IsWithin deep many boxes
    → IsWithin deep (suc many) (with_run parent run boxes)
run_within deep many parent run boxes some h = go (makes_line run)
  where
    go : (v : Bool) → IsWithin deep (suc many) (if v then box (record {
      element = parent;
      kind = anonymous;
      run =
          Some run;
    }) none boxes else boxes)
    go true = record { depth = omega (arith, h.depth); count = omega (arith, h.count) }
    go false = record { depth = h.depth; count = omega (arith, h.count) }

inside_within : (deep many : ℕ) (no_kids some : Bool) (k : ℕ) (run : List Piece) (inside : Boxes Node) → 1 ≤ deep
    → IsWithin deep many inside
    → IsWithin deep (suc many) (if no_kids then none else if some then with_run k run inside else none)
inside_within deep many true some k run inside le h = record { depth = omega arith; count = omega arith }
inside_within deep many false true k run inside le h = run_within deep many k run inside le h
inside_within deep many false false k run inside le h = record { depth = omega arith; count = omega arith }

element_within : (deep deeper many more : ℕ) (styles : List BoxStyle) (k : ℕ) (name : List ℕ) (attributes : List Attribute)
    (kids : Forest) (inside next : Boxes Node)
    → 1 ≤ deep → suc deep ≤ deeper → IsWithin deep many inside → IsWithin deeper more next
    → IsWithin deeper (suc (suc (many + more))) (element_box styles k name attributes kids inside next)
element_within deep deeper many more styles k name attributes kids inside next some le h g =
    let i = inside_within deep many (is_empty name) (has_blocks styles (suc k) kids) k
    (run_of styles (front styles k (suc k) kids)) inside some h in
    record { depth = omega (arith, i.depth, g.depth); count = omega (arith, i.count, g.count) }

behind_within : (styles : List BoxStyle) (parent k : ℕ) (tree : Forest)
    → IsWithin (suc (depth_of tree)) (3 * node_count tree) (boxes_behind styles parent k tree)
behind_within styles parent k Nil = record { depth = omega arith; count = omega arith }
behind_within styles parent k (Words at text next) = let h = behind_within styles parent (suc k) next in
    record { depth = h.depth; count = omega (arith, h.count) }
behind_within styles parent k (Element at name attributes kids next) =
    go (is_block (style_of styles k)) (behind_within styles k (suc k) kids)
    (behind_within styles parent (suc k + node_count kids) next)
  where
    behind : Boxes Node
    behind = boxes_behind styles parent (suc k + node_count kids) next

    inside : Boxes Node
    inside = boxes_behind styles k (suc k) kids

    run : List Piece
    run = run_of styles (front styles parent (suc k + node_count kids) next)

    go : (v : Bool) → IsWithin (suc (depth_of kids)) (3 * node_count kids) inside
        → IsWithin (suc (depth_of next)) (3 * node_count next) behind
        → IsWithin (suc (depth_of (Element at name attributes kids next))) (3 * node_count (Element at name attributes kids next))
        (if v then element_box styles k name attributes kids inside (with_run parent run behind) else behind)
    go true h g =
        let deeper = suc (max (suc (depth_of kids)) (depth_of next)) in
        let wide : IsWithin deeper (3 * node_count next) behind = record { depth = omega (arith, g.depth); count = g.count } in
        let e = element_within (suc (depth_of kids)) deeper (3 * node_count kids)
        (suc (3 * node_count next)) styles k name attributes kids inside (with_run parent run behind)
        (omega arith) (omega arith) h (run_within deeper (3 * node_count next) parent run behind (omega arith) wide) in
        record { depth = e.depth; count = omega (arith, e.count) }
    go false h g = record { depth = omega (arith, g.depth); count = omega (arith, g.count) }

boxes_within : (styles : List BoxStyle) (tree : Forest) → IsWithin (suc (depth_of tree)) (3 * node_count tree)
    (boxes_of styles tree)
boxes_within styles Nil = record { depth = omega arith; count = omega arith }
boxes_within styles (Words at text next) = record { depth = omega arith; count = omega arith }
boxes_within styles (Element at name attributes kids next) = go (is_shown (style_of styles 0))
  where
    inside : Boxes Node
    inside = boxes_behind styles 0 1 kids

    empty : IsWithin (suc (suc (depth_of kids))) 0 none
    empty = record { depth = omega arith; count = omega arith }

    go : (v : Bool) → IsWithin (suc (depth_of (Element at name attributes kids next)))
        (3 * node_count (Element at name attributes kids next))
        (if v then element_box styles 0 name attributes kids inside none else none)
    go true =
        let e = element_within (suc (depth_of kids)) (suc (suc (depth_of kids)))
        (3 * node_count kids) 0 styles 0 name attributes kids inside none (omega arith) (omega arith)
        (behind_within styles 0 1 kids) empty in
        record { depth = omega (arith, e.depth); count = omega (arith, e.count) }
    go false = record { depth = omega arith; count = omega arith }

-- ---- the nodes of the tree

node-count : (parent : Option ℕ) (k : ℕ) (tree : Forest) → length (nodes_from parent k tree) ≡ node_count tree
node-count parent k Nil = refl
node-count parent k (Words at text next) = ap (λ (n : ℕ). suc n) (node-count parent (suc k) next)
node-count parent k (Element at name attributes kids next) =
    let inside = nodes_from (Some k) (suc k) kids in
    let a = node-count (Some k) (suc k) kids in
    let b = node-count parent (suc k + length inside) next in
    let both = length-append inside (nodes_from parent (suc k + length inside) next) in
    omega arith

count-characters : (tree : Forest) → node_count (with_characters tree) ≡ node_count tree
count-characters Nil = refl
count-characters (Words at text next) = ap (λ (n : ℕ). suc n) (count-characters next)
count-characters (Element at name attributes kids next) = omega (arith, count-characters kids, count-characters next)

depth-characters : (tree : Forest) → depth_of (with_characters tree) ≡ depth_of tree
depth-characters Nil = refl
depth-characters (Words at text next) = depth-characters next
depth-characters (Element at name attributes kids next) = omega (arith, depth-characters kids, depth-characters next)

-- the boxes of a document within the limits of trees
pub document_within : (styles : List BoxStyle) (tree : Forest) → depth_of tree ≤ 64 → length (nodes_from None 0 tree) ≤ 2 ^ 28
    → IsWithin 65 (3 * 2 ^ 28) (boxes_of styles (with_characters tree))
document_within styles tree deep many =
    let h = boxes_within styles (with_characters tree) in
    let a = count-characters tree in
    let b = depth-characters tree in
    let c = node-count None 0 tree in
    record { depth = omega (arith, h.depth); count = omega (arith, h.count) }
