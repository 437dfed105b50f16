-- What the boxes of a document have where no computed length is above the limit: short styles, and styles that are there.
use Rattle.std.proofs.Common.{◌≡◌, ℕ, suc, ◌+◌, ◌<◌, ◌≤◌, ◌^◌, ◌-◌, Bool, true, false, List, [], ◌∷◌, ◌++◌, length, map}
use Rattle.std.proofs.Common.{flat_map, refl, sym, ap, subst, ◌∙◌, ◌⊎◌, inl, inr, Option, Some, None, length-append, arith}
use Rattle.std.specs.Prelude.{nat_lt, if◌then◌else◌, IfSome, ◌||◌}
use Rattle.std.specs.List.{All, AllByRecursion, list_any}
use Rattle.std.proofs.lemmas.List.Elements.{All-from_recursion, recursion_from_All}
use Rattle.std.proofs.lemmas.Bool.Decides.{nat_tests}
use Rattle.html_grammar.specs.Tree.{Forest, Nil, Element, Words, nodes_from}
use Rattle.inline_text.specs.declared.content.Piece.{Piece}
use Rattle.inline_text.specs.declared.content.Piece.TheVariants as pieces
use Rattle.inline_text.specs.declared.content.RunStyle.{RunStyle}
use Rattle.inline_text.specs.declared.content.Runs.{Runs}
use Rattle.inline_text.specs.WhiteSpace.{HasStyle}
use Rattle.css_cascade.specs.declared.styles.NodeStyle.{NodeStyle}
use Rattle.box_data.specs.declared.style.BoxStyle.{BoxStyle}
use Rattle.box_data.specs.declared.tree.BoxNode.{BoxNode}
use Rattle.box_data.specs.declared.tree.BoxTree.{BoxTree}
use Rattle.box_data.specs.Styles.{style_of}
use Rattle.box_data.specs.BoxTree.{Boxes, none, box, box_count, Node, box_nodes, boxes_of, with_characters, shown_from}
use Rattle.box_data.specs.BoxTree.{node_count, is_shown}
use Rattle.box_data.specs.Bounds.{IsShort, IsShortPiece, IsShortNode}
use Rattle.box_data.specs.Limits.{first_above}
use Rattle.box_style.specs.Styles.{styles_in}
use Rattle.box_style.specs.Lengths.{lengths_at, shown_lengths}
use Rattle.box_style.specs.Laws.{StylesAreShort}
use Rattle.box_laws.specs.Laws.{PieceHas, NodeHas, IsIn, BoxesNameShown}
use Rattle.box_laws.proofs.Shown.{at-each}
use Rattle.box_lines.specs.Sizes.{pieces_of}
use Rattle.box_lines.specs.Made.{IsNamed}
use Rattle.doc_laws.proofs.Trees.{document_within}
use Rattle.flow_build.specs.Few.{has_long_run, most}
use Rattle.flow_build.specs.Build.{AreBoxesOf, document_boxes}

all-append : {X : Type 0} (Q : X → Type 0) (xs ys : List X) → AllByRecursion Q xs → AllByRecursion Q ys → AllByRecursion Q (xs ++ ys)
all-append Q [] ys a b = b
all-append Q (x ∷ xs) ys (h, a) b = (h, all-append Q xs ys a b)

-- ---- counts

nodes-length : (parent : Option ℕ) (n : ℕ) (boxes : Boxes Node) → length (box_nodes parent n boxes) ≡ box_count boxes
nodes-length parent n none = refl
nodes-length parent n (box node kids next) =
    let a = length-append (box_nodes (Some n) (suc n) kids) (box_nodes parent (suc n + box_count kids) next) in
    let b = nodes-length (Some n) (suc n) kids in
    let c = nodes-length parent (suc n + box_count kids) next in
    omega (arith, a, b, c)

pub few-boxes : (entries : List (Option NodeStyle)) (tree : Forest) (boxes : BoxTree) → AreBoxesOf entries tree boxes
    → length boxes.nodes ≤ 2 ^ 30
few-boxes entries tree boxes h =
    let within = document_within (styles_in entries) tree h.depth h.count in
    let count = within.count in
    let same = ap (λ (b : BoxTree). length b.nodes) h.same in
    let long = nodes-length None 0 (document_boxes entries tree) in
    omega (arith, count, same, long)

tree-length : (parent : Option ℕ) (k : ℕ) (tree : Forest) → length (nodes_from parent k tree) ≡ node_count tree
tree-length parent k Nil = refl
tree-length parent k (Words at text next) = ap suc (tree-length parent (suc k) next)
tree-length parent k (Element at name attributes kids next) =
    let inner = nodes_from (Some k) (suc k) kids in
    let a = length-append inner (nodes_from parent (suc k + length inner) next) in
    let b = tree-length (Some k) (suc k) kids in
    let c = tree-length parent (suc k + length inner) next in
    omega (arith, a, b, c)

-- ---- shown elements are nodes

weaker : (m n : ℕ) (xs : List ℕ) → m ≤ n → AllByRecursion (λ j. j < m) xs → AllByRecursion (λ j. j < n) xs
weaker m n [] le h = tt
weaker m n (x ∷ xs) le (h, hs) = (omega (arith, le, h), weaker m n xs le hs)

shown-below : (styles : List BoxStyle) (k : ℕ) (tree : Forest) → AllByRecursion (λ j. j < k + node_count tree) (shown_from styles k tree)
shown-below styles k Nil = tt
shown-below styles k (Words at text next) =
    weaker (suc k + node_count next) (k + suc (node_count next)) (shown_from styles (suc k) next) (omega arith) (shown-below styles (suc k) next)
shown-below styles k (Element at name attributes kids next) =
    all-append (λ j. j < k + suc (node_count kids + node_count next))
    (if is_shown (style_of styles k) then k ∷ shown_from styles (suc k) kids else []) (shown_from styles (suc k + node_count kids) next)
    (go (is_shown (style_of styles k)) (shown-below styles (suc k) kids))
    (weaker (suc k + node_count kids + node_count next) (k + suc (node_count kids + node_count next))
    (shown_from styles (suc k + node_count kids) next) (omega arith) (shown-below styles (suc k + node_count kids) next))
  where
    go : (b : Bool) → AllByRecursion (λ j. j < suc k + node_count kids) (shown_from styles (suc k) kids)
        → AllByRecursion (λ j. j < k + suc (node_count kids + node_count next)) (if b then k ∷ shown_from styles (suc k) kids else [])
    go true h = (
      omega arith,
      weaker (suc k + node_count kids) (k + suc (node_count kids + node_count next))
          (shown_from styles (suc k) kids) (omega arith) h,
    )
    go false h = tt

-- ---- no length above the limit

pub none-front : (limit : ℕ) (xs ys : List ℕ) → first_above limit (xs ++ ys) ≡ None → first_above limit xs ≡ None
none-front limit [] ys h = refl
none-front limit (x ∷ xs) ys h = go (nat_lt limit x) h (none-front limit xs ys)
  where
    go : (b : Bool) → (if b then Some x else first_above limit (xs ++ ys)) ≡ None
        → (first_above limit (xs ++ ys) ≡ None → first_above limit xs ≡ None) → (if b then Some x else first_above limit xs) ≡ None
    go true h more = absurd cc
    go false h more = more h

none-rest : (limit : ℕ) (xs ys : List ℕ) → first_above limit (xs ++ ys) ≡ None → first_above limit ys ≡ None
none-rest limit [] ys h = h
none-rest limit (x ∷ xs) ys h = go (nat_lt limit x) h (none-rest limit xs ys)
  where
    go : (b : Bool) → (if b then Some x else first_above limit (xs ++ ys)) ≡ None
        → (first_above limit (xs ++ ys) ≡ None → first_above limit ys ≡ None) → first_above limit ys ≡ None
    go true h more = absurd cc
    go false h more = more h

short-each : (law : StylesAreShort) (entries : List (Option NodeStyle)) (shown : List ℕ)
    → first_above (2 ^ 24) (shown_lengths entries shown) ≡ None → AllByRecursion (λ k. IsShort (style_of (styles_in entries) k)) shown
short-each law entries [] h = tt
short-each law entries (k ∷ shown) h = (
  law entries k (none-front (2 ^ 24) (lengths_at entries k) (shown_lengths entries shown) h),
  short-each law entries shown (none-rest (2 ^ 24) (lengths_at entries k) (shown_lengths entries shown) h),
)

-- ---- boxes

module _ (styles : List BoxStyle) (shown : List ℕ) (short : AllByRecursion (λ k. IsShort (style_of styles k)) shown) where
  short-piece : (p : Piece) → PieceHas (IsIn shown) p → IsShortPiece styles p
  short-piece (pieces.Char ch style) h = tt
  short-piece (pieces.Image w h style) (is, wide, high) = (at-each (λ k. IsShort (style_of styles k)) shown short style is, wide, high)
  short-piece pieces.Forced h = tt
  short-piece pieces.Chance h = tt

  short-pieces : (ps : List Piece) → AllByRecursion (PieceHas (IsIn shown)) ps → AllByRecursion (IsShortPiece styles) ps
  short-pieces [] h = tt
  short-pieces (p ∷ ps) (h, hs) = (short-piece p h, short-pieces ps hs)

  short-runs : (o : Option Runs) → IfSome o (λ (runs : Runs). AllByRecursion (PieceHas (IsIn shown)) runs.pieces)
      → IfSome o (λ (runs : Runs). AllByRecursion (IsShortPiece styles) runs.pieces)
  short-runs None h = tt
  short-runs (Some runs) h = short-pieces runs.pieces h

  short-nodes : (nodes : List BoxNode) → AllByRecursion (NodeHas (IsIn shown)) nodes → AllByRecursion (IsShortNode styles) nodes
  short-nodes [] h = tt
  short-nodes (node ∷ nodes) (h, hs) = (
    record { style = at-each (λ k. IsShort (style_of styles k)) shown short node.element h.element; images = short-runs node.runs h.pieces },
    short-nodes nodes hs,
  )

-- the boxes of a document have short styles where no computed length of its shown elements is above the limit
pub short-document : StylesAreShort → BoxesNameShown → (entries : List (Option NodeStyle)) (tree : Forest)
    → first_above (2 ^ 24) (shown_lengths entries (shown_from (styles_in entries) 0 tree)) ≡ None
    → All (IsShortNode (styles_in entries)) (box_nodes None 0 (document_boxes entries tree))
short-document law names entries tree low =
    let styles = styles_in entries in
    let shown = shown_from styles 0 tree in
    let nodes = box_nodes None 0 (document_boxes entries tree) in
    All-from_recursion (IsShortNode styles) nodes
    (short-nodes styles shown (short-each law entries shown low) nodes
    (recursion_from_All (NodeHas (IsIn shown)) nodes (names styles tree)))

pub all-short : StylesAreShort → BoxesNameShown → (entries : List (Option NodeStyle)) (tree : Forest) (boxes : BoxTree)
    → AreBoxesOf entries tree boxes → first_above (2 ^ 24) (shown_lengths entries boxes.shown) ≡ None
    → All (IsShortNode (styles_in entries)) boxes.nodes
all-short law names entries tree boxes h low =
    let same-shown = ap (λ (b : BoxTree). b.shown) h.same in
    let same-nodes = ap (λ (b : BoxTree). b.nodes) h.same in
    subst (All (IsShortNode (styles_in entries))) (sym same-nodes)
    (short-document law names entries tree (subst (λ s. first_above (2 ^ 24) (shown_lengths entries s) ≡ None) same-shown low))

-- ---- styles that are there

not-above : (n m : ℕ) → nat_lt n m ≡ false → m ≤ n
not-above n m h = grind (arith, nat_tests)

module _ (texts : List RunStyle) (shown : List ℕ) (below : AllByRecursion (λ k. k < length texts) shown) where
  named-piece : (p : Piece) → PieceHas (IsIn shown) p → HasStyle texts p
  named-piece (pieces.Char ch style) h = at-each (λ k. k < length texts) shown below style h
  named-piece (pieces.Image w h style) (is, wide, high) = at-each (λ k. k < length texts) shown below style is
  named-piece pieces.Forced h = tt
  named-piece pieces.Chance h = tt

  named-pieces : (ps : List Piece) → AllByRecursion (PieceHas (IsIn shown)) ps → AllByRecursion (HasStyle texts) ps
  named-pieces [] h = tt
  named-pieces (p ∷ ps) (h, hs) = (named-piece p h, named-pieces ps hs)

  named-runs : (o : Option Runs) → IfSome o (λ (runs : Runs). AllByRecursion (PieceHas (IsIn shown)) runs.pieces)
      → All (HasStyle texts) (pieces_of o)
  named-runs None h = All-from_recursion (HasStyle texts) [] tt
  named-runs (Some runs) h = All-from_recursion (HasStyle texts) runs.pieces (named-pieces runs.pieces h)

  named-nodes : (nodes : List BoxNode) → AllByRecursion (NodeHas (IsIn shown)) nodes → list_any has_long_run nodes ≡ false
      → AllByRecursion (IsNamed texts) nodes
  named-nodes [] h few = tt
  named-nodes (node ∷ nodes) (h, hs) few = go (has_long_run node) refl few (named-nodes nodes hs)
    where
      go : (b : Bool) → has_long_run node ≡ b → (b || list_any has_long_run nodes) ≡ false
          → (list_any has_long_run nodes ≡ false → AllByRecursion (IsNamed texts) nodes)
          → IsNamed texts node × AllByRecursion (IsNamed texts) nodes
      go true e few more = absurd cc
      go false e few more =
          let count = not-above most (length (pieces_of node.runs)) e in (
            record {
              element = at-each (λ k. k < length texts) shown below node.element h.element;
              pieces = named-runs node.runs h.pieces;
              few = omega (arith, count);
            },
            more few,
          )

pub all-named : BoxesNameShown → (entries : List (Option NodeStyle)) (tree : Forest) (boxes : BoxTree) (texts : List RunStyle)
    → AreBoxesOf entries tree boxes → length texts ≡ length entries → list_any has_long_run boxes.nodes ≡ false
    → All (IsNamed texts) boxes.nodes
all-named names entries tree boxes texts h long few =
    let styles = styles_in entries in
    let shown = shown_from styles 0 tree in
    let nodes = box_nodes None 0 (document_boxes entries tree) in
    let same-nodes = ap (λ (b : BoxTree). b.nodes) h.same in
    let count = tree-length None 0 tree in
    let entries-are = h.each in
    let below = weaker (0 + node_count tree) (length texts) shown (omega (arith, long, entries-are, count)) (shown-below styles 0 tree) in
    subst (All (IsNamed texts)) (sym same-nodes)
    (All-from_recursion (IsNamed texts) nodes
    (named-nodes texts shown below nodes (recursion_from_All (NodeHas (IsIn shown)) nodes (names styles tree))
    (subst (λ ns. list_any has_long_run ns ≡ false) same-nodes few)))
