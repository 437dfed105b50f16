-- The boxes of a document name its shown elements.
use Rattle.std.proofs.Common.{◌≡◌, ℕ, suc, ◌+◌, ◌≤◌, ◌^◌, Bool, true, false, List, [], ◌∷◌, ◌++◌, map, refl, sym, ap, subst, ◌∙◌, inl, inr, ◌*◌, Option, Some, None, arith}
use Rattle.std.specs.Prelude.{not, if◌then◌else◌, codes}
use Rattle.std.specs.List.{AllByRecursion, list_any}
use Rattle.std.specs.Char.{is_ascii_digit}
use Rattle.std.proofs.lemmas.List.Elements.{All-from_recursion}
use Rattle.html_grammar.specs.declared.dom.Attribute.{Attribute}
use Rattle.html_grammar.specs.Names.{same}
use Rattle.html_grammar.specs.Tree.{Forest, Nil, Element, Words}
use Rattle.inline_text.specs.declared.content.Piece.{Piece}
use Rattle.inline_text.specs.declared.content.Piece.TheVariants as pieces
use Rattle.box_data.specs.declared.style.BoxStyle.{BoxStyle}
use Rattle.box_data.specs.declared.style.Display.{Display}
use Rattle.box_data.specs.declared.style.Display.TheVariants.{Hidden as hidden, Inline as inline, Block as block}
use Rattle.box_data.specs.declared.tree.BoxKind.{BoxKind as Kind}
use Rattle.box_data.specs.declared.tree.BoxKind.TheVariants.{Anonymous as anonymous}
use Rattle.box_data.specs.Styles.{style_of, texts_of, capped}
use Rattle.box_data.specs.BoxTree.{Boxes, none, box, box_count, Node, node_count, with_characters, is_shown, is_block, is_image, is_empty, whole_number, size_given, value_of, or_zero, image_piece, inline_pieces, front, run_of, has_blocks, makes_line, with_run, own_run, element_box, boxes_behind, boxes_of, shown_from, box_nodes, runs_of}
use Rattle.box_laws.specs.Laws.{PieceHas, NodeHas, IsIn, BoxesNameShown}
use Rattle.box_laws.proofs.Pieces.{all-append, front-of, rest-of, all-chars, run-has}

-- ---- sizes of images

given-small : (o : Option (List ℕ)) → or_zero (size_given o) ≤ 2 ^ 62
given-small None = omega arith
given-small (Some []) = omega arith
given-small (Some (digit ∷ digits)) = go (list_any (λ d. not (is_ascii_digit d)) (digit ∷ digits))
  where
    go : (b : Bool) → or_zero (if b then None else Some (capped (64 * whole_number (digit ∷ digits)))) ≤ 2 ^ 62
    go true = omega arith
    go false = omega arith

-- ---- a block-level element is shown

block-shown : (s : BoxStyle) → is_block s ≡ true → is_shown s ≡ true
block-shown s e = go (s.display) e
  where
    go : (d : Display) → (elim d as (λ d. Bool) [ hidden ↦ false | inline ↦ false | block ↦ true ]) ≡ true
        → (elim d as (λ d. Bool) [ hidden ↦ false | inline ↦ true | block ↦ true ]) ≡ true
    go hidden e = absurd cc
    go inline e = refl
    go block e = refl

-- ---- trees of boxes

abbrev RunHas : (ℕ → Type 0) → Option (List Piece) → Type 0
RunHas P None = Unit {0}
RunHas P (Some run) = AllByRecursion (PieceHas P) run

abbrev BoxHas : (ℕ → Type 0) → Boxes Node → Type 0
BoxHas P none = Unit {0}
BoxHas P (box node kids next) = P node.element × RunHas P node.run × BoxHas P kids × BoxHas P next

module _ (P : ℕ → Type 0) (styles : List BoxStyle) where
  abbrev Holds : (k : ℕ) → Forest → Type 0
  Holds k tree = AllByRecursion P (shown_from styles k tree)

  -- what a shown element has first, and what follows
  abbrev own-shown : (shown : Bool) (k : ℕ) (kids : Forest) → List ℕ
  own-shown shown k kids = if shown then k ∷ shown_from styles (suc k) kids else []

  this : (shown : Bool) (k : ℕ) (kids : Forest) → shown ≡ true → AllByRecursion P (own-shown shown k kids) → P k
  this true k kids e (h, hs) = h
  this false k kids e h = absurd cc

  inner : (shown : Bool) (k : ℕ) (kids : Forest) → shown ≡ true → AllByRecursion P (own-shown shown k kids) → Holds (suc k) kids
  inner true k kids e (h, hs) = hs
  inner false k kids e h = absurd cc

  -- ---- inline content

  pieces-have : (s : BoxStyle) (k : ℕ) (name : List ℕ) (attributes : List Attribute) (inside : List Piece)
      → (is_shown s ≡ true → P k) → (is_shown s ≡ true → AllByRecursion (PieceHas P) inside)
      → AllByRecursion (PieceHas P) (inline_pieces s k name attributes inside)
  pieces-have s k name attributes inside here within =
      go (is_shown s) (is_image name) (same name (codes "br")) (same name (codes "wbr")) here within
    where
      go : (shown image br wbr : Bool) → (shown ≡ true → P k) → (shown ≡ true → AllByRecursion (PieceHas P) inside)
          → AllByRecursion (PieceHas P)
          (if not shown then [] else if image then image_piece k attributes ∷ [] else if br then pieces.Forced ∷ [] else
          if wbr then pieces.Chance ∷ [] else inside)
      go false image br wbr here within = tt
      go true true br wbr here within =
          ((here refl, given-small (value_of (codes "width") attributes), given-small (value_of (codes "height") attributes)), tt)
      go true false true wbr here within = (tt, tt)
      go true false false true here within = (tt, tt)
      go true false false false here within = within refl

  front-has : (parent k : ℕ) (tree : Forest) → P parent → Holds k tree → AllByRecursion (PieceHas P) (front styles parent k tree)
  front-has parent k Nil up h = tt
  front-has parent k (Words at text next) up h =
      all-append (PieceHas P) (map (λ ch. pieces.Char ch parent) text) (front styles parent (suc k) next)
      (all-chars P parent up text) (front-has parent (suc k) next up h)
  front-has parent k (Element at name attributes kids next) up h =
      let s = style_of styles k in
      let own = front-of P (own-shown (is_shown s) k kids) (shown_from styles (suc k + node_count kids) next) h in
      let after = rest-of P (own-shown (is_shown s) k kids) (shown_from styles (suc k + node_count kids) next) h in
      go (is_block s)
      (pieces-have s k name attributes (front styles k (suc k) kids) (λ e. this (is_shown s) k kids e own)
      (λ e. front-has k (suc k) kids (this (is_shown s) k kids e own) (inner (is_shown s) k kids e own)))
      (front-has parent (suc k + node_count kids) next up after)
    where
      go : (b : Bool) → AllByRecursion (PieceHas P) (inline_pieces (style_of styles k) k name attributes (front styles k (suc k) kids))
          → AllByRecursion (PieceHas P) (front styles parent (suc k + node_count kids) next)
          → AllByRecursion (PieceHas P) (if b then [] else
          (inline_pieces (style_of styles k) k name attributes (front styles k (suc k) kids) ++ front styles parent (suc k + node_count kids) next))
      go true a b = tt
      go false a b = all-append (PieceHas P) (inline_pieces (style_of styles k) k name attributes (front styles k (suc k) kids))
          (front styles parent (suc k + node_count kids) next) a b

  -- ---- boxes

  with-run-has : (parent : ℕ) (run : List Piece) (boxes : Boxes Node) → P parent → AllByRecursion (PieceHas P) run → BoxHas P boxes
      → BoxHas P (with_run parent run boxes)
  with-run-has parent run boxes up run-is h = go (makes_line run)
    where
      go : (b : Bool) → BoxHas P (if b then box (record { element = parent; kind = anonymous; run = Some run }) none boxes else boxes)
      go true = (up, run-is, tt, h)
      go false = h

  own-run-has : (k : ℕ) (name : List ℕ) (attributes : List Attribute) (kids : Forest) → P k → Holds (suc k) kids
      → RunHas P (own_run styles k name attributes kids)
  own-run-has k name attributes kids here within = go (is_image name) (is_empty name) (has_blocks styles (suc k) kids)
    where
      go : (image empty blocks : Bool) → RunHas P (if image then Some (image_piece k attributes ∷ []) else if empty then None else
          if blocks then None else Some (run_of styles (front styles k (suc k) kids)))
      go true empty blocks =
          ((here, given-small (value_of (codes "width") attributes), given-small (value_of (codes "height") attributes)), tt)
      go false true blocks = tt
      go false false true = tt
      go false false false = run-has P (texts_of styles) [] (front styles k (suc k) kids) (front-has k (suc k) kids here within)

  element-has : (k : ℕ) (name : List ℕ) (attributes : List Attribute) (kids : Forest) (inside next : Boxes Node) → P k → Holds (suc k) kids
      → BoxHas P inside → BoxHas P next → BoxHas P (element_box styles k name attributes kids inside next)
  element-has k name attributes kids inside next here within in-has next-has =
      (here, own-run-has k name attributes kids here within, go (is_empty name) (has_blocks styles (suc k) kids), next-has)
    where
      go : (empty blocks : Bool) → BoxHas P (if empty then none else if blocks then
          with_run k (run_of styles (front styles k (suc k) kids)) inside else none)
      go true blocks = tt
      go false true = with-run-has k (run_of styles (front styles k (suc k) kids)) inside here
          (run-has P (texts_of styles) [] (front styles k (suc k) kids) (front-has k (suc k) kids here within)) in-has
      go false false = tt

  boxes-have : (parent k : ℕ) (tree : Forest) → P parent → Holds k tree → BoxHas P (boxes_behind styles parent k tree)
  boxes-have parent k Nil up h = tt
  boxes-have parent k (Words at text next) up h = boxes-have parent (suc k) next up h
  boxes-have parent k (Element at name attributes kids next) up h =
      let s = style_of styles k in
      let own = front-of P (own-shown (is_shown s) k kids) (shown_from styles (suc k + node_count kids) next) h in
      let after = rest-of P (own-shown (is_shown s) k kids) (shown_from styles (suc k + node_count kids) next) h in
      let more = boxes-have parent (suc k + node_count kids) next up after in
      go (is_block s) (λ e. this (is_shown s) k kids (block-shown s e) own) (λ e. inner (is_shown s) k kids (block-shown s e) own)
      (λ e. boxes-have k (suc k) kids (this (is_shown s) k kids (block-shown s e) own) (inner (is_shown s) k kids (block-shown s e) own))
      (with-run-has parent (run_of styles (front styles parent (suc k + node_count kids) next))
      (boxes_behind styles parent (suc k + node_count kids) next) up
      (run-has P (texts_of styles) [] (front styles parent (suc k + node_count kids) next)
      (front-has parent (suc k + node_count kids) next up after)) more)
      more
    where
      go : (b : Bool) → (b ≡ true → P k) → (b ≡ true → Holds (suc k) kids) → (b ≡ true → BoxHas P (boxes_behind styles k (suc k) kids))
          → BoxHas P (with_run parent (run_of styles (front styles parent (suc k + node_count kids) next))
          (boxes_behind styles parent (suc k + node_count kids) next))
          → BoxHas P (boxes_behind styles parent (suc k + node_count kids) next)
          → BoxHas P (if b then element_box styles k name attributes kids (boxes_behind styles k (suc k) kids)
          (with_run parent (run_of styles (front styles parent (suc k + node_count kids) next))
          (boxes_behind styles parent (suc k + node_count kids) next)) else boxes_behind styles parent (suc k + node_count kids) next)
      go true here within kids-have run-first more =
          element-has k name attributes kids (boxes_behind styles k (suc k) kids) _ (here refl) (within refl) (kids-have refl) run-first
      go false here within kids-have run-first more = more

  all-have : (tree : Forest) → Holds 0 tree → BoxHas P (boxes_of styles tree)
  all-have Nil h = tt
  all-have (Words at text next) h = tt
  all-have (Element at name attributes kids next) h =
      let s = style_of styles 0 in
      let own = front-of P (own-shown (is_shown s) 0 kids) (shown_from styles (1 + node_count kids) next) h in
      go (is_shown s) (λ e. this (is_shown s) 0 kids e own) (λ e. inner (is_shown s) 0 kids e own)
    where
      go : (b : Bool) → (b ≡ true → P 0) → (b ≡ true → Holds 1 kids)
          → BoxHas P (if b then element_box styles 0 name attributes kids (boxes_behind styles 0 1 kids) none else none)
      go true here within = element-has 0 name attributes kids (boxes_behind styles 0 1 kids) none (here refl) (within refl)
          (boxes-have 0 1 kids (here refl) (within refl)) tt
      go false here within = tt

  -- ---- the list of boxes

  run-list : (run : Option (List Piece)) (parent : Option ℕ) (element : ℕ) (kind : Kind) → P element → RunHas P run
      → NodeHas P (record { parent = parent; element = element; kind = kind; runs = runs_of run })
  run-list None parent element kind here h = record { element = here; pieces = tt }
  run-list (Some run) parent element kind here h = record { element = here; pieces = h }

  nodes-have : (parent : Option ℕ) (n : ℕ) (boxes : Boxes Node) → BoxHas P boxes → AllByRecursion (NodeHas P) (box_nodes parent n boxes)
  nodes-have parent n none h = tt
  nodes-have parent n (box node kids next) (here, run, kids-have, next-has) = (
    run-list node.run parent node.element node.kind here run,
    all-append (NodeHas P) (box_nodes (Some n) (suc n) kids) (box_nodes parent (suc n + box_count kids) next)
        (nodes-have (Some n) (suc n) kids kids-have) (nodes-have parent (suc n + box_count kids) next next-has),
  )

-- ---- texts as characters change nothing of what is shown

same-count : (tree : Forest) → node_count (with_characters tree) ≡ node_count tree
same-count Nil = refl
same-count (Element at name attributes kids next) = λ i. suc (same-count kids i + same-count next i)
same-count (Words at text next) = ap suc (same-count next)

same-shown : (styles : List BoxStyle) (k : ℕ) (tree : Forest) → shown_from styles k (with_characters tree) ≡ shown_from styles k tree
same-shown styles k Nil = refl
same-shown styles k (Words at text next) = same-shown styles (suc k) next
same-shown styles k (Element at name attributes kids next) =
    let count = same-count kids in
    let after : shown_from styles (suc k + node_count (with_characters kids)) (with_characters next)
    ≡ shown_from styles (suc k + node_count kids) next =
    (λ i. shown_from styles (suc k + count i) (with_characters next)) ∙ same-shown styles (suc k + node_count kids) next in
    λ i. (if is_shown (style_of styles k) then k ∷ same-shown styles (suc k) kids i else []) ++ after i

-- each of a list's numbers is in it
later : (xs ys : List ℕ) → AllByRecursion (IsIn xs) ys → (x : ℕ) → AllByRecursion (IsIn (x ∷ xs)) ys
later xs [] h x = tt
later xs (y ∷ ys) (h, hs) x = (inr h, later xs ys hs x)

all-in : (xs : List ℕ) → AllByRecursion (IsIn xs) xs
all-in [] = tt
all-in (x ∷ xs) = (inl refl, later xs xs (all-in xs) x)

pub boxes_name_shown : BoxesNameShown
boxes_name_shown styles tree =
    let shown = shown_from styles 0 tree in
    All-from_recursion (NodeHas (IsIn shown)) (box_nodes None 0 (boxes_of styles (with_characters tree)))
    (nodes-have (IsIn shown) styles None 0 (boxes_of styles (with_characters tree))
    (all-have (IsIn shown) styles (with_characters tree)
    (subst (AllByRecursion (IsIn shown)) (sym (same-shown styles 0 tree)) (all-in shown))))

-- what holds of each number in a list
pub at-each : (P : ℕ → Type 0) (xs : List ℕ) → AllByRecursion P xs → (k : ℕ) → IsIn xs k → P k
at-each P [] h k is = absurd is
at-each P (x ∷ xs) (h, hs) k (inl e) = subst P (sym e) h
at-each P (x ∷ xs) (h, hs) k (inr is) = at-each P xs hs k is
