-- The lines of the boxes of a list are those of the boxes of its tree.
use Rattle.std.proofs.Common.{◌≡◌, ℕ, suc, ◌+◌, ◌<◌, List, [], ◌∷◌, ◌++◌, length, map, get_or, Option, Some, None, All, refl}
use Rattle.std.proofs.Common.{sym, ap, ap₂, subst, subst₂, ◌∙◌, arith, add-zero, length-append, append_assoc}
use Rattle.std.specs.Prelude.{slice_get}
use Rattle.std.specs.List.{AllByRecursion}
use Rattle.std.proofs.lemmas.List.{get_or_at, length-map}
use Rattle.std.proofs.lemmas.List.Elements.{All-from_recursion}
use Rattle.font_table.specs.declared.fonts.Face.{Face}
use Rattle.inline_text.specs.declared.content.Piece.{Piece}
use Rattle.inline_text.specs.declared.content.Piece.TheVariants.{Char, Image, Forced, Chance}
use Rattle.inline_text.specs.declared.content.RunStyle.{RunStyle}
use Rattle.line_breaker.specs.declared.line.Line.{Line}
use Rattle.line_breaker.specs.Lines.{AreLines}
use Rattle.box_data.specs.declared.placed.Placed.{Placed}
use Rattle.box_data.specs.declared.style.BoxStyle.{BoxStyle}
use Rattle.box_data.specs.declared.tree.BoxNode.{BoxNode}
use Rattle.box_data.specs.declared.tree.BoxKind.{BoxKind}
use Rattle.box_data.specs.declared.tree.BoxKind.TheVariants.{Block, Anonymous, Container, ImageBlock}
use Rattle.box_data.specs.BoxTree.{Boxes, none, box, Node, box_count, box_nodes, in_order, runs_of}
use Rattle.box_data.specs.Lines.{AreBoxLines, AreBroken, AreLinesOf}
use Rattle.box_data.specs.Widths.{Place, placed, placed_one, placed_from, place_in, outermost, sized, sizes_in, lines_at}
use Rattle.box_lines.specs.Sizes.{with_sizes, pieces_of}
use Rattle.box_lines.specs.Made.{AreLinesIn, AreThin, AreFew, HasLines, IsMade}

-- ---- one box

-- the images of a run have their own sizes
own_sizes : (styles : List BoxStyle) (whole : ℕ) (run : List Piece)
    → with_sizes (sizes_in (map (sized styles whole) run)) run ≡ map (sized styles whole) run
own_sizes styles whole [] = refl
own_sizes styles whole (Char ch style ∷ run) = ap (λ t. Char ch style ∷ t) (own_sizes styles whole run)
own_sizes styles whole (Image w h style ∷ run) = ap (λ t. sized styles whole (Image w h style) ∷ t) (own_sizes styles whole run)
own_sizes styles whole (Forced ∷ run) = ap (λ t. Forced ∷ t) (own_sizes styles whole run)
own_sizes styles whole (Chance ∷ run) = ap (λ t. Chance ∷ t) (own_sizes styles whole run)

-- a box of the tree, as one of the list
abbrev list_node : Option ℕ → Node → BoxNode
list_node parent node = record { parent = parent; element = node.element; kind = node.kind; runs = runs_of node.run }

abbrev run_at : Option (List Piece) → List Piece
run_at run = elim run as (λ r. List Piece) [ None ↦ [] | Some pieces ↦ pieces ]

run_again : (run : Option (List Piece)) → pieces_of (runs_of run) ≡ run_at run
run_again None = refl
run_again (Some run) = refl

used_again : (styles : List BoxStyle) (whole : ℕ) (run : Option (List Piece))
    → with_sizes (sizes_in (map (sized styles whole) (run_at run))) (pieces_of (runs_of run))
    ≡ map (sized styles whole) (run_at run)
used_again styles whole run =
    ap (with_sizes (sizes_in (map (sized styles whole) (run_at run)))) (run_again run) ∙ own_sizes styles whole (run_at run)

-- by its parts
one_by : (faces : List Face) (texts : List RunStyle) (styles : List BoxStyle) (all : List (List Line)) (parent : Option ℕ)
    (n : ℕ) (place : Place)
    (element : ℕ) (kind : BoxKind) (run : Option (List Piece)) (lines : List Line)
    → (let node : Node = record { element = element; kind = kind; run = run } in
    AreLinesIn faces texts (list_node parent node) (placed_one styles [] parent n node place) lines
    → AreBoxLines faces texts styles node (placed_one styles all parent n node place) lines)
one_by faces texts styles all parent n place element Block run lines h =
    let w = (placed_one styles [] parent n (record { element = element; kind = Block; run = run }) place).columns.w in
    let P : List Piece → Type 0 = λ pieces. AreLines (record { pieces = pieces; styles = texts }) faces w element 0 lines in
    subst P (used_again styles w run) h
one_by faces texts styles all parent n place element Anonymous run lines h =
    let w = (placed_one styles [] parent n (record { element = element; kind = Anonymous; run = run }) place).columns.w in
    let P : List Piece → Type 0 = λ pieces. AreLines (record { pieces = pieces; styles = texts }) faces w element 0 lines in
    subst P (used_again styles w run) h
one_by faces texts styles all parent n place element Container run lines h =
    let w = (placed_one styles [] parent n (record { element = element; kind = Container; run = run }) place).columns.w in
    let P : List Piece → Type 0 = λ pieces. AreLines (record { pieces = pieces; styles = texts }) faces w element 0 lines in
    subst P (used_again styles w run) h
one_by faces texts styles all parent n place element ImageBlock run lines h = h

-- ---- boxes one after another

-- these are the lines of the boxes of the lists, numbered from n
abbrev AreRight : List Face → List RunStyle → List (List Line) → (n : ℕ) → List BoxNode → List Placed → Type 0
AreRight faces texts all n [] places = Unit {0}
AreRight faces texts all n (node ∷ nodes) [] = Unit {0}
AreRight faces texts all n (node ∷ nodes) (p ∷ places) = AreLinesIn faces texts node p (lines_at all n)
    × AreRight faces texts all (suc n) nodes places

front : (faces : List Face) (texts : List RunStyle) (all : List (List Line)) (n : ℕ) (nodes more : List BoxNode)
    (places later : List Placed)
    → length nodes ≡ length places → AreRight faces texts all n (nodes ++ more) (places ++ later)
    → AreRight faces texts all n nodes places
front faces texts all n [] more places later e h = tt
front faces texts all n (node ∷ nodes) more [] later e h = tt
front faces texts all n (node ∷ nodes) more (p ∷ places) later e h =
    (h.0, front faces texts all (suc n) nodes more places later (omega (arith, e)) h.1)

back : (faces : List Face) (texts : List RunStyle) (all : List (List Line)) (n : ℕ) (nodes more : List BoxNode)
    (places later : List Placed)
    → length nodes ≡ length places → AreRight faces texts all n (nodes ++ more) (places ++ later)
    → AreRight faces texts all (n + length nodes) more later
back faces texts all n [] more [] later e h = let P : ℕ → Type 0 =
    λ m. AreRight faces texts all m more later in subst P (sym (add-zero n)) h
back faces texts all n [] more (p ∷ places) later e h = absurd (omega (arith, e))
back faces texts all n (node ∷ nodes) more [] later e h = absurd (omega (arith, e))
back faces texts all n (node ∷ nodes) more (p ∷ places) later e h =
    let P : ℕ → Type 0 = λ m. AreRight faces texts all m more later in
    let next : suc n + length nodes ≡ n + suc (length nodes) = omega arith in
    subst P next (back faces texts all (suc n) nodes more places later (omega (arith, e)) h.1)

-- a box with other lines
abbrev relined : List (List Line) → (n : ℕ) → List Placed → List Placed
relined all n [] = []
relined all n (p ∷ places) = record p { lines = lines_at all n } ∷ relined all (suc n) places

relined-append : (all : List (List Line)) (n : ℕ) (places later : List Placed)
    → relined all n (places ++ later) ≡ relined all n places ++ relined all (n + length places) later
relined-append all n [] later = ap (λ m. relined all m later) (sym (add-zero n))
relined-append all n (p ∷ places) later =
    let next : suc n + length places ≡ n + suc (length places) = omega arith in
    ap (λ t. record p { lines = lines_at all n } ∷ t)
    (relined-append all (suc n) places later ∙ ap (λ m. relined all (suc n) places ++ relined all m later) next)

-- ---- trees

node_count : (parent : Option ℕ) (n : ℕ) (tree : Boxes Node) → length (box_nodes parent n tree) ≡ box_count tree
node_count parent n none = refl
node_count parent n (box node kids next) =
    omega (
      arith,
      length-append (box_nodes (Some n) (suc n) kids) (box_nodes parent (suc n + box_count kids) next),
      node_count (Some n) (suc n) kids,
      node_count parent (suc n + box_count kids) next,
    )

place_count : (styles : List BoxStyle) (all : List (List Line)) (parent : Option ℕ) (n : ℕ) (place : Place) (tree : Boxes Node)
    → length (in_order (placed_from styles all parent n place tree)) ≡ box_count tree
place_count styles all parent n place none = refl
place_count styles all parent n place (box node kids next) =
    let p = placed_one styles all parent n node place in
    let made = in_order (placed_from styles all (Some n) (suc n) (place_in p place) kids) in
    let later = in_order (placed_from styles all parent (suc n + box_count kids) place next) in
    omega (
      arith,
      length-append made later,
      place_count styles all (Some n) (suc n) (place_in p place) kids,
      place_count styles all parent (suc n + box_count kids) place next,
    )

relined_tree : (styles : List BoxStyle) (all : List (List Line)) (parent : Option ℕ) (n : ℕ) (place : Place) (tree : Boxes Node)
    → relined all n (in_order (placed_from styles [] parent n place tree)) ≡ in_order (placed_from styles all parent n place tree)
relined_tree styles all parent n place none = refl
relined_tree styles all parent n place (box node kids next) =
    let p = placed_one styles [] parent n node place in
    let kids_placed = in_order (placed_from styles [] (Some n) (suc n) (place_in p place) kids) in
    let next_placed = in_order (placed_from styles [] parent (suc n + box_count kids) place next) in
    let count : suc n + length kids_placed ≡ suc n + box_count kids =
    ap (λ m. suc n + m) (place_count styles [] (Some n) (suc n) (place_in p place) kids) in
    ap (λ t. record p { lines = lines_at all n } ∷ t)
    (relined-append all (suc n) kids_placed next_placed
    ∙ ap (λ m. relined all (suc n) kids_placed ++ relined all m next_placed) count
    ∙ ap₂ (λ (s t : List Placed). s ++ t) (relined_tree styles all (Some n) (suc n) (place_in p place) kids)
    (relined_tree styles all parent (suc n + box_count kids) place next))

broken_tree : (faces : List Face) (texts : List RunStyle) (styles : List BoxStyle) (all : List (List Line))
    (parent : Option ℕ) (n : ℕ)
    (place : Place) (tree : Boxes Node)
    → AreRight faces texts all n (box_nodes parent n tree) (in_order (placed_from styles [] parent n place tree))
    → AreBroken faces texts styles all parent n place tree
broken_tree faces texts styles all parent n place none h = tt
broken_tree faces texts styles all parent n place (box node kids next) h =
    let p = placed_one styles [] parent n node place in
    let of_kids = box_nodes (Some n) (suc n) kids in
    let of_next = box_nodes parent (suc n + box_count kids) next in
    let kids_placed = in_order (placed_from styles [] (Some n) (suc n) (place_in p place) kids) in
    let next_placed = in_order (placed_from styles [] parent (suc n + box_count kids) place next) in
    let same : length of_kids ≡ length kids_placed =
    node_count (Some n) (suc n) kids ∙ sym (place_count styles [] (Some n) (suc n) (place_in p place) kids) in
    let count : suc n + length of_kids ≡ suc n + box_count kids = ap (λ m. suc n + m) (node_count (Some n) (suc n) kids) in
    let P : ℕ → Type 0 = λ m. AreRight faces texts all m of_next next_placed in (
      one_by faces texts styles all parent n place node.element node.kind node.run (lines_at all n) h.0,
      broken_tree faces texts styles all (Some n) (suc n) (place_in p place) kids
          (front faces texts all (suc n) of_kids of_next kids_placed next_placed same h.1),
      broken_tree faces texts styles all parent (suc n + box_count kids) place next
          (subst P count (back faces texts all (suc n) of_kids of_next kids_placed next_placed same h.1)),
    )

-- ---- the boxes that were made

-- each of these boxes was made from that of its number
abbrev AreMade : List Face → List RunStyle → List BoxNode → List Placed → List Placed → Type 0
AreMade faces texts [] places made = Unit {0}
AreMade faces texts (node ∷ nodes) [] made = Unit {0}
AreMade faces texts (node ∷ nodes) (p ∷ places) [] = Unit {0}
AreMade faces texts (node ∷ nodes) (p ∷ places) (q ∷ made) = HasLines faces texts node p q × AreMade faces texts nodes places made

by_number : (faces : List Face) (texts : List RunStyle) (nodes : List BoxNode) (places made : List Placed)
    → ((k : ℕ) (d : Placed) → k < length places → IsMade faces texts (slice_get nodes k) (get_or places k d) (get_or made k d))
    → AreMade faces texts nodes places made
by_number faces texts [] places made h = tt
by_number faces texts (node ∷ nodes) [] made h = tt
by_number faces texts (node ∷ nodes) (p ∷ places) [] h = tt
by_number faces texts (node ∷ nodes) (p ∷ places) (q ∷ made) h =
    (h 0 p (omega arith), by_number faces texts nodes places made (λ k d lt. h (suc k) d (omega (arith, lt))))

abbrev lines_of : List Placed → List (List Line)
lines_of made = map (λ (p : Placed). p.lines) made

at_front : (before : List (List Line)) (lines : List Line) (rest : List (List Line)) (n : ℕ) → length before ≡ n
    → lines_at (before ++ lines ∷ rest) n ≡ lines
at_front before lines rest n e = get_or_at before lines rest [] n e

-- what is so of the boxes made after these, of which there are n
right : (faces : List Face) (texts : List RunStyle) (before all : List (List Line)) (n : ℕ) (nodes : List BoxNode)
    (places made : List Placed)
    → length before ≡ n → length places ≡ length made → all ≡ before ++ lines_of made → AreMade faces texts nodes places made
    → AreRight faces texts all n nodes places
right faces texts before all n [] places made count same is h = tt
right faces texts before all n (node ∷ nodes) [] made count same is h = tt
right faces texts before all n (node ∷ nodes) (p ∷ places) [] count same is h = absurd (omega (arith, same))
right faces texts before all n (node ∷ nodes) (p ∷ places) (q ∷ made) count same is h =
    let here : lines_at all n ≡ q.lines = ap (λ ls. lines_at ls n) is ∙ at_front before q.lines (lines_of made) n count in
    let P : List Line → Type 0 = λ ls. AreLinesIn faces texts node p ls in (
      subst P (sym here) h.0.lines,
      right faces texts (before ++ q.lines ∷ []) all (suc n) nodes places made
          (omega (arith, length-append before (q.lines ∷ []), count))
          (omega (arith, same)) (is ∙ sym (append_assoc before (q.lines ∷ []) (lines_of made))) h.1,
    )

again : (faces : List Face) (texts : List RunStyle) (before all : List (List Line)) (n : ℕ) (nodes : List BoxNode)
    (places made : List Placed)
    → length before ≡ n → length places ≡ length made → length nodes ≡ length places → all ≡ before ++ lines_of made
    → AreMade faces texts nodes places made → made ≡ relined all n places
again faces texts before all n [] [] [] count same few is h = refl
again faces texts before all n nodes [] (q ∷ made) count same few is h = absurd (omega (arith, same))
again faces texts before all n nodes (p ∷ places) [] count same few is h = absurd (omega (arith, same))
again faces texts before all n (node ∷ nodes) [] made count same few is h = absurd (omega (arith, few))
again faces texts before all n [] (p ∷ places) (q ∷ made) count same few is h = absurd (omega (arith, few))
again faces texts before all n (node ∷ nodes) (p ∷ places) (q ∷ made) count same few is h =
    let here : lines_at all n ≡ q.lines = ap (λ ls. lines_at ls n) is ∙ at_front before q.lines (lines_of made) n count in
    let first : q ≡ record p { lines = lines_at all n } = h.0.same
    ∙ ap (λ (ls : List Line). record p { lines = ls }) (sym here) in
    ap₂ (λ (x : Placed) (t : List Placed). x ∷ t) first
    (again faces texts (before ++ q.lines ∷ []) all (suc n) nodes places made
    (omega (arith, length-append before (q.lines ∷ []), count))
    (omega (arith, same)) (omega (arith, few)) (is ∙ sym (append_assoc before (q.lines ∷ []) (lines_of made))) h.1)

-- what is so of the lines of each box that was made
of_each : (faces : List Face) (texts : List RunStyle) (P : List Line → Type 0)
    → ((node : BoxNode) (p q : Placed) → HasLines faces texts node p q → P q.lines)
    → (nodes : List BoxNode) (places made : List Placed)
    → length places ≡ length made → length nodes ≡ length places → AreMade faces texts nodes places made
    → AllByRecursion P (lines_of made)
of_each faces texts P one [] [] [] same few h = tt
of_each faces texts P one nodes [] (q ∷ made) same few h = absurd (omega (arith, same))
of_each faces texts P one nodes (p ∷ places) [] same few h = absurd (omega (arith, same))
of_each faces texts P one (node ∷ nodes) [] made same few h = absurd (omega (arith, few))
of_each faces texts P one [] (p ∷ places) (q ∷ made) same few h = absurd (omega (arith, few))
of_each faces texts P one (node ∷ nodes) (p ∷ places) (q ∷ made) same few h =
    (one node p q h.0, of_each faces texts P one nodes places made (omega (arith, same)) (omega (arith, few)) h.1)

pub record LinesOf (faces : List Face) (texts : List RunStyle) (styles : List BoxStyle) (width : ℕ) (tree : Boxes Node)
    (made : List Placed) : Type 0 where
  pub lines : List (List Line)
  pub are : AreLinesOf faces texts styles width tree lines
  pub made_is : made ≡ in_order (placed styles lines width tree)
  pub widths : All AreThin lines
  pub few : All AreFew lines

pub lines_of_tree : (faces : List Face) (texts : List RunStyle) (styles : List BoxStyle) (width : ℕ) (tree : Boxes Node)
    (nodes : List BoxNode) (places made : List Placed) → nodes ≡ box_nodes None 0 tree → places
    ≡ in_order (placed styles [] width tree)
    → length places ≡ length made
    → ((k : ℕ) (d : Placed) → k < length places → IsMade faces texts (slice_get nodes k) (get_or places k d) (get_or made k d))
    → LinesOf faces texts styles width tree made
lines_of_tree faces texts styles width tree nodes places made is_nodes are_places same h =
    let all = lines_of made in
    let each = by_number faces texts nodes places made h in
    let node_total : length nodes ≡ box_count tree = ap length is_nodes ∙ node_count None 0 tree in
    let place_total : length places ≡ box_count tree = ap length are_places
    ∙ place_count styles [] None 0 (outermost width) tree in
    let few : length nodes ≡ length places = node_total ∙ sym place_total in
    let all_right = right faces texts [] all 0 nodes places made refl same refl each in
    let R : List BoxNode → List Placed → Type 0 = λ ns ps. AreRight faces texts all 0 ns ps in
    record {
      lines = all;
      are = record {
        count = length-map made (λ (p : Placed). p.lines) ∙ sym same ∙ place_total;
        broken = broken_tree faces texts styles all None 0 (outermost width) tree (subst₂ R is_nodes are_places all_right);
      };
      made_is = again faces texts [] all 0 nodes places made refl same few refl each ∙ ap (relined all 0) are_places
          ∙ relined_tree styles all None 0 (outermost width) tree;
      widths = All-from_recursion AreThin all
          (of_each faces texts AreThin (λ node p q has. has.widths) nodes places made same few each);
      few = All-from_recursion AreFew all (of_each faces texts AreFew (λ node p q has. has.few) nodes places made same few each);
    }
