-- A document has one list of lines for each box.
use Rattle.std.proofs.Common.{◌≡◌, ℕ, suc, ◌+◌, ◌≤◌, ◌<◌, inl, inr, List, [], ◌∷◌, length, refl, sym, subst, ◌∙◌, Option, Some, None, arith}
use Rattle.std.proofs.lemmas.Bool.{cases_lt}
use Rattle.font_table.specs.declared.fonts.Face.{Face}
use Rattle.inline_text.specs.declared.content.RunStyle.{RunStyle}
use Rattle.inline_text.specs.declared.content.Runs.{Runs}
use Rattle.line_breaker.specs.declared.line.Line.{Line}
use Rattle.line_breaker.specs.Lines.{AreLines}
use Rattle.line_breaker.proofs.OneList.{one_list}
use Rattle.box_data.specs.declared.style.BoxStyle.{BoxStyle}
use Rattle.box_data.specs.declared.tree.BoxKind.{BoxKind as Kind}
use Rattle.box_data.specs.declared.tree.BoxKind.TheVariants.{Block as block_box, Anonymous as anonymous, Container as container, ImageBlock as image_block}
use Rattle.box_data.specs.BoxTree.{Boxes, none, box, box_count, Node}
use Rattle.box_data.specs.Widths.{Place, placed_one, place_in, outermost, lines_at}
use Rattle.box_data.specs.DocumentFlows.{lines_w}
use Rattle.box_data.specs.Lines.{used_run, AreBroken, AreLinesOf}

abbrev AreKindLines : Kind → Runs → List Face → (width strut : ℕ) → List Line → Type 0
AreKindLines kind runs faces width strut lines = elim kind as (λ k. Type 0) [
  | block_box ↦ AreLines runs faces width strut 0 lines
  | anonymous ↦ AreLines runs faces width strut 0 lines
  | container ↦ AreLines runs faces width strut 0 lines
  | image_block ↦ lines ≡ []
]

one_for_kind : (kind : Kind) (runs : Runs) (faces : List Face) (width strut : ℕ) (a b : List Line)
    → AreKindLines kind runs faces width strut a → AreKindLines kind runs faces width strut b → a ≡ b
one_for_kind block_box runs faces width strut a b x y = one_list runs faces width strut 0 a b x y
one_for_kind anonymous runs faces width strut a b x y = one_list runs faces width strut 0 a b x y
one_for_kind container runs faces width strut a b x y = one_list runs faces width strut 0 a b x y
one_for_kind image_block runs faces width strut a b x y = x ∙ sym y

module _ (faces : List Face) (texts : List RunStyle) (styles : List BoxStyle) (lines others : List (List Line)) where
  each_one : (parent : Option ℕ) (n : ℕ) (place : Place) (boxes : Boxes Node)
      → AreBroken faces texts styles lines parent n place boxes → AreBroken faces texts styles others parent n place boxes
      → (i : ℕ) → n ≤ i → i < n + box_count boxes → lines_at lines i ≡ lines_at others i
  each_one parent n place none x y i from to = let no : ⊥ = omega (arith, from, to) in absurd no
  each_one parent n place (box node kids next) (x, xs, xn) (y, ys, yn) i from to =
      let p = placed_one styles lines parent n node place in
      elim (cases_lt n i) [
        | inl more ↦ elim (cases_lt i (suc n + box_count kids)) [
          | inl inside ↦ each_one (Some n) (suc n) (place_in p place) kids xs ys i (omega (arith, more)) inside
          | inr after ↦ each_one parent (suc n + box_count kids) place next xn yn i after (omega (arith, to))
        ]
        | inr less ↦
            let same : n ≡ i = omega (arith, from, less) in
            subst (λ i. lines_at lines i ≡ lines_at others i) same
            (one_for_kind node.kind (record { pieces = used_run styles node p; styles = texts }) faces (lines_w p) p.element
            (lines_at lines n) (lines_at others n) x y)
      ]

lists_same : (xs ys : List (List Line)) → length xs ≡ length ys → ((k : ℕ) → k < length xs → lines_at xs k ≡ lines_at ys k) → xs ≡ ys
lists_same [] [] e at = refl
lists_same [] (y ∷ ys) e at = let no : ⊥ = omega (arith, e) in absurd no
lists_same (x ∷ xs) [] e at = let no : ⊥ = omega (arith, e) in absurd no
lists_same (x ∷ xs) (y ∷ ys) e at =
    let first : x ≡ y = at 0 (omega arith) in
    let rest = lists_same xs ys (omega (arith, e)) (λ k less. at (suc k) (omega (arith, less))) in
    λ i. first i ∷ rest i

pub one_lines : (faces : List Face) (texts : List RunStyle) (styles : List BoxStyle) (width : ℕ) (boxes : Boxes Node)
    (lines others : List (List Line)) → AreLinesOf faces texts styles width boxes lines
    → AreLinesOf faces texts styles width boxes others → lines ≡ others
one_lines faces texts styles width boxes lines others x y =
    lists_same lines others (x.count ∙ sym y.count)
    (λ k less. each_one faces texts styles lines others None 0 (outermost width) boxes x.broken y.broken k (omega arith)
    (let from : k < box_count boxes = subst (λ n. k < n) x.count less in omega (arith, from)))
