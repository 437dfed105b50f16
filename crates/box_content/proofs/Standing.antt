-- Where the boxes of a tree stand in the list of all boxes.
use Rattle.std.proofs.Common.{◌≡◌, ℕ, suc, ◌+◌, List, [], ◌∷◌, ◌++◌, Some, refl, sym, ap, subst, ◌∙◌, length, append_assoc, arith}
use Rattle.std.specs.Prelude.{slice_get, if◌then◌else◌}
use Rattle.std.proofs.lemmas.List.{append-nil, length-append, length_push}
use Rattle.box_data.specs.declared.placed.Placed.{Placed}
use Rattle.box_data.specs.Widths.{is_bounded}
use Rattle.box_data.specs.declared.tree.BoxKind.{BoxKind}
use Rattle.box_data.specs.declared.tree.BoxKind.TheVariants.{Block, Anonymous, Container, ImageBlock}
use Rattle.box_data.specs.BoxTree.{Boxes, none, box, box_count, in_order}
use Rattle.box_data.specs.Content.{Content, done, leaf, image, holds, stack, or_void, lines_from, rows}

-- the boxes stand in the list from n on, in document order
abbrev pub StandIn : List Placed → ℕ → Boxes Placed → Type 0
StandIn places n none = Unit {0}
StandIn places n (box p kids next) = (slice_get places n ≡ Some p) × StandIn places (suc n) kids × StandIn places
    (suc n + box_count kids) next

pub slice_get_next : {A : Type 0} (front : List A) (a : A) (rest : List A) (n : ℕ) → n ≡ length front
    → slice_get (front ++ (a ∷ rest)) n ≡ Some a
slice_get_next [] a rest n e = ap (slice_get (a ∷ rest)) e
slice_get_next (b ∷ front) a rest n e = ap (slice_get (b ∷ (front ++ (a ∷ rest)))) e
    ∙ slice_get_next front a rest (length front) refl

pub count_is : {A : Type 0} (boxes : Boxes A) → length (in_order boxes) ≡ box_count boxes
count_is none = refl
count_is (box a kids next) =
    ap suc (length-append (in_order kids) (in_order next) ∙ ap (λ (n : ℕ). n + length (in_order next)) (count_is kids)
    ∙ ap (λ (n : ℕ). box_count kids + n) (count_is next))

regroup : (front kids next behind : List Placed) (p : Placed)
    → front ++ ((p ∷ (kids ++ next)) ++ behind) ≡ (front ++ p ∷ []) ++ (kids ++ (next ++ behind))
regroup front kids next behind p = simp append_assoc refl

regroup_next : (front kids next behind : List Placed) (p : Placed)
    → front ++ ((p ∷ (kids ++ next)) ++ behind) ≡ ((front ++ p ∷ []) ++ kids) ++ (next ++ behind)
regroup_next front kids next behind p = simp append_assoc refl

pub stands : (front behind : List Placed) (boxes : Boxes Placed) (n : ℕ) → n ≡ length front
    → StandIn (front ++ (in_order boxes ++ behind)) n boxes
stands front behind none n e = tt
stands front behind (box p kids next) n e =
    let longer : suc n ≡ length (front ++ p ∷ []) = omega (arith, length_push front p) in
    let longest : suc n + box_count kids ≡ length ((front ++ p ∷ []) ++ in_order kids) =
    omega (arith, length-append (front ++ p ∷ []) (in_order kids), count_is kids, longer) in (
      slice_get_next front p ((in_order kids ++ in_order next) ++ behind) n e,
      subst (λ (places : List Placed). StandIn places (suc n) kids) (sym (regroup front (in_order kids) (in_order next) behind p))
          (stands (front ++ p ∷ []) (in_order next ++ behind) kids (suc n) longer),
      subst (λ (places : List Placed). StandIn places (suc n + box_count kids) next)
          (sym (regroup_next front (in_order kids) (in_order next) behind p))
          (stands ((front ++ p ∷ []) ++ in_order kids) behind next (suc n + box_count kids) longest),
    )

-- all boxes stand in their own list
pub all_stand : (boxes : Boxes Placed) → StandIn (in_order boxes) 0 boxes
all_stand boxes =
    subst (λ (places : List Placed). StandIn places 0 boxes) (append-nil (in_order boxes)) (stands [] [] boxes 0 refl)

-- what stands in a box, by its kind
abbrev pub within_at : BoxKind → Placed → Content → Content
within_at kind p kids = elim kind as (λ k. Content) [
  | Block ↦ or_void p p.content_x (lines_from p 0 p.lines kids)
  | Anonymous ↦ or_void p p.content_x (lines_from p 0 p.lines kids)
  | Container ↦
      if is_bounded p then holds (stack p) (or_void p 0 (rows p 0 (lines_from p 0 p.lines kids))) done
      else or_void p p.content_x (rows p p.content_x (lines_from p 0 p.lines kids))
  | ImageBlock ↦ leaf (image p) done
]
