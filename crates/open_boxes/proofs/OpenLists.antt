-- A list of the open boxes, from the outermost inwards, that is kept edge by edge: at a head it becomes the boxes open at the
-- item after
-- it, at a tail those open across the seam.
use Rattle.std.proofs.Common.{◌≡◌, ℕ, ◌+◌, ◌-◌, ◌<◌, List, [], ◌∷◌, ◌++◌, length, take, fold, refl, sym, subst, ap, ◌∙◌, arith}
use Rattle.std.proofs.Common.{append_assoc, reverse}
use Rattle.std.specs.List.{flat_map}
use Rattle.std.proofs.lemmas.Grind.{flat_map-append}
use Rattle.std.proofs.lemmas.List.{append-nil, reverse-reverse, length_push, take_at, take_more}
use Rattle.flow_list.specs.Data.{Edge, Flow, FlowsData, Seam, Margin, Solid, Wall, Start, End}
use Rattle.flow_data.specs.Flows.{seam_of, no_seam, open_at}
use Rattle.flow_list.specs.ClonedEdges.{open_across}
use Rattle.flow_data.specs.Soundness.{IsSoundFlow}
use Rattle.open_boxes.specs.Opening.{opened_by}
use Rattle.open_boxes.proofs.Across.{after_edges, both, edges_to, across-after, at-after, reverse-first}

all-but-last : (outer : List ℕ) (i : ℕ) → take (length (reverse (i ∷ outer)) - 1) (reverse (i ∷ outer)) ≡ reverse outer
all-but-last outer i = subst (λ (xs : List ℕ). take (length xs - 1) xs ≡ reverse outer) (sym (reverse-first i outer))
    (take_at (reverse outer) (i ∷ []) (length (reverse outer ++ i ∷ []) - 1) (let n = length_push (reverse outer) i in
    omega arith))

steps-after : (es : List Edge) (boxes : List ℕ) → fold opened_by (reverse boxes) es ≡ reverse (after_edges boxes es)
steps-after [] boxes = refl
steps-after (Margin m ∷ es) boxes = steps-after es boxes
steps-after (Solid a ∷ es) boxes = steps-after es boxes
steps-after (Wall ∷ es) boxes = steps-after es boxes
steps-after (Start b ∷ es) boxes = ap (λ boxes. fold opened_by boxes es) (sym (reverse-first b boxes))
    ∙ steps-after es (b ∷ boxes)
steps-after (End b ∷ es) [] = steps-after es []
steps-after (End b ∷ es) (i ∷ outer) = ap (λ boxes. fold opened_by boxes es) (all-but-last outer i) ∙ steps-after es outer

after-append : (boxes : List ℕ) (es fs : List Edge) → after_edges boxes (es ++ fs) ≡ after_edges (after_edges boxes es) fs
after-append boxes [] fs = refl
after-append boxes (Margin m ∷ es) fs = after-append boxes es fs
after-append boxes (Solid a ∷ es) fs = after-append boxes es fs
after-append boxes (Wall ∷ es) fs = after-append boxes es fs
after-append boxes (Start b ∷ es) fs = after-append (b ∷ boxes) es fs
after-append [] (End b ∷ es) fs = after-append [] es fs
after-append (i ∷ outer) (End b ∷ es) fs = after-append outer es fs

steps-to : (boxes later : List ℕ) (es : List Edge) → after_edges (reverse boxes) es ≡ reverse later → fold opened_by boxes es
    ≡ later
steps-to boxes later es h =
    ap (λ xs. fold opened_by xs es) (sym (reverse-reverse boxes)) ∙ steps-after es (reverse boxes) ∙ ap reverse h
    ∙ reverse-reverse later

module _ (d : FlowsData) (f : Flow) (sound : IsSoundFlow d f) where
  pub after-head : (k : ℕ) → k < length f.seams → fold opened_by (open_across f k) (seam_of f k).head ≡ open_at f k
  after-head k lt = steps-to (open_across f k) (open_at f k) seam.head (ap (λ boxes. after_edges boxes seam.head)
      (sym (across-after d f sound k lt))
      ∙ sym (after-append (reverse f.opened) (edges_to d f sound k) seam.head) ∙ ap (after_edges (reverse f.opened)) whole
      ∙ at-after d f sound k)
    where
      seam : Seam
      seam = seam_of f k

      whole : edges_to d f sound k ++ (seam_of f k).head ≡ flat_map both (take (k + 1) f.seams)
      whole =
          append_assoc (flat_map both (take k f.seams)) (seam_of f k).tail (seam_of f k).head
          ∙ ap (λ es. flat_map both (take k f.seams) ++ es) (sym (append-nil ((seam_of f k).tail ++ (seam_of f k).head)))
          ∙ sym (flat_map-append both (take k f.seams) (seam_of f k ∷ []))
          ∙ ap (flat_map both) (sym (take_more f.seams k no_seam lt))

  pub after-tail : (k : ℕ) → k + 1 < length f.seams → fold opened_by (open_at f k) (seam_of f (k + 1)).tail
      ≡ open_across f (k + 1)
  after-tail k lt = steps-to (open_at f k) (open_across f (k + 1)) (seam_of f (k + 1)).tail
      (ap (λ boxes. after_edges boxes (seam_of f (k + 1)).tail) (sym (at-after d f sound k))
      ∙ sym (after-append (reverse f.opened) (flat_map both (take (k + 1) f.seams)) (seam_of f (k + 1)).tail)
      ∙ across-after d f sound (k + 1) lt)

  -- the list after the head before item k, and after the tail of the seam after it
  pub head-passed : (k : ℕ) → k < length f.items → (boxes later : List ℕ) (head : List Edge) → boxes ≡ open_across f k →
      head ≡ (seam_of f k).head → later ≡ fold opened_by boxes head → later ≡ open_at f k
  head-passed k lt boxes later head is whole passed =
      passed ∙ ap (fold opened_by boxes) whole ∙ ap (λ bs. fold opened_by bs (seam_of f k).head) is
      ∙ after-head k (let n = sound.seam_count in omega arith)

  pub tail-passed : (k : ℕ) → k < length f.items → (boxes later : List ℕ) (tail : List Edge) → boxes ≡ open_at f k →
      tail ≡ (seam_of f (k + 1)).tail → later ≡ fold opened_by boxes tail → later ≡ open_across f (k + 1)
  tail-passed k lt boxes later tail is whole passed =
      passed ∙ ap (fold opened_by boxes) whole ∙ ap (λ bs. fold opened_by bs (seam_of f (k + 1)).tail) is
      ∙ after-tail k (let n = sound.seam_count in omega arith)
