-- What holds of each box of a document holds of each box that its content names, and each line stands by its number in its box.
use Rattle.std.proofs.Common.{◌≡◌, ℕ, zero, suc, List, [], ◌∷◌, Bool, true, false, not, Some, refl}
use Rattle.std.specs.Prelude.{reverse, drop, slice_get, if◌then◌else◌}
use Rattle.std.specs.List.{AllByRecursion}
use Rattle.box_data.specs.declared.tree.BoxKind.{BoxKind as Kind}
use Rattle.box_data.specs.declared.tree.BoxKind.TheVariants.{Block as block_box, Anonymous as anonymous, Container as container}
use Rattle.box_data.specs.declared.tree.BoxKind.TheVariants.{ImageBlock as image_block}
use Rattle.box_data.specs.BoxTree.{Boxes, none, box}
use Rattle.box_data.specs.declared.placed.Placed.{Placed}
use Rattle.box_data.specs.Widths.{is_bounded}
use Rattle.line_breaker.specs.declared.line.Line.{Line}
use Rattle.box_data.specs.Content.{Leaf, line, image, void, Holder, stack, row, Content, done, opens, closes, leaf, holds}
use Rattle.box_data.specs.Content.{spanner, before, is_done, or_void, part, led, has_spanner, row_of_part, spanners, rows}
use Rattle.box_data.specs.Content.{lines_from, within, framed, content_of}
use Rattle.flow_data.proofs.Dropped.{behind_first}
use Rattle.doc_laws.proofs.Lists.{all_reverse, all_drop}

abbrev pub InLeaf : (Placed → Type 0) → Leaf → Type 0
InLeaf P (line p index size) = P p × (slice_get p.lines index ≡ Some size)
InLeaf P (image p) = P p
InLeaf P (void p x) = P p

abbrev pub InHolder : (Placed → Type 0) → Holder → Type 0
InHolder P (stack p) = P p
InHolder P (row p x is_last opened) = P p × AllByRecursion P opened

abbrev pub Everywhere : (Placed → Type 0) → Content → Type 0
Everywhere P done = Unit {0}
Everywhere P (opens p next) = P p × Everywhere P next
Everywhere P (closes p next) = P p × Everywhere P next
Everywhere P (leaf l next) = InLeaf P l × Everywhere P next
Everywhere P (holds h inside next) = InHolder P h × Everywhere P inside × Everywhere P next
Everywhere P (spanner inside next) = Everywhere P inside × Everywhere P next

abbrev pub Each : (Placed → Type 0) → Boxes Placed → Type 0
Each P none = Unit {0}
Each P (box p kids next) = P p × Each P kids × Each P next

in_before : (P : Placed → Type 0) (c more : Content) → Everywhere P c → Everywhere P more → Everywhere P (before c more)
in_before P done more h k = k
in_before P (opens p next) more h k = (h.0, in_before P next more h.1 k)
in_before P (closes p next) more h k = (h.0, in_before P next more h.1 k)
in_before P (leaf l next) more h k = (h.0, in_before P next more h.1 k)
in_before P (holds i inside next) more h k = (h.0, h.1, in_before P next more h.2 k)
in_before P (spanner inside next) more h k = (h.0, in_before P next more h.1 k)

in_or_void : (P : Placed → Type 0) (p : Placed) (x : ℕ) (c : Content) → P p → Everywhere P c → Everywhere P (or_void p x c)
in_or_void P p x c is h = go (is_done c)
  where
    go : (v : Bool) → Everywhere P (if v then leaf (void p x) done else c)
    go true = (is, tt)
    go false = h

in_led : (P : Placed → Type 0) (c : Content) → Everywhere P c → Everywhere P (led c)
in_led P done h = h
in_led P (opens p next) h = h
in_led P (closes p next) h = (h.0, h)
in_led P (leaf l next) h = h
in_led P (holds i inside next) h = h
in_led P (spanner inside next) h = h

in_part : (P : Placed → Type 0) (c : Content) → Everywhere P c → Everywhere P (part c)
in_part P done h = tt
in_part P (opens p next) h = (h.0, in_or_void P p p.content_x (part next) h.0 (in_part P next h.1))
in_part P (closes p next) h = (h.0, in_part P next h.1)
in_part P (leaf l next) h = (h.0, in_part P next h.1)
in_part P (holds i inside next) h = (h.0, h.1, in_part P next h.2)
in_part P (spanner inside next) h = tt

in_row : (P : Placed → Type 0) (k : Placed) (x : ℕ) (at : List Placed) (c more : Content) → P k → AllByRecursion P at
    → Everywhere P c → Everywhere P more → Everywhere P (row_of_part k x at c more)
in_row P k x at c more is known h g = go (is_done (part c))
  where
    go : (v : Bool) → Everywhere P (if v then more else holds (row k x (not (has_spanner c)) (reverse at)) (led (part c)) more)
    go true = g
    go false = ((is, all_reverse P at known), in_led P (part c) (in_part P c h), g)

in_spanners : (P : Placed → Type 0) (k : Placed) (x : ℕ) (at : List Placed) (c : Content) → P k → AllByRecursion P at
    → Everywhere P c → Everywhere P (spanners k x at c)
in_spanners P k x at done is known h = tt
in_spanners P k x at (opens p next) is known h = in_spanners P k x (p ∷ at) next is (h.0, known) h.1
in_spanners P k x at (closes p next) is known h = in_spanners P k x (drop 1 at) next is (all_drop P at known) h.1
in_spanners P k x at (leaf l next) is known h = in_spanners P k x at next is known h.1
in_spanners P k x at (holds i inside next) is known h = in_spanners P k x at next is known h.2
in_spanners P k x at (spanner inside next) is known h = in_before P inside (row_of_part k x at next (spanners k x at next)) h.0
    (in_row P k x at next (spanners k x at next) is known h.1 (in_spanners P k x at next is known h.1))

in_rows : (P : Placed → Type 0) (k : Placed) (x : ℕ) (c : Content) → P k → Everywhere P c → Everywhere P (rows k x c)
in_rows P k x c is h = in_row P k x [] c (spanners k x [] c) is tt h (in_spanners P k x [] c is tt h)

pub line_at : {X : Type 0} (xs ys : List X) (k : ℕ) (x : X) → drop k xs ≡ x ∷ ys → slice_get xs k ≡ Some x
line_at {X} [] ys zero x e = absurd cc
line_at {X} [] ys (suc k) x e = absurd cc
line_at {X} (y ∷ xs) ys zero x e = cc
line_at {X} (y ∷ xs) ys (suc k) x e = line_at xs ys k x e

in_lines : (P : Placed → Type 0) (p : Placed) (index : ℕ) (ls : List Line) (more : Content) → P p → drop index p.lines ≡ ls
    → Everywhere P more → Everywhere P (lines_from p index ls more)
in_lines P p index [] more is at h = h
in_lines P p index (l ∷ ls) more is at h =
    ((is, line_at p.lines ls index l at), in_lines P p (suc index) ls more is (behind_first p.lines ls index l at) h)

in_within : (P : Placed → Type 0) (p : Placed) (kids : Content) → P p → Everywhere P kids → Everywhere P (within p kids)
in_within P p kids is h = go p.kind
  where
    lines : Everywhere P (lines_from p 0 p.lines kids)
    lines = in_lines P p 0 p.lines kids is refl h

    bounded : (v : Bool) → Everywhere P (if v then holds (stack p) (or_void p 0 (rows p 0 (lines_from p 0 p.lines kids))) done
        else or_void p p.content_x (rows p p.content_x (lines_from p 0 p.lines kids)))
    bounded true = (
      is,
      in_or_void P p 0 (rows p 0 (lines_from p 0 p.lines kids)) is
          (in_rows P p 0 (lines_from p 0 p.lines kids) is lines),
      tt,
    )
    bounded false = in_or_void P p p.content_x (rows p p.content_x (lines_from p 0 p.lines kids)) is
        (in_rows P p p.content_x (lines_from p 0 p.lines kids) is lines)

    go : (k : Kind) → Everywhere P (elim k as (λ k. Content) [
      | block_box ↦ or_void p p.content_x (lines_from p 0 p.lines kids)
      | anonymous ↦ or_void p p.content_x (lines_from p 0 p.lines kids)
      | container ↦
          if is_bounded p then holds (stack p) (or_void p 0 (rows p 0 (lines_from p 0 p.lines kids))) done
          else or_void p p.content_x (rows p p.content_x (lines_from p 0 p.lines kids))
      | image_block ↦ leaf (image p) done
    ])
    go block_box = in_or_void P p p.content_x (lines_from p 0 p.lines kids) is lines
    go anonymous = in_or_void P p p.content_x (lines_from p 0 p.lines kids) is lines
    go container = bounded (is_bounded p)
    go image_block = (is, tt)

pub in_content : (P : Placed → Type 0) (boxes : Boxes Placed) → Each P boxes → Everywhere P (content_of boxes)
in_content P none h = tt
in_content P (box p kids next) h = go p.spans (in_within P p (content_of kids) h.0 (in_content P kids h.1))
    (in_content P next h.2)
  where
    go : (v : Bool) → Everywhere P (within p (content_of kids)) → Everywhere P (content_of next)
        → Everywhere P (if v then spanner (framed p (within p (content_of kids)) done) (content_of next)
        else framed p (within p (content_of kids)) (content_of next))
    go true inside rest = ((h.0, in_before P (within p (content_of kids)) (closes p done) inside (h.0, tt)), rest)
    go false inside rest = (h.0, in_before P (within p (content_of kids)) (closes p (content_of next)) inside (h.0, rest))
