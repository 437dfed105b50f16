-- What the parts, rows and boxes of a content name stands in the list of places if what the content names does.
use Rattle.std.proofs.Common.{◌≡◌, ℕ, suc, ◌+◌, Bool, true, false, List, [], ◌∷◌, ◌++◌, Option, Some, refl, sym, ap, subst, ◌∙◌}
use Rattle.std.proofs.Common.{drop, length, append_assoc, arith}
use Rattle.std.specs.Prelude.{reverse, slice_get, if◌then◌else◌, not}
use Rattle.std.specs.List.{AllByRecursion}
use Rattle.std.proofs.lemmas.List.{reverse-append, length_push}
use Rattle.line_breaker.specs.declared.line.Line.{Line}
use Rattle.box_data.specs.declared.placed.Placed.{Placed}
use Rattle.box_data.specs.Widths.{is_bounded}
use Rattle.box_data.specs.declared.tree.BoxKind.{BoxKind}
use Rattle.box_data.specs.declared.tree.BoxKind.TheVariants.{Block, Anonymous, Container, ImageBlock}
use Rattle.box_data.specs.BoxTree.{Boxes, none, box, box_count}
use Rattle.box_data.specs.Content.{stack, row, Content, done, opens, closes, leaf, holds, spanner}
use Rattle.box_data.specs.Content.{before, is_done, or_void, part, led, has_spanner, row_of_part, spanners, rows, lines_from}
use Rattle.box_data.specs.Content.{within, framed, content_of}
use Rattle.box_data.specs.Bounds.{AreParented, IsNumbered, AreNumbered}
use Rattle.box_content.proofs.Standing.{StandIn, slice_get_next, within_at}

pub numbered-before : (places : List Placed) (a b : Content) → AreNumbered places a → AreNumbered places b
    → AreNumbered places (before a b)
numbered-before places done b h k = k
numbered-before places (opens p next) b h k = (h.0, numbered-before places next b h.1 k)
numbered-before places (closes p next) b h k = (h.0, numbered-before places next b h.1 k)
numbered-before places (leaf l next) b h k = (h.0, numbered-before places next b h.1 k)
numbered-before places (holds i inside next) b h k = (h.0, h.1, numbered-before places next b h.2 k)
numbered-before places (spanner inside next) b h k = (h.0, numbered-before places next b h.1 k)

numbered-or_void : (places : List Placed) (p : Placed) (x : ℕ) (c : Content) → IsNumbered places p → AreNumbered places c
    → AreNumbered places (or_void p x c)
numbered-or_void places p x done is h = (is, tt)
numbered-or_void places p x (opens q next) is h = h
numbered-or_void places p x (closes q next) is h = h
numbered-or_void places p x (leaf l next) is h = h
numbered-or_void places p x (holds i inside next) is h = h
numbered-or_void places p x (spanner inside next) is h = h

-- ---- parts

numbered-part : (places : List Placed) (c : Content) → AreNumbered places c → AreNumbered places (part c)
numbered-part places done h = tt
numbered-part places (opens p next) h = (
  h.0,
  numbered-or_void places p p.content_x (part next) h.0
      (numbered-part places next h.1),
)
numbered-part places (closes p next) h = (h.0, numbered-part places next h.1)
numbered-part places (leaf l next) h = (h.0, numbered-part places next h.1)
numbered-part places (holds i inside next) h = (h.0, h.1, numbered-part places next h.2)
numbered-part places (spanner inside next) h = tt

numbered-led : (places : List Placed) (c : Content) → AreNumbered places c → AreNumbered places (led c)
numbered-led places done h = h
numbered-led places (opens p next) h = h
numbered-led places (closes p next) h = (h.0, h)
numbered-led places (leaf l next) h = h
numbered-led places (holds i inside next) h = h
numbered-led places (spanner inside next) h = h

-- ---- rows

abbrev AllNumbered : List Placed → List Placed → Type 0
AllNumbered places boxes = AllByRecursion (IsNumbered places) boxes

all_more : (places boxes : List Placed) (p : Placed) → AllNumbered places boxes → IsNumbered places p
    → AllNumbered places (boxes ++ p ∷ [])
all_more places [] p h is = (is, tt)
all_more places (q ∷ boxes) p h is = (h.0, all_more places boxes p h.1 is)

all_reverse : (places boxes : List Placed) → AllNumbered places boxes → AllNumbered places (reverse boxes)
all_reverse places [] h = tt
all_reverse places (p ∷ boxes) h =
    subst (AllNumbered places) (sym (reverse-append (p ∷ []) boxes))
    (all_more places (reverse boxes) p (all_reverse places boxes h.1) h.0)

all_less : (places boxes : List Placed) → AllNumbered places boxes → AllNumbered places (drop 1 boxes)
all_less places [] h = tt
all_less places (p ∷ boxes) h = h.1

row_or_none : (places : List Placed) (b : Bool) (a_row more : Content) → AreNumbered places a_row → AreNumbered places more
    → AreNumbered places (if b then more else a_row)
row_or_none places true a_row more h k = k
row_or_none places false a_row more h k = h

numbered-row : (places : List Placed) (c : Placed) (x : ℕ) (still_open : List Placed) (content more : Content)
    → IsNumbered places c
    → AllNumbered places still_open → AreNumbered places content → AreNumbered places more
    → AreNumbered places (row_of_part c x still_open content more)
numbered-row places c x still_open content more is all h k =
    row_or_none places (is_done (part content)) (holds (row c x (not (has_spanner content)) (reverse still_open))
    (led (part content)) more) more
    ((is, all_reverse places still_open all), numbered-led places (part content) (numbered-part places content h), k) k

numbered-spanners : (places : List Placed) (c : Placed) (x : ℕ) (still_open : List Placed) (content : Content)
    → IsNumbered places c
    → AllNumbered places still_open → AreNumbered places content → AreNumbered places (spanners c x still_open content)
numbered-spanners places c x still_open done is all h = tt
numbered-spanners places c x still_open (opens p next) is all h = numbered-spanners places c x (p ∷ still_open) next is
    (h.0, all) h.1
numbered-spanners places c x still_open (closes p next) is all h = numbered-spanners places c x (drop 1 still_open) next is
    (all_less places still_open all) h.1
numbered-spanners places c x still_open (leaf l next) is all h = numbered-spanners places c x still_open next is all h.1
numbered-spanners places c x still_open (holds i inside next) is all h = numbered-spanners places c x still_open next is all h.2
numbered-spanners places c x still_open (spanner inside next) is all h =
    numbered-before places inside (row_of_part c x still_open next (spanners c x still_open next)) h.0
    (numbered-row places c x still_open next (spanners c x still_open next) is all h.1
    (numbered-spanners places c x still_open next is all h.1))

numbered-rows : (places : List Placed) (c : Placed) (x : ℕ) (content : Content) → IsNumbered places c → AreNumbered places content
    → AreNumbered places (rows c x content)
numbered-rows places c x content is h =
    numbered-row places c x [] content (spanners c x [] content) is tt h (numbered-spanners places c x [] content is tt h)

-- ---- boxes

lines_numbered : (places : List Placed) (p : Placed) (front ls : List Line) (more : Content) → IsNumbered places p
    → p.lines ≡ front ++ ls
    → (n : ℕ) → n ≡ length front → AreNumbered places more → AreNumbered places (lines_from p n ls more)
lines_numbered places p front [] more is e n at h = h
lines_numbered places p front (l ∷ ls) more is e n at h = (
  (is, ap (λ (all : List Line). slice_get all n) e ∙ slice_get_next front l ls n at),
  lines_numbered places p (front ++ l ∷ []) ls more is (e ∙ sym (append_assoc front (l ∷ []) ls)) (suc n)
      (omega (arith, length_push front l)) h,
)

pub numbered-lines : (places : List Placed) (p : Placed) (more : Content) → IsNumbered places p → AreNumbered places more
    → AreNumbered places (lines_from p 0 p.lines more)
numbered-lines places p more is h = lines_numbered places p [] p.lines more is refl 0 refl h

stack_or_rows : (places : List Placed) (b : Bool) (p : Placed) (inside : Content) → IsNumbered places p
    → AreNumbered places inside
    → AreNumbered places (if b then holds (stack p) (or_void p 0 (rows p 0 inside)) done else or_void p p.content_x
    (rows p p.content_x inside))
stack_or_rows places true p inside is h = (
  is,
  numbered-or_void places p 0 (rows p 0 inside) is
      (numbered-rows places p 0 inside is h),
  tt,
)
stack_or_rows places false p inside is h = numbered-or_void places p p.content_x (rows p p.content_x inside) is
    (numbered-rows places p p.content_x inside is h)

numbered-within : (places : List Placed) (k : BoxKind) (p : Placed) (kids : Content) → IsNumbered places p
    → AreNumbered places kids
    → AreNumbered places (within_at k p kids)
numbered-within places Block p kids is h = numbered-or_void places p p.content_x (lines_from p 0 p.lines kids) is
    (numbered-lines places p kids is h)
numbered-within places Anonymous p kids is h = numbered-or_void places p p.content_x (lines_from p 0 p.lines kids) is
    (numbered-lines places p kids is h)
numbered-within places Container p kids is h = stack_or_rows places (is_bounded p) p (lines_from p 0 p.lines kids) is
    (numbered-lines places p kids is h)
numbered-within places ImageBlock p kids is h = (is, tt)

numbered-framed : (places : List Placed) (p : Placed) (inside next : Content) → IsNumbered places p
    → AreNumbered places inside → AreNumbered places next
    → AreNumbered places (framed p inside next)
numbered-framed places p inside next is h k = (is, numbered-before places inside (closes p next) h (is, k))

spanner_or_not : (places : List Placed) (b : Bool) (p : Placed) (inside next : Content) → IsNumbered places p
    → AreNumbered places inside → AreNumbered places next
    → AreNumbered places (if b then spanner (framed p inside done) next else framed p inside next)
spanner_or_not places true p inside next is h k = (numbered-framed places p inside done is h tt, k)
spanner_or_not places false p inside next is h k = numbered-framed places p inside next is h k

-- the content of boxes that stand in the list by their numbers
pub content_numbered : (places : List Placed) (parent : Option ℕ) (n : ℕ) (boxes : Boxes Placed) → AreParented parent n boxes
    → StandIn places n boxes
    → AreNumbered places (content_of boxes)
content_numbered places parent n none h k = tt
content_numbered places parent n (box p kids next) h k =
    let is : IsNumbered places p = ap (slice_get places) h.0 ∙ k.0 in
    spanner_or_not places p.spans p (within p (content_of kids)) (content_of next) is
    (numbered-within places p.kind p (content_of kids) is (content_numbered places (Some n) (suc n) kids h.2 k.1))
    (content_numbered places parent (suc n + box_count kids) next h.3 k.2)
