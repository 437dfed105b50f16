-- How the content of a flow goes: each box closes as the innermost open one, and not directly after its own start.
use Rattle.std.proofs.Common.{◌≡◌, ℕ, suc, List, [], ◌∷◌, Bool, true, false, not, refl, sym, ap, subst, ◌⊎◌, inl, inr}
use Rattle.std.specs.Prelude.{reverse, drop, if◌then◌else◌}
use Rattle.std.proofs.lemmas.List.{reverse-reverse}
use Rattle.box_data.specs.declared.tree.BoxKind.{BoxKind as Kind}
use Rattle.box_data.specs.declared.tree.BoxKind.TheVariants.{Block as block_box, Anonymous as anonymous, Container as container}
use Rattle.box_data.specs.declared.tree.BoxKind.TheVariants.{ImageBlock as image_block}
use Rattle.box_data.specs.BoxTree.{Boxes, none, box}
use Rattle.box_data.specs.declared.placed.Placed.{Placed}
use Rattle.box_data.specs.Widths.{is_bounded}
use Rattle.line_breaker.specs.declared.line.Line.{Line}
use Rattle.box_data.specs.Content.{image, void, stack, row, Content, done, opens, closes, leaf, holds, spanner, before, is_done}
use Rattle.box_data.specs.Content.{or_void, part, led, has_spanner, row_of_part, spanners, rows, lines_from, within, framed}
use Rattle.box_data.specs.Content.{content_of}
use Rattle.box_data.specs.DocumentFlows.{opened_in}

-- From these open boxes, the innermost first, to those; `fresh` says that no item follows the last start yet. Spanners stand in
-- it
-- where `spans`.
abbrev pub Goes : (spans fresh : Bool) → (from to : List Placed) → Content → Type 0
Goes spans fresh from to done = (fresh ≡ false) × (from ≡ to)
Goes spans fresh from to (opens p next) = Goes spans true (p ∷ from) to next
Goes spans fresh from to (closes p next) = (fresh ≡ false) × (outer : List Placed) × (from ≡ p ∷ outer)
    × Goes spans false outer to next
Goes spans fresh from to (leaf l next) = Goes spans false from to next
Goes spans fresh from to (holds h inside next) =
    ((end : List Placed) × Goes false true (reverse (opened_in h)) end inside) × Goes spans false from to next
Goes spans fresh from to (spanner inside next) = (spans ≡ true) × ((at : List Placed) → Goes false true at at inside)
    × Goes spans false from to next

-- it begins with no end of a box, and leaves open what was
abbrev pub Fills : Bool → Content → Type 0
Fills spans c = (at : List Placed) → Goes spans true at at c

-- the same where nothing is there
abbrev pub MayFill : Bool → Content → Type 0
MayFill spans c = (c ≡ done) ⊎ Fills spans c

-- ---- one after the other

goes_before : (spans fresh : Bool) (from mid to : List Placed) (c more : Content) → Goes spans fresh from mid c
    → Goes spans false mid to more → Goes spans fresh from to (before c more)
goes_before spans fresh from mid to done more h k = subst (λ (f : Bool). Goes spans f from to more) (sym h.0)
    (subst (λ (o : List Placed). Goes spans false o to more) (sym h.1) k)
goes_before spans fresh from mid to (opens p next) more h k = goes_before spans true (p ∷ from) mid to next more h k
goes_before spans fresh from mid to (closes p next) more h k = (h.0, h.1, h.2, goes_before spans false h.1 mid to next more h.3 k)
goes_before spans fresh from mid to (leaf l next) more h k = goes_before spans false from mid to next more h k
goes_before spans fresh from mid to (holds i inside next) more h k = (h.0, goes_before spans false from mid to next more h.1 k)
goes_before spans fresh from mid to (spanner inside next) more h k =
    (h.0, h.1, goes_before spans false from mid to next more h.2 k)

-- what may stand directly after a start may stand elsewhere
goes_later : (spans : Bool) (from to : List Placed) (c : Content) → Goes spans true from to c → Goes spans false from to c
goes_later spans from to done h = (refl, h.1)
goes_later spans from to (opens p next) h = h
goes_later spans from to (closes p next) h = (refl, h.1, h.2, h.3)
goes_later spans from to (leaf l next) h = h
goes_later spans from to (holds i inside next) h = h
goes_later spans from to (spanner inside next) h = h

fills_before : (spans : Bool) (c more : Content) → Fills spans c → MayFill spans more → Fills spans (before c more)
fills_before spans c more h (inl same) = λ at. goes_before spans true at at at c more (h at)
    (subst (λ (m : Content). Goes spans false at at m) (sym same) (refl, refl))
fills_before spans c more h (inr k) = λ at. goes_before spans true at at at c more (h at) (goes_later spans at at more (k at))

may_before : (spans : Bool) (c more : Content) → MayFill spans c → MayFill spans more → MayFill spans (before c more)
may_before spans c more (inl same) k = subst (λ (x : Content). MayFill spans (before x more)) (sym same) k
may_before spans c more (inr h) k = inr (fills_before spans c more h k)

-- ---- voids

is-done : (c : Content) → is_done c ≡ true → c ≡ done
is-done done e = refl
is-done (opens p next) e = absurd cc
is-done (closes p next) e = absurd cc
is-done (leaf l next) e = absurd cc
is-done (holds h inside next) e = absurd cc
is-done (spanner inside next) e = absurd cc

not-done : (c : Content) → is_done c ≡ false → c ≡ done → ⊥
not-done c e same = let d : is_done c ≡ true = ap (λ (x : Content). is_done x) same in absurd cc

fills_or_void : (spans : Bool) (p : Placed) (x : ℕ) (c : Content) → MayFill spans c → Fills spans (or_void p x c)
fills_or_void spans p x c h = go (is_done c) refl h
  where
    go : (v : Bool) → is_done c ≡ v → MayFill spans c → Fills spans (if v then leaf (void p x) done else c)
    go true e k = λ at. (refl, refl)
    go false e (inl same) = absurd (not-done c e same)
    go false e (inr k) = k

-- ---- parts

part_goes : (fresh : Bool) (from to : List Placed) (c : Content) → Goes true fresh from to c
    → (part c ≡ done) ⊎ ((end : List Placed) × Goes false fresh from end (part c))
part_goes fresh from to done h = inl refl
part_goes fresh from to (opens p next) h = inr (go (is_done (part next)) refl (part_goes true (p ∷ from) to next h))
  where
    go : (v : Bool) → is_done (part next) ≡ v → (part next ≡ done)
        ⊎ ((end : List Placed) × Goes false true (p ∷ from) end (part next))
        → (end : List Placed) × Goes false true (p ∷ from) end (if v then leaf (void p p.content_x) done else part next)
    go true e k = (p ∷ from, (refl, refl))
    go false e (inl same) = absurd (not-done (part next) e same)
    go false e (inr k) = k
part_goes fresh from to (closes p next) h = inr (go (part_goes false h.1 to next h.3))
  where
    go : (part next ≡ done) ⊎ ((end : List Placed) × Goes false false h.1 end (part next))
        → (end : List Placed) × Goes false fresh from end (closes p (part next))
    go (inl same) = (h.1, (h.0, h.1, h.2, subst (λ (x : Content). Goes false false h.1 h.1 x) (sym same) (refl, refl)))
    go (inr k) = (k.0, (h.0, h.1, h.2, k.1))
part_goes fresh from to (leaf l next) h = inr (go (part_goes false from to next h))
  where
    go : (part next ≡ done) ⊎ ((end : List Placed) × Goes false false from end (part next))
        → (end : List Placed) × Goes false fresh from end (leaf l (part next))
    go (inl same) = (from, subst (λ (x : Content). Goes false false from from x) (sym same) (refl, refl))
    go (inr k) = k
part_goes fresh from to (holds i inside next) h = inr (go (part_goes false from to next h.1))
  where
    go : (part next ≡ done) ⊎ ((end : List Placed) × Goes false false from end (part next))
        → (end : List Placed) × Goes false fresh from end (holds i inside (part next))
    go (inl same) = (from, (h.0, subst (λ (x : Content). Goes false false from from x) (sym same) (refl, refl)))
    go (inr k) = (k.0, (h.0, k.1))
part_goes fresh from to (spanner inside next) h = inl refl

led_goes : (from to : List Placed) (c : Content) → is_done c ≡ false → Goes false false from to c
    → Goes false true from to (led c)
led_goes from to done e h = absurd cc
led_goes from to (opens p next) e h = h
led_goes from to (closes p next) e h = h
led_goes from to (leaf l next) e h = h
led_goes from to (holds i inside next) e h = h
led_goes from to (spanner inside next) e h = absurd (let no = h.0 in cc)

-- the part from here on, whatever came before
part_fresh : (fresh : Bool) (from to : List Placed) (c : Content) → is_done (part c) ≡ false → Goes true fresh from to c
    → (end : List Placed) × Goes false true from end (led (part c))
part_fresh fresh from to c e h = go fresh (part_goes fresh from to c h)
  where
    go : (f : Bool) → (part c ≡ done) ⊎ ((end : List Placed) × Goes false f from end (part c))
        → (end : List Placed) × Goes false true from end (led (part c))
    go f (inl same) = absurd (not-done (part c) e same)
    go true (inr k) = (k.0, led_goes from k.0 (part c) e (goes_later false from k.0 (part c) k.1))
    go false (inr k) = (k.0, led_goes from k.0 (part c) e k.1)

row_fills : (c : Placed) (x : ℕ) (fresh : Bool) (from to : List Placed) (content more : Content) → Goes true fresh from to content
    → MayFill false more → MayFill false (row_of_part c x from content more)
row_fills c x fresh from to content more h k = go (is_done (part content)) refl
  where
    rest : (at : List Placed) → MayFill false more → Goes false false at at more
    rest at (inl same) = subst (λ (m : Content). Goes false false at at m) (sym same) (refl, refl)
    rest at (inr f) = goes_later false at at more (f at)

    go : (v : Bool) → is_done (part content) ≡ v → MayFill false (if v then more
        else holds (row c x (not (has_spanner content)) (reverse from)) (led (part content)) more)
    go true e = k
    go false e = inr (λ at. (
      subst (λ (o : List Placed). (end : List Placed) × Goes false true o end (led (part content)))
          (sym (reverse-reverse from)) (part_fresh fresh from to content e h),
      rest at k,
    ))

spanners_fill : (c : Placed) (x : ℕ) (fresh : Bool) (from to : List Placed) (content : Content) → Goes true fresh from to content
    → MayFill false (spanners c x from content)
spanners_fill c x fresh from to done h = inl refl
spanners_fill c x fresh from to (opens p next) h = spanners_fill c x true (p ∷ from) to next h
spanners_fill c x fresh from to (closes p next) h =
    subst (λ (o : List Placed). MayFill false (spanners c x (drop 1 o) next)) (sym h.2) (spanners_fill c x false h.1 to next h.3)
spanners_fill c x fresh from to (leaf l next) h = spanners_fill c x false from to next h
spanners_fill c x fresh from to (holds i inside next) h = spanners_fill c x false from to next h.1
spanners_fill c x fresh from to (spanner inside next) h =
    inr (fills_before false inside (row_of_part c x from next (spanners c x from next)) h.1
    (row_fills c x false from to next (spanners c x from next) h.2 (spanners_fill c x false from to next h.2)))

pub rows_fill : (c : Placed) (x : ℕ) (content : Content) → MayFill true content → MayFill false (rows c x content)
rows_fill c x content (inl same) = inl (subst (λ (m : Content). rows c x m ≡ done) (sym same) refl)
rows_fill c x content (inr h) = row_fills c x true [] [] content (spanners c x [] content) (h [])
    (spanners_fill c x true [] [] content (h []))

-- ---- boxes

pub lines_fill : (spans : Bool) (p : Placed) (index : ℕ) (sizes : List Line) (more : Content) → MayFill spans more
    → MayFill spans (lines_from p index sizes more)
lines_fill spans p index [] more h = h
lines_fill spans p index (size ∷ sizes) more h = inr (λ at. go at (lines_fill spans p (suc index) sizes more h))
  where
    go : (at : List Placed) → MayFill spans (lines_from p (suc index) sizes more)
        → Goes spans false at at (lines_from p (suc index) sizes more)
    go at (inl same) = subst (λ (m : Content). Goes spans false at at m) (sym same) (refl, refl)
    go at (inr f) = goes_later spans at at (lines_from p (suc index) sizes more) (f at)

-- what stands where no spanner may stand may stand where one may
allowed : (fresh : Bool) (from to : List Placed) (c : Content) → Goes false fresh from to c → Goes true fresh from to c
allowed fresh from to done h = h
allowed fresh from to (opens p next) h = allowed true (p ∷ from) to next h
allowed fresh from to (closes p next) h = (h.0, h.1, h.2, allowed false h.1 to next h.3)
allowed fresh from to (leaf l next) h = allowed false from to next h
allowed fresh from to (holds i inside next) h = (h.0, allowed false from to next h.1)
allowed fresh from to (spanner inside next) h = absurd (let no = h.0 in cc)

spans_fill : (spans : Bool) (c : Content) → Fills false c → Fills spans c
spans_fill true c h = λ at. allowed true at at c (h at)
spans_fill false c h = h

-- where boxes stand that may span columns, or not
abbrev pub inner_spans : Placed → (spans : Bool) → Bool
inner_spans p spans = elim (p.kind) as (λ k. Bool) [
  | block_box ↦ if p.spans then false else spans
  | anonymous ↦ if p.spans then false else spans
  | container ↦ true
  | image_block ↦ if p.spans then false else spans
]

-- a box spans columns only in a container, and in no box that spans them itself
abbrev pub SpansFit : (spans : Bool) → Boxes Placed → Type 0
SpansFit spans none = Unit {0}
SpansFit spans (box p kids next) = (p.spans ≡ true → spans ≡ true) × SpansFit (inner_spans p spans) kids × SpansFit spans next

block_spans : Placed → Bool → Bool
block_spans p spans = if p.spans then false else spans

within_fills : (p : Placed) (spans : Bool) (kids : Content) → MayFill (inner_spans p spans) kids
    → Fills (if p.spans then false else spans) (within p kids)
within_fills p spans kids h = go p.kind h
  where
    go : (k : Kind) → MayFill (elim k as (λ k. Bool) [
      | block_box ↦ if p.spans then false else spans
      | anonymous ↦ if p.spans
          then false else spans
      | container ↦ true
      | image_block ↦ if p.spans then false else spans
    ]) kids
        → Fills (if p.spans then false else spans) (elim k as (λ k. Content) [
          | block_box ↦ or_void p p.content_x (lines_from p 0 p.lines kids)
          | anonymous ↦ or_void p p.content_x (lines_from p 0 p.lines kids)
          | container ↦
              if is_bounded p then holds (stack p) (or_void p 0 (rows p 0 (lines_from p 0 p.lines kids))) done
              else or_void p p.content_x (rows p p.content_x (lines_from p 0 p.lines kids))
          | image_block ↦ leaf (image p) done
        ])
    go block_box k = fills_or_void (if p.spans then false else spans) p p.content_x (lines_from p 0 p.lines kids)
        (lines_fill (if p.spans then false else spans) p 0 p.lines kids k)
    go anonymous k = fills_or_void (if p.spans then false else spans) p p.content_x (lines_from p 0 p.lines kids)
        (lines_fill (if p.spans then false else spans) p 0 p.lines kids k)
    go container k = bounded (is_bounded p)
      where
        whole : (x : ℕ) → MayFill false (rows p x (lines_from p 0 p.lines kids))
        whole x = rows_fill p x (lines_from p 0 p.lines kids) (lines_fill true p 0 p.lines kids k)

        bounded : (v : Bool) → Fills (if p.spans then false else spans) (if v
            then holds (stack p) (or_void p 0 (rows p 0 (lines_from p 0 p.lines kids))) done
            else or_void p p.content_x (rows p p.content_x (lines_from p 0 p.lines kids)))
        bounded true = λ at. (([], fills_or_void false p 0 (rows p 0 (lines_from p 0 p.lines kids)) (whole 0) []), (refl, refl))
        bounded false = spans_fill (if p.spans then false else spans)
            (or_void p p.content_x (rows p p.content_x (lines_from p 0 p.lines kids)))
            (fills_or_void false p p.content_x (rows p p.content_x (lines_from p 0 p.lines kids)) (whole p.content_x))
    go image_block k = λ at. (refl, refl)

framed_fills : (spans : Bool) (p : Placed) (inside next : Content) → Fills spans inside → MayFill spans next
    → Fills spans (framed p inside next)
framed_fills spans p inside next h k = λ at. goes_before spans true (p ∷ at) (p ∷ at) at inside (closes p next) (h (p ∷ at))
    (refl, at, refl, rest at k)
  where
    rest : (at : List Placed) → MayFill spans next → Goes spans false at at next
    rest at (inl same) = subst (λ (m : Content). Goes spans false at at m) (sym same) (refl, refl)
    rest at (inr f) = goes_later spans at at next (f at)

pub content_fills : (spans : Bool) (boxes : Boxes Placed) → SpansFit spans boxes → MayFill spans (content_of boxes)
content_fills spans none fit = inl refl
content_fills spans (box p kids next) fit =
    inr (go p.spans fit.0 (within_fills p spans (content_of kids) (content_fills (inner_spans p spans) kids fit.1))
    (content_fills spans next fit.2))
  where
    rest : (at : List Placed) → MayFill spans (content_of next) → Goes spans false at at (content_of next)
    rest at (inl same) = subst (λ (m : Content). Goes spans false at at m) (sym same) (refl, refl)
    rest at (inr f) = goes_later spans at at (content_of next) (f at)

    go : (v : Bool) → (v ≡ true → spans ≡ true) → Fills (if v then false else spans) (within p (content_of kids))
        → MayFill spans (content_of next)
        → Fills spans (if v then spanner (framed p (within p (content_of kids)) done) (content_of next)
        else framed p (within p (content_of kids)) (content_of next))
    go true only h behind = λ at. (only refl, framed_fills false p (within p (content_of kids)) done h (inl refl), rest at behind)
    go false only h behind = framed_fills spans p (within p (content_of kids)) (content_of next) h behind
