-- The boxes of a document's flows start in the order of their numbers, each once.
use Rattle.std.proofs.Common.{◌≡◌, ℕ, suc, ◌+◌, ◌<◌, ◌≤◌, List, [], ◌∷◌, Bool, true, false, not, refl, sym, subst, arith}
use Rattle.std.specs.Prelude.{reverse, drop, if◌then◌else◌}
use Rattle.std.proofs.lemmas.List.{reverse-reverse}
use Rattle.box_data.specs.declared.tree.BoxKind.{BoxKind as Kind}
use Rattle.box_data.specs.declared.tree.BoxKind.TheVariants.{Block as block_box, Anonymous as anonymous, Container as container}
use Rattle.box_data.specs.declared.tree.BoxKind.TheVariants.{ImageBlock as image_block}
use Rattle.box_data.specs.BoxTree.{Boxes, none, box, box_count}
use Rattle.box_data.specs.declared.placed.Placed.{Placed}
use Rattle.box_data.specs.Widths.{is_bounded}
use Rattle.line_breaker.specs.declared.line.Line.{Line}
use Rattle.box_data.specs.Content.{image, stack, row, Content, done, opens, closes, leaf, holds, spanner, before, is_done}
use Rattle.box_data.specs.Content.{or_void, part, led, has_spanner, row_of_part, spanners, rows, lines_from, within, framed}
use Rattle.box_data.specs.Content.{content_of}
use Rattle.box_data.specs.DocumentFlows.{opened_in}

-- these numbers fall, from below high on
abbrev pub Falls : ℕ → List Placed → Type 0
Falls high [] = Unit {0}
Falls high (p ∷ ps) = (p.number < high) × Falls p.number ps

pub falls_below : (high higher : ℕ) (ps : List Placed) → high ≤ higher → Falls high ps → Falls higher ps
falls_below high higher [] le h = tt
falls_below high higher (p ∷ ps) le h = let lt = h.0 in (omega arith, h.1)

falls_drop : (high : ℕ) (ps : List Placed) → Falls high ps → Falls high (drop 1 ps)
falls_drop high [] h = tt
falls_drop high (p ∷ ps) h = let lt = h.0 in falls_below p.number high ps (omega arith) h.1

-- Where the boxes below low have started, those from low on start here, up to high: each in one flow, and after those that are
-- open
-- where that flow begins.
abbrev pub Rises : (low high : ℕ) → Content → Type 0
Rises low high done = low ≡ high
Rises low high (opens p next) = (p.number ≡ low) × Rises (suc low) high next
Rises low high (closes p next) = Rises low high next
Rises low high (leaf l next) = Rises low high next
Rises low high (holds h inside next) = (mid : ℕ) × Falls low (reverse (opened_in h)) × Rises low mid inside × Rises mid high next
Rises low high (spanner inside next) = (mid : ℕ) × Rises low mid inside × Rises mid high next

rises_before : (low mid high : ℕ) (c more : Content) → Rises low mid c → Rises mid high more → Rises low high (before c more)
rises_before low mid high done more h k = subst (λ (n : ℕ). Rises n high more) (sym h) k
rises_before low mid high (opens p next) more h k = (h.0, rises_before (suc low) mid high next more h.1 k)
rises_before low mid high (closes p next) more h k = rises_before low mid high next more h k
rises_before low mid high (leaf l next) more h k = rises_before low mid high next more h k
rises_before low mid high (holds i inside next) more h k = (h.0, h.1, h.2, rises_before h.0 mid high next more h.3 k)
rises_before low mid high (spanner inside next) more h k = (h.0, h.1, rises_before h.0 mid high next more h.2 k)

rises_or_void : (low high : ℕ) (p : Placed) (x : ℕ) (c : Content) → Rises low high c → Rises low high (or_void p x c)
rises_or_void low high p x done h = h
rises_or_void low high p x (opens q next) h = h
rises_or_void low high p x (closes q next) h = h
rises_or_void low high p x (leaf l next) h = h
rises_or_void low high p x (holds i inside next) h = h
rises_or_void low high p x (spanner inside next) h = h

rises_led : (low high : ℕ) (c : Content) → Rises low high c → Rises low high (led c)
rises_led low high done h = h
rises_led low high (opens q next) h = h
rises_led low high (closes q next) h = h
rises_led low high (leaf l next) h = h
rises_led low high (holds i inside next) h = h
rises_led low high (spanner inside next) h = h

rises_done : (low high : ℕ) (c : Content) → is_done c ≡ true → Rises low high c → low ≡ high
rises_done low high done e h = h
rises_done low high (opens q next) e h = absurd cc
rises_done low high (closes q next) e h = absurd cc
rises_done low high (leaf l next) e h = absurd cc
rises_done low high (holds i inside next) e h = absurd cc
rises_done low high (spanner inside next) e h = absurd cc

pub rises_up : (low high : ℕ) (c : Content) → Rises low high c → low ≤ high
rises_up low high done h = omega arith
rises_up low high (opens q next) h = let up = rises_up (suc low) high next h.1 in omega arith
rises_up low high (closes q next) h = rises_up low high next h
rises_up low high (leaf l next) h = rises_up low high next h
rises_up low high (holds i inside next) h = let first = rises_up low h.0 inside h.2 in let rest = rises_up h.0 high next h.3 in
    omega arith
rises_up low high (spanner inside next) h = let first = rises_up low h.0 inside h.1 in let rest = rises_up h.0 high next h.2 in
    omega arith

-- a part, and what stands after it

row_rises : (k : Placed) (x : ℕ) (at : List Placed) (low high : ℕ) (c : Content) → Falls low at
    → (mid : ℕ) × Rises low mid (part c) × Rises mid high (spanners k x at c)
    → Rises low high (row_of_part k x at c (spanners k x at c))
row_rises k x at low high c falls s = go (is_done (part c)) refl
  where
    go : (v : Bool) → is_done (part c) ≡ v → Rises low high (if v then spanners k x at c
        else holds (row k x (not (has_spanner c)) (reverse at)) (led (part c)) (spanners k x at c))
    go true e = subst (λ (n : ℕ). Rises n high (spanners k x at c)) (sym (rises_done low s.0 (part c) e s.1)) s.2
    go false e = (
      s.0,
      subst (λ (ps : List Placed). Falls low ps) (sym (reverse-reverse at)) falls,
      rises_led low s.0 (part c) s.1,
      s.2,
    )

split_rises : (k : Placed) (x : ℕ) (at : List Placed) (low high : ℕ) (c : Content) → Falls low at → Rises low high c
    → (mid : ℕ) × Rises low mid (part c) × Rises mid high (spanners k x at c)
split_rises k x at low high done falls h = (low, refl, h)
split_rises k x at low high (opens p next) falls h =
    let lt : p.number < suc low = (let e = h.0 in omega arith) in
    let s = split_rises k x (p ∷ at) (suc low) high next (
      lt,
      falls_below low p.number at (let e = h.0 in
          omega arith) falls,
    ) h.1 in
    (s.0, (h.0, rises_or_void (suc low) s.0 p p.content_x (part next) s.1), s.2)
split_rises k x at low high (closes p next) falls h = split_rises k x (drop 1 at) low high next (falls_drop low at falls) h
split_rises k x at low high (leaf l next) falls h = split_rises k x at low high next falls h
split_rises k x at low high (holds i inside next) falls h =
    let s = split_rises k x at h.0 high next (falls_below low h.0 at (rises_up low h.0 inside h.2) falls) h.3 in
    (s.0, (h.0, h.1, h.2, s.1), s.2)
split_rises k x at low high (spanner inside next) falls h =
    let lower = falls_below low h.0 at (rises_up low h.0 inside h.1) falls in (
      low,
      refl,
      rises_before low h.0 high inside (row_of_part k x at next (spanners k x at next)) h.1
          (row_rises k x at h.0 high next lower (split_rises k x at h.0 high next lower h.2)),
    )

rows_rise : (k : Placed) (x : ℕ) (low high : ℕ) (c : Content) → Rises low high c → Rises low high (rows k x c)
rows_rise k x low high c h = row_rises k x [] low high c tt (split_rises k x [] low high c tt h)

lines_rise : (p : Placed) (index : ℕ) (sizes : List Line) (low high : ℕ) (more : Content) → Rises low high more
    → Rises low high (lines_from p index sizes more)
lines_rise p index [] low high more h = h
lines_rise p index (size ∷ sizes) low high more h = lines_rise p (suc index) sizes low high more h

-- ---- boxes numbered in their order

abbrev pub Numbered : ℕ → Boxes Placed → Type 0
Numbered n none = Unit {0}
Numbered n (box p kids next) = (p.number ≡ n) × Numbered (suc n) kids × Numbered (suc n + box_count kids) next

within_rises : (p : Placed) (low high : ℕ) (kids : Content) → (p.kind ≡ image_block → low ≡ high) → Rises low high kids
    → Rises low high (within p kids)
within_rises p low high kids empty h = go p.kind refl
  where
    lines : Rises low high (lines_from p 0 p.lines kids)
    lines = lines_rise p 0 p.lines low high kids h

    bounded : (v : Bool) → Rises low high (if v then holds (stack p) (or_void p 0 (rows p 0 (lines_from p 0 p.lines kids))) done
        else or_void p p.content_x (rows p p.content_x (lines_from p 0 p.lines kids)))
    bounded true = (
      high,
      tt,
      rises_or_void low high p 0 (rows p 0 (lines_from p 0 p.lines kids))
          (rows_rise p 0 low high (lines_from p 0 p.lines kids) lines),
      refl,
    )
    bounded false = rises_or_void low high p p.content_x (rows p p.content_x (lines_from p 0 p.lines kids))
        (rows_rise p p.content_x low high (lines_from p 0 p.lines kids) lines)

    go : (k : Kind) → p.kind ≡ k → Rises low high (elim k as (λ k. Content) [
      | block_box ↦ or_void p p.content_x (lines_from p 0 p.lines kids)
      | anonymous ↦ or_void p p.content_x (lines_from p 0 p.lines kids)
      | container ↦
          if is_bounded p then holds (stack p) (or_void p 0 (rows p 0 (lines_from p 0 p.lines kids))) done
          else or_void p p.content_x (rows p p.content_x (lines_from p 0 p.lines kids))
      | image_block ↦ leaf (image p) done
    ])
    go block_box e = rises_or_void low high p p.content_x (lines_from p 0 p.lines kids) lines
    go anonymous e = rises_or_void low high p p.content_x (lines_from p 0 p.lines kids) lines
    go container e = bounded (is_bounded p)
    go image_block e = empty e

-- images have no boxes in them
abbrev pub ImagesAreEmpty : Boxes Placed → Type 0
ImagesAreEmpty none = Unit {0}
ImagesAreEmpty (box p kids next) = (p.kind ≡ image_block → kids ≡ none) × ImagesAreEmpty kids × ImagesAreEmpty next

pub content_rises : (n : ℕ) (boxes : Boxes Placed) → Numbered n boxes → ImagesAreEmpty boxes
    → Rises n (n + box_count boxes) (content_of boxes)
content_rises n none h e = omega arith
content_rises n (box p kids next) h e =
    go p.spans
    (within_rises p (suc n) (suc n + box_count kids) (content_of kids)
    (λ is. subst (λ (ks : Boxes Placed). suc n ≡ suc n + box_count ks) (sym (e.0 is)) (omega arith))
    (content_rises (suc n) kids h.1 e.1))
    (content_rises (suc n + box_count kids) next h.2 e.2)
  where
    last : ℕ
    last = n + suc (box_count kids + box_count next)

    go : (v : Bool) → Rises (suc n) (suc n + box_count kids) (within p (content_of kids))
        → Rises (suc n + box_count kids) (suc n + box_count kids + box_count next) (content_of next)
        → Rises n (n + suc (box_count kids + box_count next)) (if v then spanner (framed p (within p (content_of kids)) done)
        (content_of next) else framed p (within p (content_of kids)) (content_of next))
    go true inside behind = (
      suc n + box_count kids,
      (
        h.0,
        rises_before (suc n) (suc n + box_count kids) (suc n + box_count kids) (within p (content_of kids))
            (closes p done) inside refl,
      ),
      subst (λ (m : ℕ). Rises (suc n + box_count kids) m (content_of next))
          (omega arith) behind,
    )
    go false inside behind = (
      h.0,
      rises_before (suc n) (suc n + box_count kids) (n + suc (box_count kids + box_count next))
          (within p (content_of kids)) (closes p (content_of next)) inside
          (subst (λ (m : ℕ). Rises (suc n + box_count kids) m (content_of next)) (omega arith) behind),
    )
