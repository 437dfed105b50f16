-- How many boxes are open at each place of a document's flows: never more than its boxes are deep.
use Rattle.std.proofs.Common.{◌≡◌, ℕ, suc, ◌+◌, ◌≤◌, List, [], ◌∷◌, length, Bool, true, false, not, refl, sym, ◌∙◌, subst, arith}
use Rattle.std.proofs.Common.{inl, inr}
use Rattle.std.specs.Prelude.{reverse, drop, if◌then◌else◌}
use Rattle.std.proofs.lemmas.List.{length-reverse}
use Rattle.line_breaker.specs.declared.line.Line.{Line}
use Rattle.box_data.specs.declared.tree.BoxKind.{BoxKind as Kind}
use Rattle.box_data.specs.declared.tree.BoxKind.TheVariants.{Block as block_box, Anonymous as anonymous, Container as container}
use Rattle.box_data.specs.declared.tree.BoxKind.TheVariants.{ImageBlock as image_block}
use Rattle.box_data.specs.BoxTree.{Boxes, none, box}
use Rattle.box_data.specs.declared.placed.Placed.{Placed}
use Rattle.box_data.specs.Widths.{is_bounded}
use Rattle.box_data.specs.Content.{image, stack, row, Content, done, opens, closes, leaf, holds, spanner, before, is_done}
use Rattle.box_data.specs.Content.{or_void, part, led, has_spanner, row_of_part, spanners, rows, lines_from, within, framed}
use Rattle.box_data.specs.Content.{content_of}
use Rattle.box_data.specs.DocumentFlows.{opened_in}
use Rattle.doc_laws.proofs.Goes.{Goes, MayFill, SpansFit, inner_spans, rows_fill, lines_fill, content_fills}
use Rattle.doc_laws.proofs.Trees.{box_depth}

-- From a open boxes to e, and never more than the limit. What spans the columns stands where as many are open as `outer`.
abbrev pub Deep : (limit outer a e : ℕ) → Content → Type 0
Deep limit outer a e done = a ≡ e
Deep limit outer a e (opens p next) = (suc a ≤ limit) × Deep limit outer (suc a) e next
Deep limit outer a e (closes p next) = (m : ℕ) × (a ≡ suc m) × Deep limit outer m e next
Deep limit outer a e (leaf l next) = Deep limit outer a e next
Deep limit outer a e (holds h inside next) =
    (length (opened_in h) ≤ limit) × ((end : ℕ) × Deep limit 0 (length (opened_in h)) end inside) × Deep limit outer a e next
Deep limit outer a e (spanner inside next) = Deep limit 0 outer outer inside × Deep limit outer a e next

deep_before : (limit outer a m e : ℕ) (c more : Content) → Deep limit outer a m c → Deep limit outer m e more
    → Deep limit outer a e (before c more)
deep_before limit outer a m e done more h k = subst (λ (n : ℕ). Deep limit outer n e more) (sym h) k
deep_before limit outer a m e (opens p next) more h k = (h.0, deep_before limit outer (suc a) m e next more h.1 k)
deep_before limit outer a m e (closes p next) more h k = (h.0, h.1, deep_before limit outer h.0 m e next more h.2 k)
deep_before limit outer a m e (leaf l next) more h k = deep_before limit outer a m e next more h k
deep_before limit outer a m e (holds i inside next) more h k = (h.0, h.1, deep_before limit outer a m e next more h.2 k)
deep_before limit outer a m e (spanner inside next) more h k = (h.0, deep_before limit outer a m e next more h.1 k)

deep_or_void : (limit outer a e : ℕ) (p : Placed) (x : ℕ) (c : Content) → Deep limit outer a e c
    → Deep limit outer a e (or_void p x c)
deep_or_void limit outer a e p x done h = h
deep_or_void limit outer a e p x (opens q next) h = h
deep_or_void limit outer a e p x (closes q next) h = h
deep_or_void limit outer a e p x (leaf l next) h = h
deep_or_void limit outer a e p x (holds i inside next) h = h
deep_or_void limit outer a e p x (spanner inside next) h = h

deep_part : (limit outer a e : ℕ) (c : Content) → Deep limit outer a e c → (end : ℕ) × Deep limit 0 a end (part c)
deep_part limit outer a e done h = (a, refl)
deep_part limit outer a e (opens p next) h =
    let r = deep_part limit outer (suc a) e next h.1 in
    (r.0, (h.0, deep_or_void limit 0 (suc a) r.0 p p.content_x (part next) r.1))
deep_part limit outer a e (closes p next) h = let r = deep_part limit outer h.0 e next h.2 in (r.0, (h.0, h.1, r.1))
deep_part limit outer a e (leaf l next) h = deep_part limit outer a e next h
deep_part limit outer a e (holds i inside next) h = let r = deep_part limit outer a e next h.2 in (r.0, (h.0, h.1, r.1))
deep_part limit outer a e (spanner inside next) h = (a, refl)

deep_led : (limit outer a e : ℕ) (c : Content) → Deep limit outer a e c → Deep limit outer a e (led c)
deep_led limit outer a e done h = h
deep_led limit outer a e (opens p next) h = h
deep_led limit outer a e (closes p next) h = h
deep_led limit outer a e (leaf l next) h = h
deep_led limit outer a e (holds i inside next) h = h
deep_led limit outer a e (spanner inside next) h = h

-- a row where `at` are open, in a flow where b are
deep_row : (limit outer b a e : ℕ) (k : Placed) (x : ℕ) (at : List Placed) (c more : Content) → length at ≡ a → a ≤ limit
    → Deep limit outer a e c → Deep limit 0 b b more
    → Deep limit 0 b b (row_of_part k x at c more)
deep_row limit outer b a e k x at c more same le h g = go (is_done (part c))
  where
    count : length (reverse at) ≡ a
    count = length-reverse at ∙ same

    own : (end : ℕ) × Deep limit 0 a end (led (part c))
    own = let r = deep_part limit outer a e c h in (r.0, deep_led limit 0 a r.0 (part c) r.1)

    go : (v : Bool) → Deep limit 0 b b (if v then more else holds (row k x (not (has_spanner c)) (reverse at))
        (led (part c)) more)
    go true = g
    go false = (
      subst (λ (n : ℕ). n ≤ limit) (sym count) le,
      (
        own.0,
        subst (λ (n : ℕ). Deep limit 0 n own.0 (led (part c))) (sym count) own.1,
      ),
      g,
    )

length-rest : (at : List Placed) (m : ℕ) → length at ≡ suc m → length (drop 1 at) ≡ m
length-rest [] m e = absurd (omega arith)
length-rest (p ∷ at) m e = omega arith

deep_spanners : (limit b a e : ℕ) (k : Placed) (x : ℕ) (at : List Placed) (c : Content) → length at ≡ a → a ≤ limit
    → Deep limit b a e c → Deep limit 0 b b (spanners k x at c)
deep_spanners limit b a e k x at done same le h = refl
deep_spanners limit b a e k x at (opens p next) same le h = deep_spanners limit b (suc a) e k x (p ∷ at) next
    (omega arith) h.0 h.1
deep_spanners limit b a e k x at (closes p next) same le h =
    let one = h.1 in deep_spanners limit b h.0 e k x (drop 1 at) next (length-rest at h.0 (omega arith)) (omega arith) h.2
deep_spanners limit b a e k x at (leaf l next) same le h = deep_spanners limit b a e k x at next same le h
deep_spanners limit b a e k x at (holds i inside next) same le h = deep_spanners limit b a e k x at next same le h.2
deep_spanners limit b a e k x at (spanner inside next) same le h =
    deep_before limit 0 b b b inside (row_of_part k x at next (spanners k x at next)) h.0
    (deep_row limit b b a e k x at next (spanners k x at next) same le h.1 (deep_spanners limit b a e k x at next same le h.1))

deep_rows : (limit b : ℕ) (k : Placed) (x : ℕ) (c : Content) → Deep limit b 0 0 c → Deep limit 0 b b (rows k x c)
deep_rows limit b k x c h = deep_row limit b b 0 0 k x [] c (spanners k x [] c) refl (omega arith) h
    (deep_spanners limit b 0 0 k x [] c refl (omega arith) h)

deep_lines : (limit outer a e : ℕ) (p : Placed) (index : ℕ) (ls : List Line) (more : Content) → Deep limit outer a e more
    → Deep limit outer a e (lines_from p index ls more)
deep_lines limit outer a e p index [] more h = h
deep_lines limit outer a e p index (l ∷ ls) more h = deep_lines limit outer a e p (suc index) ls more h

-- where no spanner stands it doesn't matter how many are open where one would
deep_lift : (limit outer other a e : ℕ) (fresh : Bool) (from to : List Placed) (c : Content) → Goes false fresh from to c
    → Deep limit outer a e c → Deep limit other a e c
deep_lift limit outer other a e fresh from to done g h = h
deep_lift limit outer other a e fresh from to (opens p next) g h =
    (h.0, deep_lift limit outer other (suc a) e true (p ∷ from) to next g h.1)
deep_lift limit outer other a e fresh from to (closes p next) g h =
    (h.0, h.1, deep_lift limit outer other h.0 e false g.1 to next g.3 h.2)
deep_lift limit outer other a e fresh from to (leaf l next) g h = deep_lift limit outer other a e false from to next g h
deep_lift limit outer other a e fresh from to (holds i inside next) g h =
    (h.0, h.1, deep_lift limit outer other a e false from to next g.1 h.2)
deep_lift limit outer other a e fresh from to (spanner inside next) g h = absurd (let no = g.0 in cc)

deep_anywhere : (limit outer other a e : ℕ) (c : Content) → MayFill false c → Deep limit outer a e c → Deep limit other a e c
deep_anywhere limit outer other a e c (inl same) h = subst (λ (x : Content). Deep limit other a e x) (sym same)
    (subst (λ (x : Content). Deep limit outer a e x) same h)
deep_anywhere limit outer other a e c (inr f) h = deep_lift limit outer other a e true [] [] c (f []) h

-- ---- boxes

-- what holds of the boxes inside, wherever they stand
abbrev Again : (limit deep : ℕ) → Content → Type 0
Again limit deep c = (outer a : ℕ) → a + deep ≤ limit → outer + deep ≤ limit → Deep limit outer a a c

deep_within : (limit outer b deep : ℕ) (p : Placed) (spans : Bool) (kids : Content) → b + deep ≤ limit → outer + deep ≤ limit
    → MayFill (inner_spans p spans) kids → Again limit deep kids
    → Deep limit outer b b (within p kids)
deep_within limit outer b deep p spans kids le le' fills again = go p.kind fills
  where
    content : Content
    content = lines_from p 0 p.lines kids

    own : (o a : ℕ) → a + deep ≤ limit → o + deep ≤ limit → Deep limit o a a (lines_from p 0 p.lines kids)
    own o a l l' = deep_lines limit o a a p 0 p.lines kids (again o a l l')

    bounded : (v : Bool) → MayFill true kids
        → Deep limit outer b b (if v then holds (stack p) (or_void p 0 (rows p 0 (lines_from p 0 p.lines kids))) done
        else or_void p p.content_x (rows p p.content_x (lines_from p 0 p.lines kids)))
    bounded true f = (
      omega arith,
      (
        0,
        deep_or_void limit 0 0 0 p 0 (rows p 0 (lines_from p 0 p.lines kids))
            (deep_rows limit 0 p 0 (lines_from p 0 p.lines kids) (own 0 0 (omega arith) (omega arith))),
      ),
      refl,
    )
    bounded false f = deep_or_void limit outer b b p p.content_x (rows p p.content_x (lines_from p 0 p.lines kids))
        (deep_anywhere limit 0 outer b b (rows p p.content_x (lines_from p 0 p.lines kids))
        (rows_fill p p.content_x (lines_from p 0 p.lines kids) (lines_fill true p 0 p.lines kids f))
        (deep_rows limit b p p.content_x (lines_from p 0 p.lines kids) (own b 0 (omega arith) (omega arith))))

    go : (k : Kind) → MayFill (elim k as (λ k. Bool) [
      | block_box ↦ if p.spans then false else spans
      | anonymous ↦ if p.spans
          then false else spans
      | container ↦ true
      | image_block ↦ if p.spans then false else spans
    ]) kids
        → Deep limit outer b b (elim k as (λ k. Content) [
          | block_box ↦ or_void p p.content_x (lines_from p 0 p.lines kids)
          | anonymous ↦ or_void p p.content_x (lines_from p 0 p.lines kids)
          | container ↦
              if is_bounded p then holds (stack p) (or_void p 0 (rows p 0 (lines_from p 0 p.lines kids))) done
              else or_void p p.content_x (rows p p.content_x (lines_from p 0 p.lines kids))
          | image_block ↦ leaf (image p) done
        ])
    go block_box f = deep_or_void limit outer b b p p.content_x (lines_from p 0 p.lines kids) (own outer b le le')
    go anonymous f = deep_or_void limit outer b b p p.content_x (lines_from p 0 p.lines kids) (own outer b le le')
    go container f = bounded (is_bounded p) f
    go image_block f = refl

pub content_deep : (limit outer a : ℕ) (spans : Bool) (boxes : Boxes Placed) → SpansFit spans boxes → a + box_depth boxes ≤ limit
    → outer + box_depth boxes ≤ limit → Deep limit outer a a (content_of boxes)
content_deep limit outer a spans none fit le le' = refl
content_deep limit outer a spans (box p kids next) fit le le' =
    let again : Again limit (box_depth kids) (content_of kids) =
    (λ o b l l'. content_deep limit o b (inner_spans p spans) kids fit.1 l l') in
    go p.spans (inside again 0 (suc outer) (omega arith) (omega arith)) (inside again outer (suc a) (omega arith) (omega arith))
    (content_deep limit outer a spans next fit.2 (omega arith) (omega arith))
  where
    inside : Again limit (box_depth kids) (content_of kids) → (o b : ℕ) → b + box_depth kids ≤ limit → o + box_depth kids ≤ limit
        → Deep limit o b b (within p (content_of kids))
    inside again o b l l' = deep_within limit o b (box_depth kids) p spans (content_of kids) l l'
        (content_fills (inner_spans p spans) kids fit.1) again

    go : (v : Bool) → Deep limit 0 (suc outer) (suc outer) (within p (content_of kids))
        → Deep limit outer (suc a) (suc a) (within p (content_of kids)) → Deep limit outer a a (content_of next)
        → Deep limit outer a a (if v then spanner (framed p (within p (content_of kids)) done) (content_of next)
        else framed p (within p (content_of kids)) (content_of next))
    go true spanning plain rest = (
      (
        omega arith,
        deep_before limit 0 (suc outer) (suc outer) outer (within p (content_of kids)) (closes p done) spanning
            (outer, refl, refl),
      ),
      rest,
    )
    go false spanning plain rest = (
      omega arith,
      deep_before limit outer (suc a) (suc a) a (within p (content_of kids))
          (closes p (content_of next)) plain (a, refl, rest),
    )
