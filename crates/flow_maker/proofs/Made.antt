-- What is made of the marks of a content are the flows, rows and stacks that it says.
use Rattle.std.proofs.Common.{◌≡◌, ℕ, ◌+◌, ◌<◌, ◌≤◌, Bool, true, false, ◌&&◌, List, [], ◌∷◌, ◌++◌, length, get_or, drop, Option}
use Rattle.std.proofs.Common.{Some, None}
use Rattle.std.proofs.Common.{refl, sym, ap, ◌∙◌, subst, arith, append-nil, append_assoc, length-append}
use Rattle.std.proofs.lemmas.List.{length-set, at_drop_more, at_drop_all}
use Rattle.std.specs.Prelude.{map, reverse, slice_get, slice_set}
use Rattle.std.proofs.Math.Seq.{set-append_seam}
use Rattle.break_rules.specs.declared.seam.LineCounts.{LineCounts}
use Rattle.line_breaker.specs.declared.line.Line.{Line}
use Rattle.flow_data.specs.declared.data.AtomKind.TheVariants.{Bounded}
use Rattle.flow_data.specs.declared.data.Bound.TheVariants.{Left}
use Rattle.flow_data.specs.declared.data.BoxInfo.{BoxInfo}
use Rattle.flow_data.specs.declared.data.Flow.{Flow}
use Rattle.flow_data.specs.declared.data.Item.{Item}
use Rattle.flow_data.specs.declared.data.Item.TheVariants.{Atom, Row}
use Rattle.flow_data.specs.declared.data.RowInfo.{RowInfo}
use Rattle.flow_data.specs.declared.data.Seam.{Seam}
use Rattle.flow_data.specs.declared.data.Stack.{Stack}
use Rattle.flow_data.specs.Flows.{no_flow}
use Rattle.box_data.specs.declared.mark.Mark.{Mark}
use Rattle.box_data.specs.declared.mark.Mark.TheVariants as marked
use Rattle.box_data.specs.declared.placed.Placed.{Placed}
use Rattle.box_data.specs.Bounds.{LeafIsNumbered, HolderIsNumbered, AreNumbered}
use Rattle.box_data.specs.Content.{Leaf, line, image, void, Holder, stack, row, Content, done, opens, closes, leaf, holds}
use Rattle.box_data.specs.Content.{spanner, leaf_mark, holder_mark, marks as marks_of}
use Rattle.box_data.specs.DocumentFlows.{Begun, nothing_begun, next_flow, begun_in, past, leaf_item, leaf_counts, holder_item}
use Rattle.box_data.specs.DocumentFlows.{items_from, seams_behind, flow_with, opened_in, flows_from, is_stack, row_of}
use Rattle.box_data.specs.DocumentFlows.{rows_from, stack_of, stacks_from, flows_of_content}
use Rattle.flow_maker.specs.declared.seam.Around.{Around}
use Rattle.flow_maker.specs.declared.seam.Stage.TheVariants.{Direct}
use Rattle.flow_maker.specs.declared.open_flow.OpenFlow.{OpenFlow}
use Rattle.flow_maker.specs.declared.parts.Parts.{Parts}
use Rattle.flow_maker.specs.Making.{no_boxes, entered, exited, within, seam_opened, seam_before, last_seam, fresh, open_flow}
use Rattle.flow_maker.specs.Making.{with_start, with_close, with_item, closed, begun, in_flow, item_in, stack_in, row_in}
use Rattle.flow_maker.specs.Making.{nearest, farther, close, at_box, at_line, step, run, data_of}
use Rattle.flow_maker.specs.Premises.{HasNoSpanner}
use Rattle.flow_maker.proofs.Counted.{one_row, one_stack, one_flow, rows_length, stacks_length, flows_length}
use Rattle.flow_maker.proofs.Seams.{number_of, around_of, around_exited, within_all, seam_left, seam_start, seam_close}
use Rattle.flow_maker.proofs.Seams.{seam_now, seam_item, seam_end}

-- ---- flows

abbrev flow : List ℕ → List Item → List Seam → Flow
flow opened items seams = record { opened = opened; items = items; seams = seams }

-- an open flow with what is left of it
abbrev flow_left : OpenFlow → (still : List Placed) → Begun → Content → Flow
flow_left o still n r = flow o.opened (o.items ++ items_from n r) (o.seams ++ seam_left o.seam still r ∷ seams_behind still r)

flow_start : (o : OpenFlow) (still : List Placed) (n : Begun) (p : Placed) (next : Content) → o.around ≡ around_of still
    → flow_left (with_start o p) (p ∷ still) n next ≡ flow_left o still n (opens p next)
flow_start o still n p next around =
    ap (λ (a : Around). flow o.opened (o.items ++ items_from n next)
    (o.seams ++ seam_left (seam_opened o.seam a.avoid p) (p ∷ still) next ∷ seams_behind (p ∷ still) next)) around
    ∙ ap (λ (s : Seam). flow o.opened (o.items ++ items_from n next) (o.seams ++ s ∷ seams_behind (p ∷ still) next))
    (seam_start o.seam still p next)

flow_close : (o : OpenFlow) (still : List Placed) (n : Begun) (p : Placed) (next : Content)
    → flow_left (with_close o p) (drop 1 still) n next ≡ flow_left o still n (closes p next)
flow_close o still n p next =
    ap (λ (s : Seam). flow o.opened (o.items ++ items_from n next) (o.seams ++ s ∷ seams_behind (drop 1 still) next))
    (seam_close o.seam still p next)

-- an item more, and what is left after it
flow_item : (o : OpenFlow) (still : List Placed) (item : Item) (counts : Option LineCounts) (n : Begun) (next : Content)
    → o.around ≡ around_of still
    → flow_left (with_item o item counts) still n next
    ≡ flow o.opened (o.items ++ item ∷ items_from n next)
    (o.seams ++ seam_now o.seam still counts ∷ seam_left (fresh Direct) still next ∷ seams_behind still next)
flow_item o still item counts n next around =
    let more : List Seam = seam_left (fresh Direct) still next ∷ seams_behind still next in
    ap (λ (items : List Item). flow o.opened items ((o.seams ++ seam_before o.seam o.around.avoid counts ∷ []) ++ more))
    (append_assoc o.items (item ∷ []) (items_from n next))
    ∙ ap (λ (seams : List Seam). flow o.opened (o.items ++ item ∷ items_from n next) seams)
    (append_assoc o.seams (seam_before o.seam o.around.avoid counts ∷ []) more)
    ∙ ap (λ (a : Around). flow o.opened (o.items ++ item ∷ items_from n next) (o.seams ++ seam_before o.seam a.avoid counts
    ∷ more)) around
    ∙ ap (λ (s : Seam). flow o.opened (o.items ++ item ∷ items_from n next) (o.seams ++ s ∷ more)) (seam_item o.seam still counts)

flow_end : (o : OpenFlow) (still : List Placed) (n : Begun) → closed o ≡ flow_left o still n done
flow_end o still n =
    ap (λ (items : List Item). flow o.opened items (o.seams ++ last_seam o.seam ∷ [])) (sym (append-nil o.items))
    ∙ ap (λ (s : Seam). flow o.opened (o.items ++ []) (o.seams ++ s ∷ [])) (seam_end o.seam still)

-- ---- all that is made

abbrev parts : OpenFlow → List OpenFlow → List Flow → List RowInfo → List Stack → Parts
parts o outer flows rows stacks = record { flow = o; outer = outer; flows = flows; rows = rows; stacks = stacks }

-- after what is left of the innermost flow, and its end
abbrev ended_with : Parts → (still : List Placed) → Begun → Content → Parts
ended_with s still n r =
    parts (nearest s.outer) (farther s.outer) (slice_set (s.flows ++ flows_from n r) s.flow.flow (flow_left s.flow still n r))
    (s.rows ++ rows_from n s.flow.in_stack r) (s.stacks ++ stacks_from n r)

same_parts : {o : OpenFlow} {outer : List OpenFlow} {fs gs : List Flow}
    (number : ℕ) {f g : Flow} {ks ls : List RowInfo} {ts us : List Stack}
    → fs ≡ gs → f ≡ g → ks ≡ ls → ts ≡ us
    → parts o outer (slice_set fs number f) ks ts ≡ parts o outer (slice_set gs number g) ls us
same_parts {o} {outer} {fs} {gs} number {f} {g} {ks} {ls} {ts} {us} flows one rows stacks =
    ap (λ (x : List Flow). parts o outer (slice_set x number f) ks ts) flows
    ∙ ap (λ (x : Flow). parts o outer (slice_set gs number x) ks ts) one
    ∙ ap (λ (x : List RowInfo). parts o outer (slice_set gs number g) x ts) rows
    ∙ ap (λ (x : List Stack). parts o outer (slice_set gs number g) ls x) stacks

set_at : (fs : List Flow) (f g : Flow) (gs : List Flow) (n : ℕ) → length fs ≡ n → slice_set (fs ++ f ∷ gs) n g ≡ fs ++ g ∷ gs
set_at fs f g gs n e = ap (λ (m : ℕ). slice_set (fs ++ f ∷ gs) m g) (sym e) ∙ set-append_seam fs f gs g

-- ---- where a row or a stack begins

abbrev inner : Begun → Holder → OpenFlow
inner n h = open_flow (next_flow n) (is_stack h) (map number_of (opened_in h)) (around_of (reverse (opened_in h)))

-- in it
abbrev held : Parts → Begun → Holder → Parts
held s n h =
    parts (inner n h) (with_item s.flow (holder_item n h) None ∷ s.outer) (s.flows ++ no_flow ∷ [])
    (s.rows ++ row_of n s.flow.in_stack h) (s.stacks ++ stack_of n h)

-- and behind it
abbrev behind : Parts → Begun → Holder → Content → Parts
behind s n h inside =
    let m = begun_in n h in
    parts (with_item s.flow (holder_item n h) None) s.outer (s.flows ++ flow_with (opened_in h) m inside ∷ flows_from m inside)
    (s.rows ++ (row_of n s.flow.in_stack h ++ rows_from m (is_stack h) inside)) (s.stacks ++
    (stack_of n h ++ stacks_from m inside))

abbrev stack_numbered : Parts → Placed → (its_flow its_stack : ℕ) → List RowInfo → Parts
stack_numbered s p its_flow its_stack rows =
    parts (open_flow its_flow true [] no_boxes) (with_item s.flow (Atom p.h (Bounded p.number its_stack p.content_x)) None
    ∷ s.outer)
    (s.flows ++ no_flow ∷ []) rows (s.stacks ++ record { flow = its_flow; w = p.w; bound = Left p.h } ∷ [])

abbrev row_numbered : Parts → Placed → (x : ℕ) → (is_last : Bool) → List ℕ → (its_flow its_row : ℕ) → Around → List Stack → Parts
row_numbered s p x is_last opened its_flow its_row around stacks =
    parts (open_flow its_flow false opened around) (with_item s.flow (Row its_row) None ∷ s.outer) (s.flows ++ no_flow ∷ [])
    (s.rows ++ record {
      flow = its_flow;
      n = p.columns.n;
      w = p.columns.w;
      step = p.columns.step;
      x = x;
      auto = s.flow.in_stack && p.style.fill_auto && is_last;
    } ∷ []) stacks

begins : (places : List Placed) (h : Holder) (s : Parts) (n : Begun) → HolderIsNumbered places h → length s.rows ≡ n.rows
    → length s.stacks ≡ n.stacks → length s.flows ≡ next_flow n → step places s (holder_mark h) ≡ held s n h
begins places (stack p) s n numbered rows stacks flows =
    ap (λ (found : Option Placed). at_box s (λ q. stack_in s q) found) numbered
    ∙ ap (λ (k : ℕ). stack_numbered s p k (length s.stacks) s.rows) flows
    ∙ ap (λ (k : ℕ). stack_numbered s p (next_flow n) k s.rows) stacks
    ∙ ap (λ (x : List RowInfo). stack_numbered s p (next_flow n) n.stacks x) (sym (append-nil s.rows))
begins places (row p x is_last opened) s n numbered rows stacks flows =
    let numbers : List ℕ = map number_of opened in
    ap (λ (found : Option Placed). at_box s (λ q. row_in s q x is_last numbers (within places no_boxes numbers)) found) numbered.0
    ∙ ap (λ (a : Around). row_in s p x is_last numbers a) (within_all places opened numbered.1)
    ∙ ap (λ (k : ℕ). row_numbered s p x is_last numbers k (length s.rows) (around_of (reverse opened)) s.stacks) flows
    ∙ ap (λ (k : ℕ). row_numbered s p x is_last numbers (next_flow n) k (around_of (reverse opened)) s.stacks) rows
    ∙ ap (λ (y : List Stack). row_numbered s p x is_last numbers (next_flow n) n.rows (around_of (reverse opened)) y)
    (sym (append-nil s.stacks))

-- the end of what is held, whose flow takes its place
ends : (s : Parts) (n : Begun) (h : Holder) (inside : Content) → length s.flows ≡ next_flow n
    → ended_with (held s n h) (reverse (opened_in h)) (begun_in n h) inside ≡ behind s n h inside
ends s n h inside flows =
    let m = begun_in n h in
    let o = with_item s.flow (holder_item n h) None in
    let one = flow_with (opened_in h) m inside in
    ap (λ (fs : List Flow). parts o s.outer (slice_set fs (next_flow n) one)
    ((s.rows ++ row_of n s.flow.in_stack h) ++ rows_from m (is_stack h) inside)
    ((s.stacks ++ stack_of n h) ++ stacks_from m inside))
    (append_assoc s.flows (no_flow ∷ []) (flows_from m inside))
    ∙ ap (λ (fs : List Flow). parts o s.outer fs
    ((s.rows ++ row_of n s.flow.in_stack h) ++ rows_from m (is_stack h) inside)
    ((s.stacks ++ stack_of n h) ++ stacks_from m inside))
    (set_at s.flows no_flow one (flows_from m inside) (next_flow n) flows)
    ∙ ap (λ (ks : List RowInfo). parts o s.outer (s.flows ++ one ∷ flows_from m inside) ks
    ((s.stacks ++ stack_of n h) ++ stacks_from m inside))
    (append_assoc s.rows (row_of n s.flow.in_stack h) (rows_from m (is_stack h) inside))
    ∙ ap (λ (ts : List Stack). parts o s.outer (s.flows ++ one ∷ flows_from m inside)
    (s.rows ++ (row_of n s.flow.in_stack h ++ rows_from m (is_stack h) inside)) ts)
    (append_assoc s.stacks (stack_of n h) (stacks_from m inside))

leaf_made : (places : List Placed) (s : Parts) (l : Leaf) → LeafIsNumbered places l
    → step places s (leaf_mark l) ≡ item_in s (leaf_item l) (leaf_counts l)
leaf_made places s (line p index l) h =
    ap (λ (found : Option Placed). at_box s (λ q. at_line s q index (slice_get q.lines index)) found) h.0
    ∙ ap (λ (found : Option Line). at_line s p index found) h.1
leaf_made places s (image p) h = ap (λ (found : Option Placed). at_box s (λ q. item_in s (leaf_item (image q)) None) found) h
leaf_made places s (void p x) h = ap (λ (found : Option Placed). at_box s (λ q. item_in s (leaf_item (void q x)) None) found) h

-- ---- the marks of what is left of a flow, and its end

over : (places : List Placed) (r : Content) (s : Parts) (still : List Placed) (n : Begun) (after : List Mark)
    → AreNumbered places r → HasNoSpanner r → s.flow.around ≡ around_of still
    → length s.rows ≡ n.rows → length s.stacks ≡ n.stacks → length s.flows ≡ next_flow n
    → run places s (marks_of r ++ marked.End ∷ after) ≡ run places (ended_with s still n r) after
over places done s still n after numbered cut around rows stacks flows =
    ap (λ (t : Parts). run places t after)
    (same_parts {o = nearest s.outer} {outer = farther s.outer} s.flow.flow (sym (append-nil s.flows)) (flow_end s.flow still n)
    (sym (append-nil s.rows)) (sym (append-nil s.stacks)))
over places (opens p next) s still n after numbered cut around rows stacks flows =
    let left : List Mark = marks_of next ++ marked.End ∷ after in
    ap (λ (found : Option Placed). run places (at_box s (λ q. in_flow s (with_start s.flow q)) found) left) numbered.0
    ∙ over places next (in_flow s (with_start s.flow p)) (p ∷ still) n after numbered.1 cut (ap (λ
    (a : Around). entered a p) around)
    rows stacks flows
    ∙ ap (λ (t : Parts). run places t after)
    (same_parts {o = nearest s.outer} {outer = farther s.outer} s.flow.flow refl
    (flow_start s.flow still n p next around) refl refl)
over places (closes p next) s still n after numbered cut around rows stacks flows =
    let left : List Mark = marks_of next ++ marked.End ∷ after in
    ap (λ (found : Option Placed). run places (at_box s (λ q. in_flow s (with_close s.flow q)) found) left) numbered.0
    ∙ over places next (in_flow s (with_close s.flow p)) (drop 1 still) n after numbered.1 cut
    (ap (λ (a : Around). exited a) around ∙ around_exited still) rows stacks flows
    ∙ ap (λ (t : Parts). run places t after)
    (same_parts {o = nearest s.outer} {outer = farther s.outer} s.flow.flow refl (flow_close s.flow still n p next) refl refl)
over places (leaf l next) s still n after numbered cut around rows stacks flows =
    let left : List Mark = marks_of next ++ marked.End ∷ after in
    ap (λ (t : Parts). run places t left) (leaf_made places s l numbered.0)
    ∙ over places next (item_in s (leaf_item l) (leaf_counts l)) still n after numbered.1 cut around rows stacks flows
    ∙ ap (λ (t : Parts). run places t after)
    (same_parts {o = nearest s.outer} {outer = farther s.outer} s.flow.flow refl
    (flow_item s.flow still (leaf_item l) (leaf_counts l) n next around) refl refl)
over places (holds h inside next) s still n after numbered cut around rows stacks flows =
    let m = begun_in n h in
    let k = past m inside in
    let left : List Mark = marks_of next ++ marked.End ∷ after in
    let one = one_row n s.flow.in_stack h in
    let one_more = one_stack n h in
    let one_begun = one_flow n h in
    let rows_in = rows_length m (is_stack h) inside in
    let stacks_in = stacks_length m inside in
    let flows_in = flows_length m inside in
    let rows_at = length-append s.rows (row_of n s.flow.in_stack h) in
    let stacks_at = length-append s.stacks (stack_of n h) in
    let flows_at = length-append s.flows (no_flow ∷ []) in
    let rows_inner = length-append (row_of n s.flow.in_stack h) (rows_from m (is_stack h) inside) in
    let stacks_inner = length-append (stack_of n h) (stacks_from m inside) in
    let rows_past = length-append s.rows (row_of n s.flow.in_stack h ++ rows_from m (is_stack h) inside) in
    let stacks_past = length-append s.stacks (stack_of n h ++ stacks_from m inside) in
    let flows_past = length-append s.flows (flow_with (opened_in h) m inside ∷ flows_from m inside) in
    ap (λ (t : Parts). run places t ((marks_of inside ++ marked.End ∷ marks_of next) ++ marked.End ∷ after))
    (begins places h s n numbered.0 rows stacks flows)
    ∙ ap (λ (ms : List Mark). run places (held s n h) ms) (append_assoc (marks_of inside) (marked.End
    ∷ marks_of next) (marked.End ∷ after))
    ∙ over places inside (held s n h) (reverse (opened_in h)) m left numbered.1 cut.0 refl
    (omega (arith, one, rows_at, rows)) (omega (arith, one_more, stacks_at, stacks)) (omega (arith, one_begun, flows_at, flows))
    ∙ ap (λ (t : Parts). run places t left) (ends s n h inside flows)
    ∙ over places next (behind s n h inside) still k after numbered.2 cut.1 around
    (omega (arith, one, rows_in, rows_inner, rows_past, rows)) (omega (
      arith,
      one_more,
      stacks_in,
      stacks_inner,
      stacks_past,
      stacks,
    ))
    (omega (arith, one_begun, flows_in, flows_past, flows))
    ∙ ap (λ (t : Parts). run places t after)
    (same_parts {o = nearest s.outer} {outer = farther s.outer} s.flow.flow
    (append_assoc s.flows (flow_with (opened_in h) m inside ∷ flows_from m inside) (flows_from k next))
    (flow_item s.flow still (holder_item n h) None k next around)
    (append_assoc s.rows (row_of n s.flow.in_stack h ++ rows_from m (is_stack h) inside) (rows_from k s.flow.in_stack next))
    (append_assoc s.stacks (stack_of n h ++ stacks_from m inside) (stacks_from k next)))
over places (spanner inside next) s still n after numbered cut around rows stacks flows = absurd cut

-- ---- the document

run_append : (places : List Placed) (s : Parts) (ms : List Mark) (more : List Mark)
    → run places s (ms ++ more) ≡ run places (run places s ms) more
run_append places s [] more = refl
run_append places s (m ∷ ms) more = run_append places (step places s m) ms more

made : (places : List Placed) (width : ℕ) (height : Option ℕ) (boxes : List BoxInfo) (content : Content)
    → AreNumbered places content → HasNoSpanner content
    → data_of boxes (close (run places (begun width height) (marks_of content))) ≡ flows_of_content width height boxes content
made places width height boxes content numbered cut =
    ap (data_of boxes) (sym (run_append places (begun width height) (marks_of content) (marked.End ∷ []))
    ∙ over places content (begun width height) [] nothing_begun [] numbered cut refl refl refl refl)

-- ---- a mark adds a row, a stack and a flow at most

pub record IsGrown (s t : Parts) : Type 0 where
  pub rows : length t.rows ≤ length s.rows + 1
  pub stacks : length t.stacks ≤ length s.stacks + 1
  pub flows : length t.flows ≤ length s.flows + 1

grown_at_box : (s : Parts) (of : Placed → Parts) (found : Option Placed) → IsGrown s s → ((p : Placed) → IsGrown s (of p))
    → IsGrown s (at_box s of found)
grown_at_box s of None same each = same
grown_at_box s of (Some p) same each = each p

grown_at_line : (s : Parts) (p : Placed) (index : ℕ) (found : Option Line) → IsGrown s (at_line s p index found)
grown_at_line s p index None = record { rows = omega arith; stacks = omega arith; flows = omega arith }
grown_at_line s p index (Some l) = record { rows = omega arith; stacks = omega arith; flows = omega arith }

grown_none : (s : Parts) → IsGrown s s
grown_none s = record { rows = omega arith; stacks = omega arith; flows = omega arith }

grown_flow : (s : Parts) (o : OpenFlow) → IsGrown s (in_flow s o)
grown_flow s o = record { rows = omega arith; stacks = omega arith; flows = omega arith }

grown_stack : (s : Parts) (p : Placed) → IsGrown s (stack_in s p)
grown_stack s p =
    let more = length-append s.stacks (record { flow = length s.flows; w = p.w; bound = Left p.h } ∷ []) in
    let flows = length-append s.flows (no_flow ∷ []) in
    record { rows = omega arith; stacks = omega (arith, more); flows = omega (arith, flows) }

grown_row : (s : Parts) (p : Placed) (x : ℕ) (is_last : Bool) (opened : List ℕ) (a : Around)
    → IsGrown s (row_in s p x is_last opened a)
grown_row s p x is_last opened a =
    let more = length-append s.rows (record {
      flow = length s.flows;
      n = p.columns.n;
      w = p.columns.w;
      step = p.columns.step;
      x = x;
      auto = s.flow.in_stack && p.style.fill_auto && is_last;
    } ∷ []) in
    let flows = length-append s.flows (no_flow ∷ []) in
    record { rows = omega (arith, more); stacks = omega arith; flows = omega (arith, flows) }

grown : (places : List Placed) (m : Mark) (s : Parts) → IsGrown s (step places s m)
grown places (marked.Opens n) s = grown_at_box s _ (slice_get places n) (grown_none s) (λ p. grown_flow s (with_start s.flow p))
grown places (marked.Closes n) s = grown_at_box s _ (slice_get places n) (grown_none s) (λ p. grown_flow s (with_close s.flow p))
grown places (marked.Line n index) s =
    grown_at_box s (λ p. at_line s p index (slice_get p.lines index)) (slice_get places n) (grown_none s)
    (λ p. grown_at_line s p index (slice_get p.lines index))
grown places (marked.Image n) s =
    grown_at_box s (λ p. item_in s (leaf_item (image p)) None) (slice_get places n) (grown_none s)
    (λ p. grown_flow s (with_item s.flow (leaf_item (image p)) None))
grown places (marked.Void n x) s =
    grown_at_box s (λ p. item_in s (leaf_item (void p x)) None) (slice_get places n) (grown_none s)
    (λ p. grown_flow s (with_item s.flow (leaf_item (void p x)) None))
grown places (marked.Stack n) s = grown_at_box s (λ p. stack_in s p) (slice_get places n) (grown_none s) (λ p. grown_stack s p)
grown places (marked.Row n x is_last opened) s =
    grown_at_box s (λ p. row_in s p x is_last opened (within places no_boxes opened)) (slice_get places n) (grown_none s)
    (λ p. grown_row s p x is_last opened (within places no_boxes opened))
grown places marked.Spanner s = grown_none s
grown places marked.End s =
    let same = length-set s.flows s.flow.flow (closed s.flow) in
    record { rows = omega arith; stacks = omega arith; flows = omega (arith, same) }

-- So far the parts are those of the marks before i.
pub record AreMade (places : List Placed) (start : Parts) (marks : List Mark) (i : ℕ) (s : Parts) : Type 0 where
  pub same : run places s (drop i marks) ≡ run places start marks
  pub rows : length s.rows ≤ i
  pub stacks : length s.stacks ≤ i + 1
  pub flows : length s.flows ≤ i + 1

pub none_made : (places : List Placed) (width : ℕ) (height : Option ℕ) (marks : List Mark) (s : Parts) → s ≡ begun width height
    → AreMade places (begun width height) marks 0 s
none_made places width height marks s e =
    subst (AreMade places (begun width height) marks 0) (sym e)
    (record { same = refl; rows = omega arith; stacks = omega arith; flows = omega arith })

pub mark_more : (places : List Placed) (start : Parts) (marks : List Mark) (i : ℕ) (d : Mark) (s t : Parts) → i < length marks
    → d ≡ get_or marks i d → t ≡ step places s d → AreMade places start marks i s → AreMade places start marks (i + 1) t
mark_more places start marks i d s t inside here taken h =
    let more = grown places d s in
    subst (AreMade places start marks (i + 1)) (sym taken) (record {
      same = ap (λ (m : Mark). run places (step places s m) (drop (i + 1) marks)) here
          ∙ sym (at_drop_more (run places s) marks i d inside) ∙ h.same;
      rows = omega (arith, more.rows, h.rows);
      stacks = omega (arith, more.stacks, h.stacks);
      flows = omega (arith, more.flows, h.flows);
    })

pub all_made : (places : List Placed) (width : ℕ) (height : Option ℕ) (boxes : List BoxInfo) (marks : List Mark) (i : ℕ)
    (s : Parts)
    (content : Content) → length marks ≤ i → AreMade places (begun width height) marks i s → marks ≡ marks_of content
    → AreNumbered places content → HasNoSpanner content
    → data_of boxes (close s) ≡ flows_of_content width height boxes content
all_made places width height boxes marks i s content over_end h whole numbered cut =
    ap (λ (x : Parts). data_of boxes (close x)) (sym (at_drop_all (run places s) marks i over_end) ∙ h.same
    ∙ ap (λ (ms : List Mark). run places (begun width height) ms) whole)
    ∙ made places width height boxes content numbered cut
