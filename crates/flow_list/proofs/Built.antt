-- What is made of the lines of a flow file are the flows that it says.
use Rattle.std.proofs.Common.{◌≡◌, ℕ, suc, ◌+◌, ◌<◌, ◌≤◌, Bool, true, false, List, [], ◌∷◌, ◌++◌, length, get_or, drop, Option}
use Rattle.std.proofs.Common.{Some, None, refl, sym, ap, ◌∙◌, subst, arith, append-nil, append_assoc, length-append}
use Rattle.std.proofs.lemmas.List.{length-set, at_drop_more, at_drop_all}
use Rattle.std.specs.Prelude.{slice_set}
use Rattle.std.proofs.Math.Seq.{set-append_seam}
use Rattle.mc_base.specs.declared.level.Level.{Level}
use Rattle.mc_base.specs.declared.level.Level.TheVariants.{L0}
use Rattle.flow_text.specs.declared.line.Line.{Line}
use Rattle.flow_text.specs.declared.line.Form.{Form}
use Rattle.flow_text.specs.declared.line.Form.TheVariants as forms
use Rattle.flow_text.specs.Grammar.{Rest, no_more, edge, place, atom, row, line, lines_of, boxes_behind, IsRest, FlowFile}
use Rattle.flow_text.specs.Grammar.{content_lines, IsContent, IsFlowFile}
use Rattle.flow_list.specs.declared.build.OpenRow.{OpenRow}
use Rattle.flow_list.specs.declared.build.Parts.{Parts}
use Rattle.flow_list.specs.Data.{BoxInfo, Edge, Flow, FlowsData, Item, RowInfo, Seam, Stack, Plain, Start, Atom, Row}
use Rattle.flow_list.specs.Building.{begun, open_row, edge_in, with_edge, with_item, with_place, closed, in_row, first, inner_row}
use Rattle.flow_list.specs.Building.{nearest, farther, step, run, parts_of}
use Rattle.flow_list.specs.FileFlows.{line_edges, edges_before, edges_behind, next_level, seam_behind, seams_behind, items_from}
use Rattle.flow_list.specs.FileFlows.{row_count, row_flow, rows_from, flows_from, line_boxes, boxes_from, outer_flow, first_row}
use Rattle.flow_list.specs.FileFlows.{first_stack, content_flows, content_rows, content_boxes, flows_of}
use Rattle.flow_data.specs.Flows.{no_flow}

-- ---- seams

abbrev seam : List Edge → List Edge → Level → Seam
seam tail head level = record { tail = tail; head = head; level = level }

-- the seam in progress, with what is left of it
abbrev seam_with : Bool → Seam → Rest → Seam
seam_with true s r = seam (s.tail ++ edges_before r) (edges_behind r) (next_level r)
seam_with false s r = seam s.tail (s.head ++ edges_before r) s.level

-- in a tail no break place is read yet
abbrev IsFresh : Bool → Seam → Type 0
IsFresh true s = (s.head ≡ []) × (s.level ≡ L0)
IsFresh false s = Unit {0}

abbrev edges_in : Bool → Seam → List Edge → Seam
edges_in true s es = seam (s.tail ++ es) s.head s.level
edges_in false s es = seam s.tail (s.head ++ es) s.level

one_edge : (b : Bool) (s : Seam) (e : Edge) → edge_in b s e ≡ edges_in b s (e ∷ [])
one_edge true s e = refl
one_edge false s e = refl

fresh_behind : (b : Bool) (s : Seam) (es : List Edge) → IsFresh b s → IsFresh b (edges_in b s es)
fresh_behind true s es h = h
fresh_behind false s es h = tt

seam_edge : (b : Bool) (s : Seam) (l : Line) (r : Rest)
    → seam_with b (edges_in b s (line_edges l.form)) r ≡ seam_with b s (edge l r)
seam_edge true s l r = ap (λ (tail : List Edge). seam tail (edges_behind r) (next_level r))
    (append_assoc s.tail (line_edges l.form) (edges_before r))
seam_edge false s l r = ap (λ (head : List Edge). seam s.tail head s.level)
    (append_assoc s.head (line_edges l.form) (edges_before r))

seam_place : (b : Bool) (s : Seam) (at : ℕ) (level : Level) (r : Rest) → b ≡ true → IsFresh b s
    → seam_with false (seam s.tail s.head level) r ≡ seam_with b s (place at level r)
seam_place true s at level r is h =
    ap (λ (head : List Edge). seam s.tail (head ++ edges_before r) level) h.0
    ∙ ap (λ (tail : List Edge). seam tail (edges_before r) level) (sym (append-nil s.tail))
seam_place false s at level r is h = absurd cc

-- the seam ends before an item
seam_item : (b : Bool) (s : Seam) (r : Rest) → b ≡ false → edges_before r ≡ [] → s ≡ seam_with b s r
seam_item true s r is none = absurd cc
seam_item false s r is none = ap (λ (head : List Edge). seam s.tail head s.level) (sym (append-nil s.head))
    ∙ ap (λ (es : List Edge). seam s.tail (s.head ++ es) s.level) (sym none)

-- the seam ends at the row's end
seam_end : (b : Bool) (s : Seam) → b ≡ true → IsFresh b s → s ≡ seam_with b s no_more
seam_end true s is h =
    ap (λ (head : List Edge). seam s.tail head s.level) h.0 ∙ ap (λ (level : Level). seam s.tail [] level) h.1
    ∙ ap (λ (tail : List Edge). seam tail [] L0) (sym (append-nil s.tail))
seam_end false s is h = absurd cc

-- ---- flows

abbrev flow : List Item → List Seam → Flow
flow items seams = record { opened = []; items = items; seams = seams }

-- the flow of an open row with what is left of it, whose next row has number k
abbrev flow_with : OpenRow → ℕ → Rest → Flow
flow_with o k r = flow (o.items ++ items_from k r) (o.seams ++ seam_with o.in_tail o.seam r ∷ seams_behind r)

same_flow : (items : List Item) (seams : List Seam) (s t : Seam) (more : List Seam) → s ≡ t
    → flow items (seams ++ s ∷ more) ≡ flow items (seams ++ t ∷ more)
same_flow items seams s t more e = ap (λ (x : Seam). flow items (seams ++ x ∷ more)) e

-- an item more
flow_item : (o : OpenRow) (item : Item) (k j : ℕ) (r whole : Rest)
    → o.seam ≡ seam_with o.in_tail o.seam whole → items_from j whole ≡ item ∷ items_from k r
    → seams_behind whole ≡ seam_behind r ∷ seams_behind r
    → flow_with (with_item o item) k r ≡ flow_with o j whole
flow_item o item k j r whole ended items seams =
    ap (λ (x : List Item). flow x ((o.seams ++ o.seam ∷ []) ++ seam_behind r ∷ seams_behind r))
    (append_assoc o.items (item ∷ []) (items_from k r))
    ∙ ap (λ (x : List Seam). flow (o.items ++ item ∷ items_from k r) x)
    (append_assoc o.seams (o.seam ∷ []) (seam_behind r ∷ seams_behind r))
    ∙ ap (λ (x : List Item). flow (o.items ++ x) (o.seams ++ o.seam ∷ seam_behind r ∷ seams_behind r)) (sym items)
    ∙ ap (λ (x : List Seam). flow (o.items ++ items_from j whole) (o.seams ++ o.seam ∷ x)) (sym seams)
    ∙ same_flow (o.items ++ items_from j whole) o.seams o.seam (seam_with o.in_tail o.seam whole) (seams_behind whole) ended

flow_end : (o : OpenRow) (k : ℕ) → o.in_tail ≡ true → IsFresh o.in_tail o.seam → closed o ≡ flow_with o k no_more
flow_end o k is fresh =
    same_flow o.items o.seams o.seam (seam_with o.in_tail o.seam no_more) [] (seam_end o.in_tail o.seam is fresh)
    ∙ ap (λ (x : List Item). flow x (o.seams ++ seam_with o.in_tail o.seam no_more ∷ [])) (sym (append-nil o.items))

-- ---- numbers

rows_length : (k : ℕ) (r : Rest) → length (rows_from k r) ≡ row_count r
rows_length k no_more = refl
rows_length k (edge l r) = rows_length k r
rows_length k (place at level r) = rows_length k r
rows_length k (atom at height r) = rows_length k r
rows_length k (row at n w st x content ended r) =
    let inside = rows_length (suc k) content in
    let behind = rows_length (suc k + row_count content) r in
    let both = length-append (rows_from (suc k) content) (rows_from (suc k + row_count content) r) in
    ap suc (both ∙ ap (λ (m : ℕ). m + length (rows_from (suc k + row_count content) r)) inside
    ∙ ap (λ (m : ℕ). row_count content + m) behind)

flows_length : (k : ℕ) (r : Rest) → length (flows_from k r) ≡ row_count r
flows_length k no_more = refl
flows_length k (edge l r) = flows_length k r
flows_length k (place at level r) = flows_length k r
flows_length k (atom at height r) = flows_length k r
flows_length k (row at n w st x content ended r) =
    let inside = flows_length (suc k) content in
    let behind = flows_length (suc k + row_count content) r in
    let both = length-append (flows_from (suc k) content) (flows_from (suc k + row_count content) r) in
    ap suc (both ∙ ap (λ (m : ℕ). m + length (flows_from (suc k + row_count content) r)) inside
    ∙ ap (λ (m : ℕ). row_count content + m) behind)

-- ---- lines

abbrev parts : OpenRow → List OpenRow → List Flow → List RowInfo → List BoxInfo → List Stack → Parts
parts o outer flows rows boxes stacks =
    record { row = o; outer = outer; flows = flows; rows = rows; boxes = boxes; stacks = stacks }

-- the parts after the end of the innermost row, of which this is left
abbrev ended_with : Parts → ℕ → Rest → Parts
ended_with s k r = parts (nearest s.outer) (farther s.outer)
    (slice_set (s.flows ++ flows_from k r) s.row.flow (flow_with s.row k r)) (s.rows ++ rows_from k r) (s.boxes ++ boxes_from r)
    s.stacks

same_parts : (o : OpenRow) (outer : List OpenRow) (fs gs : List Flow) (number : ℕ) (f g : Flow) (ks ls : List RowInfo)
    (bs cs : List BoxInfo) (stacks : List Stack) (after : List Line)
    → fs ≡ gs → f ≡ g → ks ≡ ls → bs ≡ cs → run (parts o outer (slice_set fs number f) ks bs stacks) after
    ≡ run (parts o outer (slice_set gs number g) ls cs stacks) after
same_parts o outer fs gs number f g ks ls bs cs stacks after flows one rows boxes =
    ap (λ (x : List Flow). run (parts o outer (slice_set x number f) ks bs stacks) after) flows
    ∙ ap (λ (x : Flow). run (parts o outer (slice_set gs number x) ks bs stacks) after) one
    ∙ ap (λ (x : List RowInfo). run (parts o outer (slice_set gs number g) x bs stacks) after) rows
    ∙ ap (λ (x : List BoxInfo). run (parts o outer (slice_set gs number g) ls x stacks) after) boxes

abbrev edged : Parts → List Edge → List BoxInfo → Parts
edged s es bs =
    parts (record {
      flow = s.row.flow;
      items = s.row.items;
      seams = s.row.seams;
      seam = edges_in s.row.in_tail s.row.seam es;
      in_tail = s.row.in_tail;
    }) s.outer s.flows s.rows (s.boxes ++ bs) s.stacks

an_edge : (s : Parts) (e : Edge) → in_row s (with_edge s.row e) ≡ edged s (e ∷ []) []
an_edge s e =
    ap (λ (x : Seam). in_row s (record {
      flow = s.row.flow;
      items = s.row.items;
      seams = s.row.seams;
      seam = x;
      in_tail = s.row.in_tail;
    })) (one_edge s.row.in_tail s.row.seam e)
    ∙ ap (λ (x : List BoxInfo). parts
    (record {
      flow = s.row.flow;
      items = s.row.items;
      seams = s.row.seams;
      seam = edges_in s.row.in_tail s.row.seam (e ∷ []);
      in_tail = s.row.in_tail;
    }) s.outer s.flows s.rows x
    s.stacks) (sym (append-nil s.boxes))

over_edge : (f : Form) (s : Parts) (boxes next : List ℕ) → boxes_behind f s.row.in_tail boxes ≡ Some next
    → step s f ≡ edged s (line_edges f) (line_boxes f)
over_edge forms.Flow s boxes next h = absurd cc
over_edge (forms.First n w st available auto) s boxes next h = absurd cc
over_edge (forms.Margin u) s boxes next h = an_edge s _
over_edge (forms.Solid u) s boxes next h = an_edge s _
over_edge forms.Wall s boxes next h = an_edge s _
over_edge (forms.Start number x w avoid top bottom) s boxes next h =
    ap (λ (y : Seam). parts (record {
      flow = s.row.flow;
      items = s.row.items;
      seams = s.row.seams;
      seam = y;
      in_tail = s.row.in_tail;
    }) s.outer s.flows s.rows
    (s.boxes ++ record { x = x; w = w; avoid = avoid; top = top; bottom = bottom } ∷ []) s.stacks)
    (one_edge s.row.in_tail s.row.seam (Start number))
over_edge (forms.End number) s boxes next h = an_edge s _
over_edge (forms.Atom u) s boxes next h = absurd cc
over_edge (forms.Row n w st x) s boxes next h = absurd cc
over_edge (forms.Break level) s boxes next h = absurd cc
over_edge forms.Close s boxes next h = absurd cc

pushed : {X : Type 0} (xs : List X) (x : X) (n : ℕ) → length xs ≡ n → length (xs ++ x ∷ []) ≡ suc n
pushed xs x n e = let both = length-append xs (x ∷ []) in omega (arith, both, e)

-- ---- a row inside the innermost one, which is row k

abbrev inner_info : ℕ → ℕ → ℕ → ℕ → ℕ → RowInfo
inner_info k n w st x = record { flow = suc k; n = n; w = w; step = st; x = x; auto = false }

abbrev within : Parts → ℕ → ℕ → ℕ → ℕ → ℕ → Parts
within s k n w st x = parts (open_row (suc k)) (with_item s.row (Row k) ∷ s.outer) (s.flows ++ no_flow ∷ [])
    (s.rows ++ inner_info k n w st x ∷ []) s.boxes s.stacks

abbrev behind : Parts → ℕ → ℕ → ℕ → ℕ → ℕ → Rest → Parts
behind s k n w st x content =
    parts (with_item s.row (Row k)) s.outer (s.flows ++ row_flow (suc k) content ∷ flows_from (suc k) content)
    (s.rows ++ inner_info k n w st x ∷ rows_from (suc k) content) (s.boxes ++ boxes_from content) s.stacks

counted : (s : Parts) (k n w st x : ℕ) (lines : List Line) → length s.rows ≡ k → length s.flows ≡ suc k
    → run (inner_row s n w st x) lines ≡ run (within s k n w st x) lines
counted s k n w st x lines rows flows =
    ap (λ (m : ℕ). run (parts (open_row m) (with_item s.row (Row (length s.rows)) ∷ s.outer) (s.flows ++ no_flow ∷ [])
    (s.rows ++ record { flow = m; n = n; w = w; step = st; x = x; auto = false } ∷ []) s.boxes s.stacks) lines) flows
    ∙ ap (λ (m : ℕ). run (parts (open_row (suc k)) (with_item s.row (Row m) ∷ s.outer) (s.flows ++ no_flow ∷ [])
    (s.rows ++ inner_info k n w st x ∷ []) s.boxes s.stacks) lines) rows

set_at : (fs : List Flow) (f g : Flow) (gs : List Flow) (n : ℕ) → length fs ≡ n → slice_set (fs ++ f ∷ gs) n g ≡ fs ++ g ∷ gs
set_at fs f g gs n e = ap (λ (m : ℕ). slice_set (fs ++ f ∷ gs) m g) (sym e) ∙ set-append_seam fs f gs g

same_after : (s : Parts) (k n w st x : ℕ) (content : Rest) (lines : List Line) → length s.flows ≡ suc k
    → run (ended_with (within s k n w st x) (suc k) content) lines ≡ run (behind s k n w st x content) lines
same_after s k n w st x content lines flows =
    ap (λ (fs : List Flow). run (parts (with_item s.row (Row k)) s.outer (slice_set fs (suc k) (row_flow (suc k) content))
    (s.rows ++ inner_info k n w st x ∷ [] ++ rows_from (suc k) content) (s.boxes ++ boxes_from content) s.stacks)
    lines) (append_assoc s.flows (no_flow ∷ []) (flows_from (suc k) content))
    ∙ ap (λ (fs : List Flow). run
    (parts (with_item s.row (Row k)) s.outer fs (s.rows ++ inner_info k n w st x ∷ [] ++ rows_from (suc k) content)
    (s.boxes ++ boxes_from content) s.stacks) lines)
    (set_at s.flows no_flow (row_flow (suc k) content) (flows_from (suc k) content) (suc k) flows)
    ∙ ap (λ (ks : List RowInfo). run
    (parts (with_item s.row (Row k)) s.outer (s.flows ++ row_flow (suc k) content ∷ flows_from (suc k) content) ks
    (s.boxes ++ boxes_from content) s.stacks) lines)
    (append_assoc s.rows (inner_info k n w st x ∷ []) (rows_from (suc k) content))

more_rows : (rows : List RowInfo) (k n w st x : ℕ) (content : Rest) → length rows ≡ k
    → length (rows ++ inner_info k n w st x ∷ rows_from (suc k) content) ≡ suc k + row_count content
more_rows rows k n w st x content e =
    let both = length-append rows (inner_info k n w st x ∷ rows_from (suc k) content) in
    let inside = rows_length (suc k) content in
    omega (arith, both, inside, e)

more_flows : (flows : List Flow) (k : ℕ) (content : Rest) → length flows ≡ suc k
    → length (flows ++ row_flow (suc k) content ∷ flows_from (suc k) content) ≡ suc (suc k + row_count content)
more_flows flows k content e =
    let both = length-append flows (row_flow (suc k) content ∷ flows_from (suc k) content) in
    let inside = flows_length (suc k) content in
    omega (arith, both, inside, e)

-- The lines of what is left of a row, and its end, make the row's flow and all that stands in it.
over : (r : Rest) (s : Parts) (k : ℕ) (boxes : List ℕ) (ended : ℕ) (after : List Line)
    → IsRest s.row.in_tail boxes r → IsFresh s.row.in_tail s.row.seam → length s.rows ≡ k → length s.flows ≡ suc k
    → run s (lines_of r (line ended forms.Close ∷ after)) ≡ run (ended_with s k r) after
over no_more s k boxes ended after h fresh rows flows =
    same_parts (nearest s.outer) (farther s.outer) s.flows (s.flows ++ []) s.row.flow (closed s.row) (flow_with s.row k no_more)
    s.rows (s.rows ++ []) s.boxes (s.boxes ++ []) s.stacks after
    (sym (append-nil s.flows)) (flow_end s.row k h.0 fresh) (sym (append-nil s.rows)) (sym (append-nil s.boxes))
over (edge l r) s k boxes ended after h fresh rows flows =
    let next = edged s (line_edges l.form) (line_boxes l.form) in
    ap (λ (p : Parts). run p (lines_of r (line ended forms.Close ∷ after))) (over_edge l.form s boxes h.0 h.1)
    ∙ over r next k h.0 ended after h.2 (fresh_behind s.row.in_tail s.row.seam (line_edges l.form) fresh) rows flows
    ∙ same_parts (nearest s.outer) (farther s.outer) (s.flows ++ flows_from k r) (s.flows ++ flows_from k r) s.row.flow
    (flow_with next.row k r) (flow_with s.row k (edge l r)) (s.rows ++ rows_from k r) (s.rows ++ rows_from k r)
    ((s.boxes ++ line_boxes l.form) ++ boxes_from r) (s.boxes ++ (line_boxes l.form ++ boxes_from r)) s.stacks after
    refl (same_flow (s.row.items ++ items_from k r) s.row.seams (seam_with s.row.in_tail next.row.seam r)
    (seam_with s.row.in_tail s.row.seam (edge l r)) (seams_behind r) (seam_edge s.row.in_tail s.row.seam l r)) refl
    (append_assoc s.boxes (line_boxes l.form) (boxes_from r))
over (place at level r) s k boxes ended after h fresh rows flows =
    let next = in_row s (with_place s.row level) in
    over r next k boxes ended after h.1 tt rows flows
    ∙ same_parts (nearest s.outer) (farther s.outer) (s.flows ++ flows_from k r) (s.flows ++ flows_from k r) s.row.flow
    (flow_with next.row k r) (flow_with s.row k (place at level r)) (s.rows ++ rows_from k r) (s.rows ++ rows_from k r)
    (s.boxes ++ boxes_from r) (s.boxes ++ boxes_from r) s.stacks after
    refl (same_flow (s.row.items ++ items_from k r) s.row.seams (seam_with false next.row.seam r)
    (seam_with s.row.in_tail s.row.seam (place at level r)) (seams_behind r)
    (seam_place s.row.in_tail s.row.seam at level r h.0 fresh)) refl refl
over (atom at height r) s k boxes ended after h fresh rows flows =
    let next = in_row s (with_item s.row (Atom height Plain)) in
    over r next k boxes ended after h.1 (refl, refl) rows flows
    ∙ same_parts (nearest s.outer) (farther s.outer) (s.flows ++ flows_from k r) (s.flows ++ flows_from k r) s.row.flow
    (flow_with next.row k r) (flow_with s.row k (atom at height r)) (s.rows ++ rows_from k r) (s.rows ++ rows_from k r)
    (s.boxes ++ boxes_from r) (s.boxes ++ boxes_from r) s.stacks after
    refl (flow_item s.row (Atom height Plain) k k r (atom at height r)
    (seam_item s.row.in_tail s.row.seam (atom at height r) h.0 refl) refl refl) refl refl
over (row at n w st x content ended_at r) s k boxes ended after h fresh rows flows =
    let left : List Line = lines_of r (line ended forms.Close ∷ after) in
    let j : ℕ = suc k + row_count content in
    counted s k n w st x (lines_of content (line ended_at forms.Close ∷ left)) rows flows
    ∙ over content (within s k n w st x) (suc k) [] ended_at left h.1 tt (pushed s.rows (inner_info k n w st x) k rows)
    (pushed s.flows no_flow (suc k) flows)
    ∙ same_after s k n w st x content left flows
    ∙ over r (behind s k n w st x content) j boxes ended after h.2 (refl, refl) (more_rows s.rows k n w st x content rows)
    (more_flows s.flows k content flows)
    ∙ same_parts (nearest s.outer) (farther s.outer)
    (s.flows ++ row_flow (suc k) content ∷ flows_from (suc k) content ++ flows_from j r)
    (s.flows ++ (row_flow (suc k) content ∷ flows_from (suc k) content ++ flows_from j r)) s.row.flow
    (flow_with (with_item s.row (Row k)) j r) (flow_with s.row k (row at n w st x content ended_at r))
    (s.rows ++ inner_info k n w st x ∷ rows_from (suc k) content ++ rows_from j r)
    (s.rows ++ (inner_info k n w st x ∷ rows_from (suc k) content ++ rows_from j r))
    (s.boxes ++ boxes_from content ++ boxes_from r) (s.boxes ++ (boxes_from content ++ boxes_from r)) s.stacks after
    (append_assoc s.flows (row_flow (suc k) content ∷ flows_from (suc k) content) (flows_from j r))
    (flow_item s.row (Row k) j k r (row at n w st x content ended_at r)
    (seam_item s.row.in_tail s.row.seam (row at n w st x content ended_at r) h.0 refl) refl refl)
    (append_assoc s.rows (inner_info k n w st x ∷ rows_from (suc k) content) (rows_from j r))
    (append_assoc s.boxes (boxes_from content) (boxes_from r))

-- ---- the file

abbrev to_content : FlowFile → Parts
to_content f = first begun f.n f.w f.step f.available f.auto

abbrev content_parts : FlowFile → Option Rest → FlowsData
content_parts f content = record {
  flows = outer_flow ∷ content_flows content;
  rows = first_row f ∷ content_rows content;
  boxes = content_boxes content;
  stacks = first_stack f ∷ [];
}

content_made : (content : Option Rest) (f : FlowFile) → IsContent content
    → parts_of (run (to_content f) (content_lines content (line f.ended forms.Close ∷ []))) ≡ content_parts f content
content_made None f h = refl
content_made (Some r) f h = ap parts_of (over r (to_content f) 1 [] f.ended [] h tt refl refl)

built : (lines : List Line) (f : FlowFile) → IsFlowFile lines f → parts_of (run begun lines) ≡ flows_of f
built lines f h = ap (λ (ls : List Line). parts_of (run begun ls)) h.whole ∙ content_made f.content f h.content

-- ---- a line adds a row at most

rows_grow : (form : Form) (s : Parts) → length (step s form).rows ≤ length s.rows + 1
rows_grow (forms.First n w st available auto) s =
    let more = length-append s.rows (record { flow = 1; n = n; w = w; step = st; x = 0; auto = auto } ∷ []) in omega (arith, more)
rows_grow (forms.Row n w st x) s =
    let more = length-append s.rows (record { flow = length s.flows; n = n; w = w; step = st; x = x; auto = false } ∷ [])
    in omega (arith, more)
rows_grow _ s = omega arith

flows_grow : (form : Form) (s : Parts) → length (step s form).flows ≤ length s.flows + 1
flows_grow (forms.Row n w st x) s = let more = length-append s.flows (no_flow ∷ []) in omega (arith, more)
flows_grow forms.Close s = let same = length-set s.flows s.row.flow (closed s.row) in omega (arith, same)
flows_grow _ s = omega arith

-- So far the parts are those of the lines before i.
abbrev pub AreBuilt : List Line → ℕ → Parts → Type 0
AreBuilt lines i s = (run s (drop i lines) ≡ run begun lines) × (length s.rows ≤ i) × (length s.flows ≤ i + 2)

pub line_more : (lines : List Line) (i : ℕ) (d : Line) (s t : Parts) → i < length lines → t ≡ step s (get_or lines i d).form
    → AreBuilt lines i s → AreBuilt lines (i + 1) t
line_more lines i d s t inside taken h =
    let line : Line = get_or lines i d in
    let next : run (step s line.form) (drop (i + 1) lines) ≡ run begun lines = sym (at_drop_more (run s) lines i d inside)
    ∙ h.0 in
    let rows = rows_grow line.form s in
    let flows = flows_grow line.form s in
    subst (AreBuilt lines (i + 1)) (sym taken) (next, omega (arith, rows, h.1), omega (arith, flows, h.2))

pub all_built : (lines : List Line) (i : ℕ) (s : Parts) (file : FlowFile) → length lines ≤ i → AreBuilt lines i s
    → IsFlowFile lines file → parts_of s ≡ flows_of file
all_built lines i s file over h is = ap parts_of (sym (at_drop_all (run s) lines i over) ∙ h.0) ∙ built lines file is
