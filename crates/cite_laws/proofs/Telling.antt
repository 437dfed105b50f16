-- Lines tell the rows that they rest on.
use Rattle.std.proofs.Common.{◌≡◌, ℕ, zero, suc, ◌+◌, ◌-◌, Bool, true, false, List, [], ◌∷◌, ◌++◌, length, take, map}
use Rattle.std.proofs.Common.{refl, sym, ◌∙◌, ap, subst, cond, arith, Option, Some, None, length-append}
use Rattle.std.specs.Prelude.{nat_lt, ◌||◌, slice_get}
use Rattle.std.proofs.lemmas.List.{append_assoc, append-nil, map-append}
use Rattle.flow_list.specs.Data.{Flow, FlowsData}
use Rattle.flow_data.specs.Flows.{row_of, flow_in}
use Rattle.flow_list.specs.Tokens.{Token, item_number, within, is_end}
use Rattle.flow_list.specs.Column.{Column, ColumnLine, Step, steps_from, start_strip, cut, room, is_cut}
use Rattle.flow_list.specs.Column.{row_list, fill_in_room, deeper, inner_lines, column_up_to, column}
use Rattle.flow_list.specs.Column.{avoids_at, rows_among}
use Rattle.flow_list.specs.Rows.{columns_by, columns, up_to, to_overflow, fill_in, rows_to, all_rows, fails}
use Rattle.flow_list.specs.Rows.{most_columns}
use Rattle.flow_list.specs.Ranges.{Range, judged, lines_of, to_failure}
use Rattle.flow_list.specs.Certificate.{Use, owned_in_fill, owned_by, column_owned, columns_owned, owned_to, range_owned}
use Rattle.cite_laws.specs.Starts.{rows_to_stop, next_start, inner_start, line_rows}
use Rattle.cite_laws.specs.Starts.{starts_behind, rows_of_lines, LinesTell}
use Rattle.cite_laws.proofs.Stops.{IsStop, StopSays, cut-says}

-- ---- lines at a depth

abbrev at_depth : ℕ → ColumnLine → ColumnLine
at_depth b l = record { depth = b + l.depth; end = l.end; stop = l.stop }

abbrev deep : ℕ → List ColumnLine → List ColumnLine
deep b ls = map (at_depth b) ls

deep-more : (b : ℕ) (ls : List ColumnLine) → deep b (map deeper ls) ≡ deep (b + 1) ls
deep-more b [] = refl
deep-more b (l ∷ ls) =
    let e : b + (l.depth + 1) ≡ b + 1 + l.depth = omega arith in
    ap (λ (n : ℕ). record { depth = n; end = l.end; stop = l.stop } ∷ deep b (map deeper ls)) e
    ∙ ap (λ (xs : List ColumnLine). at_depth (b + 1) l ∷ xs) (deep-more b ls)

deep-none : (ls : List ColumnLine) → deep 0 ls ≡ ls
deep-none [] = refl
deep-none (l ∷ ls) =
    let e : 0 + l.depth ≡ l.depth = omega arith in
    ap (λ (n : ℕ). record { depth = n; end = l.end; stop = l.stop } ∷ deep 0 ls) e
    ∙ ap (λ (xs : List ColumnLine). l ∷ xs) (deep-none ls)

-- ---- where columns begin

-- Columns of depth b begin here, and those around them as before.
record Begins (b : ℕ) (outer : List Use) (u : Use) (starts : List Use) : Type 0 where
  here : slice_get starts b ≡ Some u
  around : take b starts ≡ outer

get-behind : (outer : List Use) (u : Use) (rest : List Use) → slice_get (outer ++ u ∷ rest) (length outer) ≡ Some u
get-behind [] u rest = refl
get-behind (o ∷ outer) u rest = get-behind outer u rest

take-behind : (outer rest : List Use) → take (length outer) (outer ++ rest) ≡ outer
take-behind [] rest = refl
take-behind (o ∷ outer) rest = ap (λ (us : List Use). o ∷ us) (take-behind outer rest)

begins-behind : (b : ℕ) (outer : List Use) (u : Use) (rest : List Use) → length outer ≡ b → Begins b outer u (outer ++ u ∷ rest)
begins-behind b outer u rest e = record {
  here = ap (λ (n : ℕ). slice_get (outer ++ u ∷ rest) n) (sym e) ∙ get-behind outer u rest;
  around = ap (λ (n : ℕ). take n (outer ++ u ∷ rest)) (sym e) ∙ take-behind outer (u ∷ rest);
}

begins-in : (b : ℕ) (outer : List Use) (u : Use) (starts : List Use) → length outer ≡ b → take (b + 1) starts ≡ outer ++ u ∷ []
    → Begins b outer u starts
begins-in b outer u starts e f = go outer b starts e (let k : b + 1 ≡ suc b = omega arith in
    ap (λ (n : ℕ). take n starts) (sym k) ∙ f)
  where
    go : (outer : List Use) (b : ℕ) (starts : List Use) → length outer ≡ b → take (suc b) starts ≡ outer ++ u ∷ []
        → Begins b outer u starts
    go [] zero [] e f = absurd cc
    go [] zero (x ∷ xs) e f = record {
      here = (let k : x ∷ [] ≡ u ∷ [] = f in let same : x ≡ u = cc in ap (λ
          (v : Use). Some v) same);
      around = refl;
    }
    go [] (suc b) starts e f = absurd (omega arith)
    go (o ∷ outer) zero starts e f = absurd (omega arith)
    go (o ∷ outer) (suc b) [] e f = absurd cc
    go (o ∷ outer) (suc b) (x ∷ xs) e f =
        let h : x ≡ o = cc in
        let t : take (suc b) xs ≡ outer ++ u ∷ [] = cc in
        let k = go outer b xs (omega arith) t in
        let around = k.around in
        record { here = k.here; around = cc }

-- What lines say, and how the lines after them go on: the columns around those of depth b begin as before.
record Goes (d : FlowsData) (b : ℕ) (outer : List Use) (starts : List Use) (ls rest : List ColumnLine) (said : List (List Use))
    : Type 0 where
  next : Use
  after : List Use
  begins : Begins b outer next after
  lines : rows_of_lines d starts (ls ++ rest) ≡ said ++ rows_of_lines d after rest

-- the same where the next column is known
record GoesTo (d : FlowsData) (b : ℕ) (outer : List Use) (next : Use) (starts : List Use) (ls rest : List ColumnLine)
    (said : List (List Use)) : Type 0 where
  after : List Use
  begins : Begins b outer next after
  lines : rows_of_lines d starts (ls ++ rest) ≡ said ++ rows_of_lines d after rest

-- what the lines of fills say, of rows that stand at most so deep
abbrev FillsGo : FlowsData → ℕ → Type 0
FillsGo d depth = (r : ℕ) (q : Token) (a b : ℕ) (outer starts : List Use) (rest : List ColumnLine) → length outer ≡ b
    → Begins b outer (r, q) starts
    → Goes d b outer starts (deep b ((rows_to d depth).fill r q a).lines) rest ((owned_to d depth).fill r q a)

-- ---- a column

abbrev line_at : Option Token → Option ℕ → ColumnLine
line_at end stop = record { depth = 0; end = end; stop = stop }

-- the line of a column
first-line : (d : FlowsData) (b : ℕ) (outer : List Use) (u : Use) (starts : List Use) (end : Option Token) (stop : Option ℕ)
    (ls : List ColumnLine) → Begins b outer u starts
    → rows_of_lines d starts (at_depth b (line_at end stop) ∷ ls)
    ≡ rows_to_stop d u stop ∷ rows_of_lines d (outer ++ next_start u end ∷ inner_start d u stop) ls
first-line d b outer u starts end stop ls k =
    let e : b + 0 ≡ b = omega arith in
    ap (λ (n : ℕ). line_rows d (slice_get starts n) stop ∷ rows_of_lines d
    (starts_behind d starts (record { depth = n; end = end; stop = stop }) (slice_get starts n)) ls) e
    ∙ ap (λ (v : Option Use). line_rows d v stop ∷ rows_of_lines d
    (starts_behind d starts (record { depth = b; end = end; stop = stop }) v) ls) k.here
    ∙ ap (λ (us : List Use). rows_to_stop d u stop ∷ rows_of_lines d (us ++ next_start u end ∷ inner_start d u stop) ls) k.around

-- one with no lines below it
alone-goes : (d : FlowsData) (b : ℕ) (outer : List Use) (u : Use) (starts : List Use) (end : Option Token) (stop : Option ℕ)
    (rest : List ColumnLine) (said : List Use) → length outer ≡ b → Begins b outer u starts → said ≡ rows_to_stop d u stop
    → GoesTo d b outer (next_start u end) starts (deep b (line_at end stop ∷ [])) rest (said ∷ [])
alone-goes d b outer u starts end stop rest said e k is = record {
  after = outer ++ next_start u end ∷ inner_start d u stop;
  begins = begins-behind b outer (next_start u end) (inner_start d u stop) e;
  lines =
      first-line d b outer u starts end stop rest k
      ∙ ap (λ (us : List Use). us ∷ rows_of_lines d (outer ++ next_start u end ∷ inner_start d u stop) rest) (sym is);
}

-- one with the lines of a fill below it
filled-goes : (d : FlowsData) (depth b : ℕ) (outer : List Use) (u v : Use) (starts : List Use) (end : Option Token)
    (stop : Option ℕ)
    (a : ℕ) (rest : List ColumnLine) (said : List Use) → FillsGo d depth → length outer ≡ b → Begins b outer u starts
    → said ≡ rows_to_stop d u stop → inner_start d u stop ≡ v ∷ []
    → GoesTo d b outer (next_start u end) starts (deep b (line_at end stop ∷ map deeper ((rows_to d depth).fill v.0 v.1
    a).lines)) rest
    (said ∷ (owned_to d depth).fill v.0 v.1 a)
filled-goes d depth b outer u v starts end stop a rest said fills e k is row =
    let ls = ((rows_to d depth).fill v.0 v.1 a).lines in
    let next = next_start u end in
    let inner : List Use = outer ++ next ∷ [] in
    let long : length inner ≡ b + 1 = (let l = length-append outer (next ∷ []) in omega arith) in
    let begins : Begins (b + 1) inner v (inner ++ v ∷ []) = begins-behind (b + 1) inner v [] long in
    let f = fills v.0 v.1 a (b + 1) inner (inner ++ v ∷ []) rest long begins in
    record {
      after = f.after;
      begins = begins-in b outer next f.after e f.begins.around;
      lines =
          ap (λ (xs : List ColumnLine). rows_of_lines d starts (at_depth b (line_at end stop) ∷ (xs ++ rest))) (deep-more b ls)
          ∙ first-line d b outer u starts end stop (deep (b + 1) ls ++ rest) k
          ∙ ap (λ (us : List Use). us ∷ rows_of_lines d (outer ++ next ∷ inner_start d u stop) (deep (b + 1) ls ++ rest)) (sym is)
          ∙ ap (λ (us : List Use). said ∷ rows_of_lines d (outer ++ next ∷ us) (deep (b + 1) ls ++ rest)) row
          ∙ ap (λ (us : List Use). said ∷ rows_of_lines d us (deep (b + 1) ls ++ rest))
          (sym (append_assoc outer (next ∷ []) (v ∷ [])))
          ∙ ap (λ (us : List (List Use)). said ∷ us) f.lines;
    }

abbrev end_line : Column → Option Token
end_line c = cond c.overflow None (Some c.end)

abbrev ColumnGoes : FlowsData → ℕ → ℕ → List Use → ℕ → Token → List Use → ℕ → List ColumnLine → Column → List (List Use) → Type 0
ColumnGoes d depth b outer r t starts h rest c said =
    GoesTo d b outer (next_start (r, t) (end_line c)) starts (deep b c.lines) rest said

stopped-goes : (d : FlowsData) (depth b : ℕ) (outer : List Use) (r : ℕ) (t : Token) (starts : List Use) (h : ℕ)
    (rest : List ColumnLine) (before : List Step) (s : Step) → FillsGo d depth → length outer ≡ b → Begins b outer (r, t) starts
    → IsStop (flow_in d r) (item_number t) (within t) before s → (row : Option Use) → s.row ≡ row → (cuts : Bool)
    → (end : Option Token)
    → GoesTo d b outer (next_start (r, t) end) starts
    (deep b (line_at end (Some s.item) ∷ inner_lines cuts (fill_in_room (rows_to d depth) row (room s h)))) rest
    (rows_among (before ++ s ∷ []) ∷ cond cuts (owned_in_fill (owned_to d depth) row (room s h)) [])
stopped-goes d depth b outer r t starts h rest before s fills e k is None row cuts end = go cuts
  where
    go : (cuts : Bool) → GoesTo d b outer (next_start (r, t) end) starts (deep b (line_at end (Some s.item) ∷ [])) rest
        (rows_among (before ++ s ∷ []) ∷ cond cuts [] [])
    go true = alone-goes d b outer (r, t) starts end (Some s.item) rest (rows_among (before ++ s ∷ [])) e k is.rows
    go false = alone-goes d b outer (r, t) starts end (Some s.item) rest (rows_among (before ++ s ∷ [])) e k is.rows
stopped-goes d depth b outer r t starts h rest before s fills e k is (Some v) row false end =
    alone-goes d b outer (r, t) starts end (Some s.item) rest (rows_among (before ++ s ∷ [])) e k is.rows
stopped-goes d depth b outer r t starts h rest before s fills e k is (Some v) row true end =
    filled-goes d depth b outer (r, t) v starts end (Some s.item) (room s h) rest (rows_among (before
    ++ s ∷ [])) fills e k is.rows
    (ap row_list (sym is.row ∙ row))

column-goes : (d : FlowsData) (depth b : ℕ) (outer : List Use) (r : ℕ) (t : Token) (starts : List Use) (h : ℕ)
    (rest : List ColumnLine) → FillsGo d depth → length outer ≡ b → Begins b outer (r, t) starts
    → ColumnGoes d depth b outer r t starts h rest (column (rows_to d depth) d (flow_in d r) t h)
    (column_owned (owned_to d depth) (rows_to d depth) d (flow_in d r) t h)
unfolding column
column-goes d depth b outer r t starts h rest fills e k =
    let inner = rows_to d depth in
    let f = flow_in d r in
    let c = cut h (steps_from inner d f t) in
    let says = cut-says inner d f (start_strip d f t) (item_number t) (within t) (length f.items - item_number t) h in
    go c.before c.stop says
  where
    go : (before : List Step) (stop : Option Step)
        → StopSays (flow_in d r) (item_number t) (within t) (length (flow_in d r).items - item_number t) before stop
        → ColumnGoes d depth b outer r t starts h rest
        (column_up_to (rows_to d depth) (avoids_at d (flow_in d r)) h before stop) (owned_by (owned_to d depth) h before stop)
    go before None is =
        alone-goes d b outer (r, t) starts (end_line (column_up_to (rows_to d depth) (avoids_at d
        (flow_in d r)) h before None)) None
        rest (rows_among before) e k is
    go before (Some s) is =
        stopped-goes d depth b outer r t starts h rest before s fills e k is s.row refl (is_cut s h)
        (end_line (column_up_to (rows_to d depth) (avoids_at d (flow_in d r)) h before (Some s)))

-- ---- columns one after another

-- each begins where the one before it ends, and only the last may overflow
abbrev IsChain : (Token → Column) → Token → List Column → Type 0
IsChain make t [] = Unit {0}
IsChain make t (c ∷ cs) = (c ≡ make t) × (c.overflow ≡ true → cs ≡ []) × IsChain make c.end cs

chain-up : (stops : Column → Bool) → ((c : Column) → c.overflow ≡ true → stops c ≡ true) → (make : Token → Column) (f : Flow)
    (n : ℕ) (t : Token) → IsChain make t (up_to stops (columns_by make f n t))
unfolding columns_by
chain-up stops over make f zero t = tt
chain-up stops over make f (suc n) t = go (is_end f t) (chain-up stops over make f n (make t).end)
  where
    one : (c : Column) (cs : List Column) → c ≡ make t → IsChain make c.end cs → (b : Bool) → stops c ≡ b
        → IsChain make t (c ∷ cond b [] cs)
    one c cs is k true e = (is, λ _. refl, tt)
    one c cs is k false e = (is, λ o. absurd (let f = sym e ∙ over c o in cc), k)

    go : (b : Bool) → IsChain make (make t).end (up_to stops (columns_by make f n (make t).end))
        → IsChain make t (up_to stops (elim b as (λ _. List Column) [
          | true ↦ []
          | false ↦ make t ∷ columns_by make f n (make t).end
        ]))
    go true k = tt
    go false k = one (make t) (up_to stops (columns_by make f n (make t).end)) refl k (stops (make t)) refl

abbrev making : FlowsData → ℕ → ℕ → ℕ → Token → Column
making d depth r h t = column (rows_to d depth) d (flow_in d r) t h

abbrev owning : FlowsData → ℕ → ℕ → ℕ → Token → List (List Use)
owning d depth r h t = column_owned (owned_to d depth) (rows_to d depth) d (flow_in d r) t h

columns-go : (d : FlowsData) (depth b : ℕ) (outer : List Use) (r : ℕ) (h : ℕ) (rest : List ColumnLine) → FillsGo d depth
    → length outer ≡ b → (cs : List Column) (t : Token) (starts : List Use) → IsChain (making d depth r h) t cs
    → Begins b outer (r, t) starts
    → Goes d b outer starts (deep b (lines_of cs)) rest (columns_owned (owning d depth r h) t cs)
columns-go d depth b outer r h rest fills e [] t starts chain k =
    record { next = (r, t); after = starts; begins = k; lines = refl }
columns-go d depth b outer r h rest fills e (c ∷ cs) t starts chain k =
    let later = deep b (lines_of cs) in
    let g = column-goes d depth b outer r t starts h (later ++ rest) fills e k in
    let own = subst (λ (x : Column). ColumnGoes d depth b outer r t starts h (later ++ rest) x (owning d depth r h t))
    (sym chain.0) g in
    go c.overflow refl own.after own.begins own.lines
    (λ after begins. columns-go d depth b outer r h rest fills e cs c.end after chain.2 begins)
  where
    split : rows_of_lines d starts (deep b (c.lines ++ lines_of cs) ++ rest)
        ≡ rows_of_lines d starts (deep b c.lines ++ (deep b (lines_of cs) ++ rest))
    split =
        ap (λ (xs : List ColumnLine). rows_of_lines d starts (xs ++ rest)) (map-append (at_depth b) c.lines (lines_of cs))
        ∙ ap (λ (xs : List ColumnLine). rows_of_lines d starts xs) (append_assoc (deep b c.lines) (deep b (lines_of cs)) rest)

    go : (over : Bool) → c.overflow ≡ over → (after : List Use)
        → Begins b outer (next_start (r, t) (cond over None (Some c.end))) after
        → rows_of_lines d starts (deep b c.lines ++ (deep b (lines_of cs) ++ rest))
        ≡ owning d depth r h t ++ rows_of_lines d after (deep b (lines_of cs) ++ rest)
        → ((after : List Use) → Begins b outer (r, c.end) after
        → Goes d b outer after (deep b (lines_of cs)) rest (columns_owned (owning d depth r h) c.end cs))
        → Goes d b outer starts (deep b (c.lines ++ lines_of cs)) rest
        (owning d depth r h t ++ columns_owned (owning d depth r h) c.end cs)
    go true over after begins lines later =
        let none : cs ≡ [] = chain.1 over in
        record {
          next = (r, t);
          after = after;
          begins = begins;
          lines =
              split ∙ lines
              ∙ ap (λ (xs : List Column). owning d depth r h t ++ rows_of_lines d after (deep b (lines_of xs) ++ rest)) none
              ∙ ap (λ (us : List (List Use)). us ++ rows_of_lines d after rest) (sym (append-nil (owning d depth r h t)))
              ∙ ap (λ (xs : List Column). (owning d depth r h t ++ columns_owned (owning d depth r h) c.end xs)
              ++ rows_of_lines d after rest) (sym none);
        }
    go false over after begins lines later =
        let g = later after begins in
        record {
          next = g.next;
          after = g.after;
          begins = g.begins;
          lines =
              split ∙ lines ∙ ap (λ (us : List (List Use)). owning d depth r h t ++ us) g.lines
              ∙ sym (append_assoc (owning d depth r h t) (columns_owned (owning d depth r h) c.end cs)
              (rows_of_lines d g.after rest));
        }

-- ---- fills, and the whole

fills-go : (d : FlowsData) (depth : ℕ) → FillsGo d depth
unfolding rows_to owned_to fill_in
fills-go d zero = λ r q a b outer starts rest e k. record { next = (r, q); after = starts; begins = k; lines = refl }
fills-go d (suc depth) = λ r q a b outer starts rest e k.
    columns-go d depth b outer r a rest (fills-go d depth) e
    (to_overflow (columns (rows_to d depth) d (flow_in d r) (row_of d r).n q a)) q starts
    (chain-up (λ (c : Column). c.overflow) (λ c o. o) (making d depth r a) (flow_in d r) (row_of d r).n q) k

pub tell : (d : FlowsData) (r : ℕ) (q : Token) (range : Range) → LinesTell d r q range
unfolding all_rows judged range_owned
tell d r q range =
    let n = length d.rows in
    let f = flow_in d r in
    let cs = to_failure (columns (rows_to d n) d f (most_columns (row_of d r).n f q) q range.low) in
    let chain = chain-up fails (λ c o. fails-over c o) (making d n r range.low) f (most_columns (row_of d r).n f q) q in
    let g = columns-go d n 0 [] r range.low [] (fills-go d n) refl cs q ((r, q) ∷ []) chain
    (record { here = refl; around = refl }) in
    ap (λ (ls : List ColumnLine). rows_of_lines d ((r, q) ∷ []) ls) (sym (append-nil (deep 0 (lines_of cs)) ∙ deep-none
    (lines_of cs)))
    ∙ g.lines ∙ append-nil (columns_owned (owning d n r range.low) q cs)
  where
    fails-over : (c : Column) → c.overflow ≡ true → fails c ≡ true
    fails-over c o = ap (λ (t : Bool). t || nat_lt 0 c.level) o
