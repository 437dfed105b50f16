-- The rows directly in stacks, noted by their numbers: no two have one number.
use Rattle.std.proofs.Common.{◌≡◌, ◌≢◌, ℕ, zero, suc, ◌+◌, ◌-◌, ◌==◌, ◌<◌, ◌≤◌, Bool, true, false, cond, List, [], ◌∷◌, ◌++◌}
use Rattle.std.proofs.Common.{length}
use Rattle.std.proofs.Common.{Option, Some, None, drop, get_or, map, refl, subst, sym, ◌∙◌, ap, arith, ◌⊎◌, inl, inr}
use Rattle.std.proofs.Common.{append_assoc, set}
use Rattle.std.proofs.Common.{length-append, add-one}
use Rattle.std.specs.Prelude.{replicate}
use Rattle.std.specs.List.{flat_map}
use Rattle.std.proofs.lemmas.Bool.{cases_lt, cases_eq}
use Rattle.std.proofs.lemmas.Bool.Decides.{nat_tests}
use Rattle.std.proofs.lemmas.List.{append-nil, drop_more, map-append, length-set, get_or-set_same, get_or-set_other}
use Rattle.std.proofs.lemmas.List.Concat.{flat_map-append}
use Rattle.std.proofs.lemmas.List.Elements.{filter-append}
use Rattle.std.proofs.lemmas.List.Sums.{sum_by-append}
use Rattle.flow_data.specs.Flows.{flow_of, item_of, no_flow, no_item, row_of, stack_of}
use Rattle.flow_data.specs.Soundness.{IsSound, IsSoundItem, count_of}
use Rattle.flow_data.proofs.Counts.{count-cons}
use Rattle.flow_list.specs.Data.{Bound, Each, Flow, FlowsData, Free, Item, Left, Row, Stack}
use Rattle.flow_list.specs.Certificate.{Entry, StackRow, Use, auto_entry, certificate, entries_behind, entry_of}
use Rattle.flow_list.specs.Certificate.{numbers_below, row_book, row_entry}
use Rattle.flow_list.specs.Certificate.{rows_in_stacks, size_entry, stack_row, stack_rows}
use Rattle.flow_list.specs.Stacks.{available_at, available_to}
use Rattle.range_laws.specs.Entries.{EntriesStandOnce, row_in_entry, rows_in_entries}
use Rattle.container_layout.specs.Found.{rows_are_alike, HasFound, numbered, row_found, rows_before, rows_of_stack}
use Rattle.container_layout.specs.Found.{rows_of_stacks}
use Rattle.container_layout.specs.Laid.{IsStack}
use Rattle.container_layout.specs.declared.find.Found.{Found}

-- ---- the rows of a stack, item by item

module _ (d : FlowsData) (bound : Bound) (f : Flow) where
  before-walk : (k : ℕ) (items : List Item) → items ≡ drop k f.items → k + length items ≡ length f.items →
      rows_before d bound f k ++ stack_rows d bound f k items ≡ rows_before d bound f (length f.items)
  before-walk k [] is sum =
      let e : k ≡ length f.items = omega arith in
      append-nil (rows_before d bound f k) ∙ ap (rows_before d bound f) e
  before-walk k (x ∷ items) is sum =
      let here : drop k f.items ≡ item_of f k ∷ drop (k + 1) f.items = drop_more f.items k no_item (omega arith) in
      let first : x ≡ item_of f k = cc in
      let rest : items ≡ drop (suc k) f.items = cc (add-one k) in
      sym (append_assoc (rows_before d bound f k) (stack_row d bound f k x) (stack_rows d bound f (suc k) items))
      ∙ ap (λ item. (rows_before d bound f k ++ stack_row d bound f k item) ++ stack_rows d bound f (suc k) items) first
      ∙ before-walk (suc k) items rest (omega arith)

  pub before-all : rows_before d bound f (length f.items) ≡ stack_rows d bound f 0 f.items
  before-all = let e : 0 + length f.items ≡ length f.items = omega arith in sym (before-walk 0 f.items refl e)

  pub before-split : (k m : ℕ) → (rest : List StackRow) × (rows_before d bound f (m + k) ≡ rows_before d bound f k ++ rest)
  before-split k zero =
      let same : 0 + k ≡ k = omega arith in
      ([], ap (rows_before d bound f) same ∙ sym (append-nil (rows_before d bound f k)))
  before-split k (suc m) =
      let e = before-split k m in
      let last = stack_row d bound f (m + k) (item_of f (m + k)) in
      let same : suc m + k ≡ suc (m + k) = omega arith in
      (e.0 ++ last, ap (rows_before d bound f) same ∙ ap (λ xs. xs ++ last) e.1 ∙ append_assoc (rows_before d bound f k) e.0 last)

-- ---- the rows of all stacks

pub stacks-more : (d : FlowsData) (n : ℕ) → rows_of_stacks d (suc n) ≡ rows_of_stacks d n ++ rows_of_stack d n
stacks-more d n =
    flat_map-append (rows_of_stack d) (numbers_below n) (n ∷ [])
    ∙ ap (λ xs. rows_of_stacks d n ++ xs) (append-nil (rows_of_stack d n))

pub stacks-split : (d : FlowsData) (k m : ℕ) → (rest : List StackRow) × (rows_of_stacks d (m + k) ≡ rows_of_stacks d k ++ rest)
stacks-split d k zero =
    let same : 0 + k ≡ k = omega arith in
    ([], ap (rows_of_stacks d) same ∙ sym (append-nil (rows_of_stacks d k)))
stacks-split d k (suc m) =
    let e = stacks-split d k m in
    let same : suc m + k ≡ suc (m + k) = omega arith in (
      e.0 ++ rows_of_stack d (m + k),
      ap (rows_of_stacks d) same ∙ stacks-more d (m + k) ∙ ap (λ xs. xs ++ rows_of_stack d (m + k)) e.1
          ∙ append_assoc (rows_of_stacks d k) e.0 (rows_of_stack d (m + k)),
    )

abbrev pub all_of : FlowsData → List StackRow
all_of d = rows_of_stacks d (length d.stacks)

abbrev pub row_here : FlowsData → Stack → (k r : ℕ) → StackRow
row_here d stack k r = record { row = r; available = available_to d stack.bound (flow_of d stack.flow) k }

-- the stack of a number is followed by others
pub stack-among : (d : FlowsData) (s : ℕ) → s < length d.stacks →
    (more : List StackRow) × (all_of d ≡ (rows_of_stacks d s ++ rows_of_stack d s) ++ more)
stack-among d s lt =
    let n : length d.stacks - suc s + suc s ≡ length d.stacks = omega arith in
    let e = stacks-split d (suc s) (length d.stacks - suc s) in
    (e.0, sym (ap (rows_of_stacks d) n) ∙ e.1 ∙ ap (λ xs. xs ++ e.0) (stacks-more d s))

-- an item among those of a stack
pub item-among : (d : FlowsData) (bound : Bound) (f : Flow) (k : ℕ) → k < length f.items →
    (more : List StackRow) × (rows_before d bound f (length f.items)
    ≡ (rows_before d bound f k ++ stack_row d bound f k (item_of f k)) ++ more)
item-among d bound f k lt =
    let n : length f.items - suc k + suc k ≡ length f.items = omega arith in
    let e = before-split d bound f (suc k) (length f.items - suc k) in
    (e.0, sym (ap (rows_before d bound f) n) ∙ e.1)

-- where a row of a stack stands among all
pub record Among (all : List StackRow) (x : StackRow) : Type 0 where
  pub first : List StackRow
  pub rest : List StackRow
  pub is : all ≡ first ++ x ∷ rest

pub row-among : (d : FlowsData) (stack : Stack) → IsStack d stack → (k r : ℕ) → k < length (flow_of d stack.flow).items →
    item_of (flow_of d stack.flow) k ≡ Row r → Among (all_of d) (row_here d stack k r)
row-among d stack is k r lt at =
    let f = flow_of d stack.flow in
    let s = stack-among d is.number is.known in
    let i = item-among d stack.bound f k lt in
    let own : rows_of_stack d is.number ≡ rows_before d stack.bound f (length f.items) =
    ap (λ (x : Stack). stack_rows d x.bound (flow_of d x.flow) 0 (flow_of d x.flow).items) (sym is.is)
    ∙ sym (before-all d stack.bound f) in
    let one : rows_of_stack d is.number ≡ (rows_before d stack.bound f k ++ row_here d stack k r ∷ []) ++ i.0 =
    own ∙ i.1 ∙ ap (λ item. (rows_before d stack.bound f k ++ stack_row d stack.bound f k item) ++ i.0) at in
    let before = rows_of_stacks d is.number in
    let x = row_here d stack k r in
    let ys = rows_before d stack.bound f k in
    record {
      first = before ++ ys;
      rest = i.0 ++ s.0;
      is = s.1 ∙ ap (λ xs. (before ++ xs) ++ s.0) one ∙ regroup before ys i.0 s.0 x;
    }
  where
    regroup : (a b c e : List StackRow) (x : StackRow) → (a ++ ((b ++ x ∷ []) ++ c)) ++ e ≡ (a ++ b) ++ x ∷ (c ++ e)
    regroup a b c e x = simp append_assoc

-- ---- no two rows have one number

abbrev numbers_of : List StackRow → List ℕ
numbers_of rs = map (λ (r : StackRow). r.row) rs

no-rows : (us : List Use) → rows_in_entries (map size_entry us) ≡ []
no-rows [] = refl
no-rows (u ∷ us) = no-rows us

entry-row : (d : FlowsData) (r : StackRow) (es : List Entry) → rows_in_entries (entry_of d r ∷ es) ≡ r.row ∷ rows_in_entries es
entry-row d r es = go (row_of d r.row).auto
  where
    go : (b : Bool) → row_in_entry (cond b (auto_entry r) (row_entry r)) ++ rows_in_entries es ≡ r.row ∷ rows_in_entries es
    go true = refl
    go false = refl

-- each row has one entry in the certificate
entries-rows : (d : FlowsData) (book : List Use) (rs : List StackRow) → rows_in_entries (entries_behind d book rs) ≡ numbers_of rs
entries-rows d book [] = refl
entries-rows d book (r ∷ rs) =
    let new = drop (length book) (row_book d book r) in
    let rest = entries_behind d (row_book d book r) rs in
    flat_map-append row_in_entry (map size_entry new) (entry_of d r ∷ rest)
    ∙ ap (λ xs. xs ++ rows_in_entries (entry_of d r ∷ rest)) (no-rows new)
    ∙ entry-row d r rest ∙ ap (λ xs. r.row ∷ xs) (entries-rows d (row_book d book r) rs)

-- those of a number, counted
counted : (n : ℕ) (xs : List StackRow) → count_of n (numbers_of (numbered n xs)) ≡ length (numbered n xs)
counted n [] = refl
counted n (x ∷ xs) = go (x.row == n) refl (counted n xs)
  where
    go : (b : Bool) → (x.row == n) ≡ b → count_of n (numbers_of (numbered n xs)) ≡ length (numbered n xs) →
        count_of n (numbers_of (cond b (x ∷ numbered n xs) (numbered n xs))) ≡ length (cond b (x ∷ numbered n xs) (numbered n xs))
    go true e rest =
        let last : 1 + length (numbered n xs) ≡ suc (length (numbered n xs)) = omega arith in
        count-cons n x.row (numbers_of (numbered n xs))
        ∙ ap (λ b. cond b 1 0 + count_of n (numbers_of (numbered n xs))) e ∙ ap (λ m. 1 + m) rest ∙ last
    go false e rest = rest

part-counted : (pick : ℕ → List StackRow) (r n : ℕ) → r < n →
    count_of r (numbers_of (pick r)) ≤ count_of r (numbers_of (flat_map pick (numbers_below n)))
part-counted pick r zero lt = absurd (omega arith)
part-counted pick r (suc n) lt = go (cases_lt r n) (λ low. part-counted pick r n low)
  where
    both : numbers_of (flat_map pick (numbers_below (suc n))) ≡ numbers_of (flat_map pick (numbers_below n)) ++ numbers_of (pick
        n)
    both = ap numbers_of (flat_map-append pick (numbers_below n) (n ∷ [])
        ∙ ap (λ xs. flat_map pick (numbers_below n) ++ xs) (append-nil (pick n)))
        ∙ map-append (λ (x : StackRow). x.row) (flat_map pick (numbers_below n)) (pick n)

    sum : count_of r (numbers_of (flat_map pick (numbers_below (suc n))))
        ≡ count_of r (numbers_of (flat_map pick (numbers_below n))) + count_of r (numbers_of (pick n))
    sum = ap (count_of r) both
        ∙ sum_by-append (λ k. cond (k == r) 1 0) (numbers_of (flat_map pick (numbers_below n))) (numbers_of (pick n))

    go : (r < n) ⊎ (n ≤ r) → (r < n → count_of r (numbers_of (pick r)) ≤ count_of r
        (numbers_of (flat_map pick (numbers_below n)))) →
        count_of r (numbers_of (pick r)) ≤ count_of r (numbers_of (flat_map pick (numbers_below (suc n))))
    go (inl low) rest = let a = rest low in let b = sum in omega arith
    go (inr high) rest =
        let e : n ≡ r = omega arith in
        let own = ap (λ m. count_of r (numbers_of (pick m))) e in
        let b = sum in
        omega arith

module _ (d : FlowsData) (sound : IsSound d) (stack : Stack) (is : IsStack d stack) (k r : ℕ)
    (lt : k < length (flow_of d stack.flow).items) (at : item_of (flow_of d stack.flow) k ≡ Row r) where
  pub flow-known : stack.flow < length d.flows
  flow-known = let P : Stack → Type 0 = λ s. s.flow < length d.flows in subst P (sym is.is) (sound.stacks is.number is.known).flow

  pub row-known : r < length d.rows
  row-known = let P : Item → Type 0 = λ i. IsSoundItem d i in
      subst P at ((sound.flows stack.flow no_flow flow-known).items k no_item lt)

  numbered-once : EntriesStandOnce d → length (numbered r (all_of d)) ≤ 1
  unfolding certificate rows_in_stacks
  numbered-once law =
      let P : Stack → Type 0 = λ s. k < length (flow_of d s.flow).items in
      let Q : Stack → Type 0 = λ s. item_of (flow_of d s.flow) k ≡ Row r in
      let entry = law.one_entry is.number k r is.known (subst P is.is lt) (subst Q is.is at) in
      let same = ap (count_of r) (entries-rows d [] (rows_in_stacks d)) in
      let part = part-counted (λ n. numbered n (all_of d)) r (length d.rows) row-known in
      let all = counted r (all_of d) in
      omega arith

  -- before a row of a stack there is no other one of its number
  pub none-before : EntriesStandOnce d → (rows more : List StackRow) (x : StackRow) → x.row ≡ r →
      all_of d ≡ (rows ++ x ∷ []) ++ more →
      numbered r rows ≡ []
  none-before law rows more x own split = go (numbered r rows) refl
    where
      test : StackRow → Bool
      test x = x.row == r

      here : (x.row == r) ≡ true
      here = grind (arith, nat_tests)

      parts : numbered r (all_of d) ≡ (numbered r rows ++ x ∷ []) ++ numbered r more
      parts =
          ap (numbered r) split ∙ filter-append (λ (x : StackRow). x.row == r) (rows ++ x ∷ []) more
          ∙ ap (λ xs. xs ++ numbered r more) (filter-append (λ (x : StackRow). x.row == r) rows (x ∷ []))
          ∙ ap (λ b. (numbered r rows ++ cond b (x ∷ []) []) ++ numbered r more) here

      go : (xs : List StackRow) → numbered r rows ≡ xs → numbered r rows ≡ []
      go [] e = e
      go (y ∷ ys) e =
          let few = numbered-once law in
          let same = ap length parts in
          let long = ap length e in
          absurd (omega (
            arith,
            length-append (numbered r rows ++ x ∷ []) (numbered r more),
            length-append (numbered r rows) (x ∷ []),
          ))

-- ---- the table

pub nothing-found : (d : FlowsData) (table : List (Option Found)) → length table ≡ length d.rows →
    ((n : ℕ) → get_or table n None ≡ None) → HasFound d [] table
nothing-found d table count none = record { count = count; each = λ n lt. sym (ap (row_found n) (none n)) }

numbered-push : (n : ℕ) (rows : List StackRow) (x : StackRow) → numbered n (rows ++ x ∷ [])
    ≡ numbered n rows ++ cond (x.row == n) (x ∷ []) []
numbered-push n rows x = filter-append (λ (x : StackRow). x.row == n) rows (x ∷ [])

pub row-noted : (d : FlowsData) (rows : List StackRow) (table : List (Option Found)) (r : ℕ) (found : Found) (x : StackRow) →
    r < length d.rows → x ≡ record { row = r; available = found.available } → numbered r rows ≡ [] → HasFound d rows table →
    HasFound d (rows ++ x ∷ []) (set table r (Some found))
row-noted d rows table r found x known is none has = record {
  count = length-set table r (Some found) ∙ has.count;
  each = λ n lt. go n lt (cases_eq n r);
}
  where
    own : x.row ≡ r
    own = ap (λ (x : StackRow). x.row) is

    go : (n : ℕ) → n < length d.rows → (n ≡ r) ⊎ (n ≢ r) →
        numbered n (rows ++ x ∷ []) ≡ row_found n (get_or (set table r (Some found)) n None)
    go n lt (inl e) =
        let count = has.count in
        let test : (x.row == r) ≡ true = grind (arith, nat_tests) in
        let there : numbered r (rows ++ x ∷ []) ≡ x ∷ [] =
        numbered-push r rows x ∙ ap (λ b. numbered r rows ++ cond b (x ∷ []) []) test ∙ ap (λ xs. xs ++ x ∷ []) none in
        rw e (there ∙ ap (λ y. y ∷ []) is
        ∙ sym (ap (row_found r) (get_or-set_same table r (Some found) None (omega arith))))
    go n lt (inr ne) =
        let test : (x.row == n) ≡ false = grind (arith, nat_tests) in
        numbered-push n rows x ∙ ap (λ b. numbered n rows ++ cond b (x ∷ []) []) test ∙ append-nil (numbered n rows)
        ∙ has.each n lt ∙ ap (row_found n) (sym (get_or-set_other table r n (Some found) None ne))

-- ---- the items of a stack, noted

-- an atom is no row
pub atom-noted : (d : FlowsData) (bound : Bound) (f : Flow) (k : ℕ) (item : Item) → item ≡ item_of f k →
    stack_row d bound f k item ≡ [] → (rows : List StackRow) (table : List (Option Found)) → HasFound d rows table →
    HasFound d (rows ++ stack_row d bound f k (item_of f k)) table
atom-noted d bound f k item is none rows table has =
    let P : List StackRow → Type 0 = λ rs. HasFound d rs table in
    subst P (sym (append-nil rows) ∙ ap (λ rs. rows ++ rs) (sym none) ∙ ap (λ i. rows ++ stack_row d bound f k i) is) has

pub item-noted : (d : FlowsData) (sound : IsSound d) (stack : Stack) (is : IsStack d stack) (k r : ℕ)
    (lt : k < length (flow_of d stack.flow).items) (at : item_of (flow_of d stack.flow) k ≡ Row r)
    (law : EntriesStandOnce d) (rows more : List StackRow) (table new : List (Option Found)) (found : Found) →
    found.available ≡ available_to d stack.bound (flow_of d stack.flow) k → new ≡ set table r (Some found) →
    all_of d ≡ (rows ++ stack_row d stack.bound (flow_of d stack.flow) k (item_of (flow_of d stack.flow) k)) ++ more →
    HasFound d rows table →
    HasFound d (rows ++ stack_row d stack.bound (flow_of d stack.flow) k (item_of (flow_of d stack.flow) k)) new
item-noted d sound stack is k r lt at law rows more table new found there more_is split has =
    let f = flow_of d stack.flow in
    let x = row_here d stack k r in
    let known = row-known d sound stack is k r lt at in
    let own : x ≡ record { row = r; available = found.available } =
    ap (λ (a : Option ℕ). StackRowOf r a) (sym there) in
    let cut : all_of d ≡ (rows ++ x ∷ []) ++ more =
    split ∙ ap (λ item. (rows ++ stack_row d stack.bound f k item) ++ more) at in
    let P : Item → Type 0 = λ item. HasFound d (rows ++ stack_row d stack.bound f k item) new in
    let Q : List (Option Found) → Type 0 = λ t. HasFound d (rows ++ x ∷ []) t in
    subst P (sym at) (subst Q (sym more_is) (row-noted d rows table r found x known own
    (none-before d sound stack is k r lt at law rows more x refl cut) has))
  where
    StackRowOf : ℕ → Option ℕ → StackRow
    StackRowOf r a = record { row = r; available = a }

-- one item more of a stack
pub item-goes : (d : FlowsData) (bound : Bound) (f : Flow) (k : ℕ) → k < length f.items → (rows more : List StackRow)
    (table new : List (Option Found)) → all_of d ≡ (rows ++ rows_before d bound f (length f.items)) ++ more →
    HasFound d (rows ++ rows_before d bound f k) table →
    ((rows more : List StackRow) → all_of d ≡ (rows ++ stack_row d bound f k (item_of f k)) ++ more → HasFound d rows table →
    HasFound d (rows ++ stack_row d bound f k (item_of f k)) new) →
    HasFound d (rows ++ rows_before d bound f (k + 1)) new
item-goes d bound f k lt rows more table new split has step =
    let one = stack_row d bound f k (item_of f k) in
    let here = rows_before d bound f k in
    let e = item-among d bound f k lt in
    let cut : all_of d ≡ ((rows ++ here) ++ one) ++ (e.0 ++ more) =
    split ∙ ap (λ xs. (rows ++ xs) ++ more) e.1 ∙ regroup rows here one e.0 more in
    let P : List StackRow → Type 0 = λ rs. HasFound d rs new in
    let next : (rows ++ here) ++ one ≡ rows ++ rows_before d bound f (k + 1) =
    append_assoc rows here one ∙ ap (λ j. rows ++ rows_before d bound f j) (sym (add-one k)) in
    subst P next (step (rows ++ here) (e.0 ++ more) cut has)
  where
    regroup : (a b c e m : List StackRow) → (a ++ ((b ++ c) ++ e)) ++ m ≡ ((a ++ b) ++ c) ++ (e ++ m)
    regroup a b c e m = simp append_assoc

pub none-noted : (d : FlowsData) (bound : Bound) (f : Flow) (rows : List StackRow) (table : List (Option Found)) →
    HasFound d rows table → HasFound d (rows ++ rows_before d bound f 0) table
none-noted d bound f rows table has =
    let P : List StackRow → Type 0 = λ rs. HasFound d rs table in subst P (sym (append-nil rows)) has

-- the rows of a stack are those among all its items
pub stack-rows : (d : FlowsData) (number : ℕ) (stack : Stack) → stack ≡ stack_of d number →
    rows_before d stack.bound (flow_of d stack.flow) (length (flow_of d stack.flow).items) ≡ rows_of_stack d number
stack-rows d number stack is =
    before-all d stack.bound (flow_of d stack.flow)
    ∙ ap (λ (x : Stack). stack_rows d x.bound (flow_of d x.flow) 0 (flow_of d x.flow).items) is

-- one stack more
pub stack-goes : (d : FlowsData) (n : ℕ) → n < length d.stacks → (table new : List (Option Found)) →
    HasFound d (rows_of_stacks d n) table →
    ((rows more : List StackRow) → all_of d ≡ (rows ++ rows_of_stack d n) ++ more → HasFound d rows table →
    HasFound d (rows ++ rows_of_stack d n) new) → HasFound d (rows_of_stacks d (n + 1)) new
stack-goes d n lt table new has step =
    let e = stack-among d n lt in
    let P : List StackRow → Type 0 = λ rs. HasFound d rs new in
    subst P (sym (ap (rows_of_stacks d) (add-one n) ∙ stacks-more d n)) (step (rows_of_stacks d n) e.0 e.1 has)

-- where what is available doesn't depend on the place, it is the same at each
pub alike : (bound : Bound) → rows_are_alike bound ≡ true → (x y : ℕ) → available_at bound x ≡ available_at bound y
alike Free is x y = refl
alike (Each height) is x y = refl
alike (Left height) is x y = absurd (cc)

-- ---- nothing noted yet

abbrev nothing : Option Found
nothing = None

get-replicated : (m n : ℕ) → get_or (replicate m nothing) n nothing ≡ nothing
get-replicated zero n = refl
get-replicated (suc m) zero = refl
get-replicated (suc m) (suc n) = get-replicated m n

count-replicated : {X : Type 0} (m : ℕ) (x : X) → length (replicate m x) ≡ m
count-replicated zero x = refl
count-replicated (suc m) x = ap suc (count-replicated m x)

pub none-yet-count : (d : FlowsData) (table : List (Option Found)) (m : ℕ) → table ≡ replicate m None → m ≡ length d.rows →
    length table ≡ length d.rows
none-yet-count d table m is count = ap length is ∙ count-replicated m None ∙ count

pub none-yet : (d : FlowsData) (table : List (Option Found)) (m : ℕ) → table ≡ replicate m None → m ≡ length d.rows →
    HasFound d (rows_of_stacks d 0) table
none-yet d table m is count = nothing-found d table (none-yet-count d table m is count)
    (λ n. ap (λ (t : List (Option Found)). get_or t n nothing) is ∙ get-replicated m n)
