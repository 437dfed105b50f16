-- The rows of a layout are known, and before each stand as many sizes as the definitions have there.
use Rattle.std.proofs.Common.{◌≡◌, ℕ, zero, suc, ◌+◌, ◌==◌, ◌<◌, ◌≤◌, Bool, true, false, cond, List, [], ◌∷◌, ◌++◌, length, take}
use Rattle.std.proofs.Common.{refl, subst, sym, ◌∙◌, ap, arith, append_assoc, length-append}
use Rattle.std.proofs.lemmas.List.{append-nil, length-map, take-append-le}
use Rattle.std.specs.Prelude.{All, filter}
use Rattle.std.specs.List.{flat_map}
use Rattle.std.proofs.lemmas.Bool.Decides.{nat_tests}
use Rattle.std.proofs.lemmas.List.Concat.{flat_map-append}
use Rattle.std.proofs.lemmas.List.Elements.{All-nil, All-cons, All-append, All-head, All-tail}
use Rattle.flow_data.specs.declared.data.FlowsData.{FlowsData}
use Rattle.flow_data.specs.Flows.{row_of}
use Rattle.flow_list.specs.Book.{after_uses}
use Rattle.flow_list.specs.Certificate.{Use, StackRow, numbers_below, row_book, row_uses, book_behind, rows_in_stacks, book_of}
use Rattle.flow_list.specs.Entries.{use_of, uses_in}
use Rattle.flow_list.specs.declared.book.SizeEntry.{SizeEntry}
use Rattle.flow_list.specs.declared.laid.LaidRow.{LaidRow}
use Rattle.frag_pool.specs.Nodes.{Nodes}
use Rattle.inner_rows.specs.TrueBook.{IsTrueEntry}
use Rattle.range_laws.specs.Entering.{Extends, UsesEnter}
use Rattle.container_layout.specs.Laid as laid
use Rattle.container_layout.specs.Laid.{AreLaidAfter}
use Rattle.cert_laws.specs.Laid.{AreLaidRows, IsLaidRow, IsSizeEntry, MadeIsLayouts}
use Rattle.cert_laws.specs.Made.{BeforesRise}
use Rattle.layout_laws.specs.Certified.{LayoutIsCertified}

-- ---- rows that are known

abbrev IsKnown : ℕ → StackRow → Type 0
IsKnown m r = r.row < m

-- rows of a number below a count have it
passed : (n m : ℕ) → n < m → (all : List StackRow) → All (IsKnown m) (filter (λ (r : StackRow). r.row == n) all)
passed n m low [] = All-nil (IsKnown m)
passed n m low (r ∷ rs) = go (r.row == n) refl (passed n m low rs)
  where
    go : (b : Bool) → (r.row == n) ≡ b → All (IsKnown m) (filter (λ (x : StackRow). x.row == n) rs)
        → All (IsKnown m) (cond b (r ∷ filter (λ (x : StackRow). x.row == n) rs) (filter (λ (x : StackRow). x.row == n) rs))
    go true is rest = All-cons (IsKnown m) r _ (grind (arith, nat_tests)) rest
    go false is rest = rest

below-known : (all : List StackRow) (n m : ℕ) → n ≤ m
    → All (IsKnown m) (flat_map (λ k. filter (λ (r : StackRow). r.row == k) all) (numbers_below n))
below-known all zero m le = All-nil (IsKnown m)
below-known all (suc n) m le =
    subst (All (IsKnown m)) (sym (flat_map-append pick (numbers_below n) (n ∷ [])))
    (All-append (IsKnown m) (flat_map pick (numbers_below n)) (pick n ++ []) (below-known all n m (omega arith))
    (All-append (IsKnown m) (pick n) [] (passed n m (omega arith) all) (All-nil (IsKnown m))))
  where
    pick : ℕ → List StackRow
    pick k = filter (λ (r : StackRow). r.row == k) all

rows-known : (d : FlowsData) → All (IsKnown (length d.rows)) (rows_in_stacks d)
unfolding rows_in_stacks
rows-known d = below-known _ (length d.rows) (length d.rows) (omega arith)

module _ (d : FlowsData) (pool : Nodes) (enter : UsesEnter d) where
  laid-known : (book : List Use) (rs : List StackRow) (outs : List LaidRow) → AreLaidAfter d pool book rs outs
      → All (IsKnown (length d.rows)) rs → All (λ (r : LaidRow). r.row < length d.rows) outs
  laid-known book [] [] are known = All-nil (λ (r : LaidRow). r.row < length d.rows)
  laid-known book [] (out ∷ outs) are known = absurd are
  laid-known book (r ∷ rs) [] are known = absurd are
  laid-known book (r ∷ rs) (out ∷ outs) are known =
      let first : r.row < length d.rows = All-head (IsKnown (length d.rows)) r rs known in
      All-cons (λ (x : LaidRow). x.row < length d.rows) out outs
      (subst (λ n. n < length d.rows) (sym are.0.row) first)
      (laid-known (row_book d book r) rs outs are.2 (All-tail (IsKnown (length d.rows)) r rs known))

  -- ---- the book

  row-extends : (book : List Use) (r : StackRow) → Extends book (row_book d book r)
  unfolding after_uses
  row-extends book r = enter.extends book (row_uses d r.row r.available)

  row-grows : (book : List Use) (r : StackRow) → length book ≤ length (row_book d book r)
  row-grows book r =
      let e = row-extends book r in
      let n : length (row_book d book r) ≡ length book + length e.more = ap length e.is ∙ length-append book e.more in
      omega arith

  -- the book after rows extends that before them
  rows-extend : (book : List Use) (rs : List StackRow) → (more : List Use) × (book_behind d book rs ≡ book ++ more)
  rows-extend book [] = ([], sym (append-nil book))
  rows-extend book (r ∷ rs) =
      let e = row-extends book r in
      let rest = rows-extend (row_book d book r) rs in
      (e.more ++ rest.0, rest.1 ∙ ap (λ b. b ++ rest.0) e.is ∙ append_assoc book e.more rest.0)

  fits-of : (auto a b c : Bool) → a ≡ cond auto b c → auto ≡ false → a ≡ c
  fits-of true a b c is other = absurd cc
  fits-of false a b c is other = is

  row-is : (r : StackRow) (out : LaidRow) → laid.IsLaidRow d pool r out → IsLaidRow d out r
  row-is r out is = record {
    row = is.row;
    available = is.available;
    auto = is.auto;
    height = is.height;
    fits = fits-of (row_of d r.row).auto out.fits _ _ is.fits;
    ranges = is.ranges;
  }

  take-all : (xs : List Use) → take (length xs) xs ≡ xs
  take-all [] = refl
  take-all (x ∷ xs) = ap (λ ys. x ∷ ys) (take-all xs)

  -- a book that begins with another, cut at its length
  take-front : (whole front more : List Use) (n : ℕ) → whole ≡ front ++ more → n ≡ length front → take n whole ≡ front
  take-front whole front more n is count =
      ap (λ k. take k whole) count ∙ ap (take (length front)) is ∙ take-append-le (length front) front more (omega arith)
      ∙ take-all front

  laid-rows : (whole before : List Use) (rs : List StackRow) (outs : List LaidRow) → whole ≡ book_behind d before rs
      → AreLaidAfter d pool before rs outs → AreLaidRows d whole before outs rs
  laid-rows whole before [] [] is are = tt
  laid-rows whole before [] (out ∷ outs) is are = absurd are
  laid-rows whole before (r ∷ rs) [] is are = absurd are
  laid-rows whole before (r ∷ rs) (out ∷ outs) is are =
      let own = row_book d before r in
      let rest = rows-extend own rs in
      let grows = row-grows before r in (
        row-is r out are.0,
        take-front whole own rest.0 out.before (is ∙ rest.1) are.1,
        sym are.1,
        subst (λ n. length before ≤ n) (sym are.1) grows,
        laid-rows whole own rs outs is are.2,
      )

  befores-rise : (count n : ℕ) (before : List Use) (rs : List StackRow) (outs : List LaidRow)
      → count ≡ length (book_behind d before rs) → n ≤ length before → AreLaidAfter d pool before rs outs
      → BeforesRise count n outs
  befores-rise count n before [] [] is le are = tt
  befores-rise count n before [] (out ∷ outs) is le are = absurd are
  befores-rise count n before (r ∷ rs) [] is le are = absurd are
  befores-rise count n before (r ∷ rs) (out ∷ outs) is le are =
      let own = row_book d before r in
      let rest = rows-extend own rs in
      let grows = row-grows before r in
      let at = are.1 in
      let total : length (book_behind d own rs) ≡ length own + length rest.0 = ap length rest.1 ∙ length-append own rest.0 in
      (omega arith, omega arith, befores-rise count out.before own rs outs is (omega arith) are.2)

  -- ---- the law

  entries-are : (book : List SizeEntry) → All (IsTrueEntry d) book → All (IsSizeEntry d) book
  entries-are [] all = All-nil (IsSizeEntry d)
  entries-are (e ∷ es) all =
      let first = All-head (IsTrueEntry d) e es all in
      All-cons (IsSizeEntry d) e es (first.size, first.reasons) (entries-are es (All-tail (IsTrueEntry d) e es all))

  uses-known : (book : List SizeEntry) → All (IsTrueEntry d) book → All (λ (u : Use). u.0 < length d.rows) (uses_in book)
  uses-known [] all = All-nil (λ (u : Use). u.0 < length d.rows)
  uses-known (e ∷ es) all =
      let first = All-head (IsTrueEntry d) e es all in
      All-cons (λ (u : Use). u.0 < length d.rows) (use_of e) (uses_in es) first.of_a_row
      (uses-known es (All-tail (IsTrueEntry d) e es all))

  pub certified : (book : List SizeEntry) (rows : List LaidRow) → MadeIsLayouts d book rows → LayoutIsCertified d pool book rows
  unfolding book_of
  certified book rows made = λ is_true uses are.
      let rs = rows_in_stacks d in
      let count : length book ≡ length (book_behind d [] rs) = sym (length-map book use_of) ∙ ap length uses in
      record {
        befores = befores-rise (length book) 0 [] rs rows count (omega arith) are;
        sizes = uses-known book is_true.each;
        known = laid-known [] rs rows are (rows-known d);
        lines = made (record {
          uses = uses;
          sizes = entries-are book is_true.each;
          laid = laid-rows (uses_in book) [] rs rows uses are;
        });
      }
