-- The entries of the certificate: their sizes are the book, and each stands after the sizes that it uses.
use Rattle.std.proofs.Common.{◌≡◌, ◌+◌, ◌<◌, arith, ◌⊎◌, inl, inr, Bool, true, false, cond, List, [], ◌∷◌, ◌++◌, length, map}
use Rattle.std.proofs.Common.{drop, refl, sym, ◌∙◌, ap}
use Rattle.std.specs.Prelude.{All}
use Rattle.std.specs.List.{flat_map}
use Rattle.std.proofs.lemmas.List.{append_assoc, append-nil}
use Rattle.std.proofs.lemmas.List.Concat.{flat_map-append}
use Rattle.std.proofs.lemmas.List.Elements.{All-nil, All-head, All-tail}
use Rattle.flow_list.specs.Data.{FlowsData}
use Rattle.flow_data.specs.Flows.{row_of}
use Rattle.flow_data.specs.Soundness.{IsSound, count_of}
use Rattle.flow_list.specs.Book.{AllStand, IsTrueBook, after_uses}
use Rattle.flow_list.specs.Certificate.{Use, StackRow, Entry, size_entry, row_entry, auto_entry, entry_of, range_uses}
use Rattle.flow_list.specs.Certificate.{range_owned, size_ranges, row_ranges, size_uses, row_uses, row_book, entries_behind}
use Rattle.flow_list.specs.Certificate.{book_behind, rows_in_stacks, certificate, book_of}
use Rattle.range_laws.specs.Entering.{Extends}
use Rattle.range_laws.specs.Entries.{size_in_entry, row_in_entry, sizes_in_entries, rows_in_entries, entry_uses, place_in_entry}
use Rattle.range_laws.specs.Entries.{ranges_in_entry, LinesCiteIn, EntriesStandOnce}
use Rattle.range_laws.proofs.Above.{above-less}
use Rattle.range_laws.proofs.Entering.{uses-enter}
use Rattle.range_laws.proofs.CiteLaw.{lines-cite-in}
use Rattle.range_laws.proofs.RowUses.{row-above}
use Rattle.range_laws.proofs.StackRows.{numbers_of, stands-once, stack-rows-known}
use Rattle.range_laws.proofs.Standing.{stand-front, all-stand}
use Rattle.flow_list.specs.Ranges.{Range}
use Rattle.flow_list.specs.Tokens.{row_start}
use Rattle.range_laws.proofs.TrueBooks.{later-rows, stays-true, none-true}

-- ---- lists

drop-first : {X : Type 0} (xs ys : List X) → drop (length xs) (xs ++ ys) ≡ ys
drop-first [] ys = refl
drop-first (x ∷ xs) ys = drop-first xs ys

sizes-of : (us : List Use) → sizes_in_entries (map size_entry us) ≡ us
sizes-of [] = refl
sizes-of (u ∷ us) = ap (λ xs. u ∷ xs) (sizes-of us)

no-rows : (us : List Use) → rows_in_entries (map size_entry us) ≡ []
no-rows [] = refl
no-rows (u ∷ us) = no-rows us

-- an element of two lists is one of the first, or one of the second
either-list : {X : Type 0} (xs ys first rest : List X) (e : X) → xs ++ ys ≡ first ++ e ∷ rest →
    ((more : List X) × (xs ≡ first ++ e ∷ more)) ⊎ ((mid : List X) × (first ≡ xs ++ mid) × (ys ≡ mid ++ e ∷ rest))
either-list [] ys first rest e split = inr (first, refl, split)
either-list (x ∷ xs) ys [] rest e split = let same : x ≡ e = cc in inl (xs, ap (λ z. z ∷ xs) same)
either-list (x ∷ xs) ys (y ∷ first) rest e split =
    let head : x ≡ y = cc in
    let tail : xs ++ ys ≡ first ++ e ∷ rest = cc in
    elim (either-list xs ys first rest e tail) [ inl m ↦ inl (m.0, cc (m.1)) | inr m ↦ inr (m.0, cc (m.1), m.2) ]

-- entries of sizes, up to one of them
record SizesTo (us : List Use) (first : List Entry) (e : Entry) : Type 0 where
  before : List Use
  u : Use
  after : List Use
  sizes_are : us ≡ before ++ u ∷ after
  first_is : first ≡ map size_entry before
  entry_is : e ≡ size_entry u

sizes-to : (us : List Use) (first more : List Entry) (e : Entry) → map size_entry us ≡ first ++ e ∷ more → SizesTo us first e
sizes-to [] [] more e split = absurd cc
sizes-to [] (x ∷ first) more e split = absurd cc
sizes-to (u ∷ us) [] more e split = record { before = []; u = u; after = us; sizes_are = refl; first_is = refl; entry_is = cc }
sizes-to (u ∷ us) (x ∷ first) more e split =
    let head : size_entry u ≡ x = cc in
    let tail : map size_entry us ≡ first ++ e ∷ more = cc in
    let rest = sizes-to us first more e tail in
    record {
      before = u ∷ rest.before;
      u = rest.u;
      after = rest.after;
      sizes_are = ap (λ xs. u ∷ xs) rest.sizes_are;
      first_is = ap (λ y. y ∷ first) (sym head) ∙ ap (λ xs. size_entry u ∷ xs) rest.first_is;
      entry_is = rest.entry_is;
    }

-- ---- the entries after a book

module _ (d : FlowsData) where
  book-extends : (book : List Use) (r : StackRow) → Extends book (row_book d book r)
  unfolding after_uses
  book-extends book r = (uses-enter d).extends book (row_uses d r.row r.available)

  -- the sizes that are entered for a row
  abbrev new_sizes : List Use → StackRow → List Use
  new_sizes book r = drop (length book) (row_book d book r)

  with-new : (book : List Use) (r : StackRow) → book ++ new_sizes book r ≡ row_book d book r
  with-new book r =
      let e = book-extends book r in
      ap (λ xs. book ++ xs) (ap (drop (length book)) e.is ∙ drop-first book e.more) ∙ sym e.is

  row-entry-sizes : (r : StackRow) (es : List Entry) → sizes_in_entries (entry_of d r ∷ es) ≡ sizes_in_entries es
  row-entry-sizes r es = go (row_of d r.row).auto
    where
      go : (b : Bool) → size_in_entry (cond b (auto_entry r) (row_entry r)) ++ sizes_in_entries es ≡ sizes_in_entries es
      go true = refl
      go false = refl

  row-entry-row : (r : StackRow) (es : List Entry) → rows_in_entries (entry_of d r ∷ es) ≡ r.row ∷ rows_in_entries es
  row-entry-row r es = go (row_of d r.row).auto
    where
      go : (b : Bool) → row_in_entry (cond b (auto_entry r) (row_entry r)) ++ rows_in_entries es ≡ r.row ∷ rows_in_entries es
      go true = refl
      go false = refl

  row-entry-uses : (r : StackRow) → entry_uses d (entry_of d r) ≡ row_uses d r.row r.available
  row-entry-uses r = go (row_of d r.row).auto
    where
      go : (b : Bool) → entry_uses d (cond b (auto_entry r) (row_entry r)) ≡ row_uses d r.row r.available
      go true = refl
      go false = refl

  -- the sizes of a row's entries, and of those after them
  sizes-after : (book : List Use) (r : StackRow) (es : List Entry) →
      book ++ sizes_in_entries (map size_entry (new_sizes book r) ++ entry_of d r ∷ es) ≡ row_book d book r ++ sizes_in_entries es
  sizes-after book r es =
      let new = new_sizes book r in
      ap (λ xs. book ++ xs) (flat_map-append size_in_entry (map size_entry new) (entry_of d r ∷ es)
      ∙ ap (λ xs. xs ++ sizes_in_entries (entry_of d r ∷ es)) (sizes-of new) ∙ ap (λ xs. new ++ xs) (row-entry-sizes r es))
      ∙ sym (append_assoc book new (sizes_in_entries es)) ∙ ap (λ xs. xs ++ sizes_in_entries es) (with-new book r)

  entries-sizes : (book : List Use) (rs : List StackRow) → book ++ sizes_in_entries (entries_behind d book rs) ≡
      book_behind d book rs
  entries-sizes book [] = append-nil book
  entries-sizes book (r ∷ rs) = sizes-after book r (entries_behind d (row_book d book r) rs)
      ∙ entries-sizes (row_book d book r) rs

  entries-rows : (book : List Use) (rs : List StackRow) → rows_in_entries (entries_behind d book rs) ≡ numbers_of rs
  entries-rows book [] = refl
  entries-rows book (r ∷ rs) =
      let new = new_sizes book r in
      flat_map-append row_in_entry (map size_entry new) (entry_of d r ∷ entries_behind d (row_book d book r) rs)
      ∙ ap (λ xs. xs ++ rows_in_entries (entry_of d r ∷ entries_behind d (row_book d book r) rs)) (no-rows new)
      ∙ row-entry-row r (entries_behind d (row_book d book r) rs) ∙ ap (λ xs. r.row ∷ xs) (entries-rows (row_book d book r) rs)

  row-stands : (book : List Use) (r : StackRow) → AllStand (row_book d book r) (row_uses d r.row r.available)
  unfolding after_uses
  row-stands book r = (uses-enter d).stand book (row_uses d r.row r.available)

module _ (d : FlowsData) (sound : IsSound d) where
  abbrev AreKnown : List StackRow → Type 0
  AreKnown rs = All (λ (x : StackRow). x.row < length d.rows) rs

  row-true : (book : List Use) (r : StackRow) → r.row < length d.rows → IsTrueBook d book → IsTrueBook d (row_book d book r)
  unfolding after_uses
  row-true book r lt t =
      stays-true d sound book (row_uses d r.row r.available)
      (above-less 0 (r.row + 1) (length d.rows) (row_uses d r.row r.available) (omega arith)
      (row-above d (length d.rows) (later-rows d sound) r.row lt r.available)) t

  book-true : (book : List Use) (rs : List StackRow) → AreKnown rs → IsTrueBook d book → IsTrueBook d (book_behind d book rs)
  book-true book [] known t = t
  book-true book (r ∷ rs) known t =
      book-true (row_book d book r) rs (All-tail (λ (x : StackRow). x.row < length d.rows) r rs known)
      (row-true book r (All-head (λ (x : StackRow). x.row < length d.rows) r rs known) t)

  -- an entry among those of a row's sizes
  among-sizes : (book : List Use) (r : StackRow) (first : List Entry) (e : Entry) → IsTrueBook d (row_book d book r) →
      SizesTo (new_sizes d book r) first e → AllStand (book ++ sizes_in_entries first) (entry_uses d e)
  among-sizes book r first e t s =
      let split : row_book d book r ≡ (book ++ s.before) ++ s.u ∷ s.after = sym (with-new d book r)
      ∙ ap (λ xs. book ++ xs) s.sizes_are ∙ sym (append_assoc book s.before (s.u ∷ s.after)) in
      let stand : AllStand (book ++ s.before) (size_uses d s.u) = t.after_its_uses (book ++ s.before) s.u s.after split in
      let sizes : sizes_in_entries first ≡ s.before = ap sizes_in_entries s.first_is ∙ sizes-of s.before in
      rw (sizes, s.entry_is) stand

  uses-before : (book : List Use) (rs : List StackRow) → AreKnown rs → IsTrueBook d book →
      (first : List Entry) (e : Entry) (rest : List Entry) → entries_behind d book rs ≡ first ++ e ∷ rest →
      AllStand (book ++ sizes_in_entries first) (entry_uses d e)
  uses-before book [] known t [] e rest split = absurd cc
  uses-before book [] known t (x ∷ first) e rest split = absurd cc
  uses-before book (r ∷ rs) known t first e rest split =
      go (either-list (map size_entry (new_sizes d book r)) (entry_of d r ∷ entries_behind d (row_book d book r) rs) first rest e
      split)
      (λ mid later. uses-before (row_book d book r) rs (All-tail (λ (x : StackRow). x.row < length d.rows) r rs known) next mid e
      rest later)
    where
      next : IsTrueBook d (row_book d book r)
      next = row-true book r (All-head (λ (x : StackRow). x.row < length d.rows) r rs known) t

      own : (mid : List Entry) → entry_of d r ∷ entries_behind d (row_book d book r) rs ≡ mid ++ e ∷ rest →
          first ≡ map size_entry (new_sizes d book r) ++ mid →
          ((mid : List Entry) → entries_behind d (row_book d book r) rs ≡ mid ++ e ∷ rest →
          AllStand (row_book d book r ++ sizes_in_entries mid) (entry_uses d e)) →
          AllStand (book ++ sizes_in_entries first) (entry_uses d e)
      own [] here is later =
          let same : e ≡ entry_of d r = cc in
          let sizes : sizes_in_entries first ≡ new_sizes d book r =
          ap sizes_in_entries (is ∙ append-nil (map size_entry (new_sizes d book r))) ∙ sizes-of (new_sizes d book r) in
          let at : book ++ sizes_in_entries first ≡ row_book d book r = ap (λ xs. book ++ xs) sizes ∙ with-new d book r in
          let uses : entry_uses d e ≡ row_uses d r.row r.available = ap (entry_uses d) same ∙ row-entry-uses d r in
          rw (at, uses) (row-stands d book r)
      own (m ∷ mid) there is later =
          let head : entry_of d r ≡ m = cc in
          let tail : entries_behind d (row_book d book r) rs ≡ mid ++ e ∷ rest = cc in
          let at : book ++ sizes_in_entries first ≡ row_book d book r ++ sizes_in_entries mid =
          ap (λ es. book ++ sizes_in_entries es) (is ∙ ap (λ x. map size_entry (new_sizes d book r) ++ x ∷ mid) (sym head))
          ∙ sizes-after d book r mid in
          rw at (later mid tail)

      go : ((more : List Entry) × (map size_entry (new_sizes d book r) ≡ first ++ e ∷ more)) ⊎
          ((mid : List Entry) × (first ≡ map size_entry (new_sizes d book r) ++ mid) ×
          (entry_of d r ∷ entries_behind d (row_book d book r) rs ≡ mid ++ e ∷ rest)) →
          ((mid : List Entry) → entries_behind d (row_book d book r) rs ≡ mid ++ e ∷ rest →
          AllStand (row_book d book r ++ sizes_in_entries mid) (entry_uses d e)) →
          AllStand (book ++ sizes_in_entries first) (entry_uses d e)
      go (inl m) later = among-sizes book r first e next (sizes-to (new_sizes d book r) first m.0 e m.1)
      go (inr m) later = own m.0 m.2 m.1 later

  cites-in : (book : List Use) (e : Entry) → AllStand book (entry_uses d e) →
      LinesCiteIn d book (place_in_entry e) (ranges_in_entry d e)
  unfolding size_uses row_uses
  cites-in book (size_entry u) stand = lines-cite-in d u.0 u.1 book (size_ranges d u.0 u.1)
      (stand-front book (flat_map (range_uses d u.0 u.1) (size_ranges d u.0 u.1)) _ (all-stand book _ stand))
  cites-in book (row_entry r) stand =
      lines-cite-in d r.row row_start book (row_ranges d r.row r.available)
      (stand-front book (flat_map (range_uses d r.row row_start) (row_ranges d r.row r.available)) _ (all-stand book _ stand))
  cites-in book (auto_entry r) stand = All-nil (λ (x : Range). (x.lines ≡ []) ⊎
      All (AllStand book) (range_owned d r.row row_start x))

  pub entries-once : EntriesStandOnce d
  unfolding certificate book_of
  entries-once = record {
    sizes = entries-sizes d [] (rows_in_stacks d);
    true_book = book-true [] (rows_in_stacks d) (stack-rows-known d) (none-true d);
    uses_before = λ first e rest split. uses-before [] (rows_in_stacks d) (stack-rows-known d) (none-true d) first e rest split;
    cites_before = λ first e rest split. cites-in (sizes_in_entries first) e
        (uses-before [] (rows_in_stacks d) (stack-rows-known d) (none-true d) first e rest split);
    one_entry = λ s k r lt inside is. ap (count_of r) (entries-rows d [] (rows_in_stacks d))
        ∙ stands-once d sound s k r lt inside is;
  }
