-- The entries one after another, and what they cite.
use Rattle.std.proofs.Common.{◌≡◌, ℕ, zero, suc, ◌+◌, ◌-◌, ◌<◌, ◌≤◌, List, [], ◌∷◌, ◌++◌, length, map, take, drop}
use Rattle.std.proofs.Common.{sym, ◌∙◌, ap, subst, arith, Some}
use Rattle.std.specs.Prelude.{All, slice_get}
use Rattle.std.specs.List.{flat_map}
use Rattle.std.proofs.lemmas.Grind.{flat_map-append}
use Rattle.std.proofs.lemmas.List.{append_assoc, append-nil, drop_all}
use Rattle.std.proofs.lemmas.List.Elements.{All-head, All-tail}
use Rattle.flow_list.specs.Data.{FlowsData}
use Rattle.flow_list.specs.Certificate.{Use}
use Rattle.flow_list.specs.Entries.{uses_in, use_of}
use Rattle.flow_list.specs.declared.book.SizeEntry.{SizeEntry}
use Rattle.flow_list.specs.declared.laid.LaidRow.{LaidRow}
use Rattle.height_cert.specs.declared.cert.Cites.{Cites}
use Rattle.height_cert.specs.declared.cert.CertEntry.{CertEntry}
use Rattle.height_cert.specs.declared.cert.CertEntry.TheVariants.{Size}
use Rattle.cert_laws.specs.Made.{BeforesRise, entries_made, entry_cites, entry_of_row}

drop-at : {A : Type 0} (xs : List A) (i : ℕ) (x : A) → slice_get xs i ≡ Some x → drop i xs ≡ x ∷ drop (i + 1) xs
drop-at [] i x at = absurd cc
drop-at (y ∷ ys) zero x at = let same : y ≡ x = cc in ap (λ z. z ∷ ys) same
drop-at (y ∷ ys) (suc i) x at = let m : suc i + 1 ≡ suc (i + 1) = omega arith in
    drop-at ys i x at ∙ ap (λ (n : ℕ). x ∷ drop n (y ∷ ys)) (sym m)

-- ---- sizes

-- the row of an entry of the book is known
abbrev IsRow : ℕ → Use → Type 0
IsRow n u = u.0 < n

pub size-known : (n : ℕ) (book : List SizeEntry) (i : ℕ) (e : SizeEntry) → slice_get book i ≡ Some e
    → All (λ (u : Use). u.0 < n) (uses_in book) → e.row < n
size-known n [] i e at all = absurd cc
size-known n (b ∷ book) zero e at all =
    let same : b ≡ e = cc in
    subst (λ (x : SizeEntry). x.row < n) same (All-head (IsRow n) (use_of b) (uses_in book) all)
size-known n (b ∷ book) (suc i) e at all = size-known n book i e at (All-tail (IsRow n) (use_of b) (uses_in book) all)

sizes-next : (book : List SizeEntry) (i to : ℕ) (e : SizeEntry) → i < to → slice_get book i ≡ Some e
    → map Size (take (to - i) (drop i book)) ≡ Size e ∷ map Size (take (to - (i + 1)) (drop (i + 1) book))
sizes-next book i to e lt at =
    let one : to - i ≡ suc (to - (i + 1)) = omega arith in
    ap (λ (n : ℕ). map Size (take n (drop i book))) one
    ∙ ap (λ (es : List SizeEntry). map Size (take (suc (to - (i + 1))) es)) (drop-at book i e at)

sizes-none : (book : List SizeEntry) (i to : ℕ) → to ≤ i → map Size (take (to - i) (drop i book)) ≡ []
sizes-none book i to le = let none : to - i ≡ 0 = omega arith in ap (λ (n : ℕ). map Size (take n (drop i book))) none

pub sizes-on : (book : List SizeEntry) (es now total : List CertEntry) (i to : ℕ) (e : SizeEntry) → i < to
    → slice_get book i ≡ Some e → now ≡ es ++ Size e ∷ [] → es ++ map Size (take (to - i) (drop i book)) ≡ total
    → now ++ map Size (take (to - (i + 1)) (drop (i + 1) book)) ≡ total
sizes-on book es now total i to e lt at is so =
    let later = map Size (take (to - (i + 1)) (drop (i + 1) book)) in
    ap (λ (xs : List CertEntry). xs ++ later) is ∙ append_assoc es (Size e ∷ []) later
    ∙ ap (λ (xs : List CertEntry). es ++ xs) (sym (sizes-next book i to e lt at)) ∙ so

pub sizes-done : (book : List SizeEntry) (es total : List CertEntry) (i to : ℕ) → to ≤ i
    → es ++ map Size (take (to - i) (drop i book)) ≡ total → es ≡ total
sizes-done book es total i to le so =
    sym (ap (λ (xs : List CertEntry). es ++ xs) (sizes-none book i to le) ∙ append-nil es) ∙ so

pub size-cites-on : (d : FlowsData) (book : List SizeEntry) (cs now total : List Cites) (i to : ℕ) (e : SizeEntry) → i < to
    → slice_get book i ≡ Some e → now ≡ cs ++ entry_cites d book (Size e)
    → cs ++ flat_map (entry_cites d book) (map Size (take (to - i) (drop i book))) ≡ total
    → now ++ flat_map (entry_cites d book) (map Size (take (to - (i + 1)) (drop (i + 1) book))) ≡ total
size-cites-on d book cs now total i to e lt at is so =
    let later = flat_map (entry_cites d book) (map Size (take (to - (i + 1)) (drop (i + 1) book))) in
    ap (λ (xs : List Cites). xs ++ later) is ∙ append_assoc cs (entry_cites d book (Size e)) later
    ∙ ap (λ (xs : List CertEntry). cs ++ flat_map (entry_cites d book) xs) (sym (sizes-next book i to e lt at)) ∙ so

pub size-cites-done : (d : FlowsData) (book : List SizeEntry) (cs total : List Cites) (i to : ℕ) → to ≤ i
    → cs ++ flat_map (entry_cites d book) (map Size (take (to - i) (drop i book))) ≡ total → cs ≡ total
size-cites-done d book cs total i to le so =
    sym (ap (λ (xs : List CertEntry). cs ++ flat_map (entry_cites d book) xs) (sizes-none book i to le) ∙ append-nil cs) ∙ so

-- ---- rows

pub rise-at : (count n i : ℕ) (rows : List LaidRow) (r : LaidRow) → slice_get rows i ≡ Some r
    → BeforesRise count n (drop i rows) → (n ≤ r.before) × (r.before ≤ count) × BeforesRise count r.before (drop (i + 1) rows)
rise-at count n i rows r at rise = subst (BeforesRise count n) (drop-at rows i r at) rise

pub row-known : (n : ℕ) (rows : List LaidRow) (i : ℕ) (r : LaidRow) → slice_get rows i ≡ Some r
    → All (λ (r : LaidRow). r.row < n) rows → r.row < n
row-known n [] i r at all = absurd cc
row-known n (x ∷ rows) zero r at all =
    let same : x ≡ r = cc in
    subst (λ (y : LaidRow). y.row < n) same (All-head (λ (y : LaidRow). y.row < n) x rows all)
row-known n (x ∷ rows) (suc i) r at all = row-known n rows i r at (All-tail (λ (y : LaidRow). y.row < n) x rows all)

pub rows-on : (book : List SizeEntry) (es mid now total : List CertEntry) (n i : ℕ) (rows : List LaidRow) (r : LaidRow)
    → slice_get rows i ≡ Some r → mid ≡ es ++ map Size (take (r.before - n) (drop n book)) → now ≡ mid ++ entry_of_row r ∷ []
    → es ++ entries_made book n (drop i rows) ≡ total → now ++ entries_made book r.before (drop (i + 1) rows) ≡ total
rows-on book es mid now total n i rows r at sizes row so =
    let later = entries_made book r.before (drop (i + 1) rows) in
    let own = map Size (take (r.before - n) (drop n book)) in
    let e = entry_of_row r in
    ap (λ (xs : List CertEntry). xs ++ later) (row ∙ ap (λ (xs : List CertEntry). xs ++ e ∷ []) sizes)
    ∙ append_assoc (es ++ own) (e ∷ []) later ∙ append_assoc es own (e ∷ later)
    ∙ ap (λ (rs : List LaidRow). es ++ entries_made book n rs) (sym (drop-at rows i r at)) ∙ so

pub row-cites-on : (d : FlowsData) (book : List SizeEntry) (cs mid now total : List Cites) (n i : ℕ) (rows : List LaidRow)
    (r : LaidRow) → slice_get rows i ≡ Some r
    → mid ≡ cs ++ flat_map (entry_cites d book) (map Size (take (r.before - n) (drop n book)))
    → now ≡ mid ++ entry_cites d book (entry_of_row r)
    → cs ++ flat_map (entry_cites d book) (entries_made book n (drop i rows)) ≡ total
    → now ++ flat_map (entry_cites d book) (entries_made book r.before (drop (i + 1) rows)) ≡ total
row-cites-on d book cs mid now total n i rows r at sizes row so =
    let later = entries_made book r.before (drop (i + 1) rows) in
    let own = map Size (take (r.before - n) (drop n book)) in
    let e = entry_of_row r in
    let all = flat_map (entry_cites d book) in
    ap (λ (xs : List Cites). xs ++ all later) (row ∙ ap (λ (xs : List Cites). xs ++ entry_cites d book e) sizes)
    ∙ append_assoc (cs ++ all own) (entry_cites d book e) (all later)
    ∙ append_assoc cs (all own) (all (e ∷ later))
    ∙ ap (λ (xs : List Cites). cs ++ xs) (sym (flat_map-append (entry_cites d book) own (e ∷ later)))
    ∙ ap (λ (rs : List LaidRow). cs ++ all (entries_made book n rs)) (sym (drop-at rows i r at)) ∙ so

pub rows-done : (book : List SizeEntry) (es total : List CertEntry) (n i : ℕ) (rows : List LaidRow) → length rows ≤ i
    → es ++ entries_made book n (drop i rows) ≡ total → es ≡ total
rows-done book es total n i rows le so =
    sym (ap (λ (rs : List LaidRow). es ++ entries_made book n rs) (drop_all i rows le) ∙ append-nil es) ∙ so

pub row-cites-done : (d : FlowsData) (book : List SizeEntry) (cs total : List Cites) (n i : ℕ) (rows : List LaidRow)
    → length rows ≤ i → cs ++ flat_map (entry_cites d book) (entries_made book n (drop i rows)) ≡ total → cs ≡ total
row-cites-done d book cs total n i rows le so =
    sym (ap (λ (rs : List LaidRow). cs ++ flat_map (entry_cites d book) (entries_made book n rs)) (drop_all i rows le)
    ∙ append-nil cs) ∙ so

pub ruleset entry_rules = (
  size-known,
  sizes-on,
  sizes-done,
  size-cites-on,
  size-cites-done,
  rise-at,
  row-known,
  rows-on,
  row-cites-on,
  rows-done,
  row-cites-done,
)
