-- A true book stays true when sizes are entered, at any depth that is enough.
use Rattle.std.proofs.Common.{◌≡◌, ℕ, zero, suc, ◌+◌, ◌<◌, ◌≤◌, ◌⊎◌, inl, inr, false, cond, List, [], ◌∷◌, ◌++◌, length}
use Rattle.std.proofs.Common.{refl, subst, sym, ◌∙◌, ap, arith}
use Rattle.std.specs.Prelude.{All}
use Rattle.std.proofs.lemmas.Bool.{or_from}
use Rattle.std.proofs.lemmas.List.{append_assoc, append-nil}
use Rattle.std.proofs.lemmas.List.Elements.{All-nil, All-cons, All-head, All-tail}
use Rattle.std.proofs.lemmas.List.Folds.{list_any-append}
use Rattle.flow_list.specs.Data.{FlowsData}
use Rattle.flow_data.specs.Flows.{row_of, flow_in, no_row, no_flow}
use Rattle.flow_data.specs.Soundness.{IsSound, IsInnerRow}
use Rattle.flow_laws.proofs.SoundRows.{rows-in-range}
use Rattle.flow_list.specs.Book.{AllStand, IsTrueBook, after_uses}
use Rattle.flow_list.specs.Certificate.{Use, same_use, stands_in, size_uses, entered, entered_with}
use Rattle.column_laws.proofs.Uses.{rows-at}
use Rattle.range_laws.specs.Entering.{BookStaysTrue}
use Rattle.range_laws.proofs.Above.{Above, not-above}
use Rattle.range_laws.proofs.EnteredOnce.{Entered, Follow, entered-follow}
use Rattle.range_laws.proofs.LaterRows.{HoldsAbove, size-deeper}
use Rattle.range_laws.proofs.Standing.{Stand, stand-all}

-- ---- one size more

-- a size of a longer list is one of the list, or the last
pub snoc-split : {X : Type 0} (xs first rest : List X) (x y : X) → xs ++ x ∷ [] ≡ first ++ y ∷ rest →
    ((more : List X) × (xs ≡ first ++ y ∷ more)) ⊎ ((first ≡ xs) × (y ≡ x))
snoc-split [] [] rest x y e = inr (refl, cc)
snoc-split [] (a ∷ []) rest x y e = absurd cc
snoc-split [] (a ∷ (b ∷ first)) rest x y e = absurd cc
snoc-split (a ∷ xs) [] rest x y e = inl (xs, cc)
snoc-split (a ∷ xs) (b ∷ first) rest x y e =
    let head : a ≡ b = cc in
    let tail : xs ++ x ∷ [] ≡ first ++ y ∷ rest = cc in
    elim (snoc-split xs first rest x y tail) [ inl r ↦ inl (r.0, cc (r.1)) | inr r ↦ inr (cc (r.0), r.1) ]

one-true : (d : FlowsData) (book : List Use) (u : Use) → IsTrueBook d book → Stand book (size_uses d u) →
    stands_in book u ≡ false → IsTrueBook d (book ++ u ∷ [])
one-true d book u t stand none = record {
  once = λ first v rest split. once first v (snoc-split book first rest u v split);
  after_its_uses = λ first v rest split. uses first v (snoc-split book first rest u v split);
}
  where
    once : (first : List Use) (v : Use) → ((more : List Use) × (book ≡ first ++ v ∷ more)) ⊎ ((first ≡ book) × (v ≡ u)) →
        stands_in first v ≡ false
    once first v (inl there) = t.once first v there.0 there.1
    once first v (inr last) = rw (last.0, last.1) none

    uses : (first : List Use) (v : Use) → ((more : List Use) × (book ≡ first ++ v ∷ more)) ⊎ ((first ≡ book) × (v ≡ u)) →
        AllStand first (size_uses d v)
    uses first v (inl there) = t.after_its_uses first v there.0 there.1
    uses first v (inr last) = rw (last.0, last.1) (stand-all book (size_uses d u) stand)

follow-true : (d : FlowsData) (book more : List Use) → IsTrueBook d book → Follow d book more → IsTrueBook d (book ++ more)
follow-true d book [] t f = subst (IsTrueBook d) (sym (append-nil book)) t
follow-true d book (u ∷ us) t f = subst (IsTrueBook d) (append_assoc book (u ∷ []) us)
    (follow-true d (book ++ u ∷ []) us (one-true d book u t f.0 f.1) f.2)

pub none-true : (d : FlowsData) → IsTrueBook d []
none-true d = record {
  once = λ first u rest split. absurd (no-split first u rest split);
  after_its_uses =
      λ first u rest split. absurd (no-split first u rest split);
}
  where
    no-split : (first : List Use) (u : Use) (rest : List Use) → [] ≡ first ++ u ∷ rest → ⊥
    no-split [] u rest e = cc
    no-split (v ∷ first) u rest e = cc

-- ---- sizes of rows of the data

rows-above : (n : ℕ) (us : List Use) → All (λ (u : Use). u.0 < n) us → Above 0 n us
rows-above n [] all = tt
rows-above n (u ∷ us) all =
    ((omega arith, All-head (λ (u : Use). u.0 < n) u us all), rows-above n us (All-tail (λ (u : Use). u.0 < n) u us all))

pub above-rows : (b n : ℕ) (us : List Use) → Above b n us → All (λ (u : Use). u.0 < n) us
above-rows b n [] a = All-nil (λ (u : Use). u.0 < n)
above-rows b n (u ∷ us) a = All-cons (λ (u : Use). u.0 < n) u us a.0.1 (above-rows b n us a.1)

above-later : (k n : ℕ) (us : List Use) → Above (k + 1) n us → All (λ (v : Use). (k < v.0) × (v.0 < n)) us
above-later k n [] a = All-nil (λ (v : Use). (k < v.0) × (v.0 < n))
above-later k n (u ∷ us) a = All-cons (λ (v : Use). (k < v.0) × (v.0 < n)) u us (
  let le = a.0.0 in
      omega arith,
  a.0.1,
) (above-later k n us a.1)

-- in sound data the rows in a row have greater numbers
pub later-rows : (d : FlowsData) → IsSound d → (r : ℕ) → r < length d.rows → HoldsAbove (r + 1) (length d.rows) (flow_in d r)
later-rows d sound r lt k s e =
    let row = sound.rows r no_row lt in
    let flow = sound.flows (row_of d r).flow no_flow row.flow in
    let inner = rows-at (IsInnerRow d r) (flow_in d r).items (sound.inner_rows r lt) k s e in
    let later = inner.later in
    (omega arith, rows-at (λ r. r < length d.rows) (flow_in d r).items (rows-in-range d (flow_in d r).items flow.items) k s e)

-- ---- depth

module _ (d : FlowsData) (n : ℕ) (deeper : (u : Use) → u.0 < n → Above (u.0 + 1) n (size_uses d u)) where
  with-alike : (x y : List Use → Use → List Use) (b : ℕ) → ((book : List Use) (u : Use) → b ≤ u.0 → u.0 < n →
      x book u ≡ y book u) → (book us : List Use) → Above b n us →
      entered_with x book us ≡ entered_with y book us
  with-alike x y b same book [] a = refl
  with-alike x y b same book (u ∷ us) a =
      ap (λ first. entered_with x (cond (stands_in book u) book (first ++ u ∷ [])) us) (same book u a.0.0 a.0.1)
      ∙ with-alike x y b same (cond (stands_in book u) book (y book u ++ u ∷ [])) us a.1

  -- sizes of rows from b on, entered to depths that both hold all rows after
  entered-alike : (k m b : ℕ) → n ≤ b + k → n ≤ b + m → (book us : List Use) → Above b n us →
      entered d k book us ≡ entered d m book us
  unfolding entered
  entered-alike zero zero b le ge book us a = refl
  entered-alike zero (suc m) b le ge book [] a = refl
  entered-alike zero (suc m) b le ge book (u ∷ us) a = let from = a.0.0 in let lt = a.0.1 in absurd (omega arith)
  entered-alike (suc k) zero b le ge book [] a = refl
  entered-alike (suc k) zero b le ge book (u ∷ us) a = let from = a.0.0 in let lt = a.0.1 in absurd (omega arith)
  entered-alike (suc k) (suc m) b le ge book us a =
      with-alike (λ c u. entered d k c (size_uses d u)) (λ c u. entered d m c (size_uses d u)) b
      (λ c u from lt. entered-alike k m (u.0 + 1) (omega arith) (omega arith) c (size_uses d u) (deeper u lt)) book us a

-- ---- the law

module _ (d : FlowsData) (sound : IsSound d) where
  pub deeper : (u : Use) → u.0 < length d.rows → Above (u.0 + 1) (length d.rows) (size_uses d u)
  deeper u lt = size-deeper d (length d.rows) (later-rows d sound) u lt

  pub rows-entered : (book us : List Use) → Above 0 (length d.rows) us →
      Entered d 0 (length d.rows) book us (after_uses d book us)
  unfolding after_uses
  rows-entered book us a = entered-follow d (length d.rows) deeper (suc (length d.rows)) 0 (omega arith) book us a

  pub stays-true : (book us : List Use) → Above 0 (length d.rows) us → IsTrueBook d book → IsTrueBook d (after_uses d book us)
  stays-true book us a t = let e = rows-entered book us a in
      subst (IsTrueBook d) (sym e.is) (follow-true d book e.more t e.follow)

  not-itself : (book : List Use) (u : Use) → u.0 < length d.rows → stands_in book u ≡ false →
      stands_in (after_uses d book (size_uses d u)) u ≡ false
  unfolding after_uses
  not-itself book u lt none =
      let e = entered-follow d (length d.rows) deeper (suc (length d.rows)) (u.0 + 1) (omega arith) book (size_uses d u)
      (deeper u lt) in
      ap (λ xs. stands_in xs u) e.is ∙ (list_any-append (same_use u) book e.more
      ∙ or_from (stands_in book u) (stands_in e.more u) none (not-above u (length d.rows) e.more e.above))

  first-entered : (book : List Use) (u : Use) → stands_in book u ≡ false →
      entered d (suc (length d.rows)) book (u ∷ []) ≡ entered d (length d.rows) book (size_uses d u) ++ u ∷ []
  unfolding entered
  first-entered book u none = rw none refl

  one-size : (book : List Use) (u : Use) → u.0 < length d.rows → stands_in book u ≡ false →
      after_uses d book (u ∷ []) ≡ after_uses d book (size_uses d u) ++ u ∷ []
  unfolding after_uses
  one-size book u lt none =
      first-entered book u none
      ∙ ap (λ us. us ++ u ∷ []) (entered-alike d (length d.rows) deeper (length d.rows) (suc (length d.rows)) (u.0 + 1)
      (omega arith) (omega arith) book (size_uses d u) (deeper u lt))

  pub book-stays-true : BookStaysTrue d
  unfolding after_uses
  book-stays-true = record {
    uses_are_later = λ u lt. above-later u.0 (length d.rows) (size_uses d u) (deeper u lt);
    stays_true = λ book us rows t. stays-true book us (rows-above (length d.rows) us rows) t;
    depth = λ depth book us rows le. entered-alike d (length d.rows) deeper depth (suc (length d.rows)) 0 (omega arith)
        (omega arith) book us (rows-above (length d.rows) us rows);
    not_itself = not-itself;
    one_size = one-size;
  }
