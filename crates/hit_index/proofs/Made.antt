-- How bands are made, and what an index has of its lines.
use Rattle.std.proofs.Common.{◌≡◌, ℕ, ◌+◌, ◌-◌, ◌<◌, ◌≤◌, ◌^◌, min, false, List, [], ◌∷◌, length}
use Rattle.std.proofs.Common.{get_or, drop, All, None, sym, subst, ap, arith}
use Rattle.std.specs.List.{insert}
use Rattle.std.specs.List.Sorted.{IsNonDecreasingBy}
use Rattle.std.proofs.lemmas.Bool.Decides.{nat_tests}
use Rattle.std.proofs.lemmas.List.{length-drop, get_or-drop}
use Rattle.std.proofs.lemmas.List.Elements.{All-cons, All-from_get_or}
use Rattle.std.proofs.lemmas.List.Sorted.{All-permutation, IsPermutation-insert, IsNonDecreasingBy-insert}
use Rattle.hit_index.specs.declared.mark.Leaf.{Leaf}
use Rattle.hit_index.specs.declared.band.Band.{Band}
use Rattle.hit_index.specs.Scan.{holds}
use Rattle.hit_index.specs.Bands.{best, IsBand}
use Rattle.hit_index.proofs.Best.{best-none}

-- ---- bands

pub empty_is_band : (b : Band) → b.leaves.items ≡ [] → IsBand b
empty_is_band b e =
    let none : length b.leaves.items ≡ 0 = ap length e in
    record {
      order = λ i j d le lt. absurd (omega arith);
      top = λ k l lt. absurd (omega arith);
      bottom = λ k l lt. absurd (omega arith);
    }

pub inserted-order : (xs : List Leaf) (i : ℕ) (l : Leaf) → IsNonDecreasingBy (λ (l : Leaf). l.rect.x) xs → i ≤ length xs
    → ((k : ℕ) (d : Leaf) → k < i → (get_or xs k d).rect.x ≤ l.rect.x)
    → ((d : Leaf) → i < length xs → l.rect.x < (get_or xs i d).rect.x)
    → IsNonDecreasingBy (λ (l : Leaf). l.rect.x) (insert xs i l)
inserted-order xs i l order le before after =
    IsNonDecreasingBy-insert (λ (l : Leaf). l.rect.x) xs i l order le before
    (λ k d from lt. let a = order i k d from lt in let b = after d (omega arith) in omega arith)

pub inserted-all : (P : Leaf → Type 0) (xs : List Leaf) (i : ℕ) (l : Leaf) → P l → All P xs → All P (insert xs i l)
inserted-all P xs i l a all = All-permutation P (l ∷ xs) (insert xs i l) (IsPermutation-insert xs i l) (All-cons P l xs a all)

abbrev pub left : Leaf → ℕ
left l = l.rect.x

pub inserted-band : (b next : Band) (l : Leaf) (i : ℕ) → IsBand b → i ≤ length b.leaves.items
    → ((k : ℕ) (d : Leaf) → k < i → (get_or b.leaves.items k d).rect.x ≤ l.rect.x)
    → ((d : Leaf) → i < length b.leaves.items → l.rect.x < (get_or b.leaves.items i d).rect.x)
    → next.leaves.items ≡ insert b.leaves.items i l → next.top ≤ b.top → next.top ≤ l.rect.y → b.bottom ≤ next.bottom
    → min (l.rect.y + l.rect.h) (2 ^ 64 - 1) ≤ next.bottom → IsBand next
inserted-band b next l i is le before after e top own_top bottom own_bottom =
    let Top : Leaf → Type 0 = λ l. next.top ≤ l.rect.y in
    let Bottom : Leaf → Type 0 = λ l. min (l.rect.y + l.rect.h) (2 ^ 64 - 1) ≤ next.bottom in
    record {
      order = subst (λ xs. IsNonDecreasingBy left xs) (sym e) (inserted-order b.leaves.items i l is.order le before after);
      top = subst (λ xs. All Top xs) (sym e) (inserted-all Top b.leaves.items i l own_top
          (λ k d lt. let a = is.top k d lt in omega arith));
      bottom = subst (λ xs. All Bottom xs) (sym e) (inserted-all Bottom b.leaves.items i l own_bottom
          (λ k d lt. let a = is.bottom k d lt in omega arith));
    }

-- ---- leaves that are passed over

-- a leaf that stands right of a point doesn't hold it
pub right-misses : (px py : ℕ) (l : Leaf) → px < l.rect.x → holds l.rect px py ≡ false
right-misses px py l lt = grind (arith, nat_tests)

-- nor does one above or below it
pub above-misses : (px py : ℕ) (l : Leaf) → py < l.rect.y → holds l.rect px py ≡ false
above-misses px py l lt = grind (arith, nat_tests)

pub below-misses : (px py : ℕ) (l : Leaf) → l.rect.y + l.rect.h ≤ py → holds l.rect px py ≡ false
below-misses px py l lt = grind (arith, nat_tests)

pub rest-right : (px py : ℕ) (xs : List Leaf) (i : ℕ) (d : Leaf) → IsNonDecreasingBy left xs → i < length xs
    → px < (get_or xs i d).rect.x → best px py (drop i xs) ≡ None
rest-right px py xs i d order lt right =
    best-none px py (drop i xs)
    (All-from_get_or (λ (l : Leaf). holds l.rect px py ≡ false) (drop i xs) d
    (λ k le.
    let count = length-drop i xs in
    let a = order i (i + k) d (omega arith) (omega arith) in
    subst (λ (l : Leaf). holds l.rect px py ≡ false) (sym (get_or-drop i xs k d))
    (right-misses px py (get_or xs (i + k) d) (omega arith))))

-- a band that ends above a point, or begins below it, has no leaf that holds it
pub band-above : (px py : ℕ) (b : Band) → IsBand b → py < 2 ^ 64 → b.bottom < py → best px py b.leaves.items ≡ None
band-above px py b is small lt = best-none px py b.leaves.items
    (λ k e le. let a = is.bottom k e le in below-misses px py (get_or b.leaves.items k e) (omega arith))

pub band-below : (px py : ℕ) (b : Band) → IsBand b → py < b.top → best px py b.leaves.items ≡ None
band-below px py b is lt = best-none px py b.leaves.items
    (λ k e le. let a = is.top k e le in above-misses px py (get_or b.leaves.items k e) (omega arith))
