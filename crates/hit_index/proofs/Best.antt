-- The latest leaf that holds a point, over lists of leaves.
use Rattle.std.proofs.Common.{◌≡◌, ℕ, suc, ◌+◌, ◌≤◌, max, Bool, true, false, cond, List, [], ◌∷◌, ◌++◌, take, drop, All}
use Rattle.std.proofs.Common.{Option, Some, None, refl, sym, ap, ◌∙◌, arith}
use Rattle.std.specs.List.{filter, insert}
use Rattle.std.proofs.lemmas.List.{take-append-drop}
use Rattle.hit_index.specs.declared.mark.Mark.{Mark}
use Rattle.hit_index.specs.declared.mark.Leaf.{Leaf}
use Rattle.hit_index.specs.Scan.{holds, hit, last_of, leaves_from, leaves_of, numbers_of}
use Rattle.hit_index.specs.Bands.{later, hit_by, best}

-- ---- the later of leaves

pub later-assoc : (a b c : Option ℕ) → later (later a b) c ≡ later a (later b c)
later-assoc None b c = refl
later-assoc (Some a) None c = refl
later-assoc (Some a) (Some b) None = refl
later-assoc (Some a) (Some b) (Some c) = let e : max (max a b) c ≡ max a (max b c) = omega arith in ap Some e

later-comm : (a b : Option ℕ) → later a b ≡ later b a
later-comm None None = refl
later-comm None (Some b) = refl
later-comm (Some a) None = refl
later-comm (Some a) (Some b) = let e : max a b ≡ max b a = omega arith in ap Some e

pub later-none : (a : Option ℕ) → later a None ≡ a
later-none None = refl
later-none (Some a) = refl

module _ (px py : ℕ) where
  pub best-append : (xs ys : List Leaf) → best px py (xs ++ ys) ≡ later (best px py xs) (best px py ys)
  best-append [] ys = refl
  best-append (l ∷ xs) ys = ap (later (hit_by px py l)) (best-append xs ys)
      ∙ sym (later-assoc (hit_by px py l) (best px py xs) (best px py ys))

  pub best-one : (l : Leaf) → best px py (l ∷ []) ≡ hit_by px py l
  best-one l = later-none (hit_by px py l)

  pub best-insert : (xs : List Leaf) (i : ℕ) (l : Leaf) → best px py (insert xs i l) ≡ later (best px py xs) (hit_by px py l)
  best-insert xs i l =
      best-append (take i xs) (l ∷ drop i xs)
      ∙ ap (later (best px py (take i xs))) (later-comm (hit_by px py l) (best px py (drop i xs)))
      ∙ sym (later-assoc (best px py (take i xs)) (best px py (drop i xs)) (hit_by px py l))
      ∙ ap (λ b. later b (hit_by px py l))
      (sym (best-append (take i xs) (drop i xs)) ∙ ap (best px py) (take-append-drop i xs))

  pub best-none : (xs : List Leaf) → All (λ (l : Leaf). holds l.rect px py ≡ false) xs → best px py xs ≡ None
  best-none [] none = refl
  best-none (l ∷ xs) none =
      ap (λ b. later (cond b (Some l.number) None) (best px py xs)) (none 0 l (omega arith))
      ∙ best-none xs (λ k x lt. none (suc k) x (omega arith))

  -- ---- the latest of leaves in order is the last

  last-some : (n : ℕ) (ns : List ℕ) → (k : ℕ) × (last_of (n ∷ ns) ≡ Some k)
  last-some n [] = (n, refl)
  last-some n (m ∷ ns) = last-some m ns

  later-last : (n : ℕ) (ns : List ℕ) (b : Option ℕ) → b ≡ last_of ns → ((k : ℕ) → b ≡ Some k → n ≤ k)
      → later (Some n) b ≡ last_of (n ∷ ns)
  later-last n [] None e after = refl
  later-last n [] (Some k) e after = cc
  later-last n (m ∷ ns) None e after = let some = (last-some m ns).1 in cc
  later-last n (m ∷ ns) (Some k) e after = let le = after k refl in let same : max n k ≡ k = omega arith in ap Some same ∙ e

  later-least : (n : ℕ) (c : Bool) (rest : Option ℕ) → ((j : ℕ) → rest ≡ Some j → n ≤ j) → (k : ℕ)
      → later (cond c (Some n) None) rest ≡ Some k → n ≤ k
  later-least n false rest more k e = more k e
  later-least n true None more k e = let same : n ≡ k = cc in omega arith
  later-least n true (Some j) more k e = let same : max n j ≡ k = cc in omega arith

  best-from : (n : ℕ) (marks : List Mark) (k : ℕ) → best px py (leaves_from n marks) ≡ Some k → n ≤ k
  best-from n [] k e = cc
  best-from n (m ∷ marks) k e = go m.leaf (λ j is. let le = best-from (n + 1) marks j is in omega arith) e
    where
      go : (b : Bool) → ((j : ℕ) → best px py (leaves_from (n + 1) marks) ≡ Some j → n ≤ j)
          → best px py (cond b (record { number = n; rect = m.rect } ∷ leaves_from (n + 1) marks) (leaves_from (n + 1) marks))
          ≡ Some k → n ≤ k
      go false more e = more k e
      go true more e = later-least n (holds m.rect px py) (best px py (leaves_from (n + 1) marks)) more k e

  one-last : (c : Bool) (l : Leaf) (b : Option ℕ) (found : List Leaf) → b ≡ last_of (numbers_of found)
      → ((k : ℕ) → b ≡ Some k → l.number ≤ k)
      → later (cond c (Some l.number) None) b ≡ last_of (numbers_of (cond c (l ∷ found) found))
  one-last false l b found e after = e
  one-last true l b found e after = later-last l.number (numbers_of found) b e after

  best-last : (n : ℕ) (marks : List Mark) → best px py (leaves_from n marks)
      ≡ last_of (numbers_of (filter (λ (l : Leaf). holds l.rect px py) (leaves_from n marks)))
  best-last n [] = refl
  best-last n (m ∷ marks) =
      go m.leaf (best-last (n + 1) marks) (λ k e. let le = best-from (n + 1) marks k e in omega arith)
    where
      go : (b : Bool)
          → best px py (leaves_from (n + 1) marks)
          ≡ last_of (numbers_of (filter (λ (l : Leaf). holds l.rect px py) (leaves_from (n + 1) marks)))
          → ((k : ℕ) → best px py (leaves_from (n + 1) marks) ≡ Some k → n ≤ k) →
          best px py (cond b (record { number = n; rect = m.rect } ∷ leaves_from (n + 1) marks) (leaves_from (n + 1) marks))
          ≡ last_of (numbers_of (filter (λ (l : Leaf). holds l.rect px py)
          (cond b (record { number = n; rect = m.rect } ∷ leaves_from (n + 1) marks) (leaves_from (n + 1) marks))))
      go false rest after = rest
      go true rest after =
          one-last (holds m.rect px py) (record { number = n; rect = m.rect }) (best px py (leaves_from (n + 1) marks))
          (filter (λ (l : Leaf). holds l.rect px py) (leaves_from (n + 1) marks)) rest after

  pub best-hit : (marks : List Mark) → best px py (leaves_of marks) ≡ hit marks px py
  best-hit marks = best-last 0 marks
