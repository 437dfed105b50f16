-- What is laid in a column, item by item, is what the definitions lay there.
use Rattle.std.proofs.Common.{◌≡◌, ℕ, zero, suc, ◌+◌, List, ◌++◌, refl, sym, ◌∙◌, ap, arith, append_assoc}
use Rattle.std.proofs.lemmas.List.{append-nil}
use Rattle.flow_list.specs.Data.{Flow}
use Rattle.flow_data.specs.Flows.{seam_of}
use Rattle.flow_list.specs.Column.{Inner, strip_behind}
use Rattle.flow_list.specs.Fragments.{laid_before, laid_items, strip_after}
use Rattle.flow_list.specs.Placing.{Laid, laid_edges}
use Rattle.flow_list.specs.Strip.{Strip}
use Rattle.flow_list.specs.Tokens.{Token, row_start}
use Rattle.flow_laws.proofs.HoldingEnds.{taken_at, taken-start}
use Rattle.column_maker.specs.Walking.{item_laid, item_passed, strip_next, strip_to, walk_laid}

module _ (x : Inner) (f : Flow) where
  -- one item more before a row that is filled
  before-more : (s : Strip) (k : ℕ) (q : Token) (n : ℕ) →
      laid_before x f s k q (suc n) ≡ item_passed x f s k q ++ laid_before x f (strip_next x f s k q) (k + 1) row_start n
  unfolding laid_items strip_after
  before-more s k q zero =
      let head = laid_edges (strip_behind x f s k q) (seam_of f (k + 1)).head in
      ap (λ xs. xs ++ head) (append-nil (item_laid x f s k q)) ∙ sym (append-nil (item_laid x f s k q ++ head))
  before-more s k q (suc n) =
      let one = item_laid x f s k q in
      let head = laid_edges (strip_behind x f s k q) (seam_of f (k + 1)).head in
      let next = strip_next x f s k q in
      let rest = laid_items x f next (k + 1) row_start (suc n) in
      let after = strip_after x f next (k + 1) row_start (suc n) in
      let e : k + suc (suc n) ≡ k + 1 + suc n = omega arith in
      ap (λ m. (one ++ (head ++ rest)) ++ laid_edges after (seam_of f m).head) e
      ∙ ap (λ xs. xs ++ laid_edges after (seam_of f (k + 1 + suc n)).head) (sym (append_assoc one head rest))
      ∙ append_assoc (one ++ head) rest (laid_edges after (seam_of f (k + 1 + suc n)).head)

  -- n items, and then the last one
  pub walk-is : (last : Strip → Token → List Laid) (s : Strip) (k : ℕ) (q : Token) (n : ℕ) →
      walk_laid x f last s k q n ≡ laid_before x f s k q n ++ last (strip_to x f s k q n) (taken_at n q)
  unfolding walk_laid strip_to
  walk-is last s k q zero = refl
  walk-is last s k q (suc n) =
      let next = strip_next x f s k q in
      ap (λ xs. item_passed x f s k q ++ xs) (walk-is last next (k + 1) row_start n)
      ∙ ap (λ t. item_passed x f s k q ++ (laid_before x f next (k + 1) row_start n ++ last
      (strip_to x f next (k + 1) row_start n) t))
      (taken-start n)
      ∙ sym (append_assoc (item_passed x f s k q) (laid_before x f next (k + 1) row_start n)
      (last (strip_to x f next (k + 1) row_start n) row_start))
      ∙ ap (λ xs. xs ++ last (strip_to x f next (k + 1) row_start n) row_start) (sym (before-more s k q n))

  -- n + 1 items that stand whole
  pub items-are : (s : Strip) (k : ℕ) (q : Token) (n : ℕ) → laid_items x f s k q (suc n)
      ≡ laid_before x f s k q n ++ item_laid x f (strip_to x f s k q n) (k + n) (taken_at n q)
  unfolding laid_items strip_to
  items-are s k q zero =
      let e : k ≡ k + 0 = omega arith in
      append-nil (item_laid x f s k q) ∙ ap (λ m. item_laid x f s m q) e
  items-are s k q (suc n) =
      let one = item_laid x f s k q in
      let head = laid_edges (strip_behind x f s k q) (seam_of f (k + 1)).head in
      let next = strip_next x f s k q in
      let last = strip_to x f next (k + 1) row_start n in
      let e : k + 1 + n ≡ k + suc n = omega arith in
      ap (λ xs. one ++ (head ++ xs)) (items-are next (k + 1) row_start n)
      ∙ ap (λ m. one ++ (head ++ (laid_before x f next (k + 1) row_start n ++ item_laid x f last m (taken_at n row_start)))) e
      ∙ ap (λ t. one ++ (head ++ (laid_before x f next (k + 1) row_start n ++ item_laid x f last (k + suc n) t))) (taken-start n)
      ∙ sym (append_assoc one head (laid_before x f next (k + 1) row_start n ++ item_laid x f last (k + suc n) row_start))
      ∙ sym (append_assoc (one ++ head) (laid_before x f next (k + 1) row_start n) (item_laid x f last (k + suc n) row_start))
      ∙ ap (λ xs. xs ++ item_laid x f last (k + suc n) row_start) (sym (before-more s k q n))

  -- ---- from one item to the next

  pub walk-next : (last : Strip → Token → List Laid) (s : Strip) (k : ℕ) (q : Token) (n m : ℕ) → n ≡ suc m →
      walk_laid x f last s k q n ≡ item_passed x f s k q ++ walk_laid x f last (strip_next x f s k q) (k + 1) row_start m
  unfolding walk_laid
  walk-next last s k q n m is = ap (walk_laid x f last s k q) is

  pub strip-next : (s : Strip) (k : ℕ) (q : Token) (n m : ℕ) → n ≡ suc m →
      strip_to x f s k q n ≡ strip_to x f (strip_next x f s k q) (k + 1) row_start m
  unfolding strip_to
  strip-next s k q n m is = ap (strip_to x f s k q) is

  pub walk-last : (last : Strip → Token → List Laid) (s : Strip) (k : ℕ) (q : Token) (n : ℕ) → n ≡ 0 →
      walk_laid x f last s k q n ≡ last s q
  unfolding walk_laid
  walk-last last s k q n is = ap (walk_laid x f last s k q) is

  pub strip-last : (s : Strip) (k : ℕ) (q : Token) (n : ℕ) → n ≡ 0 → strip_to x f s k q n ≡ s
  unfolding strip_to
  strip-last s k q n is = ap (strip_to x f s k q) is

  -- one item more on the way to a place
  pub strip-more : (s : Strip) (k : ℕ) (q : Token) (n : ℕ) →
      strip_to x f s k q (suc n) ≡ strip_next x f (strip_to x f s k q n) (k + n) (taken_at n q)
  unfolding strip_to
  strip-more s k q zero = let e : k ≡ k + 0 = omega arith in ap (λ m. strip_next x f s m q) e
  strip-more s k q (suc n) =
      let next = strip_next x f s k q in
      let e : k + 1 + n ≡ k + suc n = omega arith in
      strip-more next (k + 1) row_start n
      ∙ ap (λ m. strip_next x f (strip_to x f next (k + 1) row_start n) m (taken_at n row_start)) e
      ∙ ap (λ t. strip_next x f (strip_to x f next (k + 1) row_start n) (k + suc n) t) (taken-start n)
