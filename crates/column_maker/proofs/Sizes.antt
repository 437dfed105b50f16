-- What a row that stands whole uses stands in a book that has its size.
use Rattle.std.proofs.Common.{◌≡◌, ℕ, zero, suc, ◌+◌, ◌≤◌, ◌==◌, Bool, true, false, ◌&&◌, List, [], ◌∷◌, ◌++◌, refl, sym}
use Rattle.std.proofs.Common.{subst, ◌∙◌, ap}
use Rattle.std.proofs.Common.{append_assoc, arith, ◌-◌, ◌<◌, length, Option, Some, None, All}
use Rattle.std.specs.List.{flat_map}
use Rattle.std.proofs.lemmas.Bool.{or_left}
use Rattle.std.proofs.lemmas.Bool.Decides.{nat_tests}
use Rattle.std.proofs.lemmas.List.Elements.{All-cons, All-head, All-nil, All-tail, All-weaker}
use Rattle.std.proofs.lemmas.List.Folds.{list_any-append}
use Rattle.std.proofs.lemmas.List.{append-nil}
use Rattle.std.proofs.lemmas.List.Concat.{flat_map-append}
use Rattle.flow_data.specs.Flows.{flow_in, item_of, row_of}
use Rattle.flow_data.specs.Soundness.{IsSound}
use Rattle.flow_list.specs.Book.{AllStand, IsTrueBook}
use Rattle.flow_list.specs.Certificate.{Use, columns_from, range_uses, same_token, same_use, size_ranges, size_uses, stands_in}
use Rattle.flow_list.specs.Certificate.{uses_of}
use Rattle.flow_list.specs.Column.{Column, row_from, row_list}
use Rattle.flow_list.specs.Data.{Flow, FlowsData}
use Rattle.flow_list.specs.RowHeights.{size_of}
use Rattle.flow_list.specs.Rows.{all_rows, columns, fill_in, left_in}
use Rattle.flow_list.specs.Tokens.{Token, IsPlaceBefore, item_number, row_start, within}
use Rattle.flow_laws.proofs.HoldingEnds.{taken_at, taken-start}
use Rattle.column_laws.specs.Following.{columns_of_fills}
use Rattle.column_laws.proofs.Counting.{columns-are-few}
use Rattle.column_laws.proofs.Depths.{rows-are-told}
use Rattle.column_maker.specs.Making.{last_item, last_rows, rows_in_column}
use Rattle.column_maker.specs.Walking.{whole_rows}

all-front : {X : Type 0} (P : X → Type 0) (xs ys : List X) → All P (xs ++ ys) → All P xs
all-front P [] ys all = All-nil P
all-front P (x ∷ xs) ys all =
    All-cons P x xs (All-head P x (xs ++ ys) all) (all-front P xs ys (All-tail P x (xs ++ ys) all))

all-back : {X : Type 0} (P : X → Type 0) (xs ys : List X) → All P (xs ++ ys) → All P ys
all-back P [] ys all = all
all-back P (x ∷ xs) ys all = all-back P xs ys (All-tail P x (xs ++ ys) all)

token-is : (p q : Token) → same_token p q ≡ true → p ≡ q
token-is [] [] e = refl
token-is [] (j ∷ q) e = absurd (cc)
token-is (i ∷ p) [] e = absurd (cc)
token-is (i ∷ p) (j ∷ q) e = go (i == j) refl e (λ same. token-is p q same)
  where
    go : (b : Bool) → (i == j) ≡ b → (b && same_token p q) ≡ true → (same_token p q ≡ true → p ≡ q) → (i ∷ p) ≡ (j ∷ q)
    go true is e again = let same : i ≡ j = grind (arith, nat_tests) in let rest = again e in cc
    go false is e again = absurd (cc)

pair : ℕ → Token → Use
pair r q = (r, q)

pair-is : (r s : ℕ) (q t : Token) → ((r == s) && same_token q t) ≡ true → pair r q ≡ pair s t
unfolding pair
pair-is r s q t e = go (r == s) refl e
  where
    go : (b : Bool) → (r == s) ≡ b → (b && same_token q t) ≡ true → pair r q ≡ pair s t
    go true is e =
        let same : r ≡ s = grind (arith, nat_tests) in
        ap (λ a. pair a q) same ∙ ap (λ p. pair s p) (token-is q t e)
    go false is e = absurd (cc)

use-is : (u v : Use) → same_use u v ≡ true → u ≡ v
unfolding pair
use-is u v e = pair-is u.0 v.0 u.1 v.1 e

-- a book that has a size, about that
split-at : (book : List Use) (u : Use) → stands_in book u ≡ true →
    (first : List Use) × (rest : List Use) × (book ≡ first ++ u ∷ rest)
split-at [] u e = absurd (cc)
split-at (v ∷ book) u e = go (same_use u v) refl (λ later. split-at book u later)
  where
    go : (b : Bool) → same_use u v ≡ b →
        (stands_in book u ≡ true → (first : List Use) × (rest : List Use) × (book ≡ first ++ u ∷ rest)) →
        (first : List Use) × (rest : List Use) × (v ∷ book ≡ first ++ u ∷ rest)
    go true is again = ([], book, ap (λ w. w ∷ book) (sym (use-is u v is)))
    go false is again =
        let later = again (rw is at e) in
        (v ∷ later.0, later.1, ap (λ ws. v ∷ ws) later.2)

stand-more : (xs ys : List Use) (u : Use) → stands_in xs u ≡ true → stands_in (xs ++ ys) u ≡ true
stand-more xs ys u e = list_any-append (same_use u) xs ys ∙ or_left (stands_in xs u) (stands_in ys u) e

module _ (d : FlowsData) where
  -- the sizes that it uses stand there too
  pub used-stand : (book : List Use) → IsTrueBook d book → (u : Use) → stands_in book u ≡ true → AllStand book (size_uses d u)
  used-stand book is_true u there =
      let s = split-at book u there in
      subst (λ (b : List Use). AllStand b (size_uses d u)) (sym s.2)
      (All-weaker (λ w. stands_in s.0 w ≡ true) (λ w. stands_in (s.0 ++ u ∷ s.1) w ≡ true) (stand-more s.0 (u ∷ s.1))
      (size_uses d u) (is_true.after_its_uses s.0 u s.1 s.2))

  own-stand : (book : List Use) (r : ℕ) (q : Token) → AllStand book (size_uses d (r, q)) →
      AllStand book (uses_of (columns_from d r q (size_of d r q)))
  unfolding size_uses
  own-stand book r q all =
      all-back (λ u. stands_in book u ≡ true) (flat_map (range_uses d r q) (size_ranges d r q))
      (uses_of (columns_from d r q (size_of d r q))) all

  -- the fills of a row of this size
  pub fills-stand : IsSound d → (book : List Use) → IsTrueBook d book → (r : ℕ) → r < length d.rows → (q : Token) →
      IsPlaceBefore d (flow_in d r) q → stands_in book (r, q) ≡ true → (h : ℕ) → h ≡ size_of d r q → (n : ℕ) →
      left_in (all_rows d) (flow_in d r) q ≤ n → AllStand book (uses_of (columns_of_fills (all_rows d) d r n q h))
  fills-stand sound book is_true r known q place there h is n le =
      subst (λ (cs : List Column). AllStand book (uses_of cs))
      (sym ((columns-are-few d sound r known).all_by_fills n q h place le))
      (subst (λ (a : ℕ). AllStand book (uses_of (columns_from d r q a))) (sym is)
      (own-stand book r q (used-stand book is_true (r, q) there)))

  -- one fill, and those after it
  module _ (sound : IsSound d) (r : ℕ) (known : r < length d.rows) (book : List Use) (n : ℕ) (q next : Token) (h : ℕ)
      (all : AllStand book (uses_of (columns (all_rows d) d (flow_in d r) (row_of d r).n q h
      ++ columns_of_fills (all_rows d) d r n next h))) where
    first : List Column
    first = columns (all_rows d) d (flow_in d r) (row_of d r).n q h

    both : List Use
    both = uses_of (columns (all_rows d) d (flow_in d r) (row_of d r).n q h) ++ uses_of
        (columns_of_fills (all_rows d) d r n next h)

    parts : AllStand book (uses_of (columns (all_rows d) d (flow_in d r) (row_of d r).n q h)
        ++ uses_of (columns_of_fills (all_rows d) d r n next h))
    parts = subst (AllStand book) (flat_map-append (λ (c : Column). c.uses) (columns (all_rows d) d (flow_in d r)
        (row_of d r).n q h)
        (columns_of_fills (all_rows d) d r n next h)) all

    pub fill-stands : AllStand book ((all_rows d).fill r q h).uses
    unfolding fill_in
    fill-stands =
        subst (λ (us : List Use). AllStand book us) (sym (ap (λ (c : _). c.uses) ((rows-are-told d sound).fill_is r q h known)))
        (all-front (λ u. stands_in book u ≡ true) (uses_of (columns (all_rows d) d (flow_in d r) (row_of d r).n q h))
        (uses_of (columns_of_fills (all_rows d) d r n next h)) parts)

    pub later-stand : AllStand book (uses_of (columns_of_fills (all_rows d) d r n next h))
    later-stand =
        all-back (λ u. stands_in book u ≡ true) (uses_of (columns (all_rows d) d (flow_in d r) (row_of d r).n q h))
        (uses_of (columns_of_fills (all_rows d) d r n next h)) parts

-- one item more
pub rows-more : (f : Flow) (k : ℕ) (q : Token) (n : ℕ) →
    whole_rows f k q (n + 1) ≡ whole_rows f k q n ++ row_list (row_from (item_of f (k + n)) (taken_at n q))
unfolding whole_rows
rows-more f k q zero =
    let e : k ≡ k + 0 = omega arith in
    append-nil (row_list (row_from (item_of f k) q)) ∙ ap (λ m. row_list (row_from (item_of f m) q)) e
rows-more f k q (suc n) =
    let one : suc n + 1 ≡ suc (n + 1) = omega arith in
    let e : k + 1 + n ≡ k + suc n = omega arith in
    let own = row_list (row_from (item_of f k) q) in
    let rest = whole_rows f (k + 1) row_start n in
    ap (whole_rows f k q) one ∙ ap (λ us. own ++ us) (rows-more f (k + 1) row_start n)
    ∙ ap (λ m. own ++ (rest ++ row_list (row_from (item_of f m) (taken_at n row_start)))) e
    ∙ ap (λ t. own ++ (rest ++ row_list (row_from (item_of f (k + suc n)) t))) (taken-start n)
    ∙ sym (append_assoc own rest (row_list (row_from (item_of f (k + suc n)) row_start)))

-- in the column that begins at t, before its last item, and with that
pub rows-end : (f : Flow) (t end : Token) (cut : Option ℕ) (k : ℕ) (q : Token) → k ≡ last_item end → item_number t ≤ k →
    q ≡ taken_at (k - item_number t) (within t) →
    whole_rows f (item_number t) (within t) (k - item_number t) ++ last_rows f k cut q ≡ rows_in_column f t end cut
rows-end f t end (Some a) k q is le at =
    append-nil (whole_rows f (item_number t) (within t) (k - item_number t))
    ∙ ap (λ m. whole_rows f (item_number t) (within t) (m - item_number t)) is
rows-end f t end None k q is le at =
    let i = item_number t in
    let there : k ≡ i + (k - i) = omega arith in
    let count : k - i + 1 ≡ last_item end + 1 - i = omega arith in
    ap (λ m. whole_rows f i (within t) (k - i) ++ row_list (row_from (item_of f m) q)) there
    ∙ ap (λ u. whole_rows f i (within t) (k - i) ++ row_list (row_from (item_of f (i + (k - i))) u)) at
    ∙ sym (rows-more f i (within t) (k - i)) ∙ ap (whole_rows f i (within t)) count

-- none before its first item
pub rows-none : (f : Flow) (k : ℕ) (q : Token) (n : ℕ) → n ≡ 0 → whole_rows f k q n ≡ []
unfolding whole_rows
rows-none f k q n is = ap (whole_rows f k q) is

-- one item more of it
pub rows-next : (f : Flow) (t : Token) (k : ℕ) (q : Token) → item_number t ≤ k → q ≡ taken_at (k - item_number t) (within t) →
    whole_rows f (item_number t) (within t) (k - item_number t) ++ row_list (row_from (item_of f k) q)
    ≡ whole_rows f (item_number t) (within t) (k + 1 - item_number t)
rows-next f t k q le at =
    let i = item_number t in
    let there : k ≡ i + (k - i) = omega arith in
    let count : k - i + 1 ≡ k + 1 - i = omega arith in
    ap (λ m. whole_rows f i (within t) (k - i) ++ row_list (row_from (item_of f m) q)) there
    ∙ ap (λ u. whole_rows f i (within t) (k - i) ++ row_list (row_from (item_of f (i + (k - i))) u)) at
    ∙ sym (rows-more f i (within t) (k - i)) ∙ ap (whole_rows f i (within t)) count
