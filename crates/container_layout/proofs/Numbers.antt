-- The rows directly in stacks by their numbers.
use Rattle.std.proofs.Common.{◌≡◌, ℕ, arith, false, ◌+◌, List, [], ◌∷◌, ◌++◌, length, refl, sym, ◌∙◌, ap, add-one}
use Rattle.std.specs.List.{flat_map}
use Rattle.std.proofs.lemmas.List.{append-nil}
use Rattle.std.proofs.lemmas.List.Concat.{flat_map-append}
use Rattle.flow_list.specs.Data.{FlowsData}
use Rattle.flow_list.specs.Certificate.{StackRow, Use, book_behind, book_of, numbers_below, rows_in_stacks, stands_in}
use Rattle.inner_rows.specs.TrueBook.{AreTrue}
use Rattle.container_layout.specs.Found.{numbered}
use Rattle.container_layout.proofs.Tables.{all_of}

-- those of numbers below n
abbrev pub rows_to : FlowsData → (n : ℕ) → List StackRow
rows_to d n = flat_map (λ m. numbered m (all_of d)) (numbers_below n)

pub rows-more : (d : FlowsData) (n : ℕ) → rows_to d (n + 1) ≡ rows_to d n ++ numbered n (all_of d)
rows-more d n =
    ap (rows_to d) (add-one n)
    ∙ flat_map-append (λ m. numbered m (all_of d)) (numbers_below n) (n ∷ [])
    ∙ ap (λ xs. rows_to d n ++ xs) (append-nil (numbered n (all_of d)))

pub rows-all : (d : FlowsData) → rows_in_stacks d ≡ rows_to d (length d.rows)
unfolding rows_in_stacks
rows-all d = refl

pub book-all : (d : FlowsData) → book_behind d [] (rows_to d (length d.rows)) ≡ book_of d
unfolding book_of
book-all d = ap (book_behind d []) (sym (rows-all d))

-- a book without entries is true
pub empty-true : (d : FlowsData) → AreTrue d []
empty-true d = record {
  each = λ k e lt. absurd (omega arith);
  order = record {
    once = λ first u rest is. none first u rest is;
    after_its_uses =
        λ first u rest is. absurd (split first u rest is);
  };
}
  where
    split : (first : List Use) (u : Use) (rest : List Use) → [] ≡ first ++ u ∷ rest → ⊥
    split [] u rest is = absurd (cc)
    split (v ∷ first) u rest is = absurd (cc)

    none : (first : List Use) (u : Use) (rest : List Use) → [] ≡ first ++ u ∷ rest → stands_in first u ≡ false
    none first u rest is = absurd (split first u rest is)
