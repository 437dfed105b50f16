-- A flow without rows, and a book without entries.
use Rattle.std.proofs.Common.{◌≡◌, ℕ, suc, ◌<◌, List, [], ◌∷◌, ◌++◌, length, get_or, refl, arith}
use Rattle.std.specs.Prelude.{flat_map}
use Rattle.std.proofs.lemmas.List.Elements.{All-nil}
use Rattle.flow_data.specs.declared.data.Flow.{Flow}
use Rattle.flow_data.specs.declared.data.FlowsData.{FlowsData}
use Rattle.flow_data.specs.declared.data.Item.{Item}
use Rattle.flow_data.specs.declared.data.Item.TheVariants.{Atom, Row}
use Rattle.flow_data.specs.Flows.{item_of, no_item, row_in, rows_in}
use Rattle.flow_list.specs.Atoms.{IsAtom}
use Rattle.inner_rows.specs.TrueBook.{AreTrue, IsTrueEntry}

atoms-alone : (items : List Item) → ((k : ℕ) → k < length items → IsAtom (get_or items k no_item)) → flat_map row_in items ≡ []
atoms-alone [] all = refl
atoms-alone (Atom height kind ∷ items) all = atoms-alone items (λ k lt. all (suc k) (omega arith))
atoms-alone (Row r ∷ items) all = absurd (all 0 (omega arith))

pub no-rows : (f : Flow) (n : ℕ) → n ≡ length f.items → ((k : ℕ) → k < n → IsAtom (item_of f k)) → rows_in f ≡ []
no-rows f n e all = atoms-alone f.items (λ k lt. all k (omega arith))

none-before : {A : Type 0} (first : List A) (u : A) (rest : List A) → [] ≡ first ++ u ∷ rest → ⊥
none-before [] u rest e = cc
none-before (x ∷ xs) u rest e = cc

pub empty-true : (d : FlowsData) → AreTrue d []
empty-true d = record {
  each = All-nil (IsTrueEntry d);
  order = record {
    once = λ first u rest e. absurd (none-before first u rest e);
    after_its_uses = λ first u rest e. absurd (none-before first u rest e);
  };
}
