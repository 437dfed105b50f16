-- Stacks one after another.
use Rattle.std.proofs.Common.{◌≡◌, ◌∙◌, ℕ, zero, suc, List, [], ◌∷◌, ◌++◌, Option, Some, length, slice_get, map, refl}
use Rattle.std.proofs.Common.{subst, ap}
use Rattle.flow_list.specs.Certificate.{StackRow, Use, row_book}
use Rattle.flow_list.specs.Data.{FlowsData}
use Rattle.flow_list.specs.declared.laid.LaidRow.{LaidRow}
use Rattle.flow_list.specs.declared.laid.LaidStack.{LaidStack}
use Rattle.frag_pool.specs.Growing.{Grows}
use Rattle.frag_pool.specs.Nodes.{Nodes}
use Rattle.frag_pool.proofs.Stays.{stands-growing}
use Rattle.container_layout.specs.Laid.{AreLaidAfter}
use Rattle.piece_data.specs.Lowering.{Flags, stack_lowered}
use Rattle.tree_lowering.specs.Lower.{laid_row}
use Rattle.row_all.specs.Answered.{AreLoweredStacks}
use Rattle.row_all.specs.Parts.{ArePartsOf}
use Rattle.row_all.specs.declared.engine.Part.{Part}
use Rattle.row_all.proofs.Standing.{parts-stay}

-- what is so of each by its number, and of one more
pub each-more : {X : Type 0} (P : ℕ → X → Type 0) (xs : List X) (x : X) →
    ((s : ℕ) (y : X) → slice_get xs s ≡ Some y → P s y) → P (length xs) x →
    (s : ℕ) (y : X) → slice_get (xs ++ x ∷ []) s ≡ Some y → P s y
each-more P [] x each is zero y e = subst (λ z. P 0 z) (cc e) is
each-more P [] x each is (suc s) y e = absurd (cc e)
each-more P (z ∷ xs) x each is zero y e = each 0 y e
each-more P (z ∷ xs) x each is (suc s) y e =
    each-more (λ n w. P (suc n) w) xs x (λ n w at. each (suc n) w at) is s y e

pub none-yet : {X : Type 0} (P : ℕ → X → Type 0) (s : ℕ) (y : X) → slice_get [] s ≡ Some y → P s y
none-yet P s y e = absurd (cc e)

-- these stay where the region grows
pub stacks-stay : (d : FlowsData) (flags : Flags) (p q : Nodes) → Grows p q → (outs : List LaidStack) →
    AreLoweredStacks d flags p outs → AreLoweredStacks d flags q outs
stacks-stay d flags p q grows outs are = λ s out at. record {
  height = (are s out at).height;
  frag = stands-growing p q grows out.frag (stack_lowered d flags s) (are s out at).frag;
}

abbrev pub EachParts : FlowsData → Flags → Nodes → List (List Part) → Type 0
EachParts d flags p parts = (s : ℕ) (own : List Part) → slice_get parts s ≡ Some own → ArePartsOf d flags p s own

pub each-stay : (d : FlowsData) (flags : Flags) (p q : Nodes) → Grows p q → (parts : List (List Part)) →
    EachParts d flags p parts → EachParts d flags q parts
each-stay d flags p q grows parts are = λ s own at. record {
  met = (are s own at).met;
  each = parts-stay d p q grows own (are s own at).each;
}

-- the rows directly in stacks
abbrev row_there : ℕ → Option ℕ → StackRow
row_there r available = record { row = r; available = available }

pub rows-known : (d : FlowsData) (p : Nodes) (book : List Use) (rs : List StackRow) (outs : List LaidRow) →
    AreLaidAfter d p book rs outs → map laid_row outs ≡ rs
rows-known d p book [] [] are = refl
rows-known d p book [] (out ∷ outs) are = absurd are
rows-known d p book (r ∷ rs) [] are = absurd are
rows-known d p book (r ∷ rs) (out ∷ outs) are =
    let row : laid_row out ≡ r =
    ap (λ (n : ℕ). row_there n out.available) are.0.row ∙ ap (λ (a : Option ℕ). row_there r.row a) are.0.available in
    ap (λ (x : StackRow). x ∷ map laid_row outs) row
    ∙ ap (λ (xs : List StackRow). r ∷ xs) (rows-known d p (row_book d book r) rs outs are.2)
