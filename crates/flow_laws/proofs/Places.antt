-- Places in a flow before its end, and its end.
use Rattle.std.proofs.Common.{◌≡◌, ℕ, zero, suc, ◌<◌, ◌≤◌, true, false, List, [], ◌∷◌, length, drop, sym, subst, arith, ◌⊎◌, inl}
use Rattle.std.proofs.Common.{inr}
use Rattle.std.proofs.lemmas.Bool.{cases_lt}
use Rattle.std.proofs.lemmas.Bool.Decides.{nat_tests}
use Rattle.flow_list.specs.Data.{Flow, FlowsData, Item}
use Rattle.flow_list.specs.Tokens.{Token, item_number, is_end, IsPlaceBefore, row_start}

pub in-items : (d : FlowsData) (f : Flow) (t : Token) → IsPlaceBefore d f t → item_number t < length f.items
in-items d f [] place = absurd place
in-items d f (i ∷ []) place = place
in-items d f (i ∷ (j ∷ rest)) place = place.0

pub before-end : (d : FlowsData) (f : Flow) (t : Token) → IsPlaceBefore d f t → is_end f t ≡ false
before-end d f t place = let lt = in-items d f t place in grind (arith, nat_tests)

pub at-end : (f : Flow) (t : Token) → t ≡ length f.items ∷ [] → is_end f t ≡ true
at-end f t e = let P : Token → Type 0 = λ t. is_end f t ≡ true in subst P (sym e) (grind (arith, nat_tests))

-- items are left from an item on
pub some-left : (n : ℕ) (items : List Item) → n < length items → 0 < length (drop n items)
some-left n [] lt = absurd (omega arith)
some-left zero (item ∷ items) lt = omega arith
some-left (suc n) (item ∷ items) lt = some-left n items (omega arith)

-- the end, or a place before it
abbrev pub IsReached : FlowsData → Flow → Token → Type 0
IsReached d f t = (is_end f t ≡ true) ⊎ IsPlaceBefore d f t

pub start-reached : (d : FlowsData) (f : Flow) → IsReached d f row_start
start-reached d f = go (cases_lt 0 (length f.items))
  where
    go : (0 < length f.items) ⊎ (length f.items ≤ 0) → IsReached d f row_start
    go (inl some) = inr some
    go (inr none) = inl (grind (arith, nat_tests))
