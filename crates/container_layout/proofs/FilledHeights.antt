-- The height of a row with `column-fill: auto`, told by how far its longest column reaches and whether a column was broken.
use Rattle.std.proofs.Common.{◌≡◌, ℕ, ◌<◌, ◌≤◌, max, Bool, true, false, cond, ◌||◌, List, [], ◌∷◌, Option, Some, None}
use Rattle.std.proofs.Common.{refl, sym, ◌∙◌, ap, arith, ◌⊎◌, inl, inr}
use Rattle.std.specs.Prelude.{fold, nat_lt}
use Rattle.std.specs.List.{list_any}
use Rattle.std.proofs.lemmas.Bool.{cases_lt, lt-ltb, le-ltb}
use Rattle.flow_list.specs.Data.{Flow}
use Rattle.flow_list.specs.Column.{Column}
use Rattle.flow_list.specs.RowHeights.{any_unforced, filled_height, filled_to, greatest_extent, is_unforced}

any-above : (most x : ℕ) (cs : List Column) → nat_lt most (fold (λ m (c : Column). max m c.extent) x cs)
    ≡ (nat_lt most x || list_any (λ (c : Column). nat_lt most c.extent) cs)
any-above most x [] = or-false (nat_lt most x)
  where
    or-false : (b : Bool) → b ≡ (b || false)
    or-false true = refl
    or-false false = refl
any-above most x (c ∷ cs) = any-above most (max x c.extent) cs
    ∙ ap (λ b. b || list_any (λ (c : Column). nat_lt most c.extent) cs) (max-above most x c.extent)
    ∙ regroup (nat_lt most x) (nat_lt most c.extent) (list_any (λ (c : Column). nat_lt most c.extent) cs)
  where
    regroup : (a b c : Bool) → ((a || b) || c) ≡ (a || (b || c))
    regroup true b c = refl
    regroup false b c = refl

    max-above : (m x y : ℕ) → nat_lt m (max x y) ≡ (nat_lt m x || nat_lt m y)
    max-above m x y = which (cases_lt m x) (cases_lt m y)
      where
        which : (m < x) ⊎ (x ≤ m) → (m < y) ⊎ (y ≤ m) → nat_lt m (max x y) ≡ (nat_lt m x || nat_lt m y)
        which (inl a) b = rw (lt-ltb m x a, lt-ltb m (max x y) (omega arith)) refl
        which (inr a) (inl b) = rw (le-ltb m x a, lt-ltb m y b, lt-ltb m (max x y) (omega arith)) refl
        which (inr a) (inr b) = rw (le-ltb m x a, le-ltb m y b, le-ltb m (max x y) (omega arith)) refl

any-both : (p q : Column → Bool) (cs : List Column) → list_any (λ c. p c || q c) cs ≡ (list_any p cs || list_any q cs)
any-both p q [] = refl
any-both p q (c ∷ cs) = ap (λ b. (p c || q c) || b) (any-both p q cs) ∙ regroup (p c) (q c) (list_any p cs) (list_any q cs)
  where
    regroup : (a b x y : Bool) → ((a || b) || (x || y)) ≡ ((a || x) || (b || y))
    regroup true b x y = refl
    regroup false true true y = refl
    regroup false true false y = refl
    regroup false false x y = refl

pub filled-is : (f : Flow) (available : Option ℕ) (cs : List Column)
    → filled_height f available cs ≡ filled_to available (greatest_extent cs) (any_unforced f cs)
filled-is f None cs = refl
filled-is f (Some most) cs =
    ap (λ b. cond b most (greatest_extent cs)) (any-both (λ c. is_unforced f c.end) (λ c. nat_lt most c.extent) cs
    ∙ ap (λ b. any_unforced f cs || b)
    (sym (any-above most 0 cs ∙ ap (λ b. b || list_any (λ (c : Column). nat_lt most c.extent) cs)
    (le-ltb most 0 (omega arith)))))
