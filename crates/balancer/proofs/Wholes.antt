-- All columns of a row, and the limit that a balanced row is searched within.
use Rattle.std.proofs.Common.{◌≡◌, ℕ, ◌+◌, ◌-◌, ◌^◌, ◌<◌, ◌≤◌, inl, inr, Bool, true, false, cond, Option, Some, None}
use Rattle.std.proofs.Common.{refl, sym, ◌∙◌, arith}
use Rattle.std.specs.Prelude.{IfSome, nat_lt}
use Rattle.std.proofs.lemmas.Bool.Decides.{nat_tests}
use Rattle.flow_data.specs.declared.data.Flow.{Flow}
use Rattle.flow_data.specs.declared.data.FlowsData.{FlowsData}
use Rattle.flow_data.specs.Flows.{flow_in, row_of}
use Rattle.flow_list.specs.Certificate.{columns_from}
use Rattle.flow_list.specs.Column.{Column, column}
use Rattle.flow_list.specs.RowHeights.{size_of}
use Rattle.flow_list.specs.Rows.{all_rows, columns, left_in, reach}
use Rattle.flow_list.specs.Tokens.{Token, IsPlace}
use Rattle.flow_list.proofs.Fitting.{size-reach}
use Rattle.flow_laws.specs.RangeLaws.{RangesAccount}
use Rattle.flow_laws.proofs.Places.{at-end}
use Rattle.column_laws.specs.AnyFlow.{FlowIsSound}
use Rattle.column_laws.specs.Counting.{ColumnsAreFew}
use Rattle.column_laws.specs.Following.{ColumnsFollow}
use Rattle.balancer.specs.Balancing.{IsBalanced, balanced_uses, limit_of}
use Rattle.balancer.specs.declared.balancing.Balanced.{Balanced}
use Rattle.balancer.proofs.Limits.{balanced-same, uses-same}

-- the first 2^32 - 1 columns, or all, are all
pub all-columns : (d : FlowsData) (r : ℕ) (q : Token) (h most : ℕ) →
    ((make : Token → Column) (f : Flow) → ColumnsFollow make f) → ColumnsAreFew d r →
    FlowIsSound d (row_of d r).flow → IsPlace d (flow_in d r) q → 2 ^ 32 - 1 ≤ most →
    columns (all_rows d) d (flow_in d r) most q h ≡ columns_from d r q h
all-columns d r q h most follow few sound place le = go place
  where
    go : IsPlace d (flow_in d r) q → columns (all_rows d) d (flow_in d r) most q h ≡ columns_from d r q h
    go (inl end) =
        let law = follow (λ t. column (all_rows d) d (flow_in d r) t h) (flow_in d r) in
        law.none_at_end most q (at-end (flow_in d r) q end)
        ∙ sym (law.none_at_end (left_in (all_rows d) (flow_in d r) q) q (at-end (flow_in d r) q end))
    go (inr before) =
        let law = follow (λ t. column (all_rows d) d (flow_in d r) t h) (flow_in d r) in
        let small : left_in (all_rows d) (flow_in d r) q < 2 ^ 32 = few.left_is_small q in
        law.no_more (left_in (all_rows d) (flow_in d r) q) most q (omega arith)
        (sound.advances.columns_end (left_in (all_rows d) (flow_in d r) q) q (Some h) before (omega arith))

-- no row is as high as 2^60
pub size-small : (d : FlowsData) (r : ℕ) (q : Token) → FlowIsSound d (row_of d r).flow → size_of d r q < 2 ^ 60
unfolding size_of
size-small d r q sound =
    let within = size-reach (all_rows d) d r q in
    let small : reach (all_rows d) d (flow_in d r) q < 2 ^ 60 = sound.small.reach_is_small q in
    omega arith

pub limit-small : (available : Option ℕ) → IfSome (limit_of available) (λ a. a + 1 < 2 ^ 64)
limit-small None = tt
limit-small (Some a) = go (nat_lt a (2 ^ 64 - 1)) refl
  where
    go : (b : Bool) → nat_lt a (2 ^ 64 - 1) ≡ b → IfSome (cond b (Some a) None) (λ a. a + 1 < 2 ^ 64)
    go true e = let lt : a < 2 ^ 64 - 1 = grind (arith, nat_tests) in omega arith
    go false e = tt

module _ (d : FlowsData) (r : ℕ) (q : Token) (account : (available : Option ℕ) → RangesAccount d r q available)
    (small : size_of d r q < 2 ^ 60) where
  -- so what is balanced within the limit is balanced where that much is available
  pub limit-balanced : (available : Option ℕ) (out : Balanced) → IsBalanced d r q (limit_of available) out →
      IsBalanced d r q available out
  limit-balanced None out made = made
  limit-balanced (Some a) out made = go (nat_lt a (2 ^ 64 - 1)) refl made
    where
      go : (b : Bool) → nat_lt a (2 ^ 64 - 1) ≡ b → IsBalanced d r q (cond b (Some a) None) out → IsBalanced d r q (Some a) out
      go true e m = m
      go false e m =
          let le : 2 ^ 64 - 1 ≤ a = grind (arith, nat_tests) in
          balanced-same d r q account a (omega arith) out m

  pub limit-uses : (available : Option ℕ) → balanced_uses d r q (limit_of available) ≡ balanced_uses d r q available
  limit-uses None = refl
  limit-uses (Some a) = go (nat_lt a (2 ^ 64 - 1)) refl
    where
      go : (b : Bool) → nat_lt a (2 ^ 64 - 1) ≡ b → balanced_uses d r q (cond b (Some a) None) ≡ balanced_uses d r q (Some a)
      go true e = refl
      go false e = let le : 2 ^ 64 - 1 ≤ a = grind (arith, nat_tests) in uses-same d r q account a (omega arith)
