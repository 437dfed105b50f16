-- What holds where no limit is passed.
use Rattle.std.proofs.Common.{◌≡◌, ℕ, ◌^◌, ◌≤◌, List, [], ◌∷◌, Bool, true, false, cond, ltb, Option, Some, None, refl}
use Rattle.std.specs.Prelude.{◌||◌, flat_map, nat_lt}
use Rattle.std.specs.List.{AllByRecursion, list_any}
use Rattle.std.proofs.lemmas.Bool.{ltb-false}
use Rattle.mc_base.specs.declared.refusal.Refusal.{Refusal}
use Rattle.mc_base.specs.declared.refusal.Refusal.TheVariants as refusals
use Rattle.mc_base.specs.declared.refusal.LimitName.TheVariants as limits
use Rattle.flow_data.specs.declared.data.FlowsData.{FlowsData}
use Rattle.flow_data.specs.Soundness.{item_total}
use Rattle.box_data.specs.declared.placed.Placed.{Placed}
use Rattle.box_data.specs.BoxTree.{or_else}
use Rattle.box_data.specs.Content.{Content}
use Rattle.box_data.specs.Limits.{first_above, passed, long, wide, when, late_limit, item_heights, column_counts, nesting}
use Rattle.box_data.specs.Limits.{inner_counts}

none_above : (limit : ℕ) (ns : List ℕ) → first_above limit ns ≡ None → AllByRecursion (λ n. n ≤ limit) ns
none_above limit [] h = tt
none_above limit (n ∷ ns) h = go (ltb limit n) refl h (none_above limit ns)
  where
    go : (b : Bool) → ltb limit n ≡ b → cond b (Some n) (first_above limit ns) ≡ None
        → (first_above limit ns ≡ None → AllByRecursion (λ n. n ≤ limit) ns) → AllByRecursion (λ n. n ≤ limit) (n ∷ ns)
    go true e h rest = absurd cc
    go false e h rest = (ltb-false limit n e, rest h)

not_passed : (found : Option ℕ) (refusal : ℕ → Refusal) → passed found refusal ≡ None → found ≡ None
not_passed None refusal h = refl
not_passed (Some n) refusal h = absurd cc

neither : {A : Type 0} (a b : Option A) → or_else a b ≡ None → (a ≡ None) × (b ≡ None)
neither {A} None b h = (refl, h)
neither {A} (Some x) b h = absurd cc

not_when : (v : Bool) (refusal : Refusal) → when v refusal ≡ None → v ≡ false
not_when false refusal h = refl
not_when true refusal h = absurd cc

none_of : (ns : List ℕ) → list_any (λ n. nat_lt 2000 n) ns ≡ false → AllByRecursion (λ n. n ≤ 2000) ns
none_of [] h = tt
none_of (n ∷ ns) h = go (ltb 2000 n) refl h (none_of ns)
  where
    go : (b : Bool) → ltb 2000 n ≡ b → (b || list_any (λ n. nat_lt 2000 n) ns) ≡ false
        → (list_any (λ n. nat_lt 2000 n) ns ≡ false → AllByRecursion (λ n. n ≤ 2000) ns) → AllByRecursion (λ n. n ≤ 2000) (n ∷ ns)
    go true e h rest = absurd cc
    go false e h rest = (ltb-false 2000 n e, rest h)

pub none_long : (lengths : List ℕ) → long lengths ≡ None → AllByRecursion (λ n. n ≤ 2 ^ 24) lengths
none_long lengths h = none_above (2 ^ 24) lengths (not_passed (first_above (2 ^ 24) lengths)
    (λ n. refusals.Limit limits.Length n (2 ^ 24)) h)

pub record PassesNone (places : List Placed) (c : Content) (d : FlowsData) : Type 0 where
  pub heights : AllByRecursion (λ n. n ≤ 2 ^ 24) (item_heights d)
  pub columns : AllByRecursion (λ n. n ≤ 32) (flat_map column_counts places)
  pub nests : nesting 0 c ≤ 3
  pub items : item_total d ≤ 100000
  pub inner : AllByRecursion (λ n. n ≤ 2000) (inner_counts false c)

pub passes_none : (places : List Placed) (c : Content) (d : FlowsData) → late_limit places c d ≡ None → PassesNone places c d
passes_none places c d h =
    let crowded = when (list_any (λ n. nat_lt 2000 n) (inner_counts false c)) (refusals.Limit limits.InnerItems 2001 2000) in
    let many = when (nat_lt 100000 (item_total d)) (refusals.Limit limits.Items 100001 100000) in
    let deep = when (nat_lt 3 (nesting 0 c)) (refusals.Limit limits.Nest 4 3) in
    let a = neither (long (item_heights d)) (or_else (wide places) (or_else deep (or_else many crowded))) h in
    let b = neither (wide places) (or_else deep (or_else many crowded)) a.1 in
    let e = neither deep (or_else many crowded) b.1 in
    let f = neither many crowded e.1 in
    record {
      heights = none_long (item_heights d) a.0;
      columns = none_above 32 (flat_map column_counts places) (not_passed (first_above 32 (flat_map column_counts places))
          (λ n. refusals.Limit limits.Columns n 32) b.0);
      nests = ltb-false 3 (nesting 0 c) (not_when (nat_lt 3 (nesting 0 c)) (refusals.Limit limits.Nest 4 3) e.0);
      items = ltb-false 100000 (item_total d) (not_when (nat_lt 100000 (item_total d))
          (refusals.Limit limits.Items 100001 100000) f.0);
      inner = none_of (inner_counts false c) (not_when (list_any (λ n. nat_lt 2000 n) (inner_counts false c))
          (refusals.Limit limits.InnerItems 2001 2000) f.1);
    }
