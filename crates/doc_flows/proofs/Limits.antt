-- What passes a limit is refused by that limit, and for nothing else.
use Rattle.std.proofs.Common.{◌≡◌, ℕ, Bool, true, false, List, subst, Option, Some, None, nat_lt, flat_map}
use Rattle.std.specs.List.{list_any}
use Rattle.mc_base.specs.declared.refusal.LimitName.{LimitName}
use Rattle.mc_base.specs.declared.refusal.LimitName.TheVariants as limits
use Rattle.mc_base.specs.declared.refusal.Refusal.{Refusal}
use Rattle.mc_base.specs.declared.refusal.Refusal.TheVariants.{Grammar, Construct, Limit, NoMemory}
use Rattle.flow_data.specs.declared.data.FlowsData.{FlowsData}
use Rattle.flow_data.specs.Soundness.{item_total}
use Rattle.box_data.specs.BoxTree.{or_else}
use Rattle.box_data.specs.Content.{Content}
use Rattle.box_data.specs.declared.placed.Placed.{Placed}
use Rattle.box_data.specs.Limits.{first_above, greatest_length, item_heights, column_counts, nesting, inner_counts, passed, long, wide, when, late_limit}

abbrev pub IsLimit : Refusal → Type 0
IsLimit (Grammar input offset rule) = ⊥
IsLimit (Construct input offset name) = ⊥
IsLimit (Limit name reached limit) = Unit
IsLimit NoMemory = ⊥

-- a refusal, if there is one, is a limit
abbrev pub IsOnlyLimit : Option Refusal → Type 0
IsOnlyLimit refused = (e : Refusal) → refused ≡ Some e → IsLimit e

pub either_limit : (a b : Option Refusal) → IsOnlyLimit a → IsOnlyLimit b → IsOnlyLimit (or_else a b)
either_limit None b x y e h = y e h
either_limit (Some a) b x y e h = x e h

limit_is : (name : LimitName) (reached limit : ℕ) → IsOnlyLimit (Some (Limit name reached limit))
limit_is name reached limit e h = let same : Limit name reached limit ≡ e = cc in subst IsLimit same tt

passed_limit : (name : LimitName) (limit : ℕ) (n : Option ℕ) → IsOnlyLimit (passed n (λ n. Limit name n limit))
passed_limit name limit None e h = absurd cc
passed_limit name limit (Some n) e h = limit_is name n limit e h

when_limit : (name : LimitName) (reached limit : ℕ) (passes : Bool) → IsOnlyLimit (when passes (Limit name reached limit))
when_limit name reached limit true e h = limit_is name reached limit e h
when_limit name reached limit false e h = absurd cc

pub long_limit : (lengths : List ℕ) → IsOnlyLimit (long lengths)
long_limit lengths = passed_limit limits.Length greatest_length (first_above greatest_length lengths)

pub late_limits : (places : List Placed) (content : Content) (d : FlowsData) → IsOnlyLimit (late_limit places content d)
late_limits places content d =
    let nest = when (nat_lt 3 (nesting 0 content)) (Limit limits.Nest 4 3) in
    let items = when (nat_lt 100000 (item_total d)) (Limit limits.Items 100001 100000) in
    let inner = when (list_any (λ n. nat_lt 2000 n) (inner_counts false content)) (Limit limits.InnerItems 2001 2000) in
    either_limit (long (item_heights d)) (or_else (wide places) (or_else nest (or_else items inner)))
    (long_limit (item_heights d))
    (either_limit (wide places) (or_else nest (or_else items inner))
    (passed_limit limits.Columns 32 (first_above 32 (flat_map column_counts places)))
    (either_limit nest (or_else items inner)
    (when_limit limits.Nest 4 3 (nat_lt 3 (nesting 0 content)))
    (either_limit items inner
    (when_limit limits.Items 100001 100000 (nat_lt 100000 (item_total d)))
    (when_limit limits.InnerItems 2001 2000 (list_any (λ n. nat_lt 2000 n) (inner_counts false content))))))
