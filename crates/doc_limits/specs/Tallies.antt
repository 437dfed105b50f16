-- How rows one inside another are counted, mark by mark.
use Rattle.std.specs.Prelude.{ℕ, ◌+◌, min, max, nat_lt, if◌then◌else◌, List, [], ◌∷◌, Option}
use Rattle.mc_base.specs.declared.refusal.Refusal.{Refusal}
use Rattle.mc_base.specs.declared.refusal.Refusal.TheVariants as refusals
use Rattle.mc_base.specs.declared.refusal.LimitName.TheVariants as names
use Rattle.flow_data.specs.declared.data.FlowsData.{FlowsData}
use Rattle.flow_data.specs.Soundness.{item_total}
use Rattle.box_data.specs.declared.mark.Mark.{Mark}
use Rattle.box_data.specs.declared.mark.Mark.TheVariants as marked
use Rattle.box_data.specs.declared.placed.Placed.{Placed}
use Rattle.box_data.specs.declared.tree.BoxKind.{BoxKind}
use Rattle.box_data.specs.declared.tree.BoxKind.TheVariants as kinds
use Rattle.box_data.specs.BoxTree.{or_else}
use Rattle.box_data.specs.Limits.{when}
use Rattle.doc_limits.specs.declared.nests.OpenFlow.{OpenFlow}
use Rattle.doc_limits.specs.declared.nests.Nests.{Nests}

-- ---- columns

abbrev pub columns_in : BoxKind → (n : ℕ) → ℕ
columns_in kinds.Block n = 0
columns_in kinds.Anonymous n = 0
columns_in kinds.Container n = n
columns_in kinds.ImageBlock n = 0

abbrev pub columns_of : Placed → ℕ
columns_of p = columns_in p.kind p.columns.n

-- ---- open flows

abbrev pub empty : (depth : ℕ) → OpenFlow
empty depth = record { depth = depth; items = 0 }

abbrev pub with_item : OpenFlow → OpenFlow
with_item o = record { depth = o.depth; items = min (o.items + 1) 2001 }

abbrev pub deeper : ℕ → ℕ
deeper depth = min (depth + 1) 4

abbrev pub most_with : OpenFlow → (most : ℕ) → ℕ
most_with o most = if nat_lt 1 o.depth then max most o.items else most

abbrev pub nearest : List OpenFlow → OpenFlow
nearest [] = empty 0
nearest (o ∷ outer) = o

abbrev pub farther : List OpenFlow → List OpenFlow
farther [] = []
farther (o ∷ outer) = outer

-- ---- marks

abbrev pub begun : Nests
begun = record { flow = empty 0; outer = []; deepest = 0; most = 0 }

abbrev pub leaf_in : Nests → Nests
leaf_in s = record { flow = with_item s.flow; outer = s.outer; deepest = s.deepest; most = s.most }

abbrev pub held_in : Nests → (depth : ℕ) → Nests
held_in s depth = record { flow = empty depth; outer = with_item s.flow ∷ s.outer; deepest = max s.deepest depth; most = s.most }

abbrev pub close : Nests → Nests
close s = record { flow = nearest s.outer; outer = farther s.outer; deepest = s.deepest; most = most_with s.flow s.most }

abbrev pub step : Nests → Mark → Nests
step s (marked.Opens n) = s
step s (marked.Closes n) = s
step s (marked.Line n index) = leaf_in s
step s (marked.Image n) = leaf_in s
step s (marked.Void n x) = leaf_in s
step s (marked.Stack n) = held_in s 0
step s (marked.Row n x is_last opened) = held_in s (deeper s.flow.depth)
step s marked.Spanner = s
step s marked.End = close s

abbrev pub run : Nests → List Mark → Nests
run s [] = s
run s (m ∷ marks) = run (step s m) marks

-- ---- the limits of what was counted

abbrev pub many : Nests → FlowsData → Option Refusal
many s d =
    or_else (when (nat_lt 3 s.deepest) (refusals.Limit names.Nest 4 3))
    (or_else (when (nat_lt 100000 (item_total d)) (refusals.Limit names.Items 100001 100000))
    (when (nat_lt 2000 s.most) (refusals.Limit names.InnerItems 2001 2000)))
