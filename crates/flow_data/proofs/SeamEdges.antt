-- Seams whose starts and ends have their cloned edges beside them are sound: of any data.
use Rattle.std.proofs.Common.{◌≡◌, ℕ, zero, suc, ◌-◌, ◌<◌, List, [], ◌∷◌, Option, Some, None, refl, ap, subst, arith, add-one}
use Rattle.std.specs.Prelude.{slice_get}
use Rattle.std.specs.List.{flat_map}
use Rattle.flow_data.specs.Data.{Edge, FlowsData, Seam, Margin, Solid, Wall, Start, End}
use Rattle.flow_data.specs.Flows.{box_of, started, ended}
use Rattle.flow_data.specs.Soundness.{IsSoundSeam}

-- ---- cloned edges along a list of edges

abbrev pub some_solid : ℕ → Option Edge
some_solid u = Some (Solid u)

abbrev pub some_amount : ℕ → Option ℕ
some_amount u = Some u

abbrev pub FollowsTop : FlowsData → Edge → List Edge → Type 0
FollowsTop d (Start b) edges = 0 < (box_of d b).top → slice_get edges 0 ≡ some_solid (box_of d b).top
FollowsTop d _ edges = Unit {0}

-- each start is followed by its upper edge
abbrev pub TopsFollow : FlowsData → List Edge → Type 0
TopsFollow d [] = Unit {0}
TopsFollow d (e ∷ edges) = FollowsTop d e edges × TopsFollow d edges

abbrev pub solid_edge : Edge → Option ℕ
solid_edge (Solid u) = Some u
solid_edge _ = None

abbrev pub Precedes : FlowsData → Option ℕ → Edge → Type 0
Precedes d before (End b) = 0 < (box_of d b).bottom → before ≡ some_amount (box_of d b).bottom
Precedes d before _ = Unit {0}

-- each end stands after its lower edge
abbrev pub BottomsPrecede : FlowsData → Option ℕ → List Edge → Type 0
BottomsPrecede d before [] = Unit {0}
BottomsPrecede d before (e ∷ edges) = Precedes d before e × BottomsPrecede d (solid_edge e) edges

pub some_edge : (a b : Edge) → Some a ≡ Some b → a ≡ b
some_edge a b e = cc

pub top_at : (d : FlowsData) (edges : List Edge) → TopsFollow d edges → (k b : ℕ) → slice_get edges k ≡ Some (Start b)
    → 0 < (box_of d b).top → slice_get edges (suc k) ≡ some_solid (box_of d b).top
top_at d [] h k b is some = absurd cc
top_at d (e ∷ edges) h zero b is some = let here = subst (λ (x : Edge). FollowsTop d x edges) (some_edge e (Start b) is) h.0
    in here some
top_at d (e ∷ edges) h (suc k) b is some = top_at d edges h.1 k b is some

pub solid_is : (e : Edge) (u : ℕ) → solid_edge e ≡ Some u → e ≡ Solid u
solid_is (Margin m) u h = absurd cc
solid_is (Solid a) u h = cc
solid_is Wall u h = absurd cc
solid_is (Start b) u h = absurd cc
solid_is (End b) u h = absurd cc

-- the solid amount right before place k
abbrev pub StandsBefore : Option ℕ → List Edge → ℕ → ℕ → Type 0
StandsBefore before edges zero u = before ≡ some_amount u
StandsBefore before edges (suc k) u = slice_get edges k ≡ some_solid u

pub bottom_at : (d : FlowsData) (before : Option ℕ) (edges : List Edge) → BottomsPrecede d before edges → (k b : ℕ)
    → slice_get edges k ≡ Some (End b) → 0 < (box_of d b).bottom → StandsBefore before edges k (box_of d b).bottom
bottom_at d before [] h k b is some = absurd cc
bottom_at d before (e ∷ edges) h zero b is some =
    let here = subst (λ (x : Edge). Precedes d before x) (some_edge e (End b) is) h.0 in here some
bottom_at d before (e ∷ edges) h (suc zero) b is some =
    let solid = solid_is e (box_of d b).bottom (bottom_at d (solid_edge e) edges h.1 zero b is some) in
    ap (λ (x : Edge). Some x) solid
bottom_at d before (e ∷ edges) h (suc (suc k)) b is some = bottom_at d (solid_edge e) edges h.1 (suc k) b is some

-- ---- heads, tails and seams

pub record IsHead (d : FlowsData) (edges : List Edge) : Type 0 where
  pub no_end : flat_map ended edges ≡ []
  pub cloned : TopsFollow d edges

pub record IsTail (d : FlowsData) (before : Option ℕ) (edges : List Edge) : Type 0 where
  pub no_start : flat_map started edges ≡ []
  pub cloned : BottomsPrecede d before edges

pub empty_head : (d : FlowsData) → IsHead d []
empty_head d = record { no_end = refl; cloned = tt }

pub empty_tail : (d : FlowsData) (before : Option ℕ) → IsTail d before []
empty_tail d before = record { no_start = refl; cloned = tt }

-- no amount stands before the tail
pub seam_from : (d : FlowsData) (s : Seam) → IsTail d None s.tail → IsHead d s.head → IsSoundSeam d s
seam_from d s tail head = record {
  tail = tail.no_start;
  head = head.no_end;
  cloned_top = λ k b is some. rw add-one (top_at d s.head head.cloned k b is some);
  cloned_bottom = λ k b is some. before k b (bottom_at d None s.tail tail.cloned k b is some);
}
  where
    before : (k b : ℕ) → StandsBefore None s.tail k (box_of d b).bottom
        → slice_get s.tail (k - 1) ≡ some_solid (box_of d b).bottom
    before zero b h = absurd cc
    before (suc k) b h = let less : k ≡ suc k - 1 = omega arith
        in subst (λ (j : ℕ). slice_get s.tail j ≡ some_solid (box_of d b).bottom) less h
