-- Where no used length is too long, the images are small.
use Rattle.std.proofs.Common.{◌≡◌, ℕ, ◌≤◌, List, [], ◌∷◌, ◌++◌, Bool, true, false, nat_lt, Option, Some, None, All, refl}
use Rattle.std.proofs.Common.{arith, flat_map, if◌then◌else◌}
use Rattle.std.specs.List.{AllByRecursion}
use Rattle.std.proofs.lemmas.Bool.Decides.{nat_tests}
use Rattle.std.proofs.lemmas.List.Elements.{All-from_recursion}
use Rattle.mc_base.specs.declared.refusal.Refusal.{Refusal}
use Rattle.mc_base.specs.declared.refusal.Refusal.TheVariants as refusals
use Rattle.mc_base.specs.declared.refusal.LimitName.TheVariants as limits
use Rattle.box_data.specs.declared.placed.ImageSize.{ImageSize}
use Rattle.box_data.specs.declared.placed.Placed.{Placed}
use Rattle.box_data.specs.Limits.{first_above, greatest_length, used_lengths, gap_lengths, size_lengths, all_used_lengths}
use Rattle.box_data.specs.Limits.{long, passed}
use Rattle.box_lines.specs.Made.{IsSmall}

abbrev IsNone : List ℕ → Type 0
IsNone lengths = first_above greatest_length lengths ≡ None

not_passed : (o : Option ℕ) (refusal : ℕ → Refusal) → passed o refusal ≡ None → o ≡ None
not_passed None refusal h = refl
not_passed (Some n) refusal h = cc

-- a first length, and what follows it
step : (x : ℕ) (xs : List ℕ) (b : Bool) → nat_lt greatest_length x ≡ b
    → (if b then Some x else first_above greatest_length xs) ≡ None
    → (x ≤ greatest_length) × IsNone xs
step x xs true e h = cc
step x xs false e h = (grind (arith, nat_tests), h)

behind : (xs ys : List ℕ) → IsNone (xs ++ ys) → IsNone ys
behind [] ys h = h
behind (x ∷ xs) ys h = behind xs ys (step x (xs ++ ys) (nat_lt greatest_length x) refl h).1

before : (xs ys : List ℕ) → IsNone (xs ++ ys) → IsNone xs
before [] ys h = refl
before (x ∷ xs) ys h = joined (nat_lt greatest_length x) refl h (before xs ys)
  where
    joined : (b : Bool) → nat_lt greatest_length x ≡ b → (if b then Some x else first_above greatest_length (xs ++ ys)) ≡ None
        → (IsNone (xs ++ ys) → IsNone xs) → (if b then Some x else first_above greatest_length xs) ≡ None
    joined true e none rest = cc
    joined false e none rest = rest none

small_sizes : (sizes : List ImageSize) → IsNone (flat_map size_lengths sizes) → AllByRecursion IsSmall sizes
small_sizes [] h = tt
small_sizes (size ∷ sizes) h =
    let rest = flat_map size_lengths sizes in
    let w = step size.w (size.h ∷ rest) (nat_lt greatest_length size.w) refl h in
    let height = step size.h rest (nat_lt greatest_length size.h) refl w.1 in
    (record { w = w.0; h = height.0 }, small_sizes sizes height.1)

abbrev sides_and_width : Placed → List ℕ
sides_and_width p =
    p.margin.top ∷ (p.margin.right ∷ (p.margin.bottom ∷ (p.margin.left ∷
    (p.padding.top ∷ (p.padding.right ∷ (p.padding.bottom ∷ (p.padding.left ∷ (p.w ∷ []))))))))

abbrev pub HasSmall : Placed → Type 0
HasSmall p = All IsSmall p.images

small_box : (p : Placed) → IsNone (used_lengths p) → HasSmall p
small_box p h =
    let images = flat_map size_lengths p.images in
    All-from_recursion IsSmall p.images
    (small_sizes p.images (behind (gap_lengths p.kind p.gap) images
    (behind (sides_and_width p) (gap_lengths p.kind p.gap ++ images) h)))

small_boxes : (places : List Placed) → IsNone (all_used_lengths places) → AllByRecursion HasSmall places
small_boxes [] h = tt
small_boxes (p ∷ places) h = (
  small_box p (before (used_lengths p) (all_used_lengths places) h),
  small_boxes places
      (behind (used_lengths p) (all_used_lengths places) h),
)

pub small_images : (places : List Placed) → long (all_used_lengths places) ≡ None → All HasSmall places
small_images places h =
    All-from_recursion HasSmall places (small_boxes places (not_passed (first_above greatest_length (all_used_lengths places))
    (λ n. refusals.Limit limits.Length n greatest_length) h))
