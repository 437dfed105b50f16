-- What the boxes have that are open in a sound flow: at a head those come that start there, at a tail those go that end there.
use Rattle.std.proofs.Common.{◌≡◌, ℕ, zero, suc, ◌+◌, ◌<◌, ◌≤◌, ◌^◌, Bool, true, false, cond, List, [], ◌∷◌, length, refl}
use Rattle.std.proofs.Common.{sym, ◌∙◌, ap, arith, sum_by, All}
use Rattle.std.specs.Prelude.{nat_lt, ◌==◌, ◌||◌}
use Rattle.std.specs.List.{flat_map}
use Rattle.std.proofs.lemmas.Bool.Decides.{nat_tests}
use Rattle.std.proofs.lemmas.List.Sums.{sum_by-cons}
use Rattle.flow_data.specs.declared.data.Edge.{Edge}
use Rattle.flow_data.specs.declared.data.Flow.{Flow}
use Rattle.flow_data.specs.declared.data.FlowsData.{FlowsData}
use Rattle.flow_data.specs.declared.data.Seam.{Seam}
use Rattle.flow_data.specs.Flows.{no_flow, flow_of, seam_of, box_of, started, ended, boxes_in}
use Rattle.flow_data.specs.Soundness.{IsSound, IsSoundFlow, count_of, flow_height}
use Rattle.flow_data.proofs.BoxSums.{open_at-le}
use Rattle.flow_data.proofs.Counts.{count-cons, distinct-count}
use Rattle.flow_data.proofs.OpenBoxes.{starts-known, ends-known, opened-known}
use Rattle.flow_list.specs.ClonedEdges.{open_across, tops, bottoms, any_avoids}
use Rattle.flow_list.proofs.AtomFlows.{one-of}
use Rattle.flow_list.proofs.Fitting.{open_across-le}
use Rattle.flow_list.proofs.OpenAcross.{across-sum, across-known, at-sum-is}
use Rattle.column_strip.specs.declared.open_boxes.OpenBoxes.{OpenBoxes}
use Rattle.column_strip.specs.Boxes.{avoiding, IsAcross, IsOpen, IsWith, HasRoom, HasAmong}

-- ---- how many there are

-- these numbers but for n
without : ℕ → List ℕ → List ℕ
without n [] = []
without n (x ∷ xs) = cond (x == n) (without n xs) (x ∷ without n xs)

without-length : (n : ℕ) (xs : List ℕ) → length (without n xs) + count_of n xs ≡ length xs
unfolding without
without-length n [] = refl
without-length n (x ∷ xs) = go (x == n) refl (without-length n xs)
  where
    go : (b : Bool) → (x == n) ≡ b → length (without n xs) + count_of n xs ≡ length xs →
        length (cond b (without n xs) (x ∷ without n xs)) + count_of n (x ∷ xs) ≡ suc (length xs)
    go true e r = let c = count-cons n x xs ∙ ap (λ b. cond b 1 0 + count_of n xs) e in omega arith
    go false e r = let c = count-cons n x xs ∙ ap (λ b. cond b 1 0 + count_of n xs) e in omega arith

without-count : (n m : ℕ) (xs : List ℕ) → count_of m (without n xs) ≤ count_of m xs
unfolding without
without-count n m [] = omega arith
without-count n m (x ∷ xs) = go (x == n) (without-count n m xs)
  where
    go : (b : Bool) → count_of m (without n xs) ≤ count_of m xs
        → count_of m (cond b (without n xs) (x ∷ without n xs)) ≤ count_of m (x ∷ xs)
    go true r = let c = count-cons m x xs in omega arith
    go false r = let c = count-cons m x xs in let e = count-cons m x (without n xs) in omega arith

without-below : (n : ℕ) (xs : List ℕ) → All (λ x. x < suc n) xs → All (λ x. x < n) (without n xs)
unfolding without
without-below n [] all = λ k e lt. absurd (omega arith)
without-below n (x ∷ xs) all = go (x == n) refl (without-below n xs (λ k e lt. all (suc k) e (omega arith)))
  where
    more : x < n → All (λ x. x < n) (without n xs) → All (λ x. x < n) (x ∷ without n xs)
    more lt rest zero e in_list = lt
    more lt rest (suc k) e in_list = rest k e (omega arith)

    go : (b : Bool) → (x == n) ≡ b → All (λ x. x < n) (without n xs) → All (λ x. x < n) (cond b (without n xs) (x ∷ without n xs))
    go true e rest = rest
    go false e rest = more (let a : x < suc n = all 0 x (omega arith) in grind (arith, nat_tests)) rest

-- numbers below n that each stand there once at most are n at most
few-below : (n : ℕ) (xs : List ℕ) → All (λ x. x < n) xs → ((m : ℕ) → count_of m xs ≤ 1) → length xs ≤ n
few-below zero [] all once = omega arith
few-below zero (x ∷ xs) all once = let a : x < 0 = all 0 x (omega arith) in absurd (omega arith)
few-below (suc n) xs all once =
    let r = few-below n (without n xs) (without-below n xs all) (λ m. let a = without-count n m xs in let b = once m
    in omega arith) in
    let l = without-length n xs in
    let o = once n in
    omega arith

avoiding-le : (d : FlowsData) (xs : List ℕ) → avoiding d xs ≤ length xs
avoiding-le d [] = omega arith
avoiding-le d (x ∷ xs) =
    let r = avoiding-le d xs in
    let c = sum_by-cons (λ b. cond (box_of d b).avoid 1 0) x xs in
    let o = one (box_of d x).avoid in
    omega arith
  where
    one : (b : Bool) → cond b 1 0 ≤ 1
    one true = omega arith
    one false = omega arith

-- some box avoids a break just where their count is above 0
pub avoids-is : (d : FlowsData) (xs : List ℕ) → nat_lt 0 (avoiding d xs) ≡ any_avoids d xs
avoids-is d [] = refl
avoids-is d (x ∷ xs) =
    ap (λ n. nat_lt 0 n) (sum_by-cons (λ b. cond (box_of d b).avoid 1 0) x xs) ∙ go (box_of d x).avoid (avoids-is d xs)
  where
    go : (b : Bool) → nat_lt 0 (avoiding d xs) ≡ any_avoids d xs → nat_lt 0 (cond b 1 0 + avoiding d xs) ≡ (b || any_avoids d xs)
    go true again = grind (arith, nat_tests)
    go false again = let z : 0 + avoiding d xs ≡ avoiding d xs = omega arith in ap (λ n. nat_lt 0 n) z ∙ again

-- where the data has no boxes, none is open
sum-none : (g : ℕ → ℕ) (n : ℕ) (xs : List ℕ) → n ≡ 0 → All (λ b. b < n) xs → sum_by g xs ≡ 0
sum-none g n [] none all = refl
sum-none g n (x ∷ xs) none all = let a : x < n = all 0 x (omega arith) in absurd (omega arith)

sum-both : (p q : ℕ → ℕ) (xs : List ℕ) → sum_by (λ b. p b + q b) xs ≡ sum_by p xs + sum_by q xs
sum-both p q [] = refl
sum-both p q (x ∷ xs) = let a = sum_by-cons (λ b. p b + q b) x xs in let b = sum_by-cons p x xs in let c = sum_by-cons q x xs
    in let r = sum-both p q xs in omega arith

-- ---- a sound flow

module _ (d : FlowsData) (n : ℕ) (sound : IsSound d) (in_flows : n < length d.flows) where
  abbrev f : Flow
  f = flow_of d n

  pub sound_flow : IsSoundFlow d f
  sound_flow = sound.flows n no_flow in_flows

  boxes-small : tops d (boxes_in f) + bottoms d (boxes_in f) < 2 ^ 60
  boxes-small =
      let b = sum-both (λ b. (box_of d b).top) (λ b. (box_of d b).bottom) (boxes_in f) in
      let o = one-of (flow_height d) d.flows n no_flow in_flows in
      let h = sound.heights in
      omega arith

  boxes-few : avoiding d (boxes_in f) < 2 ^ 32
  boxes-few =
      let a = avoiding-le d (boxes_in f) in
      let b = few-below (length d.boxes) (boxes_in f) sound_flow.boxes (λ m. distinct-count m (boxes_in f) sound_flow.distinct) in
      let c = sound.box_count in
      omega arith

  pub none-across : (k : ℕ) (o : OpenBoxes) → length d.boxes ≡ 0 → o.tops ≡ 0 → o.bottoms ≡ 0 → o.avoiding ≡ 0 → IsAcross d f k o
  none-across k o none t b a =
      let known = across-known d f sound_flow k in
      record {
        above = t ∙ sym (sum-none (λ b. (box_of d b).top) (length d.boxes) (open_across f k) none known);
        below = b ∙ sym (sum-none (λ b. (box_of d b).bottom) (length d.boxes) (open_across f k) none known);
        avoid = a ∙ sym (sum-none (λ b. cond (box_of d b).avoid 1 0) (length d.boxes) (open_across f k) none known);
      }

  -- the boxes open at the flow's start
  module _ (none : OpenBoxes) (no_tops : none.tops ≡ 0) (no_bottoms : none.bottoms ≡ 0) (no_avoiding : none.avoiding ≡ 0)
      (opened : List ℕ) (is : opened ≡ f.opened) where
    pub start-known : All (λ b. b < length d.boxes) opened
    start-known = rw is (opened-known d f sound_flow)

    pub start-room : HasRoom d none opened
    start-room = rw is (record {
      above = omega (arith, boxes-small, open_across-le (λ b. (box_of d b).top) f 0);
      below = omega (arith, boxes-small, open_across-le (λ b. (box_of d b).bottom) f 0);
      avoid = omega (arith, boxes-few, open_across-le (λ b. cond (box_of d b).avoid 1 0) f 0);
    })

    pub start-across : (o : OpenBoxes) → IsWith d none opened o → IsAcross d f 0 o
    start-across o with =
        let w : IsWith d none f.opened o = rw is at with in
        record {
          above = let a = w.above in omega arith;
          below = let a = w.below in omega arith;
          avoid = let a = w.avoid
              in omega arith;
        }

  module _ (k : ℕ) (in_items : k < length f.items) where
    at-seam : k < length f.seams
    at-seam = let e = sound_flow.seam_count in omega arith

    pub seam-after : k + 1 < length f.seams
    seam-after = let e = sound_flow.seam_count in omega arith

    -- the head of the seam before item k
    module _ (across : OpenBoxes) (is_across : IsAcross d f k across) (seam : Seam) (same : seam ≡ seam_of f k) (head : List Edge)
        (is : head ≡ seam.head) where
      whole_head : head ≡ (seam_of f k).head
      whole_head = is ∙ ap (λ (s : Seam). s.head) same

      pub head-known : All (λ edge. All (λ b. b < length d.boxes) (started edge)) head
      head-known = rw whole_head (starts-known d f sound_flow k at-seam)

      pub head-room : HasRoom d across (flat_map started head)
      head-room =
          let t = is_across.above in
          let b = is_across.below in
          let a = is_across.avoid in
          rw whole_head (record {
            above = omega (
              arith,
              boxes-small,
              at-sum-is d f sound_flow (λ b. (box_of d b).top) k at-seam,
              open_at-le (λ b. (box_of d b).top) f k,
            );
            below = omega (
              arith,
              boxes-small,
              at-sum-is d f sound_flow (λ b. (box_of d b).bottom) k at-seam,
              open_at-le (λ b. (box_of d b).bottom) f k,
            );
            avoid = omega (
              arith,
              boxes-few,
              at-sum-is d f sound_flow (λ b. cond (box_of d b).avoid 1 0) k at-seam,
              open_at-le (λ b. cond (box_of d b).avoid 1 0) f k,
            );
          })

      pub head-open : (o : OpenBoxes) → IsWith d across (flat_map started head) o → IsOpen d f k o
      head-open o with =
          let t = is_across.above in
          let b = is_across.below in
          let a = is_across.avoid in
          let w : IsWith d across (flat_map started (seam_of f k).head) o = rw whole_head at with in
          let wt = w.above in
          let wb = w.below in
          let wa = w.avoid in
          record {
            above = omega (arith, at-sum-is d f sound_flow (λ b. (box_of d b).top) k at-seam);
            below = omega (arith, at-sum-is d f sound_flow (λ b. (box_of d b).bottom) k at-seam);
            avoid = omega (arith, at-sum-is d f sound_flow (λ b. cond (box_of d b).avoid 1 0) k at-seam);
          }

    -- the tail of the seam after it
    module _ (open_here : OpenBoxes) (is_open : IsOpen d f k open_here) (seam : Seam) (same : seam ≡ seam_of f (k + 1))
        (tail : List Edge) (is : tail ≡ seam.tail) where
      whole_tail : tail ≡ (seam_of f (k + 1)).tail
      whole_tail = is ∙ ap (λ (s : Seam). s.tail) same

      pub tail-known : All (λ edge. All (λ b. b < length d.boxes) (ended edge)) tail
      tail-known = rw whole_tail (ends-known d f sound_flow k seam-after)

      pub tail-among : HasAmong d open_here (flat_map ended tail)
      tail-among =
          let t = is_open.above in
          let b = is_open.below in
          let a = is_open.avoid in
          rw whole_tail (record {
            above = omega (arith, across-sum d f sound_flow (λ b. (box_of d b).top) k seam-after);
            below = omega (arith, across-sum d f sound_flow (λ b. (box_of d b).bottom) k seam-after);
            avoid = omega (arith, across-sum d f sound_flow (λ b. cond (box_of d b).avoid 1 0) k seam-after);
          })

      pub tail-across : (o : OpenBoxes) → IsWith d o (flat_map ended tail) open_here → IsAcross d f (k + 1) o
      tail-across o with =
          let t = is_open.above in
          let b = is_open.below in
          let a = is_open.avoid in
          let w : IsWith d o (flat_map ended (seam_of f (k + 1)).tail) open_here = rw whole_tail at with in
          let wt = w.above in
          let wb = w.below in
          let wa = w.avoid in
          record {
            above = omega (arith, across-sum d f sound_flow (λ b. (box_of d b).top) k seam-after);
            below = omega (arith, across-sum d f sound_flow (λ b. (box_of d b).bottom) k seam-after);
            avoid = omega (arith, across-sum d f sound_flow (λ b. cond (box_of d b).avoid 1 0) k seam-after);
          }
