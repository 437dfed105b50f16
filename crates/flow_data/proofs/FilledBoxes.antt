-- In a flow whose boxes are distinct and well nested none is empty if no box ends before the first item, none starts after
-- the last one, and none is open where there is no item.
use Rattle.std.proofs.Common.{◌≡◌, ℕ, zero, suc, ◌+◌, ◌-◌, ◌^◌, ◌<◌, ◌≤◌, cond, not, List, [], ◌∷◌, ◌++◌, length, take, drop}
use Rattle.std.proofs.Common.{get_or, refl, sym, subst, ◌∙◌, ap, arith, sum_by, append_assoc, All, reverse, ◌≢◌, ◌⊎◌, inl, inr}
use Rattle.std.specs.Prelude.{◌==◌, AllPairs, Contains, SomeIndex}
use Rattle.std.specs.List.{flat_map}
use Rattle.std.proofs.lemmas.Bool.{cases_lt}
use Rattle.std.proofs.lemmas.Grind.{flat_map-append}
use Rattle.std.proofs.lemmas.List.{append-nil, drop_more, take_more}
use Rattle.std.proofs.lemmas.List.Sums.{sum_by-append}
use Rattle.flow_data.specs.Data.{Flow, FlowsData, Seam}
use Rattle.flow_data.specs.Flows.{seam_of, no_seam, started, starts_in, ended, is_among, ends_in, open_at, boxes_in}
use Rattle.flow_data.specs.Soundness.{count_of, AreNested, edges_of, IsSoundItem, IsSoundSeam, IsSoundFlow}
use Rattle.flow_data.proofs.BoxSums.{filter-le}
use Rattle.flow_data.proofs.OpenBoxes.{After, Sides, both, count-less, edges-after, first-tail, has-count, seams-after}
use Rattle.flow_data.proofs.OpenBoxes.{some-index, starts-one}
use Rattle.flow_data.proofs.Counts.{count-append, count-reverse, count-self, count-among, distinct-count}

-- the boxes that start in the seams before j, and in the later seam k
starts-apart : (g : ℕ → ℕ) (seams : List Seam) (j k : ℕ) → j ≤ k → k < length seams
    → sum_by g (starts_in (take j seams)) + sum_by g (flat_map started (get_or seams k no_seam).head) ≤ sum_by g (starts_in seams)
starts-apart g [] j k le lt = absurd (omega arith)
starts-apart g (s ∷ ss) zero k le lt = omega (arith, starts-one g (s ∷ ss) k no_seam lt)
starts-apart g (s ∷ ss) (suc j) zero le lt = absurd (omega arith)
starts-apart g (s ∷ ss) (suc j) (suc k) le lt =
    omega (
      arith,
      starts-apart g ss j k (omega arith) (omega arith),
      sum_by-append g (flat_map started s.head) (starts_in (take j ss)),
      sum_by-append g (flat_map started s.head) (starts_in ss),
    )

-- a box that starts somewhere starts in the head of some seam
start-place : (b : ℕ) (seams : List Seam) → 0 < count_of b (starts_in seams)
    → (k : ℕ) × (k < length seams) × (0 < count_of b (flat_map started (get_or seams k no_seam).head))
start-place b [] some = absurd (omega arith)
start-place b (s ∷ ss) some = go (cases_lt 0 (count_of b (flat_map started s.head))) (start-place b ss)
  where
    go : (0 < count_of b (flat_map started s.head)) ⊎ (count_of b (flat_map started s.head) ≤ 0)
        → (0 < count_of b (starts_in ss)
        → (k : ℕ) × (k < length ss) × (0 < count_of b (flat_map started (get_or ss k no_seam).head)))
        → (k : ℕ) × (k < length (s ∷ ss)) × (0 < count_of b (flat_map started (get_or (s ∷ ss) k no_seam).head))
    go (inl here) later = (0, omega arith, here)
    go (inr none) later =
        let found = later (omega (arith, count-append b (flat_map started s.head) (starts_in ss))) in
        (suc found.0, omega arith, found.2)

-- the ends up to seam k
ends-more : (b : ℕ) (seams : List Seam) (k : ℕ) → k < length seams
    → count_of b (ends_in (take (k + 1) seams)) ≡ count_of b (ends_in (take k seams)) + count_of b
    (flat_map ended (get_or seams k no_seam).tail)
ends-more b seams k lt =
    let more : take (k + 1) seams ≡ take k seams ++ get_or seams k no_seam ∷ [] = take_more seams k no_seam lt in
    let joined : ends_in (take (k + 1) seams) ≡ ends_in (take k seams) ++ (flat_map ended (get_or seams k no_seam).tail ++ []) =
    ap ends_in more ∙ flat_map-append (λ (s : Seam). flat_map ended s.tail) (take k seams) (get_or seams k no_seam ∷ []) in
    ap (count_of b) joined ∙ count-append b (ends_in (take k seams)) (flat_map ended (get_or seams k no_seam).tail ++ [])
    ∙ ap (λ ys. count_of b (ends_in (take k seams)) + count_of b ys) (append-nil (flat_map ended (get_or seams k no_seam).tail))

-- the starts up to seam k
starts-more : (b : ℕ) (seams : List Seam) (k : ℕ) → k < length seams
    → count_of b (starts_in (take (k + 1) seams)) ≡ count_of b (starts_in (take k seams)) + count_of b
    (flat_map started (get_or seams k no_seam).head)
starts-more b seams k lt =
    let more : take (k + 1) seams ≡ take k seams ++ get_or seams k no_seam ∷ [] = take_more seams k no_seam lt in
    let joined : starts_in (take (k + 1) seams)
    ≡ starts_in (take k seams) ++ (flat_map started (get_or seams k no_seam).head ++ []) = ap starts_in more
    ∙ flat_map-append (λ (s : Seam). flat_map started s.head) (take k seams) (get_or seams k no_seam ∷ []) in
    ap (count_of b) joined ∙ count-append b (starts_in (take k seams)) (flat_map started (get_or seams k no_seam).head ++ [])
    ∙ ap (λ ys. count_of b (starts_in (take k seams)) + count_of b ys)
    (append-nil (flat_map started (get_or seams k no_seam).head))

-- what is open at item i was open at the start or started by then
opens-within : (m : ℕ) (f : Flow) (i : ℕ)
    → count_of m (open_at f i) ≤ count_of m f.opened + count_of m (starts_in (take (i + 1) f.seams))
opens-within m f i =
    omega (
      arith,
      filter-le (λ x. cond (x == m) 1 0) (λ b. not (is_among (ends_in (take (i + 1) f.seams)) b))
          (f.opened ++ starts_in (take (i + 1) f.seams)),
      count-append m f.opened (starts_in (take (i + 1) f.seams)),
    )

-- an item with a box that is open there
abbrev Stands : Flow → ℕ → Type 0
Stands f b = SomeIndex f.items (λ k. Contains (open_at f k) b)

module _ (f : Flow) (seam_count : length f.seams ≡ length f.items + 1) (sides : Sides f.seams)
    (distinct : AllPairs (λ a b. a ≢ b) (boxes_in f)) (nested : AreNested (reverse f.opened) (edges_of f)) where
  -- a box is named once in all
  once-in-all : (b : ℕ) → count_of b f.opened + count_of b (starts_in f.seams) ≤ 1
  once-in-all b = omega (arith, distinct-count b (boxes_in f) distinct, count-append b f.opened (starts_in f.seams))

  -- what ends up to seam k was open before or started before
  ends-before : (b k : ℕ) → k < length f.seams
      → count_of b (ends_in (take (k + 1) f.seams)) ≤ count_of b f.opened + count_of b (starts_in (take k f.seams))
  ends-before b k lt =
      let a : After (reverse f.opened) (starts_in (take k f.seams)) (ends_in (take k f.seams)) (flat_map both (drop k f.seams)) =
      seams-after f.seams k (reverse f.opened) sides nested in
      let rest : flat_map both (drop k f.seams)
      ≡ (seam_of f k).tail ++ ((seam_of f k).head ++ flat_map both (drop (k + 1) f.seams)) =
      ap (flat_map both) (drop_more f.seams k no_seam lt)
      ∙ append_assoc (seam_of f k).tail (seam_of f k).head (flat_map both (drop (k + 1) f.seams)) in
      let t = edges-after (seam_of f k).tail ((seam_of f k).head ++ flat_map both (drop (k + 1) f.seams)) a.boxes
      (subst (AreNested a.boxes) rest a.nested) in
      let none : count_of b (flat_map started (seam_of f k).tail) ≡ 0 = rw (sides.tail k no_seam lt) refl in
      omega (arith, a.counts b, t.counts b, ends-more b f.seams k lt, count-reverse b f.opened)

  -- a box that no tail up to seam k ends is open at item k if it was open at the start or started by then
  open-there : (b k : ℕ) → count_of b (ends_in (take (k + 1) f.seams)) ≡ 0
      → 0 < count_of b f.opened + count_of b (starts_in (take (k + 1) f.seams)) → Contains (open_at f k) b
  open-there b k none some =
      let kept = count-less b (ends_in (take (k + 1) f.seams)) (f.opened ++ starts_in (take (k + 1) f.seams))
      (count-among b (ends_in (take (k + 1) f.seams)) none) in
      some-index b (open_at f k) (omega (arith, count-append b f.opened (starts_in (take (k + 1) f.seams))))

  -- where the tests hold, each box is open at some item
  filled-from : flat_map ended (seam_of f 0).tail ≡ [] → flat_map started (seam_of f (length f.items)).head ≡ []
      → (length f.items ≡ 0 → f.opened ≡ []) → All (Stands f) (boxes_in f)
  filled-from first last bare j d lt = go (cases_lt 0 (count_of b f.opened))
    where
      b : ℕ
      b = get_or (boxes_in f) j d

      named : 0 < count_of b f.opened + count_of b (starts_in f.seams)
      named = omega (arith, has-count (boxes_in f) j d lt, count-append b f.opened (starts_in f.seams))

      some-item : 0 < count_of b f.opened → (n : ℕ) → length f.items ≡ n → 0 < n
      some-item some zero e = let none : count_of b f.opened ≡ 0 = rw (bare e) refl in absurd (omega arith)
      some-item some (suc n) e = omega arith

      at-start : 0 < count_of b f.opened → Stands f b
      at-start some =
          let none : count_of b (flat_map ended (get_or f.seams 0 no_seam).tail) ≡ 0 = rw first refl in (
            0,
            some-item some (length f.items) refl,
            open-there b 0 (omega (arith, ends-more b f.seams 0 (omega arith))) (omega arith),
          )

      at-head : (k : ℕ) × (k < length f.seams) × (0 < count_of b (flat_map started (get_or f.seams k no_seam).head)) → Stands f b
      at-head (k, within, some) = at (cases_lt k (length f.items))
        where
          at : (k < length f.items) ⊎ (length f.items ≤ k) → Stands f b
          at (inl early) =
              let apart = starts-apart (λ m. cond (m == b) 1 0) f.seams k k (omega arith) within in (
                k,
                early,
                open-there b k (omega (arith, ends-before b k within, once-in-all b))
                    (omega (arith, starts-more b f.seams k within)),
              )
          at (inr late) =
              let is : k ≡ length f.items = omega arith in
              let none : count_of b (flat_map started (seam_of f k).head) ≡ 0 = rw (is, last) refl in
              absurd (omega arith)

      go : (0 < count_of b f.opened) ⊎ (count_of b f.opened ≤ 0) → Stands f b
      go (inl some) = at-start some
      go (inr none) = at-head (start-place b f.seams (omega (arith, named)))

-- and where each box is open at some item, the tests hold
module _ (d : FlowsData) (f : Flow) (sound : IsSoundFlow d f) where
  -- what starts after the last item is open at none
  last-out : (m : ℕ) → 0 < count_of m (flat_map started (seam_of f (length f.items)).head) → ⊥
  last-out m some = away (sound.filled at.0 m at.1)
    where
      within : length f.items < length f.seams
      within = omega (arith, sound.seam_count)

      named : 0 < count_of m (boxes_in f)
      named = omega (
        arith,
        starts-one (λ x. cond (x == m) 1 0) f.seams (length f.items) no_seam within,
        count-append m f.opened (starts_in f.seams),
      )

      at : (k : ℕ) × (k < length (boxes_in f)) × (get_or (boxes_in f) k m ≡ m)
      at = some-index m (boxes_in f) named

      away : SomeIndex f.items (λ i. Contains (open_at f i) (get_or (boxes_in f) at.0 m)) → ⊥
      away (i, early, (j, in_open, is)) =
          let b : ℕ = get_or (boxes_in f) at.0 m in
          let same : get_or (open_at f i) j b ≡ m = is ∙ at.2 in
          let stands : 0 < count_of m (open_at f i) =
          subst (λ n. 0 < count_of n (open_at f i)) same (has-count (open_at f i) j b in_open) in
          omega (
            arith,
            stands,
            opens-within m f i,
            starts-apart (λ x. cond (x == m) 1 0) f.seams (i + 1) (length f.items) (omega arith) within,
            distinct-count m (boxes_in f) sound.distinct,
            count-append m f.opened (starts_in f.seams),
          )

  last-head : (xs : List ℕ) → flat_map started (seam_of f (length f.items)).head ≡ xs → xs ≡ []
  last-head [] e = refl
  last-head (x ∷ xs) e = absurd (last-out x (let c = count-self x xs in rw e (omega arith)))

  no-item : length f.items ≡ 0 → (xs : List ℕ) → f.opened ≡ xs → xs ≡ []
  no-item none [] e = refl
  no-item none (x ∷ xs) e = absurd (away (sound.filled 0 x (rw e (omega arith))))
    where
      away : SomeIndex f.items (λ i. Contains (open_at f i) (get_or (boxes_in f) 0 x)) → ⊥
      away (i, early, stands) = omega arith

-- no box ends before the first item or starts after the last one, and none is open where there is no item
abbrev pub LeavesNoneEmpty : Flow → Type 0
LeavesNoneEmpty f = (flat_map ended (seam_of f 0).tail ≡ []) × (flat_map started (seam_of f (length f.seams - 1)).head ≡ [])
    × (length f.items ≡ 0 → f.opened ≡ [])

last-seam : (f : Flow) → length f.seams ≡ length f.items + 1 → length f.seams - 1 ≡ length f.items
last-seam f e = omega arith

pub sound_from_tests : (d : FlowsData) (f : Flow) → length f.items < 2 ^ 32 → length f.seams ≡ length f.items + 1
    → All (IsSoundItem d) f.items → All (IsSoundSeam d) f.seams → All (λ b. b < length d.boxes) (boxes_in f)
    → AllPairs (λ a b. a ≢ b) (boxes_in f) → AreNested (reverse f.opened) (edges_of f) → LeavesNoneEmpty f → IsSoundFlow d f
sound_from_tests d f count seam_count items seams boxes distinct nested tests =
    let sides : Sides f.seams = record { tail = λ k s lt. (seams k s lt).tail; head = λ k s lt. (seams k s lt).head } in
    let last : flat_map started (seam_of f (length f.items)).head ≡ [] =
    ap (λ k. flat_map started (seam_of f k).head) (sym (last-seam f seam_count)) ∙ tests.1 in
    record {
      count = count;
      items = items;
      seam_count = seam_count;
      seams = seams;
      boxes = boxes;
      distinct = distinct;
      nested = nested;
      filled = filled-from f seam_count sides distinct nested tests.0 last tests.2;
    }

pub tests_from_sound : (d : FlowsData) (f : Flow) → IsSoundFlow d f → LeavesNoneEmpty f
tests_from_sound d f sound =
    let last : flat_map started (seam_of f (length f.items)).head ≡ [] =
    last-head d f sound (flat_map started (seam_of f (length f.items)).head) refl in (
      first-tail d f sound (flat_map ended (seam_of f 0).tail) refl,
      ap (λ k. flat_map started (seam_of f k).head) (last-seam f sound.seam_count)
          ∙ last,
      λ none. no-item d f sound none f.opened refl,
    )
