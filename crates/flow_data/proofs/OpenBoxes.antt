-- The boxes that are open, one seam after another, in a sound flow: how often each is named, and what is summed over them.
use Rattle.std.proofs.Common.{◌≡◌, ℕ, zero, suc, ◌+◌, ◌*◌, ◌<◌, ◌≤◌, Bool, true, false, cond, not, List, [], ◌∷◌, ◌++◌, length}
use Rattle.std.proofs.Common.{take, drop, get_or, refl, sym, ◌∙◌, ap, arith, sum_by, add-one, zero-add, add-zero, append_assoc}
use Rattle.std.proofs.Common.{All, reverse}
use Rattle.std.specs.Prelude.{filter, ◌==◌, Contains, SomeIndex}
use Rattle.std.specs.List.{flat_map}
use Rattle.std.proofs.lemmas.Bool.Decides.{nat_tests}
use Rattle.std.proofs.lemmas.List.{append-nil, drop_more, take_more}
use Rattle.std.proofs.lemmas.List.Elements.{filter_passes}
use Rattle.std.proofs.lemmas.List.Sums.{sum_by-cons, sum_by-append}
use Rattle.flow_data.specs.Data.{Edge, Flow, FlowsData, Seam, Margin, Solid, Wall, Start, End}
use Rattle.flow_data.specs.Flows.{seam_of, no_seam, started, starts_in, ended, is_among, ends_in, open_at, boxes_in}
use Rattle.flow_data.specs.Soundness.{count_of, AreNested, IsSoundFlow}
use Rattle.flow_data.proofs.EdgeSums.{sum-part}
use Rattle.flow_data.proofs.BoxSums.{starts-take, open_at-le}
use Rattle.flow_data.proofs.Counts.{count-cons, count-append, count-reverse, count-self, count-yes, count-no, count-among}
use Rattle.flow_data.proofs.Counts.{among-count, among-some, distinct-count}

-- all but n of these
abbrev without : ℕ → List ℕ → List ℕ
without n xs = filter (λ x. not (x == n)) xs

sum-without : (g : ℕ → ℕ) (n : ℕ) (xs : List ℕ) → sum_by g (without n xs) + count_of n xs * g n ≡ sum_by g xs
sum-without g n [] = omega arith
sum-without g n (x ∷ xs) = go (x == n) refl (sum-without g n xs)
  where
    go : (b : Bool) → (x == n) ≡ b → sum_by g (without n xs) + count_of n xs * g n ≡ sum_by g xs
        → sum_by g (without n (x ∷ xs)) + count_of n (x ∷ xs) * g n ≡ sum_by g (x ∷ xs)
    go true e ih =
        let same : x ≡ n = grind (arith, nat_tests) in
        let c : count_of n (x ∷ xs) ≡ suc (count_of n xs) = count-yes n x xs e in
        let w : without n (x ∷ xs) ≡ without n xs = rw e refl in
        let s : sum_by g (x ∷ xs) ≡ g n + sum_by g xs = sum_by-cons g x xs ∙ rw same refl in
        rw (w, c, s) (omega arith)
    go false e ih =
        let c : count_of n (x ∷ xs) ≡ count_of n xs = count-no n x xs e in
        let w : without n (x ∷ xs) ≡ x ∷ without n xs = rw e refl in
        rw (w, c, sum_by-cons g x xs, sum_by-cons g x (without n xs)) (omega arith)

-- ---- all but these of those, where none of those stands twice

-- those that are not among es
abbrev pub less : List ℕ → List ℕ → List ℕ
less es xs = filter (λ b. not (is_among es b)) xs

pub count-less : (n : ℕ) (es xs : List ℕ) → is_among es n ≡ false → count_of n (less es xs) ≡ count_of n xs
count-less n es [] out = refl
count-less n es (x ∷ xs) out = go (x == n) refl (is_among es x) refl (count-less n es xs out)
  where
    go : (b : Bool) → (x == n) ≡ b → (a : Bool) → is_among es x ≡ a → count_of n (less es xs) ≡ count_of n xs
        → count_of n (less es (x ∷ xs)) ≡ count_of n (x ∷ xs)
    go b e false h ih = rw (h, count-cons n x xs, count-cons n x (less es xs), ih) refl
    go false e true h ih = rw (h, count-cons n x xs, e, ih) (sym (zero-add _))
    go true e true h ih = let same : x ≡ n = grind (arith, nat_tests) in let k : is_among es n ≡ true = rw same at h in cc

count-less-none : (n : ℕ) (es xs : List ℕ) → is_among es n ≡ true → count_of n (less es xs) ≡ 0
count-less-none n es [] out = refl
count-less-none n es (x ∷ xs) out = go (x == n) refl (is_among es x) refl (count-less-none n es xs out)
  where
    go : (b : Bool) → (x == n) ≡ b → (a : Bool) → is_among es x ≡ a → count_of n (less es xs) ≡ 0
        → count_of n (less es (x ∷ xs)) ≡ 0
    go b e true h ih = rw h ih
    go false e false h ih = rw (h, count-cons n x (less es xs), e, ih) refl
    go true e false h ih = let same : x ≡ n = grind (arith, nat_tests) in let k : is_among es n ≡ false = rw same at h in cc

less-cons : (e : ℕ) (es xs : List ℕ) → less (e ∷ es) xs ≡ without e (less es xs)
less-cons e es [] = refl
less-cons e es (x ∷ xs) = go (e == x) refl (is_among es x) refl (less-cons e es xs)
  where
    flip : (e == x) ≡ (x == e)
    flip = grind (arith, nat_tests)

    go : (b : Bool) → (e == x) ≡ b → (a : Bool) → is_among es x ≡ a → less (e ∷ es) xs ≡ without e (less es xs)
        → less (e ∷ es) (x ∷ xs) ≡ without e (less es (x ∷ xs))
    go true h true k ih = rw (h, k) ih
    go true h false k ih = rw (h, k, ← flip, h) ih
    go false h true k ih = rw (h, k) ih
    go false h false k ih = rw (h, k, ← flip, h) (ap (λ ys. x ∷ ys) ih)

-- what is left of the amounts of those, and the amounts of these
pub sum-less : (g : ℕ → ℕ) (es xs : List ℕ) → ((n : ℕ) → count_of n es ≤ count_of n xs) → ((n : ℕ) → count_of n xs ≤ 1)
    → sum_by g (less es xs) + sum_by g es ≡ sum_by g xs
sum-less g [] xs within once = rw (all-kept xs) (add-zero _)
  where
    all-kept : (xs : List ℕ) → less [] xs ≡ xs
    all-kept [] = refl
    all-kept (x ∷ xs) = ap (λ ys. x ∷ ys) (all-kept xs)
sum-less g (e ∷ es) xs within once =
    let a = within e in
    let o = once e in
    let s = count-self e es in
    let z : count_of e es ≡ 0 = omega arith in
    let one : count_of e xs ≡ 1 = omega arith in
    let k : count_of e (less es xs) ≡ 1 = count-less e es xs (count-among e es z) ∙ one in
    let w = sum-without g e (less es xs) in
    let r = sum-less g es xs (λ n. let b = within n in let c = count-cons n e es in omega arith) once in
    let p : count_of e (less es xs) * g e ≡ g e = rw k (omega arith) in
    rw (less-cons e es xs, sum_by-cons g e es) (omega arith)

-- ---- nesting, by counts

abbrev pub both : Seam → List Edge
both s = s.tail ++ s.head

-- After some edges these boxes are open: those that were, and those that started there, less those that ended there.
pub record After (before starts ends : List ℕ) (rest : List Edge) : Type 0 where
  pub boxes : List ℕ
  pub nested : AreNested boxes rest
  pub counts : (n : ℕ) → count_of n before + count_of n starts ≡ count_of n boxes + count_of n ends

pub edges-after : (es rest : List Edge) (before : List ℕ) → AreNested before (es ++ rest)
    → After before (flat_map started es) (flat_map ended es) rest
edges-after [] rest before h = record { boxes = before; nested = h; counts = λ n. refl }
edges-after (Margin m ∷ es) rest before h = edges-after es rest before h
edges-after (Solid a ∷ es) rest before h = edges-after es rest before h
edges-after (Wall ∷ es) rest before h = edges-after es rest before h
edges-after (Start b ∷ es) rest before h =
    let r = edges-after es rest (b ∷ before) h in
    record {
      boxes = r.boxes;
      nested = r.nested;
      counts = λ n. omega (arith, r.counts n, count-cons n b before, count-cons n b (flat_map started es));
    }
edges-after (End b ∷ es) rest [] h = absurd h
edges-after (End b ∷ es) rest (i ∷ outer) h =
    let r = edges-after es rest outer h.1 in
    let e = h.0 in
    record {
      boxes = r.boxes;
      nested = r.nested;
      counts = λ n. let c : count_of n (i ∷ outer) ≡ cond (b == n) 1 0 + count_of n outer = count-cons n i outer ∙ rw e refl
          in omega (arith, r.counts n, count-cons n b (flat_map ended es));
    }

-- starts stand in heads alone, and ends in tails
pub record Sides (seams : List Seam) : Type 0 where
  pub tail : (k : ℕ) (s : Seam) → k < length seams → flat_map started (get_or seams k s).tail ≡ []
  pub head : (k : ℕ) (s : Seam) → k < length seams → flat_map ended (get_or seams k s).head ≡ []

sides-later : (s : Seam) (ss : List Seam) → Sides (s ∷ ss) → Sides ss
sides-later s ss h = record { tail = λ k x lt. h.tail (suc k) x (omega arith); head = λ k x lt. h.head (suc k) x (omega arith) }

pub seams-after : (seams : List Seam) (n : ℕ) (before : List ℕ) → Sides seams → AreNested before (flat_map both seams)
    → After before (starts_in (take n seams)) (ends_in (take n seams)) (flat_map both (drop n seams))
seams-after seams zero before sides h = record { boxes = before; nested = h; counts = λ n. refl }
seams-after [] (suc n) before sides h = record { boxes = before; nested = h; counts = λ n. refl }
seams-after (s ∷ ss) (suc n) before sides h =
    let a = edges-after s.tail (s.head ++ flat_map both ss) before (rw append_assoc at h) in
    let b = edges-after s.head (flat_map both ss) a.boxes a.nested in
    let r = seams-after ss n b.boxes (sides-later s ss sides) b.nested in
    record {
      boxes = r.boxes;
      nested = r.nested;
      counts = λ m.
          let t : count_of m (flat_map started s.tail) ≡ 0 = rw (sides.tail 0 s (omega arith)) refl in
          let e : count_of m (flat_map ended s.head) ≡ 0 = rw (sides.head 0 s (omega arith)) refl in
          omega (
            arith,
            a.counts m,
            b.counts m,
            r.counts m,
            count-append m (flat_map started s.head) (starts_in (take n ss)),
            count-append m (flat_map ended s.tail) (ends_in (take n ss)),
          );
    }

-- ---- no box stands twice

not-true : (b : Bool) → not b ≡ true → b ≡ false
not-true true e = cc
not-true false e = refl

pub some-index : (n : ℕ) (xs : List ℕ) → 0 < count_of n xs → (k : ℕ) × (k < length xs) × (get_or xs k n ≡ n)
some-index n [] h = absurd (omega arith)
some-index n (x ∷ xs) h = go (x == n) refl (some-index n xs)
  where
    go : (b : Bool) → (x == n) ≡ b → (0 < count_of n xs → (k : ℕ) × (k < length xs) × (get_or xs k n ≡ n))
        → (k : ℕ) × (k < length (x ∷ xs)) × (get_or (x ∷ xs) k n ≡ n)
    go true e ih = (0, omega arith, grind (arith, nat_tests))
    go false e ih = let c = count-no n x xs e in let r = ih (omega arith) in (suc r.0, omega arith, r.2)

first-ends : (m : ℕ) (seams : List Seam) (i : ℕ)
    → count_of m (flat_map ended (get_or seams 0 no_seam).tail) ≤ count_of m (ends_in (take (i + 1) seams))
first-ends m [] i = omega arith
first-ends m (s ∷ ss) i = rw add-one (omega (arith, count-append m (flat_map ended s.tail) (ends_in (take i ss))))

pub has-count : (xs : List ℕ) (j b : ℕ) → j < length xs → 0 < count_of (get_or xs j b) xs
has-count [] j b lt = absurd (omega arith)
has-count (x ∷ xs) zero b lt = let c = count-self x xs in omega arith
has-count (x ∷ xs) (suc j) b lt = let r = has-count xs j b (omega arith) in let c = count-cons (get_or xs j b) x xs in omega arith

pub starts-one : (g : ℕ → ℕ) (seams : List Seam) (k : ℕ) (s : Seam) → k < length seams
    → sum_by g (flat_map started (get_or seams k s).head) ≤ sum_by g (starts_in seams)
starts-one g [] k s lt = absurd (omega arith)
starts-one g (x ∷ xs) zero s lt = let a = sum_by-append g (flat_map started x.head) (starts_in xs) in omega arith
starts-one g (x ∷ xs) (suc k) s lt = let a = sum_by-append g (flat_map started x.head) (starts_in xs)
    in let r = starts-one g xs k s (omega arith) in omega arith

first-after : (seams : List Seam) (before : List ℕ) → 0 < length seams → AreNested before (flat_map both seams) →
    After before (flat_map started (get_or seams 0 no_seam).tail) (flat_map ended (get_or seams 0 no_seam).tail)
    ((get_or seams 0 no_seam).head ++ flat_map both (drop 1 seams))
first-after [] before lt h = absurd (omega arith)
first-after (s ∷ ss) before lt h = edges-after s.tail (s.head ++ flat_map both ss) before (rw append_assoc at h)

module _ (d : FlowsData) (f : Flow) (sound : IsSoundFlow d f) where
  sides : Sides f.seams
  sides = record { tail = λ k s lt. (sound.seams k s lt).tail; head = λ k s lt. (sound.seams k s lt).head }

  after : (n : ℕ) → After (reverse f.opened) (starts_in (take n f.seams)) (ends_in (take n f.seams))
      (flat_map both (drop n f.seams))
  after n = seams-after f.seams n (reverse f.opened) sides sound.nested

  begun-once : (m n : ℕ) → count_of m (f.opened ++ starts_in (take n f.seams)) ≤ 1
  begun-once m n =
      omega (
        arith,
        distinct-count m (boxes_in f) sound.distinct,
        starts-take (λ x. cond (x == m) 1 0) n f.seams,
        count-append m f.opened (starts_in (take n f.seams)),
        count-append m f.opened (starts_in f.seams),
      )

  ends-begun : (m n : ℕ) → count_of m (ends_in (take n f.seams)) ≤ count_of m (f.opened ++ starts_in (take n f.seams))
  ends-begun m n = omega (
    arith,
    (after n).counts m,
    count-reverse m f.opened,
    count-append m f.opened (starts_in (take n f.seams)),
  )

  pub at-sum : (g : ℕ → ℕ) (k : ℕ) → sum_by g (open_at f k) + sum_by g (ends_in (take (k + 1) f.seams))
      ≡ sum_by g (f.opened ++ starts_in (take (k + 1) f.seams))
  at-sum g k = sum-less g (ends_in (take (k + 1) f.seams)) (f.opened ++ starts_in (take (k + 1) f.seams))
      (λ m. ends-begun m (k + 1)) (λ m. begun-once m (k + 1))

  pub tail-within : (m k : ℕ) → k + 1 < length f.seams
      → count_of m (flat_map ended (seam_of f (k + 1)).tail) ≤ count_of m (open_at f k)
  tail-within m k lt = go (is_among (ends_in (take (k + 1) f.seams)) m) refl
    where
      a : After (reverse f.opened) (starts_in (take (k + 1) f.seams)) (ends_in (take (k + 1) f.seams))
          (flat_map both (drop (k + 1) f.seams))
      a = after (k + 1)

      t : After a.boxes (flat_map started (seam_of f (k + 1)).tail) (flat_map ended (seam_of f (k + 1)).tail)
          ((seam_of f (k + 1)).head ++ flat_map both (drop (k + 1 + 1) f.seams))
      t = edges-after (seam_of f (k + 1)).tail _ a.boxes
          (rw append_assoc at (rw (drop_more f.seams (k + 1) no_seam lt) at a.nested))

      below : count_of m (flat_map ended (seam_of f (k + 1)).tail) ≤ count_of m a.boxes
      below = let z : count_of m (flat_map started (seam_of f (k + 1)).tail) ≡ 0 = rw (sides.tail (k + 1) no_seam lt) refl
          in omega (arith, t.counts m)

      go : (b : Bool) → is_among (ends_in (take (k + 1) f.seams)) m ≡ b
          → count_of m (flat_map ended (seam_of f (k + 1)).tail) ≤ count_of m (open_at f k)
      go true e =
          let some = among-some m (ends_in (take (k + 1) f.seams)) e in
          omega (
            arith,
            below,
            a.counts m,
            begun-once m (k + 1),
            count-reverse m f.opened,
            count-append m f.opened (starts_in (take (k + 1) f.seams)),
          )
      go false e =
          let all = count-less m (ends_in (take (k + 1) f.seams)) (f.opened ++ starts_in (take (k + 1) f.seams)) e in
          omega (arith, below, a.counts m, count-reverse m f.opened, count-append m f.opened (starts_in (take (k + 1) f.seams)))

  pub open-once : (m k : ℕ) → count_of m (open_at f k) ≤ 1
  open-once m k = go (is_among (ends_in (take (k + 1) f.seams)) m) refl
    where
      go : (b : Bool) → is_among (ends_in (take (k + 1) f.seams)) m ≡ b → count_of m (open_at f k) ≤ 1
      go true e =
          omega (arith, count-less-none m (ends_in (take (k + 1) f.seams)) (f.opened ++ starts_in (take (k + 1) f.seams)) e)
      go false e = omega (
        arith,
        count-less m (ends_in (take (k + 1) f.seams)) (f.opened ++ starts_in (take (k + 1) f.seams)) e,
        begun-once m (k + 1),
      )

  -- a box that ended in the first tail would have no item
  first-out : (m : ℕ) → 0 < count_of m (flat_map ended (seam_of f 0).tail) → ⊥
  first-out m some = away (sound.filled at.0 m at.1)
    where
      first : 0 < length f.seams
      first = let n = sound.seam_count in omega arith

      t : After (reverse f.opened) (flat_map started (seam_of f 0).tail) (flat_map ended (seam_of f 0).tail)
          ((seam_of f 0).head ++ flat_map both (drop 1 f.seams))
      t = first-after f.seams (reverse f.opened) first sound.nested

      within : 0 < count_of m (boxes_in f)
      within =
          let z : count_of m (flat_map started (seam_of f 0).tail) ≡ 0 = rw (sides.tail 0 no_seam first) refl in
          omega (arith, t.counts m, count-reverse m f.opened, count-append m f.opened (starts_in f.seams))

      at : (k : ℕ) × (k < length (boxes_in f)) × (get_or (boxes_in f) k m ≡ m)
      at = some-index m (boxes_in f) within

      away : SomeIndex f.items (λ i. Contains (open_at f i) (get_or (boxes_in f) at.0 m)) → ⊥
      away (i, in_items, (j, in_open, is)) =
          let passes = filter_passes (λ b. not (is_among (ends_in (take (i + 1) f.seams)) b))
          (f.opened ++ starts_in (take (i + 1) f.seams)) j (get_or (boxes_in f) at.0 m) in_open in
          let same = is ∙ at.2 in
          let out : not (is_among (ends_in (take (i + 1) f.seams)) m) ≡ true = rw same at passes in
          let none = among-count m (ends_in (take (i + 1) f.seams))
          (not-true (is_among (ends_in (take (i + 1) f.seams)) m) out) in
          let one = first-ends m f.seams i in
          omega arith

  pub first-tail : (xs : List ℕ) → flat_map ended (seam_of f 0).tail ≡ xs → xs ≡ []
  first-tail [] e = refl
  first-tail (x ∷ xs) e = absurd (first-out x (let c = count-self x xs in rw e (omega arith)))

  pub at-sum-first : (g : ℕ → ℕ) → sum_by g (open_at f 0) ≡ sum_by g f.opened + sum_by g (flat_map started (seam_of f 0).head)
  at-sum-first g =
      let n = sound.seam_count in
      let lt : 0 < length f.seams = omega arith in
      let t : take (0 + 1) f.seams ≡ seam_of f 0 ∷ [] = take_more f.seams 0 no_seam lt in
      let a = at-sum g 0 in
      let s = sum_by-append g f.opened (starts_in (take (0 + 1) f.seams)) in
      let x : sum_by g (starts_in (take (0 + 1) f.seams)) ≡ sum_by g (flat_map started (seam_of f 0).head) =
      ap (λ ss. sum_by g (starts_in ss)) t ∙ ap (sum_by g) (append-nil (flat_map started (seam_of f 0).head)) in
      let y : sum_by g (ends_in (take (0 + 1) f.seams)) ≡ 0 =
      ap (λ ss. sum_by g (ends_in ss)) t ∙ ap (sum_by g) (append-nil (flat_map ended (seam_of f 0).tail))
      ∙ ap (sum_by g) (first-tail (flat_map ended (seam_of f 0).tail) refl) in
      omega arith

  -- each box that is named is one of the data
  pub in-range : (m : ℕ) → 0 < count_of m (boxes_in f) → m < length d.boxes
  in-range m some = let r = some-index m (boxes_in f) some in rw r.2 at (sound.boxes r.0 m r.1)

  pub starts-known : (k : ℕ) → k < length f.seams → All (λ edge. All (λ b. b < length d.boxes) (started edge)) (seam_of f k).head
  starts-known k lt i e in_head j b in_edge =
      let edge : Edge = get_or (seam_of f k).head i e in
      let m : ℕ = get_or (started edge) j b in
      in-range m
      (omega (
        arith,
        has-count (started edge) j b in_edge,
        sum-part (λ x. cond (x == m) 1 0) started (seam_of f k).head i e
            in_head,
        starts-one (λ x. cond (x == m) 1 0) f.seams k no_seam lt,
        count-append m f.opened (starts_in f.seams),
      ))

  pub ends-known : (k : ℕ) → k + 1 < length f.seams
      → All (λ edge. All (λ b. b < length d.boxes) (ended edge)) (seam_of f (k + 1)).tail
  ends-known k lt i e in_tail j b in_edge =
      let edge : Edge = get_or (seam_of f (k + 1)).tail i e in
      let m : ℕ = get_or (ended edge) j b in
      in-range m
      (omega (
        arith,
        has-count (ended edge) j b in_edge,
        sum-part (λ x. cond (x == m) 1 0) ended (seam_of f (k + 1)).tail i e
            in_tail,
        tail-within m k lt,
        open_at-le (λ x. cond (x == m) 1 0) f k,
      ))

  pub opened-known : All (λ b. b < length d.boxes) f.opened
  opened-known j b lt = let m : ℕ = get_or f.opened j b
      in in-range m (omega (arith, has-count f.opened j b lt, count-append m f.opened (starts_in f.seams)))
