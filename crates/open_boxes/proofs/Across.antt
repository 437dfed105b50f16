-- The boxes that are open across a seam of a sound flow are those that its nested edges leave open there, from the outermost
-- inwards.
use Rattle.std.proofs.Common.{◌≡◌, ℕ, zero, suc, ◌+◌, ◌<◌, ◌≤◌, Bool, true, false, cond, not, ◌||◌, List, [], ◌∷◌, ◌++◌}
use Rattle.std.proofs.Common.{length, take, drop, get_or, refl, sym, subst, ap, ◌∙◌, arith, add-one, append_assoc, reverse}
use Rattle.std.proofs.Common.{sum_by}
use Rattle.std.specs.Prelude.{◌==◌}
use Rattle.std.specs.List.{flat_map}
use Rattle.std.proofs.lemmas.Bool.Decides.{nat_tests}
use Rattle.std.proofs.lemmas.Grind.{flat_map-append}
use Rattle.std.proofs.lemmas.List.{append-nil, reverse-append, take-append-drop, drop_more, take_more}
use Rattle.std.proofs.lemmas.List.Elements.{filter-append}
use Rattle.std.proofs.lemmas.List.Folds.{list_any-append}
use Rattle.std.proofs.lemmas.List.Sums.{sum_by-cons, sum_by-append}
use Rattle.flow_list.specs.Data.{Edge, Flow, FlowsData, Seam, Margin, Solid, Wall, Start, End}
use Rattle.flow_data.specs.Flows.{seam_of, no_seam, started, ended, starts_in, ends_in, is_among, open_at, boxes_in}
use Rattle.flow_list.specs.ClonedEdges.{open_across}
use Rattle.flow_data.specs.Soundness.{count_of, AreNested, edges_of, IsSoundFlow}
use Rattle.flow_data.proofs.BoxSums.{starts-take}
use Rattle.flow_data.proofs.OpenBoxes.{less, sum-less, at-sum-first}
use Rattle.flow_data.proofs.Counts.{count-cons, count-append, count-reverse, count-self, distinct-count}

pub reverse-first : (b : ℕ) (bs : List ℕ) → reverse (b ∷ bs) ≡ reverse bs ++ b ∷ []
reverse-first b bs = reverse-append (b ∷ []) bs

-- no box is open twice, or open and started
abbrev pub AreOnce : List ℕ → List ℕ → Type 0
AreOnce boxes starts = (n : ℕ) → count_of n boxes + count_of n starts ≤ 1

once-next : (b : ℕ) (boxes starts : List ℕ) → AreOnce boxes (b ∷ starts) → AreOnce (b ∷ boxes) starts
once-next b boxes starts h = λ n. omega (arith, h n, count-cons n b starts, count-cons n b boxes)

once-less : (b : ℕ) (boxes starts : List ℕ) → AreOnce (b ∷ boxes) starts → AreOnce boxes starts
once-less b boxes starts h = λ n. omega (arith, h n, count-cons n b boxes)

-- ---- what stays open after edges

-- the boxes that are open after these edges, from the innermost outwards
abbrev pub after_edges : List ℕ → List Edge → List ℕ
after_edges boxes [] = boxes
after_edges boxes (Margin m ∷ es) = after_edges boxes es
after_edges boxes (Solid a ∷ es) = after_edges boxes es
after_edges boxes (Wall ∷ es) = after_edges boxes es
after_edges boxes (Start b ∷ es) = after_edges (b ∷ boxes) es
after_edges [] (End b ∷ es) = after_edges [] es
after_edges (innermost ∷ outer) (End b ∷ es) = after_edges outer es

pub nested-after : (boxes : List ℕ) (es rest : List Edge) → AreNested boxes (es ++ rest) → AreNested (after_edges boxes es) rest
nested-after boxes [] rest h = h
nested-after boxes (Margin m ∷ es) rest h = nested-after boxes es rest h
nested-after boxes (Solid a ∷ es) rest h = nested-after boxes es rest h
nested-after boxes (Wall ∷ es) rest h = nested-after boxes es rest h
nested-after boxes (Start b ∷ es) rest h = nested-after (b ∷ boxes) es rest h
nested-after [] (End b ∷ es) rest h = absurd h
nested-after (i ∷ outer) (End b ∷ es) rest h = nested-after outer es rest h.1

pub nested-front : (boxes : List ℕ) (es rest : List Edge) → AreNested boxes (es ++ rest) → AreNested boxes es
nested-front boxes [] rest h = tt
nested-front boxes (Margin m ∷ es) rest h = nested-front boxes es rest h
nested-front boxes (Solid a ∷ es) rest h = nested-front boxes es rest h
nested-front boxes (Wall ∷ es) rest h = nested-front boxes es rest h
nested-front boxes (Start b ∷ es) rest h = nested-front (b ∷ boxes) es rest h
nested-front [] (End b ∷ es) rest h = absurd h
nested-front (i ∷ outer) (End b ∷ es) rest h = (h.0, nested-front outer es rest h.1)

pub once-after : (boxes : List ℕ) (es rest : List Edge) → AreNested boxes (es ++ rest) →
    AreOnce boxes (flat_map started (es ++ rest)) → AreOnce (after_edges boxes es) (flat_map started rest)
once-after boxes [] rest h once = once
once-after boxes (Margin m ∷ es) rest h once = once-after boxes es rest h once
once-after boxes (Solid a ∷ es) rest h once = once-after boxes es rest h once
once-after boxes (Wall ∷ es) rest h once = once-after boxes es rest h once
once-after boxes (Start b ∷ es) rest h once =
    once-after (b ∷ boxes) es rest h (once-next b boxes (flat_map started (es ++ rest)) once)
once-after [] (End b ∷ es) rest h once = absurd h
once-after (i ∷ outer) (End b ∷ es) rest h once =
    once-after outer es rest h.1 (once-less i outer (flat_map started (es ++ rest)) once)

pub once-front : (boxes : List ℕ) (es rest : List Edge) → AreOnce boxes (flat_map started (es ++ rest)) →
    AreOnce boxes (flat_map started es)
once-front boxes es rest once = λ n.
    let all : count_of n (flat_map started (es ++ rest)) ≡ count_of n (flat_map started es ++ flat_map started rest) =
    ap (count_of n) (flat_map-append started es rest) in
    omega (arith, once n, count-append n (flat_map started es) (flat_map started rest))

-- ends are of boxes that were open or started
ends-within : (boxes : List ℕ) (es : List Edge) → AreNested boxes es → (n : ℕ) →
    count_of n (flat_map ended es) ≤ count_of n boxes + count_of n (flat_map started es)
ends-within boxes [] h n = omega arith
ends-within boxes (Margin m ∷ es) h n = ends-within boxes es h n
ends-within boxes (Solid a ∷ es) h n = ends-within boxes es h n
ends-within boxes (Wall ∷ es) h n = ends-within boxes es h n
ends-within boxes (Start b ∷ es) h n = omega (
  arith,
  ends-within (b ∷ boxes) es h n,
  count-cons n b boxes,
  count-cons n b (flat_map started es),
)
ends-within [] (End b ∷ es) h n = absurd h
ends-within (i ∷ outer) (End b ∷ es) h n =
    let e : i ≡ b = h.0 in
    let c : count_of n (i ∷ outer) ≡ cond (b == n) 1 0 + count_of n outer = count-cons n i outer ∙ rw e refl in
    omega (arith, ends-within outer es h.1 n, count-cons n b (flat_map ended es))

-- ---- all but the ended ones

less-none : (xs : List ℕ) → less [] xs ≡ xs
less-none [] = refl
less-none (x ∷ xs) = ap (λ ys. x ∷ ys) (less-none xs)

not-here : (b x : ℕ) (xs : List ℕ) → count_of b (x ∷ xs) ≡ 0 → ((b == x) ≡ false) × (count_of b xs ≡ 0)
not-here b x xs z = go (x == b) refl
  where
    go : (t : Bool) → (x == b) ≡ t → ((b == x) ≡ false) × (count_of b xs ≡ 0)
    go true e = absurd (let c : count_of b (x ∷ xs) ≡ 1 + count_of b xs = count-cons b x xs ∙ rw e refl in omega arith)
    go false e = (
      grind (arith, nat_tests),
      let c : count_of b (x ∷ xs) ≡ 0 + count_of b xs = count-cons b x xs ∙ rw e refl in
          omega arith,
    )

-- one that isn't among them takes nothing away
less-skip : (b : ℕ) (es xs : List ℕ) → count_of b xs ≡ 0 → less (b ∷ es) xs ≡ less es xs
less-skip b es [] z = refl
less-skip b es (x ∷ xs) z = let n = not-here b x xs z in rw n.0 (go (is_among es x) (less-skip b es xs n.1))
  where
    go : (t : Bool) → less (b ∷ es) xs ≡ less es xs → cond (not t) (x ∷ less (b ∷ es) xs) (less (b ∷ es) xs)
        ≡ cond (not t) (x ∷ less es xs) (less es xs)
    go true h = h
    go false h = ap (λ ys. x ∷ ys) h

same-self : (b : ℕ) → (b == b) ≡ true
same-self b = grind (arith, nat_tests)

less-one : (b : ℕ) (es front back : List ℕ) → count_of b front ≡ 0 → count_of b back ≡ 0 → less (b ∷ es) (front ++ b ∷ back)
    ≡ less es (front ++ back)
less-one b es [] back f z = rw (same-self b) (less-skip b es back z)
less-one b es (x ∷ front) back f z = let n = not-here b x front f in rw n.0 (go (is_among es x) (less-one b es front back n.1 z))
  where
    go : (t : Bool) → less (b ∷ es) (front ++ b ∷ back) ≡ less es (front ++ back) →
        cond (not t) (x ∷ less (b ∷ es) (front ++ b ∷ back)) (less (b ∷ es) (front ++ b ∷ back))
        ≡ cond (not t) (x ∷ less es (front ++ back)) (less es (front ++ back))
    go true h = h
    go false h = ap (λ ys. x ∷ ys) h

less-reverse : (es xs : List ℕ) → less es (reverse xs) ≡ reverse (less es xs)
less-reverse es [] = refl
less-reverse es (x ∷ xs) =
    ap (less es) (reverse-first x xs) ∙ filter-append (λ b. not (is_among es b)) (reverse xs) (x ∷ [])
    ∙ rw (less-reverse es xs) (go (is_among es x))
  where
    go : (t : Bool) → reverse (less es xs) ++ cond (not t) (x ∷ []) [] ≡ reverse (cond (not t) (x ∷ less es xs) (less es xs))
    go true = append-nil (reverse (less es xs))
    go false = sym (reverse-first x (less es xs))

among-both : (es fs : List ℕ) (x : ℕ) → is_among (es ++ fs) x ≡ (is_among es x || is_among fs x)
among-both es fs x = list_any-append (λ c. c == x) es fs

less-both : (es fs xs : List ℕ) → less fs (less es xs) ≡ less (es ++ fs) xs
less-both es fs [] = refl
less-both es fs (x ∷ xs) = rw (among-both es fs x) (go (is_among es x) refl (less-both es fs xs))
  where
    go : (t : Bool) → is_among es x ≡ t → less fs (less es xs) ≡ less (es ++ fs) xs →
        less fs (cond (not t) (x ∷ less es xs) (less es xs)) ≡ cond (not (t || is_among fs x)) (x ∷ less (es ++ fs) xs)
        (less (es ++ fs) xs)
    go true k h = h
    go false k h = rw h refl

-- the boxes that are open after edges, by those that start and end there
after-is : (boxes : List ℕ) (es : List Edge) → AreNested boxes es → AreOnce boxes (flat_map started es) → after_edges boxes es
    ≡ less (flat_map ended es) (reverse (flat_map started es) ++ boxes)
after-is boxes [] h once = sym (less-none boxes)
after-is boxes (Margin m ∷ es) h once = after-is boxes es h once
after-is boxes (Solid a ∷ es) h once = after-is boxes es h once
after-is boxes (Wall ∷ es) h once = after-is boxes es h once
after-is boxes (Start b ∷ es) h once =
    after-is (b ∷ boxes) es h (once-next b boxes (flat_map started es) once)
    ∙ ap (less (flat_map ended es)) (sym (ap (λ xs. xs ++ boxes) (reverse-first b (flat_map started es))
    ∙ append_assoc (reverse (flat_map started es)) (b ∷ []) boxes))
after-is [] (End b ∷ es) h once = absurd h
after-is (i ∷ outer) (End b ∷ es) h once =
    let same : i ≡ b = h.0 in
    let o = once b in
    let c : count_of b (i ∷ outer) ≡ suc (count_of b outer) = rw same (count-self b outer) in
    let r = count-reverse b (flat_map started es) in
    let one = less-one b (flat_map ended es) (reverse (flat_map started es)) outer (omega arith) (omega arith) in
    after-is outer es h.1 (once-less i outer (flat_map started es) once) ∙ sym (rw same one)

-- ---- the edges of seams

abbrev pub both : Seam → List Edge
both s = s.tail ++ s.head

abbrev NoStarts : List Seam → Type 0
NoStarts seams = (k : ℕ) (s : Seam) → k < length seams → flat_map started (get_or seams k s).tail ≡ []

abbrev NoEnds : List Seam → Type 0
NoEnds seams = (k : ℕ) (s : Seam) → k < length seams → flat_map ended (get_or seams k s).head ≡ []

starts-both : (seams : List Seam) → NoStarts seams → flat_map started (flat_map both seams) ≡ starts_in seams
starts-both [] none = refl
starts-both (s ∷ ss) none =
    flat_map-append started (both s) (flat_map both ss)
    ∙ rw (
      flat_map-append started s.tail s.head,
      none 0 s (omega arith),
      starts-both ss (λ k x lt. none (suc k) x (omega arith)),
    ) refl

ends-both : (seams : List Seam) → NoEnds seams → flat_map ended (flat_map both seams) ≡ ends_in seams
ends-both [] none = refl
ends-both (s ∷ ss) none =
    flat_map-append ended (both s) (flat_map both ss)
    ∙ rw (
      flat_map-append ended s.tail s.head,
      none 0 s (omega arith),
      append-nil (flat_map ended s.tail),
      ends-both ss (λ k x lt. none (suc k) x (omega arith)),
    ) refl

seams-split : (seams : List Seam) (i : ℕ) → i < length seams → flat_map both seams
    ≡ (flat_map both (take i seams) ++ (get_or seams i no_seam).tail) ++ ((get_or seams i no_seam).head ++ flat_map both
    (drop (i + 1) seams))
seams-split seams i lt =
    let s : Seam = get_or seams i no_seam in
    let split : seams ≡ take i seams ++ s ∷ drop (i + 1) seams = sym (take-append-drop i seams)
    ∙ ap (λ ss. take i seams ++ ss) (drop_more seams i no_seam lt) in
    ap (flat_map both) split
    ∙ flat_map-append both (take i seams) (s ∷ drop (i + 1) seams)
    ∙ ap (λ es. flat_map both (take i seams) ++ es) (append_assoc s.tail s.head (flat_map both (drop (i + 1) seams)))
    ∙ sym (append_assoc (flat_map both (take i seams)) s.tail (s.head ++ flat_map both (drop (i + 1) seams)))

take-none : {A : Type 0} (P : A → Type 0) (seams : List A) (i : ℕ) → ((k : ℕ) (s : A) → k < length seams →
    P (get_or seams k s)) → (k : ℕ) (s : A) → k < length (take i seams) → P (get_or (take i seams) k s)
take-none P seams zero h k s lt = absurd (omega arith)
take-none P [] (suc i) h k s lt = absurd (omega arith)
take-none P (x ∷ xs) (suc i) h zero s lt = h 0 s (omega arith)
take-none P (x ∷ xs) (suc i) h (suc k) s lt = take-none P xs i (λ j y l. h (suc j) y (omega arith)) k s (omega arith)

-- ---- no box stands twice

abbrev one : ℕ → ℕ
one x = 1

sum-none : (xs : List ℕ) → sum_by one xs ≡ 0 → xs ≡ []
sum-none [] z = refl
sum-none (x ∷ xs) z = absurd (let c = sum_by-cons one x xs in omega arith)

module _ (d : FlowsData) (f : Flow) (sound : IsSoundFlow d f) where
  no-starts : NoStarts f.seams
  no-starts = λ k s lt. (sound.seams k s lt).tail

  no-ends : NoEnds f.seams
  no-ends = λ k s lt. (sound.seams k s lt).head

  -- the edges up to the tail of seam i, and those from its head on
  abbrev pub edges_to : ℕ → List Edge
  edges_to i = flat_map both (take i f.seams) ++ (seam_of f i).tail

  abbrev pub edges_from : ℕ → List Edge
  edges_from i = (seam_of f i).head ++ flat_map both (drop (i + 1) f.seams)

  once-all : AreOnce (reverse f.opened) (flat_map started (edges_of f))
  once-all = λ n. rw (starts-both f.seams no-starts) (omega (
    arith,
    distinct-count n (boxes_in f) sound.distinct,
    count-reverse n f.opened,
    count-append n f.opened (starts_in f.seams),
  ))

  split-nested : (i : ℕ) → i < length f.seams → AreNested (reverse f.opened) (edges_to i ++ edges_from i)
  split-nested i lt = subst (λ (es : List Edge). AreNested (reverse f.opened) es) (seams-split f.seams i lt) sound.nested

  split-once : (i : ℕ) → i < length f.seams → AreOnce (reverse f.opened) (flat_map started (edges_to i ++ edges_from i))
  split-once i lt = subst (λ (es : List Edge). AreOnce (reverse f.opened) (flat_map started es)) (seams-split f.seams i lt)
      once-all

  starts-to : (i : ℕ) → i < length f.seams → flat_map started (edges_to i) ≡ starts_in (take i f.seams)
  starts-to i lt =
      flat_map-append started (flat_map both (take i f.seams)) (seam_of f i).tail
      ∙ rw (
        no-starts i no_seam lt,
        starts-both (take i f.seams) (take-none (λ (s : Seam). flat_map started s.tail
            ≡ []) f.seams i no-starts),
      ) (append-nil (starts_in (take i f.seams)))

  ends-to : (i : ℕ) → i < length f.seams → flat_map ended (edges_to i) ≡ ends_in (take i f.seams) ++ flat_map ended
      (seam_of f i).tail
  ends-to i lt =
      flat_map-append ended (flat_map both (take i f.seams)) (seam_of f i).tail
      ∙ rw (ends-both (take i f.seams) (take-none (λ (s : Seam). flat_map ended s.head ≡ []) f.seams i no-ends)) refl

  -- the boxes that are open after the tail of seam i
  open-to : (i : ℕ) → i < length f.seams → after_edges (reverse f.opened) (edges_to i)
      ≡ reverse (less (flat_map ended (seam_of f i).tail) (less (ends_in (take i f.seams))
      (f.opened ++ starts_in (take i f.seams))))
  open-to i lt =
      after-is (reverse f.opened) (edges_to i) (nested-front (reverse f.opened) (edges_to i) (edges_from i)
      (split-nested i lt)) (once-front (reverse f.opened) (edges_to i) (edges_from i) (split-once i lt))
      ∙ rw (
        starts-to i lt,
        ends-to i lt,
        ← reverse-append f.opened (starts_in (take i f.seams)),
        less-reverse (ends_in (take i f.seams) ++ flat_map ended (seam_of f i).tail)
            (f.opened ++ starts_in (take i f.seams)),
        ← less-both (ends_in (take i f.seams)) (flat_map ended (seam_of f i).tail)
            (f.opened ++ starts_in (take i f.seams)),
      ) refl

  -- no box ends in the first tail, since it would be open at no item
  first-tail : (lt : 0 < length f.seams) → flat_map ended (seam_of f 0).tail ≡ []
  first-tail lt = sum-none (flat_map ended (seam_of f 0).tail) none
    where
      first : take (0 + 1) f.seams ≡ seam_of f 0 ∷ []
      first = take_more f.seams 0 no_seam lt

      ends-are : ends_in (take (0 + 1) f.seams) ≡ flat_map ended (seam_of f 0).tail
      ends-are = ap ends_in first ∙ append-nil (flat_map ended (seam_of f 0).tail)

      starts-are : starts_in (take (0 + 1) f.seams) ≡ flat_map started (seam_of f 0).head
      starts-are = ap starts_in first ∙ append-nil (flat_map started (seam_of f 0).head)

      within : (n : ℕ) → count_of n (ends_in (take (0 + 1) f.seams)) ≤ count_of n (f.opened ++ starts_in (take (0 + 1) f.seams))
      within n =
          let w = ends-within (reverse f.opened) (seam_of f 0).tail (nested-front (reverse f.opened) (seam_of f 0).tail
          (edges_from 0) (split-nested 0 lt)) n in
          let z : count_of n (flat_map started (seam_of f 0).tail) ≡ 0 = rw (no-starts 0 no_seam lt) refl in
          let e : count_of n (ends_in (take (0 + 1) f.seams)) ≡ count_of n (flat_map ended (seam_of f 0).tail) =
          ap (count_of n) ends-are in
          omega (arith, count-reverse n f.opened, count-append n f.opened (starts_in (take (0 + 1) f.seams)))

      single : (n : ℕ) → count_of n (f.opened ++ starts_in (take (0 + 1) f.seams)) ≤ 1
      single n = omega (
        arith,
        distinct-count n (boxes_in f) sound.distinct,
        starts-take (λ x. cond (x == n) 1 0) (0 + 1)
            f.seams,
        count-append n f.opened (starts_in (take (0 + 1) f.seams)),
        count-append n f.opened (starts_in f.seams),
      )

      none : sum_by one (flat_map ended (seam_of f 0).tail) ≡ 0
      none =
          let s : sum_by one (open_at f 0) + sum_by one (ends_in (take (0 + 1) f.seams))
          ≡ sum_by one (f.opened ++ starts_in (take (0 + 1) f.seams)) = sum-less one (ends_in (take (0 + 1) f.seams))
          (f.opened ++ starts_in (take (0 + 1) f.seams)) within single in
          let a : sum_by one (open_at f 0) ≡ sum_by one f.opened + sum_by one (flat_map started (seam_of f 0).head) =
          at-sum-first d f sound one in
          let b : sum_by one (f.opened ++ starts_in (take (0 + 1) f.seams))
          ≡ sum_by one f.opened + sum_by one (flat_map started (seam_of f 0).head) =
          sum_by-append one f.opened (starts_in (take (0 + 1) f.seams)) ∙ rw starts-are refl in
          let c : sum_by one (ends_in (take (0 + 1) f.seams)) ≡ sum_by one (flat_map ended (seam_of f 0).tail) =
          ap (sum_by one) ends-are in
          omega arith

  -- they are those that are open across the seam
  pub across-after : (i : ℕ) → i < length f.seams → after_edges (reverse f.opened) (edges_to i) ≡ reverse (open_across f i)
  across-after zero lt = open-to 0 lt ∙ rw (first-tail lt, append-nil f.opened, less-none f.opened, less-none f.opened) refl
  across-after (suc k) lt = open-to (suc k) lt
      ∙ subst (λ (j : ℕ). reverse (less (flat_map ended (seam_of f (suc k)).tail) (less (ends_in (take j f.seams))
      (f.opened ++ starts_in (take j f.seams)))) ≡ reverse (open_across f (suc k))) (add-one k) refl

  pub from-nested : (i : ℕ) → i < length f.seams → AreNested (reverse (open_across f i)) (edges_from i)
  from-nested i lt = subst (λ (boxes : List ℕ). AreNested boxes (edges_from i)) (across-after i lt)
      (nested-after (reverse f.opened) (edges_to i) (edges_from i) (split-nested i lt))

  pub from-once : (i : ℕ) → i < length f.seams → AreOnce (reverse (open_across f i)) (flat_map started (edges_from i))
  from-once i lt = subst (λ (boxes : List ℕ). AreOnce boxes (flat_map started (edges_from i))) (across-after i lt)
      (once-after (reverse f.opened) (edges_to i) (edges_from i) (split-nested i lt) (split-once i lt))

  -- the boxes that are open at item k, and the edges after the head before it
  at-split : (k : ℕ) → flat_map both f.seams ≡ flat_map both (take (k + 1) f.seams) ++ flat_map both (drop (k + 1) f.seams)
  at-split k = ap (flat_map both) (sym (take-append-drop (k + 1) f.seams)) ∙ flat_map-append both (take (k + 1) f.seams)
      (drop (k + 1) f.seams)

  at-all : (k : ℕ) → AreNested (reverse f.opened) (flat_map both (take (k + 1) f.seams) ++ flat_map both (drop (k + 1) f.seams))
  at-all k = subst (λ (es : List Edge). AreNested (reverse f.opened) es) (at-split k) sound.nested

  at-once-all : (k : ℕ) →
      AreOnce (reverse f.opened) (flat_map started (flat_map both (take (k + 1) f.seams) ++ flat_map both (drop (k + 1) f.seams)))
  at-once-all k = subst (λ (es : List Edge). AreOnce (reverse f.opened) (flat_map started es)) (at-split k) once-all

  pub at-after : (k : ℕ) → after_edges (reverse f.opened) (flat_map both (take (k + 1) f.seams)) ≡ reverse (open_at f k)
  at-after k =
      let seams = take (k + 1) f.seams in
      let rest = flat_map both (drop (k + 1) f.seams) in
      after-is (reverse f.opened) (flat_map both seams) (nested-front (reverse f.opened) (flat_map both seams) rest (at-all k))
      (once-front (reverse f.opened) (flat_map both seams) rest (at-once-all k))
      ∙ rw (
        starts-both seams (take-none (λ (s : Seam). flat_map started s.tail ≡ []) f.seams (k + 1) no-starts),
        ends-both seams (take-none (λ (s : Seam). flat_map ended s.head ≡ []) f.seams (k + 1) no-ends),
        ← reverse-append f.opened (starts_in seams),
      ) (less-reverse (ends_in seams) (f.opened ++ starts_in seams))

  pub at-nested : (k : ℕ) → AreNested (reverse (open_at f k)) (flat_map both (drop (k + 1) f.seams))
  at-nested k = subst (λ (boxes : List ℕ). AreNested boxes (flat_map both (drop (k + 1) f.seams))) (at-after k)
      (nested-after (reverse f.opened) (flat_map both (take (k + 1) f.seams)) (flat_map both (drop (k + 1) f.seams)) (at-all k))

  pub at-once : (k : ℕ) → AreOnce (reverse (open_at f k)) (flat_map started (flat_map both (drop (k + 1) f.seams)))
  at-once k = subst (λ (boxes : List ℕ). AreOnce boxes (flat_map started (flat_map both (drop (k + 1) f.seams)))) (at-after k)
      (once-after (reverse f.opened) (flat_map both (take (k + 1) f.seams)) (flat_map both (drop (k + 1) f.seams)) (at-all k)
      (at-once-all k))
