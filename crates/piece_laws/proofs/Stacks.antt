-- The boxes that are open at each place of a sound flow, the innermost last, are those to which the starts and ends of boxes
-- before it lead.
use Rattle.std.proofs.Common.{◌≡◌, ℕ, zero, suc, ◌+◌, ◌<◌, ◌≤◌, ◌||◌, Bool, true, false, cond, List, [], ◌∷◌, ◌++◌, get_or}
use Rattle.std.proofs.Common.{length, take, drop, refl, sym, subst, ◌∙◌, ap, arith, add-one, append_assoc, reverse}
use Rattle.std.specs.Prelude.{◌==◌, Contains, not, SomeIndex}
use Rattle.std.specs.List.{flat_map}
use Rattle.std.proofs.lemmas.List.{append-nil, drop_more, reverse-append, reverse-reverse, take-take, take_more}
use Rattle.std.proofs.lemmas.List.Concat.{flat_map-append}
use Rattle.std.proofs.lemmas.List.Elements.{filter-append}
use Rattle.std.proofs.lemmas.List.Folds.{list_any-append}
use Rattle.flow_list.specs.Data.{Edge, Flow, FlowsData, Seam}
use Rattle.flow_data.specs.Flows.{boxes_in, ended, ends_in, is_among, no_seam, open_at, seam_of, started, starts_in}
use Rattle.flow_data.specs.Soundness.{AreNested, count_of, IsSoundFlow}
use Rattle.flow_data.proofs.BoxSums.{filter-le, starts-take}
use Rattle.flow_data.proofs.Counts.{among-count, count-among, count-append, count-cons, count-reverse, count-self, distinct-count}
use Rattle.flow_data.proofs.OpenBoxes.{both, first-tail, has-count, less, some-index}
use Rattle.flow_list.specs.Tokens.{item_number, Token}
use Rattle.flow_list.specs.ClonedEdges.{open_across}
use Rattle.flow_list.specs.Fragments.{continuing}
use Rattle.flow_laws.specs.Holding.{items_before}
use Rattle.piece_laws.specs.Nesting.{Crossing, crossing_at, crossings, crossings_before}
use Rattle.piece_laws.proofs.Leads.{entered, entered-edges, head-leads, left, left-edges, HeadLeads, Leads, leads-counts}
use Rattle.piece_laws.proofs.Leads.{leads-on, leads-rest, tail-leads, TailLeads}

-- ---- all but some of these

less-none : (xs : List ℕ) → less [] xs ≡ xs
less-none [] = refl
less-none (x ∷ xs) = ap (λ ys. x ∷ ys) (less-none xs)

kept : (es xs : List ℕ) → ((m : ℕ) → count_of m xs + count_of m es ≤ 1) → less es xs ≡ xs
kept es [] few = refl
kept es (x ∷ xs) few =
    let one = few x in
    let self = count-self x xs in
    let out : is_among es x ≡ false = count-among x es (omega arith) in
    rw out (ap (λ ys. x ∷ ys) (kept es xs (λ m. omega (arith, few m, count-cons m x xs))))

gone : (es xs : List ℕ) → ((m : ℕ) → count_of m xs ≤ count_of m es) → less es xs ≡ []
gone es [] few = refl
gone es (x ∷ xs) few = go (is_among es x) refl (gone es xs (λ m. omega (arith, few m, count-cons m x xs)))
  where
    go : (b : Bool) → is_among es x ≡ b → less es xs ≡ [] → less es (x ∷ xs) ≡ []
    go true e ih = rw e ih
    go false e ih =
        let none = among-count x es e in
        let some = few x in
        let self = count-self x xs in
        absurd (omega arith)

-- those that end are the last ones
less-last : (es xs : List ℕ) → ((m : ℕ) → count_of m xs + count_of m es ≤ 1) → less es (xs ++ reverse es) ≡ xs
less-last es xs few =
    filter-append (λ b. not (is_among es b)) xs (reverse es)
    ∙ ap (λ us. us ++ less es (reverse es)) (kept es xs few)
    ∙ ap (λ us. xs ++ us) (gone es (reverse es) (λ m. omega (arith, count-reverse m es))) ∙ append-nil xs

less-twice : (es more xs : List ℕ) → less (es ++ more) xs ≡ less more (less es xs)
less-twice es more [] = refl
less-twice es more (x ∷ xs) = go (is_among es x) (is_among more x) refl refl (less-twice es more xs)
  where
    either : is_among (es ++ more) x ≡ (is_among es x || is_among more x)
    either = list_any-append (λ c. c == x) es more

    go : (a b : Bool) → is_among es x ≡ a → is_among more x ≡ b → less (es ++ more) xs ≡ less more (less es xs) →
        less (es ++ more) (x ∷ xs) ≡ less more (less es (x ∷ xs))
    go true b e g ih = let m : is_among (es ++ more) x ≡ true = either ∙ rw e refl in rw (m, e) ih
    go false true e g ih = let m : is_among (es ++ more) x ≡ true = either ∙ rw (e, g) refl in rw (m, e, g) ih
    go false false e g ih =
        let m : is_among (es ++ more) x ≡ false = either ∙ rw (e, g) refl in rw (m, e, g) (ap (λ ys. x ∷ ys) ih)

module _ (d : FlowsData) (f : Flow) (sound : IsSoundFlow d f) where
  abbrev begun : ℕ → List ℕ
  begun n = starts_in (take n f.seams)

  abbrev over : ℕ → List ℕ
  over n = ends_in (take n f.seams)

  abbrev edges : ℕ → List Edge
  edges n = flat_map both (take n f.seams)

  abbrev tail_of : ℕ → List Edge
  tail_of n = (seam_of f n).tail

  abbrev head_of : ℕ → List Edge
  head_of n = (seam_of f n).head

  begun-once : (m n : ℕ) → count_of m f.opened + count_of m (begun n) ≤ 1
  begun-once m n =
      omega (
        arith,
        distinct-count m (boxes_in f) sound.distinct,
        starts-take (λ x. cond (x == m) 1 0) n f.seams,
        count-append m f.opened (starts_in f.seams),
      )

  begun-more : (n : ℕ) → n < length f.seams → begun (n + 1) ≡ begun n ++ flat_map started (head_of n)
  begun-more n lt =
      ap starts_in (take_more f.seams n no_seam lt)
      ∙ flat_map-append (λ (s : Seam). flat_map started s.head) (take n f.seams) (seam_of f n ∷ [])
      ∙ ap (λ us. begun n ++ us) (append-nil (flat_map started (head_of n)))

  over-more : (n : ℕ) → n < length f.seams → over (n + 1) ≡ over n ++ flat_map ended (tail_of n)
  over-more n lt =
      ap ends_in (take_more f.seams n no_seam lt)
      ∙ flat_map-append (λ (s : Seam). flat_map ended s.tail) (take n f.seams) (seam_of f n ∷ [])
      ∙ ap (λ us. over n ++ us) (append-nil (flat_map ended (tail_of n)))

  pub edges-more : (n : ℕ) → n < length f.seams → edges (n + 1) ≡ (edges n ++ tail_of n) ++ head_of n
  edges-more n lt =
      ap (flat_map both) (take_more f.seams n no_seam lt) ∙ flat_map-append both (take n f.seams) (seam_of f n ∷ [])
      ∙ ap (λ us. edges n ++ us) (append-nil (tail_of n ++ head_of n)) ∙ sym (append_assoc (edges n) (tail_of n) (head_of n))

  -- After these edges, which start and end these boxes, these are open; and the edges that follow are well nested in them.
  record After (before rest : List Edge) (boxes starts ends : List ℕ) : Type 0 where
    stack : List ℕ
    is : reverse stack ≡ boxes
    leads : Leads (reverse f.opened) (crossings before) stack
    nested : AreNested stack rest
    starting : flat_map entered (crossings before) ≡ starts
    ending : flat_map left (crossings before) ≡ ends

  counts : {before rest : List Edge} {boxes starts ends : List ℕ} (a : After before rest boxes starts ends) (m : ℕ) →
      count_of m f.opened + count_of m starts ≡ count_of m a.stack + count_of m ends
  counts {before = before} a m =
      omega (
        arith,
        leads-counts m (crossings before) (reverse f.opened) a.stack a.leads,
        count-reverse m f.opened,
        ap (count_of m) a.starting,
        ap (count_of m) a.ending,
      )

  abbrev Through : ℕ → Type 0
  Through n = After (edges n) (flat_map both (drop n f.seams)) (less (over n) (f.opened ++ begun n)) (begun n) (over n)

  abbrev Across : ℕ → Type 0
  Across n =
      After (edges n ++ tail_of n) (head_of n ++ flat_map both (drop (n + 1) f.seams))
      (less (flat_map ended (tail_of n)) (less (over n) (f.opened ++ begun n))) (begun n) (over n ++ flat_map ended (tail_of n))

  crossings-on : (read : Crossing → List ℕ) (by : Edge → List ℕ) →
      ((es : List Edge) → flat_map read (crossings es) ≡ flat_map by es) → (xs ys : List Edge) (us : List ℕ) →
      flat_map read (crossings xs) ≡ us → flat_map read (crossings (xs ++ ys)) ≡ us ++ flat_map by ys
  crossings-on read by same xs ys us e =
      ap (flat_map read) (flat_map-append crossing_at xs ys) ∙ flat_map-append read (crossings xs) (crossings ys)
      ∙ ap (λ vs. vs ++ flat_map read (crossings ys)) e ∙ ap (λ vs. us ++ vs) (same ys)

  edges-on : (xs ys : List Edge) (mid after : List ℕ) → Leads (reverse f.opened) (crossings xs) mid →
      Leads mid (crossings ys) after → Leads (reverse f.opened) (crossings (xs ++ ys)) after
  edges-on xs ys mid after e h =
      let P : List Crossing → Type 0 = λ cs. Leads (reverse f.opened) cs after in
      subst P (sym (flat_map-append crossing_at xs ys))
      (leads-on (crossings xs) (crossings ys) (reverse f.opened) mid after e h)

  past-tail : (n : ℕ) → n < length f.seams → Through n → Across n
  past-tail n lt t = record {
    stack = r.0;
    is = sym (ap (less es) (sym t.is ∙ ap reverse r.1 ∙ reverse-append es r.0) ∙ less-last es (reverse r.0) few);
    leads = edges-on (edges n) (tail_of n) t.stack r.0 t.leads r.2;
    nested = r.3;
    starting = crossings-on entered started entered-edges (edges n) (tail_of n) (begun n) t.starting
        ∙ ap (λ us. begun n ++ us) none ∙ append-nil (begun n);
    ending = crossings-on left ended left-edges (edges n) (tail_of n) (over n) t.ending;
  }
    where
      es : List ℕ
      es = flat_map ended (tail_of n)

      none : flat_map started (tail_of n) ≡ []
      none = (sound.seams n no_seam lt).tail

      r : TailLeads t.stack (tail_of n) (head_of n ++ flat_map both (drop (n + 1) f.seams))
      r = tail-leads (tail_of n) _ t.stack none (rw append_assoc at (rw (drop_more f.seams n no_seam lt) at t.nested))

      few : (m : ℕ) → count_of m (reverse r.0) + count_of m es ≤ 1
      few m =
          omega (
            arith,
            counts t m,
            ap (count_of m) r.1 ∙ count-append m es r.0,
            begun-once m n,
            count-reverse m r.0,
          )

  past-head : (n : ℕ) → n < length f.seams → Across n → Through (n + 1)
  past-head n lt a = record {
    stack = r.0;
    is = r.1 ∙ ap (λ us. us ++ new) a.is ∙ sym boxes;
    leads = subst P (sym (edges-more n lt)) (edges-on (edges n ++ tail_of n) (head_of n) a.stack r.0 a.leads r.2);
    nested = r.3;
    starting = ap (λ us. flat_map entered (crossings us)) (edges-more n lt)
        ∙ crossings-on entered started entered-edges (edges n ++ tail_of n) (head_of n) (begun n) a.starting
        ∙ sym (begun-more n lt);
    ending = ap (λ us. flat_map left (crossings us)) (edges-more n lt)
        ∙ crossings-on left ended left-edges (edges n ++ tail_of n) (head_of n) es a.ending
        ∙ ap (λ us. es ++ us) (sound.seams n no_seam lt).head ∙ append-nil es ∙ sym (over-more n lt);
  }
    where
      es : List ℕ
      es = over n ++ flat_map ended (tail_of n)

      new : List ℕ
      new = flat_map started (head_of n)

      r : HeadLeads a.stack (head_of n) (flat_map both (drop (n + 1) f.seams))
      r = head-leads (head_of n) (flat_map both (drop (n + 1) f.seams)) a.stack (sound.seams n no_seam lt).head a.nested

      P : List Edge → Type 0
      P before = Leads (reverse f.opened) (crossings before) r.0

      few : (m : ℕ) → count_of m new + count_of m es ≤ 1
      few m =
          omega (
            arith,
            counts a m,
            begun-once m (n + 1),
            ap (count_of m) (begun-more n lt),
            count-append m (begun n) new,
          )

      boxes : less (over (n + 1)) (f.opened ++ begun (n + 1))
          ≡ less (flat_map ended (tail_of n)) (less (over n) (f.opened ++ begun n)) ++ new
      boxes =
          ap (λ us. less us (f.opened ++ begun (n + 1))) (over-more n lt)
          ∙ ap (λ us. less es (f.opened ++ us)) (begun-more n lt)
          ∙ ap (less es) (sym (append_assoc f.opened (begun n) new))
          ∙ filter-append (λ b. not (is_among es b)) (f.opened ++ begun n) new
          ∙ ap (λ us. less es (f.opened ++ begun n) ++ us) (kept es new few)
          ∙ ap (λ us. us ++ new) (less-twice (over n) (flat_map ended (tail_of n)) (f.opened ++ begun n))

  through : (n : ℕ) → n ≤ length f.seams → Through n
  through zero le = record {
    stack = reverse f.opened;
    is = reverse-reverse f.opened ∙ sym (append-nil f.opened) ∙ sym (less-none (f.opened ++ []));
    leads = refl;
    nested = sound.nested;
    starting = refl;
    ending = refl;
  }
  through (suc n) le =
      let P : ℕ → Type 0 = λ m. Through m in
      subst P (add-one n) (past-head n (omega arith) (past-tail n (omega arith) (through n (omega arith))))

  -- ---- places

  -- The boxes that are open at a place are those that continue in a column that begins there.
  pub record At (t : Token) : Type 0 where
    pub stack : List ℕ
    pub is : reverse stack ≡ continuing f t
    pub leads : Leads (reverse f.opened) (crossings_before f t) stack
    pub starting : flat_map entered (crossings_before f t) ≡ starts_in (take (items_before t) f.seams)
    pub ending : flat_map left (crossings_before f t) ≡ ends_in (take (item_number t + 1) f.seams)

  across-is : (k : ℕ) → less (flat_map ended (tail_of k)) (less (over k) (f.opened ++ begun k)) ≡ open_across f k
  across-is zero =
      ap (λ es. less es (less [] (f.opened ++ []))) (first-tail d f sound (flat_map ended (tail_of 0)) refl)
      ∙ less-none (less [] (f.opened ++ [])) ∙ less-none (f.opened ++ []) ∙ append-nil f.opened
  across-is (suc k) =
      ap (λ m. less (flat_map ended (tail_of (suc k))) (less (over m) (f.opened ++ begun m))) (sym (add-one k))

  -- a place at an item or at the end
  pub at-item : (k : ℕ) → k < length f.seams → At (k ∷ [])
  at-item k lt =
      let a = past-tail k lt (through k (omega arith)) in
      record {
        stack = a.stack;
        is = a.is ∙ across-is k;
        leads = a.leads;
        starting = a.starting;
        ending = a.ending ∙ sym (over-more k lt);
      }

  -- a place within a row
  pub at-row : (k j : ℕ) (rest : List ℕ) → k < length f.seams → At (k ∷ (j ∷ rest))
  at-row k j rest lt =
      let a = through (k + 1) (omega arith) in
      record { stack = a.stack; is = a.is; leads = a.leads; starting = a.starting; ending = a.ending }

  -- no box starts after the last item: it would be open at none
  pub none-last : flat_map started (head_of (length f.items)) ≡ []
  none-last = go (flat_map started (head_of (length f.items))) refl
    where
      n : ℕ
      n = length f.items

      last : n < length f.seams
      last = let c = sound.seam_count in omega arith

      away : (m : ℕ) → 0 < count_of m (flat_map started (head_of n)) → ⊥
      away m some = nowhere (sound.filled at.0 m at.1)
        where
          all : count_of m (begun (n + 1)) ≡ count_of m (begun n) + count_of m (flat_map started (head_of n))
          all = ap (count_of m) (begun-more n last) ∙ count-append m (begun n) (flat_map started (head_of n))

          within : 0 < count_of m (boxes_in f)
          within =
              omega (
                arith,
                all,
                starts-take (λ x. cond (x == m) 1 0) (n + 1) f.seams,
                count-append m f.opened (starts_in f.seams),
              )

          at : (k : ℕ) × (k < length (boxes_in f)) × (get_or (boxes_in f) k m ≡ m)
          at = some-index m (boxes_in f) within

          nowhere : SomeIndex f.items (λ i. Contains (open_at f i) (get_or (boxes_in f) at.0 m)) → ⊥
          nowhere (i, in_items, (j, in_open, is)) =
              let box : ℕ = get_or (boxes_in f) at.0 m in
              let here : count_of (get_or (open_at f i) j box) (open_at f i) ≡ count_of m (open_at f i) =
              ap (λ x. count_of x (open_at f i)) (is ∙ at.2) in
              absurd (omega (
                arith,
                here,
                has-count (open_at f i) j box in_open,
                filter-le (λ x. cond (x == m) 1 0) (λ b. not (is_among (over (i + 1)) b)) (f.opened ++ begun (i + 1)),
                count-append m f.opened (begun (i + 1)),
                begun-le i in_items,
                all,
                begun-once m (n + 1),
              ))
            where
              begun-le : (i : ℕ) → i < n → count_of m (begun (i + 1)) ≤ count_of m (begun n)
              begun-le i lt =
                  let P : List Seam → Type 0 = λ ss. count_of m (starts_in ss) ≤ count_of m (begun n) in
                  subst P (take-take (i + 1) n f.seams (omega arith))
                  (starts-take (λ x. cond (x == m) 1 0) (i + 1) (take n f.seams))

      go : (xs : List ℕ) → flat_map started (head_of n) ≡ xs → xs ≡ []
      go [] e = refl
      go (x ∷ xs) e = absurd (away x (let self = count-self x xs in let is = ap (count_of x) e in omega arith))

  -- ---- between two places

  open-stack : (t : Token) (a : At t) → a.stack ≡ reverse (continuing f t)
  open-stack t a = sym (reverse-reverse a.stack) ∙ ap reverse a.is

  module _ (t u : Token) (a : At t) (b : At u) (cs : List Crossing) (e : crossings_before f t ++ cs ≡ crossings_before f u) where
    pub between-leads : Leads (reverse (continuing f t)) cs (reverse (continuing f u))
    between-leads =
        let P : List Crossing → Type 0 = λ all. Leads (reverse f.opened) all b.stack in
        let Q : List ℕ → Type 0 = λ boxes. Leads boxes cs b.stack in
        let R : List ℕ → Type 0 = λ boxes. Leads (reverse (continuing f t)) cs boxes in
        subst R (open-stack u b)
        (subst Q (open-stack t a)
        (leads-rest (crossings_before f t) cs (reverse f.opened) a.stack b.stack (subst P (sym e) b.leads) a.leads))

    -- the boxes that start between the places
    pub between-starts : starts_in (take (items_before t) f.seams) ++ flat_map entered cs
        ≡ starts_in (take (items_before u) f.seams)
    between-starts =
        ap (λ us. us ++ flat_map entered cs) (sym a.starting)
        ∙ sym (flat_map-append entered (crossings_before f t) cs) ∙ ap (flat_map entered) e ∙ b.starting

    -- and those that end there
    pub between-ends : ends_in (take (item_number t + 1) f.seams) ++ flat_map left cs
        ≡ ends_in (take (item_number u + 1) f.seams)
    between-ends =
        ap (λ us. us ++ flat_map left cs) (sym a.ending)
        ∙ sym (flat_map-append left (crossings_before f t) cs) ∙ ap (flat_map left) e ∙ b.ending

    -- no box is gone into twice
    pub between-once : (m : ℕ) → count_of m (continuing f t ++ flat_map entered cs) ≤ 1
    between-once m =
        omega (
          arith,
          count-append m (continuing f t) (flat_map entered cs),
          sym (count-reverse m a.stack) ∙ ap (count_of m) a.is,
          leads-counts m (crossings_before f t) (reverse f.opened) a.stack a.leads,
          count-reverse m f.opened,
          ap (count_of m) a.starting,
          ap (count_of m) between-starts,
          count-append m (starts_in (take (items_before t) f.seams)) (flat_map entered cs),
          begun-once m (items_before u),
        )

    -- none that is still open has ended
    pub between-apart : (m : ℕ) → count_of m (reverse (continuing f u)) + count_of m (flat_map left cs) ≤ 1
    between-apart m =
        omega (
          arith,
          leads-counts m cs (reverse (continuing f t)) (reverse (continuing f u)) between-leads,
          count-reverse m (continuing f t),
          count-append m (continuing f t) (flat_map entered cs),
          between-once m,
        )
