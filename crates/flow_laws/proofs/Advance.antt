-- A column ends later than it begins, where what is made of the rows within it does.
use Rattle.std.proofs.Common.{◌≡◌, ℕ, zero, suc, ◌+◌, ◌-◌, ◌<◌, ◌≤◌, Bool, true, false, cond, List, [], ◌∷◌, ◌++◌, length, drop}
use Rattle.std.proofs.Common.{get_or, Option, Some, None, refl, sym, subst, ◌∙◌, ap, arith, append_assoc, ◌⊎◌, inl, inr}
use Rattle.std.proofs.lemmas.Bool.{cases_lt}
use Rattle.std.proofs.lemmas.List.{drop-drop, drop_more}
use Rattle.std.specs.List.{AllByRecursion as Each}
use Rattle.flow_list.specs.Data.{Flow, FlowsData, Item, Atom, Row}
use Rattle.flow_data.specs.Flows.{flow_in, item_of, no_item}
use Rattle.flow_list.specs.Tokens.{Token, row_start, item_number, within, IsPlaceBefore}
use Rattle.flow_list.specs.Strip.{Strip}
use Rattle.flow_list.specs.Column.{Filled, Inner, Step, Place, cut, steps, steps_from, start_strip, row_from, room, seams_before}
use Rattle.flow_list.specs.Column.{seams_between, inside_place, last_place, no_place, column, column_over, column_up_to}
use Rattle.flow_list.specs.Column.{avoids_at, endless_column}
use Rattle.flow_list.specs.Rows.{item_left, items_left, left_in}
use Rattle.flow_list.proofs.ColumnParts.{EachFrom, steps-each, some-steps, through, cut-each, last-each, cut-some, stopped-each}
use Rattle.flow_laws.specs.Progress.{AtomAt, Contents, item_atoms, atoms_of_items, atoms_in, EndsWith}
use Rattle.flow_laws.proofs.Places.{in-items, some-left, IsReached, start-reached}

-- ---- what is left of a list of items

pub ends-same : (xs : List AtomAt) → EndsWith xs xs
ends-same xs = ([], refl)

pub ends-before : (held xs ys : List AtomAt) → EndsWith xs ys → EndsWith xs (held ++ ys)
ends-before held xs ys e = (held ++ e.0, ap (λ zs. held ++ zs) e.1 ∙ sym (append_assoc held e.0 xs))

pub ends-trans : (xs ys zs : List AtomAt) → EndsWith xs ys → EndsWith ys zs → EndsWith xs zs
ends-trans xs ys zs e f = let P : List AtomAt → Type 0 = λ zs. EndsWith xs zs in subst P (sym f.1) (ends-before f.0 xs ys e)

ends-after : (xs ys zs : List AtomAt) → EndsWith xs ys → EndsWith (xs ++ zs) (ys ++ zs)
ends-after xs ys zs e = (e.0, ap (λ us. us ++ zs) e.1 ∙ append_assoc e.0 xs zs)

pub item_left-some : (x : Inner) (item : Item) (q : Token) → 0 < item_left x item q
item_left-some x (Atom height kind) q = omega arith
item_left-some x (Row r) q = omega arith

left-drop : (x : Inner) (m : ℕ) (items : List Item) → items_left x row_start (drop m items) ≤ items_left x row_start items
left-drop x zero items = omega arith
left-drop x (suc m) [] = omega arith
left-drop x (suc m) (item ∷ items) = let l = left-drop x m items in omega arith

atoms-drop : (c : Contents) (r k m : ℕ) (l : ℕ) (items : List Item) → l ≡ m + k
    → EndsWith (atoms_of_items c r l row_start (drop m items)) (atoms_of_items c r k row_start items)
atoms-drop c r k zero l items e = let same : k ≡ l = omega arith
    in let P : ℕ → Type 0 = λ n. EndsWith (atoms_of_items c r n row_start items) (atoms_of_items c r k row_start items)
    in subst P same (ends-same _)
atoms-drop c r k (suc m) l [] e = ends-same []
atoms-drop c r k (suc m) l (item ∷ items) e =
    ends-before (item_atoms c r k item row_start) (atoms_of_items c r l row_start (drop m items))
    (atoms_of_items c r (suc k) row_start items) (atoms-drop c r (suc k) m l items (omega arith))

-- from a list of items, of which the first is item k and is taken from q, on to a later item
left-later : (x : Inner) (q : Token) (m : ℕ) (items : List Item) → 0 < length items
    → items_left x row_start (drop (suc m) items) < items_left x q items
left-later x q m [] some = absurd (omega arith)
left-later x q m (item ∷ items) some = let l = left-drop x m items in let s = item_left-some x item q in omega arith

atoms-later : (c : Contents) (r k m l : ℕ) (q : Token) (items : List Item) → l ≡ suc m + k
    → EndsWith (atoms_of_items c r l row_start (drop (suc m) items)) (atoms_of_items c r k q items)
atoms-later c r k m l q [] e = ends-same []
atoms-later c r k m l q (item ∷ items) e =
    ends-before (item_atoms c r k item q) (atoms_of_items c r l row_start (drop m items))
    (atoms_of_items c r (suc k) row_start items) (atoms-drop c r (suc k) m l items (omega arith))

module _ (d : FlowsData) (x : Inner) (c : Contents) where
  -- what row s makes of a height from a place on leaves a later place, unless it reaches the end
  pub record FillMoves (s : ℕ) (q : Token) (filled : Filled) : Type 0 where
    pub place : filled.at_end ≡ false → IsPlaceBefore d (flow_in d s) filled.end
    pub fewer : filled.at_end ≡ false → x.left s filled.end < x.left s q
    pub rest : filled.at_end ≡ false → EndsWith (c.atoms s filled.end) (c.atoms s q)

  pub record RowMoves (s : ℕ) : Type 0 where
    pub fills : (q : Token) (a : ℕ) → IsReached d (flow_in d s) q → FillMoves s q (x.fill s q a)

  abbrev pub ItemMoves : Item → Type 0
  ItemMoves (Atom height kind) = Unit {0}
  ItemMoves (Row s) = RowMoves s

  abbrev pub ItemsMove : List Item → Type 0
  ItemsMove [] = Unit {0}
  ItemsMove (item ∷ items) = ItemMoves item × ItemsMove items

  item-moves : (items : List Item) (k : ℕ) → ItemsMove items → ItemMoves (get_or items k no_item)
  item-moves [] zero moves = tt
  item-moves [] (suc k) moves = tt
  item-moves (item ∷ items) zero moves = moves.0
  item-moves (item ∷ items) (suc k) moves = item-moves items k moves.1

  -- place u of the flow f of row r comes after place t
  pub record Later (r : ℕ) (f : Flow) (t u : Token) : Type 0 where
    pub place : (u ≡ length f.items ∷ []) ⊎ IsPlaceBefore d f u
    pub fewer : left_in x f u < left_in x f t
    pub rest : EndsWith (atoms_in c r f u) (atoms_in c r f t)

  module _ (r : ℕ) (f : Flow) (moves : ItemsMove f.items) (t : Token) (here : IsPlaceBefore d f t) where
    starts-in : item_number t < length f.items
    starts-in = in-items d f t here

    -- item k, taken from q, is reached from t
    record Reached (k : ℕ) (q : Token) : Type 0 where
      fewer : items_left x q (drop k f.items) ≤ left_in x f t
      rest : EndsWith (atoms_of_items c r k q (drop k f.items)) (atoms_in c r f t)

    later-drop : (k : ℕ) → item_number t < k
        → drop k f.items ≡ drop (suc (k - suc (item_number t))) (drop (item_number t) f.items)
    later-drop k lt = sym (drop-drop (suc (k - suc (item_number t))) (item_number t) f.items
        ∙ ap (λ n. drop n f.items) (omega arith))

    fewer-later : (k : ℕ) → item_number t < k → items_left x row_start (drop k f.items) < left_in x f t
    fewer-later k lt = rw (later-drop k lt)
        (left-later x (within t) (k - suc (item_number t)) (drop (item_number t) f.items)
        (some-left (item_number t) f.items starts-in))

    rest-later : (k : ℕ) → item_number t < k → EndsWith (atoms_of_items c r k row_start (drop k f.items)) (atoms_in c r f t)
    rest-later k lt = rw (later-drop k lt)
        (atoms-later c r (item_number t) (k - suc (item_number t)) k (within t) (drop (item_number t) f.items) (omega arith))

    reached-first : Reached (item_number t) (within t)
    reached-first = record { fewer = omega arith; rest = ends-same _ }

    reached-later : (k : ℕ) → item_number t < k → Reached k row_start
    reached-later k lt = record { fewer = let l = fewer-later k lt in omega arith; rest = rest-later k lt }

    -- a later seam
    later-seam : (k : ℕ) → item_number t < k → k ≤ length f.items → Later r f t (k ∷ [])
    later-seam k lt le = record { place = which (cases_lt k (length f.items)); fewer = fewer-later k lt; rest = rest-later k lt }
      where
        which : (k < length f.items) ⊎ (length f.items ≤ k) → (k ∷ [] ≡ length f.items ∷ []) ⊎ IsPlaceBefore d f (k ∷ [])
        which (inl l) = inr l
        which (inr g) = let same : k ≡ length f.items = omega arith in inl (ap (λ i. i ∷ []) same)

    -- a later place within a row
    later-inside : (k s : ℕ) (q e : Token) → k < length f.items → item_of f k ≡ Row s → Reached k q
        → IsPlaceBefore d (flow_in d s) e → x.left s e < x.left s q → EndsWith (c.atoms s e) (c.atoms s q) → Later r f t (k ∷ e)
    later-inside k s q [] lt is reached place fewer rest = absurd place
    later-inside k s q (j ∷ more) lt is reached place fewer rest =
        let items : drop k f.items ≡ Row s ∷ drop (k + 1) f.items = drop_more f.items k no_item lt
        ∙ ap (λ item. item ∷ drop (k + 1) f.items) is in
        let left : items_left x q (Row s ∷ drop (k + 1) f.items) ≤ left_in x f t = rw items at reached.fewer in
        let atoms : EndsWith (atoms_of_items c r k q (Row s ∷ drop (k + 1) f.items)) (atoms_in c r f t) =
        rw items at reached.rest in
        record {
          place = inr (lt, s, is, place);
          fewer = rw items (omega arith);
          rest = rw items (ends-trans _ _ _
              (ends-after (c.atoms s (j ∷ more)) (c.atoms s q) (atoms_of_items c r (suc k) row_start (drop (k + 1) f.items))
              rest) atoms);
        }

    -- the row of item k, taken from a place in it, where that is reached
    abbrev RowReached : ℕ → Option (ℕ × Token) → Type 0
    RowReached k None = Unit {0}
    RowReached k (Some row) = (item_of f k ≡ Row row.0) × IsReached d (flow_in d row.0) row.1 × Reached k row.1 × RowMoves row.0

    abbrev StepReached : ℕ → Step → Type 0
    StepReached k s = (s.item ≡ k) × (s.item < length f.items) × RowReached s.item s.row

    abbrev IsLaterPlace : Place → Type 0
    IsLaterPlace p = Later r f t p.end

    inside-later : (avoids : Bool) (s : Step) (a b : ℕ) (row : ℕ × Token) → item_number t ≤ s.item → s.item < length f.items
        → RowReached s.item (Some row) → Later r f t (inside_place avoids s a (x.fill row.0 row.1 b)).end
    inside-later avoids s a b row le lt reached = go (x.fill row.0 row.1 b).at_end refl
      where
        go : (e : Bool) → (x.fill row.0 row.1 b).at_end ≡ e
            → Later r f t (cond e ((s.item + 1) ∷ []) (s.item ∷ (x.fill row.0 row.1 b).end))
        go true e = later-seam (s.item + 1) (omega arith) (omega arith)
        go false e =
            let m = reached.3.fills row.1 b reached.1 in
            later-inside s.item row.0 row.1 (x.fill row.0 row.1 b).end lt reached.0 reached.2 (m.place e) (m.fewer e) (m.rest e)

    seams-later : (need k : ℕ) (ss : List Step) → item_number t < k → EachFrom StepReached k ss
        → Each IsLaterPlace (seams_before need ss)
    seams-later need k [] lt reached = tt
    seams-later need k (s ∷ ss) lt reached = (
      later-seam s.item (let e = reached.0.0 in omega arith) (let e = reached.0.1 in omega arith),
      seams-later s.need (k + 1) ss (omega arith) reached.1,
    )

    between-later : (k : ℕ) (ss : List Step) → item_number t ≤ k → EachFrom StepReached k ss
        → Each IsLaterPlace (seams_between ss)
    between-later k [] le reached = tt
    between-later k (s ∷ ss) le reached = seams-later s.need (k + 1) ss (omega arith) reached.1

    last-later : (p : Place) (k : ℕ) (ss : List Step) → item_number t ≤ k → Later r f t p.end → EachFrom StepReached k ss
        → Later r f t (last_place p ss).end
    last-later p k [] le a reached = a
    last-later p k (s ∷ ss) le a reached =
        last-later (record { level = 0; end = (s.item + 1) ∷ []; extent = s.need; overflow = false }) (k + 1) ss (omega arith)
        (later-seam (s.item + 1) (let e = reached.0.0 in omega arith) (let e = reached.0.1 in omega arith)) reached.1

    up_to-later : (avoids : ℕ → Bool) (h : ℕ) (before : List Step) (stop : Option Step)
        → (stop ≡ None → (s : Step) × (ss : List Step) × (before ≡ s ∷ ss))
        → EachFrom StepReached (item_number t) (through before stop) →
        Later r f t (column_up_to x avoids h before stop).end
    up_to-later avoids h before None some reached =
        let n = some refl in
        let P : List Step → Type 0 = λ ss. Later r f t (last_place no_place ss).end in
        let reached' = rw n.2 at reached in
        subst P (sym n.2) (last-later _ (item_number t + 1) n.1 (omega arith)
        (later-seam (n.0.item + 1) (let e = reached'.0.0 in omega arith) (let e = reached'.0.1 in omega arith))
        reached'.1)
    up_to-later avoids h before (Some s) some reached =
        let last = last-each StepReached (item_number t) before s reached in
        let le : item_number t ≤ s.item = let e = last.0 in omega arith in
        stopped-each IsLaterPlace x (avoids s.item) h s before s.row
        (between-later (item_number t) (before ++ s ∷ []) (omega arith) reached)
        (λ which. later-seam (s.item + 1) (omega arith) (let lt = last.1 in omega arith))
        (λ row over is low. inside-later (avoids s.item) s (room s h) (room s h) row le last.1
        (subst (RowReached s.item) is last.2))

    over-later : (avoids : ℕ → Bool) (h : ℕ) (ss : List Step) → ((s : Step) × (more : List Step) × (ss ≡ s ∷ more))
        → EachFrom StepReached (item_number t) ss → Later r f t (column_over x avoids h ss).end
    over-later avoids h ss n reached =
        let P : List Step → Type 0 = λ ss. EachFrom StepReached (item_number t) ss
        → Later r f t (column_over x avoids h ss).end in
        let at_cons : P (n.0 ∷ n.1) = λ reached. up_to-later avoids h (cut h (n.0 ∷ n.1)).before (cut h (n.0 ∷ n.1)).stop
        (cut-some h n.0 n.1) (cut-each StepReached h (item_number t) (n.0 ∷ n.1) reached) in
        subst P (sym n.2) at_cons reached

    -- ---- the items of the column

    -- the place from which item k is taken is one in it, where it is a row, or its end
    abbrev IsPlaceIn : ℕ → Token → Type 0
    IsPlaceIn k q = (s : ℕ) → item_of f k ≡ Row s → IsReached d (flow_in d s) q

    row-reached : (k : ℕ) (q : Token) (item : Item) → item_of f k ≡ item → ItemMoves item → Reached k q → IsPlaceIn k q
        → RowReached k (row_from item q)
    row-reached k q (Atom height kind) is m reached place = tt
    row-reached k q (Row s) is m reached place = (is, place s is, reached, m)

    starts-place : (k : ℕ) → IsPlaceIn k row_start
    starts-place k s is = start-reached d (flow_in d s)

    abbrev IsBefore : Strip → ℕ → Token → ℕ → Type 0
    IsBefore s k q n = (item_number t ≤ k) × (k + n ≡ length f.items) × Reached k q × IsPlaceIn k q

    steps-reached : (s : Strip) (k : ℕ) (q : Token) (n : ℕ) → IsBefore s k q n → EachFrom StepReached k (steps x d f s k q n)
    steps-reached =
        steps-each x d f IsBefore StepReached (λ s k q n b. let e = b.1
        in (refl, omega arith, row-reached k q (item_of f k) refl (item-moves f.items k moves) b.2 b.3))
        (λ s k q n b. let le = b.0 in let e = b.1
        in (omega arith, omega arith, reached-later (k + 1) (omega arith), starts-place (k + 1)))

    first-place : (u : Token) → IsPlaceBefore d f u → IsPlaceIn (item_number u) (within u)
    first-place [] h = absurd h
    first-place (i ∷ []) h = starts-place i
    first-place (i ∷ (j ∷ rest)) h = λ s is.
        let same : Row h.1 ≡ Row s = sym h.2 ∙ is in
        let rows : h.1 ≡ s = cc in
        let P : ℕ → Type 0 = λ n. IsPlaceBefore d (flow_in d n) (j ∷ rest) in
        inr (subst P rows h.3)

    some-items : (first : Step) × (more : List Step) × (steps_from x d f t ≡ first ∷ more)
    some-items = some-steps x d f (start_strip d f t) (item_number t) (within t) (length f.items - item_number t)
        (let lt = starts-in in omega arith)

    items-reached : EachFrom StepReached (item_number t) (steps_from x d f t)
    items-reached = steps-reached (start_strip d f t) (item_number t) (within t) (length f.items - item_number t)
        (omega arith, let lt = starts-in in omega arith, reached-first, first-place t here)

    -- a column that begins before the end ends later
    pub column-later : (h : ℕ) → Later r f t (column x d f t h).end
    unfolding column
    column-later h = over-later (avoids_at d f) h (steps_from x d f t) some-items items-reached

    -- so does one without end
    pub endless-later : Later r f t (endless_column x d f t).end
    unfolding endless_column
    endless-later = up_to-later (avoids_at d f) 0 (steps_from x d f t) None (λ e. some-items) items-reached
