-- Where a column ends, and what is laid there.
use Rattle.std.proofs.Common.{◌≡◌, ℕ, zero, suc, ◌+◌, ◌-◌, ◌<◌, ◌≤◌, ◌==◌, Bool, true, false, cond, not, ◌&&◌, List, [], ◌∷◌}
use Rattle.std.proofs.Common.{◌++◌}
use Rattle.std.proofs.Common.{length, Option, Some, None, refl, sym, subst, ◌∙◌, ap, arith, append_assoc, All, ◌⊎◌, inl, inr}
use Rattle.std.specs.Option.{option_map}
use Rattle.std.specs.Prelude.{nat_lt, is_some, IfSome}
use Rattle.std.proofs.lemmas.Bool.Decides.{nat_tests}
use Rattle.std.proofs.lemmas.List.{append-nil}
use Rattle.mc_base.specs.PlainTree.{PlainTree, plain_trees, row_piece}
use Rattle.flow_list.specs.Data.{Flow, FlowsData, Item, Atom, Row}
use Rattle.flow_data.specs.Flows.{flow_in, item_of, row_of, rows_in, seam_of}
use Rattle.flow_data.specs.Soundness.{IsSound, IsSoundFlow}
use Rattle.flow_list.specs.Column.{Inner, Step, column, height_of, room, start_strip, step_at, steps_from}
use Rattle.flow_list.specs.Fragments.{column_fragment, fragments_from}
use Rattle.flow_list.specs.Fragments.{fills_item, filled_row, laid_before, laid_filled, laid_to, stop_of, strip_filled}
use Rattle.flow_list.specs.Placing.{Laid, laid_edges, row}
use Rattle.flow_list.specs.Rows.{all_rows, columns}
use Rattle.flow_list.specs.Strip.{Strip, begins, strip_at}
use Rattle.flow_list.specs.Tokens.{Token, IsPlace, IsPlaceBefore, item_number, row_start, within}
use Rattle.flow_list.proofs.ColumnParts.{EachFrom, OfStop, cut-stop, steps-each}
use Rattle.flow_laws.proofs.HoldingEnds.{EndsAtSeam, EndsFor, EndsInRow, column-ends, taken, taken_at}
use Rattle.flow_laws.proofs.RowsAdvance.{columns-advance}
use Rattle.flow_laws.proofs.SoundRows.{rows-in-range}
use Rattle.column_laws.proofs.Depths.{rows-are-told}
use Rattle.column_laws.proofs.Uses.{rows-at}
use Rattle.frag_pool.specs.Nodes.{Nodes}
use Rattle.frag_pool.specs.Standing.{StandsFor}
use Rattle.inner_rows.specs.Filling.{fill_tree}
use Rattle.column_maker.specs.declared.place.Cut.{Cut}
use Rattle.column_maker.specs.Making.{HasColumns, IsCutAt, IsEnding, columns_in, cut_room, cut_row}
use Rattle.column_maker.specs.Making.{IsTakenFrom, cut_laid, ends_at_seam, ends_filled, last_item, last_laid, row_number}
use Rattle.column_maker.specs.Walking.{item_laid, strip_next, strip_to, walk_laid}
use Rattle.column_maker.proofs.Walks.{items-are, strip-more, walk-is}

lower : {a b c : ℕ} → a < b → b ≡ c → a < c
lower lt is = omega arith

filled-test : (k : ℕ) (o : Option (ℕ × Token)) (r : ℕ × Token) (a high : ℕ) → o ≡ Some r → a < high →
    (((k == (k + 1 - 1)) && is_some o) && nat_lt a high) && not ((k + 1) == 0) ≡ true
filled-test k o r a high is low =
    let same : (k == (k + 1 - 1)) ≡ true = grind (arith, nat_tests) in
    let lower : nat_lt a high ≡ true = grind (arith, nat_tests) in
    let some : ((k + 1) == 0) ≡ false = grind (arith, nat_tests) in
    rw (is, same, lower, some) refl

-- In the column of flow f that begins at t.
module _ (d : FlowsData) (f : Flow) (t : Token) where
  abbrev x : Inner
  x = all_rows d

  abbrev i : ℕ
  i = item_number t

  -- the strip before item k
  abbrev pub strip_at_item : ℕ → Strip
  strip_at_item k = strip_to x f (start_strip d f t) i (within t) (k - i)

  abbrev pub taken_of : ℕ → Token
  taken_of k = taken x f t k

  -- ---- the stop

  -- it is its item as that stands in the column
  abbrev pub IsWalked : Step → Type 0
  IsWalked s = s ≡ step_at x d f (strip_at_item s.item) s.item (taken_of s.item)

  abbrev Before : Strip → ℕ → Token → ℕ → Type 0
  Before s k q n = (i ≤ k) × (s ≡ strip_at_item k) × (q ≡ taken_of k)

  next-strip : (s : Strip) (k : ℕ) (q : Token) → i ≤ k → s ≡ strip_at_item k → q ≡ taken_of k →
      strip_next x f s k q ≡ strip_at_item (k + 1)
  next-strip s k q le is at =
      let e : k + 1 - i ≡ suc (k - i) = omega arith in
      let k_is : i + (k - i) ≡ k = omega arith in
      ap (λ u. strip_next x f u k q) is ∙ ap (λ u. strip_next x f (strip_at_item k) k u) at
      ∙ ap (λ m. strip_next x f (strip_at_item k) m (taken_of k)) (sym k_is)
      ∙ sym (strip-more x f (start_strip d f t) i (within t) (k - i))
      ∙ ap (strip_to x f (start_strip d f t) i (within t)) (sym e)

  pub next-taken : (k : ℕ) → i ≤ k → row_start ≡ taken_of (k + 1)
  next-taken k le =
      let e : suc (k - i) ≡ k + 1 - i = omega arith in
      ap (λ n. taken_at n (within t)) e

  pub first-taken : within t ≡ taken_of i
  first-taken = let e : 0 ≡ i - i = omega arith in ap (λ n. taken_at n (within t)) e

  first-strip : start_strip d f t ≡ strip_at_item i
  unfolding strip_to
  first-strip = let e : 0 ≡ i - i = omega arith in ap (strip_to x f (start_strip d f t) i (within t)) e

  steps-walked : EachFrom (λ n. IsWalked) i (steps_from x d f t)
  steps-walked = steps-each x d f Before (λ n. IsWalked)
      (λ s k q n b. ap (λ u. step_at x d f u k q) b.1 ∙ ap (λ u. step_at x d f (strip_at_item k) k u) b.2)
      (λ s k q n b. let le = b.0 in (omega arith, next-strip s k q b.0 b.1 b.2, next-taken k b.0))
      (start_strip d f t) i (within t) (length f.items - i) (omega arith, first-strip, first-taken)

  pub stop-walked : (h : ℕ) → OfStop IsWalked (stop_of x d f t (Some h))
  stop-walked h = cut-stop IsWalked h i (steps_from x d f t) steps-walked

  -- ---- a row that is filled

  module _ (h : ℕ) (s : Step) (end : Token) (e : EndsInRow x f t h s end) where
    abbrev reached : Bool
    reached = ends_at_seam end

    abbrev tail_laid : Bool → List Laid
    tail_laid b = cond b (laid_edges (strip_filled (Some h) (Some s)) (seam_of f (s.item + 1)).tail) []

    cut-is : IsWalked s → (a : ℕ) → a ≡ room s h → (b : Bool) →
        laid_filled (Some h) (Some s) ++ tail_laid b ≡ cut_laid f s.item a b (strip_at_item s.item) (taken_of s.item)
    cut-is walked a is b =
        let here : ℕ → Token → ℕ → ℕ → List Laid = λ r q a y.
        row (record { row = r; from = q; height = a; made_at = Some a; filled = true })
        ∷ cond b (laid_edges (strip_at (y + a) false) (seam_of f (s.item + 1)).tail) [] in
        let y = begins (strip_at_item s.item) in
        ap (λ r. filled_row r (room s h) ++ tail_laid b) e.step_row
        ∙ ap (λ z. here e.row e.from (room s h) z) (ap (λ (s : Step). s.y) walked)
        ∙ ap (λ q. here e.row q (room s h) y) e.taken_from
        ∙ ap (λ it. here (row_number it) (taken_of s.item) (room s h) y) (sym e.item)
        ∙ ap (λ z. here (row_number (item_of f s.item)) (taken_of s.item) z y) (sym is)

    module _ (within_row : (x.fill e.row e.from (room s h)).at_end ≡ false →
        (j : ℕ) × (rest : Token) × ((x.fill e.row e.from (room s h)).end ≡ j ∷ rest)) where
      -- the place where it ends is that
      pub record IsThere (u : Token) : Type 0 where
        pub last : last_item u ≡ s.item
        pub filled : ends_filled d f t h u ≡ true
        pub laid : laid_to x d f t (Some h) (Some s) u
            ≡ laid_before x f (start_strip d f t) i (within t) (s.item - i) ++ (laid_filled (Some h) (Some s) ++ tail_laid
            (ends_at_seam u))

      abbrev front : ℕ → List Laid
      front n = laid_before x f (start_strip d f t) i (within t) n

      behind-there : stop_of x d f t (Some h) ≡ Some s → IsThere ((s.item + 1) ∷ [])
      behind-there stop =
          let test = filled-test s.item s.row (e.row, e.from) (room s h) s.height e.step_row e.low in
          let at : s.item + 1 - 1 ≡ s.item = omega arith in
          record {
            last = at;
            filled = ap (λ o. fills_item (Some h) o (s.item + 1 - 1) && not ((s.item + 1) == 0)) stop ∙ test;
            laid = rw test (ap (λ n. (front (n - i) ++ laid_filled (Some h) (Some s)) ++ tail_laid true) at
                ∙ append_assoc (front (s.item - i)) (laid_filled (Some h) (Some s)) (tail_laid true));
          }

      within-there : (j : ℕ) (rest : Token) → IsThere (s.item ∷ (j ∷ rest))
      within-there j rest = record {
        last = refl;
        filled = refl;
        laid = ap (λ xs. front (s.item - i) ++ xs) (sym (append-nil (laid_filled (Some h) (Some s))));
      }

      pub there : stop_of x d f t (Some h) ≡ Some s → IsThere end
      there stop = subst IsThere (sym e.is) (go (x.fill e.row e.from (room s h)).at_end refl)
        where
          go : (b : Bool) → (x.fill e.row e.from (room s h)).at_end ≡ b →
              IsThere (cond b ((s.item + 1) ∷ []) (s.item ∷ (x.fill e.row e.from (room s h)).end))
          go true is = behind-there stop
          go false is =
              let w = within_row is in
              subst (λ (u : Token). IsThere (s.item ∷ u)) (sym w.2) (within-there w.0 w.1)

  -- ---- places in rows

  module _ (sound : IsSound d) (flow : IsSoundFlow d f) (begins_there : IsPlaceBefore d f t)
      (some : All (λ r. 0 < length (flow_in d r).items) (rows_in f)) where
    pub inside : i < length f.items
    inside = go t begins_there
      where
        go : (t : Token) → IsPlaceBefore d f t → item_number t < length f.items
        go [] b = absurd b
        go (k ∷ []) b = b
        go (k ∷ (j ∷ rest)) b = b.0

    first-place : (item : Item) → item_of f i ≡ item → IsTakenFrom d item (within t)
    first-place (Atom height kind) is = tt
    first-place (Row r) is = go t begins_there is
      where
        go : (t : Token) → IsPlaceBefore d f t → item_of f (item_number t) ≡ Row r → IsPlaceBefore d (flow_in d r) (within t)
        go [] b is = absurd b
        go (k ∷ []) b is = rows-at (λ r. 0 < length (flow_in d r).items) f.items some k r is
        go (k ∷ (j ∷ rest)) b is =
            let same : b.1 ≡ r = cc in
            subst (λ (r : ℕ). IsPlaceBefore d (flow_in d r) (j ∷ rest)) same b.3

    later-place : (k : ℕ) (item : Item) → item_of f k ≡ item → IsTakenFrom d item row_start
    later-place k (Atom height kind) is = tt
    later-place k (Row r) is = rows-at (λ r. 0 < length (flow_in d r).items) f.items some k r is

    pub taken-place : (k : ℕ) → i ≤ k → IsTakenFrom d (item_of f k) (taken_of k)
    taken-place k le = go (k - i) refl
      where
        go : (n : ℕ) → k - i ≡ n → IsTakenFrom d (item_of f k) (taken_at n (within t))
        go zero e =
            let same : i ≡ k = omega arith in
            subst (λ (m : ℕ). IsTakenFrom d (item_of f m) (within t)) same (first-place (item_of f i) refl)
        go (suc n) e = later-place k (item_of f k) refl

    pub row-known : (k r : ℕ) → item_of f k ≡ Row r → r < length d.rows
    row-known k r is = rows-at (λ r. r < length d.rows) f.items (rows-in-range d f.items flow.items) k r is

    -- a fill leaves a place that has a number
    pub leaves-place : (k r a : ℕ) → i ≤ k → item_of f k ≡ Row r → (q : Token) → q ≡ taken_of k →
        (j : ℕ) × (rest : Token) × ((x.fill r q a).end ≡ j ∷ rest)
    leaves-place k r a le is q at =
        let known = row-known k r is in
        let place : IsPlaceBefore d (flow_in d r) (taken_of k) =
        subst (λ (it : Item). IsTakenFrom d it (taken_of k)) is (taken-place k le) in
        let here : IsPlaceBefore d (flow_in d r) q = rw at place in
        go (x.fill r q a).end ((columns-advance d sound r known).fill_advances q a here).place
      where
        before : (u : Token) → IsPlaceBefore d (flow_in d r) u → (j : ℕ) × (rest : Token) × (u ≡ j ∷ rest)
        before [] b = absurd b
        before (j ∷ rest) b = (j, rest, refl)

        go : (u : Token) → IsPlace d (flow_in d r) u → (j : ℕ) × (rest : Token) × (u ≡ j ∷ rest)
        go u (inl at_end) = (length (flow_in d r).items, [], at_end)
        go u (inr b) = before u b

    -- ---- the end

    -- how the column goes up to its last item, and what that is
    pub record Goes (h : ℕ) (end : Token) (room : Option ℕ) : Type 0 where
      pub later : i ≤ last_item end
      pub known : last_item end < length f.items
      pub laid : laid_to x d f t (Some h) (stop_of x d f t (Some h)) end
          ≡ walk_laid x f (last_laid d f (last_item end) room (ends_at_seam end)) (start_strip d f t) i (within t)
          (last_item end - i)

    seam-goes : (h : ℕ) (stop : Option Step) (end : Token) → stop_of x d f t (Some h) ≡ stop →
        EndsAtSeam x f t (Some h) stop end →
        Goes h end None × (ends_filled d f t h end ≡ false)
    seam-goes h stop end is e =
        let P : Token → Type 0 = λ u. Goes h u None × (ends_filled d f t h u ≡ false) in
        subst P (sym e.is) (
          record { later = omega (arith, e.later); known = omega (arith, e.later, e.known); laid = laid },
          unfilled,
        )
      where
        test : (fills_item (Some h) (stop_of x d f t (Some h)) (e.seam - 1) && not (e.seam == 0)) ≡ false
        test = ap (λ b. b && not (e.seam == 0)) (ap (λ o. fills_item (Some h) o (e.seam - 1)) is ∙ e.unfilled)

        unfilled : ends_filled d f t h (e.seam ∷ []) ≡ false
        unfilled = test

        n : ℕ
        n = e.seam - 1 - i

        laid : laid_to x d f t (Some h) (stop_of x d f t (Some h)) (e.seam ∷ [])
            ≡ walk_laid x f (last_laid d f (e.seam - 1) None true) (start_strip d f t) i (within t) n
        laid =
            let count : e.seam - i ≡ suc n = omega (arith, e.later) in
            let at : i + n ≡ e.seam - 1 = omega (arith, e.later) in
            rw test (rw count (items-are x f (start_strip d f t) i (within t) n))
            ∙ ap (λ m. laid_before x f (start_strip d f t) i (within t) n
            ++ item_laid x f (strip_to x f (start_strip d f t) i (within t) n) m (taken_at n (within t))) at
            ∙ sym (walk-is x f (last_laid d f (e.seam - 1) None true) (start_strip d f t) i (within t) n)

    -- in or after a row that is filled in the room that its stop has
    pub record Fills (h : ℕ) (end : Token) (s : Step) : Type 0 where
      pub stop : stop_of x d f t (Some h) ≡ Some s
      pub goes : (a : ℕ) → a ≡ room s h → Goes h end (Some a)
      pub low : room s h < height_of x (item_of f (last_item end)) (taken_of (last_item end))
      pub row : ℕ
      pub item : item_of f (last_item end) ≡ Row row
      pub step_row : s.row ≡ Some (row, taken_of (last_item end))

    row-goes : (h : ℕ) (s : Step) (end : Token) → stop_of x d f t (Some h) ≡ Some s → IsWalked s → EndsInRow x f t h s end →
        Fills h end s × (ends_filled d f t h end ≡ true)
    row-goes h s end is walked e =
        let w = there h s end e (λ b. leaves-place s.item e.row (room s h) e.later e.item e.from e.taken_from) is in (
          record {
            stop = is;
            goes = λ a at. record {
              later = rw w.last e.later;
              known = rw w.last e.known;
              laid = rw (is, w.last) (w.laid
                  ∙ ap (λ xs. laid_before x f (start_strip d f t) i (within t) (s.item - i) ++ xs)
                  (cut-is h s end e walked a at (ends_at_seam end))
                  ∙ sym (walk-is x f (last_laid d f s.item (Some a) (ends_at_seam end)) (start_strip d f t) i (within t)
                  (s.item - i)));
            };
            low = rw w.last (lower e.low (ap (λ (s : Step). s.height) walked));
            row = e.row;
            item = rw w.last e.item;
            step_row = rw w.last (e.step_row ∙ ap (λ q. Some (e.row, q)) e.taken_from);
          },
          w.filled,
        )

    -- how a column ends
    pub ends : (h : ℕ) (end : Token) → end ≡ (column x d f t h).end →
        (Goes h end None × (ends_filled d f t h end ≡ false)) ⊎ ((s : Step) × Fills h end s × (ends_filled d f t h end ≡ true))
    ends h end is = subst P (sym is) (go (stop_of x d f t (Some h)) refl (stop-walked h) (column-ends x f t d (Some h) inside))
      where
        P : Token → Type 0
        P u = (Goes h u None × (ends_filled d f t h u ≡ false)) ⊎ ((s : Step) × Fills h u s × (ends_filled d f t h u ≡ true))

        go : (stop : Option Step) → stop_of x d f t (Some h) ≡ stop → OfStop IsWalked stop →
            EndsFor x f t (Some h) stop (column x d f t h).end → P (column x d f t h).end
        go None at walked e = inl (seam-goes h None _ at e)
        go (Some s) at walked (inl e) = inl (seam-goes h (Some s) _ at e)
        go (Some s) at walked (inr e) = let r = row-goes h s _ at walked e in inr (s, r.0, r.1)

    -- ---- what was told of the end

    pub chosen : (p : Nodes) (h : ℕ) (end : Token) (cut : Option Cut) → end ≡ (column x d f t h).end →
        IsEnding d p f t h end cut → Goes h end (option_map cut_room cut)
    chosen p h end None is told = go (ends h end is)
      where
        go : (Goes h end None × (ends_filled d f t h end ≡ false)) ⊎ ((s : Step) × Fills h end s
            × (ends_filled d f t h end ≡ true)) →
            Goes h end None
        go (inl g) = g.0
        go (inr s) = let no = s.2 in absurd (cc)
    chosen p h end (Some c) is told = go (ends h end is)
      where
        go : (Goes h end None × (ends_filled d f t h end ≡ false)) ⊎ ((s : Step) × Fills h end s
            × (ends_filled d f t h end ≡ true)) →
            Goes h end (Some c.room)
        go (inl g) = let no = g.1 in let yes = told.0 in absurd (cc)
        go (inr s) =
            let cut_at : IsCutAt d p h (Some s.0) c = subst (λ (o : Option Step). IsCutAt d p h o c) s.1.stop told.1 in
            s.1.goes c.room cut_at.0

    -- the columns of a row that is filled are those of the fragment of what it makes
    filled-columns : (r : ℕ) → r < length d.rows → (q : Token) (a : ℕ) →
        columns_in d (record { row = r; from = q; height = a; made_at = Some a; filled = true })
        ≡ fragments_from (column_fragment d r (Some a)) q (columns (all_rows d) d (flow_in d r) (row_of d r).n q a)
    unfolding column_fragment
    filled-columns r known q a =
        (rows-are-told d sound).fragments_are (length d.rows)
        (record { row = r; from = q; height = a; made_at = Some a; filled = true }) known (omega arith)

    pub cut-told : (p : Nodes) (h : ℕ) (end : Token) (c : Cut) → end ≡ (column x d f t h).end →
        IsEnding d p f t h end (Some c) → let k = last_item end in
        (c.room ≤ height_of x (item_of f k) (taken_of k)) × HasColumns d p (cut_row f k (taken_of k) c.room c.made)
    cut-told p h end c is told = go (ends h end is)
      where
        k : ℕ
        k = last_item end

        go : (Goes h end None × (ends_filled d f t h end ≡ false)) ⊎ ((s : Step) × Fills h end s
            × (ends_filled d f t h end ≡ true)) →
            (c.room ≤ height_of x (item_of f k) (taken_of k)) × HasColumns d p (cut_row f k (taken_of k) c.room c.made)
        go (inl g) = let no = g.1 in let yes = told.0 in absurd (cc)
        go (inr s) =
            let cut_at : IsCutAt d p h (Some s.0) c = subst (λ (o : Option Step). IsCutAt d p h o c) s.1.stop told.1 in
            let low = s.1.low in
            let r : ℕ = s.1.row in
            let made : StandsFor p c.made (fill_tree d r (taken_of k) (room s.0 h)) =
            subst (λ (o : Option (ℕ × Token)). IfSome o (λ row. StandsFor p c.made (fill_tree d row.0 row.1 (room s.0 h))))
            s.1.step_row cut_at.1 in
            let here : StandsFor p c.made (fill_tree d r (taken_of k) c.room) =
            subst (λ (a : ℕ). StandsFor p c.made (fill_tree d r (taken_of k) a)) (sym cut_at.0) made in
            let own : HasColumns d p (record {
              row = r;
              from = taken_of k;
              height = c.room;
              made_at = Some c.room;
              filled =
                  true;
              made = c.made;
            }) =
            subst (λ (ts : List PlainTree). StandsFor p c.made (row_piece r (taken_of k) 0 None (plain_trees ts)))
            (sym (filled-columns r (row-known k r s.1.item) (taken_of k) c.room)) here in (
              let e = cut_at.0 in omega arith,
              subst (λ (it : Item). HasColumns d p (record {
                row = row_number it;
                from = taken_of k;
                height =
                    c.room;
                made_at = Some c.room;
                filled = true;
                made = c.made;
              }))
                  (sym s.1.item) own,
            )
