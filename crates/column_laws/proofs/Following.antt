-- Columns one after another, and what is told of them.
use Rattle.std.proofs.Common.{◌≡◌, ℕ, zero, suc, ◌+◌, ◌-◌, ◌*◌, ◌<◌, ◌≤◌, max, min, Bool, true, false, cond, not, ◌||◌, ◌&&◌}
use Rattle.std.proofs.Common.{List, [], ◌∷◌, ◌++◌, length, Option, Some, refl, sym, subst, ◌∙◌, ap, arith, ◌⊎◌, inl, inr}
use Rattle.std.proofs.Common.{zero-add, length-append, zero-mul, suc-mul, add_comm}
use Rattle.std.specs.Prelude.{fold, nat_le}
use Rattle.std.specs.List.{list_any}
use Rattle.std.proofs.lemmas.Bool.{cases_lt}
use Rattle.std.proofs.lemmas.Bool.Decides.{nat_tests}
use Rattle.std.proofs.lemmas.List.{append-nil}
use Rattle.std.proofs.lemmas.List.Concat.{flat_map-append}
use Rattle.std.proofs.lemmas.List.Folds.{list_any-append}
use Rattle.std.proofs.lemmas.List.Sums.{fold-append}
use Rattle.mc_base.specs.PlainTree.{PlainTree}
use Rattle.flow_data.specs.declared.data.Flow.{Flow}
use Rattle.flow_data.specs.declared.data.FlowsData.{FlowsData}
use Rattle.flow_data.specs.Flows.{row_of, flow_in}
use Rattle.flow_list.specs.Tokens.{Token, is_end}
use Rattle.flow_list.specs.Column.{Column, ColumnLine, Inner, column}
use Rattle.flow_list.specs.Rows.{columns, columns_by, end_of, fails, reach_end, most_columns, fits, up_to, to_overflow}
use Rattle.flow_list.specs.RowHeights.{is_unforced}
use Rattle.flow_list.specs.Ranges.{judged, to_failure, bounds_of, lines_of}
use Rattle.flow_list.specs.Fragments.{fragments_from}
use Rattle.flow_list.specs.Folds.{Folded, shortage, folded_by}
use Rattle.flow_list.proofs.Fitting.{columns_by-step, columns_by-past}
use Rattle.column_laws.specs.Following.{end_after, ColumnsFollow, lesser, told_after, FoldsFollow, FitsExactly, columns_of_fills}
use Rattle.column_laws.specs.Following.{fragments_of_fills, FillsFollow}

-- ---- columns

pub ends-append : (t : Token) (cs ds : List Column) → end_of t (cs ++ ds) ≡ end_of (end_of t cs) ds
ends-append t cs ds = fold-append (λ q (c : Column). c.end) t cs ds

pub fragments-append : (piece : Token → PlainTree) (t : Token) (cs ds : List Column) →
    fragments_from piece t (cs ++ ds) ≡ fragments_from piece t cs ++ fragments_from piece (end_of t cs) ds
fragments-append piece t [] ds = refl
fragments-append piece t (c ∷ cs) ds = ap (λ ps. piece t ∷ ps) (fragments-append piece c.end cs ds)

module _ (make : Token → Column) (f : Flow) where
  abbrev pub from : ℕ → Token → List Column
  from n t = columns_by make f n t

  abbrev pub after : ℕ → Token → Token
  after n t = end_after make f n t

  pub joined : (n m : ℕ) (t : Token) → from (n + m) t ≡ from n t ++ from m (after n t)
  unfolding columns_by
  joined zero m t = ap (λ k. columns_by make f k t) (zero-add m)
  joined (suc n) m t = let e : suc n + m ≡ suc (n + m) = omega arith in ap (λ k. columns_by make f k t) e
      ∙ go (is_end f t) refl (λ u. joined n m u)
    where
      go : (b : Bool) → is_end f t ≡ b → ((u : Token) → from (n + m) u ≡ from n u ++ from m (after n u)) →
          from (suc (n + m)) t ≡ from (suc n) t ++ from m (after (suc n) t)
      go true is again =
          columns_by-past make f (suc (n + m)) t is
          ∙ sym (ap (λ cs. cs ++ columns_by make f m (end_of t cs)) (columns_by-past make f (suc n) t is)
          ∙ columns_by-past make f m t is)
      go false is again =
          columns_by-step make f (n + m) t is ∙ ap (λ cs. make t ∷ cs) (again (make t).end)
          ∙ sym (ap (λ cs. cs ++ columns_by make f m (end_of t cs)) (columns_by-step make f n t is))

  pub at-most : (n : ℕ) (t : Token) → length (from n t) ≤ n
  unfolding columns_by
  at-most zero t = omega arith
  at-most (suc n) t = go (is_end f t) refl (at-most n (make t).end)
    where
      P : List Column → Type 0
      P cs = length cs ≤ suc n

      go : (b : Bool) → is_end f t ≡ b → length (from n (make t).end) ≤ n → length (from (suc n) t) ≤ suc n
      go true is rest = rw (columns_by-past make f (suc n) t is) (omega arith)
      go false is rest = rw (columns_by-step make f n t is) (omega arith)

  pub fewer-at-end : (n : ℕ) (t : Token) → length (from n t) < n → is_end f (after n t) ≡ true
  unfolding columns_by
  fewer-at-end zero t lt = absurd (omega arith)
  fewer-at-end (suc n) t lt = go (is_end f t) refl (λ less. fewer-at-end n (make t).end less) lt
    where
      go : (b : Bool) → is_end f t ≡ b → (length (from n (make t).end) < n → is_end f (after n (make t).end) ≡ true) →
          length (from (suc n) t) < suc n → is_end f (after (suc n) t) ≡ true
      go true is again lt = rw (columns_by-past make f (suc n) t is) is
      go false is again lt =
          let P : List Column → Type 0 = λ cs. length cs < suc n → is_end f (end_of t cs) ≡ true in
          subst P (sym (columns_by-step make f n t is)) (λ less. again (omega arith)) lt

  pub one-more : (n : ℕ) (t : Token) → is_end f (after n t) ≡ false → from (n + 1) t ≡ from n t ++ make (after n t) ∷ []
  unfolding columns_by
  one-more n t inner = joined n 1 t ∙ ap (λ cs. from n t ++ cs) (columns_by-step make f 0 (after n t) inner)

  pub no-more : (n m : ℕ) (t : Token) → n ≤ m → is_end f (after n t) ≡ true → from m t ≡ from n t
  no-more n m t le ends =
      let e : m ≡ n + (m - n) = omega arith in
      ap (λ k. columns_by make f k t) e ∙ joined n (m - n) t
      ∙ ap (λ cs. from n t ++ cs) (columns_by-past make f (m - n) (after n t) ends) ∙ append-nil (from n t)

pub columns-follow : (make : Token → Column) (f : Flow) → ColumnsFollow make f
columns-follow make f = record {
  joined = joined make f;
  ends_joined = λ n m t. ap (end_of t) (joined make f n m t)
      ∙ ends-append t (columns_by make f n t) (columns_by make f m (end_of t (columns_by make f n t)));
  fragments_joined = λ piece n m t. ap (fragments_from piece t) (joined make f n m t)
      ∙ fragments-append piece t (columns_by make f n t) (columns_by make f m (end_of t (columns_by make f n t)));
  one_more = one-more make f;
  none_at_end = columns_by-past make f;
  no_more = no-more make f;
  at_most = at-most make f;
  fewer_at_end = fewer-at-end make f;
}

-- ---- up to the first that a test stops

module _ (stops : Column → Bool) where
  pub up-to-all : (cs : List Column) → list_any stops cs ≡ false → up_to stops cs ≡ cs
  up-to-all [] none = refl
  up-to-all (c ∷ cs) none = go (stops c) refl (λ n. up-to-all cs n) none
    where
      go : (b : Bool) → stops c ≡ b → (list_any stops cs ≡ false → up_to stops cs ≡ cs) → (b || list_any stops cs) ≡ false →
          c ∷ cond b [] (up_to stops cs) ≡ c ∷ cs
      go true e again n = cc
      go false e again n = ap (λ ds. c ∷ ds) (again n)

  pub up-to-behind : (cs ds : List Column) → list_any stops cs ≡ false → up_to stops (cs ++ ds) ≡ cs ++ up_to stops ds
  up-to-behind [] ds none = refl
  up-to-behind (c ∷ cs) ds none = go (stops c) refl (λ n. up-to-behind cs ds n) none
    where
      go : (b : Bool) → stops c ≡ b → (list_any stops cs ≡ false → up_to stops (cs ++ ds) ≡ cs ++ up_to stops ds) →
          (b || list_any stops cs) ≡ false → c ∷ cond b [] (up_to stops (cs ++ ds)) ≡ c ∷ (cs ++ up_to stops ds)
      go true e again n = cc
      go false e again n = ap (λ us. c ∷ us) (again n)

  pub up-to-before : (cs ds : List Column) → list_any stops cs ≡ true → up_to stops (cs ++ ds) ≡ up_to stops cs
  up-to-before [] ds some = cc
  up-to-before (c ∷ cs) ds some = go (stops c) refl (λ n. up-to-before cs ds n) some
    where
      go : (b : Bool) → stops c ≡ b → (list_any stops cs ≡ true → up_to stops (cs ++ ds) ≡ up_to stops cs) →
          (b || list_any stops cs) ≡ true → c ∷ cond b [] (up_to stops (cs ++ ds)) ≡ c ∷ cond b [] (up_to stops cs)
      go true e again n = refl
      go false e again n = ap (λ us. c ∷ us) (again n)

  pub any-up-to : (cs : List Column) → list_any stops (up_to stops cs) ≡ list_any stops cs
  any-up-to [] = refl
  any-up-to (c ∷ cs) = go (stops c) (any-up-to cs)
    where
      go : (b : Bool) → list_any stops (up_to stops cs) ≡ list_any stops cs →
          (b || list_any stops (cond b [] (up_to stops cs))) ≡ (b || list_any stops cs)
      go true e = refl
      go false e = e

-- ---- what is told

and-false : (b : Bool) → (b && false) ≡ false
and-false true = refl
and-false false = refl

pub fits-to-failure : (f : Flow) (q : Token) (cs : List Column) → reach_end f q (to_failure cs) ≡ reach_end f q cs
fits-to-failure f q cs = go (list_any fails cs) refl
  where
    go : (b : Bool) → list_any fails cs ≡ b → reach_end f q (to_failure cs) ≡ reach_end f q cs
    go true e = rw (
      any-up-to fails cs,
      e,
      and-false (is_end f (end_of q (to_failure cs))),
      and-false (is_end f (end_of q cs)),
    ) refl
    go false e = ap (reach_end f q) (up-to-all fails cs e)

most-from : (g : Column → ℕ) (w : ℕ) (cs : List Column) → fold (λ most (c : Column). max most (g c)) w cs
    ≡ max w (fold (λ most (c : Column). max most (g c)) 0 cs)
most-from g w [] = omega arith
most-from g w (c ∷ cs) = let a = most-from g (max w (g c)) cs in let b = most-from g (max 0 (g c)) cs in omega arith

most-append : (g : Column → ℕ) (cs ds : List Column) →
    fold (λ most (c : Column). max most (g c)) 0 (cs ++ ds)
    ≡ max (fold (λ most (c : Column). max most (g c)) 0 cs) (fold (λ most (c : Column). max most (g c)) 0 ds)
most-append g cs ds = fold-append (λ most (c : Column). max most (g c)) 0 cs ds
    ∙ most-from g (fold (λ most (c : Column). max most (g c)) 0 cs) ds

least-from : (a b : ℕ) (bs : List ℕ) → fold min (min a b) bs ≡ min a (fold min b bs)
least-from a b [] = refl
least-from a b (c ∷ bs) = let e : min (min a b) c ≡ min a (min b c) = omega arith in ap (λ m. fold min m bs) e
    ∙ least-from a (min b c) bs

pub shortage-append : (h : ℕ) (xs ys : List ℕ) → shortage h (xs ++ ys) ≡ lesser (shortage h xs) (shortage h ys)
shortage-append h [] ys = refl
shortage-append h (x ∷ xs) [] = ap (shortage h) (append-nil (x ∷ xs))
shortage-append h (x ∷ xs) (y ∷ ys) =
    let least : fold min x (xs ++ y ∷ ys) ≡ min (fold min x xs) (fold min y ys) = fold-append min x xs (y ∷ ys)
    ∙ least-from (fold min x xs) y ys in
    let less : min (fold min x xs) (fold min y ys) - h ≡ min (fold min x xs - h) (fold min y ys - h) = omega arith in
    ap Some (ap (λ m. m - h) least ∙ less)

all-told : (cs ds : List Column) → list_any (λ (c : Column). c.overflow) cs ≡ false →
    to_overflow (cs ++ ds) ≡ to_overflow cs ++ to_overflow ds
all-told cs ds none = up-to-behind (λ c. c.overflow) cs ds none
    ∙ sym (ap (λ us. us ++ to_overflow ds) (up-to-all (λ c. c.overflow) cs none))

lines-append : (cs ds : List Column) → lines_of (to_overflow (cs ++ ds))
    ≡ cond (list_any (λ (c : Column). c.overflow) cs) (lines_of (to_overflow cs))
    (lines_of (to_overflow cs) ++ lines_of (to_overflow ds))
lines-append cs ds = go (list_any (λ (c : Column). c.overflow) cs) refl
  where
    go : (b : Bool) → list_any (λ (c : Column). c.overflow) cs ≡ b →
        lines_of (to_overflow (cs ++ ds)) ≡ cond b (lines_of (to_overflow cs))
        (lines_of (to_overflow cs) ++ lines_of (to_overflow ds))
    go true e = ap lines_of (up-to-before (λ c. c.overflow) cs ds e)
    go false e = ap lines_of (all-told cs ds e) ∙ flat_map-append (λ (c : Column). c.lines) (to_overflow cs) (to_overflow ds)

short-append : (h : ℕ) (cs ds : List Column) → shortage h (bounds_of (to_overflow (cs ++ ds))) ≡
    cond (list_any (λ (c : Column). c.overflow) cs) (shortage h (bounds_of (to_overflow cs)))
    (lesser (shortage h (bounds_of (to_overflow cs))) (shortage h (bounds_of (to_overflow ds))))
short-append h cs ds = go (list_any (λ (c : Column). c.overflow) cs) refl
  where
    go : (b : Bool) → list_any (λ (c : Column). c.overflow) cs ≡ b → shortage h (bounds_of (to_overflow (cs ++ ds))) ≡
        cond b (shortage h (bounds_of (to_overflow cs)))
        (lesser (shortage h (bounds_of (to_overflow cs))) (shortage h (bounds_of (to_overflow ds))))
    go true e = ap (λ us. shortage h (bounds_of us)) (up-to-before (λ c. c.overflow) cs ds e)
    go false e =
        ap (λ us. shortage h (bounds_of us)) (all-told cs ds e)
        ∙ ap (shortage h) (flat_map-append (λ (c : Column). c.bounds) (to_overflow cs) (to_overflow ds))
        ∙ shortage-append h (bounds_of (to_overflow cs)) (bounds_of (to_overflow ds))

fits-both : (e a b : Bool) → (e && not (a || b)) ≡ (not a && (e && not b))
fits-both true true b = refl
fits-both true false b = refl
fits-both false true b = refl
fits-both false false b = refl

fits-append : (f : Flow) (q : Token) (cs ds : List Column) →
    reach_end f q (cs ++ ds) ≡ (not (list_any fails cs) && reach_end f (end_of q cs) ds)
fits-append f q cs ds =
    ap (λ u. is_end f u && not (list_any fails (cs ++ ds))) (ends-append q cs ds)
    ∙ ap (λ b. is_end f (end_of (end_of q cs) ds) && not b) (list_any-append fails cs ds)
    ∙ fits-both (is_end f (end_of (end_of q cs) ds)) (list_any fails cs) (list_any fails ds)

-- what is told, of these parts
abbrev told : Flow → (columns : ℕ) → Token → (fits unforced : Bool) → (level : ℕ) → (overflow : Bool) → (extent : ℕ) → Option ℕ →
    List ColumnLine → Folded
told f columns end fits unforced level overflow extent short lines = record {
  columns = columns;
  end = end;
  at_end = is_end f end;
  fits = fits;
  unforced = unforced;
  level = level;
  overflow = overflow;
  extent = extent;
  short = short;
  lines = lines;
}

told-joined : (f : Flow) (q : Token) (h : ℕ) (cs ds : List Column) →
    folded_by f q h (cs ++ ds) ≡ told_after (list_any fails cs) (folded_by f q h cs) (folded_by f (end_of q cs) h ds)
told-joined f q h cs ds =
    let over : Column → Bool = λ c. c.overflow in
    let unforced : Column → Bool = λ c. is_unforced f c.end in
    let a = length-append cs ds in
    let b = ends-append q cs ds in
    let c = fits-append f q cs ds in
    let e = list_any-append unforced cs ds in
    let g = most-append (λ c. c.level) cs ds in
    let i = list_any-append over cs ds in
    let j = most-append (λ c. c.extent) cs ds in
    let k = short-append h cs ds in
    let l = lines-append cs ds in
    cc

pub folds-follow : (f : Flow) → FoldsFollow f
folds-follow f = record {
  told_joined = told-joined f;
  failure_before = up-to-before fails;
  failure_behind = up-to-behind fails;
  fits_to_failure = fits-to-failure f;
}

-- ---- heights that fit

module _ (make : Token → Column) (f : Flow) where
  -- columns that reach the end do so in these columns exactly where they are no more
  pub few-reach : (most n : ℕ) (q : Token) → is_end f (after make f n q) ≡ true →
      reach_end f q (columns_by make f most q) ≡ (nat_le (length (columns_by make f n q)) most && not
      (list_any fails (columns_by make f n q)))
  few-reach most n q ends = go (cases_lt most n)
    where
      same : (cs : List Column) → columns_by make f most q ≡ cs → is_end f (end_of q cs) ≡ true → length cs ≤ most →
          reach_end f q (columns_by make f most q) ≡ (nat_le (length cs) most && not (list_any fails cs))
      same cs is at le =
          let yes : nat_le (length cs) most ≡ true = grind (arith, nat_tests) in
          ap (reach_end f q) is ∙ ap (λ b. b && not (list_any fails cs)) at ∙ sym (ap (λ b. b && not (list_any fails cs)) yes)

      longer : most < n → is_end f (after make f most q) ≡ false → most < length (columns_by make f n q)
      longer lt inner =
          let whole : n ≡ most + (n - most) = omega arith in
          let parts : columns_by make f n q ≡ columns_by make f most q ++ columns_by make f (n - most) (after make f most q) =
          ap (λ k. columns_by make f k q) whole ∙ joined make f most (n - most) q in
          let count : length (columns_by make f n q)
          ≡ length (columns_by make f most q) + length (columns_by make f (n - most) (after make f most q)) = ap length parts
          ∙ length-append (columns_by make f most q) (columns_by make f (n - most) (after make f most q)) in
          let first : most ≤ length (columns_by make f most q) = full (cases_lt (length (columns_by make f most q)) most) in
          let more = some (columns_by make f (n - most) (after make f most q)) refl parts in
          omega arith
        where
          full : (length (columns_by make f most q) < most) ⊎ (most ≤ length (columns_by make f most q)) →
              most ≤ length (columns_by make f most q)
          full (inl less) = let at = fewer-at-end make f most q less in cc
          full (inr le) = le

          some : (ds : List Column) → columns_by make f (n - most) (after make f most q) ≡ ds →
              columns_by make f n q ≡ columns_by make f most q ++ columns_by make f (n - most) (after make f most q) →
              0 < length (columns_by make f (n - most) (after make f most q))
          some [] none parts =
              let stays : after make f n q ≡ after make f most q = ap (end_of q) parts
              ∙ ap (λ ds. end_of q (columns_by make f most q ++ ds)) none
              ∙ ap (end_of q) (append-nil (columns_by make f most q)) in
              let at : is_end f (after make f most q) ≡ true = ap (is_end f) (sym stays) ∙ ends in
              cc
          some (c ∷ ds) is parts = rw is (omega arith)

      go : (most < n) ⊎ (n ≤ most) → reach_end f q (columns_by make f most q)
          ≡ (nat_le (length (columns_by make f n q)) most && not (list_any fails (columns_by make f n q)))
      go (inr le) = same (columns_by make f n q) (no-more make f n most q le ends) ends
          (let a = at-most make f n q in omega arith)
      go (inl lt) = early (is_end f (after make f most q)) refl
        where
          early : (b : Bool) → is_end f (after make f most q) ≡ b →
              reach_end f q (columns_by make f most q)
              ≡ (nat_le (length (columns_by make f n q)) most && not (list_any fails (columns_by make f n q)))
          early true at =
              let is : columns_by make f n q ≡ columns_by make f most q = no-more make f most n q (omega arith) at in
              same (columns_by make f n q) (sym is) ends (let a = at-most make f most q in let l = ap length is in omega arith)
          early false inner =
              let more = longer lt inner in
              let no : nat_le (length (columns_by make f n q)) most ≡ false = grind (arith, nat_tests) in
              ap (λ b. b && not (list_any fails (columns_by make f most q))) inner
              ∙ sym (ap (λ b. b && not (list_any fails (columns_by make f n q))) no)

pub fits-exactly : (inner : Inner) (d : FlowsData) (r : ℕ) (q : Token) → FitsExactly inner d r q
unfolding fits judged
fits-exactly inner d r q = record {
  fits_by_columns = λ n h ends. few-reach (λ t. column inner d (flow_in d r) t h) (flow_in d r)
      (most_columns (row_of d r).n (flow_in d r) q) n q ends;
  fits_by_judged = λ h. sym (fits-to-failure (flow_in d r) q
      (columns inner d (flow_in d r) (most_columns (row_of d r).n (flow_in d r) q) q h));
}

-- ---- fills

module _ (inner : Inner) (d : FlowsData) (r : ℕ) where
  pub fills-make : (n : ℕ) (q : Token) (h : ℕ) → columns_of_fills inner d r n q h
      ≡ columns inner d (flow_in d r) (n * (row_of d r).n) q h
  unfolding columns_by
  fills-make zero q h = let none : 0 ≡ 0 * (row_of d r).n = sym (zero-mul (row_of d r).n) in
      ap (λ k. columns inner d (flow_in d r) k q h) none
  fills-make (suc n) q h =
      let first = columns inner d (flow_in d r) (row_of d r).n q h in
      let count : (row_of d r).n + n * (row_of d r).n ≡ suc n * (row_of d r).n = add_comm (row_of d r).n (n * (row_of d r).n)
      ∙ sym (suc-mul n (row_of d r).n) in
      ap (λ cs. first ++ cs) (fills-make n (end_of q first) h)
      ∙ sym (joined (λ t. column inner d (flow_in d r) t h) (flow_in d r) (row_of d r).n (n * (row_of d r).n) q)
      ∙ ap (λ k. columns inner d (flow_in d r) k q h) count

  pub fragments-of : (piece : Token → PlainTree) (n : ℕ) (q : Token) (h : ℕ) →
      fragments_of_fills piece inner d r n q h ≡ fragments_from piece q (columns_of_fills inner d r n q h)
  fragments-of piece zero q h = refl
  fragments-of piece (suc n) q h =
      let first = columns inner d (flow_in d r) (row_of d r).n q h in
      ap (λ ps. fragments_from piece q first ++ ps) (fragments-of piece n (end_of q first) h)
      ∙ sym (fragments-append piece q first (columns_of_fills inner d r n (end_of q first) h))

pub fills-follow : (inner : Inner) (d : FlowsData) (r : ℕ) → FillsFollow inner d r
fills-follow inner d r = record {
  fills_make = fills-make inner d r;
  fragments_make = λ piece n q h. fragments-of inner d r piece n q h ∙ ap (fragments_from piece q) (fills-make inner d r n q h);
}
