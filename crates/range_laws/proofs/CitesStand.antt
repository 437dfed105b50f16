-- The sizes that the lines of columns cite are among those that the columns use.
use Rattle.std.proofs.Common.{◌≡◌, ℕ, zero, suc, ◌+◌, refl, Bool, true, false, cond, List, [], ◌∷◌, ◌++◌, subst, sym, Option}
use Rattle.std.proofs.Common.{Some, None}
use Rattle.std.specs.Prelude.{nat_lt, nat_le}
use Rattle.std.proofs.lemmas.Bool.{and_parts}
use Rattle.flow_list.specs.Data.{Flow, FlowsData}
use Rattle.flow_data.specs.Flows.{row_of, flow_in}
use Rattle.flow_laws.proofs.RowsAdvance.{by-zero}
use Rattle.flow_list.specs.Certificate.{Use, Owned, owned_in_fill, owned_by, column_owned, columns_owned, owned_to, uses_of}
use Rattle.flow_list.specs.Column.{Column, Inner, Step, cut, steps_from, room, is_cut, fills, fill_in_room, inner_uses}
use Rattle.flow_list.specs.Column.{rows_among, column, column_up_to, avoids_at}
use Rattle.flow_list.specs.Rows.{columns, columns_by, up_to, fill_in, rows_to}
use Rattle.flow_list.specs.Tokens.{Token, is_end}
use Rattle.flow_list.proofs.Fitting.{columns_by-step, columns_by-past}
use Rattle.range_laws.proofs.Standing.{Stand, stand-append, stand-front, stand-back}

-- the sizes of each of these lists stand in a book
abbrev pub EachStand : List Use → List (List Use) → Type 0
EachStand book [] = Unit {0}
EachStand book (us ∷ lists) = Stand book us × EachStand book lists

each-append : (book : List Use) (as_ bs : List (List Use)) → EachStand book as_ → EachStand book bs → EachStand book (as_ ++ bs)
each-append book [] bs a b = b
each-append book (us ∷ as_) bs a b = (a.0, each-append book as_ bs a.1 b)

cut-fills : (before : List Step) (s : Step) (h : ℕ) → is_cut s h ≡ true → fills before s h ≡ true
cut-fills [] s h e = (and_parts (nat_le (s.y + s.bottoms) h) (nat_lt (room s h) s.height) e).1
cut-fills (first ∷ before) s h e = e

module _ (book : List Use) where
  abbrev pub FillsStand : Owned → Inner → Type 0
  FillsStand owned inner = (r : ℕ) (q : Token) (a : ℕ) → Stand book (inner.fill r q a).uses → EachStand book (owned.fill r q a)

  module _ (owned : Owned) (inner : Inner) (law : FillsStand owned inner) where
    inside-stand : (b : Bool) (row : Option Use) (a : ℕ) → Stand book (inner_uses b (fill_in_room inner row a)) →
        EachStand book (cond b (owned_in_fill owned row a) [])
    inside-stand true None a s = tt
    inside-stand false None a s = tt
    inside-stand true (Some row) a s = law row.0 row.1 a s
    inside-stand false (Some row) a s = tt

    up_to-stand : (avoids : ℕ → Bool) (h : ℕ) (before : List Step) (stop : Option Step) →
        Stand book (column_up_to inner avoids h before stop).uses → EachStand book (owned_by owned h before stop)
    up_to-stand avoids h before None s = (s, tt)
    up_to-stand avoids h before (Some x) s = (
      stand-front book (rows_among (before ++ x ∷ [])) _ s,
      go (is_cut x h) refl
          (stand-back book (rows_among (before ++ x ∷ [])) _ s),
    )
      where
        go : (b : Bool) → is_cut x h ≡ b → Stand book (inner_uses (fills before x h) (fill_in_room inner x.row (room x h))) →
            EachStand book (cond b (owned_in_fill owned x.row (room x h)) [])
        go true e s =
            inside-stand true x.row (room x h) (subst (λ b. Stand book (inner_uses b (fill_in_room inner x.row (room x h))))
            (cut-fills before x h e) s)
        go false e s = tt

    pub column-stand : (d : FlowsData) (f : Flow) (t : Token) (h : ℕ) → Stand book (column inner d f t h).uses →
        EachStand book (column_owned owned inner d f t h)
    unfolding column
    column-stand d f t h s = up_to-stand (avoids_at d f) h (cut h (steps_from inner d f t)).before
        (cut h (steps_from inner d f t)).stop s

  -- columns one after another, up to the first that a test stops
  module _ (make : Token → Column) (f : Flow) (stops : Column → Bool) (lists : Token → List (List Use))
      (each : (t : Token) → Stand book (make t).uses → EachStand book (lists t)) where
    pub chain-stand : (n : ℕ) (t : Token) → Stand book (uses_of (up_to stops (columns_by make f n t))) →
        EachStand book (columns_owned lists t (up_to stops (columns_by make f n t)))
    chain-stand zero t s = subst (λ cs. EachStand book (columns_owned lists t (up_to stops cs))) (sym (by-zero make f t)) tt
    chain-stand (suc n) t s = go (is_end f t) refl (chain-stand n (make t).end)
      where
        first : (b : Bool) → (Stand book (uses_of (up_to stops (columns_by make f n (make t).end))) →
            EachStand book (columns_owned lists (make t).end (up_to stops (columns_by make f n (make t).end)))) →
            Stand book ((make t).uses ++ uses_of (cond b [] (up_to stops (columns_by make f n (make t).end)))) →
            EachStand book (lists t ++ columns_owned lists (make t).end
            (cond b [] (up_to stops (columns_by make f n (make t).end))))
        first true later s = each-append book (lists t) [] (each t (stand-front book (make t).uses [] s)) tt
        first false later s = each-append book (lists t) _ (each t (stand-front book (make t).uses _ s))
            (later (stand-back book (make t).uses _ s))

        go : (b : Bool) → is_end f t ≡ b → (Stand book (uses_of (up_to stops (columns_by make f n (make t).end))) →
            EachStand book (columns_owned lists (make t).end (up_to stops (columns_by make f n (make t).end)))) →
            EachStand book (columns_owned lists t (up_to stops (columns_by make f (suc n) t)))
        go true e later = subst (λ cs. EachStand book (columns_owned lists t (up_to stops cs)))
            (sym (columns_by-past make f (suc n) t e)) tt
        go false e later =
            let step = columns_by-step make f n t e in
            subst (λ cs. EachStand book (columns_owned lists t (up_to stops cs))) (sym step)
            (first (stops (make t)) later (subst (λ cs. Stand book (uses_of (up_to stops cs))) step s))

  -- the uses of the first of these columns
  front-stand : (stops : Column → Bool) (cs : List Column) → Stand book (uses_of cs) → Stand book (uses_of (up_to stops cs))
  front-stand stops [] s = tt
  front-stand stops (c ∷ cs) s = stand-append book c.uses _ (stand-front book c.uses (uses_of cs) s)
      (go (stops c) (front-stand stops cs (stand-back book c.uses (uses_of cs) s)))
    where
      go : (b : Bool) → Stand book (uses_of (up_to stops cs)) → Stand book (uses_of (cond b [] (up_to stops cs)))
      go true s = tt
      go false s = s

  pub fills-stand : (d : FlowsData) (depth : ℕ) → FillsStand (owned_to d depth) (rows_to d depth)
  unfolding owned_to rows_to fill_in
  fills-stand d zero r q a s = tt
  fills-stand d (suc depth) r q a s =
      chain-stand (λ t. column (rows_to d depth) d (flow_in d r) t a) (flow_in d r) (λ (c : Column). c.overflow)
      (λ t. column_owned (owned_to d depth) (rows_to d depth) d (flow_in d r) t a)
      (λ t. column-stand (owned_to d depth) (rows_to d depth) (fills-stand d depth) d (flow_in d r) t a) (row_of d r).n q
      (front-stand (λ (c : Column). c.overflow) (columns (rows_to d depth) d (flow_in d r) (row_of d r).n q a) s)
