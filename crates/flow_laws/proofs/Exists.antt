-- A height that fits exists: at the reach only forced breaks remain.
use Rattle.std.proofs.Common.{ℕ, ◌<◌, ◌≤◌, Bool, List, [], length, None, refl, sym, subst, arith}
use Rattle.flow_list.specs.Column.{endless_column}
use Rattle.flow_list.specs.Data.{Flow, FlowsData}
use Rattle.flow_list.specs.Tokens.{Token, item_number}
use Rattle.flow_list.specs.Column.{Column, Inner, Step, Place, steps_from, column, unstopped, column_to, no_place, rows_among}
use Rattle.flow_list.specs.Rows.{fits, reach, size_in}
use Rattle.flow_laws.specs.LeastHeight.{IsLeast, EndsAtForced, SizesAreLeast}
use Rattle.flow_list.proofs.Fitting.{EndBefore, steps_from-end, reach-endless, fits-past, size-least}
use Rattle.flow_list.proofs.LeastHeight.{IsLeast as Least, least-unique}

-- ---- a column at the reach

unstopped-ends : (f : Flow) (i : ℕ) (ss : List Step) (e : ℕ) → EndBefore f i (length f.items) ss e
    → EndsAtForced f i (unstopped ss)
unstopped-ends f i ss e b =
    let p = b.place no_place in
    let P : Place → Type 0 = λ x. EndsAtForced f i (column_to x None [] [] (rows_among ss)) in
    subst P (sym p.1) (record {
      overflow = refl;
      level = refl;
      end = (e, refl, record { above = b.above; within = b.within; unforced = b.unforced; forced = b.forced });
    })

column-ends : (inner : Inner) (d : FlowsData) (f : Flow) (t : Token) (h : ℕ) → item_number t < length f.items
    → reach inner d f t ≤ h → EndsAtForced f (item_number t) (column inner d f t h)
unfolding endless_column
column-ends inner d f t h lt le =
    let e = steps_from-end inner d f t lt in
    let P : Column → Type 0 = λ c. EndsAtForced f (item_number t) c in
    subst P (sym (reach-endless inner d f t h le)) (unstopped-ends f (item_number t) (steps_from inner d f t) e.0 e.1)

-- ---- sizes

-- the same of the law's own word
least-of : (p : ℕ → Bool) (n : ℕ) → Least p n → IsLeast p n
least-of p n l = record { passes_at = l.itself; none_below = l.below }

of-least : (p : ℕ → Bool) (n : ℕ) → IsLeast p n → Least p n
of-least p n l = record { itself = l.passes_at; below = l.none_below }

pub sizes-least : (inner : Inner) (d : FlowsData) → SizesAreLeast inner d
sizes-least inner d = record {
  size_is_least = λ r q. least-of (fits inner d r q) (size_in inner d r q) (size-least inner d r q);
  size_at_end = λ r q le. least-unique (fits inner d r q) (size_in inner d r q) 0 (size-least inner d r q)
      (record { itself = fits-past inner d r 0 q le; below = λ k lt. absurd (omega arith) });
  size_is_unique = λ r q h is. least-unique (fits inner d r q) h (size_in inner d r q) (of-least (fits inner d r q) h is)
      (size-least inner d r q);
  only_forced_remain = λ f t h lt le. column-ends inner d f t h lt le;
}
