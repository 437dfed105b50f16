-- The rows in a column that is being placed.
use Rattle.std.proofs.Common.{◌≡◌, List, [], ◌∷◌, ◌++◌, refl, sym, ◌∙◌, ap, false, append_assoc}
use Rattle.std.proofs.lemmas.List.{append-nil}
use Rattle.std.proofs.lemmas.List.Concat.{flat_map-append}
use Rattle.frag_maker.specs.declared.placed.MadeRow.{MadeRow}
use Rattle.frag_maker.specs.declared.placed.Placed.{Placed}
use Rattle.column_places.specs.declared.placing.Placing.{Placing}
use Rattle.column_places.specs.declared.placing.Waiting.{Waiting}
use Rattle.column_places.specs.Placing.{row_of_flat, row_placed, row_waiting, rows_of, rows_placed, rows_waiting}

-- one more that is placed
pub rows_push : (ps qs : List Placed) (x : Placed) → qs ≡ ps ++ x ∷ [] → rows_placed qs ≡ rows_placed ps ++ row_placed x
rows_push ps qs x is =
    ap rows_placed is ∙ flat_map-append row_placed ps (x ∷ []) ∙ ap (λ rs. rows_placed ps ++ rs) (append-nil (row_placed x))

-- one more that waits
pub rows_wait : (old new : Placing) (w : Waiting) → new.placed.items ≡ old.placed.items → new.gap.items
    ≡ old.gap.items ++ w ∷ [] →
    rows_of new ≡ rows_of old ++ row_waiting w
rows_wait old new w same more =
    ap (λ ps. rows_placed ps ++ rows_waiting new.gap.items) same
    ∙ ap (λ ws. rows_placed old.placed.items ++ rows_waiting ws) more
    ∙ ap (λ rs. rows_placed old.placed.items ++ rs)
    (flat_map-append row_waiting old.gap.items (w ∷ []) ∙ ap (λ rs. rows_waiting old.gap.items ++ rs)
    (append-nil (row_waiting w)))
    ∙ sym (append_assoc (rows_placed old.placed.items) (rows_waiting old.gap.items) (row_waiting w))

-- nothing waits
pub rows_none : (p : Placing) (rows : List MadeRow) → p.gap.items ≡ [] → rows_placed p.placed.items ≡ rows → rows_of p ≡ rows
rows_none p rows none placed =
    ap (λ ws. rows_placed p.placed.items ++ rows_waiting ws) none ∙ append-nil (rows_placed p.placed.items) ∙ placed

-- a row of height 0 that isn't filled is itself as it waits
pub flat-is : (r : MadeRow) → r.height ≡ 0 → r.filled ≡ false →
    r ≡ row_of_flat (record { row = r.row; from = r.from; made_at = r.made_at; made = r.made })
flat-is r low whole = rw (← low, ← whole) refl
