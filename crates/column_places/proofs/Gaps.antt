-- A column being placed: what waits in its gap, and what ends that.
use Rattle.std.proofs.Common.{◌≡◌, ℕ, zero, suc, ◌+◌, ◌<◌, ◌≤◌, max, Bool, true, false, cond, not, List, [], ◌∷◌, ◌++◌, length}
use Rattle.std.proofs.Common.{map, get_or, take, drop, refl, sym, subst, ◌∙◌, ap, arith, add-one, add-zero, append_assoc}
use Rattle.std.proofs.lemmas.List.{append-nil, drop_more, take_more, map-append}
use Rattle.std.specs.Prelude.{◌==◌, ◌||◌}
use Rattle.std.proofs.lemmas.Bool.Decides.{nat_tests}
use Rattle.flow_data.specs.declared.data.Edge.TheVariants as E
use Rattle.flow_list.specs.Strip.{Strip, strip_at, put, lay, begins}
use Rattle.flow_list.specs.Placing.{Laid, margin, solid, wall, opens, closes, atom, ends_gap, gap_of, behind_gap}
use Rattle.flow_list.specs.Placing.{greatest_margin, laid_edge, Placed as AnyPlaced, atom_at, row_at, RowLaid, placed_in_gap}
use Rattle.flow_list.specs.Placing.{gap_places, placed_item, laid_height, gap_height, places_from, row}
use Rattle.column_places.specs.declared.placing.Placing.{Placing}
use Rattle.column_places.specs.declared.placing.Waiting.{Waiting}
use Rattle.column_places.specs.declared.placing.Waiting.TheVariants.{Margin, Opens, Closes, Atom, Row}
use Rattle.frag_maker.specs.Building.{laid_row}
use Rattle.frag_maker.specs.declared.placed.MadeRow.{MadeRow}
use Rattle.column_places.specs.declared.placing.FlatRow.{FlatRow}
use Rattle.column_places.specs.Placing.{laid_as, standing, waiting, with_more, strip_of, HasMargin, Leads, margin_of}
use Rattle.column_places.specs.Placing.{row_of_flat, row_put, row_waiting, rows_waiting}

-- one more of a gap
module _ (i : ℕ) (gap : List Waiting) (w : Waiting) (lt : i < length gap) (at : w ≡ get_or gap i w) where
  pub gap-more : (y end : ℕ) → gap_places y end (map laid_as (take i gap)) (map laid_as (drop i gap))
      ≡ placed_in_gap y end (map laid_as (take i gap)) (laid_as w)
      ++ gap_places y end (map laid_as (take (i + 1) gap)) (map laid_as (drop (i + 1) gap))
  gap-more y end =
      subst (λ (v : Waiting). gap_places y end (map laid_as (take i gap)) (map laid_as (drop i gap))
      ≡ placed_in_gap y end (map laid_as (take i gap)) (laid_as v)
      ++ gap_places y end (map laid_as (take (i + 1) gap)) (map laid_as (drop (i + 1) gap))) (sym at)
      (rw (drop_more gap i w lt, take_more gap i w lt, map-append laid_as (take i gap) (get_or gap i w ∷ [])) refl)

  pub taken-more : map laid_as (take (i + 1) gap) ≡ map laid_as (take i gap) ++ laid_as w ∷ []
  taken-more = ap (map laid_as) (take_more gap i w lt) ∙ map-append laid_as (take i gap) (get_or gap i w ∷ [])
      ∙ ap (λ v. map laid_as (take i gap) ++ laid_as v ∷ []) (sym at)

  pub rows-more : rows_waiting (drop i gap) ≡ row_waiting w ++ rows_waiting (drop (i + 1) gap)
  rows-more = ap rows_waiting (drop_more gap i w lt) ∙ ap (λ v. row_waiting v ++ rows_waiting (drop (i + 1) gap)) (sym at)

-- ---- what stands after a gap doesn't depend on the count of gaps

behind-short : (xs : List Laid) → length (behind_gap xs) ≤ length xs
behind-short [] = omega arith
behind-short (x ∷ xs) = go (ends_gap x) (behind-short xs)
  where
    go : (b : Bool) → length (behind_gap xs) ≤ length xs → length (cond b (x ∷ xs) (behind_gap xs)) ≤ length (x ∷ xs)
    go true h = omega arith
    go false h = omega arith

-- what is placed of a gap and of what follows it, given how that is placed from a place on
abbrev shape : (ℕ → List Laid → List AnyPlaced) → ℕ → (gap rest : List Laid) → List AnyPlaced
shape later y gap rest =
    let end = y + gap_height gap rest in
    gap_places y end [] gap ++ elim rest [ [] ↦ [] | x ∷ xs ↦ placed_item end x ++ later (end + laid_height x) xs ]

places-shape : (n y : ℕ) (xs : List Laid) → places_from (suc n) y xs ≡ shape (places_from n) y (gap_of xs) (behind_gap xs)
unfolding places_from
places-shape n y xs = refl

same-shape : (p q : ℕ → List Laid → List AnyPlaced) (y : ℕ) (gap rest : List Laid) →
    ((z : ℕ) (xs : List Laid) → length xs < length rest → p z xs ≡ q z xs) → shape p y gap rest ≡ shape q y gap rest
same-shape p q y gap [] same = refl
same-shape p q y gap (x ∷ xs) same = let end : ℕ = y + gap_height gap (x ∷ xs) in
    ap (λ ps. gap_places y end [] gap ++ (placed_item end x ++ ps)) (same (end + laid_height x) xs (omega arith))

pub places-fuel : (n m y : ℕ) (xs : List Laid) → length xs < n → length xs < m → places_from n y xs ≡ places_from m y xs
places-fuel zero m y xs a b = absurd (omega arith)
places-fuel (suc n) zero y xs a b = absurd (omega arith)
places-fuel (suc n) (suc m) y xs a b =
    let short = behind-short xs in
    places-shape n y xs ∙ same-shape (places_from n) (places_from m) y (gap_of xs) (behind_gap xs)
    (λ z ys lt. places-fuel n m z ys (omega arith) (omega arith)) ∙ sym (places-shape m y xs)

-- ---- what waits in a gap is part of it

gap-waits : (ws : List Waiting) (xs : List Laid) → gap_of (map laid_as ws ++ xs) ≡ map laid_as ws ++ gap_of xs
gap-waits [] xs = refl
gap-waits (Margin m ∷ ws) xs = ap (λ ys. margin m ∷ ys) (gap-waits ws xs)
gap-waits (Opens b ∷ ws) xs = ap (λ ys. opens b ∷ ys) (gap-waits ws xs)
gap-waits (Closes b ∷ ws) xs = ap (λ ys. closes b ∷ ys) (gap-waits ws xs)
gap-waits (Atom k ∷ ws) xs = ap (λ ys. atom k 0 ∷ ys) (gap-waits ws xs)
gap-waits (Row r ∷ ws) xs = ap (λ ys. row (laid_row (row_of_flat r)) ∷ ys) (gap-waits ws xs)

behind-waits : (ws : List Waiting) (xs : List Laid) → behind_gap (map laid_as ws ++ xs) ≡ behind_gap xs
behind-waits [] xs = refl
behind-waits (Margin m ∷ ws) xs = behind-waits ws xs
behind-waits (Opens b ∷ ws) xs = behind-waits ws xs
behind-waits (Closes b ∷ ws) xs = behind-waits ws xs
behind-waits (Atom k ∷ ws) xs = behind-waits ws xs
behind-waits (Row r ∷ ws) xs = behind-waits ws xs

-- ---- the end of a gap

places-end : (n y : ℕ) (ws : List Waiting) (x : Laid) (xs : List Laid) → ends_gap x ≡ true →
    places_from (suc n) y (map laid_as ws ++ x ∷ xs) ≡ gap_places y (y + greatest_margin (map laid_as ws)) [] (map laid_as ws)
    ++ (placed_item (y + greatest_margin (map laid_as ws)) x ++ places_from n (y + greatest_margin (map laid_as ws)
    + laid_height x) xs)
places-end n y ws x xs ends =
    let behind : behind_gap (map laid_as ws ++ x ∷ xs) ≡ x ∷ xs = behind-waits ws (x ∷ xs) ∙ rw ends refl in
    let gap : gap_of (map laid_as ws ++ x ∷ xs) ≡ map laid_as ws = gap-waits ws (x ∷ xs)
    ∙ rw ends (append-nil (map laid_as ws)) in
    places-shape n y (map laid_as ws ++ x ∷ xs) ∙ ap (λ g. shape (places_from n) y g (behind_gap (map laid_as ws ++ x ∷ xs)))
    gap ∙ ap (λ r. shape (places_from n) y (map laid_as ws) r) behind

places-last : (n y : ℕ) (ws : List Waiting) → places_from (suc n) y (map laid_as ws ++ []) ≡ gap_places y y [] (map laid_as ws)
places-last n y ws =
    let behind : behind_gap (map laid_as ws ++ []) ≡ [] = behind-waits ws [] in
    let gap : gap_of (map laid_as ws ++ []) ≡ map laid_as ws = gap-waits ws [] ∙ append-nil (map laid_as ws) in
    places-shape n y (map laid_as ws ++ []) ∙ ap (λ g. shape (places_from n) y g (behind_gap (map laid_as ws ++ []))) gap
    ∙ ap (λ r. shape (places_from n) y (map laid_as ws) r) behind
    ∙ append-nil _ ∙ ap (λ e. gap_places y e [] (map laid_as ws)) (add-zero y)

length-end : (ws : List Laid) (x : Laid) (xs : List Laid) → length xs < length (ws ++ x ∷ xs)
length-end [] x xs = omega arith
length-end (w ∷ ws) x xs = let h = length-end ws x xs in omega arith

-- something that ends the gap
pub ends-more : (old new : Placing) (x : Laid) → ends_gap x ≡ true → HasMargin old →
    standing new ≡ (standing old ++ gap_places old.y (old.y + old.margin) [] (waiting old)) ++ placed_item (old.y + old.margin)
    x → waiting new ≡ [] → new.y ≡ old.y + old.margin + laid_height x →
    (more : List Laid) → with_more old (x ∷ more) ≡ with_more new more
ends-more old new x ends margins stands none down more =
    let n : ℕ = length (waiting old ++ x ∷ more) in
    let one : places_from (n + 1) old.y (waiting old ++ x ∷ more) ≡ places_from (suc n) old.y (waiting old ++ x ∷ more) =
    ap (λ k. places_from k old.y (waiting old ++ x ∷ more)) (add-one n) in
    let two = places-end n old.y old.gap.items x more ends in
    let three = places-fuel n (length more + 1) (old.y + greatest_margin (waiting old) + laid_height x) more
    (length-end (waiting old) x more) (omega arith) in
    let end : ℕ = old.y + greatest_margin (waiting old) in
    ap (λ ps. standing old ++ ps) (one ∙ two)
    ∙ ap (λ ps. standing old ++ (gap_places old.y end [] (waiting old) ++ (placed_item end x ++ ps))) three
    ∙ rw (stands, none, down, margins) (simp append_assoc)

-- something that waits
pub waits-more : (old new : Placing) (w : Waiting) → standing new ≡ standing old → waiting new
    ≡ waiting old ++ laid_as w ∷ [] → new.y ≡ old.y → (more : List Laid) → with_more old (laid_as w ∷ more) ≡ with_more new more
waits-more old new w stands more_waits same more = rw (stands, more_waits, same, append_assoc) refl

-- what is placed where nothing follows
pub places-all : (p : Placing) → with_more p [] ≡ standing p ++ gap_places p.y p.y [] (waiting p)
places-all p = ap (λ ps. standing p ++ ps) (ap (λ k. places_from k p.y (waiting p ++ [])) (add-one (length (waiting p ++ [])))
    ∙ places-last (length (waiting p ++ [])) p.y p.gap.items)

pub greatest-more : (ws : List Waiting) (w : Waiting) → greatest_margin (map laid_as ws ++ laid_as w ∷ [])
    ≡ max (greatest_margin (map laid_as ws)) (margin_of w)
greatest-more (Margin m ∷ ws) w = let h = greatest-more ws w in omega arith
greatest-more (Opens b ∷ ws) w = greatest-more ws w
greatest-more (Closes b ∷ ws) w = greatest-more ws w
greatest-more (Atom k ∷ ws) w = greatest-more ws w
greatest-more (Row r ∷ ws) w = greatest-more ws w
greatest-more [] (Margin m) = omega arith
greatest-more [] (Opens b) = omega arith
greatest-more [] (Closes b) = omega arith
greatest-more [] (Atom k) = omega arith
greatest-more [] (Row r) = omega arith

-- the first of these have no greater margin than all of them
pub greatest-part : (i : ℕ) (ws : List Waiting) → greatest_margin (map laid_as (take i ws)) ≤ greatest_margin (map laid_as ws)
greatest-part zero ws = omega arith
greatest-part (suc i) [] = omega arith
greatest-part (suc i) (Margin m ∷ ws) = let h = greatest-part i ws in omega arith
greatest-part (suc i) (Opens b ∷ ws) = greatest-part i ws
greatest-part (suc i) (Closes b ∷ ws) = greatest-part i ws
greatest-part (suc i) (Atom k ∷ ws) = greatest-part i ws
greatest-part (suc i) (Row r ∷ ws) = greatest-part i ws

-- ---- what leads on

leads-wait : (old new : Placing) (w : Waiting) (s : Strip) → HasMargin old → standing new ≡ standing old → waiting new
    ≡ waiting old ++ laid_as w ∷ [] → new.y ≡ old.y → new.margin ≡ max old.margin (margin_of w) → strip_of new ≡ s →
    Leads old (laid_as w ∷ []) s new
leads-wait old new w s has stands waits y margins is = record {
  strip = is;
  margin = margins ∙ ap (λ m. max m (margin_of w)) has ∙ sym (greatest-more old.gap.items w) ∙ ap greatest_margin (sym waits);
  places = waits-more old new w stands waits y;
}

leads-end : (old new : Placing) (x : Laid) (s : Strip) → ends_gap x ≡ true → HasMargin old → standing new
    ≡ (standing old ++ gap_places old.y (old.y + old.margin) [] (waiting old)) ++ placed_item (old.y + old.margin) x →
    waiting new ≡ [] →
    new.y ≡ old.y + old.margin + laid_height x → new.margin ≡ 0 → strip_of new ≡ s → Leads old (x ∷ []) s new
leads-end old new x s ends has stands none y margins is = record {
  strip = is;
  margin = margins ∙ ap greatest_margin (sym none);
  places = ends-more old new x ends has stands none y;
}

abbrev strip : ℕ → ℕ → Bool → Strip
strip y pending drops = record { y = y; pending = pending; drops = drops }

pub leads-same : (old new : Placing) (xs ys : List Laid) (s t : Strip) → xs ≡ ys → s ≡ t → Leads old ys t new → Leads old xs s new
leads-same old new xs ys s t e h l = rw (e, h) l

pub leads-margin : (old new : Placing) (m : ℕ) → HasMargin old → old.drops ≡ false → standing new ≡ standing old → waiting new
    ≡ waiting old ++ margin m ∷ [] → new.y ≡ old.y → new.margin ≡ max old.margin m → new.drops ≡ old.drops →
    Leads old (laid_edge (strip_of old) (E.Margin m)) (lay (strip_of old) (E.Margin m)) new
leads-margin old new m has keeps stands waits y margins drops =
    leads-same old new _ _ _ _ (ap (λ b. cond b [] (margin m ∷ [])) keeps)
    (ap (λ b. strip old.y (cond b old.margin (max old.margin m)) b) keeps)
    (leads-wait old new (Margin m) (strip old.y (max old.margin m) false) has stands waits y margins
    (rw (y, margins, drops) (ap (λ b. strip old.y (max old.margin m) b) keeps)))

pub leads-opens : (old new : Placing) (b : ℕ) → HasMargin old → standing new ≡ standing old → waiting new
    ≡ waiting old ++ opens b ∷ [] → new.y ≡ old.y → new.margin ≡ old.margin → new.drops ≡ old.drops →
    Leads old (opens b ∷ []) (strip_of old) new
leads-opens old new b has stands waits y margins drops = leads-wait old new (Opens b) (strip_of old) has stands waits y
    (omega arith) (rw (y, margins, drops) refl)

pub leads-closes : (old new : Placing) (b : ℕ) → HasMargin old → standing new ≡ standing old → waiting new
    ≡ waiting old ++ closes b ∷ [] → new.y ≡ old.y → new.margin ≡ old.margin → new.drops ≡ old.drops →
    Leads old (closes b ∷ []) (strip_of old) new
leads-closes old new b has stands waits y margins drops = leads-wait old new (Closes b) (strip_of old) has stands waits y
    (omega arith) (rw (y, margins, drops) refl)

some-height : (height : ℕ) → (height ≡ 0 → ⊥) → (height == 0) ≡ false
some-height height some = grind (arith, nat_tests)

-- an atom of height 0 waits too
pub leads-flat : (old new : Placing) (k height : ℕ) → HasMargin old → height ≡ 0 → standing new ≡ standing old → waiting new
    ≡ waiting old ++ atom k 0 ∷ [] → new.y ≡ old.y → new.margin ≡ old.margin → new.drops ≡ old.drops →
    Leads old (atom k height ∷ []) (put (strip_of old) height) new
leads-flat old new k height has flat stands waits y margins drops =
    rw flat (leads-wait old new (Atom k) (strip_of old) has stands waits y (omega arith) (rw (y, margins, drops) refl))

-- and so does a row
pub leads-flat-row : (old new : Placing) (r : FlatRow) (stands : MadeRow) → HasMargin old → stands ≡ row_of_flat r →
    standing new ≡ standing old → waiting new ≡ waiting old ++ row (laid_row (row_of_flat r)) ∷ [] → new.y ≡ old.y → new.margin
    ≡ old.margin → new.drops ≡ old.drops →
    Leads old (row (laid_row stands) ∷ []) (row_put (strip_of old) (laid_row stands)) new
leads-flat-row old new r stands has is same waits y margins drops =
    rw is (leads-wait old new (Row r) (strip_of old) has same waits y (omega arith) (rw (y, margins, drops) refl))

-- a row that ends a gap stands after the pending margin
row-puts : (s : Strip) (r : RowLaid) → ends_gap (row r) ≡ true → row_put s r ≡ strip (s.y + s.pending + r.height) 0 false
row-puts s r ends = go r.filled (r.height == 0) ends
  where
    go : (filled flat : Bool) → (filled || not flat) ≡ true →
        cond filled (strip_at (begins s + r.height) false) (record {
          y = cond flat s.y (s.y + s.pending + r.height);
          pending =
              cond flat s.pending 0;
          drops = cond flat s.drops false;
        })
        ≡ strip (s.y + s.pending + r.height) 0 false
    go true flat e = refl
    go false true e = cc
    go false false e = refl

pub leads-row : (old new : Placing) (r : MadeRow) → HasMargin old → ends_gap (row (laid_row r)) ≡ true → standing new
    ≡ (standing old ++ gap_places old.y (old.y + old.margin) [] (waiting old)) ++ row_at (laid_row r) (old.y + old.margin)
    ∷ [] → waiting new ≡ [] →
    new.y ≡ old.y + old.margin + r.height → new.margin ≡ 0 → new.drops ≡ false →
    Leads old (row (laid_row r) ∷ []) (row_put (strip_of old) (laid_row r)) new
leads-row old new r has ends stands none y margins drops =
    leads-same old new _ _ _ _ refl (row-puts (strip_of old) (laid_row r) ends)
    (leads-end old new (row (laid_row r)) (strip (old.y + old.margin + r.height) 0 false) ends has stands none y margins
    (rw (y, margins, drops) refl))

pub leads-solid : (old new : Placing) (a : ℕ) → HasMargin old → (a ≡ 0 → ⊥) → standing new
    ≡ standing old ++ gap_places old.y (old.y + old.margin) [] (waiting old) → waiting new ≡ [] → new.y
    ≡ old.y + old.margin + a → new.margin ≡ 0 → new.drops ≡ false →
    Leads old (laid_edge (strip_of old) (E.Solid a)) (lay (strip_of old) (E.Solid a)) new
leads-solid old new a has some stands none y margins drops =
    let e = some-height a some in
    rw e (leads-end old new (solid a) (record { y = old.y + old.margin + a; pending = 0; drops = false }) refl has (stands
    ∙ sym (append-nil _)) none y margins (rw (y, margins, drops) refl))

pub leads-wall : (old new : Placing) → HasMargin old → standing new ≡ standing old ++ gap_places old.y (old.y + old.margin) []
    (waiting old) → waiting new ≡ [] → new.y ≡ old.y + old.margin + 0 → new.margin ≡ 0 → new.drops ≡ false →
    Leads old (wall ∷ []) (record { y = old.y + old.margin; pending = 0; drops = false }) new
leads-wall old new has stands none y margins drops =
    let y' : new.y ≡ old.y + old.margin = omega arith in
    leads-end old new wall (record { y = old.y + old.margin; pending = 0; drops = false }) refl has (stands
    ∙ sym (append-nil _)) none y margins (rw (y', margins, drops) refl)

pub leads-atom : (old new : Placing) (k height : ℕ) → HasMargin old → (height ≡ 0 → ⊥) → standing new
    ≡ (standing old ++ gap_places old.y (old.y + old.margin) [] (waiting old)) ++ atom_at k (old.y + old.margin) ∷ [] →
    waiting new ≡ [] →
    new.y ≡ old.y + old.margin + height → new.margin ≡ 0 → new.drops ≡ false →
    Leads old (atom k height ∷ []) (put (strip_of old) height) new
leads-atom old new k height has some stands none y margins drops =
    let e = some-height height some in
    rw e (leads-end old new (atom k height) (record { y = old.y + old.margin + height; pending = 0; drops = false }) (ap not e)
    has stands none y margins (rw (y, margins, drops) refl))

-- one after another
pub leads-both : (a b c : Placing) (xs ys : List Laid) (s t : Strip) → Leads a xs s b → Leads b ys t c → Leads a (xs ++ ys) t c
leads-both a b c xs ys s t l m = record {
  strip = m.strip;
  margin = m.margin;
  places = λ more. ap (with_more a) (append_assoc xs ys more) ∙ l.places (ys ++ more) ∙ m.places more;
}
