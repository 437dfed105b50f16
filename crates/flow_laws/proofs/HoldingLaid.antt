-- What is laid in a column, from its place to its end: its items in order, and a row that is filled with them.
use Rattle.std.proofs.Common.{◌≡◌, ℕ, zero, suc, ◌+◌, ◌-◌, ◌<◌, ◌≤◌, ◌==◌, Bool, true, false, cond, not, ◌&&◌, List, [], ◌∷◌}
use Rattle.std.proofs.Common.{◌++◌, length, take, drop, Option, Some, refl, sym, subst, ◌∙◌, ap, arith}
use Rattle.std.specs.Prelude.{nat_lt, is_some}
use Rattle.std.proofs.lemmas.Bool.Decides.{nat_tests}
use Rattle.std.proofs.lemmas.List.{append-nil, drop_more}
use Rattle.std.proofs.lemmas.List.Concat.{flat_map-append}
use Rattle.std.specs.List.{flat_map}
use Rattle.flow_list.specs.Data.{Edge, Flow, FlowsData, Item, Atom, Row}
use Rattle.flow_data.specs.Flows.{item_of, seam_of, no_item}
use Rattle.flow_list.specs.Tokens.{Token, row_start, item_number, within}
use Rattle.flow_list.specs.Strip.{Strip, put, lay_all}
use Rattle.flow_list.specs.Column.{Inner, Step, height_of, strip_behind, start_strip, room}
use Rattle.flow_list.specs.Placing.{RowLaid, Laid, laid_edges}
use Rattle.flow_list.specs.Fragments.{laid_item, laid_items, laid_start, laid_before, laid_filled, filled_row, strip_after}
use Rattle.flow_list.specs.Fragments.{strip_filled, fills_item, laid_to}
use Rattle.flow_laws.proofs.HoldingTrees.{of_laid, edges-none, skip-edges}
use Rattle.flow_laws.proofs.HoldingEnds.{EndsAtSeam, EndsInRow}

module _ (X : Type 0) (of_atom : ℕ → List X) (of_row : RowLaid → List X) (x : Inner) where
  -- what an item counts that stands whole, taken from a place
  abbrev pub of_item : ℕ → Token → Item → List X
  of_item k q (Atom height kind) = of_atom k
  of_item k q (Row r) = of_row (record { row = r; from = q; height = x.size r q; made_at = Some (x.size r q); filled = false })

  -- and these items, of which the first is item k
  abbrev pub of_items : ℕ → Token → List Item → List X
  of_items k q [] = []
  of_items k q (item ∷ items) = of_item k q item ++ of_items (suc k) row_start items

  -- what is laid counts
  abbrev pub counted : List Laid → List X
  counted xs = flat_map (of_laid X of_atom of_row) xs

  edges-last : (xs : List Laid) (s : Strip) (es : List Edge) → counted (xs ++ laid_edges s es) ≡ counted xs
  edges-last xs s es = flat_map-append (of_laid X of_atom of_row) xs (laid_edges s es)
      ∙ ap (λ us. counted xs ++ us) (edges-none X of_atom of_row s es) ∙ append-nil (counted xs)

  item-laid : (k : ℕ) (q : Token) (item : Item) → of_laid X of_atom of_row (laid_item x item k q) ≡ of_item k q item
  item-laid k q (Atom height kind) = refl
  item-laid k q (Row r) = refl

  module _ (f : Flow) where
    one-laid : (k : ℕ) (q : Token) (later : List Laid) (n : ℕ) → k < length f.items
        → counted later ≡ of_items (k + 1) row_start (take n (drop (k + 1) f.items)) →
        counted (laid_item x (item_of f k) k q ∷ later) ≡ of_items k q (take (suc n) (drop k f.items))
    one-laid k q later n lt rest =
        let P : ℕ → Type 0 = λ m. counted later ≡ of_items m row_start (take n (drop (k + 1) f.items)) in
        let e : k + 1 ≡ suc k = omega arith in
        let Q : List Item → Type 0 = λ items. counted (laid_item x (item_of f k) k q ∷ later)
        ≡ of_items k q (take (suc n) items) in
        subst Q (sym (drop_more f.items k no_item lt))
        (ap (λ us. us ++ counted later) (item-laid k q (item_of f k))
        ∙ ap (λ us. of_item k q (item_of f k) ++ us) (subst P e rest))

    items-laid : (s : Strip) (k : ℕ) (q : Token) (n : ℕ) → k + n ≤ length f.items
        → counted (laid_items x f s k q n) ≡ of_items k q (take n (drop k f.items))
    unfolding laid_items
    items-laid s k q zero le = refl
    items-laid s k q (suc zero) le =
        one-laid k q (laid_edges (put s (height_of x (item_of f k) q)) (seam_of f (k + 1)).tail ++ []) zero (omega arith)
        (skip-edges X of_atom of_row (put s (height_of x (item_of f k) q)) (seam_of f (k + 1)).tail [])
    items-laid s k q (suc (suc n)) le =
        let next = lay_all (strip_behind x f s k q) (seam_of f (k + 1)).head in
        one-laid k q (laid_edges (put s (height_of x (item_of f k) q)) (seam_of f (k + 1)).tail
        ++ (laid_edges (strip_behind x f s k q) (seam_of f (k + 1)).head ++ laid_items x f next (k + 1) row_start
        (suc n))) (suc n) (omega arith)
        (skip-edges X of_atom of_row (put s (height_of x (item_of f k) q)) (seam_of f (k + 1)).tail _
        ∙ skip-edges X of_atom of_row (strip_behind x f s k q) (seam_of f (k + 1)).head _
        ∙ items-laid next (k + 1) row_start (suc n) (omega arith))

    before-laid : (s : Strip) (k : ℕ) (q : Token) (n : ℕ) → k + n ≤ length f.items
        → counted (laid_before x f s k q n) ≡ of_items k q (take n (drop k f.items))
    before-laid s k q zero le = refl
    before-laid s k q (suc n) le = edges-last (laid_items x f s k q (suc n)) (strip_after x f s k q (suc n))
        (seam_of f (k + suc n)).head ∙ items-laid s k q (suc n) le

    start-laid : (d : FlowsData) (t : Token) (later : List Laid) → counted (laid_start d f t ++ later) ≡ counted later
    start-laid d [] later = refl
    start-laid d (i ∷ []) later = skip-edges X of_atom of_row _ (seam_of f i).head later
    start-laid d (i ∷ (j ∷ rest)) later = refl

    -- the items of the column that begins at t, up to item k
    abbrev pub items_to : Token → ℕ → List X
    items_to t k = of_items (item_number t) (within t) (take (k - item_number t) (drop (item_number t) f.items))

    pub seam-laid : (d : FlowsData) (t : Token) (h : Option ℕ) (stop : Option Step) (end : Token)
        → (e : EndsAtSeam x f t h stop end) →
        counted (laid_start d f t ++ laid_to x d f t h stop end) ≡ items_to t e.seam
    seam-laid d t h stop end e =
        let P : Token → Type 0 = λ end. counted (laid_to x d f t h stop end) ≡ items_to t e.seam in
        start-laid d t (laid_to x d f t h stop end) ∙ subst P (sym e.is) (go (fills_item h stop (e.seam - 1)) e.unfilled)
      where
        go : (b : Bool) → b ≡ false →
            counted (cond (b && not (e.seam == 0))
            (laid_before x f (start_strip d f t) (item_number t) (within t) (e.seam - 1 - item_number t) ++ laid_filled h stop
            ++ laid_edges (strip_filled h stop) (seam_of f e.seam).tail)
            (laid_items x f (start_strip d f t) (item_number t) (within t) (e.seam - item_number t))) ≡ items_to t e.seam
        go true un = cc
        go false un = let known = e.known in let later = e.later
            in items-laid (start_strip d f t) (item_number t) (within t) (e.seam - item_number t) (omega arith)

    -- the items before a row that is filled, and that row
    abbrev pub filled_at : (h : ℕ) (s : Step) (row : ℕ) (from : Token) → RowLaid
    filled_at h s row from = record { row = row; from = from; height = room s h; made_at = Some (room s h); filled = true }

    row-laid-at : (d : FlowsData) (t : Token) (h : ℕ) (s : Step) (end : Token) → (e : EndsInRow x f t h s end) →
        counted (laid_before x f (start_strip d f t) (item_number t) (within t) (s.item - item_number t) ++ laid_filled (Some h)
        (Some s)) ≡ items_to t s.item ++ of_row (filled_at h s e.row e.from)
    row-laid-at d t h s end e =
        let later = e.later in
        let known = e.known in
        flat_map-append (of_laid X of_atom of_row)
        (laid_before x f (start_strip d f t) (item_number t) (within t) (s.item - item_number t))
        (filled_row s.row (room s h))
        ∙ ap (λ us. us ++ counted (filled_row s.row (room s h)))
        (before-laid (start_strip d f t) (item_number t) (within t) (s.item - item_number t) (omega arith))
        ∙ ap (λ us. items_to t s.item ++ us) (ap (λ row. counted (filled_row row (room s h))) e.step_row
        ∙ append-nil (of_row (filled_at h s e.row e.from)))

    pub row-laid : (d : FlowsData) (t : Token) (h : ℕ) (s : Step) (end : Token) → (e : EndsInRow x f t h s end) →
        ((x.fill e.row e.from (room s h)).at_end ≡ false
        → (j : ℕ) × (rest : Token) × ((x.fill e.row e.from (room s h)).end ≡ j ∷ rest)) →
        counted (laid_start d f t ++ laid_to x d f t (Some h) (Some s) end)
        ≡ items_to t s.item ++ of_row (filled_at h s e.row e.from)
    row-laid d t h s end e within_row =
        let P : Token → Type 0 = λ end. counted (laid_to x d f t (Some h) (Some s) end)
        ≡ items_to t s.item ++ of_row (filled_at h s e.row e.from) in
        start-laid d t (laid_to x d f t (Some h) (Some s) end)
        ∙ subst P (sym e.is) (go (x.fill e.row e.from (room s h)).at_end refl)
      where
        here : counted (laid_before x f (start_strip d f t) (item_number t) (within t) (s.item - item_number t) ++ laid_filled
            (Some h) (Some s)) ≡ items_to t s.item ++ of_row (filled_at h s e.row e.from)
        here = row-laid-at d t h s end e

        fills : fills_item (Some h) (Some s) s.item ≡ true
        fills =
            let same : (s.item == s.item) ≡ true = grind (arith, nat_tests) in
            let some : is_some s.row ≡ true = ap is_some e.step_row in
            let low : nat_lt (room s h) s.height ≡ true = let l = e.low in grind (arith, nat_tests) in
            ap (λ a. a && is_some s.row && nat_lt (room s h) s.height) same ∙ ap (λ b. b && nat_lt (room s h) s.height) some ∙ low

        other : List Laid
        other = laid_items x f (start_strip d f t) (item_number t) (within t) (s.item + 1 - item_number t)

        behind : (m : ℕ) → m ≡ s.item → (b z : Bool) → b ≡ true → z ≡ false →
            counted (cond (b && not z) (laid_before x f (start_strip d f t) (item_number t) (within t) (m - item_number t)
            ++ laid_filled (Some h) (Some s) ++ laid_edges (strip_filled (Some h) (Some s))
            (seam_of f (s.item + 1)).tail) other) ≡ items_to t s.item ++ of_row (filled_at h s e.row e.from)
        behind m is true true full past = cc
        behind m is false z full past = cc
        behind m is true false full past =
            edges-last (laid_before x f (start_strip d f t) (item_number t) (within t) (m - item_number t) ++ laid_filled (Some h)
            (Some s)) (strip_filled (Some h) (Some s)) (seam_of f (s.item + 1)).tail
            ∙ ap (λ n. counted (laid_before x f (start_strip d f t) (item_number t) (within t) (n - item_number t) ++ laid_filled
            (Some h) (Some s))) is ∙ here

        in-row : (u : Token) → ((j : ℕ) × (rest : Token) × (u ≡ j ∷ rest))
            → counted (laid_to x d f t (Some h) (Some s) (s.item ∷ u)) ≡ items_to t s.item ++ of_row (filled_at h s e.row e.from)
        in-row [] some = cc (some.2)
        in-row (j ∷ rest) some = here

        go : (b : Bool) → (x.fill e.row e.from (room s h)).at_end ≡ b
            → counted (laid_to x d f t (Some h) (Some s)
            (cond b ((s.item + 1) ∷ []) (s.item ∷ (x.fill e.row e.from (room s h)).end)))
            ≡ items_to t s.item ++ of_row (filled_at h s e.row e.from)
        go true is =
            let m : s.item + 1 - 1 ≡ s.item = omega arith in
            let z : (s.item + 1 == 0) ≡ false = grind (arith, nat_tests) in
            behind (s.item + 1 - 1) m (fills_item (Some h) (Some s) (s.item + 1 - 1)) (s.item + 1 == 0)
            (ap (fills_item (Some h) (Some s)) m ∙ fills) z
        go false is = in-row (x.fill e.row e.from (room s h)).end (within_row is)
