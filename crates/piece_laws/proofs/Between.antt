-- What is laid in a column crosses the starts and ends of boxes between its place and its end, in order.
use Rattle.std.proofs.Common.{◌≡◌, ℕ, zero, suc, ◌+◌, ◌-◌, ◌<◌, ◌≤◌, ◌==◌, Bool, true, false, cond, not, ◌||◌, ◌&&◌, List, []}
use Rattle.std.proofs.Common.{◌∷◌, ◌++◌, length, Option, Some, None, refl, sym, subst, ◌∙◌, ap, arith, append_assoc}
use Rattle.std.specs.Prelude.{nat_lt, is_some}
use Rattle.std.specs.List.{flat_map}
use Rattle.std.proofs.lemmas.Bool.{cond_both}
use Rattle.std.proofs.lemmas.Bool.Decides.{nat_tests}
use Rattle.std.proofs.lemmas.List.{append-nil}
use Rattle.std.proofs.lemmas.List.Concat.{flat_map-append}
use Rattle.flow_list.specs.Data.{Edge, Flow, FlowsData, Item, Margin, Solid, Wall, Start, End, Atom, Row}
use Rattle.flow_data.specs.Flows.{item_of, seam_of}
use Rattle.flow_data.specs.Soundness.{IsSoundFlow}
use Rattle.flow_list.specs.ClonedEdges.{open_across, tops}
use Rattle.flow_list.specs.Tokens.{Token, row_start, item_number, within, IsPlaceBefore}
use Rattle.flow_list.specs.Strip.{Strip, strip_at, put, lay, lay_all}
use Rattle.flow_list.specs.Column.{Inner, is_forced, Step, height_of, strip_behind, start_strip, room}
use Rattle.flow_list.specs.Placing.{Laid, laid_edge, laid_edges, margin, solid}
use Rattle.flow_list.specs.Fragments.{laid_item, laid_items, laid_start, laid_before, laid_filled, filled_row, strip_after}
use Rattle.flow_list.specs.Fragments.{strip_filled, fills_item, laid_to}
use Rattle.flow_laws.specs.Holding.{items_before}
use Rattle.flow_laws.proofs.HoldingEnds.{EndsAtSeam, EndsInRow}
use Rattle.piece_laws.specs.Nesting.{Crossing, crossing_at, crossings, crossings_before, edges_before}
use Rattle.piece_laws.proofs.Walking.{of_laid}
use Rattle.piece_laws.proofs.Stacks.{At, at-item, at-row, edges-more}

-- what these cross
abbrev pub crossed : List Laid → List Crossing
crossed xs = flat_map of_laid xs

edge-crosses : (s : Strip) (e : Edge) → crossed (laid_edge s e) ≡ crossing_at e
edge-crosses s (Margin m) = cond_both s.drops [] (margin m ∷ []) (λ xs. crossed xs ≡ []) (λ _. refl) (λ _. refl)
edge-crosses s (Solid a) = cond_both (a == 0) [] (solid a ∷ []) (λ xs. crossed xs ≡ []) (λ _. refl) (λ _. refl)
edge-crosses s Wall = refl
edge-crosses s (Start b) = refl
edge-crosses s (End b) = refl

pub edges-cross : (s : Strip) (es : List Edge) → crossed (laid_edges s es) ≡ crossings es
edges-cross s [] = refl
edges-cross s (e ∷ es) =
    flat_map-append of_laid (laid_edge s e) (laid_edges (lay s e) es)
    ∙ ap (λ us. us ++ crossed (laid_edges (lay s e) es)) (edge-crosses s e)
    ∙ ap (λ us. crossing_at e ++ us) (edges-cross (lay s e) es)

item-crosses : (inner : Inner) (k : ℕ) (q : Token) (item : Item) → of_laid (laid_item inner item k q) ≡ []
item-crosses inner k q (Atom height kind) = refl
item-crosses inner k q (Row r) = refl

row-crosses : (row : Option (ℕ × Token)) (a : ℕ) → crossed (filled_row row a) ≡ []
row-crosses None a = refl
row-crosses (Some r) a = refl

filled-crosses : (h : Option ℕ) (stop : Option Step) → crossed (laid_filled h stop) ≡ []
filled-crosses None stop = refl
filled-crosses (Some h) None = refl
filled-crosses (Some h) (Some s) = row-crosses s.row (room s h)

-- ---- after what is crossed before

-- these lead from the crossings before one place to those before another
abbrev pub Adds : (before : List Crossing) → List Laid → (after : List Crossing) → Type 0
Adds before xs after = before ++ crossed xs ≡ after

pub adds-both : (before mid after : List Crossing) (xs ys : List Laid) → Adds before xs mid → Adds mid ys after →
    Adds before (xs ++ ys) after
adds-both before mid after xs ys e h =
    ap (λ us. before ++ us) (flat_map-append of_laid xs ys) ∙ sym (append_assoc before (crossed xs) (crossed ys))
    ∙ ap (λ us. us ++ crossed ys) e ∙ h

pub adds-none : (before : List Crossing) (xs : List Laid) → crossed xs ≡ [] → Adds before xs before
adds-none before xs e = ap (λ us. before ++ us) e ∙ append-nil before

module _ (d : FlowsData) (f : Flow) (sound : IsSoundFlow d f) where
  -- the crossings up to the tail of seam k, and up to its head
  abbrev pub to_tail : ℕ → List Crossing
  to_tail k = crossings_before f (k ∷ [])

  abbrev pub to_head : ℕ → List Crossing
  to_head k = crossings_before f (k ∷ row_start)

  pub in-seams : (k : ℕ) → k ≤ length f.items → k < length f.seams
  in-seams k le = let n = sound.seam_count in omega arith

  pub tail-adds : (s : Strip) (k : ℕ) → Adds (to_head k) (laid_edges s (seam_of f (k + 1)).tail) (to_tail (k + 1))
  tail-adds s k =
      ap (λ us. to_head k ++ us) (edges-cross s (seam_of f (k + 1)).tail)
      ∙ sym (flat_map-append crossing_at (edges_before f (k ∷ row_start)) (seam_of f (k + 1)).tail)

  pub head-more : (k : ℕ) → k ≤ length f.items → to_tail k ++ crossings (seam_of f k).head ≡ to_head k
  head-more k le =
      sym (flat_map-append crossing_at (edges_before f (k ∷ [])) (seam_of f k).head)
      ∙ ap crossings (sym (edges-more d f sound k (in-seams k le)))

  pub head-adds : (s : Strip) (k : ℕ) → k ≤ length f.items → Adds (to_tail k) (laid_edges s (seam_of f k).head) (to_head k)
  head-adds s k le = ap (λ us. to_tail k ++ us) (edges-cross s (seam_of f k).head) ∙ head-more k le

  module _ (inner : Inner) where
    items-add : (s : Strip) (k : ℕ) (q : Token) (n : ℕ) → k + suc n ≤ length f.items →
        Adds (to_head k) (laid_items inner f s k q (suc n)) (to_tail (k + 1 + n))
    unfolding laid_items
    items-add s k q zero le =
        let item = laid_item inner (item_of f k) k q in
        let tail = laid_edges (put s (height_of inner (item_of f k) q)) (seam_of f (k + 1)).tail in
        let e : k + 1 ≡ k + 1 + 0 = omega arith in
        adds-both (to_head k) (to_head k) (to_tail (k + 1)) (item ∷ []) (tail ++ [])
        (adds-none (to_head k) (item ∷ []) (ap (λ us. us ++ []) (item-crosses inner k q (item_of f k))))
        (adds-both (to_head k) (to_tail (k + 1)) (to_tail (k + 1)) tail []
        (tail-adds (put s (height_of inner (item_of f k) q)) k) (adds-none (to_tail (k + 1)) [] refl))
        ∙ ap to_tail e
    items-add s k q (suc n) le =
        let item = laid_item inner (item_of f k) k q in
        let tail = laid_edges (put s (height_of inner (item_of f k) q)) (seam_of f (k + 1)).tail in
        let head = laid_edges (strip_behind inner f s k q) (seam_of f (k + 1)).head in
        let later = laid_items inner f (lay_all (strip_behind inner f s k q) (seam_of f (k + 1)).head) (k + 1) row_start
        (suc n) in
        let e : k + 1 + 1 + n ≡ k + 1 + suc n = omega arith in
        adds-both (to_head k) (to_head k) (to_tail (k + 1 + 1 + n)) (item ∷ []) (tail ++ (head ++ later))
        (adds-none (to_head k) (item ∷ []) (ap (λ us. us ++ []) (item-crosses inner k q (item_of f k))))
        (adds-both (to_head k) (to_tail (k + 1)) (to_tail (k + 1 + 1 + n)) tail (head ++ later)
        (tail-adds (put s (height_of inner (item_of f k) q)) k)
        (adds-both (to_tail (k + 1)) (to_head (k + 1)) (to_tail (k + 1 + 1 + n)) head later
        (head-adds (strip_behind inner f s k q) (k + 1) (omega arith))
        (items-add (lay_all (strip_behind inner f s k q) (seam_of f (k + 1)).head) (k + 1) row_start n (omega arith))))
        ∙ ap to_tail e

    before-add : (s : Strip) (k : ℕ) (q : Token) (n : ℕ) → k + n ≤ length f.items →
        Adds (to_head k) (laid_before inner f s k q n) (to_head (k + n))
    before-add s k q zero le =
        let e : k ≡ k + 0 = omega arith in adds-none (to_head k) [] refl ∙ ap to_head e
    before-add s k q (suc n) le =
        let e : k + 1 + n ≡ k + suc n = omega arith in
        adds-both (to_head k) (to_tail (k + suc n)) (to_head (k + suc n)) (laid_items inner f s k q (suc n))
        (laid_edges (strip_after inner f s k q (suc n)) (seam_of f (k + suc n)).head)
        (items-add s k q n le ∙ ap to_tail e) (head-adds (strip_after inner f s k q (suc n)) (k + suc n) le)

    -- ---- a column

    module _ (t : Token) (place : IsPlaceBefore d f t) where
      abbrev i : ℕ
      i = item_number t

      start-adds : (u : Token) → IsPlaceBefore d f u → item_number u < length f.items →
          Adds (crossings_before f u) (laid_start d f u) (to_head (item_number u))
      start-adds [] at lt = absurd at
      start-adds (k ∷ []) at lt =
          head-adds (strip_at (tops d (open_across f k)) (not (k == 0 || is_forced (seam_of f k).level))) k (omega arith)
      start-adds (k ∷ (j ∷ rest)) at lt = adds-none (to_head k) [] refl

      -- what is laid crosses what stands between the column's place and its end, and these boxes are open there
      pub record Reaches (h : Option ℕ) (stop : Option Step) (end : Token) : Type 0 where
        pub crosses : Adds (crossings_before f t) (laid_start d f t ++ laid_to inner d f t h stop end) (crossings_before f end)
        pub there : At d f sound end
        pub later : i < items_before end
        pub past : i ≤ item_number end

      reaches : i < length f.items → (h : Option ℕ) (stop : Option Step) (end : Token) →
          Adds (to_head i) (laid_to inner d f t h stop end) (crossings_before f end) → At d f sound end → i < items_before end →
          i ≤ item_number end → Reaches h stop end
      reaches lt h stop end adds at later past = record {
        crosses = adds-both (crossings_before f t) (to_head i) (crossings_before f end) (laid_start d f t)
            (laid_to inner d f t h stop end) (start-adds t place lt) adds;
        there = at;
        later = later;
        past = past;
      }

      pub seam-reaches : i < length f.items → (h : Option ℕ) (stop : Option Step) (end : Token) →
          EndsAtSeam inner f t h stop end → Reaches h stop end
      seam-reaches lt h stop end e =
          subst (Reaches h stop) (sym e.is) (go (e.seam - suc i) (let later = e.later in omega arith))
        where
          body : (n : ℕ) → e.seam ≡ i + 1 + n → Adds (to_head i) (laid_to inner d f t h stop (e.seam ∷ [])) (to_tail e.seam)
          body n is = pick (fills_item h stop (e.seam - 1)) e.unfilled
            where
              pick : (b : Bool) → b ≡ false →
                  Adds (to_head i) (cond (b && not (e.seam == 0))
                  (laid_before inner f (start_strip d f t) i (within t) (e.seam - 1 - i) ++ laid_filled h stop
                  ++ laid_edges (strip_filled h stop) (seam_of f e.seam).tail)
                  (laid_items inner f (start_strip d f t) i (within t) (e.seam - i))) (to_tail e.seam)
              pick true un = cc
              pick false un =
                  let known = e.known in
                  let count : e.seam - i ≡ suc n = omega arith in
                  ap (λ m. to_head i ++ crossed (laid_items inner f (start_strip d f t) i (within t) m)) count
                  ∙ items-add (start_strip d f t) i (within t) n (omega arith) ∙ ap to_tail (sym is)

          go : (n : ℕ) → e.seam ≡ i + 1 + n → Reaches h stop (e.seam ∷ [])
          go n is =
              let known = e.known in
              reaches lt h stop (e.seam ∷ []) (body n is) (at-item d f sound e.seam (in-seams e.seam known)) (omega arith)
              (omega arith)

      pub row-reaches : i < length f.items → (h : ℕ) (s : Step) (end : Token) → (e : EndsInRow inner f t h s end) →
          ((inner.fill e.row e.from (room s h)).at_end ≡ false →
          (j : ℕ) × (rest : Token) × ((inner.fill e.row e.from (room s h)).end ≡ j ∷ rest)) → Reaches (Some h) (Some s) end
      row-reaches lt h s end e within_row =
          subst (Reaches (Some h) (Some s)) (sym e.is) (go (inner.fill e.row e.from (room s h)).at_end refl)
        where
          row_laid : List Laid
          row_laid = laid_before inner f (start_strip d f t) i (within t) (s.item - i) ++ laid_filled (Some h) (Some s)

          here : Adds (to_head i) row_laid (to_head s.item)
          here =
              let later = e.later in
              let known = e.known in
              let is : i + (s.item - i) ≡ s.item = omega arith in
              adds-both (to_head i) (to_head s.item) (to_head s.item)
              (laid_before inner f (start_strip d f t) i (within t) (s.item - i)) (laid_filled (Some h) (Some s))
              (before-add (start_strip d f t) i (within t) (s.item - i) (omega arith) ∙ ap to_head is)
              (adds-none (to_head s.item) (laid_filled (Some h) (Some s)) (filled-crosses (Some h) (Some s)))

          fills : fills_item (Some h) (Some s) s.item ≡ true
          fills =
              let same : (s.item == s.item) ≡ true = grind (arith, nat_tests) in
              let some : is_some s.row ≡ true = ap is_some e.step_row in
              let low : nat_lt (room s h) s.height ≡ true = let l = e.low in grind (arith, nat_tests) in
              ap (λ a. a && is_some s.row && nat_lt (room s h) s.height) same ∙ ap (λ b. b && nat_lt (room s h) s.height) some
              ∙ low

          other : List Laid
          other = laid_items inner f (start_strip d f t) i (within t) (s.item + 1 - i)

          behind : (m : ℕ) → m ≡ s.item → (b z : Bool) → b ≡ true → z ≡ false →
              Adds (to_head i) (cond (b && not z) (laid_before inner f (start_strip d f t) i (within t) (m - i)
              ++ laid_filled (Some h) (Some s)
              ++ laid_edges (strip_filled (Some h) (Some s)) (seam_of f (s.item + 1)).tail) other) (to_tail (s.item + 1))
          behind m is true true full past = cc
          behind m is false z full past = cc
          behind m is true false full past =
              let tail = laid_edges (strip_filled (Some h) (Some s)) (seam_of f (s.item + 1)).tail in
              ap (λ n. to_head i ++ crossed (laid_before inner f (start_strip d f t) i (within t) (n - i)
              ++ laid_filled (Some h) (Some s) ++ tail)) is
              ∙ adds-both (to_head i) (to_head s.item) (to_tail (s.item + 1)) row_laid tail here
              (tail-adds (strip_filled (Some h) (Some s)) s.item)

          in-row : (u : Token) → ((j : ℕ) × (rest : Token) × (u ≡ j ∷ rest)) → Reaches (Some h) (Some s) (s.item ∷ u)
          in-row [] some = cc (some.2)
          in-row (j ∷ rest) some =
              let later = e.later in
              let known = e.known in
              reaches lt (Some h) (Some s) (s.item ∷ (j ∷ rest)) here
              (at-row d f sound s.item j rest (in-seams s.item (omega arith))) (omega arith) (omega arith)

          go : (b : Bool) → (inner.fill e.row e.from (room s h)).at_end ≡ b →
              Reaches (Some h) (Some s) (cond b ((s.item + 1) ∷ []) (s.item ∷ (inner.fill e.row e.from (room s h)).end))
          go true is =
              let later = e.later in
              let known = e.known in
              let m : s.item + 1 - 1 ≡ s.item = omega arith in
              let z : (s.item + 1 == 0) ≡ false = grind (arith, nat_tests) in
              reaches lt (Some h) (Some s) ((s.item + 1) ∷ [])
              (behind (s.item + 1 - 1) m (fills_item (Some h) (Some s) (s.item + 1 - 1)) (s.item + 1 == 0)
              (ap (fills_item (Some h) (Some s)) m ∙ fills) z)
              (at-item d f sound (s.item + 1) (in-seams (s.item + 1) (omega arith))) (omega arith) (omega arith)
          go false is = in-row (inner.fill e.row e.from (room s h)).end (within_row is)
