-- A column from its beginning to its last item, as it is placed.
use Rattle.std.proofs.Common.{◌≡◌, ℕ, suc, ◌+◌, ◌-◌, ◌<◌, ◌≤◌, List, ◌++◌, length, Option, Some, None}
use Rattle.std.proofs.Common.{sym}
use Rattle.std.proofs.Common.{subst, ◌∙◌, ap, arith, All}
use Rattle.std.specs.Option.{option_map}
use Rattle.std.specs.Prelude.{IfSome}
use Rattle.flow_list.specs.Data.{Flow, FlowsData}
use Rattle.flow_data.specs.Flows.{flow_in, flow_of, item_of, no_flow, rows_in}
use Rattle.flow_data.specs.Soundness.{IsSound, IsSoundFlow}
use Rattle.flow_list.specs.Column.{column, height_of, start_strip}
use Rattle.flow_list.specs.Fragments.{laid_start, laid_to, places_in, stop_of}
use Rattle.flow_list.specs.Placing.{Laid, Placed}
use Rattle.flow_list.specs.Rows.{all_rows}
use Rattle.flow_list.specs.Strip.{Strip}
use Rattle.flow_list.specs.Tokens.{Token, IsPlaceBefore, item_number, row_start, within}
use Rattle.frag_pool.specs.Growing.{Grows}
use Rattle.frag_pool.specs.Nodes.{Nodes}
use Rattle.frag_pool.proofs.Stays.{stands-growing}
use Rattle.column_places.specs.declared.placing.Placing.{Placing}
use Rattle.column_places.specs.Placing.{Leads, strip_of, with_more}
use Rattle.column_maker.specs.declared.place.Cut.{Cut}
use Rattle.column_maker.specs.Making.{HasColumns, IsEnding, IsTakenFrom, cut_room, cut_row, ends_at_seam, last_item, last_laid}
use Rattle.column_maker.specs.Making.{placed_to}
use Rattle.column_maker.specs.Walking.{item_passed, strip_next, walk_laid}
use Rattle.column_maker.proofs.Ending.{Goes, chosen, cut-told, taken-place, taken_of}
use Rattle.column_maker.proofs.Walks.{walk-last, walk-next}

module _ (d : FlowsData) (n : ℕ) (sound : IsSound d) (in_flows : n < length d.flows) (t : Token)
    (place : IsPlaceBefore d (flow_of d n) t) (some : All (λ r. 0 < length (flow_in d r).items) (rows_in (flow_of d n)))
    (p : Nodes)
    (h : ℕ) (end : Token) (cut : Option Cut) (is : end ≡ (column (all_rows d) d (flow_of d n) t h).end)
    (told : IsEnding d p (flow_of d n) t h end cut) (last : ℕ) (last_is : last ≡ last_item end) where
  abbrev f : Flow
  f = flow_of d n

  abbrev flow : IsSoundFlow d f
  flow = sound.flows n no_flow in_flows

  goes : Goes d f t sound flow place some h end (option_map cut_room cut)
  goes = chosen d f t sound flow place some p h end cut is told

  abbrev lastly : Strip → Token → List Laid
  lastly = last_laid d f last (option_map cut_room cut) (ends_at_seam end)

  -- what is laid from item k on
  abbrev rest : Strip → ℕ → Token → List Laid
  rest s k q = walk_laid (all_rows d) f lastly s k q (last - k)

  pub begins-there : item_number t ≤ last
  begins-there = rw last_is goes.later

  pub last-known : last < length f.items
  last-known = rw last_is goes.known

  all-laid : laid_to (all_rows d) d f t (Some h) (stop_of (all_rows d) d f t (Some h)) end
      ≡ rest (start_strip d f t) (item_number t) (within t)
  all-laid = rw last_is goes.laid

  pub starts : (at : Placing) → strip_of at ≡ start_strip d f t →
      ((more : List Laid) → with_more at more ≡ places_in d f t (laid_start d f t ++ more)) → (q : Token) → q ≡ within t →
      with_more at (rest (strip_of at) (item_number t) q) ≡ placed_to d f t h end
  starts at strip places q first =
      ap (λ s. with_more at (rest s (item_number t) q)) strip
      ∙ ap (λ u. with_more at (rest (start_strip d f t) (item_number t) u)) first
      ∙ places (rest (start_strip d f t) (item_number t) (within t))
      ∙ ap (λ xs. places_in d f t (laid_start d f t ++ xs)) (sym all-laid)

  pub goes-on : (k : ℕ) (q : Token) → k < last → (a b : Placing) →
      Leads a (item_passed (all_rows d) f (strip_of a) k q) (strip_next (all_rows d) f (strip_of a) k q) b → (ps : List Placed) →
      with_more a (rest (strip_of a) k q) ≡ ps → (u : Token) → u ≡ row_start → with_more b (rest (strip_of b) (k + 1) u) ≡ ps
  goes-on k q lt a b led ps so_far u start =
      let count : last - k ≡ suc (last - (k + 1)) = omega arith in
      ap (λ v. with_more b (rest (strip_of b) (k + 1) v)) start
      ∙ ap (λ s. with_more b (rest s (k + 1) row_start)) led.strip
      ∙ sym (led.places (rest (strip_next (all_rows d) f (strip_of a) k q) (k + 1) row_start))
      ∙ ap (with_more a) (sym (walk-next (all_rows d) f lastly (strip_of a) k q (last - k) (last - (k + 1)) count)) ∙ so_far

  pub at-last : (k : ℕ) (q : Token) → k ≡ last → (at : Placing) (ps : List Placed) → with_more at (rest (strip_of at) k q) ≡ ps →
      with_more at (lastly (strip_of at) q) ≡ ps
  at-last k q there at ps so_far =
      let none : last - k ≡ 0 = omega arith in
      ap (with_more at) (sym (walk-last (all_rows d) f lastly (strip_of at) k q (last - k) none)) ∙ so_far

  pub place-there : (k : ℕ) (q : Token) → item_number t ≤ k → q ≡ taken_of d f t k → IsTakenFrom d (item_of f k) q
  place-there k q le at =
      subst (λ (u : Token). IsTakenFrom d (item_of f k) u) (sym at) (taken-place d f t sound flow place some k le)

  pub cut-there : (q : Token) → q ≡ taken_of d f t last → (now : Nodes) → Grows p now →
      IfSome cut (λ c. (c.room ≤ height_of (all_rows d) (item_of f last) q) × HasColumns d now (cut_row f last q c.room c.made))
  cut-there q at now grows = go cut told
    where
      go : (o : Option Cut) → IsEnding d p f t h end o →
          IfSome o (λ c. (c.room ≤ height_of (all_rows d) (item_of f last) q) × HasColumns d now (cut_row f last q c.room c.made))
      go None told = tt
      go (Some c) told =
          let known = cut-told d f t sound flow place some p h end c is told in
          let P : ℕ → Token → Type 0 = λ k u.
          (c.room ≤ height_of (all_rows d) (item_of f k) u) × HasColumns d p (cut_row f k u c.room c.made) in
          let here : P last (taken_of d f t last) = subst (λ (k : ℕ). P k (taken_of d f t k)) (sym last_is) known in
          let there : P last q = subst (P last) (sym at) here in
          (there.0, stands-growing p now grows c.made _ there.1)
