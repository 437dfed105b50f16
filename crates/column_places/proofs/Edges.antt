-- Edges laid one after another in a column being placed.
use Rattle.std.proofs.Common.{◌≡◌, ℕ, ◌+◌, ◌<◌, ◌^◌, List, [], ◌∷◌, ◌++◌, length, get_or, take, refl, sym, subst, ◌∙◌, ap}
use Rattle.std.proofs.Common.{arith, append_assoc, sum_by}
use Rattle.std.proofs.lemmas.List.{append-nil, take_more}
use Rattle.std.proofs.lemmas.List.Sums.{sum_by-take-drop, sum_by-drop_more}
use Rattle.flow_list.specs.Data.{Edge}
use Rattle.flow_data.specs.Flows.{amount}
use Rattle.flow_list.specs.Placing.{laid_edge, laid_edges}
use Rattle.flow_list.specs.Strip.{Strip, lay, lay_all}
use Rattle.flow_list.proofs.StripBounds.{lay_all_le}
use Rattle.column_places.specs.declared.placing.Placing.{Placing}
use Rattle.column_places.specs.Placing.{strip_of, Leads}
use Rattle.column_places.proofs.Gaps.{leads-both, leads-same}

edges-append : (s : Strip) (xs ys : List Edge) → laid_edges s (xs ++ ys) ≡ laid_edges s xs ++ laid_edges (lay_all s xs) ys
edges-append s [] ys = refl
edges-append s (e ∷ xs) ys = ap (λ zs. laid_edge s e ++ zs) (edges-append (lay s e) xs ys)
    ∙ sym (append_assoc (laid_edge s e) (laid_edges (lay s e) xs) (laid_edges (lay_all (lay s e) xs) ys))

lay-append : (s : Strip) (xs ys : List Edge) → lay_all s (xs ++ ys) ≡ lay_all (lay_all s xs) ys
lay-append s [] ys = refl
lay-append s (e ∷ xs) ys = lay-append (lay s e) xs ys

module _ (edges : List Edge) (i : ℕ) (e : Edge) (lt : i < length edges) where
  edges-more : (s : Strip) → laid_edges s (take (i + 1) edges) ≡ laid_edges s (take i edges) ++ laid_edge
      (lay_all s (take i edges)) (get_or edges i e)
  edges-more s =
      ap (laid_edges s) (take_more edges i e lt) ∙ edges-append s (take i edges) (get_or edges i e ∷ [])
      ∙ ap (λ zs. laid_edges s (take i edges) ++ zs) (append-nil (laid_edge (lay_all s (take i edges)) (get_or edges i e)))

  lay-more : (s : Strip) → lay_all s (take (i + 1) edges) ≡ lay (lay_all s (take i edges)) (get_or edges i e)
  lay-more s = ap (lay_all s) (take_more edges i e lt) ∙ lay-append s (take i edges) (get_or edges i e ∷ [])

  module _ (a b : Placing) (led : Leads a (laid_edges (strip_of a) (take i edges)) (lay_all (strip_of a) (take i edges)) b) where
    pub edge-room : a.y + a.margin + sum_by amount edges < 2 ^ 63 → b.y + b.margin + amount (get_or edges i e) < 2 ^ 63
    edge-room room =
        let s = ap (λ (s : Strip). s.y + s.pending) led.strip in
        omega (
          arith,
          s,
          lay_all_le (strip_of a) (take i edges),
          sum_by-take-drop amount edges i,
          sum_by-drop_more amount edges i e lt,
        )

    pub leads-edge : (c : Placing) → Leads b (laid_edge (strip_of b) (get_or edges i e)) (lay (strip_of b) (get_or edges i e))
        c → Leads a (laid_edges (strip_of a) (take (i + 1) edges)) (lay_all (strip_of a) (take (i + 1) edges)) c
    leads-edge c more =
        let x = get_or edges i e in
        let P : Strip → Type 0 = λ t. Leads b (laid_edge t x) (lay t x) c in
        leads-same a c _ _ _ _ (edges-more (strip_of a)) (lay-more (strip_of a))
        (leads-both a b c (laid_edges (strip_of a) (take i edges)) (laid_edge (lay_all (strip_of a) (take i edges)) x)
        (lay_all (strip_of a) (take i edges)) (lay (lay_all (strip_of a) (take i edges)) x) led (subst P led.strip more))
