-- What stands at the beginning of a column.
use Rattle.std.proofs.Common.{◌≡◌, ℕ, ◌+◌, ◌<◌, ◌^◌, Bool, cond, List, [], ◌++◌, length, get_or, sym, ◌∙◌}
use Rattle.std.proofs.Common.{ap, arith}
use Rattle.std.proofs.Common.{All, sum_by}
use Rattle.std.specs.Prelude.{◌==◌}
use Rattle.flow_list.specs.Data.{Edge, Flow, FlowsData}
use Rattle.flow_data.specs.Flows.{amount, box_of, flow_of, no_flow, open_at, seam_of}
use Rattle.flow_data.specs.Soundness.{IsSound, IsSoundFlow}
use Rattle.flow_data.proofs.BoxSums.{open_at-le}
use Rattle.flow_data.proofs.OpenBoxes.{has-count, in-range}
use Rattle.flow_list.specs.ClonedEdges.{open_across, tops}
use Rattle.flow_list.specs.Fragments.{continued_from}
use Rattle.flow_list.specs.Placing.{Laid, Placed, laid_edges, places_from}
use Rattle.flow_list.specs.Strip.{Strip, lay_all, strip_at}
use Rattle.flow_list.specs.Tokens.{row_start}
use Rattle.flow_list.proofs.Fitting.{amounts-drop, first-amounts, open_across-le}
use Rattle.flow_list.proofs.OpenAcross.{across-known}
use Rattle.column_laws.proofs.Bounds.{reach-small}
use Rattle.column_places.specs.declared.placing.Placing.{Placing}
use Rattle.column_places.specs.Placing.{Leads, standing, strip_of, waiting, with_more}

-- what is placed so far, and what is laid after it, where nothing waits
pub with-none : (at : Placing) (more : List Laid) (ps : List Placed) (y : ℕ) → standing at ≡ ps → waiting at ≡ [] → at.y ≡ y →
    with_more at more ≡ ps ++ places_from (length more + 1) y more
with-none at more ps y stands none down =
    ap (λ qs. qs ++ places_from (length (waiting at ++ more) + 1) at.y (waiting at ++ more)) stands
    ∙ ap (λ ws. ps ++ places_from (length (ws ++ more) + 1) at.y (ws ++ more)) none
    ∙ ap (λ z. ps ++ places_from (length more + 1) z more) down

module _ (d : FlowsData) (n : ℕ) (sound : IsSound d) (in_flows : n < length d.flows) where
  abbrev f : Flow
  f = flow_of d n

  abbrev pub sound_flow : IsSoundFlow d f
  sound_flow = sound.flows n no_flow in_flows

  at-known : (k : ℕ) → All (λ b. b < length d.boxes) (open_at f k)
  at-known k j b lt =
      let m : ℕ = get_or (open_at f k) j b in
      in-range d f sound_flow m (omega (arith, has-count (open_at f k) j b lt, open_at-le (λ x. cond (x == m) 1 0) f k))

  pub boxes-at-known : (k : ℕ) (boxes : List ℕ) → boxes ≡ open_at f k → All (λ b. b < length d.boxes) boxes
  boxes-at-known k boxes is = rw is (at-known k)

  pub boxes-across-known : (k : ℕ) (boxes : List ℕ) → boxes ≡ open_across f k → All (λ b. b < length d.boxes) boxes
  boxes-across-known k boxes is = rw is (across-known d f sound_flow k)

  pub tops-at-room : (k : ℕ) (boxes : List ℕ) → boxes ≡ open_at f k → tops d boxes < 2 ^ 63
  tops-at-room k boxes is =
      rw is (omega (arith, reach-small d sound n in_flows row_start, open_at-le (λ b. (box_of d b).top) f k))

  pub tops-across-room : (k : ℕ) (boxes : List ℕ) → boxes ≡ open_across f k → tops d boxes < 2 ^ 63
  tops-across-room k boxes is =
      rw is (omega (arith, reach-small d sound n in_flows row_start, open_across-le (λ b. (box_of d b).top) f k))

  module _ (k : ℕ) (boxes : List ℕ) (is : boxes ≡ open_across f k) (drops : Bool) (head : List Edge) (whole : head
      ≡ (seam_of f k).head)
      (a : Placing) (at : strip_of a ≡ strip_at (tops d boxes) drops) where
    pub head-room : a.y + a.margin + sum_by amount head < 2 ^ 63
    head-room =
        let s = ap (λ (s : Strip). s.y + s.pending) at in
        let t = ap (tops d) is in
        let u = ap (sum_by amount) whole in
        omega (
          arith,
          s,
          t,
          u,
          reach-small d sound n in_flows row_start,
          open_across-le (λ b. (box_of d b).top) f k,
          first-amounts f.seams k,
          amounts-drop f.seams k,
        )

    pub head-places : (b : Placing) → Leads a (laid_edges (strip_of a) head) (lay_all (strip_of a) head) b →
        ((more : List Laid) → with_more a more ≡ continued_from d 0 boxes ++ places_from (length more + 1) (tops d boxes) more) →
        (more : List Laid) → with_more b more ≡ continued_from d 0 (open_across f k)
        ++ places_from (length (laid_edges (strip_at (tops d (open_across f k)) drops) (seam_of f k).head ++ more) + 1)
        (tops d (open_across f k)) (laid_edges (strip_at (tops d (open_across f k)) drops) (seam_of f k).head ++ more)
    head-places b led places more =
        let here : List ℕ → Strip → List Edge → List Placed = λ bs s es.
        continued_from d 0 bs ++ places_from (length (laid_edges s es ++ more) + 1) (tops d bs) (laid_edges s es ++ more) in
        sym (led.places more) ∙ places (laid_edges (strip_of a) head ++ more)
        ∙ ap (λ s. here boxes s head) at ∙ ap (here boxes (strip_at (tops d boxes) drops)) whole
        ∙ ap (λ bs. here bs (strip_at (tops d bs) drops) (seam_of f k).head) is

    pub head-strip : (b : Placing) → Leads a (laid_edges (strip_of a) head) (lay_all (strip_of a) head) b →
        strip_of b ≡ lay_all (strip_at (tops d (open_across f k)) drops) (seam_of f k).head
    head-strip b led =
        led.strip ∙ ap (λ s. lay_all s head) at ∙ ap (lay_all (strip_at (tops d boxes) drops)) whole
        ∙ ap (λ bs. lay_all (strip_at (tops d bs) drops) (seam_of f k).head) is
