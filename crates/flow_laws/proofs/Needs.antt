-- What a column's items need in a sound flow: never less than the item before, never less than their atoms are high, and an atom
-- never less than after an unforced break.
use Rattle.std.proofs.Common.{◌≡◌, ℕ, zero, suc, ◌+◌, ◌-◌, ◌<◌, ◌≤◌, ◌==◌, ◌||◌, Bool, true, false, not, List, [], ◌∷◌, length}
use Rattle.std.proofs.Common.{Some, None, refl, subst, arith, sum_by, add-one}
use Rattle.std.specs.Prelude.{slice_get}
use Rattle.std.specs.List.{flat_map}
use Rattle.flow_list.specs.Data.{Flow, FlowsData, Item, Solid, End, Atom, Row}
use Rattle.flow_list.specs.Atoms.{IsAtom}
use Rattle.flow_data.specs.Flows.{box_of, item_of, seam_of, no_seam, atom_height, started, open_at}
use Rattle.flow_list.specs.ClonedEdges.{open_across, tops, bottoms}
use Rattle.flow_data.specs.Soundness.{IsSoundFlow}
use Rattle.flow_list.specs.Tokens.{Token, row_start, item_number, within, IsPlaceBefore}
use Rattle.flow_list.specs.Strip.{Strip, strip_at, put, lay_all}
use Rattle.flow_list.specs.Column.{Inner, Step, height_of, strip_behind, step_at, steps, steps_from, start_strip, unforced_start}
use Rattle.flow_list.specs.Column.{loose_need, is_forced}
use Rattle.flow_list.proofs.AtomFlows.{atom-row}
use Rattle.flow_list.proofs.OpenAcross.{across-sum, at-sum-next}
use Rattle.flow_data.proofs.OpenBoxes.{at-sum-first}
use Rattle.flow_laws.proofs.Places.{in-items}
use Rattle.flow_laws.proofs.Laying.{put-rises, lay_all-rises, IsLower, put-lower, lay_all-lower, starts-lower, TopsFollow}
use Rattle.flow_laws.proofs.Laying.{head-lays, BottomsPrecede, tail-lays}

atom-height-le : (inner : Inner) (item : Item) (q : Token) → atom_height item ≤ height_of inner item q
atom-height-le inner (Atom height kind) q = omega arith
atom-height-le inner (Row r) q = omega arith

atom-alike : (inner : Inner) (item : Item) (q p : Token) → IsAtom item → height_of inner item q ≡ height_of inner item p
atom-alike inner (Atom height kind) q p a = refl
atom-alike inner (Row r) q p a = absurd a

module _ (inner : Inner) (d : FlowsData) (f : Flow) (sound : IsSoundFlow d f) where
  tops-follow : (k : ℕ) → k < length f.seams → TopsFollow (λ b. (box_of d b).top) (seam_of f k).head
  tops-follow k lt = λ j b is some. rw add-one at ((sound.seams k no_seam lt).cloned_top j b is some)

  bottoms-precede : (k : ℕ) → k < length f.seams → BottomsPrecede (λ b. (box_of d b).bottom) None (seam_of f k).tail
  bottoms-precede k lt = (
    λ b is some. first b is ((sound.seams k no_seam lt).cloned_bottom 0 b is some),
    λ j b is some. later j b ((sound.seams k no_seam lt).cloned_bottom (suc j) b is some),
  )
    where
      first : (b : ℕ) → slice_get (seam_of f k).tail 0 ≡ Some (End b)
          → slice_get (seam_of f k).tail (0 - 1) ≡ Some (Solid (box_of d b).bottom) → None ≡ Some (Solid (box_of d b).bottom)
      first b is e = cc

      later : (j b : ℕ) → slice_get (seam_of f k).tail (suc j - 1) ≡ Some (Solid (box_of d b).bottom)
          → slice_get (seam_of f k).tail j ≡ Some (Solid (box_of d b).bottom)
      later j b e = let n : suc j - 1 ≡ j = omega arith in rw n at e

  -- the strip before item k has the upper cloned edges of the boxes open at it
  abbrev pub HasTops : ℕ → Strip → Type 0
  HasTops k s = tops d (open_at f k) ≤ s.y

  -- the strip before an atom is no lower than after an unforced break
  abbrev pub IsLoose : ℕ → Strip → Type 0
  IsLoose k s = IsAtom (item_of f k) → IsLower (unforced_start d f k) s

  -- what is so of the step of item k, where the atoms before it are base high, and the item before it needs prev
  pub record IsGoodStep (k base prev : ℕ) (s : Step) : Type 0 where
    pub item : s.item ≡ k
    pub atom_row : IsAtom (item_of f k) → s.row ≡ None
    pub loose : IsAtom (item_of f k) → loose_need inner d f k ≤ s.need
    pub rises : prev ≤ s.need
    pub holds : base + atom_height (item_of f k) ≤ s.need

  abbrev pub AreGoodSteps : (k base prev : ℕ) → List Step → Type 0
  AreGoodSteps k base prev [] = Unit {0}
  AreGoodSteps k base prev (s ∷ ss) = IsGoodStep k base prev s × AreGoodSteps (k + 1) (base + atom_height (item_of f k)) s.need ss

  behind-rises : (s : Strip) (k : ℕ) (q : Token) → s.y + height_of inner (item_of f k) q ≤ (strip_behind inner f s k q).y
  behind-rises s k q = let a = put-rises s (height_of inner (item_of f k) q)
      in let b = lay_all-rises (put s (height_of inner (item_of f k) q)) (seam_of f (k + 1)).tail in omega arith

  behind-tops : (s : Strip) (k : ℕ) (q : Token) → k + 1 < length f.seams → HasTops k s
      → tops d (open_across f (k + 1)) ≤ (strip_behind inner f s k q).y
  behind-tops s k q lt has =
      let a = behind-rises s k q in
      let e = across-sum d f sound (λ b. (box_of d b).top) k lt in
      omega arith

  next-tops : (s : Strip) (k : ℕ) (q : Token) → k + 1 < length f.seams → HasTops k s
      → HasTops (k + 1) (lay_all (strip_behind inner f s k q) (seam_of f (k + 1)).head)
  next-tops s k q lt has =
      let a = behind-tops s k q lt has in
      let e = at-sum-next d f sound (λ b. (box_of d b).top) k lt in
      let l = head-lays (λ b. (box_of d b).top) (strip_behind inner f s k q) (seam_of f (k + 1)).head (tops-follow (k + 1) lt) in
      omega arith

  next-loose : (s : Strip) (k : ℕ) (q : Token) → k + 1 < length f.seams → HasTops k s
      → IsLoose (k + 1) (lay_all (strip_behind inner f s k q) (seam_of f (k + 1)).head)
  next-loose s k q lt has = λ atom. lay_all-lower _ _ (seam_of f (k + 1)).head
      (starts-lower _ (strip_behind inner f s k q) (behind-tops s k q lt has))

  -- what item k needs is no less than the strip before it and the lower cloned edges of the boxes open at it
  need-over : (s : Strip) (k : ℕ) (q : Token) → k + 1 < length f.seams
      → s.y + bottoms d (open_at f k) ≤ (step_at inner d f s k q).need
  need-over s k q lt =
      let a = put-rises s (height_of inner (item_of f k) q) in
      let l = tail-lays (λ b. (box_of d b).bottom) (put s (height_of inner (item_of f k) q)) (seam_of f (k + 1)).tail
      (bottoms-precede (k + 1) lt) in
      let e = across-sum d f sound (λ b. (box_of d b).bottom) k lt in
      omega arith

  next-over : (s : Strip) (k : ℕ) (q : Token) → k + 1 < length f.seams
      → (step_at inner d f s k q).need ≤ (lay_all (strip_behind inner f s k q) (seam_of f (k + 1)).head).y + bottoms d
      (open_at f (k + 1))
  next-over s k q lt =
      let a = lay_all-rises (strip_behind inner f s k q) (seam_of f (k + 1)).head in
      let e = at-sum-next d f sound (λ b. (box_of d b).bottom) k lt in
      omega arith

  loose-need-le : (s : Strip) (k : ℕ) (q : Token) → IsLoose k s → IsAtom (item_of f k)
      → loose_need inner d f k ≤ (step_at inner d f s k q).need
  loose-need-le s k q loose atom =
      let same = atom-alike inner (item_of f k) row_start q atom in
      let l = lay_all-lower _ _ (seam_of f (k + 1)).tail
      (put-lower (unforced_start d f k) s (height_of inner (item_of f k) q) (loose atom)) in
      let y = l.y in
      rw same (omega arith)

  good-steps : (s : Strip) (k : ℕ) (q : Token) (n base prev : ℕ) → k + n ≡ length f.items → HasTops k s → IsLoose k s → base ≤ s.y
      → prev ≤ s.y + bottoms d (open_at f k) → AreGoodSteps k base prev (steps inner d f s k q n)
  unfolding steps
  good-steps s k q zero base prev e has loose b p = tt
  good-steps s k q (suc n) base prev e has loose b p =
      let count = sound.seam_count in
      let lt : k + 1 < length f.seams = omega arith in
      let over = need-over s k q lt in
      let rises = behind-rises s k q in
      let high = atom-height-le inner (item_of f k) q in
      let more = lay_all-rises (strip_behind inner f s k q) (seam_of f (k + 1)).head in (
        record {
          item = refl;
          atom_row = atom-row (item_of f k) q;
          loose = loose-need-le s k q loose;
          rises = omega arith;
          holds = omega arith;
        },
        go (is_forced (seam_of f (k + 1)).level)
            (good-steps (lay_all (strip_behind inner f s k q) (seam_of f (k + 1)).head) (k + 1) row_start n
            (base + atom_height (item_of f k)) (step_at inner d f s k q).need (omega arith) (next-tops s k q lt has)
            (next-loose s k q lt has) (omega arith) (next-over s k q lt)),
      )
    where
      more_steps : List Step
      more_steps = steps inner d f (lay_all (strip_behind inner f s k q) (seam_of f (k + 1)).head) (k + 1) row_start n

      go : (x : Bool) → AreGoodSteps (k + 1) (base + atom_height (item_of f k)) (step_at inner d f s k q).need more_steps
          → AreGoodSteps (k + 1) (base + atom_height (item_of f k)) (step_at inner d f s k q).need
          (elim x [ true ↦ [] | false ↦ more_steps ])
      go true g = tt
      go false g = g

  -- ---- where a column begins

  across-starts : (k : ℕ) → k < length f.seams
      → tops d (open_at f k) ≤ tops d (open_across f k) + sum_by (λ b. (box_of d b).top) (flat_map started (seam_of f k).head)
  across-starts zero lt = let e = at-sum-first d f sound (λ b. (box_of d b).top) in omega arith
  across-starts (suc k) lt =
      let P : ℕ → Type 0 = λ n. tops d (open_at f n) ≤ tops d (open_across f n) + sum_by (λ b. (box_of d b).top)
      (flat_map started (seam_of f n).head) in
      subst P (add-one k) (let e = at-sum-next d f sound (λ b. (box_of d b).top) k (omega arith) in omega arith)

  start-tops : (t : Token) → IsPlaceBefore d f t → HasTops (item_number t) (start_strip d f t)
  start-tops [] place = absurd place
  start-tops (i ∷ []) place = go (not (i == 0 || is_forced (seam_of f i).level))
    where
      go : (drops : Bool) → tops d (open_at f i) ≤ (lay_all (strip_at (tops d (open_across f i)) drops) (seam_of f i).head).y
      go drops =
          let lt : i < length f.seams = omega (arith, sound.seam_count) in
          let l = head-lays (λ b. (box_of d b).top) (strip_at (tops d (open_across f i)) drops) (seam_of f i).head
          (tops-follow i lt) in
          let e = across-starts i lt in
          omega arith
  start-tops (i ∷ (j ∷ rest)) place = omega arith

  start-loose : (t : Token) → IsPlaceBefore d f t → IsLoose (item_number t) (start_strip d f t)
  start-loose [] place = absurd place
  start-loose (i ∷ []) place = λ atom.
      lay_all-lower _ _ (seam_of f i).head
      (starts-lower (tops d (open_across f i))
      (strip_at (tops d (open_across f i)) (not (i == 0 || is_forced (seam_of f i).level))) (omega arith))
  start-loose (i ∷ (j ∷ rest)) place = λ atom. absurd (row-no-atom (item_of f i) place.1 place.2 atom)
    where
      row-no-atom : (item : Item) (r : ℕ) → item ≡ Row r → IsAtom item → ⊥
      row-no-atom (Atom height kind) r is a = cc
      row-no-atom (Row s) r is a = a

  pub column-steps : (t : Token) → IsPlaceBefore d f t → AreGoodSteps (item_number t) 0 0 (steps_from inner d f t)
  column-steps t place =
      let lt = in-items d f t place in
      good-steps (start_strip d f t) (item_number t) (within t) (length f.items - item_number t) 0 0 (omega arith)
      (start-tops t place) (start-loose t place) (omega arith) (omega arith)
