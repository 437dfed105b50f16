-- What is known of the columns that were made so far: before the first, after each further one, and where no more are made.
use Rattle.std.proofs.Common.{Result, Ok, Err, IfOk, OnOk, OnErr, ◌≡◌, ℕ, ◌+◌, ◌<◌, ◌≤◌, Bool, true, false, List, [], ◌∷◌, ◌++◌}
use Rattle.std.proofs.Common.{length, sym, subst, ◌∙◌, ap, arith, inl, inr}
use Rattle.std.specs.Prelude.{All, Some, None}
use Rattle.std.specs.List.{list_any}
use Rattle.mc_base.specs.PlainTree.{PlainTrees, row_piece}
use Rattle.mc_base.specs.declared.fragment.FragId.{FragId}
use Rattle.mc_base.specs.declared.fragment.FragId.TheVariants.{Trial}
use Rattle.mc_base.specs.declared.fragment.Node.{Node}
use Rattle.mc_base.specs.declared.fragment.Node.TheVariants.{RowPiece}
use Rattle.flow_data.specs.declared.data.FlowsData.{FlowsData}
use Rattle.flow_data.specs.declared.data.Flow.{Flow}
use Rattle.flow_data.specs.Flows.{flow_in, flow_of, no_row, row_of, rows_in}
use Rattle.flow_data.specs.Soundness.{IsSound}
use Rattle.flow_list.specs.Book.{after_uses}
use Rattle.flow_list.specs.Certificate.{Use, uses_of}
use Rattle.flow_list.specs.Column.{Column, column}
use Rattle.flow_list.specs.Folds.{Folding, every, fitting, columns_made}
use Rattle.flow_list.specs.Fragments.{column_fragment, fragments_from}
use Rattle.flow_list.specs.Looks.{look_cost}
use Rattle.flow_list.specs.Rows.{all_rows, end_of, fails}
use Rattle.flow_list.specs.Tokens.{Token, IsPlace, IsPlaceBefore, is_end}
use Rattle.flow_laws.proofs.Places.{at-end}
use Rattle.flow_laws.proofs.SoundRows.{good-rows}
use Rattle.column_laws.specs.AnyFlow.{FlowIsSound}
use Rattle.column_laws.proofs.Following.{fragments-append}
use Rattle.range_laws.specs.Entering.{UsesEnter}
use Rattle.frag_pool.specs.Growing.{Grows}
use Rattle.frag_pool.specs.Nodes.{Nodes, trial_more}
use Rattle.frag_pool.specs.Standing.{AllStandFor, StandsFor}
use Rattle.frag_pool.proofs.Stays.{all-along, keeps-growing}
use Rattle.frag_pool.proofs.Trees.{they-append, they-none, they-one}
use Rattle.frag_maker.proofs.Growing.{grows-same, grows-trial}
use Rattle.column_maker.specs.Making.{tree_of_column}
use Rattle.column_maker.proofs.Parts.{piece-made}
use Rattle.block_flow.specs.Columns.{IsColumn}
use Rattle.block_flow.specs.declared.making.ColumnOut.{ColumnOut}
use Rattle.column_row.specs.Adding.{AreFragments, IsSoFar, is_over}
use Rattle.column_row.specs.Folding.{looks_cost}
use Rattle.column_row.specs.declared.adding.SoFar.{SoFar}
use Rattle.column_row.proofs.MadeColumns.{cost-of-first, cost-one, made-few, made-more, made-none, made-over, or-left}
use Rattle.column_row.proofs.MadeColumns.{uses-one}

pub if-ok : {A E : Type 0} (r : Result A E) (P Q : A → Type 0) → ((v : A) → P v → Q v) → IfOk r P → IfOk r Q
if-ok (Ok v) P Q f p = f v p
if-ok (Err e) P Q f p = tt

-- a place that isn't the end is before it
pub place-inside : (d : FlowsData) (f : Flow) (t : Token) → IsPlace d f t → is_end f t ≡ false → IsPlaceBefore d f t
place-inside d f t (inl ends) inside = let e = at-end f t ends in absurd (cc)
place-inside d f t (inr before) inside = before

-- where a further column is made, that isn't the end
pub goes-on : (folding : Folding) (f : Flow) (t : Token) (broken : Bool) → is_over folding f t broken ≡ false → is_end f t ≡ false
goes-on every f t broken e = e
goes-on fitting f t broken e = or-left (is_end f t) broken e

-- the fragments of columns and of one more
pub frags-more : (d : FlowsData) (p m : Nodes) (r : ℕ) (q t : Token) (h : ℕ) (cs : List Column) (c : Column) (ids : List FragId)
    (id : FragId) → Grows p m → end_of q cs ≡ t → AreFragments d p r q h cs ids →
    StandsFor m id (tree_of_column d (row_of d r).flow t h) → AreFragments d m r q h (cs ++ c ∷ []) (ids ++ id ∷ [])
unfolding column_fragment
frags-more d p m r q t h cs c ids id grows at stand one =
    rw (fragments-append (column_fragment d r (Some h)) q cs (c ∷ []), at)
    (they-append m ids (id ∷ []) (fragments_from (column_fragment d r (Some h)) q cs) (column_fragment d r (Some h) t ∷ [])
    (all-along p m (keeps-growing p m grows) ids _ stand) (they-one m id (column_fragment d r (Some h) t) one))

-- What is known after n columns of row r were asked for from place q on: what is told of those that were made, their fragments,
-- what they use, and what they cost.
pub record HasMade (d : FlowsData) (r : ℕ) (q : Token) (h : ℕ) (folding : Folding) (n : ℕ) (p : Nodes) (s : SoFar)
    (old now : List Use) (first reads : ℕ) : Type 0 where
  pub told : IsSoFar (flow_in d r) q h (columns_made folding (all_rows d) d (flow_in d r) n q h) s
  pub frags : AreFragments d p r q h (columns_made folding (all_rows d) d (flow_in d r) n q h) s.frags
  pub uses : now ≡ after_uses d old (uses_of (columns_made folding (all_rows d) d (flow_in d r) n q h))
  pub cost : reads ≤ first + looks_cost d (flow_in d r) q h (columns_made folding (all_rows d) d (flow_in d r) n q h)

module _ (d : FlowsData) (r : ℕ) (q : Token) (h : ℕ) (folding : Folding) where
  abbrev f : Flow
  f = flow_in d r

  abbrev made : ℕ → List Column
  made n = columns_made folding (all_rows d) d f n q h

  pub made-first : (p : Nodes) (s : SoFar) (book : List Use) (reads : ℕ) → IsSoFar f q h [] s → s.frags ≡ [] →
      UsesEnter d → HasMade d r q h folding 0 p s book book reads reads
  made-first p s book reads told frags enter = record {
    told = rw (made-none (all_rows d) d f q h folding) told;
    frags = rw (made-none (all_rows d) d f q h folding, frags) (they-none p);
    uses = rw (made-none (all_rows d) d f q h folding) (sym (enter.none_new book [] (λ k e lt. absurd (omega arith))));
    cost = omega arith;
  }

  module _ (n : ℕ) (p : Nodes) (s : SoFar) (old now : List Use) (first reads : ℕ)
      (so_far : HasMade d r q h folding n p s old now first reads) where
    over-is : is_over folding f s.end s.broken ≡ is_over folding f (end_of q (made n)) (list_any fails (made n))
    over-is = let e = so_far.told.end in let b = so_far.told.broken in cc

    -- no more than were asked for
    pub made-count : s.columns ≤ n
    made-count = let e = so_far.told.columns in let a = made-few (all_rows d) d f q h folding n in omega arith

    pub made-last : (m : ℕ) → n ≤ m → is_over folding f s.end s.broken ≡ true →
        HasMade d r q h folding m p s old now first reads
    made-last m le over =
        let same : made m ≡ made n = made-over (all_rows d) d f q h folding n m le (sym over-is ∙ over) in
        record {
          told = rw same so_far.told;
          frags = rw same so_far.frags;
          uses = rw same so_far.uses;
          cost = rw same so_far.cost;
        }

    pub next-cost : (m reads' : ℕ) → n + 1 ≤ m → is_over folding f s.end s.broken ≡ false →
        reads' ≤ reads + look_cost (all_rows d) d f s.end h → reads' ≤ first + looks_cost d f q h (made m)
    next-cost m reads' le over more =
        let is : made (n + 1) ≡ made n ++ column (all_rows d) d f (end_of q (made n)) h ∷ [] =
        made-more (all_rows d) d f q h folding n (sym over-is ∙ over) in
        let cost = cost-one d f h q (made n) (column (all_rows d) d f (end_of q (made n)) h) in
        let all : looks_cost d f q h (made (n + 1)) ≡ looks_cost d f q h (made n)
        + look_cost (all_rows d) d f (end_of q (made n)) h = ap (looks_cost d f q h) is ∙ cost in
        let at : look_cost (all_rows d) d f s.end h ≡ look_cost (all_rows d) d f (end_of q (made n)) h =
        ap (λ t. look_cost (all_rows d) d f t h) so_far.told.end in
        let later = cost-of-first d f h folding q (n + 1) m le in
        let before = so_far.cost in
        omega arith

    pub made-next : (p' : Nodes) (s' : SoFar) (now' : List Use) (reads' : ℕ) → is_over folding f s.end s.broken ≡ false →
        UsesEnter d →
        ((q : Token) (cs : List Column) → IsSoFar f q h cs s →
        IsSoFar f q h (cs ++ column (all_rows d) d f s.end h ∷ []) s') →
        ((q : Token) (cs : List Column) → end_of q cs ≡ s.end → AreFragments d p r q h cs s.frags →
        AreFragments d p' r q h (cs ++ column (all_rows d) d f s.end h ∷ []) s'.frags) →
        now' ≡ after_uses d now (column (all_rows d) d f s.end h).uses →
        reads' ≤ reads + look_cost (all_rows d) d f s.end h → HasMade d r q h folding (n + 1) p' s' old now' first reads'
    made-next p' s' now' reads' over enter told frags uses more =
        let is : made (n + 1) ≡ made n ++ column (all_rows d) d f s.end h ∷ [] =
        made-more (all_rows d) d f q h folding n (sym over-is ∙ over)
        ∙ ap (λ t. made n ++ column (all_rows d) d f t h ∷ []) (sym so_far.told.end) in
        record {
          told = rw is (told q (made n) so_far.told);
          frags = rw is (frags q (made n) (sym so_far.told.end) so_far.frags);
          uses = uses ∙ ap (λ b. after_uses d b (column (all_rows d) d f s.end h).uses) so_far.uses
              ∙ enter.one_list old (uses_of (made n)) (column (all_rows d) d f s.end h).uses
              ∙ ap (after_uses d old) (sym (ap uses_of is ∙ uses-one (made n) (column (all_rows d) d f s.end h)));
          cost = next-cost (n + 1) reads' (omega arith) over more;
        }

-- ---- sound data

pub row-flow : (d : FlowsData) → IsSound d → (r : ℕ) → r < length d.rows → (row_of d r).flow < length d.flows
row-flow d sound r lt = (sound.rows r no_row lt).flow

-- the rows in a row's flow have items
pub some-items : (d : FlowsData) → IsSound d → (r : ℕ) → r < length d.rows →
    All (λ s. 0 < length (flow_in d s).items) (rows_in (flow_in d r))
some-items d sound r lt = λ k e in_rows. (good-rows d sound r lt k e in_rows).1

-- where a column ends is the flow's end or a place before it
pub column-place : (d : FlowsData) → ((f : ℕ) → f < length d.flows → FlowIsSound d f) → (f : ℕ) → f < length d.flows →
    (t : Token) (h : ℕ) → IsPlaceBefore d (flow_of d f) t → IsPlace d (flow_of d f) (column (all_rows d) d (flow_of d f) t h).end
column-place d law f lt t h place = ((law f lt).advances.column_advances t (Some h) place).place

-- ---- a row piece that is added

pub added-grows : {A E : Type 0} (out : Result A E) (p m : Nodes) (node : Node) → OnOk out (m ≡ trial_more p node) →
    OnErr out (m ≡ p) → Grows p m
added-grows (Ok id) p m node ok err = grows-trial p m node ok
added-grows (Err e) p m node ok err = grows-same p m err

pub added-piece : {E : Type 0} (out : Result FragId E) (p m : Nodes) (r : ℕ) (q start : Token) (ids : List FragId) → start ≡ q →
    OnOk out (m ≡ trial_more p (RowPiece r start 0 None ids)) → IfOk out (λ id. id ≡ Trial (length p.trial)) →
    IfOk out (λ id. (trees : PlainTrees) → AllStandFor p ids trees → StandsFor m id (row_piece r q 0 None trees))
added-piece (Ok id) p m r q start ids is ok at = λ trees stand. rw at (piece-made p m r q start ids trees is ok stand)
added-piece (Err e) p m r q start ids is ok at = tt

-- ---- one more column, however it was made

pub on-ok : {A E : Type 0} (r : Result A E) {P : Type 0} → P → OnOk r P
on-ok (Ok v) p = p
on-ok (Err e) p = tt

module _ {E : Type 0} (next : Result SoFar E) (d : FlowsData) (r : ℕ) (h : ℕ) (before : SoFar) (out : ColumnOut) (f g : Flow)
    (same : f ≡ g) (column_is : IsColumn h (column (all_rows d) d g before.end h) out) where
  pub told-next : IfOk next (λ s. (q : Token) (h : ℕ) (cs : List Column) (c : Column) → IsSoFar g q h cs before →
      IsColumn h c out → IsSoFar g q h (cs ++ c ∷ []) s) →
      IfOk next (λ s. (q : Token) (cs : List Column) → IsSoFar f q h cs before →
      IsSoFar f q h (cs ++ column (all_rows d) d f before.end h ∷ []) s)
  told-next step = rw same (if-ok next _ _ (λ s all. λ q cs told. all q h cs (column (all_rows d) d g before.end h) told column_is) step)

  pub place-next : IsPlace d f (column (all_rows d) d f before.end h).end → IfOk next (λ s. s.end ≡ out.end) →
      IfOk next (λ s. IsPlace d f s.end)
  place-next place step =
      let at : out.end ≡ (column (all_rows d) d f before.end h).end = rw same column_is.end in
      if-ok next (λ s. s.end ≡ out.end) (λ s. IsPlace d f s.end) (λ s is. subst (λ t. IsPlace d f t) (sym (is ∙ at)) place) step

pub frags-next : {E : Type 0} (next : Result SoFar E) (d : FlowsData) (p m : Nodes) (r : ℕ) (h : ℕ) (before : SoFar)
    (id : FragId) (c : Column) → Grows p m → StandsFor m id (tree_of_column d (row_of d r).flow before.end h) →
    IfOk next (λ s. s.frags ≡ before.frags ++ id ∷ []) →
    IfOk next (λ s. (q : Token) (cs : List Column) → end_of q cs ≡ before.end → AreFragments d p r q h cs before.frags →
    AreFragments d m r q h (cs ++ c ∷ []) s.frags)
frags-next next d p m r h before id c grows one step =
    if-ok next _ _ (λ s is. λ q cs at stand. rw is (frags-more d p m r q before.end h cs c before.frags id grows at stand one)) step
