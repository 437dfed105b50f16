-- A fragment made kept, node by node.
use Rattle.std.proofs.Common.{Result, Ok, Err, IfOk, OnOk, IfSome, ◌≡◌, ◌≢◌, ℕ, suc, ◌+◌, ◌<◌, List, [], ◌∷◌, ◌++◌}
use Rattle.std.proofs.Common.{length, Option, Some, None, All, refl, sym, ◌∙◌, ap, arith, slice_get, take, append_assoc}
use Rattle.std.proofs.Common.{length-append, get_or, add-one}
use Rattle.std.proofs.Math.Seq.{take-suc, take-length}
use Rattle.std.proofs.lemmas.List.{append-nil}
use Rattle.std.specs.List.{AllZip}
use Rattle.std.proofs.lemmas.List.Elements.{AllZip-push, All-weaker, All-push, All-get_or}
use Rattle.std.proofs.lemmas.Option.{slice_get-get_or, slice_get_within, get_or_from_slice_get}
use Rattle.mc_base.specs.PlainTree.{PlainTree, PlainTrees, atom, piece, row_piece, column, no_trees, more_trees}
use Rattle.mc_base.specs.declared.fragment.FragId.{FragId}
use Rattle.mc_base.specs.declared.fragment.FragId.TheVariants.{Kept, Trial}
use Rattle.mc_base.specs.declared.fragment.Node.{Node}
use Rattle.mc_base.specs.declared.fragment.Node.TheVariants.{Atom, Piece, RowPiece, Column}
use Rattle.frag_pool.specs.Nodes.{Nodes, node_of, node_with, ids_of, IsKept, IsLive, SameTrial, kept_more, IsOverKept}
use Rattle.frag_pool.specs.Standing.{StandsFor, AllStandFor, Equals}
use Rattle.frag_pool.proofs.Closed.{get-left, get-last}
use Rattle.frag_pool.proofs.Stays.{Grows, stands-growing}

-- how far up a trial node stands
abbrev pub steps_up : FragId → ℕ
steps_up (Kept n) = 0
steps_up (Trial n) = suc n

abbrev pub ids_in_some : Option Node → List FragId
ids_in_some None = []
ids_in_some (Some node) = ids_of node

-- the ids in the node of an id
abbrev pub ids_at : Nodes → FragId → List FragId
ids_at p id = ids_in_some (node_of p id)

-- so far the first i of these ids are kept in now
pub record IsPromoting (old : Nodes) (ids : List FragId) (i : ℕ) (now : Nodes) (made : List FragId) : Type 0 where
  pub same : SameTrial old now
  pub kept : All IsKept made
  pub live : All (IsLive now) made
  pub equal : AllZip (λ id m. Equals old id now m) (take i ids) made
  pub still : All IsKept ids → (made ≡ take i ids) × (now ≡ old)

-- ---- a step

grows-same : (old new : Nodes) → SameTrial old new → Grows old new
grows-same old new s =
    record { more_kept = s.more_kept; more_trial = []; kept = s.kept; trial = s.trial ∙ sym (append-nil old.trial) }

same-trans : (p q r : Nodes) → SameTrial p q → SameTrial q r → SameTrial p r
same-trans p q r s t = record {
  more_kept = s.more_kept ++ t.more_kept;
  kept = t.kept ∙ ap (λ xs. xs ++ t.more_kept) s.kept ∙ append_assoc p.kept s.more_kept t.more_kept;
  trial = t.trial ∙ s.trial;
}

pub live-growing : (old new : Nodes) → SameTrial old new → (id : FragId) → IsLive old id → IsLive new id
live-growing old new s (Kept n) lt = rw s.kept (omega (arith, length-append old.kept s.more_kept))
live-growing old new s (Trial n) lt = rw s.trial lt

zip-weaker : {A B : Type 0} (P Q : A → B → Type 0) → ((a : A) (b : B) → P a b → Q a b) → (xs : List A) (ys : List B) →
    AllZip P xs ys → AllZip Q xs ys
zip-weaker P Q f [] [] h = h
zip-weaker P Q f [] (y ∷ ys) h = h
zip-weaker P Q f (x ∷ xs) [] h = h
zip-weaker P Q f (x ∷ xs) (y ∷ ys) h = (f x y h.0, zip-weaker P Q f xs ys h.1)

-- one more id is kept
pub promoting-step : (old now later : Nodes) (ids made : List FragId) (i : ℕ) (kid m : FragId) →
    IsPromoting old ids i now made → i < length ids → kid ≡ get_or ids i kid → SameTrial now later → IsKept m → IsLive later m →
    Equals now kid later m →
    (IsKept kid → (m ≡ kid) × (later ≡ now)) → IsPromoting old ids (i + 1) later (made ++ m ∷ [])
promoting-step old now later ids made i kid m so_far lt at same kept live equal still = record {
  same = same-trans old now later so_far.same same;
  kept = All-push IsKept made m so_far.kept kept;
  live = All-push (IsLive later) made m (All-weaker (IsLive now) (IsLive later) (live-growing now later same) made so_far.live)
      live;
  equal = rw taken (AllZip-push (λ id m. Equals old id later m) (take i ids) made kid m
      (zip-weaker (λ id m. Equals old id now m) (λ id m. Equals old id later m)
      (λ id m e tree s. stands-growing now later (grows-same now later same) m tree (e tree s)) (take i ids) made so_far.equal)
      (λ tree s. equal tree (stands-growing old now (grows-same old now so_far.same) kid tree s)));
  still = λ all. let k : IsKept kid = rw at (All-get_or IsKept ids i kid lt all) in (
    ap (λ xs. xs ++ m ∷ []) (so_far.still all).0 ∙ ap (λ x. take i ids ++ x ∷ []) (still k).0 ∙ sym taken,
    (still k).1
        ∙ (so_far.still all).1,
  );
}
  where
    taken : take (i + 1) ids ≡ take i ids ++ kid ∷ []
    taken = rw add-one (take-suc ids i kid lt ∙ ap (λ x. take i ids ++ x ∷ []) (sym at))

-- ---- the node with the ids that were kept

zip-stands : (old now : Nodes) (ids made : List FragId) → AllZip (λ id m. Equals old id now m) ids made → (trees : PlainTrees) →
    AllStandFor old ids trees → AllStandFor now made trees
unfolding StandsFor
zip-stands old now [] [] equal no_trees s = s
zip-stands old now [] [] equal (more_trees first rest) s = s
zip-stands old now [] (m ∷ made) equal trees s = absurd equal
zip-stands old now (id ∷ ids) [] equal trees s = absurd equal
zip-stands old now (id ∷ ids) (m ∷ made) equal no_trees s = s
zip-stands old now (id ∷ ids) (m ∷ made) equal (more_trees first rest) s =
    (equal.0 first s.0, zip-stands old now ids made equal.1 rest s.1)

-- the kept node that holds the ids that were kept
pub promoting-end : (old now : Nodes) (n : ℕ) (node : Node) (made : List FragId) →
    node_of old (Trial n) ≡ Some node → IsPromoting old (ids_of node) (length (ids_of node)) now made →
    Equals old (Trial n) (kept_more now (node_with node made)) (Kept (length now.kept))
unfolding StandsFor
promoting-end old now n node made at so_far = go
  where
    final : Nodes
    final = kept_more now (node_with node made)

    grows : Grows now final
    grows = record { more_kept = node_with node made ∷ []; more_trial = []; kept = refl; trial = sym (append-nil now.trial) }

    last : node_of final (Kept (length now.kept)) ≡ Some (node_with node made)
    last = get-last now.kept (node_with node made)

    equal : AllZip (λ id m. Equals old id final m) (ids_of node) made
    equal = zip-weaker (λ id m. Equals old id now m) (λ id m. Equals old id final m)
        (λ id m e tree s. stands-growing now final grows m tree (e tree s)) (ids_of node) made
        (rw (take-length (ids_of node)) at so_far.equal)

    is : (other : Node) → node ≡ other → node_of final (Kept (length now.kept)) ≡ Some (node_with other made)
    is other same = last ∙ ap (λ one. Some (node_with one made)) same

    over : (ids : List FragId) (other : Node) → node ≡ other → ids_of other ≡ ids →
        AllZip (λ id m. Equals old id final m) ids made
    over ids other same has = rw (ap ids_of same ∙ has) at equal

    go : (tree : PlainTree) → StandsFor old (Trial n) tree → StandsFor final (Kept (length now.kept)) tree
    go (atom item y) s = is (Atom item y) (cc)
    go (piece owner starts y bottom kids) s =
        let same : node ≡ Piece owner starts y bottom s.0 = cc in
        (made, is _ same, zip-stands old final s.0 made (over s.0 _ same refl) kids s.2)
    go (row_piece row from y height columns) s =
        let same : node ≡ RowPiece row from y height s.0 = cc in
        (made, is _ same, zip-stands old final s.0 made (over s.0 _ same refl) columns s.2)
    go (column flow from end extent kids) s =
        let same : node ≡ Column flow from end extent s.0 = cc in
        (made, is _ same, zip-stands old final s.0 made (over s.0 _ same refl) kids s.2)

-- ---- as the code has it

pub node-same : (old now : Nodes) → SameTrial old now → (id : FragId) → IsLive old id → (node : Node) →
    node_of now id ≡ Some node → node_of old id ≡ Some node
node-same old now s (Kept n) live node at =
    let here : slice_get old.kept n ≡ Some (get_or old.kept n node) = slice_get-get_or old.kept n node live in
    let there : slice_get now.kept n ≡ Some (get_or old.kept n node) = rw s.kept (get-left old.kept s.more_kept _ n here) in
    cc
node-same old now s (Trial n) live node at = rw (← s.trial) at

pub promoting-round : (old now later : Nodes) (id : FragId) (node : Node) (made : List FragId) (i : ℕ) (kid m : FragId) →
    IsLive old id → IsPromoting old (ids_at old id) i now made → node_of now id ≡ Some node →
    slice_get (ids_of node) i ≡ Some kid →
    SameTrial now later → IsKept m → IsLive later m → Equals now kid later m → (IsKept kid → (m ≡ kid) × (later ≡ now)) →
    IsPromoting old (ids_at old id) (i + 1) later (made ++ m ∷ [])
promoting-round old now later id node made i kid m live so_far at read same kept lives equal still =
    let ids_are : ids_at old id ≡ ids_of node = ap ids_in_some (node-same old now so_far.same id live node at) in
    let before : IsPromoting old (ids_of node) i now made = rw ids_are at so_far in
    rw ids_are (promoting-step old now later (ids_of node) made i kid m before (slice_get_within (ids_of node) i kid read)
    (sym (get_or_from_slice_get (ids_of node) i kid kid read)) same kept lives equal still)

-- at the end, with the answer of keep
pub promoting-equals : (old now new : Nodes) (id made_id : FragId) (node : Node) (made : List FragId) (i : ℕ) →
    IsLive old id → ((n : ℕ) → id ≢ Kept n) → IsPromoting old (ids_at old id) i now made → node_of now id ≡ Some node →
    i ≡ length (ids_of node) →
    new ≡ kept_more now (node_with node made) → made_id ≡ Kept (length now.kept) → Equals old id new made_id
promoting-equals old now new (Kept n) made_id node made i live not so_far at end is_new is_id = absurd (not n refl)
promoting-equals old now new (Trial n) made_id node made i live not so_far at end is_new is_id =
    let was : node_of old (Trial n) ≡ Some node = node-same old now so_far.same (Trial n) live node at in
    let whole : IsPromoting old (ids_of node) (length (ids_of node)) now made = rw (end, ap ids_in_some was) at so_far in
    rw (is_new, is_id) (promoting-end old now n node made was whole)

node-with-own : (node : Node) → node_with node (ids_of node) ≡ node
node-with-own (Atom item y) = refl
node-with-own (Piece owner starts y bottom kids) = refl
node-with-own (RowPiece row from y height columns) = refl
node-with-own (Column flow from end extent kids) = refl

-- where all ids are kept ones, the node itself is kept
pub promoting-one : (old now new : Nodes) (id made_id : FragId) (node : Node) (made : List FragId) (i : ℕ) →
    IsLive old id → IsPromoting old (ids_at old id) i now made → node_of now id ≡ Some node → i ≡ length (ids_of node) →
    new ≡ kept_more now (node_with node made) → made_id ≡ Kept (length now.kept) → All IsKept (ids_of node) →
    (node_of old id ≡ Some node) × (made_id ≡ Kept (length old.kept)) × (new ≡ kept_more old node)
promoting-one old now new id made_id node made i live so_far at end is_new is_id all =
    let was : node_of old id ≡ Some node = node-same old now so_far.same id live node at in
    let whole : IsPromoting old (ids_of node) (length (ids_of node)) now made = rw (end, ap ids_in_some was) at so_far in
    let still = whole.still all in
    let own : made ≡ ids_of node = still.0 ∙ take-length (ids_of node) in (
      was,
      is_id ∙ ap (λ (p : Nodes). Kept (length p.kept)) still.1,
      is_new
          ∙ ap (λ (p : Nodes). kept_more p (node_with node made)) still.1 ∙ ap (λ xs. kept_more old (node_with node xs)) own
          ∙ ap (kept_more old) (node-with-own node),
    )

pub if-ok : {A E : Type 0} (r : Result A E) (P : A → Type 0) → ((v : A) → r ≡ Ok v → P v) → IfOk r P
if-ok (Ok v) P f = f v refl
if-ok (Err e) P f = tt

pub on-ok : {A E : Type 0} (r : Result A E) (P : Type 0) → ((v : A) → r ≡ Ok v → P) → OnOk r P
on-ok (Ok v) P f = f v refl
on-ok (Err e) P f = tt

pub if-some : {A : Type 0} (o : Option A) (P : A → Type 0) → ((v : A) → o ≡ Some v → P v) → IfSome o P
if-some None P f = tt
if-some (Some v) P f = f v refl

pub over-kept : (p : Nodes) (id : FragId) → IsOverKept p id → (node : Node) → node_of p id ≡ Some node → All IsKept (ids_of node)
over-kept p (Kept n) over node at = absurd over
over-kept p (Trial n) over node at = over node at
