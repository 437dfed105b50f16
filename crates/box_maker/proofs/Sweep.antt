-- The numbers after nodes, gathered from the last node to the first.
use Rattle.std.proofs.Common.{◌≡◌, ℕ, suc, ◌+◌, ◌<◌, ◌≤◌, ◌≢◌, ◌++◌, max, List, [], ◌∷◌, length, set, get_or, Option, Some}
use Rattle.std.proofs.Common.{None, refl, sym, ap, ◌∙◌, subst, arith}
use Rattle.std.proofs.Common.{length-append, get_or-set_other, get_or-set_same, length-set, ◌⊎◌, inl, inr}
use Rattle.std.specs.Prelude.{slice_index}
use Rattle.std.proofs.lemmas.Option.{slice_get-get_or, none-some, same_Some}
use Rattle.html_grammar.specs.declared.dom.Attribute.{Attribute}
use Rattle.html_grammar.specs.declared.dom.DomNode.{DomNode}
use Rattle.html_grammar.specs.Tree.{Forest, Nil, Element, Words, nodes_from}
use Rattle.box_data.specs.BoxTree.{node_count}
use Rattle.box_maker.specs.Ends.{HasEnds, raised}

-- the numbers after all these nodes are met, the last first, of which the first has number k
abbrev pub swept : (k : ℕ) → List DomNode → List ℕ → List ℕ
swept k [] ends = ends
swept k (node ∷ nodes) ends =
    let later = swept (suc k) nodes ends in
    let end = max (get_or later k 0) (suc k) in
    raised node.parent end (set later k end)

pub length-nodes_from : (parent : Option ℕ) (k : ℕ) (f : Forest) → length (nodes_from parent k f) ≡ node_count f
length-nodes_from parent k Nil = refl
length-nodes_from parent k (Words at text next) = ap suc (length-nodes_from parent (suc k) next)
length-nodes_from parent k (Element at name attributes kids next) =
    let inside = nodes_from (Some k) (suc k) kids in
    let a = length-nodes_from (Some k) (suc k) kids in
    let b = length-nodes_from parent (suc k + length inside) next in
    omega (arith, length-append inside (nodes_from parent (suc k + length inside) next), a, b)

swept-append : (k : ℕ) (xs ys : List DomNode) (ends : List ℕ) →
    swept k (xs ++ ys) ends ≡ swept k xs (swept (k + length xs) ys ends)
swept-append k [] ys ends = let z : k + 0 ≡ k = omega arith in rw z
swept-append k (x ∷ xs) ys ends =
    let e : k + suc (length xs) ≡ suc k + length xs = omega arith in
    rw (e, swept-append (suc k) xs ys ends)

abbrev at : List ℕ → ℕ → ℕ
at xs j = get_or xs j 0

-- for each node of these the number after it and those in it, by a function
abbrev EndsBy : (ℕ → ℕ) → (k : ℕ) → Forest → Type 0
EndsBy g k Nil = Unit {0}
EndsBy g k (Words o text next) = (g k ≡ suc k) × EndsBy g (suc k) next
EndsBy g k (Element o name attributes kids next) =
    (g k ≡ suc k + node_count kids) × EndsBy g (suc k) kids × EndsBy g (suc k + node_count kids) next

EndsBy-same : (g h : ℕ → ℕ) (k : ℕ) (f : Forest) → EndsBy g k f → ((j : ℕ) → k ≤ j → j < k + node_count f → h j ≡ g j) →
    EndsBy h k f
EndsBy-same g h k Nil e same = tt
EndsBy-same g h k (Words o text next) e same =
    (same k (omega arith) (omega arith) ∙ e.0, EndsBy-same g h (suc k) next e.1 (λ j le lt. same j (omega arith) (omega arith)))
EndsBy-same g h k (Element o name attributes kids next) e same = (
  same k (omega arith) (omega arith) ∙ e.0,
  EndsBy-same g h (suc k) kids e.1 (λ j le lt. same j (omega arith) (omega arith)),
  EndsBy-same g h (suc k + node_count kids) next e.2 (λ j le lt. same j (omega arith) (omega arith)),
)

HasEnds-by : (ends : List ℕ) (k : ℕ) (f : Forest) → k + node_count f ≤ length ends → EndsBy (at ends) k f → HasEnds ends k f
HasEnds-by ends k Nil le e = tt
HasEnds-by ends k (Words o text next) le e =
    (slice_get-get_or ends k 0 (omega arith) ∙ ap Some e.0, HasEnds-by ends (suc k) next (omega arith) e.1)
HasEnds-by ends k (Element o name attributes kids next) le e = (
  slice_get-get_or ends k 0 (omega arith) ∙ ap Some e.0,
  HasEnds-by ends (suc k) kids (omega arith) e.1,
  HasEnds-by ends (suc k + node_count kids) next (omega arith) e.2,
)

-- the parent, if any, is before this number
abbrev IsBefore : Option ℕ → ℕ → Type 0
IsBefore parent k = (q : ℕ) → parent ≡ Some q → q < k

length-raised : (parent : Option ℕ) (least : ℕ) (ends : List ℕ) → length (raised parent least ends) ≡ length ends
length-raised None least ends = refl
length-raised (Some p) least ends = length-set ends p (max (slice_index ends p) least)

raised-other : (parent : Option ℕ) (least : ℕ) (ends : List ℕ) (j : ℕ) → (parent ≡ Some j → ⊥) →
    at (raised parent least ends) j ≡ at ends j
raised-other None least ends j other = refl
raised-other (Some p) least ends j other = let ne : j ≢ p = λ e. other (ap Some (sym e)) in rw get_or-set_other

raised-same : (parent : Option ℕ) (least : ℕ) (ends : List ℕ) (q : ℕ) → parent ≡ Some q → q < length ends →
    at (raised parent least ends) q ≡ max (at ends q) least
raised-same None least ends q is lt = absurd (none-some q is)
raised-same (Some p) least ends q is lt =
    let e : p ≡ q = same_Some p q is in
    rw (e, get_or-set_same)

-- what comes of the numbers s where these nodes are met
pub record IsSwept (parent : Option ℕ) (k : ℕ) (f : Forest) (s r : List ℕ) : Type 0 where
  pub same : length r ≡ length s
  pub ends : EndsBy (at r) k f
  pub others : (j : ℕ) → (j < k) ⊎ (k + node_count f ≤ j) → (parent ≡ Some j → ⊥) → at r j ≡ at s j
  pub top : (q : ℕ) → parent ≡ Some q → max (at r q) k ≡ max (at s q) (k + node_count f)

swept-nil : (parent : Option ℕ) (k : ℕ) (s : List ℕ) → IsSwept parent k Nil s s
swept-nil parent k s = record {
  same = refl;
  ends = tt;
  others = λ j far no. refl;
  top = λ q is. let z : k + 0 ≡ k = omega arith in rw z;
}

swept-element : (parent : Option ℕ) (k : ℕ) (o : ℕ) (name : List ℕ) (attributes : List Attribute) (kids next : Forest) (s s1 s2
    : List ℕ) →
    IsBefore parent k → suc k + node_count kids + node_count next ≤ length s →
    ((j : ℕ) → k ≤ j → j < suc k + node_count kids + node_count next → at s j ≡ 0) →
    IsSwept parent (suc k + node_count kids) next s s1 → IsSwept (Some k) (suc k) kids s1 s2 →
    let end = max (at s2 k) (suc k) in
    IsSwept parent k (Element o name attributes kids next) s (raised parent end (set s2 k end))
swept-element parent k o name attributes kids next s s1 s2 before le zeros first inner =
    let end = max (at s2 k) (suc k) in
    let s3 = set s2 k end in
    let r = raised parent end s3 in
    let no_k : (parent ≡ Some k → ⊥) = λ e. let lt = before k e in omega arith in
    let s1k : at s1 k ≡ 0 = first.others k (inl (omega arith)) no_k ∙ zeros k (omega arith) (omega arith) in
    let end_is : end ≡ suc k + node_count kids = inner.top k refl ∙ (rw s1k (omega arith)) in
    let size2 : k < length s2 = omega (arith, inner.same, first.same) in
    let size3 : length s3 ≡ length s2 = length-set s2 k end in
    let from_s2 : (j : ℕ) → (j ≡ k → ⊥) → (parent ≡ Some j → ⊥) → at r j ≡ at s2 j = λ j ne no.
    raised-other parent end s3 j no ∙ get_or-set_other s2 k j end 0 ne in
    let past : (j : ℕ) → k < j → parent ≡ Some j → ⊥ = λ j lt e. let b = before j e in omega arith in
    let self : at r k ≡ end = raised-other parent end s3 k no_k ∙ get_or-set_same s2 k end 0 size2 in
    record {
      same = length-raised parent end s3 ∙ size3 ∙ inner.same ∙ first.same;
      ends = (
        self ∙ end_is,
        EndsBy-same (at s2) (at r) (suc k) kids inner.ends (λ j le2 lt. from_s2 j (λ e. omega arith) (past j (omega arith))),
        EndsBy-same (at s1) (at r) (suc k + node_count kids) next first.ends
            (λ j le2 lt. from_s2 j (λ e. omega arith) (past j (omega arith))
            ∙ inner.others j (inr le2) (λ e. let e1 = same_Some k j e in omega arith)),
      );
      others = λ j far no. elim far [
        | inl lt ↦
            from_s2 j (λ e. omega arith) no ∙ inner.others j (inl (omega arith)) (λ e. let e1 = same_Some k j e in omega arith)
            ∙ first.others j (inl (omega arith)) no
        | inr ge ↦
            from_s2 j (λ e. omega arith) no ∙ inner.others j (inr (omega arith)) (λ e. let e1 = same_Some k j e in omega arith)
            ∙ first.others j (inr (omega arith)) no
      ];
      top = λ q is.
          let lt : q < k = before q is in
          let within : q < length s3 = omega (arith, size3, size2) in
          let now : at r q ≡ max (at s3 q) end = raised-same parent end s3 q is within in
          let kept : at s3 q ≡ at s2 q = get_or-set_other s2 k q end 0 (λ e. omega arith) in
          let inside : at s2 q ≡ at s1 q = inner.others q (inl (omega arith)) (λ e. let e1 = same_Some k q e in omega arith) in
          let behind = first.top q is in
          omega (arith, now, kept, inside, behind, end_is);
    }

swept-words : (parent : Option ℕ) (k : ℕ) (o : ℕ) (text : List ℕ) (next : Forest) (s s1 : List ℕ) →
    IsBefore parent k → suc k + node_count next ≤ length s →
    ((j : ℕ) → k ≤ j → j < suc k + node_count next → at s j ≡ 0) →
    IsSwept parent (suc k) next s s1 →
    let end = max (at s1 k) (suc k) in
    IsSwept parent k (Words o text next) s (raised parent end (set s1 k end))
swept-words parent k o text next s s1 before le zeros first =
    let end = max (at s1 k) (suc k) in
    let z : suc k ≡ suc k + 0 = omega arith in
    let no_inner : IsSwept (Some k) (suc k) Nil s1 s1 = swept-nil (Some k) (suc k) s1 in
    let e = swept-element parent k o [] [] Nil next s s1 s1 before (omega arith) (λ j a b. zeros j a (omega arith))
    (subst (λ n. IsSwept parent n next s s1) z first) no_inner in
    record {
      same = e.same;
      ends = (e.ends.0 ∙ sym z, subst (λ n. EndsBy (at (raised parent end (set s1 k end))) n next) (sym z) e.ends.2);
      others = λ j far no. e.others j (elim far [ inl lt ↦ inl lt | inr ge ↦ inr (omega arith) ]) no;
      top = λ q is. e.top q is ∙ ap (λ n. max (at s q) n) (omega arith);
    }

pub swept-forest : (parent : Option ℕ) (k : ℕ) (f : Forest) (s : List ℕ) → IsBefore parent k → k + node_count f ≤ length s →
    ((j : ℕ) → k ≤ j → j < k + node_count f → at s j ≡ 0) → IsSwept parent k f s (swept k (nodes_from parent k f) s)
swept-forest parent k Nil s before le zeros = swept-nil parent k s
swept-forest parent k (Words o text next) s before le zeros =
    let s1 = swept (suc k) (nodes_from parent (suc k) next) s in
    let first = swept-forest parent (suc k) next s (λ q e. let b =
    before q e in omega arith) (omega arith) (λ j a b. zeros j (omega arith) (omega arith)) in
    swept-words parent k o text next s s1 before (omega arith) (λ j a b. zeros j a (omega arith)) first
swept-forest parent k (Element o name attributes kids next) s before le zeros =
    let inside = nodes_from (Some k) (suc k) kids in
    let size : length inside ≡ node_count kids = length-nodes_from (Some k) (suc k) kids in
    let start = suc k + length inside in
    let behind = nodes_from parent start next in
    let s1 = swept start behind s in
    let s2 = swept (suc k) inside s1 in
    let start_is : start ≡ suc k + node_count kids = ap (λ n. suc k + n) size in
    let first0 = swept-forest parent start next s (λ q e. let b =
    before q e in omega arith) (omega arith) (λ j a b. zeros j (omega arith) (omega arith)) in
    let first : IsSwept parent (suc k + node_count kids) next s s1 = subst (λ n. IsSwept parent n next s s1) start_is first0 in
    let no_k : (j : ℕ) → k < j → parent ≡ Some j → ⊥ = λ j lt e. let b = before j e in omega arith in
    let inner = swept-forest (Some k) (suc k) kids s1 (λ q e. let e1 = same_Some k q e in omega arith) (omega (arith, first.same))
    (λ j a b. first.others j (inl (omega arith)) (no_k j (omega arith)) ∙ zeros j (omega arith) (omega arith)) in
    let whole = swept-element parent k o name attributes kids next s s1 s2 before (omega arith) (λ j a b. zeros j a (omega
    arith)) first inner in
    subst (λ later. let end = max (at later k) (suc k) in IsSwept parent k (Element o name attributes kids next) s (raised
    parent end (set later k end)))
    (sym (swept-append (suc k) inside behind s)) whole

-- of a whole document's nodes, from zeros on
pub HasEnds-swept : (nodes : List DomNode) (tree : Forest) (s : List ℕ) → nodes ≡ nodes_from None 0 tree →
    length s ≡ length nodes →
    ((j : ℕ) → at s j ≡ 0) → HasEnds (swept 0 nodes s) 0 tree
HasEnds-swept nodes tree s is size zeros =
    let count : length nodes ≡ node_count tree = ap length is ∙ length-nodes_from None 0 tree in
    let w = swept-forest None 0 tree s (λ q e. absurd (none-some q e)) (omega arith) (λ j a b. zeros j) in
    let r : HasEnds (swept 0 (nodes_from None 0 tree) s) 0 tree =
    HasEnds-by (swept 0 (nodes_from None 0 tree) s) 0 tree (omega (arith, w.same)) w.ends in
    subst (λ xs. HasEnds (swept 0 xs s) 0 tree) (sym is) r
