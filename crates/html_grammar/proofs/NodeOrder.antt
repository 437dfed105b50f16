-- How the nodes of a tree stand in preorder.
use Rattle.std.proofs.Common.{◌≡◌, ℕ, zero, suc, ◌+◌, ◌-◌, ◌<◌, ◌≤◌, List, [], ◌∷◌, ◌++◌, length, Option, None, Some, refl, sym}
use Rattle.std.proofs.Common.{ap, ◌∙◌, subst, arith, inl, inr, append_assoc, length-append}
use Rattle.std.specs.Prelude.{◌⊎◌, ◌↔◌, slice_get, IsTrue, IsSome}
use Rattle.std.specs.Option.{option_and_then}
use Rattle.std.proofs.lemmas.Bool.{cases_lt}
use Rattle.html_grammar.specs.declared.dom.Attribute.{Attribute}
use Rattle.html_grammar.specs.declared.dom.DomNode.{DomNode}
use Rattle.html_grammar.specs.declared.dom.NodeKind.{NodeKind}
use Rattle.html_grammar.specs.declared.dom.NodeKind.TheVariants as kinds
use Rattle.html_grammar.specs.Tree.{Forest, Nil, Element, Words, element_node, words_node, nodes_from}
use Rattle.html_grammar.specs.NodeOrder.{is_element_there, is_element_at, parent_at, above, IsInside}

-- ---- a list after another one

data Side (front : List DomNode) (i : ℕ) : Type 0 where
  before : i < length front → Side front i
  behind : (m : ℕ) → i ≡ length front + m → Side front i

side : (front : List DomNode) (i : ℕ) → Side front i
side front i = by_order (cases_lt i (length front))
  where
    by_order : ((i < length front) ⊎ (length front ≤ i)) → Side front i
    by_order (inl lt) = before lt
    by_order (inr le) = behind (i - length front) (omega arith)

get_front : (front rest : List DomNode) (i : ℕ) → i < length front → slice_get (front ++ rest) i ≡ slice_get front i
get_front [] rest i lt = absurd (omega arith)
get_front (x ∷ front) rest zero lt = refl
get_front (x ∷ front) rest (suc i) lt = get_front front rest i (omega arith)

get_behind : (front rest : List DomNode) (i m : ℕ) → i ≡ length front + m → slice_get (front ++ rest) i ≡ slice_get rest m
get_behind [] rest i m e = let same : i ≡ m = omega arith in ap (slice_get rest) same
get_behind (x ∷ front) rest zero m e = absurd (omega arith)
get_behind (x ∷ front) rest (suc i) m e = get_behind front rest i m (omega arith)

abbrev parent_in : Option DomNode → Option ℕ
parent_in found = option_and_then (λ (node : DomNode). node.parent) found

parent_front : (front rest : List DomNode) (i : ℕ) → i < length front → parent_at (front ++ rest) i ≡ parent_at front i
parent_front front rest i lt = ap parent_in (get_front front rest i lt)

parent_behind : (front rest : List DomNode) (i m : ℕ) → i ≡ length front + m → parent_at (front ++ rest) i ≡ parent_at rest m
parent_behind front rest i m e = ap parent_in (get_behind front rest i m e)

element_front : (front rest : List DomNode) (i : ℕ) → i < length front → IsTrue (is_element_at front i)
    → IsTrue (is_element_at (front ++ rest) i)
element_front front rest i lt h = ap is_element_there (get_front front rest i lt) ∙ h

element_behind : (front rest : List DomNode) (i m : ℕ) → i ≡ length front + m → IsTrue (is_element_at rest m)
    → IsTrue (is_element_at (front ++ rest) i)
element_behind front rest i m e h = ap is_element_there (get_behind front rest i m e) ∙ h

-- a node that has a parent is there
there : (nodes : List DomNode) (i p : ℕ) → parent_at nodes i ≡ Some p → i < length nodes
there [] i p e = absurd cc
there (x ∷ nodes) zero p e = omega arith
there (x ∷ nodes) (suc i) p e = let lt = there nodes i p e in omega arith

-- ---- each node stands in an element before it

abbrev kids_nodes : ℕ → Forest → List DomNode
kids_nodes k kids = nodes_from (Some k) (suc k) kids

abbrev next_nodes : Option ℕ → ℕ → Forest → Forest → List DomNode
next_nodes parent k kids next = nodes_from parent (suc k + length (kids_nodes k kids)) next

-- a node of a forest stands in what the forest stands in, or in an element of it
data Stands (parent : Option ℕ) (k : ℕ) (nodes : List DomNode) (i p : ℕ) : Type 0 where
  outside : parent ≡ Some p → Stands parent k nodes i p
  within : (e : ℕ) → p ≡ k + e → e < i → e < length nodes → IsTrue (is_element_at nodes e) → Stands parent k nodes i p

from_kids : (parent : Option ℕ) (k at : ℕ) (name : List ℕ) (attrs : List Attribute) (kids next : Forest) (i p : ℕ)
    → Stands (Some k) (suc k) (kids_nodes k kids) i p
    → Stands parent k (nodes_from parent k (Element at name attrs kids next)) (suc i) p
from_kids parent k at name attrs kids next i p (outside e) = let same : k ≡ p = cc
    in within 0 (omega arith) (omega arith) (omega arith) refl
from_kids parent k at name attrs kids next i p (within e is lt less h) =
    let all = length-append (kids_nodes k kids) (next_nodes parent k kids next) in
    within (suc e) (omega arith) (omega arith) (omega (arith, less, all))
    (element_front (kids_nodes k kids) (next_nodes parent k kids next) e less h)

from_next : (parent : Option ℕ) (k at : ℕ) (name : List ℕ) (attrs : List Attribute) (kids next : Forest) (i m p : ℕ)
    → i ≡ length (kids_nodes k kids) + m
    → Stands parent (suc k + length (kids_nodes k kids)) (next_nodes parent k kids next) m p
    → Stands parent k (nodes_from parent k (Element at name attrs kids next)) (suc i) p
from_next parent k at name attrs kids next i m p is (outside e) = outside e
from_next parent k at name attrs kids next i m p is (within e place lt less h) =
    let all = length-append (kids_nodes k kids) (next_nodes parent k kids next) in
    within (suc (length (kids_nodes k kids) + e)) (omega arith) (omega arith) (omega (arith, less, all))
    (element_behind (kids_nodes k kids) (next_nodes parent k kids next) (length (kids_nodes k kids) + e) e refl h)

stands : (parent : Option ℕ) (k : ℕ) (f : Forest) (i p : ℕ) → parent_at (nodes_from parent k f) i ≡ Some p
    → Stands parent k (nodes_from parent k f) i p
stands parent k Nil i p e = absurd cc
stands parent k (Element at name attrs kids next) zero p e = outside e
stands parent k (Element at name attrs kids next) (suc i) p e =
    by_side (stands (Some k) (suc k) kids i p) (λ m. stands parent (suc k + length (kids_nodes k kids)) next m p)
    (side (kids_nodes k kids) i)
  where
    by_side : (parent_at (kids_nodes k kids) i ≡ Some p → Stands (Some k) (suc k) (kids_nodes k kids) i p)
        → ((m : ℕ) → parent_at (next_nodes parent k kids next) m ≡ Some p
        → Stands parent (suc k + length (kids_nodes k kids)) (next_nodes parent k kids next) m p)
        → Side (kids_nodes k kids) i → Stands parent k (nodes_from parent k (Element at name attrs kids next)) (suc i) p
    by_side inner outer (before lt) =
        from_kids parent k at name attrs kids next i p
        (inner (sym (parent_front (kids_nodes k kids) (next_nodes parent k kids next) i lt) ∙ e))
    by_side inner outer (behind m is) =
        from_next parent k at name attrs kids next i m p is
        (outer m (sym (parent_behind (kids_nodes k kids) (next_nodes parent k kids next) i m is) ∙ e))
stands parent k (Words at text next) zero p e = outside e
stands parent k (Words at text next) (suc i) p e = by_next (stands parent (suc k) next i p e)
  where
    by_next : Stands parent (suc k) (nodes_from parent (suc k) next) i p
        → Stands parent k (nodes_from parent k (Words at text next)) (suc i) p
    by_next (outside e) = outside e
    by_next (within e place lt less h) = within (suc e) (omega arith) (omega arith) (omega arith) h

earlier_of_tree : (tree : Forest) (i p : ℕ) → parent_at (nodes_from None 0 tree) i ≡ Some p
    → (p < i) × IsTrue (is_element_at (nodes_from None 0 tree) p)
earlier_of_tree tree i p e = by_place (stands None 0 tree i p e)
  where
    by_place : Stands None 0 (nodes_from None 0 tree) i p → (p < i) × IsTrue (is_element_at (nodes_from None 0 tree) p)
    by_place (outside e) = absurd cc
    by_place (within place is lt less h) = let same : place ≡ p = omega arith
        in (omega arith, subst (λ (n : ℕ). IsTrue (is_element_at (nodes_from None 0 tree) n)) same h)

pub earlier : (nodes : List DomNode) (tree : Forest) (i p : ℕ) → nodes ≡ nodes_from None 0 tree → parent_at nodes i ≡ Some p
    → (p < i) × IsTrue (is_element_at nodes p)
earlier nodes tree i p is =
    subst (λ (ns : List DomNode). parent_at ns i ≡ Some p → (p < i) × IsTrue (is_element_at ns p)) (sym is)
    (earlier_of_tree tree i p)

-- what stands in an element has a parent, which is that one or a later one
record HasParent (q : ℕ) (nodes : List DomNode) (i : ℕ) : Type 0 where
  parent : ℕ
  is : parent_at nodes i ≡ Some parent
  later : q ≤ parent

has_parent : (q k : ℕ) (f : Forest) (i : ℕ) → q ≤ k → i < length (nodes_from (Some q) k f)
    → HasParent q (nodes_from (Some q) k f) i
has_parent q k Nil i le lt = absurd (omega arith)
has_parent q k (Element at name attrs kids next) zero le lt = record { parent = q; is = refl; later = omega arith }
has_parent q k (Element at name attrs kids next) (suc i) le lt =
    by_side (λ less. has_parent k (suc k) kids i (omega arith) less)
    (λ m less. has_parent q (suc k + length (kids_nodes k kids)) next m (omega arith) less) (side (kids_nodes k kids) i)
  where
    by_side : (i < length (kids_nodes k kids) → HasParent k (kids_nodes k kids) i)
        → ((m : ℕ) → m < length (next_nodes (Some q) k kids next) → HasParent q (next_nodes (Some q) k kids next) m)
        → Side (kids_nodes k kids) i → HasParent q (nodes_from (Some q) k (Element at name attrs kids next)) (suc i)
    by_side inner outer (before less) =
        let h = inner less in
        record {
          parent = h.parent;
          is = parent_front (kids_nodes k kids) (next_nodes (Some q) k kids next) i less ∙ h.is;
          later = omega (arith, h.later);
        }
    by_side inner outer (behind m is) =
        let all = length-append (kids_nodes k kids) (next_nodes (Some q) k kids next) in
        let h = outer m (omega (arith, all, is)) in
        record {
          parent = h.parent;
          is = parent_behind (kids_nodes k kids) (next_nodes (Some q) k kids next) i m is ∙ h.is;
          later = h.later;
        }
has_parent q k (Words at text next) zero le lt = record { parent = q; is = refl; later = omega arith }
has_parent q k (Words at text next) (suc i) le lt = let h = has_parent q (suc k) next i (omega arith) (omega arith)
    in record { parent = h.parent; is = h.is; later = h.later }

some_parent : (o : Option ℕ) (p : ℕ) → o ≡ Some p → IsSome o
some_parent None p e = absurd cc
some_parent (Some q) p e = refl

root_alone : (at : ℕ) (name : List ℕ) (attrs : List Attribute) (kids : Forest) (i : ℕ) → 0 < i
    → i < length (nodes_from None 0 (Element at name attrs kids Nil))
    → IsSome (parent_at (nodes_from None 0 (Element at name attrs kids Nil)) i)
root_alone at name attrs kids zero some lt = absurd (omega arith)
root_alone at name attrs kids (suc i) some lt =
    let all = length-append (kids_nodes 0 kids) [] in
    let less : i < length (kids_nodes 0 kids) = omega (arith, all, lt) in
    let h = has_parent 0 1 kids i (omega arith) less in
    some_parent _ h.parent (parent_front (kids_nodes 0 kids) [] i less ∙ h.is)

pub all_but_the_root : (nodes : List DomNode) (at : ℕ) (name : List ℕ) (attrs : List Attribute) (kids : Forest) (i : ℕ)
    → nodes ≡ nodes_from None 0 (Element at name attrs kids Nil) → 0 < i → i < length nodes → IsSome (parent_at nodes i)
all_but_the_root nodes at name attrs kids i is =
    subst (λ (ns : List DomNode). 0 < i → i < length ns → IsSome (parent_at ns i)) (sym is) (root_alone at name attrs kids i)

-- ---- what is inside a node stands after it, in one piece

-- the nodes after node i up to `end` have a parent from it on, and none after them has one of them
record Piece (k : ℕ) (nodes : List DomNode) (i : ℕ) : Type 0 where
  end : ℕ
  some : i < end
  most : end ≤ length nodes
  inside : (j : ℕ) → i < j → j < end → HasParent (k + i) nodes j
  outside : (j p : ℕ) → end ≤ j → parent_at nodes j ≡ Some p → (p < k + i) ⊎ (k + end ≤ p)

-- what a forest stands in comes before it
abbrev IsBefore : Option ℕ → ℕ → Type 0
IsBefore None k = Unit {0}
IsBefore (Some q) k = q < k

before_later : (parent : Option ℕ) (k m : ℕ) → k ≤ m → IsBefore parent k → IsBefore parent m
before_later None k m le h = tt
before_later (Some q) k m le h = omega arith

is_before : (parent : Option ℕ) (k p : ℕ) → IsBefore parent k → parent ≡ Some p → p < k
is_before None k p h e = absurd cc
is_before (Some q) k p h e = let same : q ≡ p = cc in omega arith

-- no node of a forest stands in a node between what it stands in and its first
not_between : (parent : Option ℕ) (k low : ℕ) (f : Forest) (j p : ℕ) → IsBefore parent low
    → parent_at (nodes_from parent k f) j ≡ Some p → (p < low) ⊎ (k ≤ p)
not_between parent k low f j p h e = by_place (stands parent k f j p e)
  where
    by_place : Stands parent k (nodes_from parent k f) j p → (p < low) ⊎ (k ≤ p)
    by_place (outside same) = inl (is_before parent low p h same)
    by_place (within place is lt less element) = inr (omega arith)

either_more : (a b c d p : ℕ) → a ≤ c → d ≤ b → (p < a) ⊎ (b ≤ p) → (p < c) ⊎ (d ≤ p)
either_more a b c d p low high (inl lt) = inl (omega arith)
either_more a b c d p low high (inr le) = inr (omega arith)

at_element : (parent : Option ℕ) (k at : ℕ) (name : List ℕ) (attrs : List Attribute) (kids next : Forest) → IsBefore parent k
    → Piece k (nodes_from parent k (Element at name attrs kids next)) 0
at_element parent k at name attrs kids next h = record {
  end = suc (length (kids_nodes k kids));
  some = omega arith;
  most = let all = length-append (kids_nodes k kids) (next_nodes parent k kids next) in omega (arith, all);
  inside = inside;
  outside = outside;
}
  where
    inside : (j : ℕ) → 0 < j → j < suc (length (kids_nodes k kids))
        → HasParent (k + 0) (nodes_from parent k (Element at name attrs kids next)) j
    inside zero some lt = absurd (omega arith)
    inside (suc j) some lt =
        let less : j < length (kids_nodes k kids) = omega arith in
        let p = has_parent k (suc k) kids j (omega arith) less in
        record {
          parent = p.parent;
          is = parent_front (kids_nodes k kids) (next_nodes parent k kids next) j less ∙ p.is;
          later = omega (arith, p.later);
        }

    behind_kids : (j p : ℕ) → Side (kids_nodes k kids) j → length (kids_nodes k kids) ≤ j
        → parent_at (kids_nodes k kids ++ next_nodes parent k kids next) j ≡ Some p
        → (p < k + 0) ⊎ (k + suc (length (kids_nodes k kids)) ≤ p)
    behind_kids j p (before lt) le e = absurd (omega arith)
    behind_kids j p (behind m is) le e =
        either_more k (suc k + length (kids_nodes k kids)) (k + 0) (k + suc (length (kids_nodes k kids))) p (omega arith)
        (omega arith)
        (not_between parent (suc k + length (kids_nodes k kids)) k next m p h
        (sym (parent_behind (kids_nodes k kids) (next_nodes parent k kids next) j m is) ∙ e))

    outside : (j p : ℕ) → suc (length (kids_nodes k kids)) ≤ j
        → parent_at (nodes_from parent k (Element at name attrs kids next)) j ≡ Some p
        → (p < k + 0) ⊎ (k + suc (length (kids_nodes k kids)) ≤ p)
    outside zero p le e = absurd (omega arith)
    outside (suc j) p le e = behind_kids j p (side (kids_nodes k kids) j) (omega arith) e

in_kids : (parent : Option ℕ) (k at : ℕ) (name : List ℕ) (attrs : List Attribute) (kids next : Forest) (i : ℕ)
    → IsBefore parent k → Piece (suc k) (kids_nodes k kids) i
    → Piece k (nodes_from parent k (Element at name attrs kids next)) (suc i)
in_kids parent k at name attrs kids next i h piece = record {
  end = suc piece.end;
  some = omega (arith, piece.some);
  most = let all = length-append (kids_nodes k kids) (next_nodes parent k kids next) in omega (arith, all, piece.most);
  inside = inside;
  outside = outside;
}
  where
    inside : (j : ℕ) → suc i < j → j < suc piece.end
        → HasParent (k + suc i) (nodes_from parent k (Element at name attrs kids next)) j
    inside zero some lt = absurd (omega arith)
    inside (suc j) some lt =
        let less : j < length (kids_nodes k kids) = omega (arith, lt, piece.most) in
        let p = piece.inside j (omega arith) (omega arith) in
        record {
          parent = p.parent;
          is = parent_front (kids_nodes k kids) (next_nodes parent k kids next) j less ∙ p.is;
          later = omega (arith, p.later);
        }

    by_side : (j p : ℕ) → Side (kids_nodes k kids) j → piece.end ≤ j
        → parent_at (kids_nodes k kids ++ next_nodes parent k kids next) j ≡ Some p
        → (p < k + suc i) ⊎ (k + suc piece.end ≤ p)
    by_side j p (before lt) le e =
        either_more (suc k + i) (suc k + piece.end) (k + suc i) (k + suc piece.end) p (omega arith) (omega arith)
        (piece.outside j p le (sym (parent_front (kids_nodes k kids) (next_nodes parent k kids next) j lt) ∙ e))
    by_side j p (behind m is) le e =
        let most = piece.most in
        either_more k (suc k + length (kids_nodes k kids)) (k + suc i) (k + suc piece.end) p (omega arith) (omega arith)
        (not_between parent (suc k + length (kids_nodes k kids)) k next m p h
        (sym (parent_behind (kids_nodes k kids) (next_nodes parent k kids next) j m is) ∙ e))

    outside : (j p : ℕ) → suc piece.end ≤ j → parent_at (nodes_from parent k (Element at name attrs kids next)) j ≡ Some p
        → (p < k + suc i) ⊎ (k + suc piece.end ≤ p)
    outside zero p le e = absurd (omega arith)
    outside (suc j) p le e = by_side j p (side (kids_nodes k kids) j) (omega arith) e

in_next : (parent : Option ℕ) (k at : ℕ) (name : List ℕ) (attrs : List Attribute) (kids next : Forest) (i m : ℕ)
    → i ≡ length (kids_nodes k kids) + m
    → Piece (suc k + length (kids_nodes k kids)) (next_nodes parent k kids next) m
    → Piece k (nodes_from parent k (Element at name attrs kids next)) (suc i)
in_next parent k at name attrs kids next i m is piece = record {
  end = suc (length (kids_nodes k kids) + piece.end);
  some = omega (arith, piece.some, is);
  most = let all = length-append (kids_nodes k kids) (next_nodes parent k kids next) in omega (arith, all, piece.most);
  inside = inside;
  outside = outside;
}
  where
    inside_at : (j : ℕ) → Side (kids_nodes k kids) j → i < j → j < length (kids_nodes k kids) + piece.end
        → HasParent (k + suc i) (kids_nodes k kids ++ next_nodes parent k kids next) j
    inside_at j (before less) some lt = absurd (omega arith)
    inside_at j (behind n place) some lt =
        let p = piece.inside n (omega arith) (omega arith) in
        record {
          parent = p.parent;
          is = parent_behind (kids_nodes k kids) (next_nodes parent k kids next) j n place ∙ p.is;
          later = omega (arith, p.later, is);
        }

    inside : (j : ℕ) → suc i < j → j < suc (length (kids_nodes k kids) + piece.end)
        → HasParent (k + suc i) (nodes_from parent k (Element at name attrs kids next)) j
    inside zero some lt = absurd (omega arith)
    inside (suc j) some lt =
        let p = inside_at j (side (kids_nodes k kids) j) (omega arith) (omega arith) in
        record { parent = p.parent; is = p.is; later = p.later }

    outside_at : (j p : ℕ) → Side (kids_nodes k kids) j → length (kids_nodes k kids) + piece.end ≤ j
        → parent_at (kids_nodes k kids ++ next_nodes parent k kids next) j ≡ Some p
        → (p < k + suc i) ⊎ (k + suc (length (kids_nodes k kids) + piece.end) ≤ p)
    outside_at j p (before less) le e = absurd (omega arith)
    outside_at j p (behind n place) le e =
        either_more (suc k + length (kids_nodes k kids) + m) (suc k + length (kids_nodes k kids) + piece.end) (k + suc i)
        (k + suc (length (kids_nodes k kids) + piece.end)) p (omega arith) (omega arith)
        (piece.outside n p (omega arith) (sym (parent_behind (kids_nodes k kids) (next_nodes parent k kids next) j n place) ∙ e))

    outside : (j p : ℕ) → suc (length (kids_nodes k kids) + piece.end) ≤ j
        → parent_at (nodes_from parent k (Element at name attrs kids next)) j ≡ Some p
        → (p < k + suc i) ⊎ (k + suc (length (kids_nodes k kids) + piece.end) ≤ p)
    outside zero p le e = absurd (omega arith)
    outside (suc j) p le e = outside_at j p (side (kids_nodes k kids) j) (omega arith) e

at_words : (parent : Option ℕ) (k at : ℕ) (text : List ℕ) (next : Forest) → IsBefore parent k
    → Piece k (nodes_from parent k (Words at text next)) 0
at_words parent k at text next h =
    record { end = 1; some = omega arith; most = omega arith; inside = λ j some lt. absurd (omega arith); outside = outside }
  where
    outside : (j p : ℕ) → 1 ≤ j → parent_at (nodes_from parent k (Words at text next)) j ≡ Some p → (p < k + 0) ⊎ (k + 1 ≤ p)
    outside zero p le e = absurd (omega arith)
    outside (suc j) p le e = either_more k (suc k) (k + 0) (k + 1) p (omega arith) (omega arith)
        (not_between parent (suc k) k next j p h e)

behind_words : (parent : Option ℕ) (k at : ℕ) (text : List ℕ) (next : Forest) (i : ℕ)
    → Piece (suc k) (nodes_from parent (suc k) next) i → Piece k (nodes_from parent k (Words at text next)) (suc i)
behind_words parent k at text next i piece =
    record {
      end = suc piece.end;
      some = omega (arith, piece.some);
      most = omega (arith, piece.most);
      inside = inside;
      outside = outside;
    }
  where
    inside : (j : ℕ) → suc i < j → j < suc piece.end → HasParent (k + suc i) (nodes_from parent k (Words at text next)) j
    inside zero some lt = absurd (omega arith)
    inside (suc j) some lt = let p = piece.inside j (omega arith) (omega arith)
        in record { parent = p.parent; is = p.is; later = omega (arith, p.later) }

    outside : (j p : ℕ) → suc piece.end ≤ j → parent_at (nodes_from parent k (Words at text next)) j ≡ Some p
        → (p < k + suc i) ⊎ (k + suc piece.end ≤ p)
    outside zero p le e = absurd (omega arith)
    outside (suc j) p le e = either_more (suc k + i) (suc k + piece.end) (k + suc i) (k + suc piece.end) p (omega arith)
        (omega arith) (piece.outside j p (omega arith) e)

piece_of : (parent : Option ℕ) (k : ℕ) (f : Forest) (i : ℕ) → IsBefore parent k → i < length (nodes_from parent k f)
    → Piece k (nodes_from parent k f) i
piece_of parent k Nil i h lt = absurd (omega arith)
piece_of parent k (Element at name attrs kids next) zero h lt = at_element parent k at name attrs kids next h
piece_of parent k (Element at name attrs kids next) (suc i) h lt =
    by_side (λ less. piece_of (Some k) (suc k) kids i (omega arith) less)
    (λ m less. piece_of parent (suc k + length (kids_nodes k kids)) next m
    (before_later parent k (suc k + length (kids_nodes k kids)) (omega arith) h) less)
    (side (kids_nodes k kids) i)
  where
    by_side : (i < length (kids_nodes k kids) → Piece (suc k) (kids_nodes k kids) i)
        → ((m : ℕ) → m < length (next_nodes parent k kids next)
        → Piece (suc k + length (kids_nodes k kids)) (next_nodes parent k kids next) m)
        → Side (kids_nodes k kids) i → Piece k (nodes_from parent k (Element at name attrs kids next)) (suc i)
    by_side inner outer (before less) = in_kids parent k at name attrs kids next i h (inner less)
    by_side inner outer (behind m is) =
        let all = length-append (kids_nodes k kids) (next_nodes parent k kids next) in
        in_next parent k at name attrs kids next i m is (outer m (omega (arith, all, is)))
piece_of parent k (Words at text next) zero h lt = at_words parent k at text next h
piece_of parent k (Words at text next) (suc i) h lt =
    behind_words parent k at text next i
    (piece_of parent (suc k) next i (before_later parent k (suc k) (omega arith) h) (omega arith))

-- ---- inside, by steps to the parent

-- one step, as a value with its equation
data FirstStep (nodes : List DomNode) (n i element : ℕ) : Type 0 where
  stepped : (p : ℕ) → parent_at nodes i ≡ Some p → above nodes n p ≡ Some element → FirstStep nodes n i element

first_step : (nodes : List DomNode) (n i element : ℕ) → above nodes (suc n) i ≡ Some element → FirstStep nodes n i element
first_step nodes n i element e = by_parent (parent_at nodes i) refl e
  where
    by_parent : (o : Option ℕ) → parent_at nodes i ≡ o → option_and_then (above nodes n) o ≡ Some element
        → FirstStep nodes n i element
    by_parent None is e = absurd cc
    by_parent (Some p) is e = stepped p is e

abbrev Earlier : List DomNode → Type 0
Earlier nodes = (i p : ℕ) → parent_at nodes i ≡ Some p → p < i

-- a node whose parent stands in a piece stands in it
ends : (nodes : List DomNode) (i : ℕ) → (piece : Piece 0 nodes i) → (j p : ℕ) → parent_at nodes j ≡ Some p → i ≤ p → p < piece.end
    → j < piece.end
ends nodes i piece j p is low high = by_end (cases_lt j piece.end)
  where
    between : ((p < 0 + i) ⊎ (0 + piece.end ≤ p)) → ⊥
    between (inl lt) = omega arith
    between (inr ge) = omega arith

    by_end : ((j < piece.end) ⊎ (piece.end ≤ j)) → j < piece.end
    by_end (inl lt) = lt
    by_end (inr le) = absurd (between (piece.outside j p le is))

-- an ancestor stands before what is inside it, and that before the end of its piece
stays_within : (nodes : List DomNode) (i : ℕ) → Earlier nodes → (piece : Piece 0 nodes i) → (n j : ℕ)
    → above nodes (suc n) j ≡ Some i → (i < j) × (j < piece.end)
stays_within nodes i early piece zero j e = by_step (first_step nodes zero j i e)
  where
    by_step : FirstStep nodes zero j i → (i < j) × (j < piece.end)
    by_step (stepped p is more) =
        let same : p ≡ i = cc in
        let lt = early j p is in
        let some = piece.some in
        (omega arith, ends nodes i piece j p is (omega arith) (omega arith))
stays_within nodes i early piece (suc n) j e =
    by_step (λ p. stays_within nodes i early piece n p) (first_step nodes (suc n) j i e)
  where
    by_step : ((p : ℕ) → above nodes (suc n) p ≡ Some i → (i < p) × (p < piece.end)) → FirstStep nodes (suc n) j i
        → (i < j) × (j < piece.end)
    by_step deeper (stepped p is more) =
        let within = deeper p more in
        let lt = early j p is in
        (omega (arith, within.0, lt), ends nodes i piece j p is (omega (arith, within.0)) within.1)

-- what stands in the piece is inside
is_inside : (nodes : List DomNode) (i : ℕ) → Earlier nodes → (piece : Piece 0 nodes i) → (most j : ℕ) → j ≤ most → i < j
    → j < piece.end → IsInside nodes i j
is_inside nodes i early piece zero j le low high = absurd (omega arith)
is_inside nodes i early piece (suc most) j le low high =
    by_parent (λ p few low high. is_inside nodes i early piece most p few low high) (piece.inside j low high)
  where
    by_order : (p : ℕ) → parent_at nodes j ≡ Some p → ((i < p) ⊎ (p ≤ i)) → i ≤ p → (i < p → IsInside nodes i p)
        → IsInside nodes i j
    by_order p is (inl lt) low deeper = let more = deeper lt in (suc more.0, rw is more.1)
    by_order p is (inr ge) low deeper = let same : p ≡ i = omega arith in (0, rw is (ap (λ (q : ℕ). Some q) same))

    by_parent : ((p : ℕ) → p ≤ most → i < p → p < piece.end → IsInside nodes i p) → HasParent (0 + i) nodes j → IsInside nodes i j
    by_parent deeper h =
        let later = h.later in
        let first = early j h.parent h.is in
        by_order h.parent h.is (cases_lt i h.parent) (omega arith) (λ lt. deeper h.parent (omega arith) lt (omega arith))

contiguous_in : (nodes : List DomNode) (i : ℕ) → Earlier nodes → Piece 0 nodes i
    → (end : ℕ) × (i < end) × (end ≤ length nodes) × ((j : ℕ) → IsInside nodes i j ↔ ((i < j) × (j < end)))
contiguous_in nodes i early piece = (
  piece.end,
  piece.some,
  piece.most,
  λ j. (λ h. stays_within nodes i early piece h.0 j h.1, λ h. is_inside nodes i early piece j j (omega arith) h.0 h.1),
)

contiguous_of_tree : (tree : Forest) (i : ℕ) → i < length (nodes_from None 0 tree)
    → (end : ℕ) × (i < end) × (end ≤ length (nodes_from None 0 tree))
    × ((j : ℕ) → IsInside (nodes_from None 0 tree) i j ↔ ((i < j) × (j < end)))
contiguous_of_tree tree i lt = contiguous_in (nodes_from None 0 tree) i (λ j p e. (earlier_of_tree tree j p e).0)
    (piece_of None 0 tree i tt lt)

pub contiguous : (nodes : List DomNode) (tree : Forest) (i : ℕ) → nodes ≡ nodes_from None 0 tree → i < length nodes
    → (end : ℕ) × (i < end) × (end ≤ length nodes) × ((j : ℕ) → IsInside nodes i j ↔ ((i < j) × (j < end)))
contiguous nodes tree i is =
    subst (λ (ns : List DomNode). i < length ns → (end : ℕ) × (i < end) × (end ≤ length ns)
    × ((j : ℕ) → IsInside ns i j ↔ ((i < j) × (j < end)))) (sym is) (contiguous_of_tree tree i)

-- ---- the nodes have one tree

-- how far out a node stands: in none, or in the element of this number
abbrev rank : Option ℕ → ℕ
rank None = 0
rank (Some p) = suc p

-- what stands after a forest stands farther out
abbrev Stops : ℕ → List DomNode → Type 0
Stops r [] = Unit {0}
Stops r (node ∷ nodes) = rank node.parent < r

stops_behind : (parent : Option ℕ) (k m : ℕ) (f : Forest) (xs : List DomNode) → rank parent ≤ k → Stops (rank parent) xs
    → Stops (suc k) (nodes_from parent m f ++ xs)
stops_behind parent k m Nil [] le h = tt
stops_behind parent k m Nil (x ∷ xs) le h = omega arith
stops_behind parent k m (Element at name attrs kids next) xs le h = omega arith
stops_behind parent k m (Words at text next) xs le h = omega arith

first_same : (x y : DomNode) (xs ys : List DomNode) → x ∷ xs ≡ y ∷ ys → (x ≡ y) × (xs ≡ ys)
first_same x y xs ys e = (cc, cc)

kind_same : (x y : DomNode) → x ≡ y → x.kind ≡ y.kind
kind_same x y e = ap (λ (node : DomNode). node.kind) e

-- nothing of a forest stands farther out
no_node : (parent : Option ℕ) (x : DomNode) (xs zs : List DomNode) → Stops (rank parent) zs → zs ≡ x ∷ xs → x.parent ≡ parent → ⊥
no_node parent x xs zs h e same =
    let lt : rank x.parent < rank parent = subst (Stops (rank parent)) e h in
    let r = ap rank same in
    omega arith

record OneForest (f g : Forest) (xs ys : List DomNode) : Type 0 where
  forest : f ≡ g
  behind : xs ≡ ys

one_forest : (f g : Forest) (parent : Option ℕ) (k : ℕ) (xs ys : List DomNode) → rank parent ≤ k → Stops (rank parent) xs
    → Stops (rank parent) ys
    → nodes_from parent k f ++ xs ≡ nodes_from parent k g ++ ys → OneForest f g xs ys
one_forest Nil Nil parent k xs ys le h g e = record { forest = refl; behind = e }
one_forest Nil (Element at name attrs kids next) parent k xs ys le h g e =
    absurd (no_node parent (element_node parent at name attrs) _ xs h e refl)
one_forest Nil (Words at text next) parent k xs ys le h g e = absurd (no_node parent (words_node parent at text) _ xs h e refl)
one_forest (Element at name attrs kids next) Nil parent k xs ys le h g e =
    absurd (no_node parent (element_node parent at name attrs) _ ys g (sym e) refl)
one_forest (Element at name attrs kids next) (Element at' name' attrs' kids' next') parent k xs ys le h g e =
    let first = first_same (element_node parent at name attrs) (element_node parent at' name' attrs') _ _ e in
    let at_is : at ≡ at' = ap (λ (node : DomNode). node.offset) first.0 in
    let kind_is : kinds.Element name attrs ≡ kinds.Element name' attrs' = kind_same _ _ first.0 in
    let name_is : name ≡ name' = cc in
    let attrs_is : attrs ≡ attrs' = cc in
    let left = append_assoc (kids_nodes k kids) (next_nodes parent k kids next) xs in
    let right = append_assoc (kids_nodes k kids') (next_nodes parent k kids' next') ys in
    let inner = one_forest kids kids' (Some k) (suc k) (next_nodes parent k kids next ++ xs)
    (next_nodes parent k kids' next' ++ ys) (omega arith)
    (stops_behind parent k (suc k + length (kids_nodes k kids)) next xs le h)
    (stops_behind parent k (suc k + length (kids_nodes k kids')) next' ys le g) (sym left ∙ first.1 ∙ right) in
    let outer = one_forest next next' parent (suc k + length (kids_nodes k kids)) xs ys (omega arith) h g
    (inner.behind ∙ ap (λ (f : Forest). nodes_from parent (suc k + length (kids_nodes k f)) next' ++ ys) (sym inner.forest)) in
    record {
      forest = elements_same at at' name name' attrs attrs' kids kids' next next' at_is name_is attrs_is inner.forest
          outer.forest;
      behind = outer.behind;
    }
  where
    elements_same : (at at' : ℕ) (name name' : List ℕ) (attrs attrs' : List Attribute) (kids kids' next next' : Forest)
        → at ≡ at' → name ≡ name' → attrs ≡ attrs' → kids ≡ kids' → next ≡ next'
        → Element at name attrs kids next ≡ Element at' name' attrs' kids' next'
    elements_same at at' name name' attrs attrs' kids kids' next next' e1 e2 e3 e4 e5 = cc
one_forest (Element at name attrs kids next) (Words at' text' next') parent k xs ys le h g e =
    let kind_is : kinds.Element name attrs ≡ kinds.Words text' =
    kind_same _ _ (first_same (element_node parent at name attrs) (words_node parent at' text') _ _ e).0 in
    absurd cc
one_forest (Words at text next) Nil parent k xs ys le h g e =
    absurd (no_node parent (words_node parent at text) _ ys g (sym e) refl)
one_forest (Words at text next) (Element at' name' attrs' kids' next') parent k xs ys le h g e =
    let kind_is : kinds.Words text ≡ kinds.Element name' attrs' =
    kind_same _ _ (first_same (words_node parent at text) (element_node parent at' name' attrs') _ _ e).0 in
    absurd cc
one_forest (Words at text next) (Words at' text' next') parent k xs ys le h g e =
    let first = first_same (words_node parent at text) (words_node parent at' text') _ _ e in
    let at_is : at ≡ at' = ap (λ (node : DomNode). node.offset) first.0 in
    let kind_is : kinds.Words text ≡ kinds.Words text' = kind_same _ _ first.0 in
    let text_is : text ≡ text' = cc in
    let outer = one_forest next next' parent (suc k) xs ys (omega arith) h g first.1 in
    record { forest = words_same at at' text text' next next' at_is text_is outer.forest; behind = outer.behind }
  where
    words_same : (at at' : ℕ) (text text' : List ℕ) (next next' : Forest) → at ≡ at' → text ≡ text' → next ≡ next'
        → Words at text next ≡ Words at' text' next'
    words_same at at' text text' next next' e1 e2 e3 = cc

pub one_tree_of_nodes : (f g : Forest) → nodes_from None 0 f ≡ nodes_from None 0 g → f ≡ g
one_tree_of_nodes f g e = (one_forest f g None 0 [] [] (omega arith) tt tt (ap (λ (ns : List DomNode). ns ++ []) e)).forest
