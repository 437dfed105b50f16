-- The nodes of a tree at other numbers.
use Rattle.std.proofs.Common.{◌≡◌, ℕ, zero, suc, ◌+◌, ◌<◌, ◌≤◌, List, [], ◌∷◌, ◌++◌, length, Bool, true, false, cond, nat_le}
use Rattle.std.proofs.Common.{Option, None, Some, refl, sym, ap, ◌∙◌, arith, length-append, append_assoc}
use Rattle.std.specs.Prelude.{map, All}
use Rattle.std.specs.Option.{option_map}
use Rattle.std.proofs.lemmas.List.{map-append, length-map}
use Rattle.std.proofs.lemmas.List.Elements.{All-append}
use Rattle.html_grammar.specs.declared.dom.DomNode.{DomNode}
use Rattle.html_grammar.specs.Tree.{Forest, Nil, Element, Words, element_node, words_node, nodes_from}
use Rattle.dom_edits.specs.Nodes.{renumbered, moved, ParentIsBelow, inside_len, stands_from}

abbrev pub kids_nodes : ℕ → Forest → List DomNode
kids_nodes k kids = nodes_from (Some k) (suc k) kids

abbrev pub next_nodes : Option ℕ → ℕ → Forest → Forest → List DomNode
next_nodes parent k kids next = nodes_from parent (suc k + length (kids_nodes k kids)) next

pub shift : (f : ℕ → ℕ) (parent other : Option ℕ) (k n : ℕ) (tree : Forest) → option_map f parent ≡ other
    → ((j : ℕ) → j < length (nodes_from parent k tree) → f (k + j) ≡ n + j)
    → map (renumbered f) (nodes_from parent k tree) ≡ nodes_from other n tree
shift f parent other k n Nil is to = refl
shift f parent other k n (Words at text next) is to =
    let below = shift f parent other (suc k) (suc n) next is
    (λ j lt. ap f (let e : suc k + j ≡ k + suc j = omega arith in e) ∙ to (suc j) (omega arith)
    ∙ (let e : n + suc j ≡ suc n + j = omega arith in e)) in
    rw (is, below) refl
shift f parent other k n (Element at name attributes kids next) is to =
    let all = length-append (kids_nodes k kids) (next_nodes parent k kids next) in
    let number : f k ≡ n = ap f (let e : k ≡ k + 0 = omega arith in e) ∙ to 0 (omega arith)
    ∙ (let e : n + 0 ≡ n = omega arith in e) in
    let inner : map (renumbered f) (kids_nodes k kids) ≡ kids_nodes n kids =
    shift f (Some k) (Some n) (suc k) (suc n) kids (ap Some number)
    (λ j lt. ap f (let e : suc k + j ≡ k + suc j = omega arith in e) ∙ to (suc j) (omega (arith, all, lt))
    ∙ (let e : n + suc j ≡ suc n + j = omega arith in e)) in
    let len : length (kids_nodes n kids) ≡ length (kids_nodes k kids) = ap length (sym inner)
    ∙ length-map (kids_nodes k kids) (renumbered f) in
    let outer : map (renumbered f) (next_nodes parent k kids next) ≡ next_nodes other n kids next =
    rw len (shift f parent other (suc k + length (kids_nodes k kids)) (suc n + length (kids_nodes k kids)) next is
    (λ j lt. ap f (let e : suc k + length (kids_nodes k kids) + j ≡ k + suc (length (kids_nodes k kids) + j) = omega arith in e)
    ∙ to (suc (length (kids_nodes k kids) + j)) (omega (arith, all, lt))
    ∙ (let e : n + suc (length (kids_nodes k kids) + j) ≡ suc n + length (kids_nodes k kids) + j = omega arith in e))) in
    rw (is, map-append (renumbered f) (kids_nodes k kids) (next_nodes parent k kids next), inner, outer) refl

pub moved_past : (from to j : ℕ) → moved from to (from + j) ≡ to + j
moved_past from to j = grind arith

pub moved_below : (from to p : ℕ) → p < from → moved from to p ≡ p
moved_below from to p lt = grind arith

-- what comes before a number stands in no element from there on
pub IsBelow : Option ℕ → ℕ → Type 0
IsBelow None k = Unit {0}
IsBelow (Some p) k = p < k

pub below_more : (parent : Option ℕ) (k n : ℕ) → IsBelow parent k → k ≤ n → IsBelow parent n
unfolding IsBelow
below_more None k n lt le = tt
below_more (Some p) k n lt le = omega arith

pub own_below : (k : ℕ) → IsBelow (Some k) (suc k)
unfolding IsBelow
own_below k = omega arith

pub outermost : IsBelow None 0
unfolding IsBelow
outermost = tt

pub kept : (f : ℕ → ℕ) (parent : Option ℕ) (k : ℕ) → ((p : ℕ) → p < k → f p ≡ p) → IsBelow parent k → option_map f parent ≡ parent
unfolding IsBelow
kept f None k same lt = refl
kept f (Some p) k same lt = ap Some (same p lt)

pub still : (f : ℕ → ℕ) (parent : Option ℕ) (k n : ℕ) (tree : Forest) → IsBelow parent k
    → k + length (nodes_from parent k tree) ≤ n
    → ((p : ℕ) → p < n → f p ≡ p) → map (renumbered f) (nodes_from parent k tree) ≡ nodes_from parent k tree
still f parent k n tree lt le same =
    shift f parent parent k k tree (kept f parent n same (below_more parent k n lt (omega arith))) (λ j less. same (k + j)
    (omega arith))

-- nodes from a number on, where that comes to another
pub shift_past : (parent : Option ℕ) (from to d m n : ℕ) (tree : Forest) → IsBelow parent from → m ≡ from + d → n ≡ to + d
    → map (renumbered (moved from to)) (nodes_from parent m tree) ≡ nodes_from parent n tree
shift_past parent from to d m n tree lt is_m is_n =
    shift (moved from to) parent parent m n tree (kept (moved from to) parent from (moved_below from to) lt)
    (λ j less. ap (moved from to) (let e : m + j ≡ from + (d + j) = omega arith in e) ∙ moved_past from to (d + j)
    ∙ (let e : to + (d + j) ≡ n + j = omega arith in e))

pub not_from : (i : ℕ) (parent : Option ℕ) → IsBelow parent i → stands_from i parent ≡ false
unfolding IsBelow
not_from i None lt = refl
not_from i (Some p) lt = grind arith

-- the nodes in an element and in what is in it
pub inside : (i p k : ℕ) (tree : Forest) (post : List DomNode) → i ≤ p → i ≤ k
    → inside_len i (nodes_from (Some p) k tree ++ post) ≡ length (nodes_from (Some p) k tree) + inside_len i post
inside i p k Nil post le less = omega arith
inside i p k (Words at text next) post le less =
    let yet : nat_le i p ≡ true = grind arith in
    rw (yet, inside i p (suc k) next post le (omega arith)) (omega arith)
inside i p k (Element at name attributes kids next) post le less =
    let yet : nat_le i p ≡ true = grind arith in
    let all = length-append (kids_nodes k kids) (next_nodes (Some p) k kids next) in
    let one = inside i k (suc k) kids (next_nodes (Some p) k kids next ++ post) less (omega arith) in
    let two = inside i p (suc k + length (kids_nodes k kids)) next post le (omega arith) in
    rw (yet, append_assoc (kids_nodes k kids) (next_nodes (Some p) k kids next) post, one, two) (omega (arith, all))

pub outside : (i k : ℕ) (parent : Option ℕ) (tree : Forest) → IsBelow parent i → inside_len i (nodes_from parent k tree) ≡ 0
outside i k parent Nil lt = refl
outside i k parent (Words at text next) lt = rw (not_from i parent lt) refl
outside i k parent (Element at name attributes kids next) lt = rw (not_from i parent lt) refl

pub outside_both : (i : ℕ) (xs ys : List DomNode) → inside_len i xs ≡ 0 → inside_len i ys ≡ 0 → inside_len i (xs ++ ys) ≡ 0
outside_both i [] ys none other = other
outside_both i (x ∷ xs) ys none other = by_test (stands_from i x.parent) refl none
  where
    by_test : (t : Bool) → stands_from i x.parent ≡ t → cond t (suc (inside_len i xs)) 0 ≡ 0
        → inside_len i (x ∷ (xs ++ ys)) ≡ 0
    by_test true is e = absurd (omega arith)
    by_test false is e = rw is refl

one_more : {X : Type 0} (P : X → Type 0) (x : X) (xs : List X) → P x → All P xs → All P (x ∷ xs)
one_more P x xs first others zero d lt = first
one_more P x xs first others (suc k) d lt = others k d (omega arith)

abbrev pub HasParentBelow : ℕ → DomNode → Type 0
HasParentBelow bound node = ParentIsBelow bound node.parent

-- the parents of a tree's nodes come before them
pub parents : (bound : ℕ) (parent : Option ℕ) (k : ℕ) (tree : Forest) → ParentIsBelow bound parent
    → k + length (nodes_from parent k tree) ≤ bound
    → All (λ (node : DomNode). ParentIsBelow bound node.parent) (nodes_from parent k tree)
parents bound parent k Nil small le = λ j d lt. absurd (omega arith)
parents bound parent k (Words at text next) small le =
    one_more (HasParentBelow bound) (words_node parent at text) _ small (parents bound parent (suc k) next small (omega arith))
parents bound parent k (Element at name attributes kids next) small le =
    let all = length-append (kids_nodes k kids) (next_nodes parent k kids next) in
    one_more (HasParentBelow bound) (element_node parent at name attributes) _ small (All-append (HasParentBelow bound)
    (kids_nodes k kids) (next_nodes parent k kids next)
    (parents bound (Some k) (suc k) kids (omega (arith, all)) (omega (arith, all)))
    (parents bound parent (suc k + length (kids_nodes k kids)) next small (omega (arith, all))))

-- where they are few
pub small_parents : (nodes : List DomNode) (tree : Forest) (bound : ℕ) → nodes ≡ nodes_from None 0 tree → length nodes ≤ bound
    → All (HasParentBelow bound) nodes
small_parents nodes tree bound is few = rw is (parents bound None 0 tree tt (omega (arith, few, ap length is)))
