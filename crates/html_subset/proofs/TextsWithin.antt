-- No text of a tree is longer than all of them together.
use Rattle.std.proofs.Common.{ℕ, suc, ◌+◌, ◌≤◌, List, [], ◌∷◌, ◌++◌, length, Option, Some, arith}
use Rattle.std.specs.Prelude.{sum_by}
use Rattle.std.specs.List.{AllByRecursion}
use Rattle.std.proofs.lemmas.List.Sums.{sum_by-cons}
use Rattle.html_grammar.specs.declared.dom.Attribute.{Attribute}
use Rattle.html_grammar.specs.Tree.{Forest, Nil, Element, Words, nodes_from}
use Rattle.html_subset.specs.WellFormed.{attribute_bytes, AttributeIsWithin, NodeIsWithin}
use Rattle.html_subset.proofs.TreesFit.{forest_bytes}

pub attributes_within : (n : ℕ) (attributes : List Attribute) → sum_by attribute_bytes attributes ≤ n
    → AllByRecursion (AttributeIsWithin n) attributes
attributes_within n [] h = tt
attributes_within n (a ∷ others) h = (
  (omega (arith, h, sum_by-cons attribute_bytes a others), omega (arith, h, sum_by-cons attribute_bytes a others)),
  attributes_within n others (omega (arith, h, sum_by-cons attribute_bytes a others)),
)

abbrev pub ForestIsWithin : ℕ → Forest → Type 0
ForestIsWithin n Nil = Unit {0}
ForestIsWithin n (Element at m attrs kids next) = (length m ≤ n) × AllByRecursion (AttributeIsWithin n) attrs
    × ForestIsWithin n kids × ForestIsWithin n next
ForestIsWithin n (Words at text next) = (length text ≤ n) × ForestIsWithin n next

pub forest_within : (n : ℕ) (f : Forest) → forest_bytes f ≤ n → ForestIsWithin n f
forest_within n Nil h = tt
forest_within n (Element at m attrs kids next) h = (
  omega (arith, h),
  attributes_within n attrs (omega (arith, h)),
  forest_within n kids (omega (arith, h)),
  forest_within n next (omega (arith, h)),
)
forest_within n (Words at text next) h = (omega (arith, h), forest_within n next (omega (arith, h)))

all-append : {X : Type 0} (P : X → Type 0) (xs ys : List X) → AllByRecursion P xs → AllByRecursion P ys
    → AllByRecursion P (xs ++ ys)
all-append P [] ys h k = k
all-append P (x ∷ xs) ys h k = (h.0, all-append P xs ys h.1 k)

pub nodes_within : (n : ℕ) (parent : Option ℕ) (k : ℕ) (f : Forest) → ForestIsWithin n f
    → AllByRecursion (NodeIsWithin n) (nodes_from parent k f)
nodes_within n parent k Nil h = tt
nodes_within n parent k (Element at m attrs kids next) h = (
  (h.0, h.1),
  all-append (NodeIsWithin n) (nodes_from (Some k) (suc k) kids)
      (nodes_from parent (suc k + length (nodes_from (Some k) (suc k) kids)) next)
      (nodes_within n (Some k) (suc k) kids h.2)
      (nodes_within n parent (suc k + length (nodes_from (Some k) (suc k) kids)) next h.3),
)
nodes_within n parent k (Words at text next) h = (h.0, nodes_within n parent (suc k) next h.1)
