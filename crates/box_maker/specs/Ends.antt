-- The number after each node and the nodes in it.
use Rattle.std.specs.Prelude.{◌≡◌, ℕ, suc, ◌+◌, max, List, set, slice_get, slice_index, Option, Some, None}
use Rattle.html_grammar.specs.Tree.{Forest, Nil, Element, Words}
use Rattle.box_data.specs.BoxTree.{node_count}

-- for each node of these, numbered from k, the number after it and those in it
abbrev pub HasEnds : List ℕ → (k : ℕ) → Forest → Type 0
HasEnds ends k Nil = Unit {0}
HasEnds ends k (Words at text next) = (slice_get ends k ≡ Some (suc k)) × HasEnds ends (suc k) next
HasEnds ends k (Element at name attributes kids next) =
    (slice_get ends k ≡ Some (suc k + node_count kids)) × HasEnds ends (suc k) kids × HasEnds ends (suc k + node_count kids) next

-- where there is a number, its entry is at least this
abbrev pub raised : Option ℕ → (least : ℕ) → List ℕ → List ℕ
raised None least ends = ends
raised (Some p) least ends = set ends p (max (slice_index ends p) least)
