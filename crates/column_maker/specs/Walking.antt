-- What is laid in a column, item by item: each with the tail after it and the head before the next one.
use Rattle.std.specs.Prelude.{ℕ, zero, suc, ◌+◌, ◌<◌, ◌^◌, List, [], ◌∷◌, ◌++◌, drop}
use Rattle.flow_list.specs.Data.{Flow, FlowsData}
use Rattle.flow_data.specs.Flows.{boxes_in, item_of, seam_of}
use Rattle.flow_list.specs.ClonedEdges.{bottoms}
use Rattle.flow_list.specs.Column.{Inner, height_of, row_from, row_list, strip_behind}
use Rattle.flow_list.specs.Fragments.{laid_item}
use Rattle.flow_list.specs.Placing.{Laid, laid_edges}
use Rattle.flow_list.specs.Rows.{all_rows, amounts_in, heights_from}
use Rattle.flow_list.specs.Strip.{Strip, put, lay_all}
use Rattle.flow_list.specs.Tokens.{Token, row_start}

-- item k, taken from q, where a strip stands, and the tail of the seam after it
abbrev pub item_laid : Inner → Flow → Strip → ℕ → Token → List Laid
item_laid inner f s k q =
    laid_item inner (item_of f k) k q ∷ laid_edges (put s (height_of inner (item_of f k) q)) (seam_of f (k + 1)).tail

-- with the head of that seam too
abbrev pub item_passed : Inner → Flow → Strip → ℕ → Token → List Laid
item_passed inner f s k q = item_laid inner f s k q ++ laid_edges (strip_behind inner f s k q) (seam_of f (k + 1)).head

-- the strip before the next item
abbrev pub strip_next : Inner → Flow → Strip → ℕ → Token → Strip
strip_next inner f s k q = lay_all (strip_behind inner f s k q) (seam_of f (k + 1)).head

-- the strip before the item that n items from item k on stand before, the first of them taken from q
unfoldable pub strip_to : Inner → Flow → Strip → ℕ → Token → ℕ → Strip
strip_to inner f s k q zero = s
strip_to inner f s k q (suc n) = strip_to inner f (strip_next inner f s k q) (k + 1) row_start n

-- what is laid of n items from item k on, and then of the last one, which depends on the strip before it and on the place from
-- which it is taken
unfoldable pub walk_laid : Inner → Flow → (Strip → Token → List Laid) → Strip → ℕ → Token → ℕ → List Laid
walk_laid inner f last s k q zero = last s q
walk_laid inner f last s k q (suc n) =
    item_passed inner f s k q ++ walk_laid inner f last (strip_next inner f s k q) (k + 1) row_start n

-- the rows among n items from item k on, the first of them taken from q, with the places from which they are taken
unfoldable pub whole_rows : Flow → ℕ → Token → ℕ → List (ℕ × Token)
whole_rows f k q zero = []
whole_rows f k q (suc n) = row_list (row_from (item_of f k) q) ++ whole_rows f (k + 1) row_start n

-- the strip before item k leaves room for the rest of the flow: all that may stand after it reaches less than 2^60
abbrev pub HasRoom : FlowsData → Flow → ℕ → Token → Strip → Type 0
HasRoom d f k q s =
    s.y + s.pending + heights_from (all_rows d) q (drop k f.items) + amounts_in (drop (k + 1) f.seams) + bottoms d (boxes_in f)
    < 2 ^ 60
