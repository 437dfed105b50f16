-- The fills of a row that stands whole, one after another.
use Rattle.std.specs.Prelude.{◌≡◌, ℕ, ◌≤◌, List, ◌++◌, Some}
use Rattle.mc_base.specs.PlainTree.{PlainTree, plain_trees}
use Rattle.mc_base.specs.declared.fragment.FragId.{FragId}
use Rattle.flow_data.specs.Flows.{flow_in}
use Rattle.flow_list.specs.Data.{FlowsData}
use Rattle.flow_list.specs.Fragments.{column_fragment}
use Rattle.flow_list.specs.Rows.{all_rows, left_in}
use Rattle.flow_list.specs.Tokens.{Token}
use Rattle.flow_list.specs.Book.{AllStand}
use Rattle.flow_list.specs.Certificate.{Use, uses_of}
use Rattle.column_laws.specs.Following.{columns_of_fills, fragments_of_fills}
use Rattle.frag_pool.specs.Nodes.{Nodes}
use Rattle.frag_pool.specs.Standing.{AllStandFor}
use Rattle.column_maker.specs.Making.{columns_in, whole_at}

-- These stand for the first columns of row r from place q on at height h, and the others are those of the fills from a place
-- on, of as many as there are items left there, or more. What these use stands in a book.
pub record IsPart (d : FlowsData) (r : ℕ) (q : Token) (h : ℕ) (book : List Use) (p : Nodes) (ids : List FragId) (at : Token)
    : Type 0
  where
    pub made : List PlainTree
    pub count : ℕ
    pub stand : AllStandFor p ids (plain_trees made)
    pub enough : left_in (all_rows d) (flow_in d r) at ≤ count
    pub rest : columns_in d (whole_at d r q h)
        ≡ made ++ fragments_of_fills (column_fragment d r (Some h)) (all_rows d) d r count at h
    pub uses : AllStand book (uses_of (columns_of_fills (all_rows d) d r count at h))
