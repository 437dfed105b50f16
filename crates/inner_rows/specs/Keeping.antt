-- Fills that are kept, to be answered again (this project's own).
use Rattle.std.specs.Prelude.{ℕ, List}
use Rattle.flow_data.specs.declared.data.FlowsData.{FlowsData}
use Rattle.flow_list.specs.Book.{AllStand}
use Rattle.flow_list.specs.Entries.{uses_in}
use Rattle.flow_list.specs.Folds.{fill_told}
use Rattle.flow_list.specs.Rows.{all_rows}
use Rattle.flow_list.specs.Tokens.{Token}
use Rattle.flow_list.specs.declared.book.SizeEntry.{SizeEntry}
use Rattle.frag_pool.specs.Nodes.{Nodes, back_to}
use Rattle.frag_pool.specs.Standing.{StandsFor}
use Rattle.inner_rows.specs.Filling.{IsFilled, fill_tree}
use Rattle.inner_rows.specs.declared.inner.Filled.{Filled}

-- What row r makes of height h from place q on, kept for these flows, this book and this region: the sizes that it uses stand in
-- the book, and its fragment is one of the kept nodes, whatever trial nodes there are.
pub record IsKeptFill (d : FlowsData) (book : List SizeEntry) (p : Nodes) (r : ℕ) (q : Token) (h : ℕ) (out : Filled) : Type 0
  where
    pub told : IsFilled (fill_told (all_rows d) d r q h) out
    pub uses : AllStand (uses_in book) ((all_rows d).fill r q h).uses
    pub frag : StandsFor (back_to p 0) out.frag (fill_tree d r q h)
