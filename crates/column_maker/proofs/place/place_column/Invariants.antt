use Rattle.std.proofs.Common.{◌≡◌, ◌≤◌, ◌+◌, ◌-◌}
use Rattle.std.specs.Option.{option_map}
use Rattle.flow_data.specs.Flows.{flow_of}
use Rattle.flow_list.specs.Rows.{all_rows}
use Rattle.flow_list.specs.Book.{after_uses}
use Rattle.flow_list.specs.Entries.{uses_in}
use Rattle.flow_list.specs.Tokens.{item_number, within}
use Rattle.frag_pool.specs.Growing.{Grows}
use Rattle.column_places.specs.Placing.{HasMargin, rows_of, strip_of, with_more}
use Rattle.inner_rows.specs.TrueBook.{BookAfter}
use Rattle.column_maker.specs.Making.{AllHaveColumns, cut_room, ends_at_seam, last_laid, placed_to}
use Rattle.column_maker.specs.Walking.{HasRoom, walk_laid, whole_rows}
use Rattle.column_maker.proofs.Ending.{taken_of}
use Rattle.column_maker.proofs.place.place_column.Given as goal

abbrev pub invariant-loop-k : goal.invariant-loop-k
invariant-loop-k g l =
    let d = l.flows in
    let f = flow_of d l.flow in
    record {
      later : item_number l.from ≤ l.k;
      taken : l.taken ≡ taken_of d f l.from l.k;
      places : with_more l.at (walk_laid (all_rows d) f (last_laid d f l.last (option_map cut_room l.cut) (ends_at_seam l.end))
          (strip_of l.at) l.k l.taken (l.last - l.k)) ≡ placed_to d f l.from l.height l.end;
      margin : HasMargin l.at;
      room : HasRoom d f l.k l.taken (strip_of l.at);
      made : AllHaveColumns d l.pool (rows_of l.at);
      depth : g.I.InnerRows.depth l.inner ≡ g.I.InnerRows.depth l.fn.inner;
      engine : g.I.InnerRows.is_true l.inner d l.book l.pool;
      book : BookAfter d l.fn.book l.book;
      grown : Grows l.fn.pool l.pool;
      uses : uses_in l.book ≡ after_uses d (uses_in l.fn.book) (whole_rows f (item_number l.from) (within l.from)
          (l.k - item_number l.from));
      reads : g.C.Tally.read_count l.tally ≤ g.C.Tally.read_count l.fn.tally + (l.k - item_number l.from);
      folds : g.C.Tally.fold_count l.tally ≡ g.C.Tally.fold_count l.fn.tally;
    }
