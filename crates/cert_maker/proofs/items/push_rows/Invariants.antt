use Rattle.std.proofs.Common.{◌≡◌, ◌++◌, ◌-◌, map}
use Rattle.cite_laws.specs.Starts.{rows_from}
use Rattle.flow_data.specs.Flows.{flow_of}
use Rattle.flow_list.specs.Entries.{uses_in}
use Rattle.flow_list.specs.ResultText.{number_in}
use Rattle.flow_list.specs.Tokens.{item_number, within}
use Rattle.cert_maker.proofs.items.push_rows.Given as goal

abbrev pub invariant-loop-k : goal.invariant-loop-k
invariant-loop-k l =
    let f = flow_of l.flows l.flow in
    l.sizes ++ map (number_in (uses_in l.book)) (rows_from f l.k l.place (l.end - l.k))
    ≡ l.initial.sizes ++ map (number_in (uses_in l.book))
    (rows_from f (item_number l.from) (within l.from) (l.end - item_number l.from))
