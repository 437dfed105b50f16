use Rattle.std.proofs.Common.{◌∙◌, List, ap, ◌++◌}
use Rattle.std.specs.Prelude.{max}
use Rattle.atom_needs.specs.Told.{told}
use Rattle.balancer.proofs.Progress.{firsts-told}
use Rattle.flow_list.specs.Ranges.{Range, Tallest}
use Rattle.range_finder.specs.Judging.{as_list}
use Rattle.balancer.specs.Searching.{tallest_in}
use Rattle.balancer.proofs.Shares.{wide-is}
use Rattle.balancer.proofs.first.first_ranges.Goals as goal

pub returns-clause-ranges : goal.returns-clause-ranges
returns-clause-ranges g c =
    firsts-told c.args.flows.now c.args.row c.args.from.now c.args.top (told c.tallest_atom-tallest.result) c.div_ceil-wide.result
    (as_list c.range_between.result) (as_list c.range_between-2.result) c.push-2.new.ranges c.tallest_atom-tallest.ensures.tallest
    (wide-is c.args.flows.now c.args.row c.args.from.now c.atoms_height.result c.args.most c.from.result c.div_ceil-wide.result
    c.atoms_height.ensures.sum c.from.ensures c.requires.most c.div_ceil-wide.ensures)
    c.range_between.ensures c.range_between-2.ensures
    (c.in_ok-push-2.ensures ∙ ap (λ (xs : List Range). xs ++ as_list c.range_between-2.result)
    (c.in_ok-push.ensures ∙ ap (λ (xs : List Range). xs ++ as_list c.range_between.result) c.new-ranges.ensures))

pub returns-clause-low : goal.returns-clause-low
returns-clause-low g c =
    c.max.ensures
    ∙ ap (λ n. max n c.div_ceil-wide.result) (ap (λ (t : Tallest). t.need) c.tallest_atom-tallest.ensures.tallest)
    ∙ ap (λ w. max (tallest_in c.args.flows.now c.args.row c.args.from.now).need w) (wide-is c.args.flows.now c.args.row
    c.args.from.now c.atoms_height.result c.args.most c.from.result
    c.div_ceil-wide.result c.atoms_height.ensures.sum c.from.ensures c.requires.most c.div_ceil-wide.ensures)
