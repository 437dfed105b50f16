use Rattle.css_winner.specs.Rules.{all_sheets}
use Rattle.std.specs.Option.{option_copied}
use Rattle.css_cascade.proofs.WonLemmas.{styled_is}
use Rattle.css_cascade.proofs.cascading.styled.Goals as goal

pub returns : goal.returns
returns c = styled_is (all_sheets c.args.sheets.now) c.args.dom.now c.args.node c.args.own.now c.in_ok-all.all.items
    c.in_ok-all.ensures c.as_slice-found.result.now c.as_slice-found.ensures.value c.in_ok-winning.winning c.in_ok-winning.ensures
    c.first_refusal-refused.result c.first_refusal-refused.ensures c.args.nodes.now (option_copied c.parent_style-parent.result)
    c.parent_style-parent.ensures c.root_size-root.result c.root_size-root.ensures c.in_ok-style.style c.in_ok-style.ensures
