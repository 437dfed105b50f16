use Rattle.std.proofs.Common.{◌≡◌, suc, ◌+◌, ◌-◌, length, arith}
use Rattle.std.proofs.lemmas.Bool.{false≢true}
use Rattle.css_select.proofs.Parents.{parents_are_earlier, element_within}
use Rattle.css_select.proofs.Ends.{elements_end}
use Rattle.css_select.proofs.UpToLemmas.{match_lengths, matches_from_last, last_from_matches}
use Rattle.css_select.proofs.matching.matches.Goals as goal
use Rattle.css_select.proofs.matching.matches.Goals.{then-count-eq0-via-then-count-eq0}
use Rattle.css_select.proofs.matching.matches.Goals.{then-count-eq0-via-else-count-eq0+then-len-count}

pub returns-then-count-eq0 : goal.returns-then-count-eq0
returns-then-count-eq0 c = (
  λ t. absurd (false≢true t),
  λ h.
      let same = match_lengths c.args.dom.now c.args.selector.now.joins c.args.selector.now.compounds c.args.node h in
      absurd (elim c.then-count-eq0.branch [
        | then-count-eq0-via-then-count-eq0 w ↦ omega arith
        | then-count-eq0-via-else-count-eq0+then-len-count w ↦ omega arith
      ]),
)

pub matches_up_to-requires-clause-ready : goal.matches_up_to-requires-clause-ready
matches_up_to-requires-clause-ready c = record {
  joined = omega arith;
  parents = parents_are_earlier c.args.dom.now c.requires.formed;
  ends = elements_end c.args.dom.now c.requires.formed;
}

pub matches_up_to-requires-clause-node_in_range : goal.matches_up_to-requires-clause-node_in_range
matches_up_to-requires-clause-node_in_range c = element_within c.args.dom.now c.args.node c.requires.element

pub returns : goal.returns
returns c =
    let joined : length c.args.selector.now.joins + 1 ≡ length c.args.selector.now.compounds = omega arith in
    let whole : length c.args.selector.now.compounds ≡ suc (c.len-count.result - 1) = omega arith in (
      λ t. matches_from_last c.args.dom.now c.args.selector.now (c.len-count.result - 1) c.args.node joined whole
          (c.matches_up_to.ensures.0 t),
      λ h. c.matches_up_to.ensures.1
          (last_from_matches c.args.dom.now c.args.selector.now (c.len-count.result - 1) c.args.node whole h),
    )
