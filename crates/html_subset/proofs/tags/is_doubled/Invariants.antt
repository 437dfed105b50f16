use Rattle.std.proofs.Common.{◌≡◌, ℕ, List, take, false, is_some}
use Rattle.std.specs.BTreeMap.{get_by}
use Rattle.std.specs.Cmp.Lexicographic.{slice_cmp}
use Rattle.std.specs.Ordering.{nat_cmp}
use Rattle.html_grammar.specs.Lexing.{is_named, is_doubled}
use Rattle.html_subset.proofs.tags.is_doubled.Given as goal

abbrev pub invariant-loop-attribute : goal.invariant-loop-attribute
invariant-loop-attribute l = record {
  names : (q : List ℕ) → is_some (get_by (λ k. slice_cmp nat_cmp q k.now) l.seen)
      ≡ is_named q (take l.attribute-index l.attributes);
  once : is_doubled (take l.attribute-index l.attributes) ≡ false;
}
