use Rattle.std.proofs.Common.{◌≡◌, ℕ, List, take, true, false, is_some, sym, ap, ◌∙◌}
use Rattle.std.specs.BTreeMap.{get_by}
use Rattle.std.specs.Cmp.Lexicographic.{slice_cmp}
use Rattle.std.specs.Ordering.{nat_cmp}
use Rattle.std.proofs.lemmas.Map.Text.{btree_map_updates_str}
use Rattle.html_grammar.specs.Lexing.{is_named}
use Rattle.html_subset.proofs.DoubledLemmas.{doubled_at, still_once, names_more}
use Rattle.html_subset.proofs.tags.is_doubled.Goals as goal

pub returns-then-is_some : goal.returns-then-is_some
returns-then-is_some c =
    let a = c.attribute-item.result in
    let i = c.loop-attribute.attribute-index in
    let found : is_some c.in_ok-before.before ≡ true = sym c.is_some.ensures ∙ c.if-is_some.true in
    let stood : is_some c.in_ok-before.before ≡ is_named c.as_slice.result.now (take i c.args.attributes.now) =
    ap is_some c.in_ok-before.ensures.old ∙ c.loop-attribute.invariant.names c.as_slice.result.now in
    let named : is_named a.name (take i c.args.attributes.now) ≡ true =
    ap (λ (q : List ℕ). is_named q (take i c.args.attributes.now)) (sym c.as_slice.ensures) ∙ sym stood ∙ found in
    sym (doubled_at c.args.attributes.now i a c.loop-attribute-test.true c.attribute-item.is named)

pub loop-attribute-preserved : goal.loop-attribute-preserved
loop-attribute-preserved c =
    let a = c.attribute-item.result in
    let i = c.loop-attribute.attribute-index in
    let lost : is_some c.in_ok-before.before ≡ false = sym c.is_some.ensures ∙ c.if-is_some.false in
    let stood : is_some c.in_ok-before.before ≡ is_named c.as_slice.result.now (take i c.args.attributes.now) =
    ap is_some c.in_ok-before.ensures.old ∙ c.loop-attribute.invariant.names c.as_slice.result.now in
    let new : is_named a.name (take i c.args.attributes.now) ≡ false =
    ap (λ (q : List ℕ). is_named q (take i c.args.attributes.now)) (sym c.as_slice.ensures) ∙ sym stood ∙ lost in
    record {
      names = λ q.
          let e = btree_map_updates_str c.as_slice.result.now c.loop-attribute.seen c.insert.new.self _
          c.in_ok-before.ensures.updates q in
          let after = rw c.as_slice.ensures at e in
          names_more c.args.attributes.now i a q (get_by (λ k. slice_cmp nat_cmp q k.now) c.loop-attribute.seen)
          (get_by (λ k. slice_cmp nat_cmp q k.now) c.insert.new.self) _ c.loop-attribute-test.true c.attribute-item.is
          (c.loop-attribute.invariant.names q) after;
      once = still_once c.args.attributes.now i a c.loop-attribute-test.true c.attribute-item.is
          c.loop-attribute.invariant.once new;
    }
