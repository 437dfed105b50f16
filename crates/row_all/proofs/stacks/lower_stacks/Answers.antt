use Rattle.std.proofs.Common.{◌≡◌, ◌∙◌, ◌<◌, ◌++◌, ℕ, List, [], ◌∷◌, ap, sym, subst, arith, length, length-append}
use Rattle.std.proofs.Common.{get_or}
use Rattle.std.proofs.lemmas.Option.{slice_get-get_or}
use Rattle.flow_list.specs.Data.{FlowsData}
use Rattle.flow_list.specs.Fragments.{stack_fragment}
use Rattle.container_layout.specs.Laid.{AreLaidStacks, IsLaidStack}
use Rattle.frag_pool.specs.Nodes.{Nodes}
use Rattle.flow_list.specs.declared.laid.LaidStack.{LaidStack}
use Rattle.frag_pool.proofs.Growth.{grows-refl, grows-trans}
use Rattle.frag_pool.proofs.Stays.{stands-growing}
use Rattle.inner_rows.proofs.Calls.{book-refl, book-trans}
use Rattle.row_all.specs.Answered.{AreLoweredStacks, IsLoweredStack}
use Rattle.row_all.specs.Parts.{ArePartsOf}
use Rattle.row_all.specs.declared.engine.Part.{Part}
use Rattle.row_all.proofs.Stacking.{EachParts, each-more, each-stay, none-yet, stacks-stay}
use Rattle.row_all.proofs.stacks.lower_stacks.Goals as goal

pub loop-number-init : goal.loop-number-init
loop-number-init g c =
    let d = c.args.flows.now in
    let flags = c.args.flags.now in
    let p = c.args.pool.now in
    record {
      stacks = rw c.new-stacks.ensures (none-yet (IsLoweredStack d flags p));
      stack_count = ap length c.new-stacks.ensures;
      parts = rw c.new-parts.ensures (none-yet (ArePartsOf d flags p));
      part_count = ap length c.new-parts.ensures;
      none = c.requires.none;
      depth = c.requires.depth;
      engine = c.requires.engine;
      book = book-refl d c.args.book.now c.requires.book;
      grown = grows-refl p;
    }

stack-there : (d : FlowsData) (p : Nodes) (outs : List LaidStack) (count number : ℕ) → AreLaidStacks d p outs →
    length outs ≡ length d.stacks → count ≡ length d.stacks → number < count → (other : LaidStack) →
    IsLaidStack d p number (get_or outs number other)
stack-there d p outs count number laid all is lt other =
    laid number (get_or outs number other) (slice_get-get_or outs number other (omega (arith, all, is, lt)))

pub lower_stack-requires-clause-height : goal.lower_stack-requires-clause-height
lower_stack-requires-clause-height g c =
    (stack-there c.args.flows.now c.args.pool.now c.args.laid.now c.flow_counts-count.result.stacks c.loop-number.number
    c.requires.laid c.requires.count c.flow_counts-count.ensures.stacks c.loop-number-test.true _).height

pub lower_stack-requires-clause-frag : goal.lower_stack-requires-clause-frag
lower_stack-requires-clause-frag g c =
    stands-growing c.args.pool.now c.loop-number.pool c.loop-number.invariant.grown _
    (stack_fragment c.args.flows.now c.loop-number.number)
    (stack-there c.args.flows.now c.args.pool.now c.args.laid.now c.flow_counts-count.result.stacks c.loop-number.number
    c.requires.laid c.requires.count c.flow_counts-count.ensures.stacks c.loop-number-test.true _).frag

pub loop-number-preserved : goal.loop-number-preserved
loop-number-preserved g c =
    let d = c.args.flows.now in
    let flags = c.args.flags.now in
    let p = c.args.pool.now in
    let q = c.loop-number.pool in
    let s = c.lower_stack.new.pool in
    let n = c.loop-number.number in
    let inv = c.loop-number.invariant in
    let e = c.in_ok-out.ensures in
    let out = c.in_ok-out.out in
    let stacks : AreLoweredStacks d flags s (c.loop-number.stacks ++ out.stack ∷ []) =
    each-more (IsLoweredStack d flags s) c.loop-number.stacks out.stack
    (stacks-stay d flags q s e.grown c.loop-number.stacks inv.stacks)
    (subst (λ (k : ℕ). IsLoweredStack d flags s k out.stack) (sym inv.stack_count) e.stack) in
    let parts : EachParts d flags s (c.loop-number.parts ++ out.parts ∷ []) =
    each-more (ArePartsOf d flags s) c.loop-number.parts out.parts (each-stay d flags q s e.grown c.loop-number.parts inv.parts)
    (subst (λ (k : ℕ). ArePartsOf d flags s k out.parts) (sym inv.part_count) e.parts) in
    record {
      stacks = subst (λ (xs : List LaidStack). AreLoweredStacks d flags s xs) (sym c.in_ok-push.ensures.ok) stacks;
      stack_count = let count = inv.stack_count in ap length c.in_ok-push.ensures.ok
          ∙ omega (arith, count, length-append c.loop-number.stacks (out.stack ∷ []));
      parts = subst (λ (xs : List (List Part)). EachParts d flags s xs) (sym c.in_ok-push-2.ensures.ok) parts;
      part_count = let count = inv.part_count in ap length c.in_ok-push-2.ensures.ok
          ∙ omega (arith, count, length-append c.loop-number.parts (out.parts ∷ []));
      none = e.none;
      depth = e.depth;
      engine = e.engine;
      book = book-trans d c.args.book.now c.loop-number.book c.lower_stack.new.book inv.book e.book;
      grown = grows-trans p q s inv.grown e.grown;
    }
