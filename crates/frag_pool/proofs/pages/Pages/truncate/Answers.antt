use Rattle.std.proofs.Common.{◌≡◌, ◌≤◌, ◌+◌, ◌*◌, ◌-◌, ◌∷◌, [], ◌++◌, length, length-append, take, sym, subst, ap, ◌∙◌, arith}
use Rattle.std.proofs.lemmas.List.{length-take-le}
use Rattle.frag_pool.specs.Pages.{AreFull, paged}
use Rattle.frag_pool.proofs.Paging.{full-fewer, paged-length, take-back, take-paged}
use Rattle.frag_pool.proofs.pages.Pages.truncate.Goals as goal

pub loop-self-preserved : goal.loop-self-preserved
loop-self-preserved c =
    let ps = c.pop_page.new.self.full.items in
    let page = c.pop_page.new.self.last in
    let last = c.loop-self.self-inside.stack.last.items in
    let popped = c.pop_page.ensures in
    let full : AreFull (ps ++ page ∷ []) = subst AreFull popped c.loop-self.invariant.full in
    let fewer = full-fewer ps page full in
    let one = ap length popped in
    let ends = length-append ps (page ∷ []) in
    let ok = c.loop-self.self-inside.stack.full.ok.0 in
    let le : c.args.count ≤ 256 * (length ps + 1) = omega (arith, one, ends, ok, c.loop-self-test.true, c.len.ensures) in
    let long = paged-length ps page.items fewer.0 in
    record {
      full = fewer.0;
      last = omega (arith, fewer.1);
      long = omega (arith, long, le, fewer.1);
      same = sym (take-back ps page last c.args.count full le)
          ∙ ap (λ pages. take c.args.count (paged pages last)) (sym popped) ∙ c.loop-self.invariant.same;
    }

pub invariant_of-self : goal.invariant_of-self
invariant_of-self c =
    let full = c.loop-self.self-inside.stack.full.items in
    let last = c.loop-self.self-inside.stack.last.items in
    let n = c.args.count - c.len-before.result * 256 in
    let ok = c.loop-self.self-inside.stack.full.ok.0 in
    let long = paged-length full last c.loop-self.invariant.full in
    let before : 256 * length full ≤ c.args.count = omega (arith, ok, c.loop-self-test.false, c.len.ensures) in
    let n_is : n + 256 * length full ≡ c.args.count = omega (arith, before, ok, c.len-before.ensures) in
    let n_le : n ≤ length last = omega (arith, n_is, long, c.loop-self.invariant.long) in
    let short = length-take-le n last n_le in
    let now = paged-length full (take n last) c.loop-self.invariant.full in
    record {
      full = c.loop-self.invariant.full;
      last = rw c.truncate.ensures.items (omega (arith, short, n_le, c.loop-self.invariant.last));
      count = rw c.truncate.ensures.items (omega (arith, short, now, n_is));
    }

pub returns : goal.returns
returns c =
    let full = c.loop-self.self-inside.stack.full.items in
    let last = c.loop-self.self-inside.stack.last.items in
    let n = c.args.count - c.len-before.result * 256 in
    let ok = c.loop-self.self-inside.stack.full.ok.0 in
    let before : 256 * length full ≤ c.args.count = omega (arith, ok, c.loop-self-test.false, c.len.ensures) in
    let n_is : 256 * length full + n ≡ c.args.count = omega (arith, before, ok, c.len-before.ensures) in
    ap (paged full) c.truncate.ensures.items ∙ sym (take-paged full last n c.loop-self.invariant.full)
    ∙ ap (λ k. take k (paged full last)) n_is ∙ c.loop-self.invariant.same
