use Rattle.std.proofs.Common.{◌≡◌, ◌<◌, ◌≤◌, ◌+◌, ◌*◌, ◌/◌, ◌%◌, ◌-◌, length, Some, refl, subst, ap, arith}
use Rattle.std.proofs.lemmas.Option.{slice_get_read}
use Rattle.std.specs.Prelude.{slice_get}
use Rattle.frag_pool.specs.Pages.{paged}
use Rattle.frag_pool.proofs.Paging.{full-at, in-last, in-page, paged-length}
use Rattle.frag_pool.proofs.pages.Pages.get.Goals as goal

pub index-requires-then-page-len : goal.index-requires-then-page-len
index-requires-then-page-len c =
    let within : c.args.n / 256 < length c.self.inside.stack.full.items = omega (arith, c.if-page-len.true, c.len.ensures) in
    let there = slice_get_read c.self.inside.stack.full.items (length c.self.inside.stack.full.items) (c.args.n / 256)
    c.index.result.now refl within c.index.ensures in
    let long = full-at _ _ _ c.self.invariant.full there in
    let ok = c.index.result.now.ok.0 in
    omega (arith, long, ok)

pub index-requires-else-page-len : goal.index-requires-else-page-len
index-requires-else-page-len c =
    let long = paged-length c.self.inside.stack.full.items c.self.inside.stack.last.items c.self.invariant.full in
    let same = ap length c.self.view_is in
    let ok = c.self.inside.stack.last.ok.0 in
    omega (arith, long, same, ok, c.requires, c.if-page-len.false, c.len.ensures, c.len-else-page-len.ensures)

pub returns-then-page-len : goal.returns-then-page-len
returns-then-page-len c =
    let full = c.self.inside.stack.full.items in
    let page = c.index.result.now in
    let within : c.args.n / 256 < length full = omega (arith, c.if-page-len.true, c.len.ensures) in
    let there = slice_get_read full (length full) (c.args.n / 256) page refl within c.index.ensures in
    let long = full-at full (c.args.n / 256) page c.self.invariant.full there in
    let inside : c.args.n % 256 < length page.items = omega (arith, long) in
    let here = slice_get_read page.items (length page.items) (c.args.n % 256) c.index-then-page-len.result.now refl inside
    c.index-then-page-len.ensures in
    let number : 256 * (c.args.n / 256) + c.args.n % 256 ≡ c.args.n = omega arith in
    subst (λ nodes. slice_get nodes c.args.n ≡ Some c.index-then-page-len.result.now) c.self.view_is
    (subst (λ n. slice_get (paged full c.self.inside.stack.last.items) n ≡ Some c.index-then-page-len.result.now) number
    (in-page full c.self.inside.stack.last.items (c.args.n / 256) (c.args.n % 256) page c.index-then-page-len.result.now
    c.self.invariant.full there here))

pub returns-else-page-len : goal.returns-else-page-len
returns-else-page-len c =
    let full = c.self.inside.stack.full.items in
    let last = c.self.inside.stack.last.items in
    let long = paged-length full last c.self.invariant.full in
    let same = ap length c.self.view_is in
    let at = c.args.n - c.len-else-page-len.result * 256 in
    let before : 256 * length full ≤ c.args.n = omega (arith, c.if-page-len.false, c.len.ensures) in
    let ok = c.self.inside.stack.full.ok.0 in
    let at_is : at + 256 * length full ≡ c.args.n = omega (arith, before, ok, c.len-else-page-len.ensures) in
    let inside : at < length last = omega (arith, long, same, c.requires, before, at_is) in
    let here = slice_get_read last (length last) at c.index-else-page-len.result.now refl inside c.index-else-page-len.ensures in
    let number : 256 * length full + at ≡ c.args.n = omega (arith, before, at_is) in
    subst (λ nodes. slice_get nodes c.args.n ≡ Some c.index-else-page-len.result.now) c.self.view_is
    (subst (λ n. slice_get (paged full last) n ≡ Some c.index-else-page-len.result.now) number
    (in-last full last at c.index-else-page-len.result.now c.self.invariant.full here))
