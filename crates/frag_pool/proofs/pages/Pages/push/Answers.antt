use Rattle.std.proofs.Common.{◌∷◌, [], ◌++◌, length, length-append, ap, ◌∙◌, arith}
use Rattle.frag_pool.specs.Pages.{paged}
use Rattle.frag_pool.proofs.Paging.{paged-more}
use Rattle.frag_pool.proofs.pages.Pages.push.Goals as goal

pub invariant_of-self-2 : goal.invariant_of-self-2
invariant_of-self-2 c =
    let full = c.make_room.new.self.full.items in
    let last = c.make_room.new.self.last.items in
    let more = length-append last (c.args.node ∷ []) in
    let longer = length-append (paged full last) (c.args.node ∷ []) in
    let same = ap length c.make_room.ensures.same in
    let new = ap length (ap (paged full) c.in_default-push.ensures.items ∙ paged-more full last (c.args.node ∷ [])) in
    record {
      full = c.make_room.ensures.full;
      last = rw c.in_default-push.ensures.items (omega (arith, more, c.in_default.ensures.room));
      count = omega (arith, longer, same, new, c.self.invariant.count);
    }

pub returns-clause-ok : goal.returns-clause-ok
returns-clause-ok c =
    let full = c.make_room.new.self.full.items in
    ap (paged full) c.in_default-push.ensures.items ∙ paged-more full c.make_room.new.self.last.items (c.args.node ∷ [])
    ∙ ap (λ nodes. nodes ++ c.args.node ∷ []) (c.make_room.ensures.same ∙ c.self.view_is)
