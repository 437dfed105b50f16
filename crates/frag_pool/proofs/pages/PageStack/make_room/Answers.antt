use Rattle.std.proofs.Common.{◌≡◌, [], length, ap, ◌∙◌, arith}
use Rattle.std.proofs.lemmas.List.{append-nil}
use Rattle.frag_pool.specs.Pages.{paged}
use Rattle.frag_pool.proofs.Paging.{full-more, paged-page}
use Rattle.frag_pool.proofs.pages.PageStack.make_room.Goals as goal

pub returns-in_ok-push_page-clause-same : goal.returns-in_ok-push_page-clause-same
returns-in_ok-push_page-clause-same c =
    rw (c.in_ok-push_page.ensures.full, c.in_ok-push_page.ensures.last)
    (paged-page c.args.self.now.full.items c.args.self.now.last []
    ∙ ap (paged c.args.self.now.full.items) (append-nil c.args.self.now.last.items))

pub returns-in_ok-push_page-clause-full : goal.returns-in_ok-push_page-clause-full
returns-in_ok-push_page-clause-full c =
    let ok = c.args.self.now.last.ok.0 in
    let long : length c.args.self.now.last.items ≡ 256 = omega (arith, ok, c.if-len-eq-PAGE.true, c.len.ensures) in
    rw c.in_ok-push_page.ensures.full (full-more c.args.self.now.full.items c.args.self.now.last c.requires.full long)
