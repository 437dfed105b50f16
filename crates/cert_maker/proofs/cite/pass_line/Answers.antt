use Rattle.std.proofs.Common.{◌++◌, ◌∷◌, [], ◌∙◌, ap}
use Rattle.std.proofs.lemmas.Result.{on_ok_weaker}
use Rattle.cite_laws.specs.Starts.{starts_after}
use Rattle.cert_laws.specs.Made.{listed}
use Rattle.cert_maker.proofs.StartRows.{start-at, starts-are, known-after}
use Rattle.cert_maker.proofs.cite.pass_line.Goals as goal

pub returns-clause-starts : goal.returns-clause-starts
returns-clause-starts c =
    let starts = c.args.starts.now.items in
    let start = c.in-Some.start.now in
    let next = c.next_of-next.result in
    let inner = c.inner_of-inner.result in
    let depth = c.line.inside.depth in
    let at = start-at starts c.deref.result.now depth start c.deref.ensures.value c.in-Some.ensures.lookup.3.0
    c.in-Some.ensures.lookup.1 in
    let before = c.in_ok-push.ensures.items ∙ ap (λ us. us ++ next ∷ []) c.truncate.ensures.items in
    on_ok_weaker c.push_inner.result
    (λ so. starts-are c.args.flows.now starts c.push_inner.new.starts.items
    (record { depth = depth; end = c.line.inside.end; stop = c.line.inside.stop }) start next inner at c.next_of-next.ensures
    c.inner_of-inner.ensures.start (so ∙ ap (λ us. us ++ listed inner) before)
    ∙ ap (starts_after c.args.flows.now starts) c.line.view_is)
    c.push_inner.ensures

pub returns-clause-known : goal.returns-clause-known
returns-clause-known c =
    let starts = c.args.starts.now.items in
    let start = c.in-Some.start.now in
    let next = c.next_of-next.result in
    let inner = c.inner_of-inner.result in
    let depth = c.line.inside.depth in
    let at = start-at starts c.deref.result.now depth start c.deref.ensures.value c.in-Some.ensures.lookup.3.0
    c.in-Some.ensures.lookup.1 in
    let before = c.in_ok-push.ensures.items ∙ ap (λ us. us ++ next ∷ []) c.truncate.ensures.items in
    on_ok_weaker c.push_inner.result
    (λ so. known-after _ starts c.push_inner.new.starts.items
    (record { depth = depth; end = c.line.inside.end; stop = c.line.inside.stop }) start next inner at c.next_of-next.ensures
    c.inner_of-inner.ensures.known (so ∙ ap (λ us. us ++ listed inner) before) c.requires)
    c.push_inner.ensures
