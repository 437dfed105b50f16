use Rattle.std.proofs.Common.{◌≡◌, ◌-◌, ◌++◌, ◌∷◌, [], ap, ◌∙◌}
use Rattle.kept_lines.specs.declared.run.Narrow.{Narrow}
use Rattle.kept_lines.specs.Narrowed.{with_number}
use Rattle.kept_lines.proofs.Narrow.{one_more, first_stays}
use Rattle.kept_lines.proofs.run.add_piece.Goals as goal

pub returns-clause-made : goal.returns-clause-made
returns-clause-made c = λ ps was.
    let old : Narrow = c.args.narrow.now in
    let added : Narrow = c.add_style.new.narrow in
    let made : Narrow = record { runs = record { pieces = c.push.new.self; styles = added.runs.styles }; last = added.last } in
    one_more c.args.styles.now old made ps c.args.piece (c.len.result - 1) c.requires.known was c.in_ok-add_style.ensures.more
    (c.in_ok-add_style.ensures.last was.ends) (c.in_ok-add_style.ensures.number ∙ c.style_number.ensures)
    (ap (λ n. n - 1) c.len.ensures)
    (let put : c.push.new.self ≡ added.runs.pieces ++ c.with_number.result ∷ [] = c.in_ok-push.ensures.ok in
    let same : added.runs.pieces ≡ old.runs.pieces = c.add_style.ensures.pieces in
    let piece : c.with_number.result ≡ with_number (c.len.result - 1) c.args.piece = c.with_number.ensures in
    cc)

pub returns-clause-first : goal.returns-clause-first
returns-clause-first c =
    first_stays c.args.narrow.now.runs.styles c.add_style.new.narrow.runs.styles c.in_ok-add_style.ensures.more c.requires.some
