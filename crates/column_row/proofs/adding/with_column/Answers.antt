use Rattle.std.proofs.Common.{◌||◌, ◌∙◌, ap, refl}
use Rattle.flow_data.specs.Flows.{flow_of}
use Rattle.column_row.proofs.ToldColumns.{with-one}
use Rattle.column_row.proofs.adding.with_column.Goals as goal

pub returns-clause-told : goal.returns-clause-told
returns-clause-told c = λ q h cs col told made.
    with-one (flow_of c.args.flows.now c.args.flow) q h cs col c.args.before c.args.column _ (record {
      columns = refl;
      end = refl;
      broken = c.either-broken.ensures ∙ ap (λ b. c.args.before.broken || b) c.breaks_rule-breaks.ensures;
      unforced = c.either-unforced.ensures ∙ ap (λ b. c.args.before.unforced || b) c.is_unforced_at-parts.ensures;
      level = c.worse.ensures;
      overflow = c.either-overflow.ensures;
      extent = c.max.ensures;
      short = c.short_with.ensures;
      lines = c.in_ok-lines.ensures;
    }) told made
