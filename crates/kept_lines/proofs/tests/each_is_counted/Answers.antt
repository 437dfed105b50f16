use Rattle.kept_lines.proofs.tests.each_is_counted.Goals as goal

pub loop-page-init : goal.loop-page-init
loop-page-init g c = c.new-kept.ensures.kept c.args.fonts.now
