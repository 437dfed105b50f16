use Rattle.mc_session.proofs.session.Session.begin.Goals as goal

pub invariant_of-result : goal.invariant_of-result
invariant_of-result c = (
  record { formed = c.requires.formed; read = c.requires.read; wide = c.requires.wide },
  c.new.ensures.kept c.args.fonts,
)
