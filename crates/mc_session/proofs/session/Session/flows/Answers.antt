use Rattle.mc_session.proofs.session.Session.flows.Goals as goal

pub invariant_of-self-2 : goal.invariant_of-self-2
invariant_of-self-2 c = (c.self.invariant.0, c.turn.ensures.kept c.self.inside.fonts c.tree_flows.ensures.kept)
