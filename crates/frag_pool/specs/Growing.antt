-- A region that grew: what was live is live and unchanged.
use Rattle.std.specs.Prelude.{◌≡◌, List, ◌++◌}
use Rattle.mc_base.specs.declared.fragment.Node.{Node}
use Rattle.frag_pool.specs.Nodes.{Nodes}

-- every node that was live is live and unchanged
pub record Grows (old new : Nodes) : Type 0 where
  pub more_kept : List Node
  pub more_trial : List Node
  pub kept : new.kept ≡ old.kept ++ more_kept
  pub trial : new.trial ≡ old.trial ++ more_trial

-- every kept node is unchanged
pub record KeptGrows (old new : Nodes) : Type 0 where
  pub more_kept : List Node
  pub kept : new.kept ≡ old.kept ++ more_kept
