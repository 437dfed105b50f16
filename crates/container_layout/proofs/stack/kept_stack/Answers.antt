use Rattle.frag_pool.proofs.Growth.{grows-same-trial, grows-trans, stands-live}
use Rattle.container_layout.proofs.stack.kept_stack.Goals as goal

pub promote-requires : goal.promote-requires
promote-requires c = stands-live _ _ _ c.in_ok-made.ensures.frag

pub returns-clause-laid : goal.returns-clause-laid
returns-clause-laid c = record {
  height = c.in_ok-made.ensures.height;
  kept = c.in_ok-frag.ensures.kept;
  frag = c.in_ok-frag.ensures.equal _ c.in_ok-made.ensures.frag;
}

pub returns-clause-grown : goal.returns-clause-grown
returns-clause-grown c = grows-trans _ _ _ c.in_ok-made.ensures.grown (grows-same-trial _ _ c.in_ok-frag.ensures.trial)

pub returns-in_err-frag-clause-grown : goal.returns-in_err-frag-clause-grown
returns-in_err-frag-clause-grown c = grows-trans _ _ _ c.in_ok-made.ensures.grown
    (grows-same-trial _ _ c.in_err-frag.ensures.trial)
