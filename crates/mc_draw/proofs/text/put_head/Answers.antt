use Rattle.mc_draw.specs.DrawingText.{head_text}
use Rattle.mc_draw.proofs.Steps.{three_parts}
use Rattle.mc_draw.proofs.text.put_head.Goals as goal

pub returns : goal.returns
unfolding head_text
returns c = three_parts _ _ _ _ _ _ _ c.in_ok-put.ensures c.in_ok-put-2.ensures c.in_ok-extend.ensures.ok
