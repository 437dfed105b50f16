use Rattle.std.proofs.Common.{[]}
use Rattle.mc_draw.proofs.Rectangles.{rectangles}
use Rattle.mc_draw.proofs.laws.rectangles_are_those_of_lines.Goals as goal

pub returns : goal.returns
returns c = λ d rule lines. rectangles d rule [] lines
