use Rattle.std.specs.Prelude.{◌≡◌, map, take}
use Rattle.box_data.specs.DocumentFlows.{box_info}
use Rattle.flow_maker.proofs.making.box_infos.Given as goal

abbrev pub invariant-loop-p : goal.invariant-loop-p
invariant-loop-p l = l.boxes ≡ map box_info (take l.p-index l.places)
