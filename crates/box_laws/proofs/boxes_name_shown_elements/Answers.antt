use Rattle.box_laws.proofs.Shown.{boxes_name_shown}
use Rattle.box_laws.proofs.boxes_name_shown_elements.Goals as goal

pub returns : goal.returns
returns c = boxes_name_shown
