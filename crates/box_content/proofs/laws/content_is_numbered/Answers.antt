use Rattle.std.proofs.Common.{None}
use Rattle.box_data.specs.BoxTree.{in_order}
use Rattle.box_content.proofs.Standing.{all_stand}
use Rattle.box_content.proofs.Numbered.{content_numbered}
use Rattle.box_content.proofs.laws.content_is_numbered.Goals as goal

pub returns : goal.returns
returns c = λ tree h. content_numbered (in_order tree) None 0 tree h (all_stand tree)
