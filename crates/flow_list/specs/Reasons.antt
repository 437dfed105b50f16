-- The reasons that code gives, as the definitions of ranges have them (this project's own).
use Rattle.flow_list.specs.Ranges.{Reason as Told, tall, area, left, bad, over}
use Rattle.flow_list.specs.declared.range.Reason.{Reason}
use Rattle.flow_list.specs.declared.range.Reason.TheVariants.{Tall, Area, Left, Bad, Over}

abbrev pub told_reason : Reason → Told
told_reason (Tall item) = tall item
told_reason Area = area
told_reason (Left at) = left at
told_reason (Bad column) = bad column
told_reason (Over column) = over column
