-- The strip that a value stands for.
use Rattle.column_strip.specs.declared.laying.Laying.{Laying}
use Rattle.flow_list.specs.Strip.{Strip}

abbrev pub strip_of : Laying → Strip
strip_of l = record { y = l.y; pending = l.pending; drops = l.drops }
