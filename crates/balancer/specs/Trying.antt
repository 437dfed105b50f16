-- A height that was tried: it fits, or a range begins there (this project's own).
use Rattle.std.specs.Prelude.{Option, Some, None}
use Rattle.mc_base.specs.declared.fragment.FragId.{FragId}
use Rattle.flow_list.specs.Ranges.{Range}
use Rattle.balancer.specs.declared.trial.Trial.{Trial}
use Rattle.balancer.specs.declared.trial.Trial.TheVariants.{Fits, Rejected}

-- the range that begins there
abbrev pub range_of : Trial → Option Range
range_of (Fits frag) = None
range_of (Rejected range) = Some range

-- a fact of the fragment where it fits, and a fact where it is rejected
abbrev pub IfFits : Trial → (FragId → Type 0) → Type 0
IfFits (Fits frag) P = P frag
IfFits (Rejected range) P = Unit {0}

abbrev pub IfRejected : Trial → Type 0 → Type 0
IfRejected (Fits frag) P = Unit {0}
IfRejected (Rejected range) P = P
