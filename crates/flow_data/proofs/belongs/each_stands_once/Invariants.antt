use Rattle.std.proofs.Common.{◌≡◌, ◌<◌, ℕ, length, min, slice_index, take}
use Rattle.flow_data.specs.Soundness.{count_of}
use Rattle.flow_data.proofs.belongs.each_stands_once.Given as goal

abbrev pub invariant-loop-number : goal.invariant-loop-number
invariant-loop-number l = (length l.counts.items ≡ l.n)
    × ((k : ℕ) → k < l.n → slice_index l.counts.items k ≡ min (count_of k (take l.number-index l.numbers)) 255)
