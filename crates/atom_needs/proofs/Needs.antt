-- What stands after an item reaches less than 2^60.
use Rattle.std.proofs.Common.{ℕ, ◌+◌, ◌^◌, ◌<◌, arith}
use Rattle.flow_data.specs.declared.data.FlowsData.{FlowsData}
use Rattle.flow_data.specs.Flows.{box_of}
use Rattle.flow_list.specs.Data.{Flow}
use Rattle.flow_list.proofs.Fitting.{open_across-le}
use Rattle.column_strip.specs.declared.passing.Behind.{Behind}
use Rattle.column_strip.specs.Passed.{IsBehind}

pub behind-small : (d : FlowsData) (f : Flow) (k : ℕ) (b : Behind) → IsBehind d f k b → b.strip.y + b.boxes.bottoms < 2 ^ 60
behind-small d f k b behind =
    let room = behind.room in
    let below = behind.across.below in
    omega (arith, open_across-le (λ b. (box_of d b).bottom) f (k + 1))
