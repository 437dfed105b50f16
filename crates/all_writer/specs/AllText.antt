-- The text of a layout whose flagged pieces of rows are lowered (this project's own).
use Rattle.std.specs.Prelude.{ℕ, List, [], ◌∷◌, ◌++◌}
use Rattle.std.specs.List.{flat_map}
use Rattle.flow_list.specs.Data.{FlowsData}
use Rattle.piece_data.specs.Lowering.{Flags}
use Rattle.piece_data.specs.LoweredText.{lowered_lines}

-- its lines, each with its line feed
abbrev pub all_text : FlowsData → Flags → List ℕ
all_text d flags = flat_map (λ line. line ++ 10 ∷ []) (lowered_lines d flags)
