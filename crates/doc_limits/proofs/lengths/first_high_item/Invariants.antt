use Rattle.std.specs.Prelude.{◌^◌, [], ◌∷◌}
use Rattle.flow_data.specs.declared.data.Item.{Item}
use Rattle.flow_data.specs.Flows.{atom_height}
use Rattle.doc_limits.proofs.Firsts.{IsFirstFrom}
use Rattle.doc_limits.proofs.lengths.first_high_item.Given as goal

abbrev pub invariant-loop-item : goal.invariant-loop-item
invariant-loop-item l = IsFirstFrom (2 ^ 24) (λ (item : Item). atom_height item ∷ []) l.items l.item-index
