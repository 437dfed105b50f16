-- Places in a row, and stacks of items.
use Rattle.std.proofs.Common.{◌≡◌, ◌<◌, [], ◌∷◌, IfSome, None, length, refl}
use Rattle.std.specs.declared.cmp.Ordering.TheVariants.{Less}
use Rattle.mc_base.specs.Places.{item_number, place_order, place_within}
use Rattle.flow_data.specs.Soundness.{IsSoundItem}
use Rattle.flow_list.specs.Data.{Flow, FlowsData, Item, Plain, Line, Void, Image, Bounded, Atom, Row}
use Rattle.flow_list.specs.Tokens.{IsPlaceBefore, Token}
use Rattle.tree_lowering.specs.Lower.{stack_of_item}

pub item-before : (d : FlowsData) (f : Flow) (t : Token) → ((place_order t (0 ∷ []) ≡ Less) → ⊥) → place_within t ≡ None →
    item_number t < length f.items → IsPlaceBefore d f t
item-before d f [] some none lt = absurd (some refl)
item-before d f (i ∷ []) some none lt = lt
item-before d f (i ∷ (j ∷ rest)) some none lt = absurd (cc none)

pub stack-known : (d : FlowsData) (item : Item) → IsSoundItem d item → IfSome (stack_of_item item) (λ s. s < length d.stacks)
stack-known d (Atom h Plain) sound = tt
stack-known d (Atom h (Line owner index x w)) sound = tt
stack-known d (Atom h (Void owner x w)) sound = tt
stack-known d (Atom h (Image owner x w)) sound = tt
stack-known d (Atom h (Bounded owner number x)) sound = sound.stack.0
stack-known d (Row r) sound = tt
