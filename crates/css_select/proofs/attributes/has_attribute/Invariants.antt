use Rattle.std.proofs.Common.{take}
use Rattle.css_select.specs.Attributes.{HasAttribute}
use Rattle.css_select.proofs.attributes.has_attribute.Given as goal

abbrev pub invariant-loop-attribute : goal.invariant-loop-attribute
invariant-loop-attribute l = HasAttribute l.name l.op l.value (take l.attribute-index l.attributes) → ⊥
