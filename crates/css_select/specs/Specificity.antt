-- The specificity of a selector (Selectors 3, section 9).
use Rattle.std.specs.Prelude.{◌+◌, ◌-◌, ◌^◌, List, ℕ, Bool, false, true, Option, None, Some, count_by, min, sum_by}
use Rattle.css_data.specs.declared.selector.Selector.{Selector}
use Rattle.css_data.specs.declared.selector.Test.{Test}
use Rattle.css_data.specs.declared.selector.Test.TheVariants as tests

abbrev pub is_id : Test → Bool
is_id (tests.Id text) = true
is_id (tests.Class text) = false
is_id (tests.Attr name op value) = false
is_id tests.Root = false
is_id tests.FirstChild = false
is_id tests.LastChild = false
is_id tests.Link = false
is_id (tests.Nth step offset) = false
is_id tests.Never = false
is_id tests.PseudoElement = false

abbrev pub is_pseudo_element : Test → Bool
is_pseudo_element (tests.Id text) = false
is_pseudo_element (tests.Class text) = false
is_pseudo_element (tests.Attr name op value) = false
is_pseudo_element tests.Root = false
is_pseudo_element tests.FirstChild = false
is_pseudo_element tests.LastChild = false
is_pseudo_element tests.Link = false
is_pseudo_element (tests.Nth step offset) = false
is_pseudo_element tests.Never = false
is_pseudo_element tests.PseudoElement = true

-- classes, attributes and pseudo-classes
abbrev pub is_class : Test → Bool
is_class (tests.Id text) = false
is_class (tests.Class text) = true
is_class (tests.Attr name op value) = true
is_class tests.Root = true
is_class tests.FirstChild = true
is_class tests.LastChild = true
is_class tests.Link = true
is_class (tests.Nth step offset) = true
is_class tests.Never = true
is_class tests.PseudoElement = false

-- 1 where a type is named: `*` counts nothing
abbrev pub types_named : Option (List ℕ) → ℕ
types_named None = 0
types_named (Some name) = 1

abbrev pub ids_of : Selector → ℕ
ids_of selector = sum_by (λ compound. count_by is_id compound.tests) selector.compounds

abbrev pub classes_of : Selector → ℕ
classes_of selector = sum_by (λ compound. count_by is_class compound.tests) selector.compounds

abbrev pub types_of : Selector → ℕ
types_of selector = sum_by (λ compound. types_named compound.element + count_by is_pseudo_element compound.tests)
    selector.compounds

-- a count that ends at the greatest number that it may have
abbrev pub capped : ℕ → ℕ
capped n = min n (2 ^ 32 - 1)
