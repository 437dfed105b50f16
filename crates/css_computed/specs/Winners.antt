-- What wins for each property of an element (CSS Cascade 4, section 6): a list with one value, or none, for each property in
-- the order of the table of properties. A property whose winning declaration isn't laid out has the value `initial` in it.
use Rattle.std.specs.Prelude.{List, Option, Some, None, slice_get}
use Rattle.css_values.specs.declared.declared.Property.{Property}
use Rattle.css_values.specs.declared.declared.Value.{Value}
use Rattle.css_values.specs.Targets.{property_place}

abbrev pub joined : Option (Option Value) → Option Value
joined None = None
joined (Some value) = value

-- the winning value of a property, if it has one
abbrev pub winner : List (Option Value) → Property → Option Value
winner winning property = joined (slice_get winning (property_place property))
