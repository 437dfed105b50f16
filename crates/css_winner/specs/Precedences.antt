-- Which of two declarations comes above the other (CSS Cascade 4, section 6.1): by origin and importance, then what stands in a
-- style attribute before what has a selector, then by specificity, then by order.
use Rattle.std.specs.Prelude.{ℕ, Bool, true, false, List, [], ◌∷◌}
use Rattle.std.specs.Ordering.{nat_cmp, is_gt}
use Rattle.std.specs.Cmp.Lexicographic.{slice_cmp}
use Rattle.css_data.specs.declared.selector.Selector.{Selector}
use Rattle.css_select.specs.declared.weight.Weight.{Weight}
use Rattle.css_select.specs.Specificity.{capped, ids_of, classes_of, types_of}
use Rattle.css_winner.specs.declared.precedence.Origin.{Origin}
use Rattle.css_winner.specs.declared.precedence.Origin.TheVariants.{BuiltIn, Author, Important}
use Rattle.css_winner.specs.declared.precedence.Precedence.{Precedence}

abbrev pub origin_number : Origin → ℕ
origin_number BuiltIn = 0
origin_number Author = 1
origin_number Important = 2

abbrev pub flag : Bool → ℕ
flag true = 1
flag false = 0

-- the numbers that decide, the first first
abbrev pub numbers : Precedence → List ℕ
numbers p =
    origin_number p.origin ∷ flag p.inline ∷ p.weight.ids ∷ p.weight.classes ∷ p.weight.types
    ∷ p.sheet ∷ p.rule ∷ p.place ∷ []

-- the first comes above the second: of the first numbers in which they differ its own is the greater
unfoldable pub is_above : Precedence → Precedence → Bool
is_above p q = is_gt (slice_cmp nat_cmp (numbers p) (numbers q))

-- the specificity of a selector (Selectors 3, section 9)
abbrev pub weight_of : Selector → Weight
weight_of selector =
    record { ids = capped (ids_of selector); classes = capped (classes_of selector); types = capped (types_of selector) }

-- nothing, for what has no selector
abbrev pub no_weight : Weight
no_weight = record { ids = 0; classes = 0; types = 0 }
