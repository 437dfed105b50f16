-- Laws about the styles of boxes.
use Rattle.std.specs.Prelude.{◌≡◌, ℕ, ◌^◌, List, Option, None}
use Rattle.css_cascade.specs.declared.styles.NodeStyle.{NodeStyle}
use Rattle.box_data.specs.Styles.{style_of}
use Rattle.box_data.specs.Limits.{first_above}
use Rattle.box_data.specs.Bounds.{IsShort}
use Rattle.box_style.specs.Styles.{styles_in}
use Rattle.box_style.specs.Lengths.{lengths_at}

-- where no computed length of a node is above the limit, none of its box's style is
abbrev pub StylesAreShort : Type 0
StylesAreShort = (entries : List (Option NodeStyle)) (k : ℕ) → first_above (2 ^ 24) (lengths_at entries k) ≡ None
    → IsShort (style_of (styles_in entries) k)
