-- A document has one style for each element, and none else.
use Rattle.std.specs.Prelude.{◌≡◌, List, Option}
use Rattle.html_grammar.specs.declared.dom.Dom.{Dom}
use Rattle.css_data.specs.declared.rule.Sheet.{Sheet}
use Rattle.css_select.specs.Places.{ParentsAreEarlier}
use Rattle.css_cascade.specs.declared.styles.NodeStyle.{NodeStyle}
use Rattle.css_cascade.specs.Cascaded.{IsCascaded}

abbrev pub OneStyling : Type 0
OneStyling = (sheets : List Sheet) (dom : Dom) (a b : List (Option NodeStyle)) → ParentsAreEarlier dom
    → IsCascaded sheets dom a → IsCascaded sheets dom b → a ≡ b
