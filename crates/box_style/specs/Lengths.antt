-- The computed lengths of a document's elements.
use Rattle.std.specs.Prelude.{ℕ, List, [], ◌∷◌, flat_map, Option, Some, None}
use Rattle.css_values.specs.Names.{properties}
use Rattle.css_computed.specs.declared.style.Computed.{Computed}
use Rattle.css_computed.specs.declared.style.Computed.TheVariants as computed
use Rattle.css_computed.specs.declared.style.Style.{Style}
use Rattle.css_computed.specs.Styles.{field}
use Rattle.css_cascade.specs.declared.styles.NodeStyle.{NodeStyle}
use Rattle.css_cascade.specs.Entries.{style_at}

abbrev pub lengths_in : Computed → List ℕ
lengths_in (computed.Word name) = []
lengths_in (computed.Length u) = u ∷ []
lengths_in (computed.Percent value) = []
lengths_in (computed.Number value) = []
lengths_in (computed.Names names) = []

-- the computed lengths of an element, in the order of the table of properties
abbrev pub computed_lengths : Style → List ℕ
computed_lengths s = flat_map (λ property. lengths_in (field property s)) properties

abbrev pub lengths_at : List (Option NodeStyle) → ℕ → List ℕ
lengths_at entries k = elim (style_at entries k) as (λ s. List ℕ) [ None ↦ [] | Some s ↦ computed_lengths s ]

-- those of the shown elements of a document, in document order
abbrev pub shown_lengths : List (Option NodeStyle) → (shown : List ℕ) → List ℕ
shown_lengths entries shown = flat_map (lengths_at entries) shown
