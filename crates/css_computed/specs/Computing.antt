-- The computed value of each property of an element (CSS 2.1, section 6.1; CSS Cascade 4, sections 4.4 and 7), from what wins
-- for it, its parent's style, which the root hasn't, and the root's font size, which the root itself hasn't.
use Rattle.std.specs.Prelude.{ℕ, ◌*◌, Bool, true, false, ◌||◌, List, codes, Option, Some, None, if◌then◌else◌, unwrap_or}
use Rattle.std.specs.Str.{bytes_eq}
use Rattle.mc_base.specs.declared.decimal.Decimal.{Decimal}
use Rattle.css_values.specs.declared.declared.Property.{Property}
use Rattle.css_values.specs.declared.declared.Property.TheVariants as properties
use Rattle.css_values.specs.declared.declared.Value.{Value}
use Rattle.css_values.specs.declared.declared.Value.TheVariants as values
use Rattle.css_computed.specs.declared.style.Computed.{Computed}
use Rattle.css_computed.specs.declared.style.Computed.TheVariants.{Word, Length, Percent, Number, Names}
use Rattle.css_computed.specs.declared.style.Style.{Style}
use Rattle.css_computed.specs.declared.length.FontSizes.{FontSizes}
use Rattle.css_computed.specs.Winners.{winner}
use Rattle.css_computed.specs.Styles.{field}
use Rattle.css_computed.specs.Table.{table, number}
use Rattle.css_computed.specs.Lengths.{length_of, percent_of}

-- `inherit`: the parent's value, and at the root the initial one (CSS Cascade 4, sections 7.2 and 7.3.2)
abbrev pub inherited_value : Property → Option Style → Computed
inherited_value property None = (table property).initial
inherited_value property (Some parent) = field property parent

-- `unset`, and what holds where nothing wins (CSS Cascade 4, sections 7.1, 7.2 and 7.3.3)
abbrev pub unset_value : Property → Option Style → Computed
unset_value property parent =
    if (table property).inherited then inherited_value property parent else (table property).initial

-- `bold` is the weight 700, and `normal` 400 (CSS Fonts 4, section 2.2)
abbrev pub is_weight : Property → Bool
is_weight properties.FontWeight = true
is_weight _ = false

abbrev pub word_value : Property → List ℕ → Computed
word_value property name =
    if is_weight property then (if bytes_eq name (codes "bold") then number 700000 else number 400000) else Word name

-- a percentage of these is one of the font size that `em` stands for, and a length (CSS 2.1, sections 10.8.1 and 15.7)
abbrev pub is_of_font_size : Property → Bool
is_of_font_size properties.FontSize = true
is_of_font_size properties.LineHeight = true
is_of_font_size _ = false

abbrev pub percent_value : Property → FontSizes → Decimal → Computed
percent_value property sizes value =
    if is_of_font_size property then Length (percent_of value sizes.em) else Percent value

-- the value of a property, by what wins for it
abbrev pub value_at : Property → Option Style → FontSizes → Option Value → Computed
value_at property parent sizes None = unset_value property parent
value_at property parent sizes (Some values.Inherit) = inherited_value property parent
value_at property parent sizes (Some values.Initial) = (table property).initial
value_at property parent sizes (Some values.Unset) = unset_value property parent
value_at property parent sizes (Some (values.Word name)) = word_value property name
value_at property parent sizes (Some (values.Length value unit)) = Length (length_of sizes value unit)
value_at property parent sizes (Some (values.Percent value)) = percent_value property sizes value
value_at property parent sizes (Some (values.Number value)) = Number value
value_at property parent sizes (Some (values.Names names)) = Names names

-- a length, or this one where the value is none, which no declaration sets where it is asked for
abbrev pub length_or : ℕ → Computed → ℕ
length_or other (Length units) = units
length_or other _ = other

-- the initial font size: 16px
abbrev pub medium : ℕ
medium = 16 * 64

-- the font size of the parent
abbrev pub parent_size : Option Style → ℕ
parent_size None = medium
parent_size (Some parent) = length_or medium parent.font_size

-- in `font-size` itself `em` is the parent's font size, and `rem` the root's; at the root both are the initial one (CSS Values
-- 3, section 5.1.1)
abbrev pub outer_sizes : Option Style → Option ℕ → FontSizes
outer_sizes parent root = record { em = parent_size parent; rem = unwrap_or root medium }

-- the element's font size (CSS 2.1, section 15.7)
abbrev pub own_size : List (Option Value) → Option Style → Option ℕ → ℕ
own_size winning parent root =
    length_or medium (value_at properties.FontSize parent (outer_sizes parent root) (winner winning properties.FontSize))

-- in every other property `em` is the element's own font size, and so is `rem` at the root
abbrev pub inner_sizes : ℕ → Option ℕ → FontSizes
inner_sizes own root = record { em = own; rem = unwrap_or root own }

-- the value of any other property but a border's width
abbrev pub value_of : List (Option Value) → Option Style → FontSizes → Property → Computed
value_of winning parent sizes property = value_at property parent sizes (winner winning property)

-- a border's width, which is 0 where its style is `none` or `hidden` (CSS 2.1, section 8.5.1)
abbrev pub draws_no_line : Computed → Bool
draws_no_line (Word name) = bytes_eq name (codes "none") || bytes_eq name (codes "hidden")
draws_no_line _ = false

abbrev pub width_beside : Computed → Computed → Computed
width_beside style width = Length (if draws_no_line style then 0 else length_or 0 width)

-- the value of each property, where this is the font size and the others have these values
unfoldable pub with_widths : ℕ → (Property → Computed) → Property → Computed
with_widths own value properties.FontSize = Length own
with_widths own value properties.BorderTopWidth =
    width_beside (value properties.BorderTopStyle) (value properties.BorderTopWidth)
with_widths own value properties.BorderRightWidth =
    width_beside (value properties.BorderRightStyle) (value properties.BorderRightWidth)
with_widths own value properties.BorderBottomWidth =
    width_beside (value properties.BorderBottomStyle) (value properties.BorderBottomWidth)
with_widths own value properties.BorderLeftWidth =
    width_beside (value properties.BorderLeftStyle) (value properties.BorderLeftWidth)
with_widths own value property = value property

abbrev pub computed_from : List (Option Value) → Option Style → Option ℕ → ℕ → Property → Computed
computed_from winning parent root own = with_widths own (value_of winning parent (inner_sizes own root))

-- the computed value of each property
abbrev pub computed_value : List (Option Value) → Option Style → Option ℕ → Property → Computed
computed_value winning parent root = computed_from winning parent root (own_size winning parent root)
