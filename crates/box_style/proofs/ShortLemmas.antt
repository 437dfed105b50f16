-- Where no computed length is above the limit, no length of the style of a box is.
use Rattle.std.proofs.Common.{◌≡◌, ℕ, suc, zero, ◌<◌, ◌≤◌, ◌^◌, List, [], ◌∷◌, length, arith}
use Rattle.std.specs.Prelude.{Option, Some, None, IfSome}
use Rattle.std.proofs.lemmas.Bool.Decides.{nat_tests}
use Rattle.mc_base.specs.declared.refusal.ConstructName.{ConstructName}
use Rattle.font_table.specs.declared.fonts.Face.{Face}
use Rattle.line_breaker.specs.Lines.{IsStyle}
use Rattle.css_values.specs.Names.{properties}
use Rattle.css_computed.specs.declared.style.Computed.{Computed}
use Rattle.css_computed.specs.declared.style.Computed.TheVariants as computed
use Rattle.css_computed.specs.declared.style.Style.{Style}
use Rattle.css_computed.specs.Styles.{field}
use Rattle.css_cascade.specs.declared.styles.NodeStyle.{NodeStyle}
use Rattle.box_data.specs.Styles.{initial, style_of}
use Rattle.box_data.specs.Limits.{first_above}
use Rattle.box_data.specs.Bounds.{IsShort, IsShortLength}
use Rattle.box_style.specs.Styles.{amount_of, length_of, line_of, column_width_of, column_count_of, box_style_of, styles_in}
use Rattle.box_style.specs.Texts.{short_text}
use Rattle.box_style.specs.Lengths.{lengths_in, computed_lengths, lengths_at}
use Rattle.box_style.proofs.LengthLemmas.{each_low}

-- no length of the value is above the limit
abbrev IsLow : Computed → Type 0
IsLow value = first_above (2 ^ 24) (lengths_in value) ≡ None

low : (u : ℕ) → first_above (2 ^ 24) (u ∷ []) ≡ None → u ≤ 2 ^ 24
low u e = grind (arith, nat_tests)

amount_low : (value : Computed) → IsLow value → amount_of value ≤ 2 ^ 24
amount_low (computed.Word name) e = omega arith
amount_low (computed.Length u) e = low u e
amount_low (computed.Percent value) e = omega arith
amount_low (computed.Number value) e = omega arith
amount_low (computed.Names names) e = omega arith

length_low : (value : Computed) → IsLow value → IsShortLength (length_of value)
length_low (computed.Word name) e = tt
length_low (computed.Length u) e = low u e
length_low (computed.Percent value) e = tt
length_low (computed.Number value) e = tt
length_low (computed.Names names) e = tt

width_low : (value : Computed) → IsLow value → IfSome (column_width_of value) (λ w. w ≤ 2 ^ 24)
width_low (computed.Word name) e = tt
width_low (computed.Length u) e = low u e
width_low (computed.Percent value) e = tt
width_low (computed.Number value) e = tt
width_low (computed.Names names) e = tt

count_some : (value : Computed) → IfSome (column_count_of value) (λ n. 0 < n)
count_some (computed.Word name) = tt
count_some (computed.Length u) = tt
count_some (computed.Percent value) = tt
count_some (computed.Number value) = omega arith
count_some (computed.Names names) = tt

count_fits : (value : Computed) → IfSome (column_count_of value) (λ n. n < 2 ^ 32)
count_fits (computed.Word name) = tt
count_fits (computed.Length u) = tt
count_fits (computed.Percent value) = tt
count_fits (computed.Number value) = omega arith
count_fits (computed.Names names) = tt

style_short : (s : Style) (refused : Option ConstructName) → first_above (2 ^ 24) (computed_lengths s) ≡ None
    → IsShort (box_style_of s refused)
unfolding box_style_of field
style_short s refused e =
    let at = each_low (λ property. lengths_in (field property s)) (2 ^ 24) properties e in
    record {
      size = amount_low s.font_size (at 1);
      margin = record {
        top = length_low s.margin_top (at 11);
        right = length_low s.margin_right (at 12);
        bottom = length_low s.margin_bottom (at 13);
        left = length_low s.margin_left (at 14);
      };
      border = record {
        top = amount_low s.border_top_width (at 19);
        right = amount_low s.border_right_width (at 20);
        bottom = amount_low s.border_bottom_width (at 21);
        left = amount_low s.border_left_width (at 22);
      };
      padding = record {
        top = length_low s.padding_top (at 15);
        right = length_low s.padding_right (at 16);
        bottom = length_low s.padding_bottom (at 17);
        left = length_low s.padding_left (at 18);
      };
      width = length_low s.width (at 27);
      max_width = length_low s.max_width (at 28);
      height = length_low s.height (at 29);
      column_width = width_low s.column_width (at 31);
      column_gap = length_low s.column_gap (at 33);
      some_column = count_some s.column_count;
      column_count = count_fits s.column_count;
    }

initial_short : IsShort initial
initial_short = record {
  size = omega arith;
  margin = record { top = omega arith; right = omega arith; bottom = omega arith; left = omega arith };
  border = record { top = omega arith; right = omega arith; bottom = omega arith; left = omega arith };
  padding = record { top = omega arith; right = omega arith; bottom = omega arith; left = omega arith };
  width = tt;
  max_width = tt;
  height = tt;
  column_width = tt;
  column_gap = tt;
  some_column = tt;
  column_count = tt;
}

pub styles_short : (entries : List (Option NodeStyle)) (k : ℕ) → first_above (2 ^ 24) (lengths_at entries k) ≡ None
    → IsShort (style_of (styles_in entries) k)
styles_short [] k e = initial_short
styles_short (None ∷ entries) zero e = initial_short
styles_short (Some entry ∷ entries) zero e = style_short entry.style entry.refused e
styles_short (entry ∷ entries) (suc k) e = styles_short entries k e

-- ---- text

line_low : (value : Computed) (size : ℕ) → line_of value size ≤ 2 ^ 62
line_low (computed.Word name) size = omega arith
line_low (computed.Length u) size = omega arith
line_low (computed.Percent value) size = omega arith
line_low (computed.Number value) size = omega arith
line_low (computed.Names names) size = omega arith

pub text_can_break : (faces : List Face) (face : ℕ) (s : Style) (refused : Option ConstructName) → face < length faces
    → IsStyle faces (short_text face (box_style_of s refused))
unfolding box_style_of
text_can_break faces face s refused known =
    record { known = known; size = omega arith; line = line_low s.line_height (amount_of s.font_size) }
