-- The styles of boxes: initial and inherited values, and lengths.
use Rattle.std.specs.Prelude.{ℕ, ◌*◌, ◌/◌, ◌^◌, min, Bool, false, true, List, map, slice_index_or, Option, Some, None}
use Rattle.break_rules.specs.declared.seam.BreakValue.TheVariants as breaks
use Rattle.inline_text.specs.declared.content.RunStyle.{RunStyle}
pub use Rattle.box_data.specs.declared.style.Length.{Length}
pub use Rattle.box_data.specs.declared.style.Length.TheVariants.{Auto as auto, Units as units, Percent as percent}
pub use Rattle.box_data.specs.declared.style.Display.{Display}
pub use Rattle.box_data.specs.declared.style.Display.TheVariants.{Hidden as hidden, Inline as inline, Block as block}
pub use Rattle.box_data.specs.declared.style.Align.{Align}
pub use Rattle.box_data.specs.declared.style.Align.TheVariants.{Left as left, Right as right, Center as center}
pub use Rattle.box_data.specs.declared.style.SideLengths.{SideLengths}
pub use Rattle.box_data.specs.declared.style.SideAmounts.{SideAmounts}
pub use Rattle.box_data.specs.declared.style.BoxStyle.{BoxStyle}

-- a length above 2^62 counts as 2^62
abbrev pub capped : ℕ → ℕ
capped u = min u (2 ^ 62)

abbrev pub no_lengths : SideLengths
no_lengths = record { top = units 0; right = units 0; bottom = units 0; left = units 0 }

abbrev pub no_amounts : SideAmounts
no_amounts = record { top = 0; right = 0; bottom = 0; left = 0 }

-- the initial values
abbrev pub initial : BoxStyle
initial = record {
  display = inline;
  size = 1024;
  line = 1228;
  wrap = true;
  keep = false;
  hyphens = true;
  align = left;
  orphans = 2;
  widows = 2;
  margin = no_lengths;
  border = no_amounts;
  padding = no_lengths;
  width = auto;
  max_width = auto;
  height = auto;
  border_box = false;
  column_count = None;
  column_width = None;
  column_gap = auto;
  fill_auto = false;
  span_all = false;
  break_before = breaks.Auto;
  break_after = breaks.Auto;
  avoid_inside = false;
  cloned = false;
  refused = None;
}

-- what an anonymous box has: the inherited properties alone (CSS 2.1, section 9.2.1.1)
abbrev pub inherited : BoxStyle → BoxStyle
inherited s = record initial {
  size = s.size;
  line = s.line;
  wrap = s.wrap;
  keep = s.keep;
  hyphens = s.hyphens;
  align = s.align;
  orphans = s.orphans;
  widows = s.widows;
}

-- ---- the styles of a document's nodes, of which only elements have one that counts

-- the style of node k
abbrev pub style_of : List BoxStyle → ℕ → BoxStyle
style_of styles k = slice_index_or styles k initial

-- what a style says of text in this face
abbrev pub text_of : (face : ℕ) → BoxStyle → RunStyle
text_of face s = record { face = face; size = s.size; line = s.line; wrap = s.wrap; keep = s.keep; hyphens = s.hyphens }

-- of text whose face doesn't count
abbrev pub texts_of : List BoxStyle → List RunStyle
texts_of styles = map (text_of 0) styles

-- a length, where a whole is this much; none where it is `auto`
abbrev pub resolved : Length → (whole : ℕ) → Option ℕ
resolved auto whole = None
resolved (units u) whole = Some u
resolved (percent p) whole = Some (capped (p * whole / 10 ^ 11))

abbrev pub is_length : Length → Bool
is_length auto = false
is_length (units u) = true
is_length (percent p) = false
