use Rattle.std.proofs.Common.{◌≡◌, ap, ◌∙◌}
use Rattle.box_style.specs.Styles.{box_style_of, amount_of, line_of}
use Rattle.box_style.proofs.style.box_style.Goals as goal

pub returns : goal.returns
unfolding box_style_of
returns c =
    let line : c.line_of.result ≡ line_of c.args.style.now.line_height (amount_of c.args.style.now.font_size) =
    c.line_of.ensures ∙ ap (line_of c.args.style.now.line_height) c.amount_of-size.ensures in
    λ i. record {
      display = c.display_of.ensures i;
      size = c.amount_of-size.ensures i;
      line = line i;
      wrap = c.is_word.ensures i;
      keep = c.is_word-2.ensures i;
      hyphens = c.is_word-3.ensures i;
      align = c.align_of.ensures i;
      orphans = c.count_of.ensures i;
      widows = c.count_of-2.ensures i;
      margin = c.margin_of.ensures i;
      border = c.border_of.ensures i;
      padding = c.padding_of.ensures i;
      width = c.length_of.ensures i;
      max_width = c.length_of-2.ensures i;
      height = c.length_of-3.ensures i;
      border_box = c.is_word-4.ensures i;
      column_count = c.column_count_of.ensures i;
      column_width = c.column_width_of.ensures i;
      column_gap = c.length_of-4.ensures i;
      fill_auto = c.is_word-5.ensures i;
      span_all = c.is_word-6.ensures i;
      break_before = c.break_of.ensures i;
      break_after = c.break_of-2.ensures i;
      avoid_inside = c.is_word-7.ensures i;
      cloned = c.is_word-8.ensures i;
      refused = c.args.refused;
    }
