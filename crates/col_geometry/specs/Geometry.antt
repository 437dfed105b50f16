-- The used count, width and step of columns (CSS Multi-column Layout 1, section 3.4). Lengths are in units of 1/64 px.
use Rattle.std.specs.Prelude.{ℕ, ◌+◌, ◌-◌, ◌/◌, min, max, Option, Some, None}
use Rattle.col_geometry.specs.declared.columns.Columns.{Columns}

-- how many columns of a width, of at least 1 px, have room beside each other, at least one
abbrev pub count_by_width : ℕ → ℕ → ℕ → ℕ
count_by_width u width gap = max ((u + gap) / (max width 64 + gap)) 1

-- by the count, by the width, or by the lesser of both; one of them is given
abbrev pub used_count : ℕ → Option ℕ → Option ℕ → ℕ → ℕ
used_count u (Some count) None gap = count
used_count u None (Some width) gap = count_by_width u width gap
used_count u (Some count) (Some width) gap = min count (count_by_width u width gap)
used_count u None None gap = 1

abbrev pub columns_by_count : ℕ → ℕ → ℕ → Columns
columns_by_count u n gap = record { n = n; w = (u + gap) / n - gap; step = (u + gap) / n }

abbrev pub used_columns : ℕ → Option ℕ → Option ℕ → ℕ → Columns
used_columns u count width gap = columns_by_count u (used_count u count width gap) gap
