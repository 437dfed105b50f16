-- What a flow file within the limits has: its numbers, columns, depth, items and lines are bounded.
use Rattle.std.proofs.Common.{◌≡◌, ℕ, suc, ◌+◌, ◌^◌, ◌<◌, ◌≤◌, List, [], ◌∷◌, length, ltb, cond, Bool, true, false, Option, Some}
use Rattle.std.proofs.Common.{None, refl, sym, ap, ◌∙◌, subst, arith}
use Rattle.std.specs.Prelude.{⊤, IfSome}
use Rattle.std.specs.List.{AllByRecursion}
use Rattle.std.proofs.lemmas.List.{length-append}
use Rattle.std.proofs.lemmas.Bool.{ltb-false}
use Rattle.mc_base.specs.declared.refusal.Refusal.{Refusal}
use Rattle.flow_text.specs.declared.line.Line.{Line}
use Rattle.flow_text.specs.declared.line.Form.{Form}
use Rattle.flow_text.specs.declared.line.Form.TheVariants as forms
use Rattle.flow_text.specs.Forms.{IsForm}
use Rattle.flow_text.specs.Text.{IsText}
use Rattle.flow_text.specs.Grammar.{Rest, no_more, edge, place, atom, row, line, lines_of, FlowFile, content_lines, file_lines}
use Rattle.flow_text.specs.Limits.{first_above, or_else, numbers, long_in, first_long, columns, wide_in, first_wide, is_deep}
use Rattle.flow_text.specs.Limits.{items, no_counts, has_crowded_row, or_crowded, or_many, or_deep, or_wide, or_long}
use Rattle.flow_text.specs.Limits.{limit_passed}
use Rattle.flow_text.specs.TreeLimits.{file_depth, file_items, file_most_inner}
use Rattle.flow_text.proofs.LimitLaws.{file_deep, file_items_are, file_crowded}
use Rattle.flow_list.specs.FileFlows.{IsFile, limit_of}

-- ---- what is bounded

abbrev pub AreLow : List ℕ → Type 0
AreLow ns = AllByRecursion (λ n. n ≤ 2 ^ 24) ns

-- the numbers of what is left of a row are at most 2^24, and its rows have 1 to 32 columns
abbrev pub IsLow : Rest → Type 0
IsLow no_more = ⊤
IsLow (edge l rest) = AreLow (numbers l.form) × IsLow rest
IsLow (place at level rest) = IsLow rest
IsLow (atom at height rest) = (height ≤ 2 ^ 24) × IsLow rest
IsLow (row at n w step x content ended rest) =
    (0 < n) × (n ≤ 32) × (w ≤ 2 ^ 24) × (step ≤ 2 ^ 24) × (x ≤ 2 ^ 24) × IsLow content × IsLow rest

abbrev pub IsLowContent : Option Rest → Type 0
IsLowContent None = ⊤
IsLowContent (Some rest) = IsLow rest

pub record IsWithinLimits (text : List ℕ) (file : FlowFile) : Type 0 where
  pub some_column : 0 < file.n
  pub column_limit : file.n ≤ 32
  pub w_limit : file.w ≤ 2 ^ 24
  pub step_limit : file.step ≤ 2 ^ 24
  pub available_limit : IfSome file.available (λ a. a ≤ 2 ^ 24)
  pub low : IsLowContent file.content
  pub nest_limit : file_depth file ≤ 3
  pub item_limit : file_items file ≤ 100000
  pub inner_limit : file_most_inner file ≤ 2000
  pub line_limit : length (file_lines file) ≤ length text

-- ---- lines

abbrev pub IsLowForm : Form → Type 0
IsLowForm form = AreLow (numbers form) × AllByRecursion (λ n. n ≤ 32) (columns form) × AllByRecursion (λ n. 0 < n) (columns form)

abbrev pub AreLowLines : List Line → Type 0
AreLowLines [] = ⊤
AreLowLines (l ∷ lines) = IsLowForm l.form × AreLowLines lines

none_above : (limit : ℕ) (ns : List ℕ) → first_above limit ns ≡ None → AllByRecursion (λ n. n ≤ limit) ns
none_above limit [] h = tt
none_above limit (n ∷ ns) h = go (ltb limit n) refl h (none_above limit ns)
  where
    go : (b : Bool) → ltb limit n ≡ b → cond b (Some n) (first_above limit ns) ≡ None
        → (first_above limit ns ≡ None → AllByRecursion (λ n. n ≤ limit) ns) → AllByRecursion (λ n. n ≤ limit) (n ∷ ns)
    go true e h rest = absurd cc
    go false e h rest = (ltb-false limit n e, rest h)

neither : (a b : Option ℕ) → or_else a b ≡ None → (a ≡ None) × (b ≡ None)
neither None b h = (refl, h)
neither (Some x) b h = absurd cc

some_columns : (form : Form) (text : List ℕ) → IsForm form text → AllByRecursion (λ n. 0 < n) (columns form)
some_columns (forms.First n w step available auto) text h = (h.0, tt)
some_columns (forms.Row n w step x) text h = (h.0, tt)
some_columns _ text h = tt

pub low_lines : (lines : List Line) (at : ℕ) (text : List ℕ) → IsText at lines text → first_long lines ≡ None
    → first_wide lines ≡ None → AreLowLines lines
low_lines [] at text h long wide = tt
low_lines (l ∷ lines) at text h long wide =
    let longs = neither (long_in l.form) (first_long lines) long in
    let wides = neither (wide_in l.form) (first_wide lines) wide in (
      (none_above (2 ^ 24) (numbers l.form) longs.0, none_above 32 (columns l.form) wides.0, some_columns l.form h.1 h.3),
      low_lines lines (at + length h.1 + 1) h.2 h.5 longs.1 wides.1,
    )

pub line_count : (lines : List Line) (at : ℕ) (text : List ℕ) → IsText at lines text → length lines ≤ length text
line_count [] at text h = omega arith
line_count (l ∷ lines) at text h =
    let rest = line_count lines (at + length h.1 + 1) h.2 h.5 in
    let whole = length-append h.1 (10 ∷ h.2) in
    subst (λ (bytes : List ℕ). suc (length lines) ≤ length bytes) (sym h.4) (omega arith)

low_rest : (r : Rest) (after : List Line) → AreLowLines (lines_of r after) → IsLow r × AreLowLines after
low_rest no_more after h = (tt, h)
low_rest (edge l r) after h = let rest = low_rest r after h.1 in ((h.0.0, rest.0), rest.1)
low_rest (place at level r) after h = low_rest r after h.1
low_rest (atom at height r) after h = let rest = low_rest r after h.1 in ((h.0.0.0, rest.0), rest.1)
low_rest (row at n w step x content ended r) after h =
    let inside = low_rest content (line ended forms.Close ∷ lines_of r after) h.1 in
    let rest = low_rest r after inside.1.1 in
    let ns = h.0.0 in
    ((h.0.2.0, h.0.1.0, ns.1.0, ns.1.1.0, ns.1.1.1.0, inside.0, rest.0), rest.1)

low_content : (content : Option Rest) (after : List Line) → AreLowLines (content_lines content after) → IsLowContent content
low_content None after h = tt
low_content (Some r) after h = (low_rest r after h).0

low_available : (n w step : ℕ) (available : Option ℕ) (auto : Bool) → IsLowForm (forms.First n w step available auto)
    → IfSome available (λ a. a ≤ 2 ^ 24)
low_available n w step None auto h = tt
low_available n w step (Some a) auto h = h.0.1.1.1.0

low_w : (n w step : ℕ) (available : Option ℕ) (auto : Bool) → IsLowForm (forms.First n w step available auto)
    → (w ≤ 2 ^ 24) × (step ≤ 2 ^ 24)
low_w n w step None auto h = (h.0.1.0, h.0.1.1.0)
low_w n w step (Some a) auto h = (h.0.1.0, h.0.1.1.0)

-- ---- the limits

pub record PassesNone (lines : List Line) : Type 0 where
  pub long : first_long lines ≡ None
  pub wide : first_wide lines ≡ None
  pub deep : is_deep 0 lines ≡ false
  pub many : ltb 100000 (items lines) ≡ false
  pub crowded : has_crowded_row no_counts lines ≡ false

not_long : (a : Option ℕ) (other : Option Refusal) → or_long a other ≡ None → (a ≡ None) × (other ≡ None)
not_long None other h = (refl, h)
not_long (Some n) other h = absurd cc

not_wide : (a : Option ℕ) (other : Option Refusal) → or_wide a other ≡ None → (a ≡ None) × (other ≡ None)
not_wide None other h = (refl, h)
not_wide (Some n) other h = absurd cc

not_deep : (b : Bool) (other : Option Refusal) → or_deep b other ≡ None → (b ≡ false) × (other ≡ None)
not_deep false other h = (refl, h)
not_deep true other h = absurd cc

not_crowded : (b : Bool) → or_crowded b ≡ None → b ≡ false
not_crowded false h = refl
not_crowded true h = absurd cc

not_many : (n : ℕ) (other : Option Refusal) → or_many n other ≡ None → (ltb 100000 n ≡ false) × (other ≡ None)
not_many n other h = go (ltb 100000 n) refl h
  where
    go : (b : Bool) → ltb 100000 n ≡ b → cond b (or_many 100001 None) other ≡ None → (ltb 100000 n ≡ false) × (other ≡ None)
    go false e h = (e, h)
    go true e h = absurd cc

pub passes_none : (lines : List Line) → limit_passed lines ≡ None → PassesNone lines
unfolding limit_passed
passes_none lines h =
    let many = or_many (items lines) (or_crowded (has_crowded_row no_counts lines)) in
    let deep = or_deep (is_deep 0 lines) many in
    let a = not_long (first_long lines) (or_wide (first_wide lines) deep) h in
    let b = not_wide (first_wide lines) deep a.1 in
    let c = not_deep (is_deep 0 lines) many b.1 in
    let e = not_many (items lines) (or_crowded (has_crowded_row no_counts lines)) c.1 in
    record { long = a.0; wide = b.0; deep = c.0; many = e.0; crowded = not_crowded (has_crowded_row no_counts lines) e.1 }

within : (text : List ℕ) (file : FlowFile) → IsText 0 (file_lines file) text → AreLowLines (file_lines file) → file_depth file ≤ 3
    → file_items file ≤ 100000 → file_most_inner file ≤ 2000 → IsWithinLimits text file
within text file spelled low deep many inner =
    let first = low.1.0 in
    let sizes = low_w file.n file.w file.step file.available file.auto first in
    record {
      some_column = first.2.0;
      column_limit = first.1.0;
      w_limit = sizes.0;
      step_limit = sizes.1;
      available_limit = low_available file.n file.w file.step file.available file.auto first;
      low = low_content file.content (line file.ended forms.Close ∷ []) low.1.1;
      nest_limit = deep;
      item_limit = many;
      inner_limit = inner;
      line_limit = line_count (file_lines file) 0 text spelled;
    }

pub file_within_limits : (text : List ℕ) (file : FlowFile) → IsFile text file → limit_of file ≡ None → IsWithinLimits text file
file_within_limits text file is none =
    let g = is.on_grammar in
    let p = passes_none (file_lines file) none in
    let spelled = subst (λ (lines : List Line). IsText 0 lines text) g.whole is.spelled in
    let same = sym g.whole in
    let deep = subst (λ (lines : List Line). is_deep 0 lines ≡ false) same p.deep in
    let many = subst (λ (lines : List Line). ltb 100000 (items lines) ≡ false) same p.many in
    let crowded = subst (λ (lines : List Line). has_crowded_row no_counts lines ≡ false) same p.crowded in
    within text file spelled (low_lines (file_lines file) 0 text spelled p.long p.wide)
    (ltb-false 3 (file_depth file) (sym (file_deep is.lines file g) ∙ deep))
    (ltb-false 100000 (file_items file) (sym (ap (ltb 100000) (file_items_are is.lines file g)) ∙ many))
    (ltb-false 2000 (file_most_inner file) (sym (file_crowded is.lines file g) ∙ crowded))
