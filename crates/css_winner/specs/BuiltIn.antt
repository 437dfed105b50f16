-- The built-in style sheet: what its text spells. A test shows that the text is on the grammar.
use Rattle.std.specs.Prelude.{[], Result, Ok, Err, None}
use Rattle.mc_base.specs.declared.refusal.Refusal.{Refusal}
use Rattle.css_data.specs.declared.rule.Sheet.{Sheet}
use Rattle.css_syntax.specs.Sheets.{sheet_of}
use Rattle.css_winner.specs.declared.sheet_text.TheConstants.{BUILT_IN}

abbrev pub sheet_or_none : Result Sheet Refusal → Sheet
sheet_or_none (Ok sheet) = sheet
sheet_or_none (Err refusal) = record { rules = []; construct = None }

unfoldable pub built_in : Sheet
built_in = sheet_or_none (sheet_of BUILT_IN.now)
