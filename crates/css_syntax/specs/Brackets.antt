-- Brackets, blocks and preludes: what is open behind each lexeme, and the first fault.
use Rattle.std.specs.Prelude.{ℕ, ◌==◌, nat_lt, List, [], ◌∷◌, ◌++◌, Bool, true, false, ◌&&◌, ◌||◌, if◌then◌else◌, Option, Some}
use Rattle.std.specs.Prelude.{None}
use Rattle.css_tokens.specs.declared.lexeme.Fault.{Fault}
use Rattle.css_tokens.specs.declared.lexeme.Lexeme.{Lexeme}
use Rattle.css_tokens.specs.Facts.{is_space, is_delim, is_closer, closer_of, broken_of, sign_of}
use Rattle.css_syntax.specs.declared.at_rules.AtRule.{AtRule}
use Rattle.css_syntax.specs.declared.at_rules.AtRule.TheVariants as kinds
use Rattle.css_syntax.specs.declared.brackets.Frame.{Frame}
use Rattle.css_syntax.specs.declared.brackets.Frame.TheVariants as frames
use Rattle.css_syntax.specs.declared.brackets.Open.{Open}
use Rattle.css_syntax.specs.declared.brackets.Brackets.{Brackets}
use Rattle.css_syntax.specs.AtRules.{at_rule_of}
use Rattle.css_syntax.specs.Opens.{innermost, popped}

-- the first of two faults: by byte, then by rule
abbrev pub first_fault : Option Fault → Fault → Option Fault
first_fault None g = Some g
first_fault (Some f) g = if nat_lt f.at g.at || ((f.at == g.at) && nat_lt f.rule g.rule) then Some f else Some g

abbrev pub with_fault : Brackets → ℕ → ℕ → Brackets
with_fault s at rule = record { opens = s.opens; fault = first_fault s.fault (record { at = at; rule = rule }) }

abbrev pub opened : Brackets → ℕ → Frame → Brackets
opened s at frame = record { opens = s.opens ++ record { at = at; frame = frame } ∷ []; fault = s.fault }

abbrev pub closed : Brackets → Brackets
closed s = record { opens = popped s.opens; fault = s.fault }

abbrev pub frame_closes : Frame → Lexeme → Bool
frame_closes frames.Style x = false
frame_closes (frames.AtRule media) x = false
frame_closes (frames.Bracket closer) x = is_delim closer x
frame_closes frames.Media x = false

abbrev pub closes : Option Open → Lexeme → Bool
closes None x = false
closes (Some o) x = frame_closes o.frame x

-- a closing sign closes the innermost that is open if that is of its kind, and else nothing
abbrev pub closing_step : Brackets → Lexeme → Brackets
closing_step s x = if closes (innermost s.opens) x then closed s else with_fault s x.at 4

abbrev pub unbroken_step : Brackets → Lexeme → Option ℕ → Brackets
unbroken_step s x (Some closer) = opened s (sign_of x) (frames.Bracket closer)
unbroken_step s x None = if is_closer x then closing_step s x else s

abbrev pub bracket_by : Brackets → Lexeme → Option ℕ → Brackets
bracket_by s x (Some rule) = with_fault s x.at rule
bracket_by s x None = unbroken_step s x (closer_of x)

-- a lexeme in brackets
unfoldable pub bracket_step : Brackets → Lexeme → Brackets
bracket_step s x = bracket_by s x (broken_of x)

abbrev pub frame_is_media : Frame → Bool
frame_is_media frames.Style = false
frame_is_media (frames.AtRule media) = false
frame_is_media (frames.Bracket closer) = false
frame_is_media frames.Media = true

abbrev pub is_media : Option Open → Bool
is_media None = false
is_media (Some o) = frame_is_media o.frame

-- the block that a prelude has
abbrev pub block_of : Frame → Frame
block_of frames.Style = frames.Bracket 125
block_of (frames.AtRule media) = if media then frames.Media else frames.Bracket 125
block_of (frames.Bracket closer) = frames.Bracket 125
block_of frames.Media = frames.Bracket 125

abbrev pub is_at_rule : Frame → Bool
is_at_rule frames.Style = false
is_at_rule (frames.AtRule media) = true
is_at_rule (frames.Bracket closer) = false
is_at_rule frames.Media = false

-- a lexeme of a prelude: { begins its block, ; ends that of an at-rule, and the end of a block of @media is its end
unfoldable pub prelude_step : Brackets → Open → Lexeme → Brackets
prelude_step s prelude x =
    if is_delim 123 x then opened (closed s) x.at (block_of prelude.frame)
    else (if is_delim 59 x && is_at_rule prelude.frame then closed s
    else (if is_delim 125 x && is_media (innermost (popped s.opens)) then closed (closed (with_fault s prelude.at 5))
    else bracket_step s x))

abbrev pub prelude_frame : Option AtRule → Frame
prelude_frame None = frames.Style
prelude_frame (Some kinds.Skipped) = frames.AtRule false
prelude_frame (Some kinds.Media) = frames.AtRule true
prelude_frame (Some kinds.Other) = frames.AtRule false

abbrev pub is_two : Option ℕ → Bool
is_two None = false
is_two (Some rule) = rule == 2

abbrev pub is_open_comment : Lexeme → Bool
is_open_comment x = is_two (broken_of x)

abbrev pub begun : Brackets → Lexeme → Frame → Brackets
begun s x frame = prelude_step (opened s x.at frame) (record { at = x.at; frame = frame }) x

-- a lexeme between rules
unfoldable pub sheet_step : Brackets → Lexeme → List Lexeme → Brackets
sheet_step s x xs =
    if is_space x then s
    else (if is_open_comment x then with_fault s x.at 2
    else (if is_delim 125 x && is_media (innermost s.opens) then closed s
    else begun s x (prelude_frame (at_rule_of x xs))))

abbrev pub step_in : Frame → Brackets → Open → Lexeme → List Lexeme → Brackets
step_in frames.Style s o x xs = prelude_step s o x
step_in (frames.AtRule media) s o x xs = prelude_step s o x
step_in (frames.Bracket closer) s o x xs = bracket_step s x
step_in frames.Media s o x xs = sheet_step s x xs

abbrev pub step_by : Option Open → Brackets → Lexeme → List Lexeme → Brackets
step_by None s x xs = sheet_step s x xs
step_by (Some o) s x xs = step_in o.frame s o x xs

-- a lexeme, and what stands behind it
unfoldable pub step : Brackets → Lexeme → List Lexeme → Brackets
step s x xs = step_by (innermost s.opens) s x xs

abbrev pub rule_of : Frame → ℕ
rule_of frames.Style = 5
rule_of (frames.AtRule media) = 5
rule_of (frames.Bracket closer) = 4
rule_of frames.Media = 4

-- the first of a fault and of those that are open at the end
abbrev pub left_open : Option Fault → List Open → Option Fault
left_open f [] = f
left_open f (o ∷ os) = left_open (first_fault f (record { at = o.at; rule = rule_of o.frame })) os

abbrev pub at_end : Brackets → Option Fault
at_end s = left_open s.fault s.opens

abbrev pub nothing_open : Brackets
nothing_open = record { opens = []; fault = None }

abbrev pub stepped : Brackets → List Lexeme → Brackets
stepped s [] = s
stepped s (x ∷ xs) = stepped (step s x xs) xs

abbrev pub bracketed : Brackets → List Lexeme → Brackets
bracketed s [] = s
bracketed s (x ∷ xs) = bracketed (bracket_step s x) xs

-- the first fault of a sheet
abbrev pub sheet_fault : List Lexeme → Option Fault
sheet_fault xs = at_end (stepped nothing_open xs)

-- the first fault of a style attribute
abbrev pub block_fault : List Lexeme → Option Fault
block_fault xs = at_end (bracketed nothing_open xs)
