-- The sheet of a text, and the declarations of a style attribute, or why they are refused.
use Rattle.std.specs.Prelude.{ℕ, nat_lt, List, Option, Some, None, Result, Ok, Err, if◌then◌else◌}
use Rattle.mc_base.specs.declared.refusal.Found.{Found}
use Rattle.mc_base.specs.declared.refusal.Refusal.{Refusal}
use Rattle.mc_base.specs.declared.refusal.Refusal.TheVariants as refusals
use Rattle.mc_base.specs.declared.refusal.Input.TheVariants as inputs
use Rattle.mc_base.specs.declared.refusal.LimitName.TheVariants as limits
use Rattle.css_data.specs.declared.rule.RawDeclaration.{RawDeclaration}
use Rattle.css_data.specs.declared.rule.Sheet.{Sheet}
use Rattle.css_tokens.specs.declared.lexeme.Fault.{Fault}
use Rattle.css_tokens.specs.declared.lexeme.Lexeme.{Lexeme}
use Rattle.css_tokens.specs.Lexing.{lexed}
use Rattle.css_syntax.specs.declared.rules.Rules.{Rules}
use Rattle.css_syntax.specs.Brackets.{sheet_fault, block_fault}
use Rattle.css_syntax.specs.Blocks.{declarations_of}
use Rattle.css_syntax.specs.Rules.{rules_of, first_escape}

-- a fault as it is reported: the letter is s
abbrev pub grammar_refusal : Fault → Refusal
grammar_refusal f = refusals.Grammar inputs.Sheet f.at (record { letter = 115; number = f.rule })

-- the first of two constructs, by byte
abbrev pub earlier : Option Found → Option Found → Option Found
earlier None b = b
earlier (Some a) None = Some a
earlier (Some a) (Some b) = if nat_lt a.offset b.offset then Some a else Some b

-- at most 4,000 style rules, those that are left out among them
abbrev pub within_limit : Rules → Option Found → Result Sheet Refusal
within_limit s escape =
    if nat_lt 4000 s.count then Err (refusals.Limit limits.Rules 4001 4000)
    else Ok (record { rules = s.rules; construct = earlier escape s.found })

abbrev pub sheet_by : Option Fault → List Lexeme → Result Sheet Refusal
sheet_by (Some f) xs = Err (grammar_refusal f)
sheet_by None xs = within_limit (rules_of xs) (first_escape xs)

abbrev pub sheet_from : List Lexeme → Result Sheet Refusal
sheet_from xs = sheet_by (sheet_fault xs) xs

abbrev pub sheet_or_fault : Result (List Lexeme) Fault → Result Sheet Refusal
sheet_or_fault (Ok xs) = sheet_from xs
sheet_or_fault (Err f) = Err (grammar_refusal f)

-- the sheet of a text, or why it is refused
unfoldable pub sheet_of : List ℕ → Result Sheet Refusal
sheet_of bytes = sheet_or_fault (lexed bytes)

abbrev pub declarations_by : Option Fault → List Lexeme → Result (List RawDeclaration) Refusal
declarations_by (Some f) xs = Err (grammar_refusal f)
declarations_by None xs = Ok (declarations_of xs)

abbrev pub declarations_from : List Lexeme → Result (List RawDeclaration) Refusal
declarations_from xs = declarations_by (block_fault xs) xs

abbrev pub declarations_or_fault : Result (List Lexeme) Fault → Result (List RawDeclaration) Refusal
declarations_or_fault (Ok xs) = declarations_from xs
declarations_or_fault (Err f) = Err (grammar_refusal f)

-- the declarations of a style attribute, or why it is refused
unfoldable pub declarations_in : List ℕ → Result (List RawDeclaration) Refusal
declarations_in bytes = declarations_or_fault (lexed bytes)
