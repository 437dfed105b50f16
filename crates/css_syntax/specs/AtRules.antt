-- At-rules (CSS Syntax 3, section 5.4.2): @charset, @font-face, @page and @keyframes are skipped, also with a prefix.
use Rattle.std.specs.Prelude.{ℕ, ◌==◌, List, [], ◌∷◌, codes, Bool, if◌then◌else◌, Option, Some, None, unwrap_or}
use Rattle.std.specs.Option.{option_map}
use Rattle.css_tokens.specs.declared.lexeme.Lexeme.{Lexeme}
use Rattle.css_tokens.specs.Facts.{is_word, is_in, is_delim, ident_of}
use Rattle.css_syntax.specs.declared.at_rules.AtRule.{AtRule}
use Rattle.css_syntax.specs.declared.at_rules.AtRule.TheVariants as kinds

-- what stands after the first -
abbrev pub after_dash : List ℕ → Option (List ℕ)
after_dash [] = None
after_dash (b ∷ bs) = if b == 45 then Some bs else after_dash bs

-- the same, where it isn't in front
abbrev pub after_prefix : List ℕ → Option (List ℕ)
after_prefix [] = None
after_prefix (b ∷ bs) = if b == 45 then None else after_dash bs

-- a name without a prefix as -webkit-: a - , one character or more, and a -
abbrev pub unprefixed : List ℕ → List ℕ
unprefixed [] = []
unprefixed (b ∷ bs) = if b == 45 then unwrap_or (after_prefix bs) (b ∷ bs) else (b ∷ bs)

unfoldable pub is_skipped : List ℕ → Bool
is_skipped name = is_in (unprefixed name) (codes "charset" ∷ codes "font-face" ∷ codes "page" ∷ codes "keyframes" ∷ [])

abbrev pub kind_of : List ℕ → AtRule
kind_of name = if is_word name (codes "media") then kinds.Media else (if is_skipped name then kinds.Skipped else kinds.Other)

-- the identifier in front; a name directly before ( is a function, and no identifier
abbrev pub first_name : List Lexeme → Option (List ℕ)
first_name [] = None
first_name (x ∷ xs) = ident_of x

-- the at-rule that a lexeme begins, by what stands after it: a @ with an identifier
abbrev pub at_rule_of : Lexeme → List Lexeme → Option AtRule
at_rule_of x xs = if is_delim 64 x then option_map kind_of (first_name xs) else None
