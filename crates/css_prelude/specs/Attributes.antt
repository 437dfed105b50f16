-- Tests of attributes, after their [ (Selectors 3, section 6.3): a name, or a name, a sign and a value, and ]. White space may
-- stand around each of these.
use Rattle.std.specs.Prelude.{ℕ, ◌==◌, List, [], ◌∷◌, if◌then◌else◌, Option, Some, None}
use Rattle.css_data.specs.declared.selector.Test.{Test}
use Rattle.css_data.specs.declared.selector.Test.TheVariants as tests
use Rattle.css_data.specs.declared.selector.AttrOp.{AttrOp}
use Rattle.css_data.specs.declared.selector.AttrOp.TheVariants as ops
use Rattle.css_tokens.specs.declared.lexeme.Lexeme.{Lexeme}
use Rattle.css_tokens.specs.Facts.{delim_of, begins, behind_first, behind_spaces}
use Rattle.css_prelude.specs.Options.{◌>>=◌}
use Rattle.css_prelude.specs.Words.{ident_at, word_at}

-- what a sign before a = asks: ~ | ^ $ *
abbrev pub op_char : ℕ → Option AttrOp
op_char c =
    if c == 126 then Some ops.Word
    else (if c == 124 then Some ops.Dash
    else (if c == 94 then Some ops.Prefix
    else (if c == 36 then Some ops.Suffix
    else (if c == 42 then Some ops.Part else None))))

abbrev pub first_op : List Lexeme → Option AttrOp
first_op [] = None
first_op (x ∷ xs) = delim_of x >>= op_char

-- = or a sign and =
abbrev pub op_at : List Lexeme → Option (AttrOp × List Lexeme)
op_at xs =
    if begins 61 xs then Some (ops.Equal, behind_first xs)
    else (first_op xs >>= λ op. if begins 61 (behind_first xs) then Some (op, behind_first (behind_first xs)) else None)

abbrev pub closed : List ℕ → AttrOp → List ℕ → List Lexeme → Option (Test × List Lexeme)
closed name op value xs = if begins 93 xs then Some (tests.Attr name op value, behind_first xs) else None

abbrev pub valued_at : List ℕ → AttrOp → List Lexeme → Option (Test × List Lexeme)
valued_at name op xs = word_at (behind_spaces xs) >>= λ v. closed name op v.0 (behind_spaces v.1)

abbrev pub named_at : List ℕ → List Lexeme → Option (Test × List Lexeme)
named_at name xs =
    if begins 93 xs then Some (tests.Attr name ops.Has [], behind_first xs)
    else (op_at xs >>= λ op. valued_at name op.0 op.1)

abbrev pub attribute_at : List Lexeme → Option (Test × List Lexeme)
attribute_at xs = ident_at (behind_spaces xs) >>= λ name. named_at name.0 (behind_spaces name.1)
