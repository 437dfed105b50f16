-- Which fault of tokens is the first, by the grammar alone.
use Rattle.std.specs.Prelude.{◌≡◌, ℕ, List, [], ◌∷◌, ◌++◌, ◌⊎◌}
use Rattle.mc_base.specs.declared.read_error.Fault.{Fault}
use Rattle.html_grammar.specs.declared.token.Token.{Token}
use Rattle.html_grammar.specs.declared.token.Token.TheVariants.{Start, Raw, End, Comment, Doctype, Char}
use Rattle.html_grammar.specs.Tokens.{place_of}
use Rattle.html_grammar.specs.Tree.{Forest}
use Rattle.html_grammar.specs.Grammar.{IsDocument}

-- Some document of this size begins with these tokens.
abbrev pub IsFront : ℕ → List Token → Type 0
IsFront size front = (more : List Token) × (tree : Forest) × IsDocument size (front ++ more) tree

-- the rule that a token breaks where no document goes on with it: an end tag that closes nothing, or anything else out
-- of its place
abbrev pub rule_of : Token → ℕ
rule_of (End at m) = 6
rule_of _ = 8

-- The first token that no document has after those before it.
pub record IsStuck (size : ℕ) (toks : List Token) (f : Fault) : Type 0 where
  pub front : List Token
  pub token : Token
  pub rest : List Token
  pub whole : toks ≡ front ++ token ∷ rest
  pub goes_on : IsFront size front
  pub no_more : IsFront size (front ++ token ∷ []) → ⊥
  pub which : f ≡ record { at = place_of token; rule = rule_of token }

-- A document could begin so, but it is not over: an element is open whose end tag may not be missing.
pub record IsCutShort (size : ℕ) (toks : List Token) (f : Fault) : Type 0 where
  pub goes_on : IsFront size toks
  pub not_over : (tree : Forest) → IsDocument size toks tree → ⊥
  pub which : f ≡ record { at = size; rule = 7 }

abbrev pub IsFirstFault : ℕ → List Token → Fault → Type 0
IsFirstFault size toks f = IsStuck size toks f ⊎ IsCutShort size toks f
