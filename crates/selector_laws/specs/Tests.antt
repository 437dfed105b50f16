-- Tests of an element (Selectors 3, sections 6 and 7): a hash, a class, an attribute in brackets, or a pseudo-class or
-- pseudo-element.
use Rattle.std.specs.Prelude.{◌≡◌, ℕ, List, [], ◌∷◌, true, Some}
use Rattle.css_data.specs.declared.selector.AttrOp.{AttrOp}
use Rattle.css_data.specs.declared.selector.AttrOp.TheVariants as ops
use Rattle.css_data.specs.declared.selector.Test.TheVariants as tests
use Rattle.css_tokens.specs.declared.lexeme.Lexeme.{Lexeme}
use Rattle.css_tokens.specs.Facts.{is_delim, ident_of, hash_of, word_of}
use Rattle.css_prelude.specs.declared.pseudo.Tested.{Tested}
use Rattle.css_prelude.specs.Pseudos.{plain, pseudo_at}
use Rattle.selector_laws.specs.Spaces.{Spaced}

-- a sign, = directly after it, and the rest
abbrev pub IsSignWithEqual : ℕ → List Lexeme → List Lexeme → Type 0
IsSignWithEqual c xs rest = (sign : Lexeme) × (equal : Lexeme) × (xs ≡ sign ∷ equal ∷ rest) × (is_delim c sign ≡ true)
    × (is_delim 61 equal ≡ true)

-- how an attribute is compared: = ~= |= ^= $= *=, and the rest
abbrev pub IsOp : AttrOp → List Lexeme → List Lexeme → Type 0
IsOp ops.Has xs rest = ⊥
IsOp ops.Equal xs rest = (equal : Lexeme) × (xs ≡ equal ∷ rest) × (is_delim 61 equal ≡ true)
IsOp ops.Word xs rest = IsSignWithEqual 126 xs rest
IsOp ops.Dash xs rest = IsSignWithEqual 124 xs rest
IsOp ops.Prefix xs rest = IsSignWithEqual 94 xs rest
IsOp ops.Suffix xs rest = IsSignWithEqual 36 xs rest
IsOp ops.Part xs rest = IsSignWithEqual 42 xs rest

-- [ and the name of an attribute, white space around it, and the rest
abbrev pub IsNamed : List ℕ → List Lexeme → List Lexeme → Type 0
IsNamed name xs rest = (bracket : Lexeme) × (more : List Lexeme) × (word : Lexeme) × (after : List Lexeme)
    × (xs ≡ bracket ∷ more) × (is_delim 91 bracket ≡ true) × Spaced more (word ∷ after) × (ident_of word ≡ Some name)
    × Spaced after rest

-- ] and the rest
abbrev pub IsClosed : List Lexeme → List Lexeme → Type 0
IsClosed xs rest = (bracket : Lexeme) × (xs ≡ bracket ∷ rest) × (is_delim 93 bracket ≡ true)

-- a name, how it is compared, and a value, an identifier or a string, in brackets; white space may stand around each
pub record IsValued (name : List ℕ) (op : AttrOp) (value : List ℕ) (xs rest : List Lexeme) : Type 0 where
  pub sign : List Lexeme
  pub more : List Lexeme
  pub word : Lexeme
  pub after : List Lexeme
  pub last : List Lexeme
  pub name_is : IsNamed name xs sign
  pub op_is : IsOp op sign more
  pub spaced : Spaced more (word ∷ after)
  pub value_is : word_of word ≡ Some value
  pub then_spaced : Spaced after last
  pub closed : IsClosed last rest

-- what a test is: what stands in the parentheses of a pseudo-class, css_prelude's functions say
pub data Form : Type 0 where
  Id : (name : List ℕ) → Form
  Class : (name : List ℕ) → Form
  Attribute : (name : List ℕ) → Form
  Valued : (name : List ℕ) (op : AttrOp) (value : List ℕ) → Form
  Pseudo : (t : Tested) → Form

abbrev pub tested_as : Form → Tested
tested_as (Id name) = plain (tests.Id name)
tested_as (Class name) = plain (tests.Class name)
tested_as (Attribute name) = plain (tests.Attr name ops.Has [])
tested_as (Valued name op value) = plain (tests.Attr name op value)
tested_as (Pseudo t) = t

-- a test of this form, and the rest
abbrev pub HasForm : Form → List Lexeme → List Lexeme → Type 0
HasForm (Id name) xs rest = (hash : Lexeme) × (xs ≡ hash ∷ rest) × (hash_of hash ≡ Some name)
HasForm (Class name) xs rest = (dot : Lexeme) × (word : Lexeme) × (xs ≡ dot ∷ word ∷ rest) × (is_delim 46 dot ≡ true)
    × (ident_of word ≡ Some name)
HasForm (Attribute name) xs rest = (last : List Lexeme) × IsNamed name xs last × IsClosed last rest
HasForm (Valued name op value) xs rest = IsValued name op value xs rest
HasForm (Pseudo t) xs rest = (colon : Lexeme) × (more : List Lexeme) × (xs ≡ colon ∷ more) × (is_delim 58 colon ≡ true)
    × (pseudo_at colon.at more ≡ Some (t, rest))

-- a test, and the rest
abbrev pub IsTest : Tested → List Lexeme → List Lexeme → Type 0
IsTest t xs rest = (form : Form) × HasForm form xs rest × (t ≡ tested_as form)
