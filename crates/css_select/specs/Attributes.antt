-- What a selector asks of an element's attributes (Selectors 3, section 6.3).
use Rattle.std.specs.Prelude.{◌≡◌, ◌≢◌, ◌⊎◌, ◌∷◌, ◌++◌, ℕ, [], Any, List, map}
use Rattle.std.specs.Char.{to_ascii_lowercase}
use Rattle.std.specs.List.{slice_split}
use Rattle.html_grammar.specs.declared.dom.Attribute.{Attribute}
use Rattle.html_grammar.specs.Tokens.{is_space}
use Rattle.css_data.specs.declared.selector.AttrOp.{AttrOp}
use Rattle.css_data.specs.declared.selector.AttrOp.TheVariants.{Has, Equal, Word, Dash, Prefix, Suffix, Part}

-- the texts are one without ASCII case
abbrev pub IsSameName : List ℕ → List ℕ → Type 0
IsSameName a b = map to_ascii_lowercase a ≡ map to_ascii_lowercase b

-- white space parts the text into words, and this is one of them
abbrev pub IsWordOf : List ℕ → List ℕ → Type 0
IsWordOf word text = (word ≢ []) × Any (λ w. w ≡ word) (slice_split is_space text)

abbrev pub BeginsWith : List ℕ → List ℕ → Type 0
BeginsWith text front = (rest : List ℕ) × (text ≡ front ++ rest)

abbrev pub EndsWith : List ℕ → List ℕ → Type 0
EndsWith text end = (rest : List ℕ) × (text ≡ rest ++ end)

abbrev pub HasPart : List ℕ → List ℕ → Type 0
HasPart text part = (before : List ℕ) × BeginsWith text (before ++ part)

-- an attribute's value compared with the one asked for: an empty one is no word, front, end or part
abbrev pub Compares : AttrOp → List ℕ → List ℕ → Type 0
Compares Has own value = Unit {0}
Compares Equal own value = own ≡ value
Compares Word own value = IsWordOf value own
Compares Dash own value = (own ≡ value) ⊎ BeginsWith own (value ++ 45 ∷ [])
Compares Prefix own value = (value ≢ []) × BeginsWith own value
Compares Suffix own value = (value ≢ []) × EndsWith own value
Compares Part own value = (value ≢ []) × HasPart own value

-- an attribute of this name compares so
abbrev pub HasAttribute : List ℕ → AttrOp → List ℕ → List Attribute → Type 0
HasAttribute name op value attributes = Any (λ a. IsSameName a.name name × Compares op a.value value) attributes
