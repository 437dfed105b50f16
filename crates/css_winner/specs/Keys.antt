-- The name that a selector is filed under, and the names that an element is looked up by. An id has a `#` before it, a class a
-- `.`, a type is in lower case, and what has none of these has the empty name.
use Rattle.std.specs.Prelude.{◌≡◌, ◌⊎◌, ◌-◌, ℕ, List, [], ◌∷◌, map, length, codes, Any, Option, Some, None, slice_get}
use Rattle.std.specs.Char.{to_ascii_lowercase}
use Rattle.html_grammar.specs.declared.dom.Attribute.{Attribute}
use Rattle.css_data.specs.declared.selector.Compound.{Compound}
use Rattle.css_data.specs.declared.selector.Selector.{Selector}
use Rattle.css_data.specs.declared.selector.Test.{Test}
use Rattle.css_data.specs.declared.selector.Test.TheVariants as tests
use Rattle.css_select.specs.Attributes.{IsSameName, IsWordOf}

abbrev pub id_of : Test → Option (List ℕ)
id_of (tests.Id text) = Some text
id_of _ = None

abbrev pub class_of : Test → Option (List ℕ)
class_of (tests.Class text) = Some text
class_of _ = None

abbrev pub or_else : Option (List ℕ) → Option (List ℕ) → Option (List ℕ)
or_else (Some x) other = Some x
or_else None other = other

abbrev pub first_id : List Test → Option (List ℕ)
first_id [] = None
first_id (test ∷ rest) = or_else (id_of test) (first_id rest)

abbrev pub first_class : List Test → Option (List ℕ)
first_class [] = None
first_class (test ∷ rest) = or_else (class_of test) (first_class rest)

abbrev pub type_key : Option (List ℕ) → List ℕ
type_key None = []
type_key (Some name) = map to_ascii_lowercase name

abbrev pub class_key : Option (List ℕ) → Option (List ℕ) → List ℕ
class_key (Some class) element = 46 ∷ class
class_key None element = type_key element

abbrev pub id_key : Option (List ℕ) → Option (List ℕ) → Option (List ℕ) → List ℕ
id_key (Some id) class element = 35 ∷ id
id_key None class element = class_key class element

abbrev pub compound_key : Compound → List ℕ
compound_key c = id_key (first_id c.tests) (first_class c.tests) c.element

abbrev pub last : List Compound → Option Compound
last compounds = slice_get compounds (length compounds - 1)

abbrev pub key_by : Option Compound → List ℕ
key_by None = []
key_by (Some c) = compound_key c

-- the name that a selector is filed under
abbrev pub key_of : Selector → List ℕ
key_of selector = key_by (last selector.compounds)

-- a name that an attribute gives
abbrev pub IsAttributeKey : List ℕ → Attribute → Type 0
IsAttributeKey key a =
    (IsSameName a.name (codes "id") × (key ≡ 35 ∷ a.value))
    ⊎ (IsSameName a.name (codes "class") × ((word : List ℕ) × IsWordOf word a.value × (key ≡ 46 ∷ word)))

-- a name that an element of this type with these attributes is looked up by
abbrev pub IsKey : List ℕ → List Attribute → List ℕ → Type 0
IsKey name attributes key = (key ≡ []) ⊎ ((key ≡ map to_ascii_lowercase name) ⊎ Any (IsAttributeKey key) attributes)
