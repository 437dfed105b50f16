-- The tree of a document after an edit.
use Rattle.std.specs.Prelude.{◌≡◌, ℕ, List, [], ◌∷◌, Bool, true, false, not, ◌&&◌, ◌||◌, if◌then◌else◌, codes, Option, Some, None}
use Rattle.std.specs.Prelude.{Result, Ok, Err}
use Rattle.std.specs.List.{list_any}
use Rattle.html_grammar.specs.declared.dom.Attribute.{Attribute}
use Rattle.html_grammar.specs.Names.{same, is_void}
use Rattle.html_grammar.specs.Tree.{Forest, Nil, Element, Words}
use Rattle.edit_script.specs.declared.script.Edit.{Edit}
use Rattle.edit_script.specs.declared.script.Edit.TheVariants as edits
use Rattle.edit_script.specs.declared.script.EditFault.{EditFault}
use Rattle.edit_script.specs.declared.script.EditFault.TheVariants as faults
use Rattle.edit_script.specs.Spelling.{id_of}

abbrev pub is_id_of : List ℕ → Attribute → Bool
is_id_of id a = same a.name (codes "id") && same a.value id

-- an element with these attributes has this id
abbrev pub has_id : List ℕ → List Attribute → Bool
has_id id attributes = list_any (is_id_of id) attributes

-- an element: where it begins, its name, its attributes and what is in it
pub record Whole : Type 0 where
  pub at : ℕ
  pub name : List ℕ
  pub attributes : List Attribute
  pub kids : Forest

abbrev pub or_else : Option Whole → Option Whole → Option Whole
or_else None other = other
or_else (Some e) other = Some e

-- the first element in document order that has this id
abbrev pub first_with : List ℕ → Forest → Option Whole
first_with id Nil = None
first_with id (Words at text next) = first_with id next
first_with id (Element at name attributes kids next) =
    if has_id id attributes then Some (record { at = at; name = name; attributes = attributes; kids = kids })
    else or_else (first_with id kids) (first_with id next)

-- whether a tree holds a style element
abbrev pub holds_style : Forest → Bool
holds_style Nil = false
holds_style (Words at text next) = holds_style next
holds_style (Element at name attributes kids next) = same name (codes "style") || (holds_style kids || holds_style next)

-- an element is a style element, or holds one
abbrev pub has_style : Whole → Bool
has_style e = same e.name (codes "style") || holds_style e.kids

-- Whether an edit may be done at an element of this name that is or holds a style element, or not: a text not in `html`, in
-- `head` or in a void element, a removal not of `html`, `head` or `body`, and neither where a style element is.
abbrev pub allowed_at : Edit → List ℕ → Bool → Bool
allowed_at (edits.Words id rest) name styled = not (same name (codes "html") || (same name (codes "head") ||
    (is_void name || styled)))
allowed_at (edits.Class id rest) name styled = true
allowed_at (edits.Remove id) name styled =
    not (same name (codes "html") || (same name (codes "head") || (same name (codes "body") || styled)))

abbrev pub is_allowed : Edit → Whole → Bool
is_allowed edit e = allowed_at edit e.name (has_style e)

-- a text is one node, or none where it is empty
abbrev pub text_of : ℕ → List ℕ → Forest
text_of at [] = Nil
text_of at (b ∷ bytes) = Words at (b ∷ bytes) Nil

-- the attribute `class` with this value: in its place where there is one, else as the last, at the element's offset
abbrev pub with_class : ℕ → List ℕ → List Attribute → List Attribute
with_class at value [] = record { name = codes "class"; value = value; offset = at } ∷ []
with_class at value (a ∷ attributes) =
    if same a.name (codes "class") then (record { name = a.name; value = value; offset = a.offset } ∷ attributes)
    else (a ∷ with_class at value attributes)

-- what stands in place of an element, before what comes next
abbrev pub changed : Edit → Whole → Forest → Forest
changed (edits.Words id rest) e next = Element e.at e.name e.attributes (text_of e.at rest) next
changed (edits.Class id rest) e next = Element e.at e.name (with_class e.at rest e.attributes) e.kids next
changed (edits.Remove id) e next = next

abbrev pub is_there : Option Whole → Bool
is_there None = false
is_there (Some e) = true

-- the tree with that in place of the first element that has the id
abbrev pub changed_in : Edit → Forest → Forest
changed_in edit Nil = Nil
changed_in edit (Words at text next) = Words at text (changed_in edit next)
changed_in edit (Element at name attributes kids next) =
    if has_id (id_of edit) attributes
    then changed edit (record { at = at; name = name; attributes = attributes; kids = kids }) next
    else (if is_there (first_with (id_of edit) kids) then Element at name attributes (changed_in edit kids) next
    else Element at name attributes kids (changed_in edit next))

abbrev pub where_allowed : Edit → Forest → Option Whole → Result Forest EditFault
where_allowed edit tree None = Err faults.NoElement
where_allowed edit tree (Some e) = if is_allowed edit e then Ok (changed_in edit tree) else Err faults.NotAllowed

-- The tree after an edit; or that no element has the id, or else that the edit isn't allowed there.
abbrev pub edited : Edit → Forest → Result Forest EditFault
edited edit tree = where_allowed edit tree (first_with (id_of edit) tree)

-- the tree after these edits, one after the other
pub data AreDone : List Edit → Forest → Forest → Type 0 where
  none : (tree : Forest) → AreDone [] tree tree
  next : (edit : Edit) (others : List Edit) (tree between last : Forest) → edited edit tree ≡ Ok between
      → AreDone others between last → AreDone (edit ∷ others) tree last
