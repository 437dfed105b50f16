-- What each test and each compound selector asks of an element (Selectors 3, sections 4 and 6).
use Rattle.std.specs.Prelude.{◌≡◌, ◌+◌, ℕ, ℤ, pos, ◌+ℤ◌, ◌*ℤ◌, ◌<ℤ◌, ◌≤ℤ◌, [], All, IfSome, IsSomeAnd, List, None, codes}
use Rattle.std.specs.Prelude.{slice_get}
use Rattle.html_grammar.specs.declared.dom.Attribute.{Attribute}
use Rattle.html_grammar.specs.declared.dom.Dom.{Dom}
use Rattle.html_grammar.specs.declared.dom.NodeKind.{NodeKind}
use Rattle.html_grammar.specs.declared.dom.NodeKind.TheVariants as kinds
use Rattle.css_data.specs.declared.selector.AttrOp.TheVariants as ops
use Rattle.css_data.specs.declared.selector.Compound.{Compound}
use Rattle.css_data.specs.declared.selector.Test.{Test}
use Rattle.css_data.specs.declared.selector.Test.TheVariants as tests
use Rattle.css_select.specs.Attributes.{HasAttribute, IsSameName}
use Rattle.css_select.specs.Places.{parent_at, siblings_after, siblings_before}

-- so many steps, of which there are 0 or more, make the way
abbrev pub AreSteps : ℤ → ℤ → Type 0
AreSteps step way = (k : ℕ) × (way ≡ step *ℤ pos k)

-- the way isn't against the steps
pub record GoesTheWay (step way : ℤ) : Type 0 where
  pub up : pos 0 <ℤ step → pos 0 ≤ℤ way
  pub down : step <ℤ pos 0 → way ≤ℤ pos 0

-- some step from 0 on takes the offset to this number
abbrev pub IsStepped : ℤ → ℤ → ℕ → Type 0
IsStepped step offset number = (k : ℕ) × (pos number ≡ step *ℤ pos k +ℤ offset)

-- an element with this number, name and attributes passes a test
abbrev pub Passes : Dom → ℕ → List ℕ → List Attribute → Test → Type 0
-- section 6.5
Passes dom n name attributes (tests.Id text) = HasAttribute (codes "id") ops.Equal text attributes
-- section 6.4
Passes dom n name attributes (tests.Class text) = HasAttribute (codes "class") ops.Word text attributes
-- section 6.3
Passes dom n name attributes (tests.Attr key op value) = HasAttribute key op value attributes
-- section 6.6.5.1
Passes dom n name attributes tests.Root = parent_at dom n ≡ None
-- section 6.6.5.6
Passes dom n name attributes tests.FirstChild = siblings_before dom n ≡ 0
-- section 6.6.5.7
Passes dom n name attributes tests.LastChild = siblings_after dom n ≡ 0
-- section 6.6.1.1
Passes dom n name attributes tests.Link = IsSameName name (codes "a") × HasAttribute (codes "href") ops.Has [] attributes
-- section 6.6.5.2
Passes dom n name attributes (tests.Nth step offset) = IsStepped step offset (siblings_before dom n + 1)
Passes dom n name attributes tests.Never = ⊥
Passes dom n name attributes tests.PseudoElement = ⊥

-- an element with this number is of the type, if one is given (section 6.1), and passes every test
abbrev pub KindMeets : Dom → ℕ → Compound → NodeKind → Type 0
KindMeets dom n compound (kinds.Element name attributes) = IfSome compound.element (λ wanted. IsSameName name wanted)
    × All (Passes dom n name attributes) compound.tests
KindMeets dom n compound (kinds.Words text) = ⊥

-- the node with this number is an element that meets the compound selector
abbrev pub Meets : Dom → Compound → ℕ → Type 0
Meets dom compound n = IsSomeAnd (slice_get dom.nodes n) (λ node. KindMeets dom n compound node.kind)
