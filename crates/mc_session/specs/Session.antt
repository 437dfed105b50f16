-- What a session is of: a document, its sheets in order, the faces of its fonts, a width and an available height, and how many
-- runs it broke into lines so far; and what its answers say.
use Rattle.std.specs.Prelude.{◌≡◌, ℕ, ◌<◌, ◌^◌, List, Option}
use Rattle.mc_base.specs.declared.refusal.Refusal.{Refusal}
use Rattle.html_grammar.specs.declared.dom.Dom.{Dom}
use Rattle.html_subset.specs.WellFormed.{IsWellFormed}
use Rattle.css_cascade.specs.Attributes.{AllAreRead}
use Rattle.css_data.specs.declared.rule.Sheet.{Sheet}
use Rattle.font_table.specs.declared.fonts.Face.{Face}
use Rattle.flow_data.specs.declared.data.FlowsData.{FlowsData}
use Rattle.doc_flows.specs.Trees.{TreeSays, RefusesTree}

pub record Asked : Type 0 where
  pub dom : Dom
  pub sheets : List Sheet
  pub faces : List Face
  pub width : ℕ
  pub height : Option ℕ
  pub broken : ℕ

abbrev pub asked_of : Dom → List Sheet → List Face → (width : ℕ) (height : Option ℕ) (broken : ℕ) → Asked
asked_of dom sheets faces width height broken =
    record { dom = dom; sheets = sheets; faces = faces; width = width; height = height; broken = broken }

-- the document is well formed, its style attributes are on their grammar, and the width isn't too great
pub record IsSound (dom : Dom) (width : ℕ) : Type 0 where
  pub formed : IsWellFormed dom
  pub read : AllAreRead dom.nodes
  pub wide : width < 2 ^ 60

-- all but the document's nodes stays
pub record HasSame (before after : Asked) : Type 0 where
  pub construct : after.dom.construct ≡ before.dom.construct
  pub sheets : after.sheets ≡ before.sheets
  pub faces : after.faces ≡ before.faces
  pub width : after.width ≡ before.width
  pub height : after.height ≡ before.height
  pub broken : after.broken ≡ before.broken

-- the document stays, and all that it is laid out with
pub record HasSameDocument (before after : Asked) : Type 0 where
  pub dom : after.dom ≡ before.dom
  pub sheets : after.sheets ≡ before.sheets
  pub faces : after.faces ≡ before.faces
  pub width : after.width ≡ before.width
  pub height : after.height ≡ before.height

-- a session's document, as it is now, has these flows
abbrev pub Says : Asked → FlowsData → Type 0
Says asked d = TreeSays asked.dom asked.sheets asked.faces asked.width asked.height d

-- it has no flows for this reason: the first construct at an element that makes a box, or the first limit that they pass
abbrev pub IsRefused : Asked → Refusal → Type 0
IsRefused asked refusal = RefusesTree asked.dom asked.sheets asked.faces asked.width asked.height refusal
