-- That a text has one tree.
use Rattle.std.specs.Prelude.{◌≡◌, ℕ, List, Option, None}
use Rattle.mc_base.specs.declared.refusal.Found.{Found}
use Rattle.html_grammar.specs.declared.dom.Dom.{Dom}
use Rattle.html_grammar.specs.Tree.{Forest, nodes_from}
use Rattle.html_grammar.specs.Documents.{IsText}

-- whatever tree the text spells, and with whatever first construct that isn't laid out, these are the document's
abbrev pub IsTheOneOf : List ℕ → Dom → Type 0
IsTheOneOf bytes dom =
    (tree : Forest) (construct : Option Found) → IsText bytes tree construct
    → (dom.nodes ≡ nodes_from None 0 tree) × (dom.construct ≡ construct)
