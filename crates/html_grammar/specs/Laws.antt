-- The laws of documents on tokens.
use Rattle.std.specs.Prelude.{◌≡◌, ℕ, List, None, Ok, Err}
use Rattle.mc_base.specs.declared.read_error.Fault.{Fault}
use Rattle.html_grammar.specs.declared.token.Token.{Token}
use Rattle.html_grammar.specs.Tree.{Forest, nodes_from}
use Rattle.html_grammar.specs.Grammar.{IsDocument, depth_of}
use Rattle.html_grammar.specs.Machine.{Built, built}
use Rattle.html_grammar.specs.Faults.{IsFirstFault}

-- what a tree comes to
abbrev pub built_as : Forest → Built
built_as tree = record { nodes = nodes_from None 0 tree; deepest = depth_of tree }

-- what is a document is read, with the nodes of its tree
abbrev pub DocumentsAreRead : Type 0
DocumentsAreRead = (size : ℕ) (toks : List Token) (tree : Forest) → IsDocument size toks tree
    → built size toks ≡ Ok (built_as tree)

-- what is read is a document
abbrev pub WhatIsReadIsADocument : Type 0
WhatIsReadIsADocument = (size : ℕ) (toks : List Token) (all : Built) → built size toks ≡ Ok all
    → (tree : Forest) × IsDocument size toks tree × (all ≡ built_as tree)

-- tokens have at most one tree
abbrev pub OneTree : Type 0
OneTree = (size : ℕ) (toks : List Token) (f g : Forest) → IsDocument size toks f → IsDocument size toks g → f ≡ g

-- the fault that is reported is the first
abbrev pub TheFaultIsTheFirst : Type 0
TheFaultIsTheFirst = (size : ℕ) (toks : List Token) (f : Fault) → built size toks ≡ Err f → IsFirstFault size toks f
