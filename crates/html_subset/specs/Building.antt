-- What a builder stands for.
use Rattle.std.specs.Prelude.{None}
use Rattle.html_grammar.specs.Machine.{State, Built, nodes_at_rest}
use Rattle.html_subset.specs.declared.building.Builder.{Builder}
use Rattle.html_subset.specs.declared.building.Finished.{Finished}

abbrev pub state_of : Builder → State
state_of b = record {
  stage = b.stage;
  nodes = b.nodes.items;
  words = b.words;
  opens = b.opens;
  html = b.html;
  deepest = b.deepest;
}

-- with the text so far as a node
abbrev pub at_rest : State → State
at_rest s = record { stage = s.stage; nodes = nodes_at_rest s; words = None; opens = s.opens; html = s.html; deepest = s.deepest }

abbrev pub built_of : Finished → Built
built_of f = record { nodes = f.nodes.items; deepest = f.deepest }
