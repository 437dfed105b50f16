-- A list of the boxes that are open, the outermost first, as edges pass.
use Rattle.std.specs.Prelude.{ℕ, ◌-◌, List, [], ◌∷◌, ◌++◌, length, take}
use Rattle.flow_list.specs.Data.{Edge, Margin, Solid, Wall, Start, End}

-- the open boxes after an edge: a box that starts is the innermost, and it is the innermost that ends
abbrev pub opened_by : List ℕ → Edge → List ℕ
opened_by boxes (Margin m) = boxes
opened_by boxes (Solid a) = boxes
opened_by boxes Wall = boxes
opened_by boxes (Start b) = boxes ++ b ∷ []
opened_by boxes (End b) = take (length boxes - 1) boxes
