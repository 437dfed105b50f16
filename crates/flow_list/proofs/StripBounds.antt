-- A strip reaches no further than all that is laid in it together.
use Rattle.std.proofs.Common.{ℕ, ◌+◌, ◌≤◌, max, Bool, true, false, cond, List, [], ◌∷◌, sum_by, arith}
use Rattle.std.proofs.lemmas.Bool.Decides.{nat_tests}
use Rattle.std.proofs.lemmas.List.Sums.{sum_by-cons}
use Rattle.flow_list.specs.Data.{Edge, Margin, Solid, Wall, Start, End}
use Rattle.flow_data.specs.Flows.{amount}
use Rattle.flow_list.specs.Strip.{Strip, put, lay, lay_all}

pub put_le : (s : Strip) (height : ℕ) → (put s height).y + (put s height).pending ≤ s.y + s.pending + height
put_le s height = grind (arith, nat_tests)

margin_le : (b : Bool) (p m : ℕ) → cond b p (max p m) ≤ p + m
margin_le true p m = omega arith
margin_le false p m = omega arith

pub lay_le : (s : Strip) (e : Edge) → (lay s e).y + (lay s e).pending ≤ s.y + s.pending + amount e
lay_le s (Margin m) = omega (arith, margin_le s.drops s.pending m)
lay_le s (Solid a) = put_le s a
lay_le s Wall = omega arith
lay_le s (Start b) = omega arith
lay_le s (End b) = omega arith

pub lay_all_le : (s : Strip) (es : List Edge) → (lay_all s es).y + (lay_all s es).pending ≤ s.y + s.pending + sum_by amount es
lay_all_le s [] = omega arith
lay_all_le s (e ∷ es) = omega (arith, lay_all_le (lay s e) es, lay_le s e, sum_by-cons amount e es)
