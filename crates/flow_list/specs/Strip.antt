-- How edges and items are laid one under another, with margins that collapse (CSS 2.1, section 8.3.1).
use Rattle.std.specs.Prelude.{ℕ, ◌+◌, ◌==◌, max, Bool, false, cond, List, fold}
use Rattle.flow_list.specs.Data.{Edge, Margin, Solid, Wall, Start, End}

-- How far a strip reaches, the margin that is pending at its end, and whether margins are still dropped: at an unforced
-- break those next to it are (CSS Fragmentation 3, section 5.2).
pub record Strip : Type 0 where
  pub y : ℕ
  pub pending : ℕ
  pub drops : Bool

-- the strip that begins at y with nothing pending
abbrev pub strip_at : ℕ → Bool → Strip
strip_at y drops = record { y = y; pending = 0; drops = drops }

-- A solid amount or an item, of this height: where that is above 0, it stands after the pending margin, and ends the
-- dropping of margins.
abbrev pub put : Strip → ℕ → Strip
put s height = record {
  y = cond (height == 0) s.y (s.y + s.pending + height);
  pending = cond (height == 0) s.pending 0;
  drops = cond (height == 0) s.drops false;
}

-- An edge: of margins that adjoin the greatest counts, and a wall parts them.
abbrev pub lay : Strip → Edge → Strip
lay s (Margin m) = record { y = s.y; pending = cond s.drops s.pending (max s.pending m); drops = s.drops }
lay s (Solid a) = put s a
lay s Wall = record { y = s.y + s.pending; pending = 0; drops = false }
lay s (Start b) = s
lay s (End b) = s

abbrev pub lay_all : Strip → List Edge → Strip
lay_all s edges = fold lay s edges

-- where the next item begins
abbrev pub begins : Strip → ℕ
begins s = s.y + s.pending
