-- Where the lines of a text end.
use Rattle.std.specs.Prelude.{ℕ, suc, ◌==◌, List, [], ◌∷◌, ◌||◌, ◌&&◌, if◌then◌else◌}
use Rattle.edit_script.specs.Lines.{begins_feed}

-- how many bytes stand before the first line end
abbrev pub line_len : List ℕ → ℕ
line_len [] = 0
line_len (b ∷ bytes) = if (b == 10) || (b == 13) then 0 else suc (line_len bytes)

-- how many bytes the line end has that stands here
abbrev pub end_len : List ℕ → ℕ
end_len [] = 0
end_len (b ∷ bytes) = if (b == 13) && begins_feed bytes then 2 else 1
