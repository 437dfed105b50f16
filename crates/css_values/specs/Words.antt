-- Words of a style sheet: letters are compared without ASCII case (CSS Syntax 3, section 3.3; CSS Values 4, section 4.1).
use Rattle.std.specs.Prelude.{ℕ, Bool, List, length, take, map}
use Rattle.std.specs.Char.{to_ascii_lowercase}
use Rattle.std.specs.Str.{bytes_eq}

abbrev pub lower : List ℕ → List ℕ
lower text = map to_ascii_lowercase text

unfoldable pub same : List ℕ → List ℕ → Bool
same a b = bytes_eq (lower a) (lower b)

unfoldable pub begins_with : List ℕ → List ℕ → Bool
begins_with front text = same (take (length front) text) front
