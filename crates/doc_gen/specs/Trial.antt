-- What a trial of a generated document takes and counts (this project's own).
use Rattle.std.specs.Prelude.{ℕ, zero, suc, ◌+◌, if◌then◌else◌, List, codes}
use Rattle.doc_gen.specs.Document.{has_heading}

-- the elements of n parts: a paragraph each, and a heading where one stands before it
unfoldable pub part_elements : ℕ → ℕ
part_elements zero = 0
part_elements (suc n) = part_elements n + (if has_heading n then 2 else 1)

-- the elements of a generated document: `html`, `head`, `title`, `style`, `body` and `div`, and those of its parts
abbrev pub elements_in : (count : ℕ) → ℕ
elements_in count = 6 + part_elements count

-- the table of metrics that it is laid out with
unfoldable pub trial_metrics : List ℕ
trial_metrics = codes "metrics 1\nface trial 400 normal 800 200 500\n"
