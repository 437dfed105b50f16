-- The limits of a flow file, on its rows.
use Rattle.std.specs.Prelude.{ℕ, suc, ◌+◌, max, List, [], ◌∷◌, ◌++◌, Option, Some, None}
use Rattle.flow_text.specs.Grammar.{Rest, no_more, edge, place, atom, row, FlowFile}
use Rattle.flow_text.specs.Limits.{first_numbers, numbers}

-- how many rows stand one inside another in what is left of a row
abbrev pub depth : Rest → ℕ
depth no_more = 0
depth (edge l rest) = depth rest
depth (place at level rest) = depth rest
depth (atom at height rest) = depth rest
depth (row at n w step x content ended rest) = max (suc (depth content)) (depth rest)

-- how many items of the row itself are left
abbrev pub own_items : Rest → ℕ
own_items no_more = 0
own_items (edge l rest) = own_items rest
own_items (place at level rest) = own_items rest
own_items (atom at height rest) = suc (own_items rest)
own_items (row at n w step x content ended rest) = suc (own_items rest)

-- how many items are left, those of inner rows included
abbrev pub all_items : Rest → ℕ
all_items no_more = 0
all_items (edge l rest) = all_items rest
all_items (place at level rest) = all_items rest
all_items (atom at height rest) = suc (all_items rest)
all_items (row at n w step x content ended rest) = suc (all_items content + all_items rest)

-- the most items of a row that stands in what is left of a row
abbrev pub most_inner : Rest → ℕ
most_inner no_more = 0
most_inner (edge l rest) = most_inner rest
most_inner (place at level rest) = most_inner rest
most_inner (atom at height rest) = most_inner rest
most_inner (row at n w step x content ended rest) = max (max (own_items content) (most_inner content)) (most_inner rest)

abbrev pub of_content : (Rest → ℕ) → Option Rest → ℕ
of_content f None = 0
of_content f (Some rest) = f rest

-- rows one inside another in the file, the first one included
abbrev pub file_depth : FlowFile → ℕ
file_depth f = suc (of_content depth f.content)

abbrev pub file_items : FlowFile → ℕ
file_items f = of_content all_items f.content

abbrev pub file_most_inner : FlowFile → ℕ
file_most_inner f = of_content most_inner f.content

-- the numbers of what is left of a row, in order, those of inner rows included
abbrev pub rest_numbers : Rest → List ℕ
rest_numbers no_more = []
rest_numbers (edge l rest) = numbers l.form ++ rest_numbers rest
rest_numbers (place at level rest) = rest_numbers rest
rest_numbers (atom at height rest) = height ∷ rest_numbers rest
rest_numbers (row at n w step x content ended rest) = n ∷ w ∷ step ∷ x ∷ (rest_numbers content ++ rest_numbers rest)

-- how many columns each row has that is left, those within other rows included
abbrev pub rest_columns : Rest → List ℕ
rest_columns no_more = []
rest_columns (edge l rest) = rest_columns rest
rest_columns (place at level rest) = rest_columns rest
rest_columns (atom at height rest) = rest_columns rest
rest_columns (row at n w step x content ended rest) = n ∷ (rest_columns content ++ rest_columns rest)

abbrev pub in_content : (Rest → List ℕ) → Option Rest → List ℕ
in_content f None = []
in_content f (Some rest) = f rest

-- the numbers of the file, in order
abbrev pub file_numbers : FlowFile → List ℕ
file_numbers f = first_numbers f.n f.w f.step f.available ++ in_content rest_numbers f.content

-- how many columns each row of the file has
abbrev pub file_columns : FlowFile → List ℕ
file_columns f = f.n ∷ in_content rest_columns f.content
