-- The limits of a flow file, on its lines.
use Rattle.std.specs.Prelude.{ℕ, ◌+◌, ◌-◌, nat_lt, List, [], ◌∷◌, length, filter, Bool, true, false, ◌&&◌, ◌||◌, not, ◌==◌}
use Rattle.std.specs.Prelude.{if◌then◌else◌, Option, Some, None}
use Rattle.mc_base.specs.declared.refusal.Refusal.{Refusal}
use Rattle.mc_base.specs.declared.refusal.Refusal.TheVariants.{Limit}
use Rattle.mc_base.specs.declared.refusal.LimitName.TheVariants.{Items, InnerItems, Columns, Nest, Length}
use Rattle.flow_text.specs.declared.line.Line.{Line}
use Rattle.flow_text.specs.declared.line.Form.{Form}
use Rattle.flow_text.specs.declared.line.Form.TheVariants as forms
use Rattle.flow_text.specs.declared.limit.Counts.{Counts}

abbrev pub first_above : ℕ → List ℕ → Option ℕ
first_above limit [] = None
first_above limit (n ∷ ns) = if nat_lt limit n then Some n else first_above limit ns

abbrev pub or_else : {A : Type 0} → Option A → Option A → Option A
or_else None other = other
or_else (Some x) other = Some x

-- A and the three numbers before it
abbrev pub first_numbers : ℕ → ℕ → ℕ → Option ℕ → List ℕ
first_numbers n w step None = n ∷ w ∷ step ∷ []
first_numbers n w step (Some available) = n ∷ w ∷ step ∷ available ∷ []

-- the numbers of a line, in order, but for that of a break place
abbrev pub numbers : Form → List ℕ
numbers forms.Flow = []
numbers (forms.First n w step available auto) = first_numbers n w step available
numbers (forms.Margin u) = u ∷ []
numbers (forms.Solid u) = u ∷ []
numbers forms.Wall = []
numbers (forms.Start number x w avoid top bottom) = number ∷ x ∷ w ∷ top ∷ bottom ∷ []
numbers (forms.End number) = number ∷ []
numbers (forms.Atom u) = u ∷ []
numbers (forms.Row n w step x) = n ∷ w ∷ step ∷ x ∷ []
numbers (forms.Break level) = []
numbers forms.Close = []

-- the first number of a line above the greatest length, 2^24 units
abbrev pub long_in : Form → Option ℕ
long_in form = first_above 16777216 (numbers form)

abbrev pub first_long : List Line → Option ℕ
first_long [] = None
first_long (line ∷ lines) = or_else (long_in line.form) (first_long lines)

-- how many columns a line's row has
abbrev pub columns : Form → List ℕ
columns (forms.First n w step available auto) = n ∷ []
columns (forms.Row n w step x) = n ∷ []
columns _ = []

abbrev pub wide_in : Form → Option ℕ
wide_in form = first_above 32 (columns form)

abbrev pub first_wide : List Line → Option ℕ
first_wide [] = None
first_wide (line ∷ lines) = or_else (wide_in line.form) (first_wide lines)

abbrev pub is_item : Form → Bool
is_item (forms.Atom u) = true
is_item (forms.Row n w step x) = true
is_item _ = false

-- how many items the lines have
abbrev pub items : List Line → ℕ
items lines = length (filter (λ line. is_item line.form) lines)

-- how many rows are open after a line
abbrev pub open_behind : ℕ → Form → ℕ
open_behind n (forms.First c w step available auto) = n + 1
open_behind n (forms.Row c w step x) = n + 1
open_behind n forms.Close = n - 1
open_behind n _ = n

-- whether more than three rows are open after one of the lines
abbrev pub is_deep : ℕ → List Line → Bool
is_deep n [] = false
is_deep n (line ∷ lines) = nat_lt 3 (open_behind n line.form) || is_deep (open_behind n line.form) lines

-- past 2,000 it doesn't matter how many items there are
abbrev pub one_more : ℕ → ℕ
one_more n = if nat_lt 2000 n then n else n + 1

abbrev pub no_counts : Counts
no_counts = record { inner = 0; outer = [] }

abbrev pub popped : List ℕ → Counts
popped [] = no_counts
popped (n ∷ ns) = record { inner = n; outer = ns }

-- the items so far of each open row, after a line
abbrev pub counted : Counts → Form → Counts
counted c (forms.Atom u) = record { inner = one_more c.inner; outer = c.outer }
counted c (forms.Row n w step x) = record { inner = 0; outer = one_more c.inner ∷ c.outer }
counted c forms.Close = popped c.outer
counted c _ = c

abbrev pub crowded : Counts → Bool
crowded c = not (length c.outer == 0) && nat_lt 2000 c.inner

-- whether a row inside another one has more than 2,000 items after one of the lines
abbrev pub has_crowded_row : Counts → List Line → Bool
has_crowded_row c [] = false
has_crowded_row c (line ∷ lines) = crowded (counted c line.form) || has_crowded_row (counted c line.form) lines

abbrev pub or_crowded : Bool → Option Refusal
or_crowded found = if found then Some (Limit InnerItems 2001 2000) else None

abbrev pub or_many : ℕ → Option Refusal → Option Refusal
or_many n other = if nat_lt 100000 n then Some (Limit Items 100001 100000) else other

abbrev pub or_deep : Bool → Option Refusal → Option Refusal
or_deep found other = if found then Some (Limit Nest 4 3) else other

abbrev pub or_wide : Option ℕ → Option Refusal → Option Refusal
or_wide None other = other
or_wide (Some n) other = Some (Limit Columns n 32)

abbrev pub or_long : Option ℕ → Option Refusal → Option Refusal
or_long None other = other
or_long (Some n) other = Some (Limit Length n 16777216)

-- the first limit that the lines pass
unfoldable pub limit_passed : List Line → Option Refusal
limit_passed lines = or_long (first_long lines)
    (or_wide (first_wide lines) (or_deep (is_deep 0 lines)
    (or_many (items lines) (or_crowded (has_crowded_row no_counts lines)))))
