-- Lists of selectors (Selectors 3, sections 5 and 8): compound ones with a join between two, and selectors with commas.
use Rattle.std.specs.Prelude.{ℕ, zero, suc, List, [], ◌∷◌, ◌++◌, length, Bool, if◌then◌else◌, Option, Some, None}
use Rattle.css_data.specs.declared.selector.Join.{Join}
use Rattle.css_data.specs.declared.selector.Join.TheVariants as joins
use Rattle.css_tokens.specs.declared.lexeme.Lexeme.{Lexeme}
use Rattle.css_tokens.specs.Facts.{begins, begins_space, behind_first, behind_spaces}
use Rattle.css_prelude.specs.declared.compound.Compounded.{Compounded}
use Rattle.css_prelude.specs.declared.selecting.Selecting.{Selecting}
use Rattle.css_prelude.specs.declared.selecting.Selectors.{Selectors}
use Rattle.css_prelude.specs.declared.selecting.Follow.{Follow}
use Rattle.css_prelude.specs.declared.selecting.Follow.TheVariants as follows
use Rattle.css_prelude.specs.declared.selecting.Turn.{Turn}
use Rattle.css_prelude.specs.declared.selecting.Turn.TheVariants as turns
use Rattle.css_prelude.specs.Words.{or_found}
use Rattle.css_prelude.specs.Compounds.{compound_at}

-- > + ~
abbrev pub join_sign : List Lexeme → Option Join
join_sign xs = if begins 62 xs then Some joins.Child else
    (if begins 43 xs then Some joins.Next else (if begins 126 xs then Some joins.Later else None))

abbrev pub joined_or_spaced : Bool → Option Join → List Lexeme → Follow × List Lexeme
joined_or_spaced spaced (Some join) xs = (follows.Joined join, behind_spaces (behind_first xs))
joined_or_spaced spaced None xs = if spaced then (follows.Joined joins.Descendant, xs) else (follows.Nothing, xs)

-- after a compound selector and white space
abbrev pub follow_behind : Bool → List Lexeme → Follow × List Lexeme
follow_behind spaced [] = (follows.End, [])
follow_behind spaced (x ∷ xs) = if begins 44 (x ∷ xs) then (follows.Comma, behind_spaces xs) else joined_or_spaced spaced
    (join_sign (x ∷ xs)) (x ∷ xs)

abbrev pub follow_at : List Lexeme → Follow × List Lexeme
follow_at xs = follow_behind (begins_space xs) (behind_spaces xs)

abbrev pub nothing_yet : Selecting
nothing_yet = record { done = []; compounds = []; joins = []; found = None }

abbrev pub with_compound : Selecting → Compounded → Selecting
with_compound s c = record {
  done = s.done;
  compounds = s.compounds ++ c.compound ∷ [];
  joins = s.joins;
  found = or_found s.found c.found;
}

abbrev pub finished : Selecting → Selecting
finished s = record {
  done = s.done ++ record { compounds = s.compounds; joins = s.joins } ∷ [];
  compounds = [];
  joins = [];
  found = s.found;
}

abbrev pub with_join : Selecting → Join → Selecting
with_join s join = record { done = s.done; compounds = s.compounds; joins = s.joins ++ join ∷ []; found = s.found }

abbrev pub followed : Selecting → Follow → Turn × Selecting
followed s follows.End = (turns.Done, finished s)
followed s follows.Comma = (turns.More, finished s)
followed s (follows.Joined join) = (turns.More, with_join s join)
followed s follows.Nothing = (turns.Off, s)

abbrev pub turned : Selecting → Option (Compounded × List Lexeme) → List Lexeme → (Turn × Selecting) × List Lexeme
turned s None xs = ((turns.Off, s), xs)
turned s (Some c) xs = (followed (with_compound s c.0) (follow_at c.1).0, (follow_at c.1).1)

-- a compound selector with what follows it
unfoldable pub turn : ℕ → Selecting → List Lexeme → (Turn × Selecting) × List Lexeme
turn n s xs = turned s (compound_at n xs) xs

abbrev pub whole : Selecting → Selectors
whole s = record { selectors = s.done; found = s.found }

abbrev pub continued : Turn × Selecting → (Selecting → Option Selectors) → Option Selectors
continued (turns.More, s) more = more s
continued (turns.Done, s) more = Some (whole s)
continued (turns.Off, s) more = None

-- the selectors so far and those that follow, in at most as many turns as counted
unfoldable pub list_from : ℕ → ℕ → Selecting → List Lexeme → Option Selectors
list_from zero size s xs = None
list_from (suc n) size s xs = continued (turn size s xs).0 (λ next. list_from n size next (turn size s xs).1)

-- the selectors of a prelude
abbrev pub selectors_of : List Lexeme → Option Selectors
selectors_of xs = list_from (length xs) (length xs) nothing_yet (behind_spaces xs)
