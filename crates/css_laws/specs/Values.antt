-- Component values (CSS Syntax 3, sections 5.4.7 to 5.4.9): a token by itself, or what stands between two brackets; and what is
-- at fault in them.
use Rattle.std.specs.Prelude.{◌≡◌, ◌⊎◌, ℕ, ◌==◌, nat_lt, List, [], ◌∷◌, ◌++◌, Bool, true, false, ◌&&◌, ◌||◌, if◌then◌else◌}
use Rattle.std.specs.Prelude.{Option, Some, None}
use Rattle.css_tokens.specs.declared.lexeme.Lexeme.{Lexeme}
use Rattle.css_tokens.specs.declared.lexeme.Fault.{Fault}
use Rattle.css_tokens.specs.Facts.{is_delim, is_closer, closer_of, broken_of, sign_of}

-- values one after the other; a bracket that is never closed has all that follows in it
pub data Values : Type 0 where
  Nil : Values
  One : (x : Lexeme) (more : Values) → Values
  Closed : (opening : Lexeme) (inside : Values) (closing : Lexeme) (more : Values) → Values
  Open : (opening : Lexeme) (inside : Values) → Values

-- their tokens
abbrev pub written : Values → List Lexeme
written Nil = []
written (One x more) = x ∷ written more
written (Closed opening inside closing more) = opening ∷ (written inside ++ (closing ∷ written more))
written (Open opening inside) = opening ∷ written inside

-- nothing stays open in them
abbrev pub IsWhole : Values → Type 0
IsWhole Nil = Unit {0}
IsWhole (One x more) = IsWhole more
IsWhole (Closed opening inside closing more) = IsWhole more
IsWhole (Open opening inside) = ⊥

-- whether a token closes the bracket around it, which has this closing sign
abbrev pub closes_around : Option ℕ → Lexeme → Bool
closes_around None x = false
closes_around (Some c) x = is_delim c x

-- Brackets are closed by the first sign of their kind that closes nothing inside them; a closing sign of another kind stands
-- by itself.
abbrev pub AreValues : Option ℕ → Values → Type 0
AreValues around Nil = Unit {0}
AreValues around (One x more) = (closer_of x ≡ None) × (closes_around around x ≡ false) × AreValues around more
AreValues around (Closed opening inside closing more) =
    (c : ℕ) × (closer_of opening ≡ Some c) × AreValues (Some c) inside × IsWhole inside × (is_delim c closing ≡ true)
    × AreValues around more
AreValues around (Open opening inside) = (c : ℕ) × (closer_of opening ≡ Some c) × AreValues (Some c) inside

-- A token by itself is at fault where it is a comment (2) or a string (3) that isn't closed, or a closing sign (4).
abbrev pub fault_by : Lexeme → Option ℕ → List Fault
fault_by x (Some rule) = record { at = x.at; rule = rule } ∷ []
fault_by x None = if is_closer x then record { at = x.at; rule = 4 } ∷ [] else []

abbrev pub fault_of : Lexeme → List Fault
fault_of x = fault_by x (broken_of x)

-- all faults: those, and the opening signs of brackets that are never closed (4)
abbrev pub faults_in : Values → List Fault
faults_in Nil = []
faults_in (One x more) = fault_of x ++ faults_in more
faults_in (Closed opening inside closing more) = faults_in inside ++ faults_in more
faults_in (Open opening inside) = record { at = sign_of opening; rule = 4 } ∷ faults_in inside

-- by byte, then by rule
abbrev pub is_before : Fault → Fault → Bool
is_before f g = nat_lt f.at g.at || ((f.at == g.at) && nat_lt f.rule g.rule)

abbrev pub Among : Fault → List Fault → Type 0
Among f [] = ⊥
Among f (g ∷ gs) = (f ≡ g) ⊎ Among f gs

-- the first of faults
pub record IsFirst (f : Fault) (fs : List Fault) : Type 0 where
  pub among : Among f fs
  pub none_before : (g : Fault) → Among g fs → is_before g f ≡ false
