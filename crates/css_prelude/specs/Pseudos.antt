-- Pseudo-classes and pseudo-elements (Selectors 3, sections 6.6 and 7), after their first colon.
use Rattle.std.specs.Prelude.{ℕ, List, [], ◌∷◌, take, drop, codes, Bool, if◌then◌else◌, Option, Some, None}
use Rattle.mc_base.specs.declared.refusal.ConstructName.{ConstructName}
use Rattle.mc_base.specs.declared.refusal.ConstructName.TheVariants as constructs
use Rattle.css_data.specs.declared.selector.Test.{Test}
use Rattle.css_data.specs.declared.selector.Test.TheVariants as tests
use Rattle.css_tokens.specs.declared.lexeme.Lexeme.{Lexeme}
use Rattle.css_tokens.specs.declared.depth.Stop.TheVariants as stops
use Rattle.css_tokens.specs.Facts.{is_word, is_in, begins, behind_first, front_len}
use Rattle.css_tokens.specs.Stops.{stops_at}
use Rattle.css_prelude.specs.declared.pseudo.Tested.{Tested}
use Rattle.css_prelude.specs.Options.{◌>>=◌}
use Rattle.css_prelude.specs.Words.{first_ident, first_function}
use Rattle.css_prelude.specs.Nth.{nth_of}

abbrev pub plain : Test → Tested
plain test = record { test = test; found = None }

abbrev pub refused : Test → ℕ → ConstructName → Tested
refused test at name = record { test = test; found = Some (record { offset = at; name = name }) }

-- the pseudo-elements that aren't laid out
unfoldable pub is_generated : List ℕ → Bool
is_generated name = is_in name (codes "before" ∷ codes "after" ∷ codes "first-line" ∷ codes "first-letter" ∷ [])

-- the pseudo-classes that never match
unfoldable pub is_never : List ℕ → Bool
is_never name = is_in name (codes "hover" ∷ codes "active" ∷ codes "focus" ∷ codes "focus-visible" ∷ codes "focus-within" ∷ codes
    "visited" ∷ codes "target" ∷ [])

-- the pseudo-classes that take no argument
abbrev pub tested : List ℕ → Option Test
tested name =
    if is_word name (codes "root") then Some tests.Root
    else (if is_word name (codes "first-child") then Some tests.FirstChild
    else (if is_word name (codes "last-child") then Some tests.LastChild
    else (if is_word name (codes "link") then Some tests.Link
    else (if is_never name then Some tests.Never else None))))

abbrev pub element_named : ℕ → List ℕ → Tested
element_named at name = if is_generated name then refused tests.PseudoElement at constructs.PseudoElement else plain
    tests.PseudoElement

abbrev pub unknown : ℕ → Tested
unknown at = refused tests.Never at constructs.PseudoClass

abbrev pub plain_or_unknown : ℕ → Option Test → Tested
plain_or_unknown at (Some test) = plain test
plain_or_unknown at None = unknown at

-- without an argument
abbrev pub class_named : ℕ → List ℕ → Option Tested
class_named at name =
    if is_generated name then Some (element_named at name)
    else (if is_word name (codes "nth-child") then None else Some (plain_or_unknown at (tested name)))

abbrev pub by_step : List Lexeme → Option Tested
by_step xs = nth_of xs >>= λ n. Some (plain (tests.Nth n.step n.offset))

abbrev pub none_or_unknown : ℕ → Option Test → Option Tested
none_or_unknown at (Some test) = None
none_or_unknown at None = Some (unknown at)

-- with an argument
abbrev pub function_named : ℕ → List ℕ → List Lexeme → Option Tested
function_named at name arguments =
    if is_generated name then Some (element_named at name)
    else (if is_word name (codes "nth-child") then by_step arguments else none_or_unknown at (tested name))

-- the arguments of a function, and what stands after its )
abbrev pub arguments_at : List Lexeme → Option (List Lexeme × List Lexeme)
arguments_at xs =
    let n = front_len (stops_at (stops.At 41)) 0 xs in
    if begins 41 (drop n xs) then Some (take n xs, behind_first (drop n xs)) else None

abbrev pub element_or_function : ℕ → Option (List ℕ) → List Lexeme → Option (Tested × List Lexeme)
element_or_function at (Some name) xs = Some (element_named at name, behind_first xs)
element_or_function at None xs = first_function xs >>= λ name. arguments_at (behind_first xs) >>= λ a.
    Some (element_named at name, a.1)

-- after ::
abbrev pub element_at : ℕ → List Lexeme → Option (Tested × List Lexeme)
element_at at xs = element_or_function at (first_ident xs) xs

abbrev pub function_at : ℕ → List Lexeme → Option (Tested × List Lexeme)
function_at at xs = first_function xs >>= λ name. arguments_at (behind_first xs) >>= λ a. function_named at name a.0 >>= λ t.
    Some (t, a.1)

abbrev pub class_or_function : ℕ → Option (List ℕ) → List Lexeme → Option (Tested × List Lexeme)
class_or_function at (Some name) xs = class_named at name >>= λ t. Some (t, behind_first xs)
class_or_function at None xs = function_at at xs

-- after a colon that stands at a byte
abbrev pub pseudo_at : ℕ → List Lexeme → Option (Tested × List Lexeme)
pseudo_at at xs = if begins 58 xs then element_at at (behind_first xs) else class_or_function at (first_ident xs) xs
