-- Compound selectors (Selectors 3, section 4): a type or * or neither, and tests, not nothing at all.
use Rattle.std.specs.Prelude.{ℕ, zero, suc, ◌==◌, List, [], ◌∷◌, ◌++◌, length, Bool, true, false, ◌&&◌, ◌||◌, not, is_some}
use Rattle.std.specs.Prelude.{if◌then◌else◌, Option, Some, None}
use Rattle.css_data.specs.declared.selector.Test.TheVariants as tests
use Rattle.css_tokens.specs.declared.lexeme.Lexeme.{Lexeme}
use Rattle.css_tokens.specs.Facts.{begins, behind_first}
use Rattle.css_prelude.specs.declared.pseudo.Tested.{Tested}
use Rattle.css_prelude.specs.declared.compound.Tests.{Tests}
use Rattle.css_prelude.specs.declared.compound.Element.{Element}
use Rattle.css_prelude.specs.declared.compound.Compounded.{Compounded}
use Rattle.css_prelude.specs.Options.{◌>>=◌}
use Rattle.css_prelude.specs.Words.{or_found, first_ident, first_hash, ident_at}
use Rattle.css_prelude.specs.Attributes.{attribute_at}
use Rattle.css_prelude.specs.Pseudos.{plain, pseudo_at}

-- a hash, . [ or :
abbrev pub begins_test : List Lexeme → Bool
begins_test xs = is_some (first_hash xs) || (begins 46 xs || (begins 91 xs || begins 58 xs))

abbrev pub class_at : List Lexeme → Option (Tested × List Lexeme)
class_at xs = ident_at xs >>= λ name. Some (plain (tests.Class name.0), name.1)

abbrev pub attributed_at : List Lexeme → Option (Tested × List Lexeme)
attributed_at xs = attribute_at xs >>= λ a. Some (plain a.0, a.1)

abbrev pub offset_of : List Lexeme → ℕ
offset_of [] = 0
offset_of (x ∷ xs) = x.at

abbrev pub sign_test_at : List Lexeme → Option (Tested × List Lexeme)
sign_test_at xs =
    if begins 46 xs then class_at (behind_first xs)
    else (if begins 91 xs then attributed_at (behind_first xs)
    else pseudo_at (offset_of xs) (behind_first xs))

abbrev pub test_by_hash : Option (List ℕ) → List Lexeme → Option (Tested × List Lexeme)
test_by_hash (Some text) xs = Some (plain (tests.Id text), behind_first xs)
test_by_hash None xs = sign_test_at xs

abbrev pub test_at : List Lexeme → Option (Tested × List Lexeme)
test_at xs = test_by_hash (first_hash xs) xs

abbrev pub no_tests : Tests
no_tests = record { tests = []; found = None }

abbrev pub with_test : Tests → Tested → Tests
with_test all one = record { tests = all.tests ++ one.test ∷ []; found = or_found all.found one.found }

-- tests, and those after them, of which there are at most as many as counted
unfoldable pub tests_from : ℕ → Tests → List Lexeme → Option (Tests × List Lexeme)
tests_from zero all xs = Some (all, xs)
tests_from (suc n) all xs = if begins_test xs then (test_at xs >>= λ t. tests_from n (with_test all t.0) t.1) else Some (all, xs)

abbrev pub element_named : Option (List ℕ) → List Lexeme → Element × List Lexeme
element_named (Some name) xs = (record { written = true; name = Some name }, behind_first xs)
element_named None xs = (record { written = false; name = None }, xs)

-- a type or *, or neither
abbrev pub element_at : List Lexeme → Element × List Lexeme
element_at xs = if begins 42 xs then (record { written = true; name = None }, behind_first xs) else element_named
    (first_ident xs) xs

abbrev pub joined : Element → Tests → Option Compounded
joined e t = if not e.written && (length t.tests == 0) then None else Some
    (record { compound = record { element = e.name; tests = t.tests }; found = t.found })

unfoldable pub compound_at : ℕ → List Lexeme → Option (Compounded × List Lexeme)
compound_at n xs = tests_from n no_tests (element_at xs).1 >>= λ t. joined (element_at xs).0 t.0 >>= λ c. Some (c, t.1)
