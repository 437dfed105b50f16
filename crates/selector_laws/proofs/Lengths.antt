-- A test takes at least one lexeme.
use Rattle.std.proofs.Common.{ℕ, zero, suc, ◌≤◌, List, [], ◌∷◌, length, Bool, true, false, cond, Option, Some, None, arith}
use Rattle.std.proofs.Common.{drop, take}
use Rattle.css_data.specs.declared.selector.Test.TheVariants as tests
use Rattle.css_data.specs.declared.selector.AttrOp.{AttrOp}
use Rattle.css_data.specs.declared.selector.AttrOp.TheVariants as ops
use Rattle.css_tokens.specs.declared.lexeme.Lexeme.{Lexeme}
use Rattle.css_tokens.specs.declared.depth.Stop.TheVariants as stops
use Rattle.css_tokens.specs.Facts.{is_space, is_delim, begins, behind_first, behind_spaces, hash_of, front_len}
use Rattle.css_tokens.specs.Stops.{stops_at}
use Rattle.css_prelude.specs.Options.{◌>>=◌}
use Rattle.css_prelude.specs.Words.{first_ident, first_function, first_word, ident_at, word_at}
use Rattle.css_prelude.specs.Attributes.{first_op, op_at, closed, valued_at, named_at, attribute_at}
use Rattle.css_prelude.specs.Pseudos.{plain, element_named, class_named, function_named, arguments_at, element_or_function}
use Rattle.css_prelude.specs.Pseudos.{function_at, class_or_function, element_at, pseudo_at}
use Rattle.css_prelude.specs.Compounds.{test_by_hash, class_at, attributed_at, test_at}

abbrev pub Within : {A : Type 0} → ℕ → Option (A × List Lexeme) → Type 0
Within n None = Unit {0}
Within n (Some r) = length r.1 ≤ n

any : {A B : Type 0} (n : ℕ) (o : Option B) (f : B → Option (A × List Lexeme)) → ((b : B) → Within n (f b)) → Within n (o >>= f)
any n None f h = tt
any n (Some b) f h = h b

next : {A B : Type 0} (n : ℕ) (o : Option (B × List Lexeme)) (f : B × List Lexeme → Option (A × List Lexeme)) → Within n o
    → ((b : B × List Lexeme) → length b.1 ≤ n → Within n (f b)) → Within n (o >>= f)
next n None f w h = tt
next n (Some b) f w h = h b w

either : {A : Type 0} (n : ℕ) (b : Bool) (x y : Option (A × List Lexeme)) → Within n x → Within n y → Within n (cond b x y)
either n true x y h k = h
either n false x y h k = k

first_le : (n : ℕ) (xs : List Lexeme) → length xs ≤ n → length (behind_first xs) ≤ n
first_le n [] h = h
first_le n (x ∷ xs) h = omega (arith, h)

pub spaces_le : (n : ℕ) (xs : List Lexeme) → length xs ≤ n → length (behind_spaces xs) ≤ n
spaces_le n [] h = h
spaces_le n (x ∷ xs) h = by_space (is_space x) (spaces_le n xs (omega (arith, h)))
  where
    by_space : (b : Bool) → length (behind_spaces xs) ≤ n → length (cond b (behind_spaces xs) (x ∷ xs)) ≤ n
    by_space true k = k
    by_space false k = h

drop_le : (k n : ℕ) (xs : List Lexeme) → length xs ≤ n → length (drop k xs) ≤ n
drop_le zero n xs h = h
drop_le (suc k) n [] h = h
drop_le (suc k) n (x ∷ xs) h = drop_le k n xs (omega (arith, h))

ident_le : (n : ℕ) (xs : List Lexeme) → length xs ≤ n → Within n (ident_at xs)
ident_le n xs h = any n (first_ident xs) (λ t. Some (t, behind_first xs)) (λ t. first_le n xs h)

word_le : (n : ℕ) (xs : List Lexeme) → length xs ≤ n → Within n (word_at xs)
word_le n xs h = any n (first_word xs) (λ t. Some (t, behind_first xs)) (λ t. first_le n xs h)

-- attributes
op_le : (n : ℕ) (xs : List Lexeme) → length xs ≤ n → Within n (op_at xs)
op_le n xs h =
    let then : AttrOp → Option (AttrOp × List Lexeme) = λ op.
    cond (begins 61 (behind_first xs)) (Some (op, behind_first (behind_first xs))) None in
    either n (begins 61 xs) (Some (ops.Equal, behind_first xs)) (first_op xs >>= then) (first_le n xs h)
    (any n (first_op xs) then (λ op. either n (begins 61 (behind_first xs)) (Some (op, behind_first (behind_first xs))) None
    (first_le n (behind_first xs) (first_le n xs h)) tt))

closed_le : (n : ℕ) (name : List ℕ) (op : AttrOp) (value : List ℕ) (xs : List Lexeme) → length xs ≤ n
    → Within n (closed name op value xs)
closed_le n name op value xs h = either n (begins 93 xs) (Some (tests.Attr name op value, behind_first xs)) None
    (first_le n xs h) tt

valued_le : (n : ℕ) (name : List ℕ) (op : AttrOp) (xs : List Lexeme) → length xs ≤ n → Within n (valued_at name op xs)
valued_le n name op xs h = next n (word_at (behind_spaces xs)) (λ v. closed name op v.0 (behind_spaces v.1))
    (word_le n (behind_spaces xs) (spaces_le n xs h))
    (λ v k. closed_le n name op v.0 (behind_spaces v.1) (spaces_le n v.1 k))

named_le : (n : ℕ) (name : List ℕ) (xs : List Lexeme) → length xs ≤ n → Within n (named_at name xs)
named_le n name xs h = either n (begins 93 xs) (Some (tests.Attr name ops.Has [], behind_first xs))
    (op_at xs >>= λ op. valued_at name op.0 op.1) (first_le n xs h)
    (next n (op_at xs) (λ op. valued_at name op.0 op.1) (op_le n xs h) (λ op k. valued_le n name op.0 op.1 k))

attribute_le : (n : ℕ) (xs : List Lexeme) → length xs ≤ n → Within n (attribute_at xs)
attribute_le n xs h = next n (ident_at (behind_spaces xs)) (λ name. named_at name.0 (behind_spaces name.1))
    (ident_le n (behind_spaces xs) (spaces_le n xs h)) (λ name k. named_le n name.0 (behind_spaces name.1) (spaces_le n name.1 k))

attributed_le : (n : ℕ) (xs : List Lexeme) → length xs ≤ n → Within n (attributed_at xs)
attributed_le n xs h = next n (attribute_at xs) (λ a. Some (plain a.0, a.1)) (attribute_le n xs h) (λ a k. k)

class_le : (n : ℕ) (xs : List Lexeme) → length xs ≤ n → Within n (class_at xs)
class_le n xs h = next n (ident_at xs) (λ name. Some (plain (tests.Class name.0), name.1)) (ident_le n xs h) (λ name k. k)

-- pseudo-classes and pseudo-elements
arguments_le : (n : ℕ) (xs : List Lexeme) → length xs ≤ n → Within n (arguments_at xs)
arguments_le n xs h =
    let m = front_len (stops_at (stops.At 41)) 0 xs in
    either n (begins 41 (drop m xs)) (Some (take m xs, behind_first (drop m xs))) None
    (first_le n (drop m xs) (drop_le m n xs h)) tt

element_or_le : (n at : ℕ) (o : Option (List ℕ)) (xs : List Lexeme) → length xs ≤ n → Within n (element_or_function at o xs)
element_or_le n at (Some name) xs h = first_le n xs h
element_or_le n at None xs h = any n (first_function xs)
    (λ name. arguments_at (behind_first xs) >>= λ a. Some (element_named at name, a.1))
    (λ name. next n (arguments_at (behind_first xs)) (λ a. Some (element_named at name, a.1))
    (arguments_le n (behind_first xs) (first_le n xs h)) (λ a k. k))

function_le : (n at : ℕ) (xs : List Lexeme) → length xs ≤ n → Within n (function_at at xs)
function_le n at xs h = any n (first_function xs)
    (λ name. arguments_at (behind_first xs) >>= λ a. function_named at name a.0 >>= λ t. Some (t, a.1))
    (λ name. next n (arguments_at (behind_first xs)) (λ a. function_named at name a.0 >>= λ t. Some (t, a.1))
    (arguments_le n (behind_first xs) (first_le n xs h))
    (λ a k. any n (function_named at name a.0) (λ t. Some (t, a.1)) (λ t. k)))

class_or_le : (n at : ℕ) (o : Option (List ℕ)) (xs : List Lexeme) → length xs ≤ n → Within n (class_or_function at o xs)
class_or_le n at (Some name) xs h = any n (class_named at name) (λ t. Some (t, behind_first xs)) (λ t. first_le n xs h)
class_or_le n at None xs h = function_le n at xs h

pseudo_le : (n at : ℕ) (xs : List Lexeme) → length xs ≤ n → Within n (pseudo_at at xs)
pseudo_le n at xs h = either n (begins 58 xs) (element_at at (behind_first xs)) (class_or_function at (first_ident xs) xs)
    (element_or_le n at (first_ident (behind_first xs)) (behind_first xs) (first_le n xs h))
    (class_or_le n at (first_ident xs) xs h)

pub test_le : (x : Lexeme) (xs : List Lexeme) → Within (length xs) (test_at (x ∷ xs))
test_le x xs = by_hash (hash_of x)
  where
    same : length xs ≤ length xs
    same = omega arith

    by_hash : (o : Option (List ℕ)) → Within (length xs) (test_by_hash o (x ∷ xs))
    by_hash (Some text) = same
    by_hash None = either (length xs) (is_delim 46 x) (class_at xs)
        (cond (is_delim 91 x) (attributed_at xs) (pseudo_at x.at xs)) (class_le (length xs) xs same)
        (either (length xs) (is_delim 91 x) (attributed_at xs) (pseudo_at x.at xs) (attributed_le (length xs) xs same)
        (pseudo_le (length xs) x.at xs same))
