-- What has its form is read.
use Rattle.std.proofs.Common.{◌≡◌, ℕ, zero, suc, ◌≤◌, List, [], ◌∷◌, length, Bool, true, false, cond, refl, sym, ap, ◌∙◌}
use Rattle.std.proofs.Common.{Option, Some, None, arith}
use lib.Dec.{eqb}
use Rattle.css_data.specs.declared.selector.Join.{Join}
use Rattle.css_data.specs.declared.selector.Join.TheVariants as joins
use Rattle.css_tokens.specs.declared.lexeme.Lexeme.{Lexeme}
use Rattle.css_tokens.specs.Facts.{is_delim, delim_in, ident_of, begins_space, behind_spaces}
use Rattle.css_prelude.specs.declared.pseudo.Tested.{Tested}
use Rattle.css_prelude.specs.declared.compound.Tests.{Tests}
use Rattle.css_prelude.specs.declared.compound.Element.{Element}
use Rattle.css_prelude.specs.declared.compound.Compounded.{Compounded}
use Rattle.css_prelude.specs.declared.selecting.Selecting.{Selecting}
use Rattle.css_prelude.specs.declared.selecting.Selectors.{Selectors}
use Rattle.css_prelude.specs.declared.selecting.Follow.{Follow}
use Rattle.css_prelude.specs.declared.selecting.Follow.TheVariants as follows
use Rattle.css_prelude.specs.Options.{◌>>=◌}
use Rattle.css_prelude.specs.Compounds.{begins_test, test_at, no_tests, with_test, tests_from, element_at, element_named, joined}
use Rattle.css_prelude.specs.Compounds.{compound_at}
use Rattle.css_prelude.specs.Selecting.{follow_at, follow_behind, join_sign, joined_or_spaced, nothing_yet, with_compound}
use Rattle.css_prelude.specs.Selecting.{finished, with_join, followed, turned, turn, continued, list_from, selectors_of}
use Rattle.selector_laws.specs.Forms.{IsJoin, IsElement, AreTests, IsSome, IsCompound, Row, Last}
use Rattle.selector_laws.specs.Forms.{Joined, Comma, IsRow, AreSelectors}
use Rattle.selector_laws.specs.Spaces.{IsSign}
use Rattle.selector_laws.specs.Tests.{IsTest}
use Rattle.selector_laws.proofs.TestsRead.{test_read}
use Rattle.selector_laws.proofs.Lengths.{Within, test_le}
use Rattle.selector_laws.proofs.Starts.{Starts, ident_only, none_no_sign, no_sign_starts, sign_starts, other}
use Rattle.selector_laws.proofs.Starts.{test_begins, Parts, Signed, signed, behind_spaced, spaced_le, spaces_end, spaces_no_test}
use Rattle.selector_laws.proofs.Starts.{space_no_test}
use Rattle.selector_laws.proofs.Said.{with_tests, with_tests_is, element_of, compounded, tests_as, in_front, some_tests, with_row}
use Rattle.selector_laws.proofs.Said.{with_row_is}

-- tests
within : (n : ℕ) (o : Option (Tested × List Lexeme)) (r : Tested × List Lexeme) → o ≡ Some r → Within n o → length r.1 ≤ n
within n None r e w = absurd cc
within n (Some q) r e w = rw (← same q r e) w
  where
    same : (p q : Tested × List Lexeme) → Some p ≡ Some q → p ≡ q
    same p q h = cc

test_shorter : (xs : List Lexeme) (t : Tested) (more : List Lexeme) → IsTest t xs more → suc (length more) ≤ length xs
test_shorter xs t more h = let r = test_read t xs more h in by_first xs r.0 r.1
  where
    by_first : (xs : List Lexeme) → begins_test xs ≡ true → test_at xs ≡ Some (t, more) → suc (length more) ≤ length xs
    by_first [] b h = absurd cc
    by_first (x ∷ xs) b h =
        let w : length more ≤ length xs = within (length xs) (test_at (x ∷ xs)) (t, more) h (test_le x xs) in
        omega (arith, w)

tests_le : (ts : List Tested) (xs rest : List Lexeme) → AreTests ts xs rest → length rest ≤ length xs
tests_le [] xs rest h = rw h (omega arith)
tests_le (t ∷ ts) xs rest h = omega (arith, test_shorter xs t h.0 h.1, tests_le ts h.0 rest h.2)

tests_read : (n : ℕ) (all : Tests) (ts : List Tested) (xs rest : List Lexeme) → AreTests ts xs rest → begins_test rest ≡ false
    → length xs ≤ n → tests_from n all xs ≡ Some (with_tests all ts, rest)
unfolding tests_from
tests_read zero all [] xs rest h e k = ap (λ (ys : List Lexeme). Some (all, ys)) h
tests_read zero all (t ∷ ts) xs rest h e k = absurd (omega (arith, k, test_shorter xs t h.0 h.1))
tests_read (suc n) all [] xs rest h e k =
    ap (λ (b : Bool). cond b (test_at xs >>= λ t. tests_from n (with_test all t.0) t.1) (Some (all, xs)))
    (ap begins_test h ∙ e) ∙ ap (λ (ys : List Lexeme). Some (all, ys)) h
tests_read (suc n) all (t ∷ ts) xs rest h e k =
    let r = test_read t xs h.0 h.1 in
    ap (λ (b : Bool). cond b (test_at xs >>= λ r. tests_from n (with_test all r.0) r.1) (Some (all, xs))) r.0
    ∙ ap (λ (o : Option (Tested × List Lexeme)). o >>= λ r. tests_from n (with_test all r.0) r.1) r.1
    ∙ tests_read n (with_test all t) ts h.0 rest h.2 e (omega (arith, k, test_shorter xs t h.0 h.1))

-- compound selectors
element_le : (e : Option (Option (List ℕ))) (xs more : List Lexeme) → IsElement e xs more → length more ≤ length xs
element_le None xs more h = rw h (omega arith)
element_le (Some None) xs more h = rw h.1 (omega arith)
element_le (Some (Some name)) xs more h = rw h.1 (omega arith)

element_read : (e : Option (Option (List ℕ))) (ts : List Tested) (xs more rest : List Lexeme) → IsElement e xs more
    → AreTests ts more rest → IsSome e ts → element_at xs ≡ (element_of e, more)
element_read None [] xs more rest h ts s = absurd s
element_read None (t ∷ ts) xs more rest h is s = by_first xs h (ap begins_test h ∙ (test_read t more is.0 is.1).0)
  where
    by_first : (xs : List Lexeme) → xs ≡ more → begins_test xs ≡ true → element_at xs ≡ (element_of None, more)
    by_first [] e b = absurd cc
    by_first (x ∷ xs) e b =
        let k = test_begins x xs b in
        ap (λ (c : Bool). cond c (record { written = true; name = None }, xs) (element_named (ident_of x) (x ∷ xs))) k.1
        ∙ ap (λ (o : Option (List ℕ)). element_named o (x ∷ xs)) k.2
        ∙ ap (λ (ys : List Lexeme). (element_of None, ys)) e
element_read (Some None) ts xs more rest h is s =
    ap element_at h.1
    ∙ ap (λ (c : Bool). cond c (element_of (Some None), more) (element_named (ident_of h.0) (h.0 ∷ more))) h.2
element_read (Some (Some name)) ts xs more rest h is s =
    let k = ident_only name h.0.symbol h.2 in
    ap element_at h.1
    ∙ ap (λ (c : Bool). cond c (element_of (Some None), more) (element_named (ident_of h.0) (h.0 ∷ more)))
    (none_no_sign 42 h.0 k.1)
    ∙ ap (λ (o : Option (List ℕ)). element_named o (h.0 ∷ more)) h.2

built : (e : Option (Option (List ℕ))) (ts : List Tested) (rest : List Lexeme) → IsSome e ts
    → in_front rest (joined (element_of e) (tests_as ts)) ≡ Some (compounded e ts, rest)
built None [] rest s = absurd s
built None (t ∷ ts) rest s = some_tests t ts rest
built (Some name) ts rest s = refl

compound_read : (n : ℕ) (c : Compounded) (xs rest : List Lexeme) → IsCompound c xs rest → begins_test rest ≡ false
    → length xs ≤ n → compound_at n xs ≡ Some (c, rest)
unfolding compound_at
compound_read n c xs rest h e k =
    let el = h.element in
    let below : length h.more ≤ n = omega (arith, k, element_le el xs h.more h.element_is) in
    let read = tests_read n no_tests h.tests h.more rest h.tests_are e below in
    ap (λ (x : Element × List Lexeme). tests_from n no_tests x.1 >>= λ t. joined x.0 t.0 >>= λ c. Some (c, t.1))
    (element_read el h.tests xs h.more rest h.element_is h.tests_are h.some)
    ∙ ap (λ (o : Option (Tests × List Lexeme)). o >>= λ t. joined (element_of el) t.0 >>= λ c. Some (c, t.1)) read
    ∙ ap (λ (t : Tests). in_front rest (joined (element_of el) t)) (with_tests_is no_tests h.tests)
    ∙ built el h.tests rest h.some
    ∙ ap (λ (x : Compounded). Some (x, rest)) (sym h.whole)

compound_le : (c : Compounded) (xs rest : List Lexeme) → IsCompound c xs rest → length rest ≤ length xs
compound_le c xs rest h = omega (arith, element_le h.element xs h.more h.element_is, tests_le h.tests h.more rest h.tests_are)

abbrev Begins : List Lexeme → Type 0
Begins xs = (x : Lexeme) × (ys : List Lexeme) × (xs ≡ x ∷ ys) × Starts x

compound_begins : (c : Compounded) (xs rest : List Lexeme) → IsCompound c xs rest → Begins xs
compound_begins c xs rest h = by_element h.element h.tests h.more h.element_is h.tests_are h.some
  where
    by_first : (xs : List Lexeme) → begins_test xs ≡ true → Begins xs
    by_first [] b = absurd cc
    by_first (x ∷ xs) b = (x, xs, refl, (test_begins x xs b).0)

    by_element : (e : Option (Option (List ℕ))) (ts : List Tested) (more : List Lexeme) → IsElement e xs more
        → AreTests ts more rest → IsSome e ts → Begins xs
    by_element None [] more is are s = absurd s
    by_element None (t ∷ ts) more is are s = by_first xs (ap begins_test is ∙ (test_read t more are.0 are.1).0)
    by_element (Some None) ts more is are s = (is.0, more, is.1, sign_starts 42 is.0 is.2 refl refl refl refl)
    by_element (Some (Some name)) ts more is are s =
        let k = ident_only name is.0.symbol is.2 in
        (is.0, more, is.1, no_sign_starts is.0 k.0 k.1)

row_begins : (row : Row) (xs : List Lexeme) → IsRow row xs → Begins xs
row_begins (Last c) xs h = compound_begins c xs h.0 h.1
row_begins (Joined c join row) xs h = compound_begins c xs h.0 h.2
row_begins (Comma c row) xs h = compound_begins c xs h.0 h.2

no_space : (xs : List Lexeme) → Begins xs → begins_space xs ≡ false
no_space xs b = ap begins_space b.2 ∙ b.3.space

-- what follows a compound selector, before one
record Follows (f : Follow) (xs rest : List Lexeme) : Type 0 where
  is : follow_at xs ≡ (f, rest)
  shorter : suc (length rest) ≤ length xs
  no_test : begins_test xs ≡ false

comma_parts : Parts 44
comma_parts = record { class = refl; attribute = refl; pseudo = refl }

comma_read : (xs rest : List Lexeme) → IsSign 44 xs rest → Begins rest → Follows follows.Comma xs rest
comma_read xs rest h b =
    let s = signed 44 xs rest comma_parts h (no_space rest b) in
    let y = s.sign in
    let ys = s.more in
    let spaced = begins_space xs in
    record {
      is = ap (follow_behind spaced) s.in_front
          ∙ ap (λ (c : Bool). cond c (follows.Comma, behind_spaces ys) (joined_or_spaced spaced (join_sign (y ∷ ys))
          (y ∷ ys))) s.is
          ∙ ap (λ (zs : List Lexeme). (follows.Comma, zs)) s.behind;
      shorter = s.shorter;
      no_test = s.no_test;
    }

-- what four signs make of a lexeme after a compound selector
abbrev by_signs : Bool → Bool → Bool → Bool → Bool → Lexeme → List Lexeme → Follow × List Lexeme
by_signs spaced comma child next later y ys = cond comma (follows.Comma, behind_spaces ys)
    (joined_or_spaced spaced (cond child (Some joins.Child) (cond next (Some joins.Next) (cond later (Some joins.Later) None)))
    (y ∷ ys))

signs_are : (spaced : Bool) (y : Lexeme) (ys : List Lexeme) (comma child next later : Bool) → is_delim 44 y ≡ comma
    → is_delim 62 y ≡ child → is_delim 43 y ≡ next → is_delim 126 y ≡ later
    → follow_behind spaced (y ∷ ys) ≡ by_signs spaced comma child next later y ys
signs_are spaced y ys comma child next later h44 h62 h43 h126 =
    ap (λ (b : Bool). by_signs spaced b (is_delim 62 y) (is_delim 43 y) (is_delim 126 y) y ys) h44
    ∙ ap (λ (b : Bool). by_signs spaced comma b (is_delim 43 y) (is_delim 126 y) y ys) h62
    ∙ ap (λ (b : Bool). by_signs spaced comma child b (is_delim 126 y) y ys) h43
    ∙ ap (λ (b : Bool). by_signs spaced comma child next b y ys) h126

joined_read : (c : ℕ) (join : Join) (xs rest : List Lexeme) → (s : Signed c xs rest)
    → follow_behind (begins_space xs) (s.sign ∷ s.more) ≡ (follows.Joined join, behind_spaces s.more)
    → Follows (follows.Joined join) xs rest
joined_read c join xs rest s e = record {
  is = ap (follow_behind (begins_space xs)) s.in_front ∙ e
      ∙ ap (λ (zs : List Lexeme). (follows.Joined join, zs)) s.behind;
  shorter = s.shorter;
  no_test = s.no_test;
}

parts_of : (c : ℕ) → eqb c 46 ≡ false → eqb c 91 ≡ false → eqb c 58 ≡ false → Parts c
parts_of c h k l = record { class = h; attribute = k; pseudo = l }

join_read : (join : Join) (xs rest : List Lexeme) → IsJoin join xs rest → Begins rest → Follows (follows.Joined join) xs rest
join_read joins.Descendant xs rest h b =
    let front : behind_spaces xs ≡ rest = behind_spaced xs rest
    (h.0 ∷ h.4.0, h.2 ∙ ap (λ (ys : List Lexeme). h.0 ∷ ys) h.4.1, (h.3, h.4.2)) (no_space rest b) in
    let spaced : begins_space xs ≡ true = ap begins_space h.2 ∙ h.3 in
    let st = b.3 in
    let behind : behind_spaces h.1 ≡ rest = behind_spaced h.1 rest h.4 (no_space rest b) in
    record {
      is = ap (follow_behind (begins_space xs)) (front ∙ b.2)
          ∙ ap (λ (s : Bool). follow_behind s (b.0 ∷ b.1)) spaced
          ∙ signs_are true b.0 b.1 false false false false st.comma st.child st.next st.later
          ∙ ap (λ (zs : List Lexeme). (follows.Joined joins.Descendant, zs)) (sym b.2);
      shorter = omega (arith, spaced_le h.1 rest behind, ap (λ (ys : List Lexeme). length ys) h.2);
      no_test = ap begins_test h.2 ∙ space_no_test h.0 h.1 h.3;
    }
join_read joins.Child xs rest h b =
    let s = signed 62 xs rest (parts_of 62 refl refl refl) h (no_space rest b) in
    let y = s.sign in
    joined_read 62 joins.Child xs rest s (signs_are (begins_space xs) y s.more false true (is_delim 43 y) (is_delim 126 y)
    (other 62 44 (delim_in y.symbol) s.is refl) s.is refl refl)
join_read joins.Next xs rest h b =
    let s = signed 43 xs rest (parts_of 43 refl refl refl) h (no_space rest b) in
    let y = s.sign in
    joined_read 43 joins.Next xs rest s (signs_are (begins_space xs) y s.more false false true (is_delim 126 y)
    (other 43 44 (delim_in y.symbol) s.is refl) (other 43 62 (delim_in y.symbol) s.is refl) s.is refl)
join_read joins.Later xs rest h b =
    let s = signed 126 xs rest (parts_of 126 refl refl refl) h (no_space rest b) in
    let y = s.sign in
    joined_read 126 joins.Later xs rest s (signs_are (begins_space xs) y s.more false false false true
    (other 126 44 (delim_in y.symbol) s.is refl) (other 126 62 (delim_in y.symbol) s.is refl)
    (other 126 43 (delim_in y.symbol) s.is refl) s.is)

-- rows
one_turn : (k size : ℕ) (s : Selecting) (c : Compounded) (f : Follow) (xs rest more : List Lexeme) → IsCompound c xs rest
    → begins_test rest ≡ false → follow_at rest ≡ (f, more) → length xs ≤ size
    → list_from (suc k) size s xs ≡ continued (followed (with_compound s c) f) (λ next. list_from k size next more)
unfolding list_from turn
one_turn k size s c f xs rest more is none e h =
    ap (λ (o : Option (Compounded × List Lexeme)).
    continued (turned s o xs).0 (λ next. list_from k size next (turned s o xs).1)) (compound_read size c xs rest is none h)
    ∙ ap (λ (x : Follow × List Lexeme). continued (followed (with_compound s c) x.0) (λ next. list_from k size next x.1)) e

nonempty : (xs : List Lexeme) → Begins xs → length xs ≤ 0 → ⊥
nonempty xs b h = omega (arith, h, ap (λ (ys : List Lexeme). length ys) b.2)

row_read : (row : Row) (k size : ℕ) (s : Selecting) (xs : List Lexeme) → IsRow row xs → length xs ≤ k → length xs ≤ size
    → list_from k size s xs ≡ Some (with_row s row)
row_read row zero size s xs h k l = absurd (nonempty xs (row_begins row xs h) k)
row_read (Last c) (suc n) size s xs h k l =
    one_turn n size s c follows.End xs h.0 [] h.1 (spaces_no_test h.0 h.2)
    (ap (follow_behind (begins_space h.0)) (spaces_end h.0 h.2)) l
row_read (Joined c join row) (suc n) size s xs h k l =
    let f = join_read join h.0 h.1 h.3 (row_begins row h.1 h.4) in
    let less = compound_le c xs h.0 h.2 in
    one_turn n size s c (follows.Joined join) xs h.0 h.1 h.2 f.no_test f.is l
    ∙ row_read row n size (with_join (with_compound s c) join) h.1 h.4 (omega (arith, k, less, f.shorter))
    (omega (arith, l, less, f.shorter))
row_read (Comma c row) (suc n) size s xs h k l =
    let f = comma_read h.0 h.1 h.3 (row_begins row h.1 h.4) in
    let less = compound_le c xs h.0 h.2 in
    one_turn n size s c follows.Comma xs h.0 h.1 h.2 f.no_test f.is l
    ∙ row_read row n size (finished (with_compound s c)) h.1 h.4 (omega (arith, k, less, f.shorter))
    (omega (arith, l, less, f.shorter))

pub selectors_read : (xs : List Lexeme) (s : Selectors) → AreSelectors xs s → selectors_of xs ≡ Some s
selectors_read xs s h =
    let front = behind_spaced xs h.more h.spaced (no_space h.more (row_begins h.row h.more h.row_is)) in
    let n = length xs in
    let less = spaced_le xs h.more front in
    ap (list_from n n nothing_yet) front ∙ row_read h.row n n nothing_yet h.more h.row_is less less
    ∙ ap (λ (x : Selectors). Some x) (with_row_is nothing_yet h.row ∙ sym h.whole)

some_is : (s t : Selectors) → Some s ≡ Some t → s ≡ t
some_is s t h = cc

pub one_list : (xs : List Lexeme) (s t : Selectors) → AreSelectors xs s → AreSelectors xs t → s ≡ t
one_list xs s t h k = some_is s t (sym (selectors_read xs s h) ∙ selectors_read xs t k)
