-- The result that is read, its numbers, and the certificate that is read again.
use Rattle.std.proofs.Common.{◌≡◌, ℕ, ◌+◌, ◌==◌, ◌≤◌, Bool, true, false, ◌&&◌, ◌||◌, not, List, [], ◌∷◌, length, refl, sym}
use Rattle.std.proofs.Common.{◌∙◌, ap, subst, cond, arith, inl, inr, Some, None, Result, Ok, Err}
use Rattle.std.specs.Prelude.{◌⊎◌, nat_lt, All}
use Rattle.std.proofs.lemmas.Bool.Decides.{nat_tests}
use Rattle.height_cert.proofs.Again as certs
use Rattle.height_cert.specs.Certs.{with_cert, result_text}
use Rattle.height_cert.specs.Laws.{CanBeRead}
use Rattle.height_cert.specs.declared.cert.Cert.{Cert}
use Rattle.height_cert.specs.declared.cert.Cites.{Cites}
use Rattle.mc_base.specs.declared.read_error.Fault.{Fault}
use Rattle.mc_base.specs.declared.read_error.ReadError.{ReadError}
use Rattle.result_laws.specs.Given.{GivenResult, IsTreeText}
use Rattle.result_laws.specs.Reading.{CertLine, no_range, read_entries, read_tree, result_of, wrong_byte}
use Rattle.result_laws.proofs.TextRead.{right-read, wrong-read}
use Rattle.result_reader.specs.declared.build.Building.{Building}
use Rattle.result_reader.specs.declared.read.ReadResult.{ReadResult}
use Rattle.result_reader.specs.Built.{columns_among, numbers_from, plain_lines, taken, with_cites, IsBuilt}
use Rattle.result_reader.specs.Read.{AreEntries, CitesFit, FailsIn, IsAgain, IsFirstLine, IsTree, cuts_from, given}
use Rattle.result_reader.specs.Read.{numbers_in}
use Rattle.result_reader.specs.Read.{with_lines}
use Rattle.result_reader.proofs.Gathered.{lines-cert, entries-numbers, entries-counted}

-- ---- where reading fails

wrong-within : (at : ℕ) (bytes : List ℕ) (n : ℕ) → wrong_byte at bytes ≡ Some n → n ≤ at + length bytes
wrong-within at [] n e = absurd cc
wrong-within at (b ∷ bytes) n e = go ((nat_lt b 32 || nat_lt 126 b) && not (b == 10)) e (wrong-within (at + 1) bytes n)
  where
    go : (t : Bool) → cond t (Some at) (wrong_byte (at + 1) bytes) ≡ Some n
        → (wrong_byte (at + 1) bytes ≡ Some n → n ≤ at + 1 + length bytes) → n ≤ at + length (b ∷ bytes)
    go true e later = let k : at ≡ n = cc in omega arith
    go false e later = let k = later e in omega arith

-- at a byte that no text of a result has
pub wrong-fails : (text : List ℕ) (n : ℕ) → wrong_byte 0 text ≡ Some n
    → (result_of text ≡ Err (record { at = n; rule = 1 })) × (n ≤ length text)
wrong-fails text n e = (wrong-read text n e, let k = wrong-within 0 text n e in omega arith)

-- in the first line
pub first-fails : (text : List ℕ) (f : Fault) → wrong_byte 0 text ≡ None → IsFirstLine text (Err f)
    → (result_of text ≡ Err f) × (f.at ≤ length text)
first-fails text f right is = (right-read text right ∙ is.0, is.1)

fails-too : (len : ℕ) (e : ReadError Fault) (x y : Result GivenResult Fault) → x ≡ y → FailsIn len e y → FailsIn len e x
fails-too len e x y same fails = subst (FailsIn len e) (sym same) fails

-- in the tree
pub tree-fails : (text : List ℕ) (second : Bool) (at : ℕ) (e : ReadError Fault) → wrong_byte 0 text ≡ None
    → IsFirstLine text (Ok (second, at)) → IsTree text at (Err e) → FailsIn (length text) e (result_of text)
tree-fails text second at e right first is =
    fails-too (length text) e (result_of text) (read_tree second (length text) [] (cuts_from text at))
    (right-read text right ∙ first.0) (is second)

-- after `cert`
pub entries-fail : (text : List ℕ) (second : Bool) (at after : ℕ) (tree : List (List ℕ)) (e : ReadError Fault)
    → wrong_byte 0 text ≡ None → IsFirstLine text (Ok (second, at)) → IsTree text at (Ok (tree, after))
    → AreEntries text second after tree (Err e) → FailsIn (length text) e (result_of text)
entries-fail text second at after tree e right first is fails =
    fails-too (length text) e (result_of text) (read_entries second (length text) tree no_range [] (cuts_from text after))
    (right-read text right ∙ first.0 ∙ is second) fails

-- ---- what is read

pub second-is : (second : Bool) (v : ℕ) → v ≡ cond second 2 1 → (v == 2) ≡ second
second-is false v e = rw e refl
second-is true v e = rw e refl

pub version-is : (second : Bool) (v : ℕ) → v ≡ cond second 2 1 → (v ≡ 1) ⊎ (v ≡ 2)
version-is false v e = inl e
version-is true v e = inr e

pub whole : (text : List ℕ) (second : Bool) (at after : ℕ) (tree : List (List ℕ)) (b : Building) (r : ReadResult)
    → wrong_byte 0 text ≡ None → IsFirstLine text (Ok (second, at)) → IsTree text at (Ok (tree, after))
    → AreEntries text second after tree (Ok b) → r.version ≡ cond second 2 1 → r.tree ≡ tree
    → plain_lines r.cert.entries ≡ taken b → r.cert.cites ≡ b.cites → result_of text ≡ Ok (given r)
whole text second at after tree b r right first is entries version same lines cites =
    right-read text right ∙ first.0 ∙ is second ∙ entries
    ∙ ap (λ (cs : List Cites). Ok (with_lines second tree (with_cites cs (taken b)))) (sym cites)
    ∙ ap (λ (ls : List CertLine). Ok (with_lines second tree (with_cites r.cert.cites ls))) (sym lines)
    ∙ ap (λ (g : GivenResult). Ok g) (lines-cert second tree r.cert.cites r.cert.entries)
    ∙ ap (λ (t : List (List ℕ)). Ok (with_cert second t r.cert)) (sym same)
    ∙ ap (λ (t : Bool). Ok (with_cert t r.tree r.cert)) (sym (second-is second r.version version))

-- the sizes are those of its format
pub cites-fit : (second : Bool) (v n : ℕ) (b : Building) (c : Cert) → v ≡ cond second 2 1 → IsBuilt second n b
    → plain_lines c.entries ≡ taken b → c.cites ≡ b.cites → CitesFit v c
cites-fit false v n b c e built lines cites = (λ one. cites ∙ built.cites, λ two. absurd (omega arith))
cites-fit true v n b c e built lines cites = (
  λ one. absurd (omega arith),
  λ two. ap (λ (cs : List Cites). length cs) cites ∙ built.cites ∙ ap columns_among (sym lines)
      ∙ entries-counted c.entries,
)

-- the numbers of its lines
pub numbers-are : (second : Bool) (b : Building) (r : ReadResult) (tree : List (List ℕ)) → IsBuilt second (3 + length tree) b
    → r.tree ≡ tree → plain_lines r.cert.entries ≡ taken b → r.lines ≡ b.numbers → r.lines ≡ numbers_in (given r).entries
numbers-are second b r tree built same lines numbers =
    numbers ∙ built.numbers ∙ ap (numbers_from (3 + length tree)) (sym lines)
    ∙ ap (λ (t : List (List ℕ)). numbers_from (3 + length t) (plain_lines r.cert.entries)) (sym same)
    ∙ entries-numbers (3 + length r.tree) r.cert.cites r.cert.entries

-- ---- a certificate is read again

ok-same : (r s : GivenResult) → ◌≡◌ {A = Result GivenResult Fault} (Ok r) (Ok s) → r ≡ s
ok-same r s e = cc

pub read-again : (text : List ℕ) (r : ReadResult) → result_of text ≡ Ok (given r) → CitesFit r.version r.cert
    → (tree : List (List ℕ)) (c : Cert) → CanBeRead c → All IsTreeText tree → text ≡ result_text tree c → IsAgain tree c r
read-again text r read fits tree c can a is =
    let same = ok-same (given r) (with_cert true tree c) (sym read ∙ ap result_of is ∙ certs.read tree c can a) in
    let two : (r.version == 2) ≡ true = ap (λ (g : GivenResult). g.cites) same in
    let v : r.version ≡ 2 = grind (arith, nat_tests) in
    let k = certs.alone tree r.tree c r.cert can.each (fits.1 v)
    (sym same ∙ ap (λ (t : Bool). with_cert t r.tree r.cert) two) in
    record { version = v; tree_is = sym k.0; cert_is = sym k.1 }
