-- What is read in the text of a result (this project's own).
use Rattle.std.specs.Prelude.{◌≡◌, ◌==◌, ℕ, ◌+◌, ◌<◌, ◌≤◌, Bool, List, [], ◌∷◌, length, drop, take, map}
use Rattle.std.specs.Prelude.{count_by, Result, Ok, Err}
use Rattle.std.specs.List.{flat_map}
use Rattle.mc_base.specs.declared.read_error.Fault.{Fault}
use Rattle.mc_base.specs.declared.read_error.ReadError.{ReadError}
use Rattle.mc_base.specs.declared.read_error.ReadError.TheVariants as errors
use Rattle.flow_text.specs.Text.{Cut, cuts}
use Rattle.height_cert.specs.Certs.{with_cert}
use Rattle.height_cert.specs.Laws.{HasAllCites}
use Rattle.height_cert.specs.declared.cert.Cert.{Cert}
use Rattle.result_laws.specs.Given.{GivenRange, GivenEntry, GivenResult}
use Rattle.result_laws.specs.Reading.{CertLine, no_range, gathered, read_first, read_tree, read_entries, result_of}
use Rattle.result_reader.specs.Built.{lines_taken}
use Rattle.result_reader.specs.declared.build.Building.{Building}
use Rattle.result_reader.specs.declared.read.BadResult.{BadResult}
use Rattle.result_reader.specs.declared.read.BadResult.TheVariants as bad
use Rattle.result_reader.specs.declared.read.ReadResult.{ReadResult}

-- the result that was read, as the definitions have it
abbrev pub given : ReadResult → GivenResult
given r = with_cert (r.version == 2) r.tree r.cert

-- the numbers of the lines of these entries and their ranges, in order
abbrev pub numbers_in : List GivenEntry → List ℕ
numbers_in es = flat_map (λ (e : GivenEntry). e.at ∷ map (λ (x : GivenRange). x.at) e.ranges) es

-- A result of the first format cites no sizes, one of the second has a list of sizes for each column line.
abbrev pub CitesFit : ℕ → Cert → Type 0
CitesFit version c = (version ≡ 1 → c.cites ≡ []) × (version ≡ 2 → HasAllCites c)

-- the number of the line at an offset, from 1
abbrev pub line_at : List ℕ → ℕ → ℕ
line_at text at = 1 + count_by (λ b. b == 10) (take at text)

-- Out of memory, or the fault that is told of the text, with its line.
abbrev pub IsBad : List ℕ → BadResult → Type 0
IsBad text bad.NoMemory = Unit {0}
IsBad text (bad.BadLine line offset rule) =
    (result_of text ≡ Err (record { at = offset; rule = rule.number })) × (rule.letter ≡ 114) × (line ≡ line_at text offset)

-- the line at an offset, and the lines after it
abbrev pub cut_of : ℕ → List ℕ → Bool → Cut
cut_of at text ended = record { at = at; text = text; ended = ended }

abbrev pub cuts_from : List ℕ → ℕ → List Cut
cuts_from text at = cuts at (drop at text)

-- ---- the steps of reading

-- a call fails with what reading gives, within the text
abbrev pub FailsIn : {A : Type 0} → (len : ℕ) → ReadError Fault → Result A Fault → Type 0
FailsIn len errors.Memory read = Unit {0}
FailsIn len (errors.Fault f) read = (read ≡ Err f) × (f.at ≤ len)

-- the result with these lines after `cert`
abbrev pub with_lines : Bool → List (List ℕ) → List CertLine → GivenResult
with_lines cites tree lines = record {
  cites = cites;
  tree = tree;
  cert_at = 2 + length tree;
  entries = (gathered (3 + length tree) lines).entries;
  end_at = 3 + length tree + length lines;
}

abbrev pub IsFirstLine : List ℕ → Result (Bool × ℕ) Fault → Type 0
IsFirstLine text (Ok r) = (read_first (length text) (cuts_from text 0) ≡ read_tree r.0 (length text) [] (cuts_from text r.1))
    × (0 < r.1) × (r.1 ≤ length text + 1)
IsFirstLine text (Err f) = (read_first (length text) (cuts_from text 0) ≡ Err f) × (f.at ≤ length text)

abbrev pub IsTree : List ℕ → ℕ → Result (List (List ℕ) × ℕ) (ReadError Fault) → Type 0
IsTree text at (Ok r) = (cites : Bool) → read_tree cites (length text) [] (cuts_from text at)
    ≡ read_entries cites (length text) r.0 no_range [] (cuts_from text r.1)
IsTree text at (Err e) = (cites : Bool) → FailsIn (length text) e (read_tree cites (length text) [] (cuts_from text at))

abbrev pub AreEntries : List ℕ → Bool → ℕ → List (List ℕ) → Result Building (ReadError Fault) → Type 0
AreEntries text cites at tree (Ok b) = read_entries cites (length text) tree no_range [] (cuts_from text at)
    ≡ Ok (with_lines cites tree (lines_taken b))
AreEntries text cites at tree (Err e) =
    FailsIn (length text) e (read_entries cites (length text) tree no_range [] (cuts_from text at))

-- what was built is read, where nothing follows
abbrev pub IsLast : List ℕ → ℕ → Building → Result Building (ReadError Fault) → Type 0
IsLast text next b (Ok r) = (r ≡ b) × (cuts_from text next ≡ [])
IsLast text next b (Err errors.Memory) = ⊥
IsLast text next b (Err (errors.Fault f)) = (cuts : List Cut) × (c : Cut) × (cuts_from text next ≡ c ∷ cuts) × (c.at ≡ f.at)
    × (f.rule ≡ 5) × (f.at ≤ length text)

abbrev pub IsRead : List ℕ → Result ReadResult (ReadError Fault) → Type 0
IsRead text (Ok r) = result_of text ≡ Ok (given r)
IsRead text (Err e) = FailsIn (length text) e (result_of text)

-- the certificate of a text, read again
pub record IsAgain (tree : List (List ℕ)) (c : Cert) (r : ReadResult) : Type 0 where
  pub version : r.version ≡ 2
  pub tree_is : r.tree ≡ tree
  pub cert_is : r.cert ≡ c
