-- Which certificates are read again as themselves (this project's own).
use Rattle.std.specs.Prelude.{◌≡◌, true, false, ℕ, ◌+◌, List, [], ◌∷◌, length, All, IfSome, Ok}
use Rattle.flow_text.specs.Numbers.{IsNumber}
use Rattle.flow_list.specs.Column.{ColumnLine}
use Rattle.flow_list.specs.Ranges.{Range}
use Rattle.height_cert.specs.declared.cert.Cites.{Cites}
use Rattle.height_cert.specs.declared.cert.CertEntry.{CertEntry}
use Rattle.height_cert.specs.declared.cert.Cert.{Cert}
use Rattle.height_cert.specs.Certs.{head_of, ranges_in, column_count, with_cert, result_text}
use Rattle.result_laws.specs.Given.{IsSmall, IsToken, IsHeadLine, IsReasonLine, IsTreeText}
use Rattle.result_laws.specs.Clauses.{tells}
use Rattle.result_laws.specs.Reading.{result_of}

abbrev pub IsFitLine : ColumnLine → Type 0
IsFitLine line = IsSmall line.depth × IfSome line.end IsToken × IfSome line.stop IsSmall

-- a range of the forms, with column lines only where its reason speaks of columns
abbrev pub IsFitRange : Range → Type 0
IsFitRange x = IsNumber x.low × IsNumber x.high × IsReasonLine x.reason × All IsFitLine x.lines
    × (tells x.reason ≡ false → x.lines ≡ [])

abbrev pub IsFitEntry : CertEntry → Type 0
IsFitEntry e = IsHeadLine (head_of e) × All IsFitRange (ranges_in e)

abbrev pub IsFitCites : Cites → Type 0
IsFitCites c = All IsNumber c.sizes

-- how many column lines these entries have
abbrev pub columns_count : List CertEntry → ℕ
columns_count [] = 0
columns_count (e ∷ es) = column_count (ranges_in e) + columns_count es

-- each column line has its list of sizes, and there is no further list
abbrev pub HasAllCites : Cert → Type 0
HasAllCites c = length c.cites ≡ columns_count c.entries

-- a certificate of the forms, with a list of sizes for each column line
pub record CanBeRead (c : Cert) : Type 0 where
  pub entries : All IsFitEntry c.entries
  pub cites : All IsFitCites c.cites
  pub each : HasAllCites c

-- The law: the text with a certificate's lines is read as the result with that certificate, and no other certificate is such.
pub record ReadAgain (tree : List (List ℕ)) (c : Cert) : Type 0 where
  pub read : CanBeRead c → All IsTreeText tree → result_of (result_text tree c) ≡ Ok (with_cert true tree c)
  pub alone : (other : List (List ℕ)) (d : Cert) → HasAllCites c → HasAllCites d → with_cert true tree c ≡ with_cert true other d
      → (tree ≡ other) × (c ≡ d)
