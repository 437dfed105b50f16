-- What a height that is tried for a cut piece tells (this project's own).
use Rattle.std.specs.Prelude.{◌≡◌, ℕ, Some, None}
use Rattle.flow_data.specs.declared.data.FlowsData.{FlowsData}
use Rattle.flow_list.specs.Tokens.{Token}
use Rattle.mc_base.specs.declared.fragment.FragId.{FragId}
use Rattle.piece_data.specs.Holding.{range_end}
use Rattle.piece_data.specs.LeastPiece.{unfit, cut_piece}
use Rattle.piece_finder.specs.Telling.{told_reason}
use Rattle.piece_finder.specs.declared.reasons.PieceRange.{PieceRange}
use Rattle.piece_finder.specs.declared.trying.Trial.{Trial}
use Rattle.piece_finder.specs.declared.trying.Trial.TheVariants.{Found, Rejected}

-- the range that begins at a height, with the reason of its columns
pub record IsRejected (d : FlowsData) (r : ℕ) (q : Token) (a low : ℕ) (x : PieceRange) : Type 0 where
  pub low_is : x.lo ≡ low
  pub high_is : x.hi ≡ range_end d r q a low
  pub why : unfit (cut_piece d r q a) (cut_piece d r q low) ≡ Some (told_reason x.reason)

-- a height will do, or is rejected with the range that begins there
abbrev pub IsTrial : FlowsData → (r : ℕ) → (q : Token) → (a low : ℕ) → Trial → Type 0
IsTrial d r q a low (Found frag) = unfit (cut_piece d r q a) (cut_piece d r q low) ≡ None
IsTrial d r q a low (Rejected x) = IsRejected d r q a low x

-- a fact of the fragment where the height will do, and a fact where it is rejected
abbrev pub IfFound : Trial → (FragId → Type 0) → Type 0
IfFound (Found frag) P = P frag
IfFound (Rejected x) P = Unit {0}

abbrev pub IfRejected : Trial → Type 0 → Type 0
IfRejected (Found frag) P = Unit {0}
IfRejected (Rejected x) P = P
