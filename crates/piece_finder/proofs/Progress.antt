-- How a search for the least height of a piece goes on from range to range.
use Rattle.std.proofs.Common.{◌≡◌, ℕ, ◌≤◌, true, List, [], ◌∷◌, ◌++◌, refl, sym, ◌∙◌, ap, arith, None, append_assoc}
use Rattle.std.proofs.lemmas.List.{append-nil}
use Rattle.flow_data.specs.declared.data.FlowsData.{FlowsData}
use Rattle.flow_list.specs.Tokens.{Token}
use Rattle.mc_base.specs.declared.fragment.FragId.{FragId}
use Rattle.piece_data.specs.Holding.{SearchGoesOn, RangeBegins, ranges_from, range_end}
use Rattle.piece_data.specs.LeastPiece.{unfit, cut_piece, least_height, unfit_ranges}
use Rattle.piece_data.proofs.Pieces.{piece-holds}
use Rattle.piece_finder.specs.Finding.{IsFound}
use Rattle.piece_finder.specs.Telling.{told_range, told_ranges, told_reason}
use Rattle.piece_finder.specs.Trying.{IsRejected}
use Rattle.piece_finder.specs.declared.reasons.PieceRange.{PieceRange}

-- the ranges so far and those from here on are all of them, and the least height isn't below
pub record Searching (d : FlowsData) (r : ℕ) (q : Token) (a low : ℕ) (xs : List PieceRange) : Type 0 where
  pub within : low ≤ least_height d r q a
  pub so_far : told_ranges xs ++ ranges_from d r q a low ≡ unfit_ranges d r q a

pub told-more : (xs : List PieceRange) (x : PieceRange) → told_ranges (xs ++ x ∷ []) ≡ told_ranges xs ++ told_range x ∷ []
told-more [] x = refl
told-more (y ∷ xs) x = ap (λ ys. told_range y ∷ ys) (told-more xs x)

pub low-rises : (d : FlowsData) (r : ℕ) (q : Token) (a low : ℕ) (xs : List PieceRange) (x : PieceRange) → SearchGoesOn d r q a →
    Searching d r q a low xs → IsRejected d r q a low x → RangeBegins d r q a low (told_reason x.reason)
low-rises d r q a low xs x law now is = law.rejected low (told_reason x.reason) now.within is.why

pub start-at : (d : FlowsData) (r : ℕ) (q : Token) (a : ℕ) → SearchGoesOn d r q a → Searching d r q a 0 []
start-at d r q a law = record { within = omega arith; so_far = law.all }

pub next-at : (d : FlowsData) (r : ℕ) (q : Token) (a low high : ℕ) (xs ys : List PieceRange) (x : PieceRange) →
    SearchGoesOn d r q a → Searching d r q a low xs → IsRejected d r q a low x → high ≡ x.hi → ys ≡ xs ++ x ∷ [] →
    Searching d r q a high ys
next-at d r q a low high xs ys x law now is at more =
    let begins = low-rises d r q a low xs x law now is in
    let end : high ≡ range_end d r q a low = at ∙ is.high_is in
    let one : told_range x ≡ record { low = low; high = range_end d r q a low; reason = told_reason x.reason } =
    cc (is.low_is, is.high_is) in
    record {
      within = let le = begins.no_higher in omega arith;
      so_far = ap (λ zs. told_ranges zs ++ ranges_from d r q a high) more
          ∙ ap (λ zs. zs ++ ranges_from d r q a high) (told-more xs x)
          ∙ append_assoc (told_ranges xs) (told_range x ∷ []) (ranges_from d r q a high)
          ∙ ap (λ z. told_ranges xs ++ z ∷ ranges_from d r q a high) one
          ∙ ap (λ h. told_ranges xs ++ record { low = low; high = range_end d r q a low; reason = told_reason x.reason }
          ∷ ranges_from d r q a h) end
          ∙ ap (λ zs. told_ranges xs ++ zs) (sym begins.first)
          ∙ now.so_far;
    }

all-told : (d : FlowsData) (r : ℕ) (q : Token) (a low : ℕ) (xs : List PieceRange) → SearchGoesOn d r q a →
    Searching d r q a low xs → low ≡ least_height d r q a → told_ranges xs ≡ unfit_ranges d r q a
all-told d r q a low xs law now is =
    sym (append-nil (told_ranges xs))
    ∙ ap (λ zs. told_ranges xs ++ zs) (sym law.none_left)
    ∙ ap (λ h. told_ranges xs ++ ranges_from d r q a h) (sym is)
    ∙ now.so_far

pub found-at : (d : FlowsData) (r : ℕ) (q : Token) (a low : ℕ) (xs : List PieceRange) (frag : FragId) → SearchGoesOn d r q a →
    Searching d r q a low xs → unfit (cut_piece d r q a) (cut_piece d r q low) ≡ None →
    IsFound d r q a (record { height = low; ranges = xs; frag = frag })
found-at d r q a low xs frag law now none =
    let is = law.found low now.within none in
    record { height = is; reasons = all-told d r q a low xs law now is }

pub passed-at : (d : FlowsData) (r : ℕ) (q : Token) (a low : ℕ) (xs : List PieceRange) (frag : FragId) → SearchGoesOn d r q a →
    Searching d r q a low xs → a ≤ low → IsFound d r q a (record { height = a; ranges = xs; frag = frag })
passed-at d r q a low xs frag law now past =
    let le = (piece-holds d r q a).no_higher in
    let here = now.within in
    let is : low ≡ least_height d r q a = omega arith in
    record { height = omega arith; reasons = all-told d r q a low xs law now is }

-- a piece that overflows keeps its height, and has no ranges
pub kept-at : (d : FlowsData) (r : ℕ) (q : Token) (a : ℕ) (xs : List PieceRange) (frag : FragId) →
    (cut_piece d r q a).overflow ≡ true → xs ≡ [] → IsFound d r q a (record { height = a; ranges = xs; frag = frag })
unfolding least_height unfit_ranges
kept-at d r q a xs frag over none = record { height = rw over refl; reasons = ap told_ranges none ∙ (rw over refl) }
