-- The sizes that a search for a cut piece enters in the book, from range to range.
use Rattle.std.proofs.Common.{◌≡◌, ℕ, true, List, [], ◌∷◌, ◌++◌, refl, sym, ◌∙◌, ap}
use Rattle.std.specs.List.{flat_map}
use Rattle.std.proofs.lemmas.List.{flat_map_more}
use Rattle.std.proofs.lemmas.List.Elements.{All-nil}
use Rattle.flow_data.specs.declared.data.FlowsData.{FlowsData}
use Rattle.flow_list.specs.Book.{after_uses}
use Rattle.flow_list.specs.Certificate.{Use, stands_in}
use Rattle.flow_list.specs.Tokens.{Token}
use Rattle.range_laws.specs.Entering.{UsesEnter}
use Rattle.piece_data.specs.LeastPiece.{cut_piece, least_height, unfit_ranges}
use Rattle.piece_finder.specs.Telling.{told_range, told_ranges}
use Rattle.piece_finder.specs.Using.{made_uses, piece_uses, range_uses, searched_uses}
use Rattle.piece_finder.specs.declared.reasons.PieceRange.{PieceRange}
use Rattle.piece_finder.proofs.Progress.{told-more}

pub none-used : (d : FlowsData) → UsesEnter d → (r : ℕ) (q : Token) (book : List Use) (xs : List PieceRange) → xs ≡ [] →
    book ≡ after_uses d book (flat_map (range_uses d r q) (told_ranges xs))
none-used d law r q book xs none =
    sym (ap (λ ys. after_uses d book (flat_map (range_uses d r q) (told_ranges ys))) none
    ∙ law.none_new book [] (All-nil (λ u. stands_in book u ≡ true)))

-- one more range
pub more-used : (d : FlowsData) → UsesEnter d → (r : ℕ) (q : Token) (low : ℕ) (old now new : List Use) (xs ys : List PieceRange)
    (x : PieceRange) → now ≡ after_uses d old (flat_map (range_uses d r q) (told_ranges xs)) →
    new ≡ after_uses d now (made_uses d r q low) → x.lo ≡ low → ys ≡ xs ++ x ∷ [] →
    new ≡ after_uses d old (flat_map (range_uses d r q) (told_ranges ys))
more-used d law r q low old now new xs ys x before one low_is more =
    let f = range_uses d r q in
    one ∙ ap (λ b. after_uses d b (made_uses d r q low)) before
    ∙ law.one_list old (flat_map f (told_ranges xs)) (made_uses d r q low)
    ∙ ap (λ h. after_uses d old (flat_map f (told_ranges xs) ++ made_uses d r q h)) (sym low_is)
    ∙ ap (after_uses d old) (flat_map_more f [] (told_ranges xs) (told_range x))
    ∙ ap (λ zs. after_uses d old (flat_map f zs)) (sym (told-more xs x))
    ∙ ap (λ zs. after_uses d old (flat_map f (told_ranges zs))) (sym more)

-- and the columns of the height that will do
pub last-used : (d : FlowsData) → UsesEnter d → (r : ℕ) (q : Token) (low : ℕ) (old now new : List Use) (xs : List PieceRange) →
    now ≡ after_uses d old (flat_map (range_uses d r q) (told_ranges xs)) → new ≡ after_uses d now (made_uses d r q low) →
    new ≡ after_uses d old (searched_uses d r q (told_ranges xs) low)
last-used d law r q low old now new xs before one =
    one ∙ ap (λ b. after_uses d b (made_uses d r q low)) before
    ∙ law.one_list old (flat_map (range_uses d r q) (told_ranges xs)) (made_uses d r q low)

-- a search after the columns at the piece's own height
pub all-used : (d : FlowsData) → UsesEnter d → (r : ℕ) (q : Token) (a least : ℕ) (old now new : List Use)
    (xs : List PieceRange) → now ≡ after_uses d old (made_uses d r q a) →
    new ≡ after_uses d now (searched_uses d r q (told_ranges xs) least) → told_ranges xs ≡ unfit_ranges d r q a →
    least ≡ least_height d r q a → new ≡ after_uses d old (piece_uses d r q a)
unfolding piece_uses
all-used d law r q a least old now new xs before one ranges height =
    one ∙ ap (λ b. after_uses d b (searched_uses d r q (told_ranges xs) least)) before
    ∙ law.one_list old (made_uses d r q a) (searched_uses d r q (told_ranges xs) least)
    ∙ ap (λ ys. after_uses d old (made_uses d r q a ++ searched_uses d r q ys least)) ranges
    ∙ ap (λ h. after_uses d old (made_uses d r q a ++ searched_uses d r q (unfit_ranges d r q a) h)) height

-- a piece that overflows: its own columns enter nothing new the second time
pub kept-used : (d : FlowsData) → UsesEnter d → (r : ℕ) (q : Token) (a : ℕ) (old new : List Use) →
    (cut_piece d r q a).overflow ≡ true → new ≡ after_uses d old (made_uses d r q a) →
    new ≡ after_uses d old (piece_uses d r q a)
unfolding piece_uses least_height unfit_ranges
kept-used d law r q a old new over one =
    let us = made_uses d r q a in
    let twice : after_uses d (after_uses d old us) us ≡ after_uses d old us =
    law.none_new (after_uses d old us) us (law.stand old us) in
    let height : least_height d r q a ≡ a = rw over refl in
    let ranges : unfit_ranges d r q a ≡ [] = rw over refl in
    one ∙ sym twice ∙ law.one_list old us us
    ∙ ap (λ h. after_uses d old (us ++ made_uses d r q h)) (sym height)
    ∙ ap (λ ys. after_uses d old (us ++ searched_uses d r q ys (least_height d r q a))) (sym ranges)
