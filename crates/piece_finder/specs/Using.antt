-- The sizes that a cut piece uses, in the order in which they are entered (this project's own).
use Rattle.std.specs.Prelude.{ℕ, List, ◌++◌}
use Rattle.std.specs.List.{flat_map}
use Rattle.flow_data.specs.declared.data.FlowsData.{FlowsData}
use Rattle.flow_list.specs.Certificate.{Use}
use Rattle.flow_list.specs.Rows.{all_rows}
use Rattle.flow_list.specs.Tokens.{Token}
use Rattle.piece_data.specs.LeastPiece.{UnfitRange, least_height, unfit_ranges}

-- those of what row r makes of a height from a place on
abbrev pub made_uses : FlowsData → (r : ℕ) → (q : Token) → (h : ℕ) → List Use
made_uses d r q h = ((all_rows d).fill r q h).uses

-- those of the columns at the height where a range begins
abbrev pub range_uses : FlowsData → (r : ℕ) → (q : Token) → UnfitRange → List Use
range_uses d r q x = made_uses d r q x.low

-- those of the columns where each of these ranges begins, and then of the columns at the height that will do
abbrev pub searched_uses : FlowsData → (r : ℕ) → (q : Token) → List UnfitRange → (h : ℕ) → List Use
searched_uses d r q xs h = flat_map (range_uses d r q) xs ++ made_uses d r q h

-- Those of a piece that is cut at height a: of its columns there, of those where its ranges begin, and of those at its least
-- height.
unfoldable pub piece_uses : FlowsData → (r : ℕ) → (q : Token) → (a : ℕ) → List Use
piece_uses d r q a = made_uses d r q a ++ searched_uses d r q (unfit_ranges d r q a) (least_height d r q a)
