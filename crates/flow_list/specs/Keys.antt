-- What is hashed of a place: its numbers (this project's own).
use Rattle.std.specs.Prelude.{ℕ, List, [], ◌++◌, unwrap_or}
use Rattle.std.specs.Hash as fed
use Rattle.mc_base.specs.Places.{item_number, place_within}
use Rattle.flow_list.specs.Tokens.{Token}

-- the item within the item of a place, and the one within that, 0 where it has none
abbrev pub inner_item : Token → ℕ
inner_item q = item_number (unwrap_or (place_within q) [])

abbrev pub innermost_item : Token → ℕ
innermost_item q = inner_item (unwrap_or (place_within q) [])

abbrev pub token_fed : Token → List (List ℕ)
token_fed q = fed.u32 (item_number q) ++ fed.u32 (inner_item q) ++ fed.u32 (innermost_item q)
