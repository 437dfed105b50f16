use Rattle.std.proofs.lemmas.Str.{chars-nil}
use Rattle.text_cursor.proofs.PlaceLemmas.{places_none}
use Rattle.text_cursor.proofs.cursor.Cursor.nothing.Goals as goal

pub returns : goal.returns
returns c = places_none _ 0 chars-nil
