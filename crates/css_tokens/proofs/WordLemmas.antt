-- Names without regard to case.
use Rattle.std.proofs.Common.{◌≡◌, ℕ, List, Bool}
use Rattle.std.specs.Prelude.{IsTrue, ◌↔◌, map}
use Rattle.std.specs.Char.{to_ascii_lowercase}
use Rattle.std.proofs.lemmas.Slice.Eq.{bytes_eq-Decides}
use Rattle.std.proofs.lemmas.Bool.Decides.{same_from_decides}
use Rattle.css_tokens.specs.Facts.{is_word}

pub word_test : (r : Bool) (name word : List ℕ) → (IsTrue r ↔ (map to_ascii_lowercase name ≡ map to_ascii_lowercase word))
    → r ≡ is_word name word
unfolding is_word
word_test r name word h = same_from_decides r _ (λ t. h.0 t, λ e. h.1 e)
    (bytes_eq-Decides (map to_ascii_lowercase name) (map to_ascii_lowercase word))
