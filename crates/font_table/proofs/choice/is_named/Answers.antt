use Rattle.std.proofs.Common.{◌≡◌, ◌<◌, ℕ, false, List, [], length, drop, refl, sym, ◌∙◌, drop-cons}
use Rattle.std.proofs.lemmas.List.{nil_from_length}
use Rattle.font_table.specs.Choice.{is_named}
use Rattle.font_table.proofs.choice.is_named.Goals as goal

-- a name that ends before the family's name does
ends : (family : List ℕ) (i : ℕ) (rest : List ℕ) → i < length family → rest ≡ [] → is_named (drop i family) rest ≡ false
ends family i rest lt none = rw (drop-cons family i 0, none) refl

pub returns-in-None : goal.returns-in-None
returns-in-None c = sym (ends c.args.family.now c.loop-byte.byte-index c.loop-byte.rest.now c.loop-byte-test.true
    (nil_from_length c.loop-byte.rest.now c.in-None.ensures.cases)) ∙ c.loop-byte.invariant
