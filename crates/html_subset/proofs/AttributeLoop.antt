-- Reading attributes one after the other, as a loop does.
use Rattle.std.proofs.Common.{◌≡◌, ℕ, suc, ◌+◌, ◌-◌, ◌≤◌, ◌<◌, List, Some, None, Result, Ok, Err, refl, sym, ◌∙◌, arith}
use Rattle.html_grammar.specs.declared.place.Place.{Place}
use Rattle.mc_base.specs.declared.read_error.Fault.{Fault}
use Rattle.html_grammar.specs.declared.token.ReadAttribute.{ReadAttribute}
use Rattle.html_grammar.specs.declared.token.ReadAttributes.{ReadAttributes}
use Rattle.html_grammar.specs.Lexing.{piece_at, attributes_from, with_attribute}
use Rattle.mc_base.specs.declared.read_error.ReadError.{ReadError}
use Rattle.mc_base.specs.declared.read_error.ReadError.TheVariants as errors
use Rattle.mc_base.specs.Reading.{fault}
use Rattle.html_subset.specs.Gives.{Fails}

abbrev Read : Type 0
Read = Result (ReadAttributes × List Place) Fault

pub attributes_go : (n i tag : ℕ) (x y : ReadAttributes) (ps after : List Place) (a : ReadAttribute) (total : Read) → i < n
    → piece_at n tag ps ≡ Ok (Some a, after) → y ≡ with_attribute x a → attributes_from (n - i) n tag x ps ≡ total
    → attributes_from (n - (i + 1)) n tag y after ≡ total
unfolding attributes_from
attributes_go n i tag x y ps after a total lt h grown so_far =
    let k : n - i ≡ suc (n - (i + 1)) = omega arith in
    let one : attributes_from (n - i) n tag x ps ≡ attributes_from (n - (i + 1)) n tag (with_attribute x a) after =
    rw (k, h) refl in
    rw grown (sym one ∙ so_far)

pub attributes_fail : (e : ReadError Fault) (n i tag : ℕ) (x : ReadAttributes) (ps : List Place) (total : Read) → i < n
    → Fails e (piece_at n tag ps) → attributes_from (n - i) n tag x ps ≡ total → Fails e total
unfolding attributes_from
attributes_fail errors.Memory n i tag x ps total lt h so_far = tt
attributes_fail (errors.Fault f) n i tag x ps total lt h so_far =
    let k : n - i ≡ suc (n - (i + 1)) = omega arith in
    let one : attributes_from (n - i) n tag x ps ≡ Err f = rw (k, h) refl in
    sym so_far ∙ one

pub attributes_end : (n i tag : ℕ) (x : ReadAttributes) (ps after : List Place) (total : Read) → i < n
    → piece_at n tag ps ≡ Ok (None, after) → attributes_from (n - i) n tag x ps ≡ total → total ≡ Ok (x, after)
unfolding attributes_from
attributes_end n i tag x ps after total lt h so_far =
    let k : n - i ≡ suc (n - (i + 1)) = omega arith in
    let one : attributes_from (n - i) n tag x ps ≡ Ok (x, after) = rw (k, h) refl in
    sym so_far ∙ one

pub attributes_out : (n i tag : ℕ) (x : ReadAttributes) (ps : List Place) (total : Read) → n ≤ i
    → attributes_from (n - i) n tag x ps ≡ total → total ≡ fault tag 3
unfolding attributes_from
attributes_out n i tag x ps total le so_far =
    let k : n - i ≡ 0 = omega arith in
    let one : attributes_from (n - i) n tag x ps ≡ fault tag 3 = rw k refl in
    sym so_far ∙ one
