use Rattle.std.proofs.Common.{◌≡◌, sym, rules, arith, get_or, inl, inr}
use Rattle.std.proofs.lemmas.Bool.{cases_lt}
use Rattle.std.proofs.lemmas.List.Sorted.{answers_always}
use Rattle.std.proofs.lemmas.Map.Lookups.{exact_unsigned}
use Rattle.font_table.specs.declared.fonts.Advance.{Advance}
use Rattle.font_table.proofs.Finding.{at_most, searchable, own-at, own-none, equal_is}
use Rattle.font_table.proofs.choice.find.Goals as goal

nowhere : Advance
nowhere = record { ch = 0; amount = 0 }

pub returns-in-Ok-clause-value : goal.returns-in-Ok-clause-value
unfolding nowhere
returns-in-Ok-clause-value c =
    let xs = c.args.advances.now in
    let found = c.in-Ok.ensures.position (λ (a : Advance). a.ch) (answers_always _ _ _ (λ f a r g h. search rules)) in
    let is : (get_or xs c.in-Ok.i nowhere).ch ≡ c.args.ch = exact_unsigned _ _ (found nowhere) in
    sym (own-at 0 xs c.in-Ok.i nowhere c.args.ch c.requires c.in-Ok.ensures.bound is)

pub returns-in-Ok-clause-most : goal.returns-in-Ok-clause-most
unfolding nowhere
returns-in-Ok-clause-most c = at_most 0 c.args.advances.now c.in-Ok.i nowhere c.requires c.in-Ok.ensures.bound

pub returns-in-Err-clause-value : goal.returns-in-Err-clause-value
unfolding nowhere
returns-in-Err-clause-value c =
    let xs = c.args.advances.now in
    let ch = c.args.ch in
    let parted = c.in-Err.ensures.position (λ (a : Advance). a.ch) (answers_always _ _ _ (λ f a r g h. search rules))
    (searchable xs ch c.requires) in
    sym (own-none xs nowhere ch (λ i lt same.
    elim (cases_lt i c.in-Err.field-0) [
      | inl below ↦ let less = parted.0 i nowhere (omega arith) below in let equal = equal_is (get_or xs i nowhere).ch ch same
          in absurd cc
      | inr above ↦ let greater = parted.1 i nowhere above lt in let equal = equal_is (get_or xs i nowhere).ch ch same
          in absurd cc
    ]))
