use Rattle.std.proofs.Common.{arith}
use Rattle.std.specs.Char.{is_ascii_digit}
use Rattle.std.proofs.lemmas.List.Sums.{prefix_len-le-length}
use Rattle.flow_text.proofs.NumberLemmas.{all_digits_front}
use Rattle.mc_draw.proofs.number.number.Goals as goal

pub split_at-requires : goal.split_at-requires
split_at-requires c = omega (arith, prefix_len-le-length is_ascii_digit c.args.bytes.now)

pub value_of-requires-clause-all : goal.value_of-requires-clause-all
value_of-requires-clause-all c = rw (c.split_at.ensures.front, c.count_digits.ensures) (all_digits_front c.args.bytes.now)
