-- How many rows, stacks and flows a content has.
use Rattle.std.proofs.Common.{◌≡◌, suc, ◌+◌, Bool, ◌++◌, length, arith, length-append}
use Rattle.box_data.specs.Content.{Holder, stack, row, Content, done, opens, closes, leaf, holds, spanner}
use Rattle.box_data.specs.DocumentFlows.{Begun, next_flow, begun_in, past, is_stack, row_of, rows_from, stack_of, stacks_from}
use Rattle.box_data.specs.DocumentFlows.{flows_from}

pub one_row : (n : Begun) (in_stack : Bool) (h : Holder) → length (row_of n in_stack h) + n.rows ≡ (begun_in n h).rows
one_row n in_stack (stack p) = omega arith
one_row n in_stack (row p x is_last opened) = omega arith

pub one_stack : (n : Begun) (h : Holder) → length (stack_of n h) + n.stacks ≡ (begun_in n h).stacks
one_stack n (stack p) = omega arith
one_stack n (row p x is_last opened) = omega arith

pub one_flow : (n : Begun) (h : Holder) → suc (next_flow n) ≡ next_flow (begun_in n h)
one_flow n (stack p) = omega arith
one_flow n (row p x is_last opened) = omega arith

pub rows_length : (n : Begun) (in_stack : Bool) (r : Content) → length (rows_from n in_stack r) + n.rows ≡ (past n r).rows
rows_length n in_stack done = omega arith
rows_length n in_stack (opens p next) = rows_length n in_stack next
rows_length n in_stack (closes p next) = rows_length n in_stack next
rows_length n in_stack (leaf l next) = rows_length n in_stack next
rows_length n in_stack (holds h inside next) =
    let m = begun_in n h in
    let one = one_row n in_stack h in
    let within = rows_length m (is_stack h) inside in
    let behind = rows_length (past m inside) in_stack next in
    let two = length-append (row_of n in_stack h) (rows_from m (is_stack h) inside) in
    let three = length-append (row_of n in_stack h ++ rows_from m (is_stack h) inside) (rows_from
    (past m inside) in_stack next) in
    omega (arith, one, within, behind, two, three)
rows_length n in_stack (spanner inside next) = rows_length n in_stack next

pub stacks_length : (n : Begun) (r : Content) → length (stacks_from n r) + n.stacks ≡ (past n r).stacks
stacks_length n done = omega arith
stacks_length n (opens p next) = stacks_length n next
stacks_length n (closes p next) = stacks_length n next
stacks_length n (leaf l next) = stacks_length n next
stacks_length n (holds h inside next) =
    let m = begun_in n h in
    let one = one_stack n h in
    let within = stacks_length m inside in
    let behind = stacks_length (past m inside) next in
    let two = length-append (stack_of n h) (stacks_from m inside) in
    let three = length-append (stack_of n h ++ stacks_from m inside) (stacks_from (past m inside) next) in
    omega (arith, one, within, behind, two, three)
stacks_length n (spanner inside next) = stacks_length n next

pub flows_length : (n : Begun) (r : Content) → length (flows_from n r) + next_flow n ≡ next_flow (past n r)
flows_length n done = omega arith
flows_length n (opens p next) = flows_length n next
flows_length n (closes p next) = flows_length n next
flows_length n (leaf l next) = flows_length n next
flows_length n (holds h inside next) =
    let m = begun_in n h in
    let one = one_flow n h in
    let within = flows_length m inside in
    let behind = flows_length (past m inside) next in
    let two = length-append (flows_from m inside) (flows_from (past m inside) next) in
    omega (arith, one, within, behind, two)
flows_length n (spanner inside next) = flows_length n next
