-- A sum over columns, rounded up.
use Rattle.std.proofs.Common.{◌≡◌, ℕ, ◌+◌, ◌-◌, ◌*◌, ◌/◌, ◌%◌, ◌<◌, ◌≤◌, ◌⊎◌, inl, inr, ◌∙◌, ap, arith}
use Rattle.std.specs.Int.{div_ceil}
use Rattle.std.proofs.lemmas.Bool.{cases_lt}
use Rattle.std.proofs.lemmas.Grind.{div_ceil_times}
use Rattle.std.proofs.lemmas.Nat.{div_below, mod_below, mul-le}
use Rattle.std.proofs.Common.{add-mul, div-add-mod'}
use Rattle.flow_data.specs.declared.data.FlowsData.{FlowsData}
use Rattle.flow_data.specs.Flows.{flow_in, row_of}
use Rattle.flow_list.specs.Ranges.{atoms_height, spread}
use Rattle.flow_list.specs.Rows.{most_columns}
use Rattle.flow_list.specs.Tokens.{Token}
use Rattle.balancer.specs.Searching.{spread_of}

-- a number whose product is at most one below another is the quotient, rounded up
quotient-is : (a b c : ℕ) → 0 < b → a ≤ c * b → c * b < a + b → c ≡ (a + b - 1) / b
quotient-is a b c some low high = go (cases_lt c ((a + b - 1) / b + 1))
  where
    go : (c < (a + b - 1) / b + 1) ⊎ ((a + b - 1) / b + 1 ≤ c) → c ≡ (a + b - 1) / b
    go (inl lt) =
        let e : (c + 1) * b ≡ c * b + 1 * b = add-mul c 1 b in
        let above : (a + b - 1) / b < c + 1 = div_below (a + b - 1) b (c + 1) some (omega arith) in
        omega arith
    go (inr le) =
        let more : ((a + b - 1) / b + 1) * b ≤ c * b = mul-le ((a + b - 1) / b + 1) b c b le (omega arith) in
        let e : ((a + b - 1) / b + 1) * b ≡ (a + b - 1) / b * b + 1 * b = add-mul ((a + b - 1) / b) 1 b in
        let rest : (a + b - 1) % b < b = mod_below (a + b - 1) b some in
        let whole : (a + b - 1) / b * b + (a + b - 1) % b ≡ a + b - 1 = div-add-mod' (a + b - 1) b in
        absurd (omega arith)

ceil-is : (a b : ℕ) → 0 < b → div_ceil a b ≡ spread a b
ceil-is a b some =
    let c = div_ceil_times a b some in
    quotient-is a b (div_ceil a b) some c.0 c.1

pub wide-is : (d : FlowsData) (r : ℕ) (q : Token) (sum most n wide : ℕ) → sum ≡ atoms_height (flow_in d r) q → n ≡ most →
    most ≡ most_columns (row_of d r).n (flow_in d r) q → wide ≡ div_ceil sum n → wide ≡ spread_of d r q
wide-is d r q sum most n wide sum_is n_is most_is is =
    is ∙ ceil-is sum n (omega arith) ∙ ap (λ s. spread s n) sum_is ∙ ap (spread (atoms_height (flow_in d r) q)) (n_is ∙ most_is)
