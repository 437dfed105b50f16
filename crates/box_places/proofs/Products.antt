-- The product of two numbers of 64 bits has at most 128.
use Rattle.std.proofs.Common.{ℕ, ◌*◌, ◌-◌, ◌^◌, ◌<◌, ◌≤◌, arith}
use Rattle.std.proofs.Math.Nat.{mul-le-mul}

pub product_fits : (a b : ℕ) → a < 2 ^ 64 → b < 2 ^ 64 → a * b < 2 ^ 128
product_fits a b small also =
    let most : a * b ≤ (2 ^ 64 - 1) * (2 ^ 64 - 1) =
    mul-le-mul {n₁ = a} {m₁ = b} {n₂ = 2 ^ 64 - 1} {m₂ = 2 ^ 64 - 1} (omega arith) (omega arith)
    in omega arith
