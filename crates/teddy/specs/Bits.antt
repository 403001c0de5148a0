-- IsSet n j         bit j of the number n is 1
-- Taken n bit rest  bit is the lowest bit that is set in n, and rest is n without it (`kept` and `others` follow from the rest)
use Rattle.std.specs.Prelude.{◌≡◌, ℕ, ◌+◌, ◌/◌, ◌%◌, ◌^◌, ◌<◌, ◌⊎◌}

abbrev pub IsSet : ℕ → ℕ → Type 0
IsSet n j = n / 2 ^ j % 2 ≡ 1

pub record Taken (n bit rest : ℕ) : Type 0 where
  pub within : bit < 64
  pub set : IsSet n bit
  pub lowest : (j : ℕ) → j < bit → IsSet n j → ⊥
  pub sum : rest + 2 ^ bit ≡ n
  pub kept : (j : ℕ) → IsSet rest j → IsSet n j
  pub others : (j : ℕ) → IsSet n j → (j ≡ bit) ⊎ IsSet rest j
