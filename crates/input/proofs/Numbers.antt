-- Proved: the library's number in eight bytes is that of document 01.
use mathlib.Core.Path.{◌≡◌}
use mathlib.Core.List.{List, [], ◌∷◌}
use Prim.Native.Nat.{ℕ}
use native.Mathlib.Omega.{arith}
use lib.ListN.{length}
use Rattle.std.specs.Int.{w64, from_le_bytes}
use Rattle.input.specs.Input.{little}

pub little_eight : (bytes : List ℕ) → length bytes ≡ 8 → from_le_bytes w64 bytes ≡ little bytes
unfolding little
little_eight [] l = absurd (omega arith)
little_eight (a ∷ []) l = absurd (omega arith)
little_eight (a ∷ b ∷ []) l = absurd (omega arith)
little_eight (a ∷ b ∷ c ∷ []) l = absurd (omega arith)
little_eight (a ∷ b ∷ c ∷ d ∷ []) l = absurd (omega arith)
little_eight (a ∷ b ∷ c ∷ d ∷ e ∷ []) l = absurd (omega arith)
little_eight (a ∷ b ∷ c ∷ d ∷ e ∷ f ∷ []) l = absurd (omega arith)
little_eight (a ∷ b ∷ c ∷ d ∷ e ∷ f ∷ g ∷ []) l = absurd (omega arith)
little_eight (a ∷ b ∷ c ∷ d ∷ e ∷ f ∷ g ∷ h ∷ []) l = omega arith
little_eight (a ∷ b ∷ c ∷ d ∷ e ∷ f ∷ g ∷ h ∷ x ∷ bytes) l = absurd (omega arith)
