-- Proved: a layout's matrix holds the rows of its code, whatever the length of the blocks.
use mathlib.Core.Path.{refl, sym}
use mathlib.Core.List.{List}
use Prim.Native.Nat.{ℕ}
use native.Mathlib.Omega.{arith}
use Rattle.groups.specs.declared.Layout.{Layout}
use Rattle.given.specs.Given.{Given}
use Rattle.given.proofs.Facts.{given_proper}
use Rattle.rows.specs.Rows.{blocks}
use Rattle.rows.specs.Answers.{Matrix}
use Rattle.plan.specs.Codes.{code_of}
use Rattle.pieces.proofs.Effects.{Renders}

pub layout_renders : (l : Layout) → Given l → (L : ℕ) {rows : List ℕ} → Matrix l rows → Renders (code_of l L) rows l.k (blocks l) L
layout_renders l given L M =
    let p = given_proper l given in
    record { data_blocks = refl; blocks = refl; bytes = refl; row = λ b i h j. sym (M.rows b i (omega (arith, p.n)) (omega (arith, p.k))) }
