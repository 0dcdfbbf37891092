-- Believed: document 01, "When the store says no": what the answer of a call says in numbers: 0 for accepted, a refusal's number, and for a rebuild's 14
-- the block it names.
use Rattle.std.specs.Prelude.{ℕ, Result, Ok, Err}
use Rattle.plan.specs.declared.Refusal.{Refusal}
use Rattle.plan.specs.Refusals.{number}
use Rattle.repairs.specs.declared.Unrebuilt.{Unrebuilt}
use Rattle.repairs.specs.declared.Unrebuilt.TheVariants.{Refused, NoPlan}
use Rattle.store.specs.declared.Said.{Said}

-- of an answer that has its refusal as a number, any number
abbrev pub told : Result (Unit {0}) ℕ → Said
told (Ok x) = record { number = 0; block = 0 }
told (Err number) = record { number = number; block = 0 }

-- of a call's answer
abbrev pub spoken : {A : Type 0} → Result A Refusal → Said
spoken (Ok x) = record { number = 0; block = 0 }
spoken (Err e) = record { number = number e; block = 0 }

-- of a rebuild's answer
abbrev pub named : {A : Type 0} → Result A Unrebuilt → Said
named (Ok x) = record { number = 0; block = 0 }
named (Err (Refused e)) = record { number = number e; block = 0 }
named (Err (NoPlan b)) = record { number = 14; block = b }
