-- Believed: document 01, "When the store says no": the numbers of the table from 6 on, and what a call's result says in the words of `calls`.
use Rattle.std.specs.Prelude.{ℕ, Result, Ok, Err}
use Rattle.calls.specs.Calls as Calls
use Rattle.calls.specs.Calls.{done, refused, by}
use Rattle.plan.specs.declared.Refusal.{Refusal}
use Rattle.plan.specs.declared.Refusal.TheVariants.{Layout, Length, Marks, Block, Present, Lost, Range, Spare, NoPlan, NotANumber, Unprotected}

-- document 01's number of a refusal
abbrev pub number : Refusal → ℕ
number Layout = 6
number Length = 7
number Marks = 8
number Block = 9
number Present = 10
number Lost = 11
number Range = 12
number Spare = 13
number NoPlan = 14
number NotANumber = 15
number Unprotected = 16

-- a result as a call's answer: accepted, whatever comes with it, or refused with a number
abbrev pub said : {A : Type 0} → Result A Refusal → Calls.Answer
said (Ok x) = done
said (Err e) = refused (by (number e))
