-- Believed: demand 3 over the store's own calls: runs of losses, repairs and corrections on a stripe with its standing, one layout kept throughout; and
-- what it is for lists of such calls to have runs.
use Rattle.std.specs.Prelude.{◌≡◌, List, [], ◌∷◌, ℕ, zero, suc, ◌<◌, length, get_or, Result}
use Rattle.groups.specs.declared.Layout.{Layout}
use Rattle.calls.specs.Calls.{Call, lose, repair, correct, Answer, done, refused, by}
use Rattle.calls.specs.Demands.{Alike, Turn, calls}
use Rattle.plan.specs.declared.Standing.{Standing}
use Rattle.plan.specs.declared.Refusal.{Refusal}
use Rattle.plan.specs.Codes.{code_of, Sound}
use Rattle.plan.specs.Refusals.{said}
use Rattle.shape.specs.Shapes.{Sized, stripe_of}
use Rattle.store.specs.declared.Said.{Said}
use Rattle.store.specs.Store.{Encode, Lose, Repair, Correct}

-- "survivors and the list of lost blocks being changed by nothing else": the standing st stays, and from xs to ys nothing changed but bytes standing
-- where a lost block was
pub record Between (l : Layout) (st : Standing) (xs ys : List ℕ) : Type 0 where
  pub long : length ys ≡ length xs
  pub alike : Alike (code_of l st.len) (stripe_of st xs) (stripe_of st ys)

-- the answer that a number is: 0 for accepted
abbrev pub numbered : ℕ → Answer
numbered zero = done
numbered (suc m) = refused (by (suc m))

-- calls of the store, each with its answer, lead from the standing st and the stripe xs to u and zs
pub data Runs (l : Layout) : Standing → List ℕ → List Turn → Standing → List ℕ → Type 0 where
  rest : {st : Standing} {xs ys : List ℕ} → Between l st xs ys → Runs l st xs [] st ys
  loss : {st st' u : Standing} {xs ys zs : List ℕ} {gs : List Turn} {b : ℕ} {r : Said}
      → Between l st xs ys → Lose l st b r st' → Runs l st' ys gs u zs
      → Runs l st xs (record { call = lose b; answer = numbered r.number } ∷ gs) u zs
  mend : {st st' u : Standing} {xs ys ys' zs : List ℕ} {gs : List Turn} {b : ℕ} {r : Said}
      → Between l st xs ys → Repair l st ys b r st' ys' → Runs l st' ys' gs u zs
      → Runs l st xs (record { call = repair b; answer = numbered r.number } ∷ gs) u zs
  amend : {st u : Standing} {xs ys ys' zs : List ℕ} {gs : List Turn} {i off : ℕ} {d : List ℕ} {a : Result (Unit {0}) Refusal}
      → Between l st xs ys → Correct l st ys i off d a ys' → Runs l st ys' gs u zs
      → Runs l st xs (record { call = correct i off d; answer = said a } ∷ gs) u zs

-- every element is a byte
abbrev pub Small : List ℕ → Type 0
Small xs = (i : ℕ) → get_or xs i 0 < 256

-- ---- that demand 3 is of something

-- the block length is L, and the stripe xs with the standing st makes a sound call
pub record Stands (l : Layout) (L : ℕ) (st : Standing) (xs : List ℕ) : Type 0 where
  pub len : st.len ≡ L
  pub sound : Sound l st (Sized l st.len (length xs))

-- "losses, repairs and corrections", every difference being of bytes
pub data Come : List Call → Type 0 where
  none : Come []
  a_loss : {qs : List Call} (b : ℕ) → Come qs → Come (lose b ∷ qs)
  a_repair : {qs : List Call} (b : ℕ) → Come qs → Come (repair b ∷ qs)
  a_correction : {qs : List Call} (i off : ℕ) (d : List ℕ) → Small d → Come qs → Come (correct i off d ∷ qs)

-- a run of the calls qs
pub record Ran (l : Layout) (L : ℕ) (st : Standing) (xs : List ℕ) (qs : List Call) : Type 0 where
  pub turns : List Turn
  pub standing : Standing
  pub stripe : List ℕ
  pub called : calls turns ≡ qs
  pub stands : Stands l L standing stripe
  pub run : Runs l st xs turns standing stripe

-- what demand 3 starts from: an accepted encoding, a run of the calls ps, and after it one of the calls qs
pub record Possible (l : Layout) (st : Standing) (xs : List ℕ) (ps qs : List Call) : Type 0 where
  pub said : Said
  pub standing : Standing
  pub stripe : List ℕ
  pub encoded : Encode l st xs said standing stripe
  pub accepted : said.number ≡ 0
  pub before : Ran l st.len standing stripe ps
  pub list : Ran l st.len before.standing before.stripe qs
