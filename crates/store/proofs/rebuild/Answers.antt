-- Proved: `rebuild` meets its contract: a rebuild's 14 names its block.
use mathlib.Core.Path.{◌≡◌}
use Rattle.std.proofs.lemmas.Result.{err_from_is_err_and}
use Rattle.plan.specs.declared.Refusal.TheVariants.{NoPlan}
use Rattle.repairs.specs.declared.Unrebuilt.TheVariants.{Refused}
use Rattle.repairs.proofs.Turning.{rebuild_names}
use Rattle.store.proofs.rebuild.Goals as goal

pub returns-in_err-st-clause-block : goal.returns-in_err-st-clause-block
returns-in_err-st-clause-block c = λ h.
    let p = err_from_is_err_and c.from_residual.result c.from_residual.ensures.1 in
    let same : c.in_err-st.field-0.0 ≡ Refused NoPlan = cc in
    rebuild_names _ _ _ _ (rw same at c.in_err-st.ensures)
