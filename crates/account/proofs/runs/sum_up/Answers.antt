use Rattle.std.proofs.Common.{vec_items, inr, subst}
use Rattle.std.proofs.lemmas.Result.{err_from_is_err_and}
use Rattle.job.specs.Reading.{reading}
use Rattle.account.specs.Accounts.{EndsForMemory}
use Rattle.account.proofs.Texts.{cut_at_end}
use Rattle.account.proofs.runs.sum_up.Goals as goal

pub returns-in_err-tallies : goal.returns-in_err-tallies
returns-in_err-tallies g c =
    let p = err_from_is_err_and c.from_residual-in_err-tallies.result c.from_residual-in_err-tallies.ensures.1 in
    let h = c.in_ok-scan_texts.ensures.ok in
    let first = reading c.args.texts.job.now c.args.texts.at in
    rw (p.1, p.2) (inr (subst (λ b. EndsForMemory b first (vec_items c.scan_texts.new.lines) c.in_err-tallies.field-0.0) c.new-intake.ensures.book (cut_at_end c.new-intake.result.book first _ _ h.0 h.2 c.in_err-tallies.ensures.err)))
