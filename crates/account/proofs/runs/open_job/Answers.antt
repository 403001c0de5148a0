use Rattle.std.proofs.Common.{refl}
use Rattle.std.proofs.lemmas.Result.{err_from_is_err_and}
use Rattle.account.proofs.Texts.{cut_at_start}
use Rattle.account.proofs.runs.open_job.Goals as goal

pub returns-in_err-book-clause-err : goal.returns-in_err-book-clause-err
returns-in_err-book-clause-err c =
    let p = err_from_is_err_and c.from_residual-in_err-book.result c.from_residual-in_err-book.ensures.1 in
    rw p.1 (cut_at_start c.args.job.now c.in_ok-opened.opened.book _ _ c.in_ok-opened.ensures.book refl p.2)

pub returns-in_err-hits-clause-err : goal.returns-in_err-hits-clause-err
returns-in_err-hits-clause-err c =
    let p = err_from_is_err_and c.from_residual-in_err-hits.result c.from_residual-in_err-hits.ensures.1 in
    rw p.1 (cut_at_start c.args.job.now c.in_ok-opened.opened.book _ _ c.in_ok-opened.ensures.book refl p.2)
