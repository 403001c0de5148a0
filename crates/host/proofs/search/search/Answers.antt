use Rattle.std.proofs.Common.{rules, ◌≡◌, ap, ◌∙◌}
use Rattle.job.specs.Format.{step}
use Rattle.job.proofs.Openings.{opened_lacks}
use Rattle.host.specs.Outcomes.{text_in, text_for, hit_in, outcome}
use Rattle.host.proofs.Texts.{outcome_is, not_opened}
use Rattle.host.proofs.Sizes.{small_hit}
use Rattle.host.proofs.search.search.Goals as goal
use Rattle.host.proofs.search.search.Goals.{After-text_for}

-- what the text at which the reader stands makes of the job
settled : (c : After-text_for) → let o = c.in_ok-opened.opened in outcome c.args.job.now c.args.place c.args.searcher ≡ hit_in o.book c.args.place (text_for o.book c.args.searcher (text_in (step o.texts.job.now o.texts.at)))
settled c =
    let o = c.in_ok-opened.opened in
    let h = c.in_ok-opened.ensures in
    outcome_is c.args.job.now o.texts.job.now c.args.place c.args.searcher o.texts.at o.book h.book h.job h.left

pub returns-in_err-opened-clause-err : goal.returns-in_err-opened-clause-err
returns-in_err-opened-clause-err c = search (rules, not_opened c.args.job.now c.args.place c.args.searcher c.in_err-opened.field-0.0 c.in_err-opened.ensures.err)

pub returns-in_err-text-clause-err : goal.returns-in_err-text-clause-err
returns-in_err-text-clause-err c =
    let o = c.in_ok-opened.opened in
    let e = settled (goal.at.returns-in_err-text-clause-err c).After-text_for ∙ ap (hit_in o.book c.args.place) c.in_err-text.ensures.err in
    search (rules, e)

pub returns-in_err-find-clause-err : goal.returns-in_err-find-clause-err
returns-in_err-find-clause-err c = search (rules, opened_lacks c.args.job.now c.in_ok-opened.opened.book c.in_ok-opened.ensures.book)

pub returns : goal.returns
returns c =
    let o = c.in_ok-opened.opened in
    let e = settled (goal.at.returns c).After-text_for ∙ ap (hit_in o.book c.args.place) c.in_ok-text.ensures.ok in
    let searched = rw (← c.in_ok-find.ensures, ← c.ok_or.ensures.value) at e in
    record {
      ok = search (rules, searched);
      small = search (rules, small_hit c.args.job.now o.texts.job.now o.texts.at c.args.place o.book c.args.searcher c.in_ok-text.text.now);
      err = search (rules, searched);
    }
