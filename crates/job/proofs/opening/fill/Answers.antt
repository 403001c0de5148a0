use Rattle.std.proofs.Common.{◌≡◌, Err, sym, ap, ◌∙◌, subst, inl, arith}
use Rattle.std.proofs.lemmas.Result.{err_from_is_err_and}
use Rattle.rules.specs.Faults.{refused}
use Rattle.job.specs.Format.{good, step}
use Rattle.job.specs.Record.{entry}
use Rattle.job.specs.Opening.{takes}
use Rattle.job.specs.Memory.{MemoryFaultAt, Refuses}
use Rattle.job.proofs.Steps.{step_next}
use Rattle.job.proofs.Openings.{AllFilled, fill_text, fill_again, fill_fault, fill_bad, fill_over}
use Rattle.job.proofs.Told.{told_some, told_none, told_bad, placed_some, no_text}
use Rattle.job.proofs.opening.fill.Goals as goal
use Rattle.job.proofs.opening.fill.Goals.{In-Some}

-- the record that a turn reads, and its place
stepped : (c : In-Some) → step c.args.job.now c.loop-patterns.reader.at ≡ good (entry c.in-Some.placed.«record») c.next.new.self.at
stepped c =
    told_some c.args.job.now _ c.loop-patterns.reader.at c.next.new.self.at c.loop-patterns.invariant.0 c.in_ok-placed.field-0 c.in-Some.placed c.in_ok-placed.ensures.step c.in-Some.is

there : (c : In-Some) → c.in-Some.placed.place ≡ c.loop-patterns.reader.at
there c = placed_some c.loop-patterns.reader.at c.in_ok-placed.field-0 c.in-Some.placed c.in_ok-placed.ensures.place c.in-Some.is

pub returns-in_err-placed-clause-err : goal.returns-in_err-placed-clause-err
returns-in_err-placed-clause-err c =
    let p = err_from_is_err_and c.from_residual.result c.from_residual.ensures.1 in
    let i = c.loop-patterns.invariant in
    let at = c.loop-patterns.reader.at in
    let h = c.in_err-placed.ensures in
    let f = c.in_err-placed.field-0.0 in
    rw (p.1, p.2)
    (inl (fill_bad c.args.job.now c.loop-patterns.patterns at i.1 f.refusal (told_bad c.args.job.now _ at c.next.new.self.at i.0 f h.step) ∙ ap (λ n. Err (refused n f.refusal)) (sym h.place)))

pub returns-in-Text : goal.returns-in-Text
returns-in-Text c =
    let at = c.loop-patterns.reader.at in
    let a = (goal.at.returns-in-Text c).In-Some in
    let b = c.loop-patterns.patterns in
    let job = c.args.job.now in
    let f = subst (AllFilled job b) (sym (there a)) (fill_text job b at c.loop-patterns.invariant.1 c.in-Text.field-0.now c.next.new.self.at (stepped a ∙ ap (λ r. good (entry r) c.next.new.self.at) c.in-Text.is)) in
    record { book = f.book; left = f.left; at = f.place; err = tt }

pub loop-patterns-smaller : goal.loop-patterns-smaller
loop-patterns-smaller c =
    let far = step_next c.args.job.now c.loop-patterns.reader.at c.next.new.self.at _ (stepped (goal.at.loop-patterns-smaller c).In-Some) in
    omega (arith, far.0, far.1)

pub loop-patterns-preserved : goal.loop-patterns-preserved
loop-patterns-preserved c =
    let i = c.loop-patterns.invariant in
    let at = c.loop-patterns.reader.at in
    let a = (goal.at.loop-patterns-preserved c).In-Some in
    let b = c.loop-patterns.patterns in
    let e = entry c.in-Some.placed.«record» in
    let took = ap (λ n. takes b n e) (sym (there a)) ∙ c.in_ok-take.ensures.ok in
    (c.in_ok-placed.ensures.job ∙ i.0, fill_again c.args.job.now b at i.1 c.take.new.patterns e c.next.new.self.at (stepped a) (no_text c.in-Some.placed.«record» c.in_default-record.not-Text) took)

pub returns-in_err-take-clause-err : goal.returns-in_err-take-clause-err
returns-in_err-take-clause-err c =
    let p = err_from_is_err_and c.from_residual-in_err-take.result c.from_residual-in_err-take.ensures.1 in
    let at = c.loop-patterns.reader.at in
    let a = (goal.at.returns-in_err-take-clause-err c).In-Some in
    let b = c.loop-patterns.patterns in
    let e = entry c.in-Some.placed.«record» in
    let f = c.in_err-take.field-0.0 in
    rw (p.1, p.2)
    (fill_fault c.args.job.now b at c.loop-patterns.invariant.1 e c.next.new.self.at f (stepped a) (no_text c.in-Some.placed.«record» c.in_default-record.not-Text) (subst (λ n. Refuses (takes b n e) (MemoryFaultAt b n e) f) (there a) c.in_err-take.ensures.err))

pub returns : goal.returns
returns c =
    let i = c.loop-patterns.invariant in
    let at = c.loop-patterns.reader.at in
    let f = fill_over c.args.job.now c.loop-patterns.patterns at i.1 (told_none c.args.job.now _ at c.next.new.self.at i.0 c.in_ok-placed.field-0 c.in_ok-placed.ensures.step c.in_default.is) in
    record { book = f.book; left = f.left; at = f.place; err = tt }
