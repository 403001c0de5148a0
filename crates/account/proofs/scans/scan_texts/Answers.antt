use Rattle.std.proofs.Common.{◌≡◌, true, [], ◌∷◌, ◌++◌, map, length, is_ok, Some, Err, vec_items, sym, ap, ◌∙◌, subst, inl, inr, zero-add, arith}
use Rattle.std.proofs.lemmas.Result.{err_from_is_err_and}
use Rattle.rules.specs.declared.fault.Fault.{Fault}
use Rattle.rules.specs.declared.fault.Refusal.TheVariants.{AfterText}
use Rattle.rules.specs.Listing.{listing}
use Rattle.intake.specs.History.{Keeps}
use Rattle.rules.specs.Faults.{refused, placed}
use Rattle.intake.proofs.Scans.{keeps_more}
use Rattle.job.specs.Format.{a_text, good, step}
use Rattle.job.specs.Record.{entry}
use Rattle.job.specs.Reading.{reading}
use Rattle.job.proofs.Steps.{step_next}
use Rattle.job.proofs.Told.{told_some, told_none, told_bad, placed_some, no_text}
use Rattle.account.specs.Texts.{line, scanned, accepted, ended, lines_of}
use Rattle.account.specs.Accounts.{TextsServed}
use Rattle.account.proofs.Texts.{lines_more, text_behind, cut_at_text, text_scanned, text_refused, other_refused, bad_refused, all_scanned}
use Rattle.account.proofs.scans.scan_texts.Given as given
use Rattle.account.proofs.scans.scan_texts.Goals as goal
use Rattle.account.proofs.scans.scan_texts.Goals.{In-Some, In-Text, After-next}

stepped : (g : given.Over) (c : In-Some g) → step c.args.texts.job.now c.loop-placed.texts.at ≡ good (entry c.in-Some.placed.«record») c.next.new.self.at
stepped g c = told_some c.args.texts.job.now _ c.loop-placed.texts.at c.next.new.self.at c.loop-placed.invariant.same c.in_ok-placed.field-0 c.in-Some.placed c.in_ok-placed.ensures.step c.in-Some.is

there : (g : given.Over) (c : In-Some g) → c.in-Some.placed.place ≡ c.loop-placed.texts.at
there g c = placed_some c.loop-placed.texts.at c.in_ok-placed.field-0 c.in-Some.placed c.in_ok-placed.ensures.place c.in-Some.is

-- the fault that ends the job, with the lines so far
ends_with : (g : given.Over) (c : After-next g) (f : Fault) → let b = c.args.intake.now.book in let first = reading c.args.texts.job.now c.args.texts.at in (c.loop-placed.invariant.done ≡ accepted b 0 first.items) × (ended b 0 first.items first.stop ≡ Some f) → TextsServed (c.args.intake.now.book) first (vec_items c.loop-placed.lines) (Err f)
ends_with g c f h =
    let first = reading c.args.texts.job.now c.args.texts.at in
    let b = c.args.intake.now.book in
    inl (h.1, c.loop-placed.invariant.lines ∙ ap (lines_of b 0) h.0)

pub returns-in_err-placed : goal.returns-in_err-placed
returns-in_err-placed g c =
    let p = err_from_is_err_and c.from_residual.result c.from_residual.ensures.1 in
    let i = c.loop-placed.invariant in
    let at = c.loop-placed.texts.at in
    let job = c.args.texts.job.now in
    let b = c.args.intake.now.book in
    let f = c.in_err-placed.field-0.0 in
    let h = c.in_err-placed.ensures in
    let e = bad_refused job b at i.done _ _ i.more i.end f.refusal (told_bad job _ at c.next.new.self.at i.same f h.step) in
    rw (p.1, p.2) (record { ok = tt; err = ends_with g (goal.at.returns-in_err-placed g c).After-next f (e.0, e.1 ∙ ap (λ n. Some (refused n f.refusal)) (sym h.place)) })

pub returns-in_default-record : goal.returns-in_default-record
returns-in_default-record g c =
    let i = c.loop-placed.invariant in
    let at = c.loop-placed.texts.at in
    let job = c.args.texts.job.now in
    let b = c.args.intake.now.book in
    let a = (goal.at.returns-in_default-record g c).In-Some in
    let e = other_refused job b at i.done _ _ i.more i.end (entry c.in-Some.placed.«record») c.next.new.self.at (stepped g a) (no_text c.in-Some.placed.«record» c.in_default-record.not-Text) in
    record { ok = tt; err = ends_with g (goal.at.returns-in_default-record g c).After-next c.at.result (e.0, e.1 ∙ ap (λ n. Some (refused n AfterText)) (sym (there g a)) ∙ ap Some (sym c.at.ensures)) }

-- the text that a turn scans
texted : (g : given.Over) (c : In-Text g) → step c.args.texts.job.now c.loop-placed.texts.at ≡ good (a_text c.in-Text.text.now) c.next.new.self.at
texted g c = stepped g (goal.at.In-Text g c).In-Some ∙ ap (λ r. good (entry r) c.next.new.self.at) c.in-Text.is

pub loop-placed-smaller : goal.loop-placed-smaller
loop-placed-smaller g c =
    let far = step_next c.args.texts.job.now c.loop-placed.texts.at c.next.new.self.at _ (texted g (goal.at.loop-placed-smaller g c).In-Text) in
    omega (arith, far.0, far.1, ap length c.loop-placed.invariant.same, ap length c.next.ensures.job)

pub loop-placed-preserved : goal.loop-placed-preserved
loop-placed-preserved g c =
    let i = c.loop-placed.invariant in
    let at = c.loop-placed.texts.at in
    let job = c.args.texts.job.now in
    let b = c.args.intake.now.book in
    let t = c.in-Text.text.now in
    let m = c.loop-placed.intake in
    let noted = c.in_ok-scan_text.ensures in
    let ok : is_ok (scanned b (length i.done) t) ≡ true = sym (λ k. is_ok (scanned (i.keeps.book k) (i.keeps.count k) t)) ∙ noted.accepted in
    let h = texted g (goal.at.loop-placed-preserved g c).In-Text in
    let left = text_behind job at i.done (reading job c.args.texts.at) t c.next.new.self.at h i.behind i.stop in
    let e = text_scanned job b at i.done _ _ i.more i.end t c.next.new.self.at h ok in
    record {
      done = i.done ++ t ∷ [];
      keeps = keeps_more (record { book = b; texts = i.done }) m c.scan_text.new.intake t noted.counted i.keeps;
      lines = noted.noted ∙ ap (λ xs. xs ++ map (line m.accepted) (listing m.book t)) i.lines ∙ (λ k. lines_of b 0 i.done ++ map (line ((i.keeps.count ∙ sym (zero-add (length i.done))) k)) (listing (i.keeps.book k) t)) ∙ sym (lines_more b 0 i.done t);
      more = e.0;
      end = e.1;
      same = c.next.ensures.job ∙ i.same;
      behind = left.0;
      stop = left.1;
    }

pub returns-in_err-scan_text : goal.returns-in_err-scan_text
returns-in_err-scan_text g c =
    let p = err_from_is_err_and c.from_residual-in_err-scan_text.result c.from_residual-in_err-scan_text.ensures.1 in
    let i = c.loop-placed.invariant in
    let at = c.loop-placed.texts.at in
    let job = c.args.texts.job.now in
    let b = c.args.intake.now.book in
    let t = c.in-Text.text.now in
    let f = c.in_err-scan_text.field-0.0 in
    let noted = c.in_err-scan_text.ensures in
    let first = reading job c.args.texts.at in
    rw (p.1, p.2) (record {
      ok = tt;
      err = subst (λ ls. TextsServed c.args.intake.now.book first ls (Err f)) (sym noted.same_lines)
          (elim noted.err [
            | inr memory ↦ inr (cut_at_text job at i.done first t c.next.new.self.at (texted g (goal.at.returns-in_err-scan_text g c).In-Text) i.behind i.stop b _ i.more _ i.lines f memory)
            | inl is ↦
                let due = sym (λ j. placed (there g (goal.at.returns-in_err-scan_text g c).In-Some j) (scanned (i.keeps.book j) (i.keeps.count j) t)) ∙ is in
                let e = text_refused job b at i.done _ _ i.more i.end t c.next.new.self.at f (texted g (goal.at.returns-in_err-scan_text g c).In-Text) due in
                ends_with g (goal.at.returns-in_err-scan_text g c).After-next f e
          ]);
    })

pub returns : goal.returns
returns g c =
    let i = c.loop-placed.invariant in
    let at = c.loop-placed.texts.at in
    let job = c.args.texts.job.now in
    let first = reading job c.args.texts.at in
    let b = c.args.intake.now.book in
    let e = all_scanned job b at i.done _ _ i.more i.end (told_none job _ at c.next.new.self.at i.same c.in_ok-placed.field-0 c.in_ok-placed.ensures.step c.in_default.is) in
    record { ok = (e.1, subst (λ ts. Keeps (record { book = b; texts = ts }) c.loop-placed.intake) e.0 i.keeps, i.lines ∙ ap (lines_of b 0) e.0); err = tt }
