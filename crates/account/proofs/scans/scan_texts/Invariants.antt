use Rattle.std.proofs.Common.{◌≡◌, ℕ, ◌-◌, List, ◌++◌, length, drop, vec_items}
use Rattle.intake.specs.History.{Keeps}
use Rattle.job.specs.Reading.{reading}
use Rattle.account.specs.Texts.{accepted, ended, lines_of}
use Rattle.account.proofs.scans.scan_texts.Given as goal

abbrev pub invariant-loop-placed : goal.invariant-loop-placed
invariant-loop-placed g l =
    let b = l.initial.intake.book in
    let job = l.initial.texts.job.now in
    let first = reading job l.initial.texts.at in
    let left = reading job l.texts.at in
    record {
      done : List (List ℕ);
      keeps : Keeps (record { book = b; texts = done }) l.intake;
      lines : vec_items l.lines ≡ lines_of b 0 done;
      more : done ++ accepted b (length done) left.items ≡ accepted b 0 first.items;
      end : ended b (length done) left.items left.stop ≡ ended b 0 first.items first.stop;
      same : l.texts.job.now ≡ job;
      behind : drop (length done) first.items ≡ left.items;
      stop : first.stop ≡ left.stop;
    }

abbrev pub decreases-loop-placed : goal.decreases-loop-placed
decreases-loop-placed g l = length l.texts.job.now - l.texts.at
