-- The records and answers of the code, by what they say.
-- entry r          what a record holds
-- entries r        the answer r, its record by what it holds
-- as_step r next   the answer of the reader as a step, where it then stands at next
-- place_in r at    the place that the answer names; at where it names none
use Rattle.std.specs.Prelude.{ℕ, Some, None, Ok, Err, Option, Result}
use Rattle.rules.specs.declared.fault.Fault.{Fault}
use Rattle.rules.specs.declared.fault.Refusal.{Refusal}
use Rattle.job.specs.declared.record.Record.{Record}
use Rattle.job.specs.declared.record.Record.TheVariants.{Pattern, First, Longest, Text}
use Rattle.job.specs.declared.record.Placed.{Placed}
use Rattle.job.specs.Format.{Entry, a_pattern, kind_first, kind_longest, a_text, Step, over, bad, good}

abbrev pub entry : Record → Entry
entry (Pattern p) = a_pattern p.now
entry First = kind_first
entry Longest = kind_longest
entry (Text t) = a_text t.now

abbrev pub entries : Result Record Refusal → Result Entry Refusal
entries (Ok r) = Ok (entry r)
entries (Err e) = Err e

abbrev pub as_step : Result (Option Placed) Fault → ℕ → Step
as_step (Ok None) next = over
as_step (Ok (Some p)) next = good (entry p.record) next
as_step (Err e) next = bad e.refusal

abbrev pub place_in : Result (Option Placed) Fault → ℕ → ℕ
place_in (Ok None) at = at
place_in (Ok (Some p)) at = p.place
place_in (Err e) at = e.place
