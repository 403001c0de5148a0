-- What there is to read in a job.
-- Item                   a record with the place of its mark
-- item at e              the record e with its place
-- Reading                records in a row, and the fault of the one behind them at which reading stops, if there is one
-- ends s                 no record, and the fault s
-- put i r                the record i in front of what is read behind it
-- reading_from n job at  what there is to read from a place on, of at most n records
-- reading job at         what there is to read from a place on: up to the job's end or the first record that is refused
use Rattle.std.specs.Prelude.{ℕ, zero, suc, ◌-◌, List, [], ◌∷◌, length, Some, None, Option}
use Rattle.rules.specs.declared.fault.Fault.{Fault}
use Rattle.rules.specs.Faults.{refused}
use Rattle.job.specs.Format.{Entry, over, bad, good, step}

pub record Item : Type 0 where
  pub place : ℕ
  pub entry : Entry

abbrev pub item : ℕ → Entry → Item
item at e = record { place = at; entry = e }

pub record Reading : Type 0 where
  pub items : List Item
  pub stop : Option Fault

abbrev pub ends : Option Fault → Reading
ends s = record { items = []; stop = s }

abbrev pub put : Item → Reading → Reading
put i r = record { items = i ∷ r.items; stop = r.stop }

unfoldable pub reading_from : ℕ → List ℕ → ℕ → Reading
reading_from zero job at = ends None
reading_from (suc n) job at =
    elim (step job at) [
      | over ↦ ends None
      | bad r ↦ ends (Some (refused at r))
      | good e next ↦ put (item at e) (reading_from n job next)
    ]

-- a record is longer than nothing, so a job has no more of them than bytes
unfoldable pub reading : List ℕ → ℕ → Reading
reading job at = reading_from (suc (length job) - at) job at
