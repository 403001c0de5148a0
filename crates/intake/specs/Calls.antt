-- asks c            a call of the code, as the ledger is fed it
-- tell r            a reply of the code, as the ledger tells it
-- Outside r         a fault in the reply r is outside a job: its place is 0
-- pairs cs ts       each call with what came back, as far as both lists go
-- following p es    the past p, and then the events es
use Rattle.std.specs.Prelude.{◌≡◌, List, [], ◌∷◌, ◌++◌, IfErr, vec_items}
use Rattle.rules.specs.Faults.{told}
use Rattle.intake.specs.Ledger.{Asked, ask_scan, ask_tally, Told, told_scan, told_tally}
use Rattle.intake.specs.History.{Event, Past}
use Rattle.intake.specs.declared.calls.Call.{Call}
use Rattle.intake.specs.declared.calls.Call.TheVariants.{Scan, Tally}
use Rattle.intake.specs.declared.calls.Reply.{Reply}
use Rattle.intake.specs.declared.calls.Reply.TheVariants.{Scanned, Tallied}

abbrev pub asks : Call → Asked
asks (Scan text hits) = ask_scan text.now (vec_items hits)
asks (Tally i) = ask_tally i

abbrev pub tell : Reply → Told
tell (Scanned r hits) = told_scan (told r) (vec_items hits)
tell (Tallied r) = told_tally (told r)

abbrev pub Outside : Reply → Type 0
Outside (Scanned r hits) = IfErr r (λ f. f.place ≡ 0)
Outside (Tallied r) = IfErr r (λ f. f.place ≡ 0)

abbrev pub pairs : List Asked → List Told → List Event
pairs [] ts = []
pairs (a ∷ cs) [] = []
pairs (a ∷ cs) (t ∷ ts) = record { asked = a; told = t } ∷ pairs cs ts

unfoldable pub following : Past → List Event → Past
following p es = record { first = p.first; events = p.events ++ es }
