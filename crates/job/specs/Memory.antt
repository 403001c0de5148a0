-- Want of memory, which a defined answer leaves out: where it may come in place of that answer.
-- MemoryFaultAt b at e f   f is want of memory, at a place, for the record e there: a pattern that the open book b does not refuse
-- MemoryFaultAmong b is f  f is want of memory for one of the records is, all before it being taken into the open book b
-- MemoryFaultIn job f      f is want of memory for a pattern before a job's first text, before which nothing is refused
-- MemoryFault job f        the same of a job that may be too long, and is then refused before any memory is wanted
-- Refuses d w f            the fault f is the one of the defined answer d, or want of memory as w says
use Rattle.std.specs.Prelude.{◌≡◌, ℕ, ◌≤◌, ◌⊎◌, List, [], ◌∷◌, length, None, Ok, Err, Result}
use Rattle.rules.specs.declared.fault.Fault.{Fault}
use Rattle.rules.specs.declared.fault.Refusal.TheVariants.{Memory}
use Rattle.rules.specs.Limits.{max_job}
use Rattle.rules.specs.Book.{Book}
use Rattle.rules.specs.Faults.{refused}
use Rattle.pattern.specs.Contents.{empty}
use Rattle.pattern.specs.Entering.{entering}
use Rattle.job.specs.Format.{Entry, a_pattern, kind_first, kind_longest, a_text}
use Rattle.job.specs.Reading.{Item, reading}
use Rattle.job.specs.Texts.{heading}
use Rattle.job.specs.Opening.{takes}

abbrev pub MemoryFaultAt : Book → ℕ → Entry → Fault → Type 0
MemoryFaultAt b at (a_pattern p) f = (entering b p ≡ None) × (f ≡ refused at Memory)
MemoryFaultAt b at kind_first f = ⊥
MemoryFaultAt b at kind_longest f = ⊥
MemoryFaultAt b at (a_text t) f = ⊥

-- it is for the first one, or the first one is taken and it is for one of the others
abbrev pub MemoryFaultAmong : Book → List Item → Fault → Type 0
MemoryFaultAmong b [] f = ⊥
MemoryFaultAmong b (i ∷ is) f =
    MemoryFaultAt b i.place i.entry f
    ⊎ ((c : Book) × (takes b i.place i.entry ≡ Ok c) × MemoryFaultAmong c is f)

abbrev pub MemoryFaultIn : List ℕ → Fault → Type 0
MemoryFaultIn job f = MemoryFaultAmong empty (heading (reading job 0).items) f

abbrev pub MemoryFault : List ℕ → Fault → Type 0
MemoryFault job f = (length job ≤ max_job) × MemoryFaultIn job f

abbrev pub Refuses : {X : Type 0} → Result X Fault → (Fault → Type 0) → Fault → Type 0
Refuses d w f = (d ≡ Err f) ⊎ w f
