-- The text at which a reader stands is the first of the job, where what is left to read is the texts.
use Rattle.std.proofs.Common.{◌≡◌, ℕ, ◌≤◌, List, length, Ok, refl, ap, inl, inr, arith}
use Rattle.std.proofs.lemmas.Grind.{common_steps}
use Rattle.std.proofs.lemmas.Bool.Decides.{nat_tests}
use Rattle.rules.specs.declared.fault.Fault.{Fault}
use Rattle.rules.specs.declared.fault.Refusal.{Refusal}
use Rattle.rules.specs.Book.{Book}
use Rattle.job.specs.Format.{Step, over, bad, good, step}
use Rattle.job.specs.Reading.{reading}
use Rattle.job.specs.Texts.{texts}
use Rattle.job.specs.Opening.{opened}
use Rattle.job.specs.Memory.{MemoryFault, Refuses}
use Rattle.job.proofs.Openings.{open_memory}
use Rattle.job.proofs.Steps.{step_end}
use Rattle.job.proofs.Readings.{reading_good, reading_bad, reading_over}
use Rattle.host.specs.declared.miss.Miss.TheVariants.{Refused}
use Rattle.host.specs.declared.searcher.SearcherKind.{SearcherKind}
use Rattle.host.specs.Outcomes.{text_in, text_of_first, first_text, text_for, hit_in, in_book, outcome, FailsWith}

-- a refusal is not past the end
bad_within : (job : List ℕ) (at : ℕ) (r : Refusal) → step job at ≡ bad r → at ≤ length job
bad_within job at r h = grind (arith, nat_tests, common_steps)

step_leads : (job : List ℕ) (at : ℕ) (s : Step) → step job at ≡ s → text_of_first (reading job at).items ≡ text_in s
step_leads job at over h = ap (λ r. text_of_first r.items) (reading_over job at (step_end job at h))
step_leads job at (bad r) h = ap (λ r. text_of_first r.items) (reading_bad job at r (bad_within job at r h) h)
step_leads job at (good e next) h = ap (λ r. text_of_first r.items) (reading_good job at next e h)

-- the search of a job whose book is b, where a reader stands at the first text
pub outcome_is : (job held : List ℕ) (place : ℕ) (x : SearcherKind) (at : ℕ) (b : Book) → opened job ≡ Ok b → held ≡ job → reading job at ≡ texts (reading job 0) → outcome job place x ≡ hit_in b place (text_for b x (text_in (step held at)))
outcome_is job held place x at b book same left =
    let leads = step_leads job at (step job at) refl in
    grind (arith, common_steps)

-- a job that is refused, or for whose patterns there is no memory
pub not_opened : (job : List ℕ) (place : ℕ) (x : SearcherKind) (f : Fault) → Refuses (opened job) (MemoryFault job) f → FailsWith job (outcome job place x) (Refused f.refusal)
not_opened job place x f (inl d) = inl (ap (λ r. in_book r x (first_text job) place) d)
not_opened job place x f (inr w) = inr ((f, w), ap Refused (open_memory job f w))
