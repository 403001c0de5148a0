-- A job's refusal is told to a host by its number unchanged: only want of memory is told by another, and no job is refused for that.
-- A fault is named here if its refusal is not want of memory, whose number is 0.
-- Opens d   the fault of the answer d, if it is one, is named
-- Stops s   the fault s at which reading stops, if there is one, is named
use Rattle.std.proofs.Common.{◌≡◌, ℕ, zero, suc, ◌<◌, List, [], ◌∷◌, length, Some, None, Ok, Err, Option, Result, refl, ap, subst, arith}
use Rattle.rules.specs.declared.fault.Fault.{Fault}
use Rattle.rules.specs.declared.fault.Refusal.{Refusal}
use Rattle.rules.specs.declared.fault.Refusal.TheVariants.{Memory}
use Rattle.rules.specs.Refusals.{number}
use Rattle.rules.specs.Book.{Book}
use Rattle.pattern.specs.Contents.{empty}
use Rattle.job.specs.Format.{Entry, a_pattern, kind_first, kind_longest, a_text, bad, step}
use Rattle.job.specs.Reading.{Item, reading_from, reading}
use Rattle.job.specs.Texts.{heading, texts_from}
use Rattle.job.specs.Opening.{takes, and_then, fill, closed_at, opening, opened}
use Rattle.host.specs.declared.miss.Miss.TheVariants.{Refused}
use Rattle.host.specs.declared.searcher.SearcherKind.{SearcherKind}
use Rattle.host.specs.Outcomes.{first_text, in_book, outcome}
use Rattle.host.specs.Answer.{by_number, answer}

abbrev Opens : Result Book Fault → Type 0
Opens (Ok b) = Unit {0}
Opens (Err f) = 0 < number f.refusal

abbrev Stops : Option Fault → Type 0
Stops None = Unit {0}
Stops (Some f) = 0 < number f.refusal

-- what stands at a place, and where reading stops
step_named : (job : List ℕ) (at : ℕ) (r : Refusal) → step job at ≡ bad r → 0 < number r
step_named job at r h = grind arith

reading_named : (n : ℕ) (job : List ℕ) (at : ℕ) → Stops (reading_from n job at).stop
unfolding reading_from
reading_named zero job at = tt
reading_named (suc n) job at = grind (arith, step_named, reading_named n job)

-- what records do to a book, and closing it
takes_named : (b : Book) (at : ℕ) (e : Entry) → Opens (takes b at e)
takes_named b at (a_pattern p) = grind arith
takes_named b at kind_first = tt
takes_named b at kind_longest = tt
takes_named b at (a_text t) = tt

then_named : (d : Result Book Fault) (f : Book → Result Book Fault) → Opens d → ((c : Book) → Opens (f c)) → Opens (and_then d f)
then_named (Ok b) f h k = k b
then_named (Err e) f h k = h

fill_named : (b : Book) (is : List Item) → Opens (fill b is)
fill_named b [] = tt
fill_named b (i ∷ is) = then_named (takes b i.place i.entry) (λ c. fill c is) (takes_named b i.place i.entry) (λ c. fill_named c is)

closed_named : (b : Book) (is : List Item) (s : Option Fault) (n : ℕ) → Stops s → Opens (closed_at b is s n)
closed_named b (i ∷ is) s n h = grind arith
closed_named b [] (Some f) n h = h
closed_named b [] None n h = grind arith

opened_named : (job : List ℕ) → Opens (opened job)
unfolding reading
opened_named job =
    let r = reading job 0 in
    let h : Opens (opening empty r (length job)) = then_named (fill empty (heading r.items)) (λ c. closed_at c (texts_from r.items) r.stop (length job)) (fill_named empty (heading r.items)) (λ c. closed_named c (texts_from r.items) r.stop (length job) (reading_named _ job 0)) in
    grind arith

-- no job is refused for want of memory
pub never_memory : (job : List ℕ) (f : Fault) → opened job ≡ Err f → f.refusal ≡ Memory → ⊥
never_memory job f h m = omega (arith, subst Opens h (opened_named job), ap number m)

-- nor is the search of its text
not_memory : (d : Result Book Fault) (x : SearcherKind) (t : Option (List ℕ)) (place : ℕ) → ((f : Fault) → d ≡ Err f → f.refusal ≡ Memory → ⊥) → in_book d x t place ≡ Err (Refused Memory) → ⊥
not_memory (Ok b) x t place never h = grind arith
not_memory (Err f) x t place never h = never f refl (cc)

-- so a host is answered a refusal's number
pub refusal_number : (job : List ℕ) (place : ℕ) (x : SearcherKind) (r : Refusal) → outcome job place x ≡ Err (Refused r) → answer job place (Some x) ≡ Err (number r)
refusal_number job place x Memory h = absurd (not_memory (opened job) x (first_text job) place (never_memory job) h)
refusal_number job place x r h = ap by_number h
