-- A book that is closed with as many masks as it permits is refused only for want of patterns.
use Rattle.std.proofs.Common.{◌≡◌, ℕ, ◌<◌, ◌≤◌, min, List, length, Err, inl, ◌∙◌, arith, MatchOption}
use Rattle.std.proofs.lemmas.Bool.{cond-false, le-ltb}
use Rattle.std.proofs.lemmas.Bool.Decides.{nat_tests}
use Rattle.rules.specs.declared.fault.Fault.{Fault}
use Rattle.rules.specs.Limits.{max_masks, max_job}
use Rattle.rules.specs.Book.{Book, shortest, Within}
use Rattle.rules.specs.Faults.{refused}
use Rattle.pattern.specs.Entering.{checking}
use Rattle.pattern.proofs.Shortest.{shortest_pos}
use Rattle.job.specs.Opening.{closes, read_book, opened}
use Rattle.job.specs.Memory.{MemoryFault, Refuses}

-- only for want of patterns
unmet : (b : Book) (at : ℕ) (f : Fault) → 0 < shortest b → MatchOption (checking b (min (shortest b) max_masks)) ⊥ (λ x. f ≡ refused at x) → closes b at ≡ Err f
unmet b at f some h = grind (arith, nat_tests)

pub closing_fault : (job : List ℕ) (b : Book) (at : ℕ) (f : Fault) → length job ≤ max_job → read_book job ≡ closes b at → Within b → MatchOption (checking b (min (shortest b) max_masks)) ⊥ (λ x. f ≡ refused at x) → Refuses (opened job) (MemoryFault job) f
closing_fault job b at f short book w h =
    inl (cond-false _ _ _ (le-ltb max_job (length job) short) ∙ book ∙ unmet b at f (shortest_pos b w.some) h)
