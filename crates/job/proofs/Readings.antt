-- What there is to read in a job from a place on, by what stands at the place.
use Rattle.std.proofs.Common.{◌≡◌, ℕ, zero, suc, ◌+◌, ◌-◌, ◌<◌, ◌≤◌, List, length, Some, None, sym, refl, ap, ◌∙◌, ⊎_elim, arith}
use Rattle.std.proofs.lemmas.Bool.{cases_lt}
use Rattle.rules.specs.declared.fault.Refusal.{Refusal}
use Rattle.rules.specs.Faults.{refused}
use Rattle.job.specs.Format.{Entry, Step, over, bad, good, step}
use Rattle.job.specs.Reading.{Reading, item, ends, put, reading_from, reading}
use Rattle.job.proofs.Steps.{step_over, step_next}

module _ (job : List ℕ) where
  -- the reading that a step and what is behind it make
  abbrev by-step : ℕ → Step → (ℕ → Reading) → Reading
  by-step at s behind = elim s [ over ↦ ends None | bad r ↦ ends (Some (refused at r)) | good e next ↦ put (item at e) (behind next) ]

  -- more turns than there are places read no more
  reading_same : (n m at : ℕ) → length job < at + n → length job < at + m → reading_from n job at ≡ reading_from m job at
  unfolding reading_from
  reading_same zero zero at h k = refl
  reading_same zero (suc m) at h k = sym (ap (λ s. by-step at s (reading_from m job)) (step_over job at (omega arith)))
  reading_same (suc n) zero at h k = ap (λ s. by-step at s (reading_from n job)) (step_over job at (omega arith))
  reading_same (suc n) (suc m) at h k = go (step job at) refl (λ next x e. let far = step_next job at next x e in reading_same n m next (omega (arith, far.0)) (omega (arith, far.0)))
    where
      go : (s : Step) → step job at ≡ s → ((next : ℕ) (x : Entry) → step job at ≡ good x next → reading_from n job next ≡ reading_from m job next) → by-step at s (reading_from n job) ≡ by-step at s (reading_from m job)
      go over e rest = refl
      go (bad r) e rest = refl
      go (good x next) e rest = ap (put (item at x)) (rest next x e)

  at_step : (at : ℕ) → at ≤ length job → reading job at ≡ by-step at (step job at) (reading_from (length job - at) job)
  unfolding reading reading_from
  at_step at h = ap (λ n. reading_from n job at) (let e : suc (length job) - at ≡ suc (length job - at) = omega arith in e)

  reading_past : (at : ℕ) → length job < at → reading job at ≡ ends None
  unfolding reading reading_from
  reading_past at h = reading_same (suc (length job) - at) 0 at (omega arith) (omega arith)

  pub reading_good : (at next : ℕ) (e : Entry) → step job at ≡ good e next → reading job at ≡ put (item at e) (reading job next)
  unfolding reading
  reading_good at next e h =
      let far = step_next job at next e h in
      at_step at (omega (arith, far.0, far.1))
      ∙ ap (λ s. by-step at s (reading_from (length job - at) job)) h
      ∙ ap (put (item at e)) (reading_same (length job - at) (suc (length job) - next) next (omega (arith, far.0, far.1)) (omega (arith, far.1)))

  pub reading_bad : (at : ℕ) (r : Refusal) → at ≤ length job → step job at ≡ bad r → reading job at ≡ ends (Some (refused at r))
  reading_bad at r l h = at_step at l ∙ ap (λ s. by-step at s (reading_from (length job - at) job)) h

  pub reading_over : (at : ℕ) → length job ≤ at → reading job at ≡ ends None
  reading_over at h =
      ⊎_elim (λ l. reading_past at l) (λ l. at_step at l ∙ ap (λ s. by-step at s (reading_from (length job - at) job)) (step_over job at h)) (cases_lt (length job) at)
