-- What stands at a place of a job.
use Rattle.std.proofs.Common.{◌≡◌, ℕ, ◌+◌, ◌*◌, ◌<◌, ◌≤◌, List, [], ◌∷◌, length, get_or, take, drop, Ok, Err, Result, ap, ◌∙◌, add-zero, arith}
use Rattle.std.proofs.lemmas.List.{get_or-drop, length-drop, drop-drop}
use Rattle.std.proofs.lemmas.Bool.Decides.{nat_tests}
use Rattle.rules.specs.declared.fault.Refusal.{Refusal}
use Rattle.job.specs.Format.{Entry, over, bad, good, mark_at, size_at, body_at, made_of, step_of, step}

-- a record whose bytes are all there
pub step_whole : (job : List ℕ) (at : ℕ) → at + 4 + size_at job at ≤ length job → step job at ≡ step_of (made_of (mark_at job at) (body_at job at)) (at + 4 + size_at job at)
step_whole job at h = grind (arith, nat_tests)

-- past the end there is nothing more
pub step_over : (job : List ℕ) (at : ℕ) → length job ≤ at → step job at ≡ over
step_over job at h = grind (arith, nat_tests)

step_of_good : (r : Result Entry Refusal) (n next : ℕ) (e : Entry) → step_of r n ≡ good e next → n ≡ next
step_of_good (Ok x) n next e h = cc
step_of_good (Err x) n next e h = cc

step_of_over : (r : Result Entry Refusal) (n : ℕ) → step_of r n ≡ over → ⊥
step_of_over (Ok x) n h = cc
step_of_over (Err x) n h = cc

-- the place behind a record lies behind its mark, and within the job
pub step_next : (job : List ℕ) (at next : ℕ) (e : Entry) → step job at ≡ good e next → (at < next) × (next ≤ length job)
step_next job at next e h = (grind (arith, nat_tests, step_of_good), grind (arith, nat_tests, step_of_good))

-- and nothing more is only past the end
pub step_end : (job : List ℕ) (at : ℕ) → step job at ≡ over → length job ≤ at
step_end job at h = grind (arith, nat_tests, step_of_over)

step_of_bad : (r : Result Entry Refusal) (n m : ℕ) (k : Refusal) → step_of r n ≡ bad k → step_of r m ≡ bad k
step_of_bad (Ok x) n m k h = cc
step_of_bad (Err x) n m k h = h

-- a record that is refused is refused on its own, too
module _ (job : List ℕ) (at : ℕ) where
  abbrev tail : List ℕ
  tail = drop at job

  byte : (k : ℕ) → get_or tail k 0 ≡ get_or job (at + k) 0
  byte k = get_or-drop at job k 0

  size_same : size_at tail 0 ≡ size_at job at
  size_same = λ i. byte 2 i + 256 * byte 3 i

  first_same : get_or tail 0 0 ≡ get_or job at 0
  first_same = byte 0 ∙ ap (λ n. get_or job n 0) (add-zero at)

  body_same : body_at tail 0 ≡ body_at job at
  body_same = λ i. take (size_same i) (drop-drop 4 at job i)

  made_same : made_of (mark_at tail 0) (body_at tail 0) ≡ made_of (mark_at job at) (body_at job at)
  made_same = λ i. made_of (first_same i ∷ (byte 1 i ∷ [])) (body_same i)

  pub bad_alone : (r : Refusal) → step job at ≡ bad r → step tail 0 ≡ bad r
  bad_alone r h = let long = length-drop at job in let size = size_same in let made = made_same in grind (arith, nat_tests, step_of_bad)

  -- and what is refused on its own is refused where it stands
  pub bad_there : (r : Refusal) → at ≤ length job → step tail 0 ≡ bad r → step job at ≡ bad r
  bad_there r le h = let long = length-drop at job in let size = size_same in let made = made_same in grind (arith, nat_tests, step_of_bad)
