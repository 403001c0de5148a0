-- A job that is records in a row reads as those records.
use Rattle.std.proofs.Common.{◌≡◌, ℕ, ◌+◌, ◌*◌, ◌/◌, ◌%◌, ◌<◌, List, [], ◌∷◌, ◌++◌, length, get_or, take, drop, Some, None, Ok, Option, sym, refl, ap, ◌∙◌, subst, append_assoc, add-zero, zero-add, arith, length-append}
use native.Mathlib.Nat.{mod-add-div}
use Rattle.std.proofs.lemmas.List.{get_or-append-add, get_or_append_left, take_at, drop_at}
use Rattle.job.specs.Format.{Entry, a_pattern, kind_first, kind_longest, a_text, good, mark, mark_at, size_at, body_at, made_of, step_of, step}
use Rattle.rules.specs.declared.fault.Fault.{Fault}
use Rattle.rules.specs.Faults.{refused}
use Rattle.job.specs.Reading.{item, ends, put, reading}
use Rattle.job.specs.Written.{body, written, job_of, items_of, Stopped}
use Rattle.job.proofs.Steps.{step_whole, bad_there}
use Rattle.job.proofs.Readings.{reading_good, reading_bad, reading_over}

-- the head of a record in front of what follows it
front : (e : Entry) (rest : List ℕ) → List ℕ
front e rest = mark e ++ (length (body e) % 256 ∷ (length (body e) / 256 ∷ (body e ++ rest)))

written_front : (e : Entry) (rest : List ℕ) → written e ++ rest ≡ front e rest
unfolding front
written_front (a_pattern p) rest = refl
written_front kind_first rest = refl
written_front kind_longest rest = refl
written_front (a_text t) rest = refl

-- a mark and its record's bytes make the record
made : (e : Entry) → made_of (mark e) (body e) ≡ Ok e
made (a_pattern p) = refl
made kind_first = refl
made kind_longest = refl
made (a_text t) = refl

mark_long : (e : Entry) → length (mark e) ≡ 2
mark_long (a_pattern p) = refl
mark_long kind_first = refl
mark_long kind_longest = refl
mark_long (a_text t) = refl

mark_bytes : (e : Entry) → get_or (mark e) 0 0 ∷ get_or (mark e) 1 0 ∷ [] ≡ mark e
mark_bytes (a_pattern p) = refl
mark_bytes kind_first = refl
mark_bytes kind_longest = refl
mark_bytes (a_text t) = refl

module _ (pre : List ℕ) (e : Entry) (rest : List ℕ) where
  abbrev at : ℕ
  at = length pre

  whole : List ℕ
  whole = pre ++ front e rest

  byte : (k : ℕ) → get_or whole (at + k) 0 ≡ get_or (front e rest) k 0
  unfolding whole
  byte k = get_or-append-add pre (front e rest) k 0

  marked : (k : ℕ) → k < 2 → get_or whole (at + k) 0 ≡ get_or (mark e) k 0
  unfolding front
  marked k l = byte k ∙ get_or_append_left (mark e) _ 0 k (omega (arith, mark_long e))

  first_byte : get_or whole at 0 ≡ get_or (mark e) 0 0
  first_byte = ap (λ n. get_or whole n 0) (sym (add-zero at)) ∙ marked 0 (omega arith)

  mark_is : mark_at whole at ≡ mark e
  mark_is = (λ i. first_byte i ∷ (marked 1 (omega arith) i ∷ [])) ∙ mark_bytes e

  size_is : size_at whole at ≡ length (body e)
  unfolding front
  size_is = (λ i. (byte 2 ∙ behind_mark 0) i + 256 * (byte 3 ∙ behind_mark 1) i) ∙ mod-add-div (length (body e)) 256
    where
      behind_mark : (k : ℕ) → get_or (mark e ++ (length (body e) % 256 ∷ (length (body e) / 256 ∷ (body e ++ rest)))) (2 + k) 0 ≡ get_or (length (body e) % 256 ∷ (length (body e) / 256 ∷ (body e ++ rest))) k 0
      behind_mark k = ap (λ n. get_or (mark e ++ (length (body e) % 256 ∷ (length (body e) / 256 ∷ (body e ++ rest)))) (n + k) 0) (sym (mark_long e)) ∙ get_or-append-add (mark e) _ k 0

  -- the four bytes in front of the body
  head_is : front e rest ≡ (mark e ++ (length (body e) % 256 ∷ (length (body e) / 256 ∷ []))) ++ (body e ++ rest)
  unfolding front
  head_is = sym (append_assoc (mark e) (length (body e) % 256 ∷ (length (body e) / 256 ∷ [])) (body e ++ rest))

  head_long : length (mark e ++ (length (body e) % 256 ∷ (length (body e) / 256 ∷ []))) ≡ 4
  head_long = length-append (mark e) _ ∙ ap (λ n. n + 2) (mark_long e)

  behind : drop (at + 4) whole ≡ body e ++ rest
  unfolding whole
  behind =
      let head = mark e ++ (length (body e) % 256 ∷ (length (body e) / 256 ∷ [])) in
      ap (drop (at + 4)) (ap (λ xs. pre ++ xs) head_is ∙ sym (append_assoc pre head (body e ++ rest)))
      ∙ drop_at (pre ++ head) (body e ++ rest) (at + 4) (length-append pre head ∙ ap (λ n. at + n) head_long)

  long : length whole ≡ at + 4 + length (body e) + length rest
  unfolding whole
  long =
      let head = mark e ++ (length (body e) % 256 ∷ (length (body e) / 256 ∷ [])) in
      omega (arith, length-append pre (front e rest), ap length head_is, length-append head (body e ++ rest), length-append (body e) rest, head_long)

  step_written : step whole at ≡ good e (at + 4 + length (body e))
  step_written =
      step_whole whole at (omega (arith, size_is, long))
      ∙ (λ i. step_of (made_of (mark_is i) (taken i)) (at + 4 + size_is i))
      ∙ ap (λ r. step_of r (at + 4 + length (body e))) (made e)
    where
      taken : body_at whole (length pre) ≡ body e
      taken = (λ i. take (size_is i) (behind i)) ∙ take_at (body e) rest (length (body e)) refl

  written_long : length (pre ++ written e) ≡ at + 4 + length (body e)
  written_long =
      let head = mark e ++ (length (body e) % 256 ∷ (length (body e) / 256 ∷ [])) in
      omega (arith, length-append pre (written e), ap length (append_assoc (mark e) (length (body e) % 256 ∷ (length (body e) / 256 ∷ [])) (body e)), length-append head (body e), head_long)

  step_here : step (pre ++ (written e ++ rest)) at ≡ good e (at + 4 + length (body e))
  unfolding whole
  step_here = ap (λ xs. step (pre ++ xs) at) (written_front e rest) ∙ step_written

-- nothing more, or a record that is refused, behind what stands before it
rests : (pre rest : List ℕ) (s : Option Fault) → Stopped rest (length pre) s → reading (pre ++ rest) (length pre) ≡ ends s
rests pre rest None h = reading_over (pre ++ rest) (length pre) (omega (arith, length-append pre rest, ap length h))
rests pre rest (Some f) h =
    let tail : drop (length pre) (pre ++ rest) ≡ rest = drop_at pre rest (length pre) refl in
    let there = bad_there (pre ++ rest) (length pre) f.refusal (omega (arith, length-append pre rest)) (ap (λ xs. step xs 0) tail ∙ h.0) in
    reading_bad (pre ++ rest) (length pre) f.refusal (omega (arith, length-append pre rest)) there ∙ ap (λ n. ends (Some (refused n f.refusal))) (sym h.1)

-- the records es behind what stands before them, and what stands behind them
from : (es : List Entry) (pre rest : List ℕ) (s : Option Fault) → Stopped rest (length pre + length (job_of es)) s → reading (pre ++ (job_of es ++ rest)) (length pre) ≡ record { items = items_of (length pre) es; stop = s }
from [] pre rest s h = rests pre rest s (subst (λ n. Stopped rest n s) (add-zero (length pre)) h)
from (e ∷ es) pre rest s h =
    let behind = job_of es ++ rest in
    let next = length pre + 4 + length (body e) in
    let long = written_long pre e behind in
    let parts : (written e ++ job_of es) ++ rest ≡ written e ++ behind = append_assoc (written e) (job_of es) rest in
    let far : length pre + length (written e ++ job_of es) ≡ length (pre ++ written e) + length (job_of es) = omega (arith, length-append (written e) (job_of es), length-append pre (written e)) in
    let more : reading (pre ++ (written e ++ behind)) next ≡ record { items = items_of next es; stop = s } =
    (λ i. reading (sym (append_assoc pre (written e) behind) i) (sym long i)) ∙ from es (pre ++ written e) rest s (subst (λ n. Stopped rest n s) far h) ∙ ap (λ n. record { items = items_of n es; stop = s }) long in
    ap (λ xs. reading (pre ++ xs) (length pre)) parts ∙ reading_good (pre ++ (written e ++ behind)) (length pre) next e (step_here pre e behind) ∙ ap (put (item (length pre) e)) more

pub reads_back : (es : List Entry) (rest : List ℕ) (s : Option Fault) → Stopped rest (length (job_of es)) s → reading (job_of es ++ rest) 0 ≡ record { items = items_of 0 es; stop = s }
reads_back es rest s h = from es [] rest s (subst (λ n. Stopped rest n s) (sym (zero-add (length (job_of es)))) h)
