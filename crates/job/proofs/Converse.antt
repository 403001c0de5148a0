-- Every run of bytes is the records that are read of it, as they are written, and what stands behind them.
use Rattle.std.proofs.Common.{◌≡◌, ℕ, zero, suc, ◌+◌, ◌*◌, ◌/◌, ◌%◌, ◌<◌, ◌≤◌, List, [], ◌∷◌, ◌++◌, All, length, get_or, drop, Ok, Err, Result, sym, refl, ap, ◌∙◌, subst, append_assoc, add-zero, length-append, arith}
use Rattle.std.proofs.Math.ListN.{drop_of_length-le}
use Rattle.std.proofs.lemmas.Nat.{mod-mul-add, div-mul-add}
use Rattle.std.proofs.lemmas.List.{drop_more, length-drop, length-take-le, take-append-drop, drop-drop}
use Rattle.std.proofs.lemmas.List.Elements.{All-nil, All-cons}
use Rattle.std.proofs.lemmas.Bool.Decides.{nat_tests}
use Rattle.rules.specs.declared.fault.Refusal.{Refusal}
use Rattle.rules.specs.Limits.{max_body}
use Rattle.job.specs.Format.{Entry, a_pattern, kind_first, kind_longest, a_text, Step, over, bad, good, mark, mark_at, size_at, body_at, made_of, step_of, step}
use Rattle.job.specs.Reading.{Reading, item, reading}
use Rattle.job.specs.Written.{body, written, job_of, items_of, entries_of, Short, Stopped, WrittenAs}
use Rattle.job.proofs.Steps.{step_next, step_end, bad_alone}
use Rattle.job.proofs.Readings.{reading_good, reading_bad, reading_over}

-- what a record was made of
made_pattern : (x y : ℕ) (b p : List ℕ) → made_of (x ∷ y ∷ []) b ≡ Ok (a_pattern p) → (x ≡ 80) × (y ≡ 78) × (p ≡ b)
made_pattern x y b p h = (grind (arith, nat_tests), grind (arith, nat_tests), grind (arith, nat_tests))

made_first : (x y : ℕ) (b : List ℕ) → made_of (x ∷ y ∷ []) b ≡ Ok kind_first → (x ≡ 75) × (y ≡ 70) × (length b ≡ 0)
made_first x y b h = (grind (arith, nat_tests), grind (arith, nat_tests), grind (arith, nat_tests))

made_longest : (x y : ℕ) (b : List ℕ) → made_of (x ∷ y ∷ []) b ≡ Ok kind_longest → (x ≡ 75) × (y ≡ 76) × (length b ≡ 0)
made_longest x y b h = (grind (arith, nat_tests), grind (arith, nat_tests), grind (arith, nat_tests))

made_text : (x y : ℕ) (b t : List ℕ) → made_of (x ∷ y ∷ []) b ≡ Ok (a_text t) → (x ≡ 84) × (y ≡ 88) × (t ≡ b)
made_text x y b t h = (grind (arith, nat_tests), grind (arith, nat_tests), grind (arith, nat_tests))

no_bytes : (b : List ℕ) → length b ≡ 0 → [] ≡ b
no_bytes [] h = refl
no_bytes (x ∷ b) h = absurd (omega arith)

made_is : (x y : ℕ) (b : List ℕ) (e : Entry) → made_of (x ∷ y ∷ []) b ≡ Ok e → (mark e ≡ x ∷ y ∷ []) × (body e ≡ b)
made_is x y b (a_pattern p) h = let m = made_pattern x y b p h in ((λ i. sym m.0 i ∷ (sym m.1 i ∷ [])), m.2)
made_is x y b kind_first h = let m = made_first x y b h in ((λ i. sym m.0 i ∷ (sym m.1 i ∷ [])), no_bytes b m.2)
made_is x y b kind_longest h = let m = made_longest x y b h in ((λ i. sym m.0 i ∷ (sym m.1 i ∷ [])), no_bytes b m.2)
made_is x y b (a_text t) h = let m = made_text x y b t h in ((λ i. sym m.0 i ∷ (sym m.1 i ∷ [])), m.2)

step_of_ok : (r : Result Entry Refusal) (n next : ℕ) (e : Entry) → step_of r n ≡ good e next → r ≡ Ok e
step_of_ok (Ok x) n next e h = cc
step_of_ok (Err x) n next e h = cc

-- a record that is read is all there
good_long : (job : List ℕ) (at next : ℕ) (e : Entry) → step job at ≡ good e next → at + 4 + size_at job at ≤ length job
good_long job at next e h = grind (arith, nat_tests)

good_next : (job : List ℕ) (at next : ℕ) (e : Entry) → step job at ≡ good e next → step_of (made_of (mark_at job at) (body_at job at)) (at + 4 + size_at job at) ≡ good e next
good_next job at next e h = grind (arith, nat_tests)

step_of_next : (r : Result Entry Refusal) (n next : ℕ) (e : Entry) → step_of r n ≡ good e next → n ≡ next
step_of_next (Ok x) n next e h = cc
step_of_next (Err x) n next e h = cc

-- the head of a record
four : (job : List ℕ) (at : ℕ) → at + 4 ≤ length job → drop at job ≡ get_or job at 0 ∷ (get_or job (at + 1) 0 ∷ (get_or job (at + 2) 0 ∷ (get_or job (at + 3) 0 ∷ drop (at + 4) job)))
four job at h =
    drop_more job at 0 (omega arith)
    ∙ ap (λ xs. get_or job at 0 ∷ xs) (next 1 (omega arith) ∙ ap (λ xs. get_or job (at + 1) 0 ∷ xs) (next 2 (omega arith) ∙ ap (λ xs. get_or job (at + 2) 0 ∷ xs) (next 3 (omega arith))))
  where
    next : (k : ℕ) → at + k < length job → drop (at + k) job ≡ get_or job (at + k) 0 ∷ drop (at + suc k) job
    next k l = drop_more job (at + k) 0 l ∙ ap (λ n. get_or job (at + k) 0 ∷ drop n job) (let e : at + k + 1 ≡ at + suc k = omega arith in e)

module _ (job : List ℕ) (bytes : All (λ x. x < 256) job) (at next : ℕ) (e : Entry) (h : step job at ≡ good e next) where
  whole : at + 4 + size_at job at ≤ length job
  whole = good_long job at next e h

  is : (mark e ≡ get_or job at 0 ∷ get_or job (at + 1) 0 ∷ []) × (body e ≡ body_at job at)
  is = made_is _ _ _ e (step_of_ok _ _ next e (good_next job at next e h))

  low_small : get_or job (at + 2) 0 < 256
  low_small = bytes (at + 2) 0 (omega (arith, whole))

  high_small : get_or job (at + 3) 0 < 256
  high_small = bytes (at + 3) 0 (omega (arith, whole))

  turned : size_at job at ≡ get_or job (at + 3) 0 * 256 + get_or job (at + 2) 0
  turned = omega arith

  sized : length (body e) ≡ size_at job at
  sized = ap length (is.1) ∙ length-take-le (size_at job at) (drop (at + 4) job) (omega (arith, whole, length-drop (at + 4) job))

  pub good_short : length (body e) ≤ max_body
  good_short = omega (arith, sized, low_small, high_small)

  pub good_behind : next ≡ at + 4 + length (body e)
  good_behind = sym (step_of_next _ _ next e (good_next job at next e h)) ∙ ap (λ n. at + 4 + n) (sym sized)

  low_is : length (body e) % 256 ≡ get_or job (at + 2) 0
  low_is = ap (λ n. n % 256) (sized ∙ turned) ∙ mod-mul-add (get_or job (at + 3) 0) 256 (get_or job (at + 2) 0) low_small

  high_is : length (body e) / 256 ≡ get_or job (at + 3) 0
  high_is = ap (λ n. n / 256) (sized ∙ turned) ∙ div-mul-add (get_or job (at + 3) 0) 256 (get_or job (at + 2) 0) low_small

  pub good_written : drop at job ≡ written e ++ drop next job
  good_written =
      four job at (omega (arith, whole))
      ∙ ap (λ xs. get_or job at 0 ∷ (get_or job (at + 1) 0 ∷ (get_or job (at + 2) 0 ∷ (get_or job (at + 3) 0 ∷ xs)))) behind
      ∙ sym (λ i. (is.0 i ++ (low_is i ∷ (high_is i ∷ is.1 i))) ++ drop next job)
    where
      behind : drop (at + 4) job ≡ body_at job at ++ drop next job
      behind =
          sym (take-append-drop (size_at job at) (drop (at + 4) job))
          ∙ ap (λ xs. body_at job at ++ xs) (drop-drop (size_at job at) (at + 4) job ∙ ap (λ n. drop n job) (step_of_next _ _ next e (good_next job at next e h)))

-- what is read of a job from a place on, and what stands behind that
record From (job : List ℕ) (at : ℕ) (r : Reading) : Type 0 where
  rest : List ℕ
  parts : drop at job ≡ job_of (entries_of r.items) ++ rest
  places : r.items ≡ items_of at (entries_of r.items)
  short : Short (entries_of r.items)
  stopped : Stopped rest (at + length (job_of (entries_of r.items))) r.stop

from : (n : ℕ) (job : List ℕ) (at : ℕ) → All (λ x. x < 256) job → at ≤ length job → length job < at + n → From job at (reading job at)
from zero job at bytes le lt = absurd (omega arith)
from (suc n) job at bytes le lt = go (step job at) refl (λ next e h. let far = step_next job at next e h in from n job next bytes far.1 (omega (arith, far.0)))
  where
    go : (s : Step) → step job at ≡ s → ((next : ℕ) (e : Entry) → step job at ≡ good e next → From job next (reading job next)) → From job at (reading job at)
    go over h more = subst (From job at) (sym (reading_over job at (step_end job at h))) (record {
      rest = [];
      parts = drop_of_length-le job (step_end job at h);
      places = refl;
      short = All-nil (λ e. length (body e) ≤ max_body);
      stopped = refl;
    })
    go (bad r) h more = subst (From job at) (sym (reading_bad job at r le h)) (record {
      rest = drop at job;
      parts = refl;
      places = refl;
      short = All-nil (λ e. length (body e) ≤ max_body);
      stopped = (bad_alone job at r h, sym (add-zero at));
    })
    go (good e next) h more =
        let m = more next e h in
        let es = entries_of (reading job next).items in
        let behind = good_behind job bytes at next e h in
        let long : length (written e) ≡ 4 + length (body e) = grind (arith, length-append) in
        subst (From job at) (sym (reading_good job at next e h)) (record {
          rest = m.rest;
          parts = good_written job bytes at next e h ∙ ap (λ xs. written e ++ xs) m.parts ∙ sym (append_assoc (written e) (job_of es) m.rest);
          places = ap (λ is. item at e ∷ is) (m.places ∙ ap (λ k. items_of k es) behind);
          short = All-cons (λ e. length (body e) ≤ max_body) e es (good_short job bytes at next e h) m.short;
          stopped = subst (λ k. Stopped m.rest k (reading job next).stop) (omega (arith, behind, length-append (written e) (job_of es), long)) m.stopped;
        })

pub reads_all : (job : List ℕ) → All (λ x. x < 256) job → WrittenAs job (reading job 0)
reads_all job bytes =
    let f = from (suc (length job)) job 0 bytes (omega arith) (omega arith) in
    record {
      rest = f.rest;
      parts = f.parts;
      places = f.places;
      short = f.short;
      stopped = subst (λ k. Stopped f.rest k (reading job 0).stop) (omega arith) f.stopped;
    }
