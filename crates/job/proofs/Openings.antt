-- The opening of a job, record by record.
use Rattle.std.proofs.Common.{◌≡◌, ℕ, ◌<◌, ◌≤◌, ltb, false, ◌⊎◌, List, [], ◌∷◌, length, Some, None, Ok, Err, Option, Result, sym, refl, ap, ◌∙◌, subst, inl, inr, arith}
use Rattle.std.proofs.lemmas.Bool.{cond-false, le-ltb}
use Rattle.std.proofs.lemmas.Bool.Decides.{nat_tests}
use Rattle.std.specs.Option.{unwrap_or}
use Rattle.rules.specs.declared.fault.Fault.{Fault}
use Rattle.rules.specs.declared.fault.Refusal.{Refusal}
use Rattle.rules.specs.declared.fault.Refusal.TheVariants.{Memory}
use Rattle.rules.specs.declared.primitives.MatchKind.TheVariants.{LeftmostFirst, LeftmostLongest}
use Rattle.rules.specs.Limits.{max_job}
use Rattle.rules.specs.Book.{Book, count_of}
use Rattle.pattern.specs.Contents.{empty, of_kind}
use Rattle.pattern.specs.Entering.{entering}
use Rattle.rules.specs.Faults.{refused}
use Rattle.job.specs.Format.{Entry, a_pattern, kind_first, kind_longest, a_text, over, bad, good, step}
use Rattle.job.specs.Reading.{Item, Reading, item, put, reading}
use Rattle.job.specs.Texts.{is_text, heading, texts_from, texts, place_of, texts_at}
use Rattle.job.specs.Opening.{entered_or, takes, and_then, fill, closes, closed_at, opening, read_book, opened}
use Rattle.job.specs.Memory.{MemoryFaultAt, MemoryFaultAmong, MemoryFaultIn, MemoryFault, Refuses}
use Rattle.job.proofs.Steps.{step_next, step_end}
use Rattle.job.proofs.Readings.{reading_good, reading_bad, reading_over}

after_both : (x : Result Book Fault) (f g : Book → Result Book Fault) → and_then (and_then x f) g ≡ and_then x (λ c. and_then (f c) g)
after_both (Ok b) f g = refl
after_both (Err e) f g = refl

-- one record before the texts
pub opening_step : (b : Book) (at : ℕ) (e : Entry) (r : Reading) (n : ℕ) → is_text e ≡ false → opening b (put (item at e) r) n ≡ and_then (takes b at e) (λ c. opening c r n)
opening_step b at (a_pattern p) r n other = after_both (takes b at (a_pattern p)) (λ c. fill c (heading r.items)) (λ c. closed_at c (texts_from r.items) r.stop n)
opening_step b at kind_first r n other = refl
opening_step b at kind_longest r n other = refl
opening_step b at (a_text t) r n other = cc

pub texts_step : (at : ℕ) (e : Entry) (r : Reading) → is_text e ≡ false → texts (put (item at e) r) ≡ texts r
texts_step at (a_pattern p) r other = refl
texts_step at kind_first r other = refl
texts_step at kind_longest r other = refl
texts_step at (a_text t) r other = cc

-- a pattern that is not entered is refused, or there is no memory for it
pub lacks_or : (b : Book) (at : ℕ) (p : List ℕ) (f : Fault) → f ≡ refused at (unwrap_or (entering b p) Memory) → Refuses (takes b at (a_pattern p)) (MemoryFaultAt b at (a_pattern p)) f
lacks_or b at p f h = go (entering b p) refl h
  where
    go : (o : Option Refusal) → entering b p ≡ o → f ≡ refused at (unwrap_or o Memory) → Refuses (takes b at (a_pattern p)) (MemoryFaultAt b at (a_pattern p)) f
    go None is h = inr (is, h)
    go (Some r) is h = inl (ap (entered_or b at p) is ∙ ap Err (sym h))

-- want of memory for a record, and for one behind it
pub lacks_here : (b : Book) (at : ℕ) (e : Entry) (r : Reading) (f : Fault) → MemoryFaultAt b at e f → MemoryFaultAmong b (heading (put (item at e) r).items) f
lacks_here b at (a_pattern p) r f h = inl h
lacks_here b at kind_first r f h = absurd h
lacks_here b at kind_longest r f h = absurd h
lacks_here b at (a_text t) r f h = absurd h

pub lacks_behind : (b c : Book) (at : ℕ) (e : Entry) (r : Reading) (f : Fault) → is_text e ≡ false → takes b at e ≡ Ok c → MemoryFaultAmong c (heading r.items) f → MemoryFaultAmong b (heading (put (item at e) r).items) f
lacks_behind b c at (a_pattern p) r f other took h = inr (c, took, h)
lacks_behind b c at kind_first r f other took h = inr (c, took, h)
lacks_behind b c at kind_longest r f other took h = inr (c, took, h)
lacks_behind b c at (a_text t) r f other took h = cc

-- a fault of the record is the job's
pub refuses_step : (b : Book) (at : ℕ) (e : Entry) (r : Reading) (n : ℕ) (f : Fault) → is_text e ≡ false → Refuses (takes b at e) (MemoryFaultAt b at e) f → Refuses (opening b (put (item at e) r) n) (MemoryFaultAmong b (heading (put (item at e) r).items)) f
refuses_step b at e r n f other (inl d) = inl (opening_step b at e r n other ∙ ap (λ x. and_then x (λ c. opening c r n)) d)
refuses_step b at e r n f other (inr w) = inr (lacks_here b at e r f w)

-- Records of a job are being entered: b is the book so far, and at is the place of the next record.
pub record Filling (job : List ℕ) (b : Book) (at : ℕ) : Type 0 where
  pub within : at ≤ length job
  pub book : read_book job ≡ opening b (reading job at) (length job)
  pub left : texts (reading job 0) ≡ texts (reading job at)
  pub memory : (f : Fault) → MemoryFaultAmong b (heading (reading job at).items) f → MemoryFaultIn job f

-- All records before the first text are: b is the book with them, and at is the place of that text, or the job's length.
pub record AllFilled (job : List ℕ) (b : Book) (at : ℕ) : Type 0 where
  pub book : read_book job ≡ closes b at
  pub left : reading job at ≡ texts (reading job 0)
  pub place : at ≡ texts_at job

pub fill_none : (job : List ℕ) → Filling job empty 0
fill_none job = record { within = omega arith; book = refl; left = refl; memory = λ f w. w }

module _ (job : List ℕ) (b : Book) (at : ℕ) (i : Filling job b at) where
  -- the next record is a text
  pub fill_text : (t : List ℕ) (next : ℕ) → step job at ≡ good (a_text t) next → AllFilled job b at
  fill_text t next h =
      let is = reading_good job at next (a_text t) h in
      record {
        book = i.book ∙ ap (λ r. opening b r (length job)) is;
        left = is ∙ sym (i.left ∙ ap texts is);
        place = sym (ap (λ (r : Reading). place_of r.items (length job)) (i.left ∙ ap texts is));
      }

  -- it is another, and makes of b the book c
  pub fill_again : (c : Book) (e : Entry) (next : ℕ) → step job at ≡ good e next → is_text e ≡ false → takes b at e ≡ Ok c → Filling job c next
  fill_again c e next h other took =
      let is = reading_good job at next e h in
      record {
        within = (step_next job at next e h).1;
        book =
            i.book
            ∙ ap (λ r. opening b r (length job)) is
            ∙ opening_step b at e (reading job next) (length job) other
            ∙ ap (λ x. and_then x (λ d. opening d (reading job next) (length job))) took;
        left = i.left ∙ ap texts is ∙ texts_step at e (reading job next) other;
        memory = λ f w. i.memory f (subst (λ (r : Reading). MemoryFaultAmong b (heading r.items) f) (sym is) (lacks_behind b c at e (reading job next) f other took w));
      }

  -- it is not taken
  pub fill_fault : (e : Entry) (next : ℕ) (f : Fault) → step job at ≡ good e next → is_text e ≡ false → Refuses (takes b at e) (MemoryFaultAt b at e) f → Refuses (read_book job) (MemoryFaultIn job) f
  fill_fault e next f h other r =
      let is = reading_good job at next e h in
      elim (refuses_step b at e (reading job next) (length job) f other r) [
        | inl d ↦ inl (i.book ∙ ap (λ x. opening b x (length job)) is ∙ d)
        | inr w ↦ inr (i.memory f (subst (λ (x : Reading). MemoryFaultAmong b (heading x.items) f) (sym is) w))
      ]

  -- it is refused
  pub fill_bad : (r : Refusal) → step job at ≡ bad r → read_book job ≡ Err (refused at r)
  fill_bad r h = i.book ∙ ap (λ x. opening b x (length job)) (reading_bad job at r i.within h)

  -- there is none
  pub fill_over : step job at ≡ over → AllFilled job b (length job)
  fill_over h =
      let is = reading_over job at (step_end job at h) in
      record {
        book = i.book ∙ ap (λ r. opening b r (length job)) is;
        left = reading_over job (length job) (omega arith) ∙ sym (i.left ∙ ap texts is);
        place = sym (ap (λ (r : Reading). place_of r.items (length job)) (i.left ∙ ap texts is));
      }

-- what it lacks is memory
pub lacks_memory : (b : Book) (is : List Item) (f : Fault) → MemoryFaultAmong b is f → f.refusal ≡ Memory
lacks_memory b [] f w = absurd w
lacks_memory b (i ∷ is) f (inl w) = here b i.place i.entry f w
  where
    here : (b : Book) (at : ℕ) (e : Entry) (f : Fault) → MemoryFaultAt b at e f → f.refusal ≡ Memory
    here b at (a_pattern p) f w = ap (λ (g : Fault). g.refusal) w.1
    here b at kind_first f w = absurd w
    here b at kind_longest f w = absurd w
    here b at (a_text t) f w = absurd w
lacks_memory b (i ∷ is) f (inr (c, took, w)) = lacks_memory c is f w

pub open_memory : (job : List ℕ) (f : Fault) → MemoryFault job f → f.refusal ≡ Memory
open_memory job f w = lacks_memory empty (heading (reading job 0).items) f w.1

-- a book that was empty and is not any more has taken a pattern, for which there might have been no memory
fill_lacks : (is : List Item) (b c : Book) → fill b is ≡ Ok c → count_of b ≡ 0 → 0 < count_of c → (f : Fault) × MemoryFaultAmong b is f
fill_lacks [] b c h none some = let same : b ≡ c = cc in absurd (omega (arith, ap count_of same))
fill_lacks (i ∷ is) b c h none some = go i.place i.entry h (λ d took m. fill_lacks is d c took m some)
  where
    go : (at : ℕ) (e : Entry) → and_then (takes b at e) (λ d. fill d is) ≡ Ok c → ((d : Book) → fill d is ≡ Ok c → count_of d ≡ 0 → (f : Fault) × MemoryFaultAmong d is f) → (f : Fault) × (MemoryFaultAt b at e f ⊎ ((d : Book) × (takes b at e ≡ Ok d) × MemoryFaultAmong d is f))
    go at (a_pattern p) h more = by (entering b p) refl h
      where
        by : (o : Option Refusal) → entering b p ≡ o → and_then (entered_or b at p o) (λ d. fill d is) ≡ Ok c → (f : Fault) × (MemoryFaultAt b at (a_pattern p) f ⊎ ((d : Book) × (takes b at (a_pattern p) ≡ Ok d) × MemoryFaultAmong d is f))
        by None e h = (refused at Memory, inl (e, refl))
        by (Some r) e h = cc
    go at kind_first h more = let d = of_kind LeftmostFirst b in let m = more d h none in (m.0, inr (d, refl, m.1))
    go at kind_longest h more = let d = of_kind LeftmostLongest b in let m = more d h none in (m.0, inr (d, refl, m.1))
    go at (a_text t) h more = let m = more b h none in (m.0, inr (b, refl, m.1))

-- a book that closes has a pattern
closes_some : (c b : Book) (at : ℕ) → closes c at ≡ Ok b → 0 < count_of c
closes_some c b at h = grind (arith, nat_tests)

closed_some : (c b : Book) (is : List Item) (s : Option Fault) (n : ℕ) → closed_at c is s n ≡ Ok b → 0 < count_of c
closed_some c b [] None n h = closes_some c b n h
closed_some c b [] (Some f) n h = cc
closed_some c b (i ∷ is) s n h = closes_some c b i.place h

-- what a job that opens comes from
pub record Opens (job : List ℕ) (b : Book) : Type 0 where
  pub short : length job ≤ max_job
  pub book : Book
  pub fills : fill empty (heading (reading job 0).items) ≡ Ok book
  pub closes : closed_at book (texts_from (reading job 0).items) (reading job 0).stop (length job) ≡ Ok b

pub opened_opens : (job : List ℕ) (b : Book) → opened job ≡ Ok b → Opens job b
opened_opens job b h =
    let r = reading job 0 in
    let short : length job ≤ max_job = grind (arith, nat_tests) in
    go short (fill empty (heading r.items)) refl (sym (cond-false (ltb max_job (length job)) _ _ (le-ltb max_job (length job) short)) ∙ h)
  where
    go : length job ≤ max_job → (x : Result Book Fault) → fill empty (heading (reading job 0).items) ≡ x → and_then x (λ c. closed_at c (texts_from (reading job 0).items) (reading job 0).stop (length job)) ≡ Ok b → Opens job b
    go short (Ok c) e k = record { short = short; book = c; fills = e; closes = k }
    go short (Err f) e k = cc

pub opened_lacks : (job : List ℕ) (b : Book) → opened job ≡ Ok b → (f : Fault) × MemoryFault job f
opened_lacks job b h =
    let r = reading job 0 in
    let o = opened_opens job b h in
    let m = fill_lacks (heading r.items) empty o.book o.fills refl (closed_some o.book b (texts_from r.items) r.stop (length job) o.closes) in
    (m.0, (o.short, m.1))
