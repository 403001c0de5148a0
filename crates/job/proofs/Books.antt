-- The book to which a written job opens, or its first fault.
use Rattle.std.proofs.Common.{◌≡◌, ℕ, suc, ◌+◌, ◌<◌, ◌≤◌, ltb, true, false, ◌⊎◌, List, [], ◌∷◌, ◌++◌, length, get_or, Some, None, Ok, Err, Option, Result, sym, refl, ap, ◌∙◌, subst, inl, inr, append_assoc, append-nil, length-append, add-zero, zero-add, sum_by, arith}
use Rattle.std.proofs.lemmas.Bool.{cond-false, le-ltb}
use Rattle.std.proofs.lemmas.Bool.Decides.{nat_tests}
use Rattle.std.proofs.lemmas.Grind.{common_steps}
use Rattle.std.proofs.lemmas.List.{get_or-append-add}
use Rattle.std.proofs.lemmas.List.Elements.{All-nil, All-cons, All-head, All-tail}
use Rattle.std.proofs.lemmas.List.Sums.{sum_by-append, sum_by-cons}
use Rattle.rules.specs.declared.fault.Fault.{Fault}
use Rattle.rules.specs.declared.fault.Refusal.{Refusal}
use Rattle.rules.specs.declared.fault.Refusal.TheVariants.{NoPatterns, JobTooLong}
use Rattle.rules.specs.declared.primitives.MatchKind.{MatchKind}
use Rattle.rules.specs.declared.primitives.MatchKind.TheVariants.{LeftmostFirst, LeftmostLongest}
use Rattle.rules.specs.Limits.{max_patterns, max_bytes, max_job}
use Rattle.rules.specs.Book.{Book, count_of, total, Within}
use Rattle.rules.specs.Entered.{enter}
use Rattle.rules.specs.Faults.{refused}
use Rattle.pattern.specs.Contents.{empty, of_kind}
use Rattle.pattern.specs.Entering.{entering}
use Rattle.job.specs.Format.{Entry, a_pattern, kind_first, kind_longest, a_text}
use Rattle.job.specs.Reading.{Item}
use Rattle.job.specs.Texts.{is_text, heading, texts_from}
use Rattle.job.specs.Opening.{entered_or, and_then, fill, closes, closed_at, opening, opened}
use Rattle.job.specs.Written.{body, written, job_of, items_of, Stopped}
use Rattle.job.specs.Opens.{patterns_of, last_kind, book_in, NoText, BeginWith, ClosedAt, at_text, at_end, OpensTo, FirstFault, pattern_refused, no_patterns, stopped, OpensAs}
use Rattle.job.proofs.Written.{reads_back}

-- the book b with the records es before the first text entered
abbrev grown : Book → List Entry → Book
grown b es = record { kind = last_kind b.kind es; patterns = b.patterns ++ patterns_of es }

grown_none : (b : Book) → grown b [] ≡ b
grown_none b = λ i. record { kind = b.kind; patterns = append-nil b.patterns i }

grown_pattern : (b : Book) (p : List ℕ) (es : List Entry) → grown (enter b p) es ≡ grown b (a_pattern p ∷ es)
grown_pattern b p es = λ i. record { kind = last_kind b.kind es; patterns = append_assoc b.patterns (p ∷ []) (patterns_of es) i }

-- a pattern is entered exactly where the bounds hold on
record Fits (b : Book) (p : List ℕ) : Type 0 where
  some : 0 < length p
  few : count_of b < max_patterns
  short : total b + length p ≤ max_bytes

fits : (b : Book) (p : List ℕ) → entering b p ≡ None → Fits b p
fits b p h = record { some = grind (arith, nat_tests); few = grind (arith, nat_tests); short = grind (arith, nat_tests) }

fits_enters : (b : Book) (p : List ℕ) → Fits b p → entering b p ≡ None
fits_enters b p f = let some = f.some in let few = f.few in let short = f.short in grind (arith, nat_tests)

within_more : (b : Book) (p : List ℕ) → Within b → Fits b p → Within (enter b p)
within_more b p w f = let some = f.some in let few = f.few in let short = f.short in grind (arith, common_steps)

within_fits : (b : Book) (p : List ℕ) (es : List Entry) → Within (grown b (a_pattern p ∷ es)) → Fits b p
within_fits b p es w =
    let ps = patterns_of es in
    let long : length (b.patterns ++ p ∷ ps) ≡ length b.patterns + suc (length ps) = length-append b.patterns (p ∷ ps) in
    let sum : sum_by length (b.patterns ++ p ∷ ps) ≡ sum_by length b.patterns + (length p + sum_by length ps) = sum_by-append length b.patterns (p ∷ ps) ∙ ap (λ n. sum_by length b.patterns + n) (sum_by-cons length p ps) in
    let here : get_or (b.patterns ++ p ∷ ps) (count_of b) [] ≡ p = sym (ap (λ n. get_or (b.patterns ++ p ∷ ps) n []) (let e : count_of b + 0 ≡ count_of b = omega arith in e)) ∙ get_or-append-add b.patterns (p ∷ ps) 0 [] in
    record {
      some = omega (arith, w.some (count_of b) (omega (arith, long)), ap length here);
      few = omega (arith, w.few, long);
      short = omega (arith, w.short, sum);
    }

within_none : (k : MatchKind) (ps : List (List ℕ)) → length ps ≡ 0 → Within (record { kind = k; patterns = ps })
within_none k [] h = record { some = λ i l. absurd (omega (arith, l)); few = omega arith; short = omega arith }
within_none k (p ∷ ps) h = absurd (omega (arith, h))

none_behind : (e : Entry) (es : List Entry) → NoText (e ∷ es) → NoText es
none_behind e es h = All-tail (λ y. is_text y ≡ false) e es h

no_text : (t : List ℕ) (es : List Entry) → NoText (a_text t ∷ es) → ⊥
no_text t es h = let no : true ≡ false = All-head (λ y. is_text y ≡ false) (a_text t) es h in cc

-- a record in front
job_more : (e : Entry) (es : List Entry) → length (job_of (e ∷ es)) ≡ 4 + length (body e) + length (job_of es)
job_more e es = let long : length (written e) ≡ 4 + length (body e) = grind (arith, length-append) in omega (arith, long, length-append (written e) (job_of es))

begin_more : (e x : Entry) (es xs : List Entry) → is_text e ≡ false → BeginWith es xs x → BeginWith (e ∷ es) (e ∷ xs) x
begin_more e x es xs other h = record { others = h.others; parts = ap (λ ys. e ∷ ys) h.parts; before = All-cons (λ y. is_text y ≡ false) e xs other h.before }

begin_here : (e : Entry) (es : List Entry) → BeginWith (e ∷ es) [] e
begin_here e es = record { others = es; parts = refl; before = All-nil (λ y. is_text y ≡ false) }

-- f is the refusal of one of the patterns among the records es, of which the first stands at a place and those before it are entered
-- into the book b
record Refused (b : Book) (at : ℕ) (es : List Entry) (f : Fault) : Type 0 where
  xs : List Entry
  p : List ℕ
  why : Refusal
  begins : BeginWith es xs (a_pattern p)
  within : Within (grown b xs)
  refuses : entering (grown b xs) p ≡ Some why
  fault : f ≡ refused (at + length (job_of xs)) why

refused_more : (b c : Book) (at : ℕ) (e : Entry) (es : List Entry) (f : Fault) → is_text e ≡ false → ((xs : List Entry) → grown c xs ≡ grown b (e ∷ xs)) → Refused c (at + 4 + length (body e)) es f → Refused b at (e ∷ es) f
refused_more b c at e es f other same r = record {
  xs = e ∷ r.xs;
  p = r.p;
  why = r.why;
  begins = begin_more e (a_pattern r.p) es r.xs other r.begins;
  within = subst Within (same r.xs) r.within;
  refuses = sym (ap (λ d. entering d r.p) (same r.xs)) ∙ r.refuses;
  fault = r.fault ∙ ap (λ n. refused n r.why) (omega (arith, job_more e r.xs));
}

-- the records before the texts are entered, or one is refused
abbrev Fills : Book → ℕ → List Entry → Type 0
Fills b at es = ((fill b (heading (items_of at es)) ≡ Ok (grown b es)) × Within (grown b es)) ⊎ ((f : Fault) × (fill b (heading (items_of at es)) ≡ Err f) × Refused b at es f)

-- filling a book from a pattern on, by whether it is refused
abbrev after : Book → ℕ → List ℕ → List Entry → Option Refusal → Result Book Fault
after b at p es o = and_then (entered_or b at p o) (λ d. fill d (heading (items_of (at + 4 + length p) es)))

-- a record in front that is entered
fills_more : (b c : Book) (at : ℕ) (e : Entry) (es : List Entry) → is_text e ≡ false → fill b (heading (items_of at (e ∷ es))) ≡ fill c (heading (items_of (at + 4 + length (body e)) es)) → ((xs : List Entry) → grown c xs ≡ grown b (e ∷ xs)) → Fills c (at + 4 + length (body e)) es → Fills b at (e ∷ es)
fills_more b c at e es other takes same (inl h) = inl (takes ∙ h.0 ∙ ap Ok (same es), subst Within (same es) h.1)
fills_more b c at e es other takes same (inr (f, h, r)) = inr (f, takes ∙ h, refused_more b c at e es f other same r)

fills : (es : List Entry) (at : ℕ) (b : Book) → Within b → Fills b at es
fills [] at b w = inl (ap Ok (sym (grown_none b)), subst Within (sym (grown_none b)) w)
fills (a_pattern p ∷ es) at b w = go (entering b p) refl (λ w'. fills es (at + 4 + length p) (enter b p) w')
  where
    go : (o : Option Refusal) → entering b p ≡ o → (Within (enter b p) → Fills (enter b p) (at + 4 + length p) es) → Fills b at (a_pattern p ∷ es)
    go None e more = fills_more b (enter b p) at (a_pattern p) es refl (ap (after b at p es) e) (grown_pattern b p) (more (within_more b p w (fits b p e)))
    go (Some k) e more = inr (
      refused at k,
      ap (after b at p es) e,
      record {
        xs = [];
        p = p;
        why = k;
        begins = begin_here (a_pattern p) es;
        within = subst Within (sym (grown_none b)) w;
        refuses = ap (λ d. entering d p) (grown_none b) ∙ e;
        fault = ap (λ n. refused n k) (sym (add-zero at));
      },
    )
fills (kind_first ∷ es) at b w = fills_more b (of_kind LeftmostFirst b) at kind_first es refl refl (λ xs. refl) (fills es (at + 4 + 0) (of_kind LeftmostFirst b) (record { some = w.some; few = w.few; short = w.short }))
fills (kind_longest ∷ es) at b w = fills_more b (of_kind LeftmostLongest b) at kind_longest es refl refl (λ xs. refl) (fills es (at + 4 + 0) (of_kind LeftmostLongest b) (record { some = w.some; few = w.few; short = w.short }))
fills (a_text t ∷ es) at b w = inl (ap Ok (sym (grown_none b)), subst Within (sym (grown_none b)) w)

-- and the other way round: records within the bounds are entered
entered : (es : List Entry) (at : ℕ) (b : Book) → Within (grown b es) → fill b (heading (items_of at es)) ≡ Ok (grown b es)
entered [] at b w = ap Ok (sym (grown_none b))
entered (a_pattern p ∷ es) at b w =
    ap (after b at p es) (fits_enters b p (within_fits b p es w))
    ∙ entered es (at + 4 + length p) (enter b p) (subst Within (sym (grown_pattern b p es)) w)
    ∙ ap Ok (grown_pattern b p es)
entered (kind_first ∷ es) at b w = entered es (at + 4 + 0) (of_kind LeftmostFirst b) w
entered (kind_longest ∷ es) at b w = entered es (at + 4 + 0) (of_kind LeftmostLongest b) w
entered (a_text t ∷ es) at b w = ap Ok (sym (grown_none b))

-- and behind them a pattern is refused
refuses : (xs : List Entry) (at : ℕ) (b : Book) (p : List ℕ) (k : Refusal) (others : List Entry) → NoText xs → Within (grown b xs) → entering (grown b xs) p ≡ Some k → fill b (heading (items_of at (xs ++ a_pattern p ∷ others))) ≡ Err (refused (at + length (job_of xs)) k)
refuses [] at b p k others none w h =
    ap (after b at p others) (sym (ap (λ d. entering d p) (grown_none b)) ∙ h)
    ∙ ap (λ n. Err (refused n k)) (sym (add-zero at))
refuses (a_pattern q ∷ xs) at b p k others none w h =
    ap (after b at q (xs ++ a_pattern p ∷ others)) (fits_enters b q (within_fits b q xs w))
    ∙ refuses xs (at + 4 + length q) (enter b q) p k others (none_behind (a_pattern q) xs none) (subst Within (sym (grown_pattern b q xs)) w) (ap (λ d. entering d p) (grown_pattern b q xs) ∙ h)
    ∙ ap (λ n. Err (refused n k)) (omega (arith, job_more (a_pattern q) xs))
refuses (kind_first ∷ xs) at b p k others none w h = refuses xs (at + 4 + 0) (of_kind LeftmostFirst b) p k others (none_behind kind_first xs none) w h ∙ ap (λ n. Err (refused n k)) (omega (arith, job_more kind_first xs))
refuses (kind_longest ∷ xs) at b p k others none w h = refuses xs (at + 4 + 0) (of_kind LeftmostLongest b) p k others (none_behind kind_longest xs none) w h ∙ ap (λ n. Err (refused n k)) (omega (arith, job_more kind_longest xs))
refuses (a_text t ∷ xs) at b p k others none w h = absurd (no_text t xs none)

-- the texts: there are none, or a first one
data Texts (es : List Entry) : Type 0 where
  no_texts : NoText es → Texts es
  some_text : (xs : List Entry) (t : List ℕ) → BeginWith es xs (a_text t) → Texts es

texts_more : (e : Entry) (es : List Entry) → is_text e ≡ false → Texts es → Texts (e ∷ es)
texts_more e es other (no_texts h) = no_texts (All-cons (λ y. is_text y ≡ false) e es other h)
texts_more e es other (some_text xs t h) = some_text (e ∷ xs) t (begin_more e (a_text t) es xs other h)

texts_in : (es : List Entry) → Texts es
texts_in [] = no_texts (All-nil (λ y. is_text y ≡ false))
texts_in (a_pattern p ∷ es) = texts_more (a_pattern p) es refl (texts_in es)
texts_in (kind_first ∷ es) = texts_more kind_first es refl (texts_in es)
texts_in (kind_longest ∷ es) = texts_more kind_longest es refl (texts_in es)
texts_in (a_text t ∷ es) = some_text [] t (begin_here (a_text t) es)

texts_none : (es : List Entry) (at : ℕ) → NoText es → texts_from (items_of at es) ≡ []
texts_none [] at h = refl
texts_none (a_pattern p ∷ es) at h = texts_none es (at + 4 + length p) (none_behind (a_pattern p) es h)
texts_none (kind_first ∷ es) at h = texts_none es (at + 4 + 0) (none_behind kind_first es h)
texts_none (kind_longest ∷ es) at h = texts_none es (at + 4 + 0) (none_behind kind_longest es h)
texts_none (a_text t ∷ es) at h = absurd (no_text t es h)

-- a book is closed at the first text
closed_some : (c : Book) (xs : List Entry) (at : ℕ) (t : List ℕ) (others : List Entry) (s : Option Fault) (n : ℕ) → NoText xs → closed_at c (texts_from (items_of at (xs ++ a_text t ∷ others))) s n ≡ closes c (at + length (job_of xs))
closed_some c [] at t others s n h = ap (closes c) (sym (add-zero at))
closed_some c (a_pattern p ∷ xs) at t others s n h = closed_some c xs (at + 4 + length p) t others s n (none_behind (a_pattern p) xs h) ∙ ap (closes c) (omega (arith, job_more (a_pattern p) xs))
closed_some c (kind_first ∷ xs) at t others s n h = closed_some c xs (at + 4 + 0) t others s n (none_behind kind_first xs h) ∙ ap (closes c) (omega (arith, job_more kind_first xs))
closed_some c (kind_longest ∷ xs) at t others s n h = closed_some c xs (at + 4 + 0) t others s n (none_behind kind_longest xs h) ∙ ap (closes c) (omega (arith, job_more kind_longest xs))
closed_some c (a_text u ∷ xs) at t others s n h = absurd (no_text u xs h)

-- a book that closes has a pattern, and one that has none does not
closes_ok : (c b : Book) (at : ℕ) → closes c at ≡ Ok b → (b ≡ c) × (0 < count_of c)
closes_ok c b at h = (grind (arith, nat_tests), grind (arith, nat_tests))

ok_closes : (c : Book) (at : ℕ) → 0 < count_of c → closes c at ≡ Ok c
ok_closes c at h = grind (arith, nat_tests)

closes_err : (c : Book) (f : Fault) (at : ℕ) → closes c at ≡ Err f → (count_of c ≡ 0) × (f ≡ refused at NoPatterns)
closes_err c f at h = (grind (arith, nat_tests), grind (arith, nat_tests))

err_closes : (c : Book) (at : ℕ) → count_of c ≡ 0 → closes c at ≡ Err (refused at NoPatterns)
err_closes c at h = grind (arith, nat_tests)

-- where the book of a job of n bytes is closed
at_closing : (c : Book) (es : List Entry) (s : Option Fault) (n at : ℕ) → (s ≡ None → n ≡ length (job_of es)) → ClosedAt es s at → closed_at c (texts_from (items_of 0 es)) s n ≡ closes c at
at_closing c es s n at long (at_text xs t h is) =
    ap (λ ys. closed_at c (texts_from (items_of 0 ys)) s n) h.parts ∙ closed_some c xs 0 t h.others s n h.before ∙ ap (closes c) (omega (arith, is))
at_closing c es s n at long (at_end h nothing is) =
    ap (λ (is' : List Item). closed_at c is' s n) (texts_none es 0 h) ∙ ap (λ o. closed_at c [] o n) nothing ∙ ap (closes c) (long nothing ∙ sym is)

-- and where it is not
at_stop : (c : Book) (es : List Entry) (s : Option Fault) (n : ℕ) (f : Fault) → NoText es → s ≡ Some f → closed_at c (texts_from (items_of 0 es)) s n ≡ Err f
at_stop c es s n f h is = ap (λ (is' : List Item). closed_at c is' s n) (texts_none es 0 h) ∙ ap (λ o. closed_at c [] o n) is

data Closing (es : List Entry) (s : Option Fault) : Type 0 where
  closing : (at : ℕ) → ClosedAt es s at → Closing es s
  stopping : (f : Fault) → NoText es → s ≡ Some f → Closing es s

closing_in : (es : List Entry) (s : Option Fault) → Closing es s
closing_in es s = go (texts_in es) s
  where
    go : Texts es → (s : Option Fault) → Closing es s
    go (some_text xs t h) s = closing (length (job_of xs)) (at_text xs t h refl)
    go (no_texts h) None = closing (length (job_of es)) (at_end h refl refl)
    go (no_texts h) (Some f) = stopping f h refl

module _ (es : List Entry) (rest : List ℕ) (s : Option Fault) (stops : Stopped rest (length (job_of es)) s) (short : length (job_of es ++ rest) ≤ max_job) where
  abbrev job : List ℕ
  job = job_of es ++ rest

  abbrev behind : Book → Result Book Fault
  behind c = closed_at c (texts_from (items_of 0 es)) s (length job)

  opened_is : opened job ≡ and_then (fill empty (heading (items_of 0 es))) behind
  opened_is = cond-false (ltb max_job (length job)) _ _ (le-ltb max_job (length job) short) ∙ ap (λ r. opening empty r (length job)) (reads_back es rest s stops)

  whole : s ≡ None → length job ≡ length (job_of es)
  whole h = go s h stops
    where
      go : (o : Option Fault) → o ≡ None → Stopped rest (length (job_of es)) o → length job ≡ length (job_of es)
      go None h r = omega (arith, length-append (job_of es) rest, ap length r)
      go (Some f) h r = cc

  -- what comes of the book so far
  comes : (x : Result Book Fault) → fill empty (heading (items_of 0 es)) ≡ x → opened job ≡ and_then x behind
  comes x h = opened_is ∙ ap (λ y. and_then y behind) h

  closed : (at : ℕ) → ClosedAt es s at → behind (book_in es) ≡ closes (book_in es) at
  closed at c = at_closing (book_in es) es s (length job) at whole c

  book : (b : Book) → opened job ≡ Ok b → OpensTo es s b
  book b h = go (fills es 0 empty (within_none LeftmostFirst [] refl)) (closing_in es s)
    where
      go : Fills empty 0 es → Closing es s → OpensTo es s b
      go (inl (x, w)) (closing at c) =
          let e = closes_ok (book_in es) b at (sym (closed at c) ∙ sym (comes (Ok (book_in es)) x) ∙ h) in
          record {
            book = e.0;
            within = subst Within (sym e.0) w;
            some = subst (λ d. 0 < count_of d) (sym e.0) e.1;
            closed = (at, c);
          }
      go (inl (x, w)) (stopping f n is) = let e = sym (at_stop (book_in es) es s (length job) f n is) ∙ sym (comes (Ok (book_in es)) x) ∙ h in cc
      go (inr (f, x, r)) c = let e = sym (comes (Err f) x) ∙ h in cc

  book_back : (b : Book) → OpensTo es s b → opened job ≡ Ok b
  book_back b o =
      comes (Ok (book_in es)) (entered es 0 empty (subst Within o.book o.within))
      ∙ closed o.closed.0 o.closed.1
      ∙ ok_closes (book_in es) o.closed.0 (subst (λ d. 0 < count_of d) o.book o.some)
      ∙ ap Ok (sym o.book)

  fault : (f : Fault) → opened job ≡ Err f → FirstFault es s f
  fault f h = go (fills es 0 empty (within_none LeftmostFirst [] refl)) (closing_in es s)
    where
      go : Fills empty 0 es → Closing es s → FirstFault es s f
      go (inl (x, w)) (closing at c) = let e = closes_err (book_in es) f at (sym (closed at c) ∙ sym (comes (Ok (book_in es)) x) ∙ h) in no_patterns at c e.0 e.1
      go (inl (x, w)) (stopping g n is) =
          let e = sym (at_stop (book_in es) es s (length job) g n is) ∙ sym (comes (Ok (book_in es)) x) ∙ h in
          let same : g ≡ f = cc in
          stopped n w (is ∙ ap Some same)
      go (inr (g, x, r)) c =
          let e = sym (comes (Err g) x) ∙ h in
          let same : f ≡ g = cc in
          pattern_refused r.xs r.p r.why r.begins r.within r.refuses (same ∙ r.fault ∙ ap (λ n. refused n r.why) (zero-add (length (job_of r.xs))))

  fault_back : (f : Fault) → FirstFault es s f → opened job ≡ Err f
  fault_back f (pattern_refused xs p k b w ref is) =
      comes (Err (refused (0 + length (job_of xs)) k)) (ap (λ ys. fill empty (heading (items_of 0 ys))) b.parts ∙ refuses xs 0 empty p k b.others b.before w ref)
      ∙ ap (λ n. Err (refused n k)) (zero-add (length (job_of xs)))
      ∙ ap Err (sym is)
  fault_back f (no_patterns at c none is) =
      comes (Ok (book_in es)) (entered es 0 empty (within_none _ _ none)) ∙ closed at c ∙ err_closes (book_in es) at none ∙ ap Err (sym is)
  fault_back f (stopped n w is) = comes (Ok (book_in es)) (entered es 0 empty w) ∙ at_stop (book_in es) es s (length job) f n is

pub opens_so : (es : List Entry) (rest : List ℕ) (s : Option Fault) → Stopped rest (length (job_of es)) s → length (job_of es ++ rest) ≤ max_job → OpensAs (job_of es ++ rest) es s
opens_so es rest s stops short = record {
  book = λ b. (book es rest s stops short b, book_back es rest s stops short b);
  fault = λ f. (fault es rest s stops short f, fault_back es rest s stops short f);
}

pub too_long : (job : List ℕ) → max_job < length job → opened job ≡ Err (refused 0 JobTooLong)
too_long job h = grind (arith, nat_tests)
