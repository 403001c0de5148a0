-- One event more of an intake.
use Rattle.std.specs.Prelude.{slice_index}
use Rattle.std.proofs.Common.{◌≡◌, ℕ, ◌+◌, ◌<◌, ◌≤◌, take, drop, replicate, cond, List, [], ◌∷◌, ◌++◌, length, is_ok, Ok, Err, Result, sym, refl, ap, ◌∙◌, subst, MatchResult, arith}
use Rattle.std.proofs.lemmas.Bool.Decides.{nat_tests}
use Rattle.rules.specs.declared.primitives.Match.{Match}
use Rattle.rules.specs.declared.fault.Fault.{Fault}
use Rattle.rules.specs.declared.fault.Refusal.{Refusal}
use Rattle.rules.specs.Limits.{max_patterns, max_text, max_texts}
use Rattle.rules.specs.Book.{Book, Within, count_of}
use Rattle.rules.specs.Listing.{listing, Covers}
use Rattle.rules.specs.Faults.{placed, numbered, told}
use Rattle.intake.specs.Ledger.{State, starts, hits_with, used, accepts, scan_answer, scan_of, hits_after, tally_answer, Asked, ask_scan, ask_tally, Told, told_scan, told_tally, tells, adds}
use Rattle.intake.specs.History.{Event, after, Past, made_over, then, state, Covered, ToldSo, Holding, used_by, tally_in, Counted, Keeps, Served}
use Rattle.rules.proofs.Listings.{listing_covers}
use Rattle.rules.proofs.Enters.{entered}
use Rattle.intake.specs.Intakes.{ServesCall}
use Rattle.intake.proofs.Scans.{accepted, told_placed, hits_placed, keeps_none, keeps_more, listing_ids, listing_short, written_front}

after_push : (s : State) (es : List Event) (e : Event) → after s (es ++ e ∷ []) ≡ adds (after s es) e.asked
after_push s [] e = refl
after_push s (x ∷ es) e = after_push (adds s x.asked) es e

told_push : (s : State) (es : List Event) (e : Event) → ToldSo s es → e.told ≡ tells (after s es) e.asked → Covered (after s es).book e.asked e.told → ToldSo s (es ++ e ∷ [])
told_push s [] e h k c = (k, c, tt)
told_push s (x ∷ es) e h k c = (h.0, h.1, told_push (adds s x.asked) es e h.2 k c)

pub serves_none : (b : Book) (m : Holding) → m.book ≡ b → m.accepted ≡ 0 → m.tallies ≡ replicate max_patterns 0 → Served (made_over b) m
serves_none b m same none zeros = record { told = tt; keeps = keeps_none b m same none zeros; enters = entered m.book }

-- what was told, what it covers and what is kept are all that is to show
served-push : (p : Past) (a : Asked) (t : Told) (m m' : Holding) → Served p m → t ≡ tells (state p) a → Covered (state p).book a t → Keeps (adds (state p) a) m' → Served (then p a t) m'
served-push p a t m m' s is cover k =
    let e : Event = record { asked = a; told = t } in
    record {
      told = told_push (starts p.first) p.events e s.told is cover;
      keeps = subst (λ x. Keeps x m') (sym (after_push (starts p.first) p.events e)) k;
      enters = entered m'.book;
    }

-- the ledger's scan covers its text
covered_scan : (s : State) → Within s.book → (t : List ℕ) (hs : List Match) → Covered s.book (ask_scan t hs) (tells s (ask_scan t hs))
covered_scan s w t hs = go (scan_of s t hs) refl
  where
    go : (r : Result ℕ Refusal) → r ≡ scan_of s t hs → Covered s.book (ask_scan t hs) (told_scan (numbered r) (hits_after s.book t hs r))
    go (Err k) e = tt
    go (Ok n) e = subst (Covers s.book t) (sym (written_front s.book t _ n (accepted s.book (used s) t (length hs) n e))) (listing_covers s.book w t)

pub served_scan : (p : Past) (at : ℕ) (t : List ℕ) (hs hs' : List Match) (r : Result ℕ Fault) (m m' : Holding) → Within m.book → r ≡ placed at (scan_answer m.book (used_by m) t (length hs)) → hs' ≡ hits_after m.book t hs r → MatchResult r (λ _. Counted m t m') (λ _. m' ≡ m) → Served p m → Served (then p (ask_scan t hs) (told_scan (told r) hs')) m'
served_scan p at t hs hs' r m m' w answer hits done s =
    served-push p (ask_scan t hs) (told_scan (told r) hs') m m' s tells_so (subst (Covered (state p).book (ask_scan t hs)) (sym tells_so) (covered_scan (state p) (subst Within s.keeps.book w) t hs)) (kept (scan_of (state p) t hs) is)
  where
    is : r ≡ placed at (scan_of (state p) t hs)
    is = answer ∙ (λ i. placed at (scan_answer (s.keeps.book i) (s.keeps.count i) t (length hs)))

    tells_so : told_scan (told r) hs' ≡ tells (state p) (ask_scan t hs)
    tells_so = (λ i. told_scan ((ap told is ∙ told_placed at (scan_of (state p) t hs)) i) ((hits ∙ (λ j. hits_after (s.keeps.book j) t hs (is j)) ∙ hits_placed at (state p).book t hs (scan_of (state p) t hs)) i))

    kept : (x : Result ℕ Refusal) → r ≡ placed at x → Keeps (cond (is_ok x) (accepts (state p) t) (state p)) m'
    kept (Ok n) e = keeps_more (state p) m m' t (subst (λ y. MatchResult y (λ _. Counted m t m') (λ _. m' ≡ m)) e done) s.keeps
    kept (Err k) e = subst (Keeps (state p)) (sym (subst (λ y. MatchResult y (λ _. Counted m t m') (λ _. m' ≡ m)) e done)) s.keeps

-- what an intake answers for a tally is the ledger's
tally_is : (s : State) (m : Holding) (i : ℕ) → Keeps s m → tally_in m i ≡ tally_answer s i
tally_is s m i k = let h = k.tallies i in let same = ap count_of k.book in grind (arith, nat_tests)

-- a call for a tally, by what it told
pub answers_tally : (m : Holding) (i : ℕ) (r : Result ℕ ℕ) → r ≡ numbered (tally_in m i) → ServesCall m (ask_tally i) (told_tally r) m
unfolding ServesCall
answers_tally m i r is = λ p s. served-push p (ask_tally i) (told_tally r) m m s (ap told_tally (is ∙ ap numbered (tally_is (state p) m i s.keeps))) tt s.keeps

-- a scan that is refused
pub refuses_scan : (m : Holding) (t : List ℕ) (hs : List Match) (n : ℕ) → Err n ≡ numbered (scan_answer m.book m.accepted t (length hs)) → ServesCall m (ask_scan t hs) (told_scan (Err n) hs) m
unfolding ServesCall
refuses_scan m t hs n is = λ p s. go p s (scan_of (state p) t hs) refl (is ∙ ap numbered (same p s))
  where
    same : (p : Past) → Served p m → scan_answer m.book m.accepted t (length hs) ≡ scan_of (state p) t hs
    same p s = λ i. scan_answer (s.keeps.book i) (s.keeps.count i) t (length hs)

    go : (p : Past) → Served p m → (r : Result ℕ Refusal) → r ≡ scan_of (state p) t hs → Err n ≡ numbered r → Served (then p (ask_scan t hs) (told_scan (Err n) hs)) m
    go p s (Ok k) e f = cc
    go p s (Err k) e f =
        served-push p (ask_scan t hs) (told_scan (Err n) hs) m m s
        (λ i. told_scan ((f ∙ ap numbered e) i) (hits_after (state p).book t hs (e i)))
        tt
        (subst (λ r. Keeps (cond (is_ok r) (accepts (state p) t) (state p)) m) e s.keeps)

-- a scan that is accepted
pub accepts_scan : (m m' : Holding) (t : List ℕ) (hs hs' : List Match) (n : ℕ) → Within m.book → length t ≤ max_text → m.accepted < max_texts → n ≤ length hs → n ≡ length (listing m.book t) → hs' ≡ listing m.book t ++ drop n hs → m'.book ≡ m.book → m'.accepted ≡ m.accepted + 1 → ((k : ℕ) → slice_index m'.tallies k ≡ slice_index m.tallies k + hits_with k (take n hs')) → ServesCall m (ask_scan t hs) (told_scan (Ok n) hs') m'
unfolding ServesCall
accepts_scan m m' t hs hs' n w short few room long written same one raised =
    let front = ap (take n) written ∙ written_front m.book t (drop n hs) n long in
    λ p s. served_scan p 0 t hs hs' (Ok n) m m' w (grind (arith, nat_tests)) (written ∙ (λ i. listing m.book t ++ drop (long i) hs))
    (record { book = same; count = one; tallies = λ i l. raised i ∙ (λ j. slice_index m.tallies i + hits_with i (front j)) })
    s

-- what is needed of the text's hits beside these
pub ruleset scan_steps = (accepts_scan, refuses_scan, written_front, listing_ids, listing_short)
