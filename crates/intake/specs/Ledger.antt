-- The ledger: a plain model of an intake. It is fed a book and the arguments of each call, keeps the texts accepted so far,
-- and says what each call answers and what its list of hits then holds.
-- hits_with i ms       how many of the hits ms are of the pattern i
-- State                the book, which no call changes, and the texts accepted so far
-- starts b             the state at the making of an intake over the book b
-- accepts s t          the state once the text t is accepted
-- used s               how many texts were accepted, which the greatest number of texts bounds
-- hits_of s i          how many hits of the pattern i the listings of all its texts have
-- scan_answer b n t k  what a scan of t into a list of k hits answers once n texts count: the first refusal that is due, else the number of hits
-- hits_after b t hs r  what the list hs holds after a scan of t that answered r
-- tally_answer s i     what a call for the tally of the pattern i answers
-- Asked                a call, by its arguments
-- Told                 what came back, a refusal by its number
-- scan_of s t hs       what a scan of t into the list hs answers in the state s
-- tells s a            what the ledger tells in the state s
-- adds s a             its state then
use Rattle.std.specs.Prelude.{ℕ, cond, List, [], ◌∷◌, ◌++◌, length, drop, is_ok, Ok, Err, sum_by, count_by, Result, nat_eq, nat_le, nat_lt}
use Rattle.rules.specs.declared.primitives.Match.{Match}
use Rattle.rules.specs.declared.fault.Refusal.{Refusal}
use Rattle.rules.specs.declared.fault.Refusal.TheVariants.{TextTooLong, TooManyTexts, HitsTooShort, UnknownPattern}
use Rattle.rules.specs.Limits.{max_text, max_texts}
use Rattle.rules.specs.Book.{Book, count_of}
use Rattle.rules.specs.Search.{id_of}
use Rattle.rules.specs.Listing.{listing}
use Rattle.rules.specs.Faults.{numbered}

abbrev pub hits_with : ℕ → List Match → ℕ
hits_with i ms = count_by (λ m. nat_eq (id_of m) i) ms

pub record State : Type 0 where
  pub book : Book
  pub texts : List (List ℕ)

abbrev pub starts : Book → State
starts b = record { book = b; texts = [] }

abbrev pub accepts : State → List ℕ → State
accepts s t = record { book = s.book; texts = s.texts ++ t ∷ [] }

abbrev pub used : State → ℕ
used s = length s.texts

abbrev pub hits_of : State → ℕ → ℕ
hits_of s i = sum_by (λ t. hits_with i (listing s.book t)) s.texts

abbrev pub scan_answer : Book → ℕ → List ℕ → ℕ → Result ℕ Refusal
scan_answer b n t k =
    cond (nat_lt max_text (length t)) (Err TextTooLong)
    (cond (nat_le max_texts n) (Err TooManyTexts)
    (cond (nat_lt k (length (listing b t))) (Err HitsTooShort) (Ok (length (listing b t)))))

-- the listing in front, its old entries after it; a refusal leaves it
abbrev pub hits_after : {X E : Type 0} → Book → List ℕ → List Match → Result X E → List Match
hits_after b t hs r = cond (is_ok r) (listing b t ++ drop (length (listing b t)) hs) hs

abbrev pub tally_answer : State → ℕ → Result ℕ Refusal
tally_answer s i = cond (nat_lt i (count_of s.book)) (Ok (hits_of s i)) (Err UnknownPattern)

-- a text and a list for its hits, or an id
pub data Asked : Type 0 where
  ask_scan : List ℕ → List Match → Asked
  ask_tally : ℕ → Asked

-- the answer, and of a scan the list
pub data Told : Type 0 where
  told_scan : Result ℕ ℕ → List Match → Told
  told_tally : Result ℕ ℕ → Told

abbrev pub scan_of : State → List ℕ → List Match → Result ℕ Refusal
scan_of s t hs = scan_answer s.book (used s) t (length hs)

abbrev pub tells : State → Asked → Told
tells s (ask_scan t hs) = told_scan (numbered (scan_of s t hs)) (hits_after s.book t hs (scan_of s t hs))
tells s (ask_tally i) = told_tally (numbered (tally_answer s i))

abbrev pub adds : State → Asked → State
adds s (ask_scan t hs) = cond (is_ok (scan_of s t hs)) (accepts s t) s
adds s (ask_tally i) = s
