-- Calls of an intake in any order, from its making on, and what is true after them.
-- Event            a call, and what came back
-- after s es       the ledger's state after the events es
-- Past             what has been since the making of an intake: the book that it was made over, and the events
-- made_over b      the past of an intake that was just made over the book b
-- then p a t       the past p, and then the call a that came back with t
-- state p          the ledger's state after the past p
-- Covered b a t    the hits that an accepted text's list begins with cover the text
-- ToldSo s es      what came back of each call is what the ledger tells, and the hits of an accepted text cover it
-- Holding          what an intake holds
-- used_by m        how many texts it has accepted, which the greatest number of texts bounds
-- tally_in m i     what a call for the tally of the pattern i answers
-- Counted m t m'   m became m' as the text t was accepted: one text more, and each hit raised its tally
-- Keeps s m        the intake m has what the ledger has in the state s
-- Served p m       what is true of the intake m after the past p
use Rattle.std.specs.Prelude.{◌≡◌, ℕ, ◌+◌, ◌<◌, cond, List, [], ◌∷◌, ◌++◌, length, take, Ok, Err, Result, nat_lt, slice_index}
use Rattle.rules.specs.declared.fault.Refusal.{Refusal}
use Rattle.rules.specs.declared.fault.Refusal.TheVariants.{UnknownPattern}
use Rattle.rules.specs.Book.{Book, count_of}
use Rattle.rules.specs.Listing.{listing, Covers}
use Rattle.rules.specs.Entered.{Entered}
use Rattle.intake.specs.Ledger.{State, starts, hits_with, hits_of, Asked, ask_scan, ask_tally, Told, told_scan, told_tally, tells, adds}

pub record Event : Type 0 where
  pub asked : Asked
  pub told : Told

abbrev pub after : State → List Event → State
after s [] = s
after s (e ∷ es) = after (adds s e.asked) es

pub record Past : Type 0 where
  pub first : Book
  pub events : List Event

abbrev pub made_over : Book → Past
made_over b = record { first = b; events = [] }

abbrev pub then : Past → Asked → Told → Past
then p a t = record { first = p.first; events = p.events ++ record { asked = a; told = t } ∷ [] }

abbrev pub state : Past → State
state p = after (starts p.first) p.events

abbrev pub Covered : Book → Asked → Told → Type 0
Covered b (ask_scan t hs) (told_scan (Ok n) hs') = Covers b t (take n hs')
Covered b (ask_scan t hs) (told_scan (Err k) hs') = Unit {0}
Covered b (ask_scan t hs) (told_tally r) = Unit {0}
Covered b (ask_tally i) a = Unit {0}

abbrev pub ToldSo : State → List Event → Type 0
ToldSo s [] = Unit {0}
ToldSo s (e ∷ es) = (e.told ≡ tells s e.asked) × Covered s.book e.asked e.told × ToldSo (adds s e.asked) es

-- its searcher's book, the count of accepted texts, and the tallies by rising id
pub record Holding : Type 0 where
  pub book : Book
  pub accepted : ℕ
  pub tallies : List ℕ

abbrev pub used_by : Holding → ℕ
used_by m = m.accepted

abbrev pub tally_in : Holding → ℕ → Result ℕ Refusal
tally_in m i = cond (nat_lt i (count_of m.book)) (Ok (slice_index m.tallies i)) (Err UnknownPattern)

pub record Counted (m : Holding) (t : List ℕ) (m' : Holding) : Type 0 where
  pub book : m'.book ≡ m.book
  pub count : m'.accepted ≡ m.accepted + 1
  pub tallies : (i : ℕ) → i < count_of m.book → slice_index m'.tallies i ≡ slice_index m.tallies i + hits_with i (listing m.book t)

pub record Keeps (s : State) (m : Holding) : Type 0 where
  pub book : m.book ≡ s.book
  pub count : m.accepted ≡ length s.texts
  pub tallies : (i : ℕ) → i < count_of s.book → slice_index m.tallies i ≡ hits_of s i

pub record Served (p : Past) (m : Holding) : Type 0 where
  pub told : ToldSo (starts p.first) p.events
  pub keeps : Keeps (state p) m
  pub enters : (q t : List ℕ) (at : ℕ) → Entered m.book q t at
