-- ServesCall m a t m'         the call a turned what an intake holds, m, into m' and came back with t: whatever past m has served,
--                             m' has served it and then that call
-- Scans m at t hs r hs' m'    a scan of t into the list hs answered r, faults at the place at: hs became hs' and m became m'
use Rattle.std.specs.Prelude.{◌≡◌, ℕ, List, length, Result, MatchResult}
use Rattle.rules.specs.declared.primitives.Match.{Match}
use Rattle.rules.specs.declared.fault.Fault.{Fault}
use Rattle.rules.specs.Faults.{placed}
use Rattle.intake.specs.Ledger.{scan_answer, hits_after, Asked, Told}
use Rattle.intake.specs.History.{Past, then, Holding, used_by, Counted, Served}

unfoldable pub ServesCall : Holding → Asked → Told → Holding → Type 0
ServesCall m a t m' = (p : Past) → Served p m → Served (then p a t) m'

-- the answer is the first refusal that is due or the number of hits; a refusal alters nothing
pub record Scans (m : Holding) (at : ℕ) (t : List ℕ) (hs : List Match) (r : Result ℕ Fault) (hs' : List Match) (m' : Holding) : Type 0 where
  pub book : m'.book ≡ m.book
  pub answer : r ≡ placed at (scan_answer m.book (used_by m) t (length hs))
  pub hits : hs' ≡ hits_after m.book t hs r
  pub after : MatchResult r (λ _. Counted m t m') (λ _. m' ≡ m)
