-- tallies t            the tallies that a table holds, by rising id
-- IsWithinLimits t n   the tallies of the table t are within the limits of an intake that accepted n texts
use Rattle.std.specs.Prelude.{◌≡◌, ℕ, ◌*◌, ◌≤◌, List, length, map, sum}
use Rattle.rules.specs.Limits.{max_patterns, max_text, max_texts}
use Rattle.intake.specs.declared.tally_table.TallyTable.{TallyTable}

abbrev pub tallies : TallyTable → List ℕ
tallies t = map (λ r. r.hits) t.records

-- each hit has a byte of its text
pub record IsWithinLimits (t : TallyTable) (n : ℕ) : Type 0 where
  pub many : length (tallies t) ≡ max_patterns
  pub few : n ≤ max_texts
  pub room : sum (tallies t) ≤ max_text * n
