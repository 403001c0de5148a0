-- One tally raised.
use Rattle.std.proofs.Common.{◌≡◌, ℕ, List, map, get_or, set}
use Rattle.std.proofs.Math.ListN.{get_or-map}
use Rattle.std.proofs.lemmas.List.{map-set}
use Rattle.intake.specs.declared.tally_table.Tally.{Tally}

-- a tally is what its record has
pub tally_at : (rs : List Tally) (k : ℕ) → get_or (map (λ (r : Tally). r.hits) rs) k 0 ≡ (get_or rs k (record { hits = 0 })).hits
tally_at rs k = get_or-map (λ (r : Tally). r.hits) rs k (record { hits = 0 })

pub tallies_set : (rs : List Tally) (i : ℕ) (r : Tally) → map (λ (r : Tally). r.hits) (set rs i r) ≡ set (map (λ (r : Tally). r.hits) rs) i r.hits
tallies_set rs i r = map-set (λ (r : Tally). r.hits) rs i r
