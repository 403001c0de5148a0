-- How a hit is written for a host.
-- answer_bytes    how many bytes a buffer for a hit has
-- low n           the low four bytes of a number, low byte first
-- match_bytes m   the bytes of a match: its id, start and end
use Rattle.std.specs.Prelude.{ℕ, ◌/◌, ◌%◌, List, [], ◌∷◌, ◌++◌}
use Rattle.rules.specs.declared.primitives.Match.{Match}
use Rattle.rules.specs.Search.{id_of}

abbrev pub answer_bytes : ℕ
answer_bytes = 12

abbrev pub low : ℕ → List ℕ
low n = n % 256 ∷ (n / 256 % 256 ∷ (n / 65536 % 256 ∷ (n / 16777216 % 256 ∷ [])))

abbrev pub match_bytes : Match → List ℕ
match_bytes m = low (id_of m) ++ (low m.start ++ low m.end)
