-- The first bytes of a pattern, and their hash where it stands in a text.
use Rattle.std.proofs.Common.{◌≡◌, ℕ, ◌+◌, ◌-◌, ◌^◌, ◌<◌, ◌≤◌, min, List, [], length, take, drop, sym, ap, ◌∙◌}
use Rattle.std.specs.List.{fold, slice_index_or}
use Rattle.rules.specs.declared.primitives.MatchKind.TheVariants.{LeftmostFirst}
use Rattle.std.proofs.lemmas.Grind.{get_or_default_zero}
use Rattle.std.proofs.lemmas.List.{take-append-le, length-take-le}
use Rattle.std.proofs.lemmas.List.Prefix.{at_from_reads}
use Rattle.rules.specs.Book.{Book, count_of, pattern, shortest}
use Rattle.rules.specs.Search.{Stands}
use Rattle.pattern.proofs.Shortest.{shortest_le}
use Rattle.rabinkarp.specs.Hash.{hash_of, window}
use Rattle.rabinkarp.specs.Prefixes.{prefix_hash}

-- a pattern has as many bytes as the shortest has
pub front_fits : (ps : List (List ℕ)) (i : ℕ) → i < length ps → fold (λ m p. min m (length p)) (2 ^ 64 - 1) ps ≤ length (slice_index_or ps i [])
front_fits ps i l = shortest_le record { kind = LeftmostFirst; patterns = ps } i l

-- a pattern that stands at a place has the hash of the window there
pub standing_hash : (b : Book) (t : List ℕ) (i s : ℕ) → i < count_of b → Stands (pattern b i) t s → prefix_hash b i ≡ hash_of (window t (shortest b) s)
unfolding prefix_hash
standing_hash b t i s known st =
    let p = pattern b i in
    ap hash_of (sym (ap (take (shortest b)) (at_from_reads 0 t p s st.0 st.1) ∙ take-append-le (shortest b) p (drop (s + length p) t) (shortest_le b i known)))

pub ruleset fronts = (front_fits, get_or_default_zero, length-take-le)
