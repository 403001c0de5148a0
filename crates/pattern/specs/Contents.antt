-- contents t      the book that a table holds
-- empty           a new book: no patterns, of the kind first entered
-- of_kind k b     the book b with the kind k
-- longest t       the ids in the longest order
-- entries t       the ids in order of entry
-- Sound t         what is true of the table of every book
use Rattle.std.specs.Prelude.{◌≡◌, ℕ, List, [], map, vec_items}
use Rattle.rules.specs.declared.primitives.MatchKind.{MatchKind}
use Rattle.rules.specs.declared.primitives.MatchKind.TheVariants.{LeftmostFirst}
use Rattle.rules.specs.Book.{Book, count_of, total, shortest, Within}
use Rattle.pattern.specs.declared.pattern_table.PatternTable.{PatternTable}
use Rattle.pattern.specs.Order.{first_to, longest_to, LongestOrder}

abbrev pub contents : PatternTable → Book
contents t = record { kind = t.kind; patterns = map (λ v. vec_items v) (vec_items t.by_id) }

abbrev pub empty : Book
empty = record { kind = LeftmostFirst; patterns = [] }

abbrev pub of_kind : MatchKind → Book → Book
of_kind k b = record { kind = k; patterns = b.patterns }

abbrev pub longest : PatternTable → List ℕ
longest t = vec_items t.order

abbrev pub entries : PatternTable → List ℕ
entries t = vec_items t.entered

pub record Sound (t : PatternTable) : Type 0 where
  pub summed : t.total_pattern_bytes ≡ total (contents t)
  pub least : t.minimum_len ≡ shortest (contents t)
  pub ordered : LongestOrder (contents t) (longest t)
  pub kept : longest t ≡ longest_to (contents t) (count_of (contents t))
  pub listed : entries t ≡ first_to (count_of (contents t))
  pub within : Within (contents t)
