-- searcher_of s c   the searcher with the number s, and with the mask count c where it has masks
-- permits b x       whether the book b permits the searcher x, which may have a mask count
use Rattle.std.specs.Prelude.{ℕ, Bool, true, Some, None, Option, ◌==◌, if◌then◌else◌}
use Rattle.rules.specs.Book.{Book}
use Rattle.rules.specs.Book as book
use Rattle.host.specs.declared.searcher.SearcherKind.{SearcherKind}
use Rattle.host.specs.declared.searcher.SearcherKind.TheVariants.{Plain, RollingHash, Masks}

abbrev pub searcher_of : ℕ → ℕ → Option SearcherKind
searcher_of s c =
    if s == 0 then Some Plain
    else if s == 1 then Some RollingHash
    else if s == 2 then Some (Masks c)
    else None

abbrev pub permits : Book → SearcherKind → Bool
permits b Plain = true
permits b RollingHash = true
permits b (Masks c) = book.permits b c
