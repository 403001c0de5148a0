-- The worked examples hold.
use Rattle.std.proofs.Common.{◌≡◌, ℕ, [], None, sym, refl, arith}
use Rattle.rules.specs.Book.{Book, Within}
use Rattle.rules.specs.Search.{id_of, choice, found_within, found}
use Rattle.rules.specs.Listing.{hits_from, rest}
use Rattle.rules.proofs.Rule.{found_unique}
use Rattle.vector.specs.Lanes.{row}
use Rattle.teddy.specs.Examples.{Lines}

none_in_empty : (b : Book) → Within b → (from : ℕ) → found b [] from ≡ None
none_in_empty b within from = sym (found_unique b [] from None (λ o h le. omega (arith, h.here.stands.0, within.some (id_of o) h.here.known)))

pub lines : Lines
unfolding choice found_within found hits_from rest row
lines = record {
  one = refl;
  two = refl;
  three = refl;
  four = (refl, refl, refl, refl);
  five = (refl, refl);
  six = (refl, refl);
  seven = none_in_empty;
  eight = (refl, refl);
  nine = (refl, refl, refl);
  nine_longest = (refl, refl, refl);
  ten = (refl, refl, refl);
  eleven = refl;
}
