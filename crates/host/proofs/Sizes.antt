-- A hit lies within a text, and a text within its job.
use Rattle.std.proofs.Common.{◌≡◌, ℕ, ◌≤◌, List, length, Some, None, Ok, Option, ap, arith, length-drop, length-take}
use Rattle.std.proofs.lemmas.Grind.{common_steps}
use Rattle.std.proofs.lemmas.Bool.Decides.{nat_tests}
use Rattle.rules.specs.declared.primitives.Match.{Match}
use Rattle.rules.specs.Limits.{max_job}
use Rattle.rules.specs.Book.{Book, Within}
use Rattle.rules.specs.Search.{found}
use Rattle.rules.proofs.Listings.{found_some}
use Rattle.job.specs.Format.{step}
use Rattle.job.specs.Opening.{opened}
use Rattle.host.specs.declared.searcher.SearcherKind.{SearcherKind}
use Rattle.host.specs.Outcomes.{text_in, text_for, Small}

text_short : (job : List ℕ) (at : ℕ) (t : List ℕ) → text_in (step job at) ≡ Some t → length t ≤ length job
text_short job at t h = grind (arith, nat_tests, common_steps, length-take {A = ℕ}, length-drop {A = ℕ})

text_read : (b : Book) (x : SearcherKind) (o : Option (List ℕ)) (t : List ℕ) → text_for b x o ≡ Ok t → o ≡ Some t
text_read b x (Some u) t h = grind (arith, nat_tests)
text_read b x None t h = grind (arith, nat_tests)

-- a hit in the text for a searcher at which a reader stands, of a job whose book is b
pub small_hit : (job held : List ℕ) (at place : ℕ) (b : Book) (x : SearcherKind) (t : List ℕ) (m : Match) → opened job ≡ Ok b → held ≡ job → Within b → text_for b x (text_in (step held at)) ≡ Ok t → found b t place ≡ Some m → Small m
small_hit job held at place b x t m book same w read h =
    let o = (found_some b t place m h).0 in
    let short : length job ≤ max_job = grind (arith, nat_tests, common_steps) in
    let whole = text_short held at t (text_read b x (text_in (step held at)) t read) in
    let long = ap length same in
    let end : m.end ≤ max_job = omega (arith, o.long, o.here.stands.0) in
    record {
      id = omega (arith, o.here.known, w.few);
      start = omega (arith, o.long);
      end = end;
    }
