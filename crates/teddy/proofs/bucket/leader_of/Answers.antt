use Rattle.std.proofs.Common.{◌≡◌, ℕ, Bool, List, Option, Some, None, rules, tests, option_map, find, unwrap_or, ap, ◌∙◌, Bor, MatchOption, arith}
use Rattle.std.proofs.lemmas.Iterator.{YieldsList-from_slice}
use Rattle.std.proofs.lemmas.Iterator.Search.{find_from_yields_List}
use Rattle.rules.specs.Book.{pattern}
use Rattle.teddy.specs.Buckets.{alike, front}
use Rattle.teddy.proofs.Fronts.{alike_is}
use Rattle.teddy.proofs.bucket.leader_of.Goals as goal

-- what a search found, as a value
found_is : (test : ℕ → Bool) (xs : List ℕ) (o : Option (Bor ℕ)) (r : ℕ) → option_map (λ y. y.now) o ≡ find test xs
    → MatchOption o (r ≡ 0) (λ y. r ≡ y.now) → r ≡ unwrap_or (find test xs) 0
found_is test xs None r e is = rw (← e) is
found_is test xs (Some y) r e is = rw (← e) is

pub returns : goal.returns
returns c =
    let b = c.args.book.now in
    let test : ℕ → Bool = λ i. alike (pattern b i) c.args.pattern.now (front b) in
    let xs = c.order.result.now in
    let n : c.min-n.result ≡ front b = omega (arith, c.min-n.ensures, c.minimum_len.ensures) in
    let found : option_map (λ (y : Bor ℕ). y.now) c.find.result ≡ find test xs =
    find_from_yields_List test _ _ c.find.result c.find.ensures.ran (YieldsList-from_slice xs cc) (λ x r q k. search (rules, tests, alike_is, n)) in
    let led : MatchOption c.find.result (c.map_or.result ≡ 0) (λ (y : Bor ℕ). c.map_or.result ≡ y.now) = search rules in
    found_is test xs c.find.result c.map_or.result found led ∙ ap (λ ids. unwrap_or (find test ids) 0) c.order.ensures.same
