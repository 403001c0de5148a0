use Rattle.std.proofs.Common.{◌≡◌, ℕ, replicate, get_or, refl, subst, ⊎_elim, arith}
use Rattle.std.proofs.lemmas.Bool.{cases_lt}
use Rattle.std.proofs.lemmas.Grind.{elements}
use Rattle.std.proofs.lemmas.List.{get_or-replicate, get_or_past}
use Rattle.teddy.specs.Buckets.{groups_of}
use Rattle.teddy.proofs.bucket.assign.Goals as goal

zeros : (n i : ℕ) → ◌≡◌ {A = ℕ} (get_or (replicate n 0) i 0) 0
zeros n i = ⊎_elim (λ l. get_or-replicate n i 0 0 l) (λ r. get_or_past (replicate n 0) i 0 (grind (arith, elements))) (cases_lt i n)

pub loop-id-init : goal.loop-id-init
loop-id-init c = record { long = refl; known = λ j l. absurd (omega arith); past = λ i l. zeros 1024 i }

pub returns-clause-known : goal.returns-clause-known
returns-clause-known c i l =
    let order = c.order-id-items.ensures.order in
    let at = order.all i l in
    subst (λ n. get_or c.loop-id.buckets n 0 ≡ (groups_of c.args.book.now).bucket n) at.2 (c.loop-id.invariant.known at.0 (omega (arith, order.long, at.1, c.loop-id-test.false)))
