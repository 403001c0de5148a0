use Rattle.std.proofs.Common.{◌≡◌, ◌+◌, ◌∙◌, arith, rules}
use Rattle.vector.proofs.Simd.{front_row, made_row}
use Rattle.vector.proofs.array.front.Goals as goal

pub returns-in-Some : goal.returns-in-Some
returns-in-Some c = c.in-Some.ensures.cases.same ∙ front_row c.args.s.now c.in-Some.ensures.cases.enough

pub returns-in-None : goal.returns-in-None
returns-in-None c = made_row c.from_fn.ensures.items (λ i y f' h k. let z : 0 + i ≡ i = omega arith in search rules)
