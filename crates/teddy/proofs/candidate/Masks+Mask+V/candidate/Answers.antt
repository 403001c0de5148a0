use Rattle.std.proofs.Common.{◌≡◌, false, eqb, refl, arith}
use Rattle.std.proofs.lemmas.Bool.Decides.{nat_tests}
use Rattle.teddy.specs.Candidates.{met}
use Rattle.teddy.proofs.candidate.Masks+Mask+V.candidate.Goals as goal

pub returns-in_default-clause-found : goal.returns-in_default-clause-found
unfolding met
returns-in_default-clause-found g c =
    let n = c.args.self.now.count in
    let e₁ : eqb n 1 ≡ false = grind (arith, nat_tests) in
    let e₂ : eqb n 2 ≡ false = grind (arith, nat_tests) in
    let e₃ : eqb n 3 ≡ false = grind (arith, nat_tests) in
    let given = c.members4-one.ensures in
    rw (e₁, e₂, e₃, c.and-all-in_default.ensures, c.and-in_default.ensures, c.and-early.ensures, c.shift_in_three_bytes.ensures, c.shift_in_two_bytes-in_default.ensures, c.shift_in_one_byte-in_default.ensures, given.one, given.two, given.three, given.four) refl
