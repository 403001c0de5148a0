use Rattle.std.proofs.Common.{◌≡◌, length, subst, ap, arith, below_more}
use Rattle.rules.specs.Search.{OccursAt}
use Rattle.pattern.specs.Order.{order_in, ReadingOrder}
use Rattle.finder.proofs.Choosing.{read, TriedAt, chosen, none}
use Rattle.finder.proofs.plain.Plain.find_here.Goals as goal
use Rattle.finder.proofs.plain.Plain.find_here.Goals.{After-order-order}

same : (c : After-order-order) → c.order-order.result.now ≡ order_in c.args.self.now.book.value
same c = rw c.deref.ensures at c.order-order.ensures.same

order : (c : After-order-order) → TriedAt c.args.self.now.book.value c.args.text.now c.args.start (order_in c.args.self.now.book.value)
order c =
    let o = subst (ReadingOrder c.args.self.now.book.value) (same c) (rw c.deref.ensures at c.order-order.ensures.order) in
    record { all = λ j here. o.all j here.known; preferred = o.preferred }

pub returns-in-Some : goal.returns-in-Some
returns-in-Some c =
    let v = rw c.deref-in-loop-i.ensures at c.in-Some.ensures in
    let before = (goal.at.returns-in-Some c).After-order-order in
    chosen (order before) c.loop-i.i c.index-order-i.result (read c.index-order-i.is c.loop-i-test.true (same before)) v.0 c.loop-i.invariant c.in-Some.hit v.1

pub loop-i-preserved : goal.loop-i-preserved
loop-i-preserved c =
    let is = read c.index-order-i.is c.loop-i-test.true (same (goal.at.loop-i-preserved c).After-order-order) in
    below_more _ _ c.loop-i.invariant (subst (λ k. OccursAt c.args.self.now.book.value c.args.text.now k c.args.start → ⊥) is (rw c.deref-in-loop-i.ensures at c.in_default.ensures))

pub returns : goal.returns
returns c =
    let before = (goal.at.returns c).After-order-order in
    none (order before) (λ j l. c.loop-i.invariant j (omega (arith, ap length (same before), c.loop-i-test.false)))
