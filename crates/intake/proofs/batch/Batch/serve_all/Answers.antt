use Rattle.std.proofs.Common.{[], ◌∷◌, ◌++◌, All, length, vec_items, refl, sym, ap, ◌∙◌, subst, append-nil, arith}
use Rattle.std.proofs.lemmas.List.{length_push}
use Rattle.std.proofs.lemmas.List.Elements.{All-push}
use Rattle.intake.specs.History.{Served}
use Rattle.intake.specs.Calls.{following, Outside}
use Rattle.intake.proofs.Runs.{done-push, serves_more}
use Rattle.intake.proofs.batch.Batch.serve_all.Goals as goal

pub loop-call-init : goal.loop-call-init
unfolding following
loop-call-init g c =
    let batch = c.args.self in
    record {
      done = [];
      parts = refl;
      each = omega (arith, batch.replies.ok.0, ap length batch.blank);
      room = omega (arith, ap length c.into_iter-left.ensures.rest, batch.calls.ok.0, batch.room);
      list = refl;
      book = refl;
      outside = subst (All Outside) (sym batch.blank) (λ k d h. absurd (omega (arith, h)));
      served = λ p s. subst (λ es. Served (record { first = p.first; events = es }) c.args.intake.now) (sym (append-nil p.events)) s;
    }

pub loop-call-preserved : goal.loop-call-preserved
loop-call-preserved g c =
    let i = c.loop-call.invariant in
    let call = c.in-Some.call in
    let reply = c.serve.result in
    let old = vec_items c.loop-call.replies in
    let push = c.push_reserved.ensures in
    record {
      done = i.done ++ call ∷ [];
      parts = done-push i.done _ _ _ call c.in-Some.ensures.items i.parts;
      each = omega (arith, push.len, length_push i.done call, i.each);
      room = omega (arith, push.capacity, i.room);
      list = omega (arith, push.capacity, i.list);
      book = c.serve.ensures.book ∙ i.book;
      outside = rw push.items (All-push Outside old reply i.outside c.serve.ensures.outside);
      served = λ p s. serves_more p c.loop-call.intake c.serve.new.intake i.done old (vec_items c.push_reserved.new.self) call reply (omega (arith, c.loop-call.replies.ok.0, i.each)) push.items c.serve.ensures.served (i.served p s);
    }
