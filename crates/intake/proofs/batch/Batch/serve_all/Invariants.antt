use Rattle.std.proofs.Common.{◌≡◌, ◌≤◌, List, ◌++◌, All, map, length, vec_items, vec_len, vec_capacity}
use Rattle.std.specs.Vec.Iter.{into_iter_items, into_iter_len}
use Rattle.intake.specs.History.{Past, Served}
use Rattle.intake.specs.declared.calls.Call.{Call}
use Rattle.intake.specs.Calls.{asks, tell, pairs, following, Outside}
use Rattle.intake.proofs.batch.Batch.serve_all.Given as goal

-- `done` are the calls that were made
abbrev pub invariant-loop-call : goal.invariant-loop-call
invariant-loop-call g l =
    record {
      done : List Call;
      parts : done ++ into_iter_items l.left ≡ into_iter_items l.initial.left;
      each : vec_len l.replies ≡ length done;
      room : length (into_iter_items l.initial.left) ≤ vec_capacity l.replies;
      list : vec_capacity l.replies ≡ vec_capacity l.initial.replies;
      book : l.intake.book ≡ l.initial.intake.book;
      outside : All Outside (vec_items l.replies);
      served : (p : Past) → Served p l.initial.intake → Served (following p (pairs (map asks done) (map tell (vec_items l.replies)))) l.intake;
    }

abbrev pub decreases-loop-call : goal.decreases-loop-call
decreases-loop-call g l = into_iter_len l.left
