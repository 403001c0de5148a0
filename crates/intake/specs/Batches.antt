-- calls_of b   the calls of a batch, in the order in which they are to be made
-- room_of b    how many replies the list of a batch has room for
use Rattle.std.specs.Prelude.{ℕ, List, vec_items, vec_capacity}
use Rattle.intake.specs.declared.calls.Call.{Call}
use Rattle.intake.specs.declared.batch.Batch.{Batch}

abbrev pub calls_of : Batch → List Call
calls_of b = vec_items b.calls

abbrev pub room_of : Batch → ℕ
room_of b = vec_capacity b.replies
