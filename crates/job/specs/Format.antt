-- A job is records in a row: each a two-byte mark, a two-byte length, low byte first, and that many bytes.
-- Entry            what a record holds: a pattern, a kind, or a text
-- Step             what stands at a place of a job: nothing more, a refusal, or a record and the place behind it
-- mark e           the mark of a record
-- mark_at job at   the two bytes at a place, where a mark is to stand
-- size_at job at   the length that a record at a place announces
-- body_at job at   the bytes that it announces
-- empty_kind e b   the record of a kind with the bytes b, of which there are to be none
-- made_of m b      the record with the mark m and the bytes b, or its refusal
-- step_of r next   the answer r as a step, where the next record would stand at next
-- step job at      what stands at a place of a job
use Rattle.std.specs.Prelude.{ℕ, ◌+◌, ◌*◌, List, [], ◌∷◌, length, take, drop, Ok, Err, Result, codes, bytes_eq, ◌==◌, nat_le, nat_lt, slice_index, if◌then◌else◌}
use Rattle.rules.specs.declared.fault.Refusal.{Refusal}
use Rattle.rules.specs.declared.fault.Refusal.TheVariants.{Truncated, UnknownMark, KindLength}

pub data Entry : Type 0 where
  a_pattern : List ℕ → Entry
  kind_first : Entry
  kind_longest : Entry
  a_text : List ℕ → Entry

pub data Step : Type 0 where
  over : Step
  bad : Refusal → Step
  good : Entry → ℕ → Step

abbrev pub mark : Entry → List ℕ
mark (a_pattern p) = codes "PN"
mark kind_first = codes "KF"
mark kind_longest = codes "KL"
mark (a_text t) = codes "TX"

abbrev pub mark_at : List ℕ → ℕ → List ℕ
mark_at job at = slice_index job at ∷ slice_index job (at + 1) ∷ []

abbrev pub size_at : List ℕ → ℕ → ℕ
size_at job at = slice_index job (at + 2) + 256 * slice_index job (at + 3)

abbrev pub body_at : List ℕ → ℕ → List ℕ
body_at job at = take (size_at job at) (drop (at + 4) job)

abbrev pub empty_kind : Entry → List ℕ → Result Entry Refusal
empty_kind e b = if length b == 0 then Ok e else Err KindLength

abbrev pub made_of : List ℕ → List ℕ → Result Entry Refusal
made_of m b =
    if bytes_eq m (mark (a_pattern b)) then Ok (a_pattern b)
    else if bytes_eq m (mark kind_first) then empty_kind kind_first b
    else if bytes_eq m (mark kind_longest) then empty_kind kind_longest b
    else if bytes_eq m (mark (a_text b)) then Ok (a_text b)
    else Err UnknownMark

abbrev pub step_of : Result Entry Refusal → ℕ → Step
step_of (Ok e) next = good e next
step_of (Err r) next = bad r

abbrev pub step : List ℕ → ℕ → Step
step job at =
    if nat_le (length job) at then over
    else if nat_lt (length job) (at + 4) then bad Truncated
    else if nat_lt (length job) (at + 4 + size_at job at) then bad Truncated
    else step_of (made_of (mark_at job at) (body_at job at)) (at + 4 + size_at job at)
