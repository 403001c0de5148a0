-- The two parts of what is read of a job: before its first text, and from there on.
-- is_text e        whether a record is a text
-- heading is       those of the records is before the first text
-- texts_from is    those from the first text on
-- texts r          what is left to read from the first text on
-- place_of is n    the place of the first of the records is; n where there are none
-- texts_at job     the place of a job's first text; the job's length where there is none
use Rattle.std.specs.Prelude.{ℕ, Bool, true, false, List, [], ◌∷◌, length, if◌then◌else◌}
use Rattle.job.specs.Format.{Entry, a_pattern, kind_first, kind_longest, a_text}
use Rattle.job.specs.Reading.{Item, Reading, reading}

abbrev pub is_text : Entry → Bool
is_text (a_pattern p) = false
is_text kind_first = false
is_text kind_longest = false
is_text (a_text t) = true

abbrev pub heading : List Item → List Item
heading [] = []
heading (i ∷ is) = if is_text i.entry then [] else i ∷ heading is

abbrev pub texts_from : List Item → List Item
texts_from [] = []
texts_from (i ∷ is) = if is_text i.entry then i ∷ is else texts_from is

abbrev pub texts : Reading → Reading
texts r = record { items = texts_from r.items; stop = r.stop }

abbrev pub place_of : List Item → ℕ → ℕ
place_of [] n = n
place_of (i ∷ is) n = i.place

abbrev pub texts_at : List ℕ → ℕ
texts_at job = place_of (texts (reading job 0)).items (length job)
