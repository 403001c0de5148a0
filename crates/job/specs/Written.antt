-- A job as it is written: records in a row.
-- body e          the bytes of a record behind its length
-- written e       a record: its mark, its length in two bytes, low byte first, and its bytes
-- job_of es       the job of the records es
-- items_of at es  the records es with their places, the first one's mark standing at a place
-- entries_of is   what the records is hold
-- Short es        the length of each of the records es can be announced
-- Stopped t at s  t stands behind records that end at a place: nothing, or, where s is a fault there, a record that is refused so
-- ReadsBack       short records in a row, and then nothing or a record that is refused, read as those records, and that fault
-- WrittenAs j r   the job j is what is read of it, r, as it is written, and what stands behind that
-- ReadsAll        every run of bytes is the records that are read of it, as they are written, and what stands behind them
use Rattle.std.specs.Prelude.{◌≡◌, ℕ, ◌+◌, ◌/◌, ◌%◌, ◌<◌, ◌≤◌, List, [], ◌∷◌, ◌++◌, All, map, length, Some, None, Option}
use Rattle.rules.specs.declared.fault.Fault.{Fault}
use Rattle.rules.specs.Limits.{max_body}
use Rattle.job.specs.Format.{Entry, a_pattern, kind_first, kind_longest, a_text, bad, mark, step}
use Rattle.job.specs.Reading.{Item, item, Reading, reading}

abbrev pub body : Entry → List ℕ
body (a_pattern p) = p
body kind_first = []
body kind_longest = []
body (a_text t) = t

abbrev pub written : Entry → List ℕ
written e = mark e ++ (length (body e) % 256 ∷ (length (body e) / 256 ∷ body e))

abbrev pub job_of : List Entry → List ℕ
job_of [] = []
job_of (e ∷ es) = written e ++ job_of es

abbrev pub items_of : ℕ → List Entry → List Item
items_of at [] = []
items_of at (e ∷ es) = item at e ∷ items_of (at + 4 + length (body e)) es

abbrev pub entries_of : List Item → List Entry
entries_of is = map (λ i. i.entry) is

abbrev pub Short : List Entry → Type 0
Short es = All (λ e. length (body e) ≤ max_body) es

abbrev pub Stopped : List ℕ → ℕ → Option Fault → Type 0
Stopped rest at None = rest ≡ []
Stopped rest at (Some f) = (step rest 0 ≡ bad f.refusal) × (f.place ≡ at)

abbrev pub ReadsBack : Type 0
ReadsBack =
    (es : List Entry) (rest : List ℕ) (s : Option Fault) → Short es → Stopped rest (length (job_of es)) s
    → reading (job_of es ++ rest) 0 ≡ record { items = items_of 0 es; stop = s }

pub record WrittenAs (job : List ℕ) (r : Reading) : Type 0 where
  pub rest : List ℕ
  pub parts : job ≡ job_of (entries_of r.items) ++ rest
  pub places : r.items ≡ items_of 0 (entries_of r.items)
  pub short : Short (entries_of r.items)
  pub stopped : Stopped rest (length (job_of (entries_of r.items))) r.stop

abbrev pub ReadsAll : Type 0
ReadsAll = (job : List ℕ) → All (λ x. x < 256) job → WrittenAs job (reading job 0)
