-- The numbers of the rules, by name. Where the code has a constant for one of them, it is proved equal (proofs/Constants).
-- max_patterns    how many patterns a book takes
-- max_bytes       how many bytes its patterns have together at the most
-- max_masks       how many masks a search uses at the most
-- max_text        the greatest length of a text that a scan accepts
-- max_texts       how many texts an intake accepts at the most
-- max_hits        how many hits the program has room for in a text
-- max_job         the greatest length of a job
-- max_body        the greatest length that a record can announce, in its two bytes
-- hash_buckets    how many buckets the rolling hash has
-- mask_buckets    how many buckets the masks have, a bit each
-- greatest_index  the greatest number that an id can have: 2^31 - 2
use Rattle.std.specs.Prelude.{ℕ}

abbrev pub max_patterns : ℕ
max_patterns = 1024

abbrev pub max_bytes : ℕ
max_bytes = 16384

abbrev pub max_masks : ℕ
max_masks = 4

abbrev pub max_text : ℕ
max_text = 65536

abbrev pub max_texts : ℕ
max_texts = 65535

abbrev pub max_hits : ℕ
max_hits = 4096

abbrev pub max_job : ℕ
max_job = 65536

abbrev pub max_body : ℕ
max_body = 65535

abbrev pub hash_buckets : ℕ
hash_buckets = 64

abbrev pub mask_buckets : ℕ
mask_buckets = 8

abbrev pub greatest_index : ℕ
greatest_index = 2147483646
