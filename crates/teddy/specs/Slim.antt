-- mask_count x   how many masks a mask searcher uses
use Rattle.std.specs.Prelude.{ℕ}
use Rattle.teddy.specs.declared.slim.Slim.{Slim}

abbrev pub mask_count : {A : Type 0} → Slim A → ℕ
mask_count x = x.teddy.masks.count
