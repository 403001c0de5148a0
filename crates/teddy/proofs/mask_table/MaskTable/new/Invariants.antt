use Rattle.std.proofs.Common.{◌≡◌, ◌%◌, get_or, take}
use Rattle.rules.specs.Limits.{mask_buckets}
use Rattle.pattern.specs.Order.{order_in}
use Rattle.teddy.specs.Buckets.{Groups}
use Rattle.teddy.specs.Masks.{low_mask, high_mask}
use Rattle.teddy.proofs.mask_table.MaskTable.new.Given as goal

-- the tables of the first ids
abbrev pub invariant-loop-id : goal.invariant-loop-id
invariant-loop-id l =
    let g : Groups = record { book = l.book; ids = take l.id-index (order_in l.book); bucket = λ i. get_or l.buckets i 0 % mask_buckets } in
    record {
      lo : l.lo ≡ low_mask g l.j;
      hi : l.hi ≡ high_mask g l.j;
    }
