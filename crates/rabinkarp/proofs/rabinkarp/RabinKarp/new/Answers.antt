use Rattle.std.proofs.Common.{◌≡◌, ℕ, ◌%◌, ◌<◌, get_or, ap, ◌∙◌, subst}
use Rattle.rules.specs.Limits.{hash_buckets}
use Rattle.rules.specs.Book.{Book, count_of, shortest}
use Rattle.pattern.specs.Order.{order_in}
use Rattle.rabinkarp.specs.Buckets.{Holds}
use Rattle.rabinkarp.specs.Prefixes.{prefix_hash}
use Rattle.rabinkarp.proofs.Members.{placed_by}
use Rattle.rabinkarp.proofs.rabinkarp.RabinKarp.new.Goals as goal

pub invariant_of-result-clause-prepared : goal.invariant_of-result-clause-prepared
invariant_of-result-clause-prepared c =
    let hs = c.hashes-hashes.result in
    let hashed = subst (λ (b : Book). (i : ℕ) → i < count_of b → get_or hs i 0 ≡ prefix_hash b i) c.deref-2.ensures c.hashes-hashes.ensures in
    let held = subst (λ (b : Book). Holds c.new-buckets.result (λ i. get_or hs i 0 % hash_buckets) (order_in b)) c.deref-3.ensures c.new-buckets.ensures in
    record {
      measured = c.minimum_len-hash_len.ensures.value ∙ ap (λ (b : Book). shortest b) c.deref.ensures;
      counted = c.hash_2pow-hash_2pow.ensures;
      hashed = hashed;
      placed = λ k l. held k l ∙ placed_by c.args.book.value hs k hashed;
    }
