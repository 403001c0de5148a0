use Rattle.std.proofs.Common.{◌≡◌, ◌+◌, ◌-◌, ◌*◌, ◌/◌, ◌%◌, length, Some, refl, sym, ap, ◌∙◌, subst, ⊎_elim, arith}
use Rattle.rules.specs.Limits.{mask_buckets}
use Rattle.rules.specs.Search.{OccursAt, hit}
use Rattle.finder.proofs.Choosing.{read}
use Rattle.rabinkarp.specs.Buckets.{bucket_ids}
use Rattle.teddy.specs.Windows.{IsRun, Shows, Recalled}
use Rattle.teddy.proofs.Hits.{run, ids_in, Clear, bit_gone, bit_clear, lane_clear, in_lane, window_clear, none_found, tried, hit_found}
use Rattle.teddy.proofs.slim.Slim.find_in_windows.Given as given
use Rattle.teddy.proofs.slim.Slim.find_in_windows.Goals as goal
use Rattle.teddy.proofs.slim.Slim.find_in_windows.Goals.{After-window-candidates, After-bucket-id-items, Joined-not-is_zero, then-not-is_zero+else-verify-test, else-not-is_zero}

pub find-init : goal.find-init
find-init g c = record {
  low = omega arith;
  high = omega (arith, c.requires, c.lane_count-lanes.ensures, c.masks-masks.ensures.masks.some);
  clear = record { none = λ y lo hi s. absurd (omega arith) };
  seen = (c.args.from + (c.masks-masks.result.count - 1), c.blank-seen.ensures.blank.recalls _ refl);
}

pub verify-init : goal.verify-init
verify-init g c =
    let z : mask_buckets * (c.find.at - (c.masks-masks.result.count - 1)) + 0 ≡ mask_buckets * (c.find.at - (c.masks-masks.result.count - 1)) = omega arith in
    rw z c.find.invariant.clear

-- what the window shows, and what is recalled behind it
window : (g : given.Over) (c : After-window-candidates g) →
    let r = run c.args.self.now.teddy.rabinkarp.book.value c.masks-masks.result.count g.V.Vector.count c.args.text.now c.find.invariant.seen.0 in
    Shows r c.find.at (g.V.Vector.lanes c.window-candidates.result) × Recalled g.V.Vector.lanes r (c.find.at + g.V.Vector.count) c.window-candidates.new.seen
window g c =
    let old = c.find.invariant.seen in
    let is : IsRun g.V.Vector.count g.V.Vector.lanes c.masks-masks.result c.args.text.now (run c.args.self.now.teddy.rabinkarp.book.value c.masks-masks.result.count g.V.Vector.count c.args.text.now old.0) =
    record { lanes = refl; masks = refl; text = refl; tables = c.masks-masks.ensures.masks } in
    (c.window-candidates.ensures.exact.shows _ is old.1, c.window-candidates.ensures.exact.recalls _ is old.1)

pub verify64-init : goal.verify64-init
verify64-init g c =
    let teddy = c.args.self.now.teddy in
    let xs = g.V.Vector.lanes c.window-candidates.result in
    rw c.lane_64-rest.ensures
    (in_lane teddy.rabinkarp.book.value c.args.text.now c.masks-masks.result.count g.V.Vector.count c.find.invariant.seen.0 c.find.at xs
    (omega (arith, teddy.sound.few, c.masks-masks.ensures.count)) (omega (arith, c.find.invariant.low)) (window g (goal.at.verify64-init g c).After-window-candidates).0
    c.verify.k (omega (arith, c.verify-test.true, c.lane_count-lanes.ensures)) (g.met.V.Vector.bytes c.window-candidates.result))

-- the ids of the bucket that is read
bucket_is : (g : given.Over) (c : After-bucket-id-items g) → c.bucket-id-items.result.now ≡ ids_in c.args.self.now.teddy.rabinkarp.book.value (c.in-Some.bit % mask_buckets)
bucket_is g c =
    let e : c.in-Some.bit % mask_buckets % 64 ≡ c.in-Some.bit % mask_buckets = omega arith in
    c.bucket-id-items.ensures ∙ ap (bucket_ids c.args.self.now.teddy.buckets) e ∙ c.args.self.now.teddy.sound.placed (c.in-Some.bit % mask_buckets) (omega arith)

pub verify64-preserved : goal.verify64-preserved
verify64-preserved g c =
    let b = c.args.self.now.teddy.rabinkarp.book.value in
    let bit = c.in-Some.bit in
    let place = c.find.at - (c.masks-masks.result.count - 1) + 8 * c.verify.k in
    let x = mask_buckets * (c.find.at - (c.masks-masks.result.count - 1)) + 64 * c.verify.k in
    let is = bucket_is g (goal.at.verify64-preserved g c).After-bucket-id-items in
    bit_gone b c.args.text.now x _ bit _ c.in-Some.ensures c.verify64.invariant
    (tried b c.args.text.now (bit % mask_buckets) (place + bit / 8) (x + bit) (omega arith) (omega arith)
    (λ j l. rw is at c.verify_bucket.invariant.none j (omega (arith, ap length is, c.verify_bucket-test.false))))

pub verify-preserved : goal.verify-preserved
verify-preserved g c =
    let x = mask_buckets * (c.find.at - (c.masks-masks.result.count - 1)) + 64 * c.verify.k in
    let e : mask_buckets * (c.find.at - (c.masks-masks.result.count - 1)) + 64 * (c.verify.k + 1) ≡ x + 64 = omega arith in
    rw e (lane_clear c.args.self.now.teddy.rabinkarp.book.value c.args.text.now c.args.from x _ c.in_default.ensures.0 c.verify64.invariant c.verify.invariant)

pub returns-in-Some-verify : goal.returns-in-Some-verify
returns-in-Some-verify g c =
    let b = c.args.self.now.teddy.rabinkarp.book.value in
    let text = c.args.text.now in
    let bit = c.in-Some.bit in
    let start = c.find.at - (c.masks-masks.result.count - 1) + 8 * c.verify.k + bit / 8 in
    let x = mask_buckets * (c.find.at - (c.masks-masks.result.count - 1)) + 64 * c.verify.k in
    let all = bucket_is g (goal.at.returns-in-Some-verify g c).After-bucket-id-items in
    let is = read c.id-item.is c.verify_bucket-test.true all in
    let got = rw c.book-book.ensures at c.in-Some-verify.ensures in
    ap Some (got.1 ∙ ap (λ m. hit b m start) is)
    ∙ hit_found b text (bit % mask_buckets) start c.args.from (x + bit) c.verify_bucket.id-index (omega (arith, c.find.invariant.low)) (omega arith)
    (bit_clear b text x _ bit _ c.in-Some.ensures c.verify64.invariant c.args.from c.verify.invariant)
    (omega (arith, ap length all, c.verify_bucket-test.true)) (subst (λ m. OccursAt b text m start) is got.0) (rw all at c.verify_bucket.invariant).none

-- the window is behind
passed : (g : given.Over) (c : Joined-not-is_zero g) → Clear c.args.self.now.teddy.rabinkarp.book.value c.args.text.now c.args.from (mask_buckets * (c.find.at - (c.masks-masks.result.count - 1)) + mask_buckets * g.V.Vector.count)
passed g c =
    let teddy = c.args.self.now.teddy in
    let base = mask_buckets * (c.find.at - (c.masks-masks.result.count - 1)) in
    elim c.if-not-is_zero.branch [
      | then-not-is_zero+else-verify-test w ↦
          let whole : base + 64 * w.verify.k ≡ base + mask_buckets * g.V.Vector.count =
          ⊎_elim (λ e. omega (arith, c.lane_count-lanes.ensures, w.verify-test.false, w.verify.auto.k-end)) (λ e. omega (arith, c.lane_count-lanes.ensures, w.verify-test.false, w.verify.auto.k-end)) g.met.V.Vector.wide in
          rw (← whole) w.verify.invariant
      | else-not-is_zero w ↦
          window_clear teddy.rabinkarp.book.value c.args.text.now c.masks-masks.result.count g.V.Vector.count c.find.invariant.seen.0 c.find.at (g.V.Vector.lanes c.window-candidates.result)
          (omega (arith, teddy.sound.few, c.masks-masks.ensures.count)) (omega (arith, c.find.invariant.low)) (window g (goal.at.Joined-not-is_zero g c).After-window-candidates).0
          c.args.from (sym c.is_zero.ensures ∙ w.if-not-is_zero.false) c.find.invariant.clear
    ]

-- behind the last window no pattern fits
pub returns-then-at-end : goal.returns-then-at-end
returns-then-at-end g c =
    let teddy = c.args.self.now.teddy in
    none_found teddy.rabinkarp.book.value c.args.text.now c.args.from _ (omega (arith, teddy.sound.few, c.masks-masks.ensures.count, c.lane_count-lanes.ensures)) (passed g (goal.at.returns-then-at-end g c).Joined-not-is_zero)

pub find-preserved-then-end-at : goal.find-preserved-then-end-at
find-preserved-then-end-at g c =
    let b = c.args.self.now.teddy.rabinkarp.book.value in
    let w = window g (goal.at.find-preserved-then-end-at g c).After-window-candidates in
    let e : mask_buckets * (c.find.at + c.lane_count-lanes.result - (c.masks-masks.result.count - 1)) ≡ mask_buckets * (c.find.at - (c.masks-masks.result.count - 1)) + mask_buckets * g.V.Vector.count =
    omega (arith, c.lane_count-lanes.ensures, c.find.invariant.low) in
    record {
      low = omega arith;
      high = omega arith;
      clear = rw e (passed g (goal.at.find-preserved-then-end-at g c).Joined-not-is_zero);
      seen = (c.find.invariant.seen.0, rw c.lane_count-lanes.ensures w.1);
    }

pub find-preserved : goal.find-preserved
find-preserved g c =
    let clear = (passed g (goal.at.find-preserved g c).Joined-not-is_zero).none in
    record {
      low = omega arith;
      high = omega arith;
      clear = record { none = λ y lo hi s. clear y lo (omega (arith, c.lane_count-lanes.ensures)) s };
      seen = (length c.args.text.now - c.lane_count-lanes.result, c.blank-seen-else-end-at.ensures.blank.recalls _ refl);
    }
