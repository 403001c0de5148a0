-- The table with one pattern more.
use Rattle.std.proofs.Common.{◌≡◌, ℕ, suc, ◌+◌, ◌^◌, ◌-◌, ◌<◌, ◌≤◌, min, List, [], ◌∷◌, ◌++◌, true, false, leb, length, get_or, vec_items, sym, ap, ◌∙◌, subst, inl, inr, eq-or-lt_of_le, arith}
use Rattle.std.specs.List.{insert}
use Rattle.std.specs.List.Sorted.{IsPartitionPoint, IsPartitionedBy}
use Rattle.std.proofs.lemmas.List.{length_push, get_or_default}
use Rattle.std.proofs.lemmas.List.Sums.{sum_by_push, fold_push}
use Rattle.std.proofs.lemmas.Bool.{leb-true, leb-false, le-leb}
use Rattle.rules.specs.Limits.{max_patterns, max_bytes}
use Rattle.rules.specs.Book.{count_of, size, total, shortest}
use Rattle.rules.specs.Entered.{enter}
use Rattle.pattern.specs.declared.pattern_table.PatternTable.{PatternTable}
use Rattle.pattern.specs.Order.{first_to, longest_to}
use Rattle.pattern.specs.Contents.{contents, longest, entries, Sound}
use Rattle.pattern.proofs.Entering.{entered_within}
use Rattle.pattern.proofs.Longest.{longest_enter, longest_order}

-- in the longest order no pattern of n bytes or more stands behind a shorter one
pub parted : (t : PatternTable) (n : ℕ) → Sound t → IsPartitionedBy (λ i. leb n (size (contents t) i)) (vec_items t.order)
parted t n s i j d le h e =
    let ids = vec_items t.order in
    let o = s.ordered in
    elim (eq-or-lt_of_le le) [
      | inl q ↦ subst (λ k. leb n (size (contents t) (get_or ids k d)) ≡ true) (sym q) e
      | inr lt ↦ le-leb n _ (omega (arith, leb-true n _ e, o.falling i j lt (omega arith), ap (size (contents t)) (get_or_default ids i d 0 (omega arith)), ap (size (contents t)) (get_or_default ids j d 0 h)))
    ]

-- the table with one pattern more
pub entered_sound : (t u : PatternTable) (p : List ℕ) (at : ℕ) → Sound t → 0 < length p → count_of (contents t) < max_patterns → total (contents t) + length p ≤ max_bytes → at ≤ length (vec_items t.order) → IsPartitionPoint (λ i. leb (length p) (size (contents t) i) ≡ true) (λ i. leb (length p) (size (contents t) i) ≡ false) (vec_items t.order) at → contents u ≡ enter (contents t) p → longest u ≡ insert (longest t) at (count_of (contents t)) → entries u ≡ entries t ++ count_of (contents t) ∷ [] → u.minimum_len ≡ min t.minimum_len (length p) → u.total_pattern_bytes ≡ t.total_pattern_bytes + length p → Sound u
entered_sound t u p at s some few within le cut is order es least sum =
    let b = contents t in
    let longer : (k : ℕ) → k < at → length p ≤ size b (get_or (longest t) k 0) = λ k h. omega (arith, leb-true (length p) _ (cut.0 k 0 (omega arith) h)) in
    let shorter : (k : ℕ) → at ≤ k → k < length (longest t) → size b (get_or (longest t) k 0) < length p = λ k h l. omega (arith, leb-false (length p) _ (cut.1 k 0 h (omega arith))) in
    let kept : longest u ≡ longest_to (contents u) (count_of (contents u)) = order ∙ ap (λ ids. insert ids at (count_of b)) s.kept ∙ sym (longest_enter b p at (omega (arith, ap length s.kept)) (λ k h. omega (arith, longer k h, ap (λ ids. size b (get_or ids k 0)) s.kept)) (λ k h l. omega (arith, shorter k h (omega (arith, l, ap length s.kept)), ap (λ ids. size b (get_or ids k 0)) s.kept))) ∙ ap (λ c. longest_to c (count_of c)) (sym is) in
    record {
      summed = omega (arith, ap total is, sum_by_push length b.patterns p);
      least = omega (arith, ap shortest is, fold_push (λ m q. min m (length q)) (2 ^ 64 - 1) b.patterns p);
      ordered = rw kept (longest_order (contents u));
      kept = kept;
      listed = es ∙ ap (λ ids. ids ++ count_of b ∷ []) s.listed ∙ ap first_to (let e : suc (count_of b) ≡ count_of (contents u) = omega (arith, ap count_of is, length_push b.patterns p) in e);
      within = rw is (entered_within b p s.within some few within);
    }
