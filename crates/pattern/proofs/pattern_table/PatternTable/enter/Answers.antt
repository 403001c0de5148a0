use Rattle.std.proofs.Common.{◌≡◌, [], ◌∷◌, ◌++◌, leb, rules, length, map, vec_items, refl, ap, ◌∙◌, arith}
use Rattle.std.specs.List.{insert}
use Rattle.std.proofs.lemmas.Grind.{common_steps}
use Rattle.std.proofs.lemmas.List.Sorted.{IsPartitionPoint-from_clause}
use Rattle.rules.specs.Book.{Book, count_of, size}
use Rattle.rules.specs.Entered.{enter}
use Rattle.pattern.specs.Contents.{contents, longest, entries}
use Rattle.pattern.proofs.Tables.{parted, entered_sound}
use Rattle.pattern.proofs.pattern_table.PatternTable.enter.Goals as goal

pub returns-clause-sound : goal.returns-clause-sound
returns-clause-sound c =
    let t = c.args.self.now in
    let b = contents t in
    let p = c.args.bytes.now in
    let at = c.partition_point-at.result in
    let cut = IsPartitionPoint-from_clause (λ i. leb (length p) (size b i)) (vec_items t.order) at (rw c.deref.ensures.value at c.partition_point-at.ensures.partitioned) (parted t (length p) c.requires.sound) (λ a r q k. search rules) in
    let ps : map (λ v. vec_items v) (vec_items c.push_reserved-2.new.self) ≡ b.patterns ++ p ∷ [] = grind (arith, common_steps) in
    let book : ◌≡◌ {A = Book} (record { kind = t.kind; patterns = map (λ v. vec_items v) (vec_items c.push_reserved-2.new.self) }) (enter b p) = ap (λ qs. record { kind = t.kind; patterns = qs }) ps in
    let is : c.from-id.result ≡ count_of b = grind (arith, common_steps) in
    let order : vec_items c.insert.new.self ≡ insert (longest t) at (count_of b) =
    c.in_ok-insert.ensures.items ∙ ap (insert (longest t) at) is in
    let listed : vec_items c.push_reserved.new.self ≡ entries t ++ count_of b ∷ [] = grind (arith, common_steps) in
    entered_sound t _ p at c.requires.sound c.requires.filled c.requires.few c.requires.within (omega (arith, c.partition_point-at.ensures.bound, ap length c.deref.ensures.value)) cut book order listed c.min-self.ensures refl
