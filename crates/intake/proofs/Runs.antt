-- Runs of calls.
use Rattle.std.proofs.Common.{◌≡◌, List, [], ◌∷◌, ◌++◌, map, length, sym, refl, ap, ◌∙◌, subst, append_assoc, arith}
use Rattle.std.proofs.lemmas.List.{length-map, map_push}
use Rattle.intake.specs.Ledger.{Asked, Told}
use Rattle.intake.specs.History.{Event, Past, Holding, Served}
use Rattle.intake.specs.declared.calls.Call.{Call}
use Rattle.intake.specs.declared.calls.Reply.{Reply}
use Rattle.intake.specs.Calls.{asks, tell, pairs, following}
use Rattle.intake.specs.Intakes.{ServesCall}

-- what was done, and what is left, once one more is done
pub done-push : {A : Type 0} (done left rest all : List A) (x : A) → left ≡ x ∷ rest → done ++ left ≡ all → (done ++ x ∷ []) ++ rest ≡ all
done-push done left rest all x e h = append_assoc done (x ∷ []) rest ∙ ap (λ xs. done ++ xs) (sym e) ∙ h

pairs-push : (xs : List Asked) (ys : List Told) (x : Asked) (y : Told) → length xs ≡ length ys → pairs (xs ++ x ∷ []) (ys ++ y ∷ []) ≡ pairs xs ys ++ record { asked = x; told = y } ∷ []
pairs-push [] [] x y e = refl
pairs-push [] (b ∷ ys) x y e = absurd (omega arith)
pairs-push (a ∷ xs) [] x y e = absurd (omega arith)
pairs-push (a ∷ xs) (b ∷ ys) x y e = ap (λ es. record { asked = a; told = b } ∷ es) (pairs-push xs ys x y (omega arith))

-- the calls cs were served, and one more is
pub serves_more : (p : Past) (m m' : Holding) (cs : List Call) (rs rs' : List Reply) (c : Call) (r : Reply) → length rs ≡ length cs → rs' ≡ rs ++ r ∷ [] → ServesCall m (asks c) (tell r) m' → Served (following p (pairs (map asks cs) (map tell rs))) m → Served (following p (pairs (map asks (cs ++ c ∷ [])) (map tell rs'))) m'
unfolding following ServesCall
serves_more p m m' cs rs rs' c r even more serves s =
    let event : Event = record { asked = asks c; told = tell r } in
    let before : List Event = pairs (map asks cs) (map tell rs) in
    let next : pairs (map asks (cs ++ c ∷ [])) (map tell rs') ≡ before ++ event ∷ [] =
    (λ i. pairs (map_push asks cs c i) ((ap (map tell) more ∙ map_push tell rs r) i))
    ∙ pairs-push (map asks cs) (map tell rs) (asks c) (tell r) (omega (arith, length-map cs asks, length-map rs tell, even)) in
    subst (λ es. Served (record { first = p.first; events = es }) m') (append_assoc p.events before (event ∷ []) ∙ ap (λ es. p.events ++ es) (sym next)) (serves (following p before) s)
