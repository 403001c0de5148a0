-- Laws of the rolling hash.
use Rattle.std.proofs.Common.{◌≡◌, ℕ, suc, ◌+◌, ◌-◌, ◌*◌, ◌%◌, ◌^◌, ◌<◌, List, [], ◌∷◌, ◌++◌, length, get_or, take, drop, sym, ap, ◌∙◌, mul_assoc, mul_comm, pow-suc, add-mul, arith}
use Rattle.std.specs.List.{fold}
use native.Mathlib.Nat.{mul-mod_left}
use Rattle.std.proofs.lemmas.Nat.{mul-mod_second, pow-add}
use Rattle.std.proofs.lemmas.List.{drop_more, take_more, get_or-drop, length-drop, length-take-le}
use Rattle.std.proofs.lemmas.List.Sums.{fold_push}
use Rattle.rabinkarp.specs.Hash.{weighed, hash_of, leading, moved, window, Rolling}

-- a byte more
abbrev step : ℕ → ℕ → ℕ
step h b = (h * 2 + b) % 2 ^ 64

-- what stands before a byte counts as its remainder
twice : (h b : ℕ) → step (h % 2 ^ 64) b ≡ step h b
twice h b = omega arith

folded_from : (h : ℕ) (xs : List ℕ) → fold step (h % 2 ^ 64) xs ≡ (h * 2 ^ length xs + weighed xs) % 2 ^ 64
folded_from h [] = ap (λ n. n % 2 ^ 64) (let e : h ≡ h * 1 + 0 = omega arith in e)
folded_from h (x ∷ xs) =
    let w = 2 ^ length xs in
    let e : (h * 2 + x) * w + weighed xs ≡ h * 2 ^ suc (length xs) + (x * w + weighed xs) =
    omega (arith, ap (λ n. h * n) (pow-suc 2 (length xs)), ap (λ n. h * n) (mul_comm 2 w), add-mul (h * 2) x w, mul_assoc h 2 w) in
    ap (λ n. fold step n xs) (twice h x) ∙ (folded_from (h * 2 + x) xs ∙ ap (λ n. n % 2 ^ 64) e)

-- the bytes taken one after another give their hash
pub folded : (xs : List ℕ) → fold step 0 xs ≡ hash_of xs
folded xs = folded_from 0 xs ∙ ap (λ n. n % 2 ^ 64) (let e : 0 * 2 ^ length xs + weighed xs ≡ weighed xs = omega arith in e)

pub hashed : (n : ℕ) (xs : List ℕ) → n ≡ fold step 0 xs → n ≡ hash_of xs
hashed n xs e = e ∙ folded xs

-- a byte more in the hash of bytes
hash-push : (xs : List ℕ) (b : ℕ) → step (hash_of xs) b ≡ hash_of (xs ++ b ∷ [])
hash-push xs b = ap (λ h. step h b) (sym (folded xs)) ∙ (sym (fold_push step 0 xs b) ∙ folded (xs ++ b ∷ []))

-- what is added can be taken away again
taken : (a w : ℕ) → ((a + w) % 2 ^ 64 + (2 ^ 64 - a % 2 ^ 64)) % 2 ^ 64 ≡ w % 2 ^ 64
taken a w = omega arith

-- the first byte less, and one more behind
rolled : (old new : ℕ) (ys : List ℕ) → moved (hash_of (old ∷ ys)) (2 ^ length ys % 2 ^ 64) old new ≡ hash_of (ys ++ new ∷ [])
rolled old new ys =
    let w = 2 ^ length ys in
    let rest : (hash_of (old ∷ ys) + (2 ^ 64 - (old * (w % 2 ^ 64)) % 2 ^ 64)) % 2 ^ 64 ≡ hash_of ys =
    ap (λ n. (hash_of (old ∷ ys) + (2 ^ 64 - n)) % 2 ^ 64) (mul-mod_second old w (2 ^ 64)) ∙ taken (old * w) (weighed ys) in
    ap (λ h. step h new) rest ∙ hash-push ys new

-- a window, and the one behind it, over the bytes that they share
opened : (t : List ℕ) (n s : ℕ) → s < length t → window t (suc n) s ≡ get_or t s 0 ∷ window t n (s + 1)
opened t n s h = ap (take (suc n)) (drop_more t s 0 h)

closed : (t : List ℕ) (n s : ℕ) → s + n < length t → window t (n + 1) s ≡ window t n s ++ get_or t (s + n) 0 ∷ []
closed t n s h = take_more (drop s t) n 0 (simp length-drop (omega arith)) ∙ ap (λ b. window t n s ++ b ∷ []) (get_or-drop s t n 0)

pub rolling : Rolling
rolling t m s some within =
    let n = m - 1 in
    let ys = window t n (s + 1) in
    let old = get_or t s 0 in
    let new = get_or t (s + m) 0 in
    let long : length ys ≡ n = length-take-le n (drop (s + 1) t) (simp length-drop (omega arith)) in
    let first : window t m s ≡ old ∷ ys = ap (λ k. window t k s) (let e : m ≡ suc n = omega arith in e) ∙ opened t n s (omega arith) in
    let next : window t m (s + 1) ≡ ys ++ new ∷ [] =
    ap (λ k. window t k (s + 1)) (let e : m ≡ n + 1 = omega arith in e) ∙ (closed t n (s + 1) (omega arith) ∙ ap (λ k. ys ++ get_or t k 0 ∷ []) (let e : s + 1 + n ≡ s + m = omega arith in e)) in
    ap (λ q. moved (hash_of q) (leading m) old new) first ∙ (ap (λ k. moved (hash_of (old ∷ ys)) (2 ^ k % 2 ^ 64) old new) (sym long) ∙ (rolled old new ys ∙ ap hash_of (sym next)))

-- the same of windows as slices are
pub rolls_slices : (t : List ℕ) (s m : ℕ) → 0 < m → s + m < length t → moved (hash_of (take (s + m - s) (drop s t))) (leading m) (get_or t s 0) (get_or t (s + m) 0) ≡ hash_of (take (s + 1 + m - (s + 1)) (drop (s + 1) t))
rolls_slices t s m some within =
    let here : s + m - s ≡ m = omega arith in
    let there : s + 1 + m - (s + 1) ≡ m = omega arith in
    ap (λ n. moved (hash_of (take n (drop s t))) (leading m) (get_or t s 0) (get_or t (s + m) 0)) here ∙ rolling t m s some within ∙ ap (λ n. hash_of (take n (drop (s + 1) t))) (sym there)

-- from 65 bytes on the first one counts for nothing
pub leading_far : (m : ℕ) → 64 < m → 2 ^ (m - 1) % 2 ^ 64 ≡ 0
leading_far m l =
    let e : m - 1 ≡ m - 65 + 64 = omega arith in
    rw (e, pow-add 2 (m - 65) 64, mul-mod_left (2 ^ (m - 65)) (2 ^ 64))
