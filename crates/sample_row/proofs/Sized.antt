-- Parts with a size each, one after another. One more record behind those of a tape, while its count is below its size, changes no
-- other tape and no cell beyond the last part. Once every count is the size, the parts are the tapes that the sizes divide the row into.
use mathlib.Core.Path.{◌≡◌, refl, sym, ap, ap₂, ◌∙◌}
use mathlib.Core.List.{List, [], ◌∷◌, ◌++◌, append-nil}
use Prim.Native.Nat.{ℕ, zero, suc, ◌+◌, ◌-◌, ◌≤◌, ◌<◌}
use native.Mathlib.Omega.{arith}
use lib.IntN.{ℤ}
use lib.ListN.{length, get_or, take, drop, set, length-drop, length-set, take-append-drop, drop_of_length-le}
use lib.Seq.{drop-drop, take_all, take-set-le, drop-set-lt, drop-set-add, take-suc-set}
use Rattle.model.proofs.Runs.{append}
use Rattle.model.specs.Tapes.{tapes_in, total}
use Rattle.sample_row.specs.Inner.Layout.{tapes_at, Apart, Laid}
use Rattle.sample_row.proofs.Parts.{same-part, apart-less, tapes-same}

pub laid-apart : (from : ℕ) (ss ks ms : List ℕ) (n : ℕ) → Laid from ss ks ms → from + total ms ≤ n → Apart from ss ks n
unfolding total
laid-apart from [] ks ms n h e = omega arith
laid-apart from (s ∷ ss) [] ms n h e = absurd h
laid-apart from (s ∷ ss) (k ∷ ks) [] n h e = absurd h
laid-apart from (s ∷ ss) (k ∷ ks) (m ∷ ms) n h e =
    let p = h.0 in
    let q = h.1 in
    (omega arith, apart-less (from + m) (s + k) ss ks n (omega arith) (laid-apart (from + m) ss ks ms n h.2 (omega arith)))

-- the part of tape a lies in the row
laid-at : (from : ℕ) (ss ks ms : List ℕ) → Laid from ss ks ms → (a : ℕ) → a < length ss
    → (from ≤ get_or ss a 0) × (get_or ss a 0 + get_or ms a 0 ≤ from + total ms)
unfolding total
laid-at from [] ks ms h a n = absurd (omega arith)
laid-at from (s ∷ ss) [] ms h a n = absurd h
laid-at from (s ∷ ss) (k ∷ ks) [] h a n = absurd h
laid-at from (s ∷ ss) (k ∷ ks) (m ∷ ms) h zero n = (omega (arith, h.0), omega (arith, h.0))
laid-at from (s ∷ ss) (k ∷ ks) (m ∷ ms) h (suc a) n = let (p, q) = laid-at (from + m) ss ks ms h.2 a (omega arith) in (omega arith, omega arith)

pub laid_cell : (ss ks ms : List ℕ) → Laid 0 ss ks ms → (a : ℕ) → a < length ss → get_or ks a 0 < get_or ms a 0
    → get_or ss a 0 + get_or ks a 0 < total ms
laid_cell ss ks ms h a n k = let (p, q) = laid-at 0 ss ks ms h a n in omega arith

pub laid_more : (from : ℕ) (ss ks ms : List ℕ) → Laid from ss ks ms → (a : ℕ) → get_or ks a 0 < get_or ms a 0
    → Laid from ss (set ks a (suc (get_or ks a 0))) ms
laid_more from [] ks ms h a k = (ap (λ (q : List ℕ). set q a (suc (get_or ks a 0))) h.0, h.1)
laid_more from (s ∷ ss) [] ms h a k = absurd h
laid_more from (s ∷ ss) (n ∷ ks) [] h a k = absurd h
laid_more from (s ∷ ss) (n ∷ ks) (m ∷ ms) h zero k = (h.0, omega arith, h.2)
laid_more from (s ∷ ss) (n ∷ ks) (m ∷ ms) h (suc a) k = (h.0, h.1, laid_more (from + m) ss ks ms h.2 a k)

-- no more records than cells
pub laid-few : (from : ℕ) (ss ks ms : List ℕ) → Laid from ss ks ms → total ks ≤ total ms
unfolding total
laid-few from [] ks ms h = omega (arith, ap total h.0, ap total h.1)
laid-few from (s ∷ ss) [] ms h = absurd h
laid-few from (s ∷ ss) (k ∷ ks) [] h = absurd h
laid-few from (s ∷ ss) (k ∷ ks) (m ∷ ms) h = omega (arith, h.1, laid-few (from + m) ss ks ms h.2)

-- as many counts as starts
pub laid-count : (from : ℕ) (ss ks ms : List ℕ) → Laid from ss ks ms → length ks ≡ length ss
laid-count from [] ks ms h = ap length h.0
laid-count from (s ∷ ss) [] ms h = absurd h
laid-count from (s ∷ ss) (k ∷ ks) [] h = absurd h
laid-count from (s ∷ ss) (k ∷ ks) (m ∷ ms) h = ap suc (laid-count (from + m) ss ks ms h.2)

pub total-more : (ks : List ℕ) (a : ℕ) → a < length ks → total (set ks a (suc (get_or ks a 0))) ≡ suc (total ks)
unfolding total
total-more [] a h = absurd (omega arith)
total-more (k ∷ ks) zero h = omega arith
total-more (k ∷ ks) (suc a) h = omega (arith, total-more ks a (omega arith))

laid_same : (from : ℕ) (ss ks ms : List ℕ) (l l' : List ℤ) → Laid from ss ks ms → drop from l ≡ drop from l' → tapes_at ss ks l ≡ tapes_at ss ks l'
laid_same from ss ks ms l l' h e = tapes-same from ss ks (from + total ms) l l' (laid-apart from ss ks ms (from + total ms) h (omega arith)) e

-- a store behind the records of tape a is one more record of tape a
pub store_tapes : (from : ℕ) (ss ks ms : List ℕ) (l : List ℤ) (x : ℤ) → Laid from ss ks ms → from + total ms ≤ length l → (a : ℕ) → a < length ss
    → get_or ks a 0 < get_or ms a 0
    → tapes_at ss (set ks a (suc (get_or ks a 0))) (set l (get_or ss a 0 + get_or ks a 0) x) ≡ append (tapes_at ss ks l) a x
unfolding tapes_at total
store_tapes from [] ks ms l x h n a b r = absurd (omega arith)
store_tapes from (s ∷ ss) [] ms l x h n a b r = absurd h
store_tapes from (s ∷ ss) (k ∷ ks) [] l x h n a b r = absurd h
store_tapes from (s ∷ ss) (k ∷ ks) (m ∷ ms) l x h n zero b r =
    let p = h.0 in
    ap₂ ◌∷◌ (ap (take (suc k)) (drop-set-add s l k x) ∙ take-suc-set (drop s l) k x (omega (arith, length-drop s l)))
    (laid_same (from + m) ss ks ms (set l (s + k) x) l h.2 (drop-set-lt (from + m) l (s + k) x (omega arith)))
store_tapes from (s ∷ ss) (k ∷ ks) (m ∷ ms) l x h n (suc a) b r =
    let p = h.0 in
    let q = h.1 in
    let c = get_or ss a 0 + get_or ks a 0 in
    let (t, u) = laid-at (from + m) ss ks ms h.2 a (omega arith) in
    ap₂ ◌∷◌ (same-part (set l c x) l s k (omega (arith, length-set l c x)) (omega arith) (take-set-le (s + k) l c x (omega arith)))
    (store_tapes (from + m) ss ks ms l x h.2 (omega arith) a (omega arith) r)

-- all records there
pub laid-tapes : (from : ℕ) (ss ms : List ℕ) (l : List ℤ) → Laid from ss ms ms → tapes_at ss ms l ≡ tapes_in ms (drop from l)
unfolding tapes_at
laid-tapes from [] ms l h = ap (λ (q : List ℕ). tapes_in q (drop from l)) (sym h.0)
laid-tapes from (s ∷ ss) [] l h = absurd h
laid-tapes from (s ∷ ss) (m ∷ ms) l h =
    ap₂ ◌∷◌ (ap (λ (n : ℕ). take m (drop n l)) h.0) (laid-tapes (from + m) ss ms l h.2 ∙ ap (tapes_in ms) (sym (drop-drop m from l)))

-- the first tapes of a row are those of the first lengths
pub take-tapes : (n : ℕ) (ms : List ℕ) (l : List ℤ) → take n (tapes_in ms l) ≡ tapes_in (take n ms) l
take-tapes zero ms l = refl
take-tapes (suc n) [] l = refl
take-tapes (suc n) (m ∷ ms) l = ap (λ (ts : List (List ℤ)). take m l ∷ ts) (take-tapes n ms (drop m l))

-- ---- three parts, from the row's start on
pub starts_fit : (ms : List ℕ) → get_or ms 0 0 + get_or ms 1 0 ≤ total ms
unfolding total
starts_fit [] = omega arith
starts_fit (a ∷ []) = omega arith
starts_fit (a ∷ b ∷ ms) = omega arith

pub laid-first : (ms : List ℕ) → length ms ≡ 3 → Laid 0 (0 ∷ get_or ms 0 0 ∷ (get_or ms 0 0 + get_or ms 1 0) ∷ []) (0 ∷ 0 ∷ 0 ∷ []) ms
laid-first [] h = absurd (omega arith)
laid-first (a ∷ []) h = absurd (omega arith)
laid-first (a ∷ b ∷ []) h = absurd (omega arith)
laid-first (a ∷ b ∷ c ∷ []) h = (refl, omega arith, (omega arith, omega arith, (omega arith, omega arith, (refl, refl))))
laid-first (a ∷ b ∷ c ∷ d ∷ ms) h = absurd (omega arith)

-- ---- a store into the part of a row from s on
pub put_is : (l : List ℤ) (s k n : ℕ) (x : ℤ) (ys : List ℤ) → s + k < length l → length l - s ≤ n → ys ≡ set (take n (drop s l)) k x
    → take s l ++ (ys ++ drop n (drop s l)) ≡ set l (s + k) x
put_is l s k n x ys h b e =
    let q : length (drop s l) ≤ n = omega (arith, length-drop s l) in
    rw (e, take_all n (drop s l) q, drop_of_length-le (drop s l) q, append-nil)
    (ap₂ ◌++◌ (sym (take-set-le s l (s + k) x (omega arith))) (sym (drop-set-add s l k x)) ∙ take-append-drop s (set l (s + k) x))
