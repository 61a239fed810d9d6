-- Codes stored as digits: they come back, each digit fits its lane, and another value inside changes its own digit only.
use mathlib.Core.Path.{◌≡◌, refl, sym, ap, ap₂, ◌∙◌, subst}
use mathlib.Core.Bool.{Bool, true, false, cond}
use mathlib.Core.List.{List, [], ◌∷◌, map}
use mathlib.Core.Logic.{◌⊎◌, inl, inr}
use Prim.Native.Nat.{ℕ, zero, suc, ◌+◌, ◌-◌, ◌<◌, ◌≤◌}
use native.Mathlib.Decide.{dec_lt}
use native.Mathlib.Omega.{arith}
use lib.IntN.{ℤ, pos, neg_ℤ}
use lib.ListN.{length, get_or, set, drop, length-map}
use lib.Dec.{ltb}
use borrow.Author.Tests.{lt-ltb, le-ltb}
use Rattle.graph.specs.Lists.{In}
use Rattle.graph.proofs.Counting.{in_map}
use Rattle.model.specs.Pattern.{Mark}
use Rattle.outside.specs.Outside.{outside, ranks_in}
use Rattle.outside.proofs.Dropped.{outside_in}
use Rattle.outside_row.specs.Inner.Table.{rank_number, entries_for, place_in}
use Rattle.outside_row.proofs.Entries.{entries-few, no_entries}
use Rattle.outside_row.proofs.Places.{place_holds, place-below}
use Rattle.pattern_word.specs.Inner.Digits.{Below}
use Rattle.pattern_word.specs.Inner.Pattern.{Width, lane, mark_of, codes_of, excess, store_from, store_of, recall_from, recall_of}
use Rattle.pattern_word.specs.Inner.Span.{Span, real}
use Rattle.pattern_word.proofs.Cases.{Lies, lies_inside, lies_above, lies_below, lies}
use Rattle.pattern_word.proofs.Marks.{pattern_codes}
use Rattle.pattern_word.proofs.Span.{span-from-zero}

-- ---- one variable, inside or outside
module _ (w c : ℕ) where
  module _ (h : c < w) where
    pub excess-inside : (cs : List ℕ) → excess w (c ∷ cs) ≡ excess w cs
    unfolding excess
    excess-inside cs = ap (λ (b : Bool). elim b [ true ↦ excess w cs | false ↦ (c - w) ∷ excess w cs ]) (lt-ltb c w h)

    pub store_inside : (n : ℕ) (cs : List ℕ) → store_from w n (c ∷ cs) ≡ c ∷ store_from w n cs
    unfolding store_from
    store_inside n cs = rw (lt-ltb c w h)

    pub recall_inside : (ds l : List ℕ) → recall_from w (c ∷ ds) l ≡ c ∷ recall_from w ds l
    unfolding recall_from
    recall_inside ds l = rw (lt-ltb c w h)

  module _ (h : w ≤ c) where
    pub excess-outside : (cs : List ℕ) → excess w (c ∷ cs) ≡ (c - w) ∷ excess w cs
    unfolding excess
    excess-outside cs = ap (λ (b : Bool). elim b [ true ↦ excess w cs | false ↦ (c - w) ∷ excess w cs ]) (le-ltb c w h)

    pub store_outside : (n : ℕ) (cs : List ℕ) → store_from w n (c ∷ cs) ≡ n ∷ store_from w w cs
    unfolding store_from
    store_outside n cs = rw (le-ltb c w h)

    pub recall_outside : (ds l : List ℕ) → recall_from w (c ∷ ds) l ≡ (w + get_or l 0 0) ∷ recall_from w ds (drop 1 l)
    unfolding recall_from
    recall_outside ds l = rw (le-ltb c w h)

pub data InOrOut (w c : ℕ) : Type 0 where
  lower : c < w → InOrOut w c
  upper : w ≤ c → InOrOut w c

pub in_or_out : (w c : ℕ) → InOrOut w c
in_or_out w c = go (dec_lt c w)
  where
    go : Dec (c < w) → InOrOut w c
    go (yes h) = lower h
    go (no h) = upper (omega arith)

-- ---- none outside
module _ (w : ℕ) where
  pub none_stored : (n : ℕ) (cs : List ℕ) → excess w cs ≡ [] → store_from w n cs ≡ cs
  unfolding store_from
  none_stored n [] e = refl
  none_stored n (c ∷ cs) e = go (in_or_out w c) (none_stored n cs)
    where
      go : InOrOut w c → (excess w cs ≡ [] → store_from w n cs ≡ cs) → store_from w n (c ∷ cs) ≡ c ∷ cs
      go (lower h) rest = store_inside w c h n cs ∙ ap (λ (l : List ℕ). c ∷ l) (rest (sym (excess-inside w c h cs) ∙ e))
      go (upper h) rest = absurd (omega (arith, ap length (sym (excess-outside w c h cs) ∙ e)))

  pub none_recalled : (ds l : List ℕ) → excess w ds ≡ [] → recall_from w ds l ≡ ds
  unfolding recall_from
  none_recalled [] l e = refl
  none_recalled (d ∷ ds) l e = go (in_or_out w d) (none_recalled ds l)
    where
      go : InOrOut w d → (excess w ds ≡ [] → recall_from w ds l ≡ ds) → recall_from w (d ∷ ds) l ≡ d ∷ ds
      go (lower h) rest = recall_inside w d h ds l ∙ ap (λ (k : List ℕ). d ∷ k) (rest (sym (excess-inside w d h ds) ∙ e))
      go (upper h) rest = absurd (omega (arith, ap length (sym (excess-outside w d h ds) ∙ e)))

  pub length_recall : (ds l : List ℕ) → length (recall_from w ds l) ≡ length ds
  unfolding recall_from
  length_recall [] l = refl
  length_recall (d ∷ ds) l = ap suc (length_recall ds (cond (ltb d w) l (drop 1 l)))

  pub length_store : (n : ℕ) (cs : List ℕ) → length (store_from w n cs) ≡ length cs
  unfolding store_from
  length_store n [] = refl
  length_store n (c ∷ cs) = ap suc (length_store (cond (ltb c w) n w) cs)

  -- ---- what is stored comes back
  -- as many digits as codes are outside
  stored_outside : (n : ℕ) → w ≤ n → (cs : List ℕ) → length (excess w (store_from w n cs)) ≡ length (excess w cs)
  unfolding store_from
  stored_outside n k [] = refl
  stored_outside n k (c ∷ cs) = go (in_or_out w c) (stored_outside n k cs) (stored_outside w (omega arith) cs)
    where
      Count : ℕ → List ℕ → Type 0
      Count m l = length (excess w (store_from w m l)) ≡ length (excess w l)

      go : InOrOut w c → Count n cs → Count w cs → Count n (c ∷ cs)
      go (lower h) p q =
          ap (λ (l : List ℕ). length (excess w l)) (store_inside w c h n cs) ∙ ap length (excess-inside w c h (store_from w n cs))
          ∙ p ∙ sym (ap length (excess-inside w c h cs))
      go (upper h) p q =
          ap (λ (l : List ℕ). length (excess w l)) (store_outside w c h n cs) ∙ ap length (excess-outside w n k (store_from w w cs))
          ∙ ap suc q ∙ sym (ap length (excess-outside w c h cs))

  -- the first digit outside holds n, if there is one
  stored_first : (n : ℕ) → w ≤ n → (cs : List ℕ) → (excess w cs ≡ []) ⊎ (get_or (excess w (store_from w n cs)) 0 0 ≡ n - w)
  unfolding store_from excess
  stored_first n k [] = inl refl
  stored_first n k (c ∷ cs) = go (in_or_out w c) (stored_first n k cs)
    where
      go : InOrOut w c → (excess w cs ≡ []) ⊎ (get_or (excess w (store_from w n cs)) 0 0 ≡ n - w)
          → (excess w (c ∷ cs) ≡ []) ⊎ (get_or (excess w (store_from w n (c ∷ cs))) 0 0 ≡ n - w)
      go (lower h) (inl e) = inl (excess-inside w c h cs ∙ e)
      go (lower h) (inr e) =
          inr (ap (λ (l : List ℕ). get_or (excess w l) 0 0) (store_inside w c h n cs)
          ∙ ap (λ (l : List ℕ). get_or l 0 0) (excess-inside w c h (store_from w n cs)) ∙ e)
      go (upper h) e =
          inr (ap (λ (l : List ℕ). get_or (excess w l) 0 0) (store_outside w c h n cs)
          ∙ ap (λ (l : List ℕ). get_or l 0 0) (excess-outside w n k (store_from w w cs)))

  -- digits and the excess of the codes give the codes
  stored_back : (n : ℕ) → w ≤ n → (cs : List ℕ) → recall_from w (store_from w n cs) (excess w cs) ≡ cs
  unfolding store_from recall_from
  stored_back n k [] = refl
  stored_back n k (c ∷ cs) = go (in_or_out w c) (stored_back n k cs) (stored_back w (omega arith) cs)
    where
      Back : ℕ → List ℕ → Type 0
      Back m l = recall_from w (store_from w m l) (excess w l) ≡ l

      go : InOrOut w c → Back n cs → Back w cs → Back n (c ∷ cs)
      go (lower h) p q =
          ap₂ (recall_from w) (store_inside w c h n cs) (excess-inside w c h cs) ∙ recall_inside w c h (store_from w n cs) (excess w cs)
          ∙ ap (λ (l : List ℕ). c ∷ l) p
      go (upper h) p q =
          let e : w + (c - w) ≡ c = omega arith in
          ap₂ (recall_from w) (store_outside w c h n cs) (excess-outside w c h cs) ∙ recall_outside w n k (store_from w w cs) ((c - w) ∷ excess w cs)
          ∙ ap₂ ◌∷◌ e q

  -- codes whose ranks are an entry of the table
  abbrev pub Storable : List ℕ → Type 0
  Storable cs = In (excess w cs) (entries_for (length (excess w cs)))

  pub recall_store : (cs : List ℕ) → Storable cs → recall_of w (store_of w cs) ≡ cs
  unfolding recall_of store_of
  recall_store cs h = ap (recall_from w ds) found ∙ stored_back n (omega arith) cs
    where
      r : List ℕ
      r = excess w cs

      n : ℕ
      n = w + place_in (entries_for (length r)) r

      ds : List ℕ
      ds = store_from w n cs

      at : (excess w cs ≡ []) ⊎ (get_or (excess w ds) 0 0 ≡ n - w) → get_or (entries_for (length r)) (get_or (excess w ds) 0 0) [] ≡ r
      at (inl e) =
          ap (λ (l : List ℕ). get_or (entries_for (length l)) (get_or (excess w ds) 0 0) []) e ∙ no_entries (get_or (excess w ds) 0 0) ∙ sym e
      at (inr e) =
          let i : get_or (excess w ds) 0 0 ≡ place_in (entries_for (length r)) r = omega arith in
          ap (λ (j : ℕ). get_or (entries_for (length r)) j []) i ∙ place_holds (entries_for (length r)) r h

      found : get_or (entries_for (length (excess w ds))) (get_or (excess w ds) 0 0) [] ≡ r
      found =
          ap (λ (m : ℕ). get_or (entries_for m) (get_or (excess w ds) 0 0) []) (stored_outside n (omega arith) cs)
          ∙ at (stored_first n (omega arith) cs)

  -- ---- every digit fits
  pub store_below : (m n : ℕ) → w ≤ n → n < m → (cs : List ℕ) → Below m (store_from w n cs)
  unfolding store_from
  store_below m n k l [] i = omega arith
  store_below m n k l (c ∷ cs) zero = go (in_or_out w c)
    where
      go : InOrOut w c → cond (ltb c w) c n < m
      go (lower h) = rw (lt-ltb c w h) (omega arith)
      go (upper h) = rw (le-ltb c w h) l
  store_below m n k l (c ∷ cs) (suc i) = go (in_or_out w c) (store_below m n k l cs i) (store_below m w (omega arith) (omega arith) cs i)
    where
      go : InOrOut w c → get_or (store_from w n cs) i 0 < m → get_or (store_from w w cs) i 0 < m → get_or (store_from w (cond (ltb c w) n w) cs) i 0 < m
      go (lower h) p q = rw (lt-ltb c w h) p
      go (upper h) p q = rw (le-ltb c w h) q

  pub stored_fits : Width w → (cs : List ℕ) → length (excess w cs) ≤ 4 → Storable cs → Below lane (store_of w cs)
  unfolding store_of
  stored_fits h cs few k =
      let r = excess w cs in
      let most = h.few in
      store_below lane (w + place_in (entries_for (length r)) r) (omega arith)
      (omega (arith, place-below (entries_for (length r)) r k, entries-few (length r) few)) cs

  pub excess-few : (cs : List ℕ) → length (excess w cs) ≤ length cs
  unfolding excess
  excess-few [] = omega arith
  excess-few (c ∷ cs) = go (in_or_out w c) (excess-few cs)
    where
      go : InOrOut w c → length (excess w cs) ≤ length cs → length (excess w (c ∷ cs)) ≤ suc (length cs)
      go (lower h) p = omega (arith, ap length (excess-inside w c h cs))
      go (upper h) p = omega (arith, ap length (excess-outside w c h cs))

-- ---- another value inside
module _ (w k : ℕ) (small : k < w) where
  excess-set : (cs : List ℕ) (v : ℕ) → v < length cs → get_or cs v 0 < w → excess w (set cs v k) ≡ excess w cs
  unfolding excess
  excess-set [] v l h = refl
  excess-set (c ∷ cs) zero l h = excess-inside w k small cs ∙ sym (excess-inside w c h cs)
  excess-set (c ∷ cs) (suc v) l h =
      ap (λ (t : List ℕ). elim (ltb c w) [ true ↦ t | false ↦ (c - w) ∷ t ]) (excess-set cs v (omega arith) h)

  store_from-set : (n : ℕ) (cs : List ℕ) (v : ℕ) → v < length cs → get_or cs v 0 < w → store_from w n (set cs v k) ≡ set (store_from w n cs) v k
  unfolding store_from
  store_from-set n [] v l h = refl
  store_from-set n (c ∷ cs) zero l h =
      store_inside w k small n cs ∙ sym (ap (λ (t : List ℕ). set t 0 k) (store_inside w c h n cs))
  store_from-set n (c ∷ cs) (suc v) l h =
      ap (λ (t : List ℕ). cond (ltb c w) c n ∷ t) (store_from-set (cond (ltb c w) n w) cs v (omega arith) h)

  pub store_set : (cs : List ℕ) (v : ℕ) → v < length cs → get_or cs v 0 < w → store_of w (set cs v k) ≡ set (store_of w cs) v k
  unfolding store_of
  store_set cs v l h =
      ap (λ (r : List ℕ). store_from w (w + place_in (entries_for (length r)) r) (set cs v k)) (excess-set cs v l h)
      ∙ store_from-set (w + place_in (entries_for (length (excess w cs))) (excess w cs)) cs v l h

-- ---- the codes of values can be stored
-- a code outside exceeds w by the number of its rank
excess_ranks : (lo : ℤ) (w : ℕ) (cs : List ℕ) → map rank_number (ranks_in (map (mark_of lo w) cs)) ≡ excess w cs
unfolding ranks_in excess rank_number
excess_ranks lo w [] = refl
excess_ranks lo w (c ∷ cs) = go (lies lo w c) (excess_ranks lo w cs)
  where
    below-number : (n : ℕ) → 0 < n → rank_number (neg_ℤ (pos n)) ≡ 3 + n
    below-number zero h = absurd (omega arith)
    below-number (suc n) h = omega arith

    rest : List Mark
    rest = map (mark_of lo w) cs

    marked : (m : Mark) → mark_of lo w c ≡ m → map rank_number (ranks_in (mark_of lo w c ∷ rest)) ≡ map rank_number (ranks_in (m ∷ rest))
    marked m e = ap (λ (t : Mark). map rank_number (ranks_in (t ∷ rest))) e

    go : Lies lo w c → map rank_number (ranks_in rest) ≡ excess w cs → map rank_number (ranks_in (mark_of lo w c ∷ rest)) ≡ excess w (c ∷ cs)
    go (lies_inside h m) p = marked _ m ∙ p ∙ sym (excess-inside w c h cs)
    go (lies_above n e f g m) p =
        let same : n - 1 ≡ c - w = omega arith in
        marked _ m ∙ ap₂ ◌∷◌ same p ∙ sym (excess-outside w c (omega arith) cs)
    go (lies_below n e f m) p =
        let same : 3 + n ≡ c - w = omega arith in
        marked _ m ∙ ap₂ ◌∷◌ (below-number n f ∙ same) p ∙ sym (excess-outside w c (omega arith) cs)

pub codes_storable : (w : ℕ) → Width w → (values : List ℕ) → length values ≤ 4 → Storable w (codes_of w values)
unfolding entries_for
codes_storable w h values few =
    subst (λ (l : List ℕ). In l (map (map rank_number) (outside (length l)))) (excess_ranks (pos 0) w (codes_of w values))
    (subst (λ (n : ℕ). In (map rank_number r) (map (map rank_number) (outside n))) (sym (length-map r rank_number)) (in_map (map rank_number) r (outside (length r)) there))
  where
    s : Span (pos 0) (pos (w - 1)) w
    s = span-from-zero w h

    r : List ℤ
    r = ranks_in (map (mark_of (pos 0) w) (codes_of w values))

    there : In r (outside (length r))
    there =
        subst (λ (ms : List Mark). In (ranks_in ms) (outside (length (ranks_in ms)))) (pattern_codes s values few)
        (outside_in s.zero (map (real (pos 0)) values) (omega (arith, length-map values (real (pos 0)))))
