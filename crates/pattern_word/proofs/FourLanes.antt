-- The pattern word of values: its lanes are the codes of the values, it is a word of 64 bits, and it is told by its lanes. And four lanes as the
-- code packs them.
use mathlib.Core.Path.{◌≡◌, sym, ap, ◌∙◌, subst}
use mathlib.Core.List.{List, [], ◌∷◌}
use Prim.Native.Nat.{ℕ, ◌≤◌, ◌<◌, ◌^◌, ◌+◌, ◌*◌}
use native.Mathlib.Omega.{arith}
use lib.ListN.{length, set, length-set, get_or}
use Rattle.pattern_word.specs.Inner.Digits.{digits, undigits, Below}
use Rattle.pattern_word.specs.Inner.Pattern.{Width, lane, pattern_words, store_of, recall_of, lanes, codes_of, values_of, word_of, assign_of, Valid}
use Rattle.pattern_word.proofs.Digits.{length_digits, digits-undigits, power, undigits-below, four-again}
use Rattle.pattern_word.proofs.Ranks.{length_codes, length-values}
use Rattle.pattern_word.proofs.Marks.{codes_again}
use Rattle.pattern_word.proofs.Stored.{length_recall, length_store, excess-few, recall_store, stored_fits, codes_storable}

-- the values of a pattern word, with y for variable v
abbrev pub values_with : (w pattern v y : ℕ) → List ℕ
values_with w pattern v y = set (values_of w (lanes w pattern)) v y

pub length-lanes : (w pattern : ℕ) → length (lanes w pattern) ≡ 4
unfolding recall_of
length-lanes w pattern = length_recall w (digits lane 4 pattern) _ ∙ length_digits lane 4 pattern

pub length_values_of : (w pattern : ℕ) → length (values_of w (lanes w pattern)) ≡ 4
length_values_of w pattern = length-values w (lanes w pattern) ∙ length-lanes w pattern

pub length_with : (w pattern v y : ℕ) → length (values_with w pattern v y) ≡ 4
length_with w pattern v y = length-set (values_of w (lanes w pattern)) v y ∙ length_values_of w pattern

-- a pattern word has 64 bits
pub pattern_bits : pattern_words ≤ 2 ^ 64
pattern_bits = omega arith

module _ (w : ℕ) (h : Width w) where
  -- ---- the word of four values
  module _ (s : List ℕ) (l : length s ≡ 4) where
    pub stored_four : length (store_of w (codes_of w s)) ≡ 4
    unfolding store_of
    stored_four = length_store w _ (codes_of w s) ∙ length_codes w s ∙ l

    pub stored_below : Below lane (store_of w (codes_of w s))
    stored_below =
        stored_fits w h (codes_of w s) (omega (arith, excess-few w (codes_of w s), length_codes w s)) (codes_storable w h s (omega arith))

    pub lanes_codes : lanes w (word_of w s) ≡ codes_of w s
    unfolding word_of
    lanes_codes =
        ap (recall_of w) (digits-undigits lane 4 (omega arith) (store_of w (codes_of w s)) stored_four stored_below)
        ∙ recall_store w (codes_of w s) (codes_storable w h s (omega arith))

    pub word_fits : word_of w s < pattern_words
    unfolding word_of power
    word_fits = subst (λ (n : ℕ). undigits lane (store_of w (codes_of w s)) < power lane n) stored_four (undigits-below lane (store_of w (codes_of w s)) stored_below)

    -- the values of its codes have the same word
    pub valid-word : Valid w (word_of w s)
    unfolding word_of
    valid-word =
        ap (λ (c : List ℕ). word_of w (values_of w c)) lanes_codes
        ∙ ap (λ (c : List ℕ). undigits lane (store_of w c)) (codes_again w h s (omega arith))

  -- ---- words of values
  pub valid_codes : (p : ℕ) → Valid w p → codes_of w (values_of w (lanes w p)) ≡ lanes w p
  valid_codes p k = sym (lanes_codes (values_of w (lanes w p)) (length_values_of w p)) ∙ ap (lanes w) k

  pub valid_tell : (p q : ℕ) → Valid w p → Valid w q → lanes w p ≡ lanes w q → p ≡ q
  valid_tell p q j k e = sym j ∙ ap (λ (l : List ℕ). word_of w (values_of w l)) e ∙ k

  -- ---- the word after a store
  module _ (p v y : ℕ) where
    pub lanes-assign : lanes w (assign_of w p v y) ≡ codes_of w (values_with w p v y)
    unfolding assign_of
    lanes-assign = lanes_codes (values_with w p v y) (length_with w p v y)

    pub assign_fits : assign_of w p v y < pattern_words
    unfolding assign_of
    assign_fits = word_fits (values_with w p v y) (length_with w p v y)

    pub valid-assign : Valid w (assign_of w p v y)
    unfolding assign_of
    valid-assign = valid-word (values_with w p v y) (length_with w p v y)

-- ---- `word`
pub word_below : (w : ℕ) → Width w → (s c d : List ℕ) → length s ≡ 4 → c ≡ codes_of w s → d ≡ store_of w c → Below lane d
word_below w h s c d l ec ed = subst (Below lane) (sym (ed ∙ ap (store_of w) ec)) (stored_below w h s l)

-- ---- `pack`
pub pack_four : (l : List ℕ) → length l ≡ 4 → get_or l 0 0 + lane * (get_or l 1 0 + lane * (get_or l 2 0 + lane * get_or l 3 0)) ≡ undigits lane l
unfolding undigits
pack_four l h = made (get_or l 0 0) (get_or l 1 0) (get_or l 2 0) (get_or l 3 0) ∙ ap (undigits lane) (four-again l h)
  where
    made : (a b c d : ℕ) → a + lane * (b + lane * (c + lane * d)) ≡ undigits lane (a ∷ b ∷ c ∷ d ∷ [])
    made a b c d = omega arith
