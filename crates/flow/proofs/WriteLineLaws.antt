-- One line, written and read. An instruction is its kind and the numbers in its fields; so the fields of its line are read as the
-- instruction, and fields that are read as an instruction are those of its line. The same for line 1.
use mathlib.Core.Path.{◌≡◌, refl, sym, ap, ap₂, ◌∙◌}
use mathlib.Core.Bool.{Bool, true, false, cond, ◌&&◌, true≢false}
use mathlib.Core.List.{List, [], ◌∷◌, map}
use Rattle.std.specs.Prelude.{Option, None, Some, option_map, option_and_then}
use Prim.Native.Nat.{ℕ, suc, ◌+◌}
use native.Mathlib.Omega.{arith}
use borrow.Author.Tests.{eq-eqb, eqb-true, le-leb, ltb-true}
use lib.Dec.{eqb, ltb}
use lib.IntN.{ℤ, pos, negsuc}
use lib.ListN.{length, length-map}
use Rattle.model.specs.Language.{Instruction, fields}
use Rattle.text.specs.Bytes.{bytes}
use Rattle.text.specs.Split.{same_word}
use Rattle.text.specs.Number.{numeral, natural, digits_after}
use Rattle.text.specs.Write.{signed}
use Rattle.text.proofs.Words.{same_word_lem}
use Rattle.text.proofs.Joined.{Past, EachPart}
use Rattle.text.proofs.Decimal.{none_no_some, decimal-read, plain_read, signed-read, natural-written, numeral-written, decimal_past, signed_past}
use Rattle.flow.specs.Limits.{max_tapes, max_outputs, max_variables}
use Rattle.flow.specs.Words.{table, kinds, first_named, kind_of, sorts, may_minus, count, at, built, number}
use Rattle.flow.specs.Inner.Reader.{field}
use Rattle.std.specs.Prelude.{Ok}
use Rattle.flow.specs.Read.{check, numerals, in_range, all, head_of, read_head, read_line}
use Rattle.flow.specs.Code.{kind, numbers}
use Rattle.flow.specs.Inner.Reader.{HeadFits}
use Rattle.flow.proofs.RowLaws.{placed}
use Rattle.flow.specs.Write.{word, head_fields, line_fields}
use Rattle.flow.specs.declared.Kind.{Kind}
use Rattle.flow.specs.declared.Sort.{Sort}
use Rattle.flow.specs.declared.Head.{Head}
use Rattle.flow.specs.declared.Refusal.TheVariants.{OutOfRange}
use Rattle.flow.proofs.HeadLaws.{HeadRead, head_read}
use Rattle.flow.proofs.SortLaws.{number-field}
use Rattle.flow.proofs.RowLaws.{tried, kind-built, fields-built, word_known, parts-built}
use Rattle.flow.proofs.Tests.{and_split}
use Rattle.flow.proofs.ReadLaws.{LineRead, line_read}

-- ---- what is written is read
-- the numbers in fields of some sorts are read back
numbers-read : (ss : List Sort) (zs : List ℤ) (j : ℕ) → let fs = map number (placed ss zs j) in numerals ss (map signed fs) ≡ Some fs
unfolding numerals
numbers-read [] zs j = refl
numbers-read (s ∷ ss) zs j = rw (one s (at zs j), numbers-read ss zs (suc j))
  where
    one : (s : Sort) (z : ℤ) → numeral (may_minus s) (signed (number (field s z))) ≡ Some (number (field s z))
    one s z = rw (number-field z s) (by (may_minus s))
      where
        by : (b : Bool) → numeral b (signed (cond b z (pos (count z)))) ≡ Some (cond b z (pos (count z)))
        by true = signed-read z
        by false = plain_read (count z)

pub placed_length : (ss : List Sort) (zs : List ℤ) (j : ℕ) → length (placed ss zs j) ≡ length ss
placed_length [] zs j = refl
placed_length (s ∷ ss) zs j = ap suc (placed_length ss zs (suc j))

-- the fields of an instruction, by the sorts of its kind
pub fields_placed : (x : Instruction) → fields x ≡ placed (sorts (kind x)) (numbers x) 0
fields_placed x = ap fields (sym (parts-built x)) ∙ fields-built (numbers x) (kind x)

-- the line of an instruction is judged by its ranges alone
pub line_fields-read : (h : Head) (i : ℕ) (x : Instruction)
    → read_line h i (line_fields i x) ≡ check (all (in_range h) (fields x)) (OutOfRange (i + 1)) (Ok x)
unfolding read_line
line_fields-read h i x =
    let k = kind x in
    let read : numerals (sorts k) (map signed (numbers x)) ≡ Some (numbers x) = rw (fields_placed x) (numbers-read (sorts k) (numbers x) 0) in
    let places : length (fields x) ≡ length (sorts k) = ap length (fields_placed x) ∙ placed_length (sorts k) (numbers x) 0 in
    let wide : suc (suc (length (map signed (numbers x)))) ≡ length (sorts k) + 2 = omega (arith, length-map (numbers x) signed, length-map (fields x) number) in
    rw (word_known k, eq-eqb _ _ wide, decimal-read i, read, eq-eqb i i refl, parts-built x)

pub head-fields-read : (h : Head) → HeadFits h → read_head (head_fields h) ≡ Ok h
unfolding read_head head_of same_word
head-fields-read h f =
    rw (
      decimal-read h.tapes,
      decimal-read h.outputs,
      decimal-read h.variables,
      le-leb 1 h.tapes f.tapes.0,
      le-leb h.tapes max_tapes f.tapes.1,
      le-leb h.outputs max_outputs f.outputs,
      le-leb 1 h.variables f.variables.0,
      le-leb h.variables max_variables f.variables.1,
    )

-- ---- what is read was written
minus_first : (b : ℕ) (bs : List ℕ) → b ≡ 45 → natural (b ∷ bs) ≡ None
unfolding natural digits_after
minus_first b [] e = rw e
minus_first b (d ∷ bs) e = rw e

pub numeral-natural : (f : List ℕ) → numeral false f ≡ option_map pos (natural f)
unfolding numeral natural
numeral-natural [] = refl
numeral-natural (b ∷ bs) = by (eqb b 45) refl
  where
    by : (t : Bool) → eqb b 45 ≡ t → cond t None (option_map pos (natural (b ∷ bs))) ≡ option_map pos (natural (b ∷ bs))
    by true h = sym (ap (option_map pos) (minus_first b bs (eqb-true b 45 h)))
    by false h = refl

abbrev positive : Option ℤ → Bool
positive None = true
positive (Some (pos n)) = true
positive (Some (negsuc n)) = false

no_minus : (f : List ℕ) (n : ℕ) → numeral false f ≡ Some (negsuc n) → ⊥
no_minus f n e = by (natural f) (sym (numeral-natural f) ∙ e)
  where
    by : (o : Option ℕ) → option_map pos o ≡ Some (negsuc n) → ⊥
    by None q = none_no_some q
    by (Some m) q = let z : ◌≡◌ {A = Bool} true false = ap (λ (o : Option ℤ). positive o) q in true≢false z

-- a number that is read is the one that its field holds, and is written so
number-back : (s : Sort) (f : List ℕ) (z : ℤ) → numeral (may_minus s) f ≡ Some z → (number (field s z) ≡ z) × (f ≡ signed z)
number-back s f z = rw (number-field z s) (by (may_minus s) z)
  where
    by : (b : Bool) (z : ℤ) → numeral b f ≡ Some z → (cond b z (pos (count z)) ≡ z) × (f ≡ signed z)
    by true z e = (refl, numeral-written true f z e)
    by false (pos n) e = (refl, numeral-written false f (pos n) e)
    by false (negsuc n) e = absurd (no_minus f n e)

-- a number in front of those of the rest, if all are well written
abbrev pub joined : Option ℤ → Option (List ℤ) → Option (List ℤ)
joined o rest = option_and_then (λ z. option_map (λ zs. z ∷ zs) rest) o

-- the numbers that are read are those in the fields of the instruction, and are written so
module _ (ws : List ℤ) where
  numbers-back : (ss : List Sort) (fs : List (List ℕ)) (zs : List ℤ) (j : ℕ) → length fs ≡ length ss → numerals ss fs ≡ Some zs → ((i : ℕ) → at ws (j + i) ≡ at zs i)
      → (map number (placed ss ws j) ≡ zs) × (fs ≡ map signed zs)
  unfolding numerals
  numbers-back [] [] zs j l e h = let None : [] ≡ zs = cc in (None, ap (map signed) None)
  numbers-back [] (f ∷ fs) zs j l e h = absurd (omega arith)
  numbers-back (s ∷ ss) [] zs j l e h = absurd (omega arith)
  numbers-back (s ∷ ss) (f ∷ fs) zs j l e h = by (numeral (may_minus s) f) (numerals ss fs) refl refl e (numbers-back ss fs)
    where
      by : (o : Option ℤ) (os : Option (List ℤ)) → numeral (may_minus s) f ≡ o → numerals ss fs ≡ os → joined o os ≡ Some zs
          → ((ys : List ℤ) (j : ℕ) → length fs ≡ length ss → numerals ss fs ≡ Some ys → ((i : ℕ) → at ws (j + i) ≡ at ys i) → (map number (placed ss ws j) ≡ ys) × (fs ≡ map signed ys))
          → (map number (placed (s ∷ ss) ws j) ≡ zs) × (f ∷ fs ≡ map signed zs)
      by None os p q e rest = absurd (none_no_some e)
      by (Some z) None p q e rest = absurd (none_no_some e)
      by (Some z) (Some ys) p q e rest =
          let whole : z ∷ ys ≡ zs = cc in
          let start : j ≡ j + 0 = omega arith in
          let here : at ws j ≡ z = ap (at ws) start ∙ h 0 ∙ ap (λ (l : List ℤ). at l 0) (sym whole) in
          let (held, written) = number-back s f z p in
          let next : (i : ℕ) → at ws (suc j + i) ≡ at ys i =
          λ i. let e : suc j + i ≡ j + suc i = omega arith in rw e (h (suc i) ∙ ap (λ (l : List ℤ). at l (suc i)) (sym whole)) in
          let (helds, writtens) = rest ys (suc j) (omega arith) q next in
          (ap₂ ◌∷◌ (ap (λ (w : ℤ). number (field s w)) here ∙ held) helds ∙ whole, ap₂ ◌∷◌ written writtens ∙ ap (map signed) whole)

module _ (k : Kind) (fs : List (List ℕ)) (zs : List ℤ) (l : length fs ≡ length (sorts k)) (e : numerals (sorts k) fs ≡ Some zs) where
  both : (map number (placed (sorts k) zs 0) ≡ zs) × (fs ≡ map signed zs)
  both = numbers-back zs (sorts k) fs zs 0 l e (λ i. let z : 0 + i ≡ i = omega arith in rw z)

  pub numbers-built : numbers (built k zs) ≡ zs
  numbers-built = ap (map number) (fields-built zs k) ∙ both.0

  fields-written : fs ≡ map signed (numbers (built k zs))
  fields-written = both.1 ∙ ap (map signed) (sym numbers-built)

-- the kind that a word names has that word
word-among : (ks : List Kind) (w : List ℕ) (k : Kind) → first_named ks w ≡ Some k → w ≡ (table k).word
unfolding first_named
word-among [] w k e = absurd (none_no_some e)
word-among (j ∷ ks) w k e = by (same_word w (table j).word) refl e (word-among ks w k)
  where
    by : (t : Bool) → same_word w (table j).word ≡ t → cond t (Some j) (first_named ks w) ≡ Some k → (first_named ks w ≡ Some k → w ≡ (table k).word) → w ≡ (table k).word
    by true h e rest = let same : j ≡ k = cc in same_word_lem w (table j).word h ∙ ap (λ (i : Kind). (table i).word) same
    by false h e rest = rest e

word-written : (w : List ℕ) (k : Kind) (zs : List ℤ) → kind_of w ≡ Some k → w ≡ word (built k zs)
word-written w k zs e = word-among kinds w k e ∙ ap (λ (i : Kind). (table i).word) (sym (kind-built zs k))

pub line_fields-written : (h : Head) (i : ℕ) (fs : List (List ℕ)) (x : Instruction) → read_line h i fs ≡ Ok x → fs ≡ line_fields i x
line_fields-written h i fs x e = by fs (line_read h i fs x e)
  where
    by : (fs : List (List ℕ)) → LineRead h i fs x → fs ≡ line_fields i x
    by [] o = absurd (omega (arith, o.counted))
    by (f ∷ []) o = absurd (omega (arith, o.counted))
    by (f ∷ w ∷ fs) o =
        let ns = fields-written o.k fs o.ns (omega (arith, o.counted)) o.numbers in
        ap₂ ◌∷◌ (natural-written f i o.number) (ap₂ ◌∷◌ (word-written w o.k o.ns o.known) ns)
        ∙ ap (line_fields i) o.whole

pub head-fields-written : (fs : List (List ℕ)) (h : Head) → read_head fs ≡ Ok h → fs ≡ head_fields h
head-fields-written fs h e = by fs (head_read fs h e)
  where
    by : (fs : List (List ℕ)) → HeadRead fs h → fs ≡ head_fields h
    by [] o = absurd (omega (arith, o.counted))
    by (w ∷ []) o = absurd (omega (arith, o.counted))
    by (w ∷ a ∷ []) o = absurd (omega (arith, o.counted))
    by (w ∷ a ∷ b ∷ []) o = absurd (omega (arith, o.counted))
    by (w ∷ a ∷ b ∷ c ∷ []) o =
        ap₂ ◌∷◌ (same_word_lem w (bytes "flow") o.word)
        (ap₂ ◌∷◌ (natural-written a h.tapes o.tapes)
        (ap₂ ◌∷◌ (natural-written b h.outputs o.outputs) (ap₂ ◌∷◌ (natural-written c h.variables o.variables) refl)))
    by (w ∷ a ∷ b ∷ c ∷ d ∷ fs) o = absurd (omega (arith, o.counted))

-- ---- no field has a comma
abbrev all_past : List ℕ → Bool
all_past [] = true
all_past (b ∷ w) = ltb 44 b && all_past w

past_44 : (w : List ℕ) → all_past w ≡ true → Past 44 w
past_44 [] e = tt
past_44 (b ∷ w) e = let (h, t) = and_split (ltb 44 b) (all_past w) e in (ltb-true 44 b h, past_44 w t)

word_past : (x : Instruction) → Past 44 (word x)
word_past x = past_44 (word x) (tried (λ k. all_past (table k).word) (λ k. true) refl (kind x))

numbers_past : (zs : List ℤ) → EachPart (Past 44) (map signed zs)
numbers_past [] = tt
numbers_past (z ∷ zs) = (signed_past z, numbers_past zs)

pub head_past : (h : Head) → EachPart (Past 44) (head_fields h)
head_past h = (omega arith, (decimal_past h.tapes, (decimal_past h.outputs, (decimal_past h.variables, tt))))

pub line_past : (i : ℕ) (x : Instruction) → EachPart (Past 44) (line_fields i x)
line_past i x = (decimal_past i, (word_past x, numbers_past (numbers x)))
