-- Fields and lines, joined and split. Fields in which no comma stands are the fields of their line, and lines in which no byte 10
-- stands are the lines of their text; and every line is its fields joined, every text that ends with byte 10 its lines.
use mathlib.Core.Path.{◌≡◌, refl, sym, ap, ap₂, ◌∙◌}
use mathlib.Core.Bool.{Bool, true, false, cond}
use mathlib.Core.List.{List, [], ◌∷◌, ◌++◌, append-nil}
use Prim.Native.Nat.{ℕ, suc, ◌-◌, ◌≤◌, ◌<◌}
use native.Mathlib.Omega.{arith}
use borrow.Author.Tests.{eqb-true, ne_eqb}
use lib.Dec.{eqb}
use lib.ListN.{length, get_or}
use Rattle.text.specs.Split.{lead, parts, lines, split}
use Rattle.text.specs.Write.{parted, ended}

-- what holds of each of some parts
abbrev pub EachPart : (List ℕ → Type 0) → List (List ℕ) → Type 0
EachPart P [] = Unit {0}
EachPart P (p ∷ ps) = P p × EachPart P ps

-- every byte is greater than c
abbrev pub Past : ℕ → List ℕ → Type 0
Past c [] = Unit {0}
Past c (x ∷ xs) = (c < x) × Past c xs

past_append : (c : ℕ) (xs ys : List ℕ) → Past c xs → Past c ys → Past c (xs ++ ys)
past_append c [] ys p q = q
past_append c (x ∷ xs) ys (l, p) q = (l, past_append c xs ys p q)

past_less : (b c : ℕ) → b ≤ c → (xs : List ℕ) → Past c xs → Past b xs
past_less b c l [] p = tt
past_less b c l (x ∷ xs) (h, p) = (omega arith, past_less b c l xs p)

-- fields without a comma or a byte below it make a line without byte 10
pub parted_past : (fs : List (List ℕ)) → EachPart (Past 44) fs → Past 10 (parted fs)
unfolding parted
parted_past [] p = tt
parted_past (f ∷ []) (p, q) = past_less 10 44 (omega arith) f p
parted_past (f ∷ g ∷ fs) (p, q) = past_append 10 f (44 ∷ parted (g ∷ fs)) (past_less 10 44 (omega arith) f p) (omega arith, parted_past (g ∷ fs) q)

-- ---- what is joined is split
parts_front : (c : ℕ) (end ps : List (List ℕ)) (p rest : List ℕ) → Past c p → parts c end rest ≡ [] ∷ ps → parts c end (p ++ rest) ≡ p ∷ ps
unfolding parts lead
parts_front c end ps [] rest h e = e
parts_front c end ps (x ∷ p) rest (h, hs) e = rw (ne_eqb x c (λ q. omega arith), parts_front c end ps p rest hs e)

pub fields-parted : (f : List ℕ) (fs : List (List ℕ)) → EachPart (Past 44) (f ∷ fs) → split (parted (f ∷ fs)) ≡ f ∷ fs
unfolding split parts parted
fields-parted f [] (p, q) = rw append-nil at (parts_front 44 ([] ∷ []) [] f [] p refl)
fields-parted f (g ∷ fs) (p, q) = parts_front 44 ([] ∷ []) (g ∷ fs) f (44 ∷ parted (g ∷ fs)) p (ap (◌∷◌ []) (fields-parted g fs q))

pub lines-ended : (ls : List (List ℕ)) → EachPart (Past 10) ls → lines (ended ls) ≡ ls
unfolding lines parts ended
lines-ended [] p = refl
lines-ended (l ∷ ls) (p, q) = parts_front 10 [] ls l (10 ∷ ended ls) p (ap (◌∷◌ []) (lines-ended ls q))

-- ---- what is split was joined
no_nil : {A : Type 0} {x : A} {xs : List A} → x ∷ xs ≡ [] → ⊥
no_nil e = cc

some-field : (line : List ℕ) → split line ≡ [] → ⊥
unfolding split parts lead
some-field [] e = no_nil e
some-field (x ∷ xs) e = by (eqb x 44) (parts 44 ([] ∷ []) xs) e
  where
    by : (t : Bool) (ps : List (List ℕ)) → cond t ([] ∷ ps) (lead x ps) ≡ [] → ⊥
    by true ps e = no_nil e
    by false [] e = no_nil e
    by false (p ∷ ps) e = no_nil e

pub parted-fields : (line : List ℕ) → parted (split line) ≡ line
unfolding split parts lead parted
parted-fields [] = refl
parted-fields (x ∷ xs) = by (eqb x 44) (parts 44 ([] ∷ []) xs) refl (some-field xs) (parted-fields xs)
  where
    by : (t : Bool) (ps : List (List ℕ)) → eqb x 44 ≡ t → (ps ≡ [] → ⊥) → parted ps ≡ xs → parted (cond t ([] ∷ ps) (lead x ps)) ≡ x ∷ xs
    by true [] h n e = absurd (n refl)
    by true (p ∷ ps) h n e = ap₂ ◌∷◌ (sym (eqb-true x 44 h)) e
    by false [] h n e = ap (◌∷◌ x) e
    by false (p ∷ []) h n e = ap (◌∷◌ x) e
    by false (p ∷ q ∷ ps) h n e = ap (◌∷◌ x) e

-- the last byte
abbrev last : List ℕ → ℕ
last text = get_or text (length text - 1) 0

last_behind : (x y : ℕ) (ys : List ℕ) → last (x ∷ y ∷ ys) ≡ last (y ∷ ys)
last_behind x y ys =
    let a : suc (suc (length ys)) - 1 ≡ suc (length ys) = omega arith in
    let b : suc (length ys) - 1 ≡ length ys = omega arith in
    rw (a, b)

pub ended-lines : (text : List ℕ) → last text ≡ 10 → ended (lines text) ≡ text
unfolding lines parts lead ended
ended-lines [] e = refl
ended-lines (x ∷ []) e = rw e
ended-lines (x ∷ y ∷ ys) e = by (eqb x 10) (lines (y ∷ ys)) refl (ended-lines (y ∷ ys) (sym (last_behind x y ys) ∙ e))
  where
    by : (t : Bool) (ls : List (List ℕ)) → eqb x 10 ≡ t → ended ls ≡ y ∷ ys → ended (cond t ([] ∷ ls) (lead x ls)) ≡ x ∷ y ∷ ys
    by true ls h e = ap₂ ◌∷◌ (sym (eqb-true x 10 h)) e
    by false [] h e = absurd (no_nil (sym e))
    by false (l ∷ ls) h e = ap (◌∷◌ x) e

last-append : (xs : List ℕ) (y : ℕ) (ys : List ℕ) → last (xs ++ (y ∷ ys)) ≡ last (y ∷ ys)
last-append [] y ys = refl
last-append (x ∷ []) y ys = last_behind x y ys
last-append (x ∷ z ∷ zs) y ys = last_behind x z (zs ++ (y ∷ ys)) ∙ last-append (z ∷ zs) y ys

pub last-ended : (l : List ℕ) (ls : List (List ℕ)) → last (ended (l ∷ ls)) ≡ 10
unfolding ended
last-ended l [] = last-append l 10 []
last-ended l (m ∷ ms) = last-append l 10 (ended (m ∷ ms)) ∙ last-append (10 ∷ m) 10 (ended ms) ∙ sym (last-append m 10 (ended ms)) ∙ last-ended m ms
