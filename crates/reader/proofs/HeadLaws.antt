-- Line 1 by the code's steps: the word, the count of fields, the three numbers, their ranges.
use mathlib.Core.Path.{◌≡◌, refl, sym, ap}
use mathlib.Core.List.{List, []}
use Rattle.std.specs.Prelude.{Option, None, Some, option_map, ok_or, Result}
use Prim.Native.Nat.{ℕ}
use lib.ListN.{length, get_or}
use Rattle.text.specs.Bytes.{bytes}
use Rattle.text.specs.Split.{same_word}
use Rattle.text.specs.Number.{natural}
use lib.Dec.{eqb}
use Rattle.flow.specs.Read.{check, given, after, head_of, read_head}
use Rattle.flow.specs.Inner.Reader.{small}
use Rattle.flow.specs.declared.Refusal.{Refusal}
use Rattle.flow.specs.declared.Refusal.TheVariants.{UnknownWord, WrongCount, BadNumber}
use Rattle.flow.proofs.HeadLaws.{head_small}
use Rattle.reader.specs.Inner.Line.{small_at}

-- a number that is asked for, kept small
given_small : {A : Type 0} (o : Option ℕ) (r : Refusal) (f g : ℕ → Result A Refusal) → ((n : ℕ) → f n ≡ g (small n)) → given o r f ≡ after (ok_or (option_map small o) r) g
given_small None r f g e = refl
given_small (Some n) r f g e = e n

-- line 1 by the code's steps: the word, the count of fields, the three numbers, their ranges
pub head_steps : (fs : List (List ℕ)) → read_head fs
    ≡ check (same_word (get_or fs 0 []) (bytes "flow")) (UnknownWord 1)
    (check (eqb (length fs) 4) (WrongCount 1)
    (after (ok_or (small_at fs 1) (BadNumber 1)) (λ t.
    after (ok_or (small_at fs 2) (BadNumber 1)) (λ o.
    after (ok_or (small_at fs 3) (BadNumber 1)) (λ v.
    head_of t o v)))))
unfolding read_head
head_steps fs =
    ap (λ r. check (same_word (get_or fs 0 []) (bytes "flow")) (UnknownWord 1) (check (eqb (length fs) 4) (WrongCount 1) r))
    (given_small (natural (get_or fs 1 [])) (BadNumber 1) _ _ (λ t.
    given_small (natural (get_or fs 2 [])) (BadNumber 1) _ _ (λ o.
    given_small (natural (get_or fs 3 [])) (BadNumber 1) _ _ (λ v.
    sym (head_small t o v)))))
