-- Words that are found the same are equal, and `==` on slices finds them the same.
use mathlib.Core.Path.{◌≡◌}
use mathlib.Core.Bool.{true}
use mathlib.Core.List.{List}
use Prim.Native.Nat.{ℕ}
use Rattle.std.specs.Bool.{Decides}
use Rattle.std.specs.Str.{bytes_eq}
use Rattle.std.proofs.Common.{rules}
use Rattle.std.proofs.lemmas.Slice.Eq.{compares_Decides}
use Rattle.text.specs.Split.{same_word}

pub same_word-Decides : (a b : List ℕ) → Decides (same_word a b) (a ≡ b)
unfolding same_word
same_word-Decides a b = compares_Decides same_word (search rules) a b

pub same_word_lem : (a b : List ℕ) → same_word a b ≡ true → a ≡ b
same_word_lem a b e = (same_word-Decides a b).0 e

-- what `==` says of two slices
pub same_word_eq : (a b : List ℕ) → bytes_eq a b ≡ same_word a b
unfolding same_word
same_word_eq a b = search rules
