-- Choices by cases, as the code makes them.
use mathlib.Core.Path.{◌≡◌}
use mathlib.Core.Bool.{true, false}
use mathlib.Core.List.{List}
use Prim.Native.Nat.{ℕ}
use Rattle.std.specs.Prelude.{Some, None}
use lib.IntN.{ℤ, pos}
use lib.ListN.{get_or}
use lib.Signed.{lt_z}
use Rattle.model.specs.Inner.Runs.{furthest}
use Rattle.sample_row.specs.Inner.Moves.{further}
use Rattle.sample_row.specs.Inner.Choices.{first_at, choose_beyond, choose}
use Rattle.sample_row.specs.declared.Direction.{Direction}
use Rattle.sample_row.specs.declared.Direction.TheVariants.{Up, Down}
use Rattle.sample_row.specs.declared.Choice.TheVariants.{Take, Between}

module _ (out : Direction) (e y : ℤ) (w v : List ℤ) where
  pub beyond-held : (i : ℕ) → first_at y w ≡ Some i → Take (get_or v i (pos 0)) ≡ choose_beyond out e y w v
  unfolding choose_beyond
  beyond-held i h = rw h

  pub beyond-between : first_at y w ≡ None → Between out (furthest (further out) e y w v) ≡ choose_beyond out e y w v
  unfolding choose_beyond
  beyond-between h = rw h

module _ (lo hi y : ℤ) (w v : List ℤ) where
  pub choose-above : lt_z hi y ≡ true → choose_beyond Up hi y w v ≡ choose lo hi y w v
  unfolding choose
  choose-above h = rw h

  pub choose-below : lt_z hi y ≡ false → lt_z y lo ≡ true → choose_beyond Down lo y w v ≡ choose lo hi y w v
  unfolding choose
  choose-below h k = rw (h, k)

  pub choose-inside : lt_z hi y ≡ false → lt_z y lo ≡ false → Take y ≡ choose lo hi y w v
  unfolding choose
  choose-inside h k = rw (h, k)
