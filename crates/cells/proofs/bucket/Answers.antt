-- `cells::bucket` meets its contract: what is folded is half a word, so that products with 32 bits fit (proofs/Buckets.antt).
use mathlib.Core.Path.{ap, ◌∙◌}
use Prim.Native.Nat.{ℕ, ◌+◌, ◌*◌, ◌/◌, ◌%◌}
use native.Mathlib.Nat.{mod-lt}
use native.Mathlib.Omega.{arith}
use Rattle.cells.specs.Inner.Columns.{half}
use Rattle.cells.specs.Inner.Index.{fold_of, bucket_of}
use Rattle.cells.proofs.Buckets.{half-word, steps-few, scaled_below}
use Rattle.cells.proofs.bucket.Goals as goal

pub overflow_mul-fold : goal.overflow_mul-fold
overflow_mul-fold c = record { fits = omega (arith, half-word _ _ c.fold.ensures) }

pub overflow_add-spread : goal.overflow_add-spread
overflow_add-spread c = record { fits = omega (arith, half-word _ _ c.fold-mixed.ensures) }

pub overflow_add-spread-2 : goal.overflow_add-spread-2
overflow_add-spread-2 c = let a = c.args in
    record { fits = omega (arith, steps-few a.pattern a.size, half-word _ _ c.fold-mixed.ensures) }

pub returns : goal.returns
unfolding bucket_of
returns c = let a = c.args in (
  ap (λ (x : ℕ). (x + a.place % half * 2654435769 + a.pattern % 65536 * (half / a.size)) % half * a.size / half)
      (c.fold-mixed.ensures ∙ ap (λ (x : ℕ). fold_of (x * 2654435769)) c.fold.ensures),
  scaled_below _ _ (mod-lt _ (omega arith)) c.requires.0,
)
