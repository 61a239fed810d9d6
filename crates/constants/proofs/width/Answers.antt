-- `width` meets its contract: one more than the offset.
use native.Mathlib.Omega.{arith}
use Rattle.constants.proofs.Offsets as offsets
use Rattle.constants.proofs.width.Goals as goal

pub overflow_add-result : goal.overflow_add-result
overflow_add-result c = omega arith

pub returns : goal.returns
returns c = let r = c.args.range in
    omega (
      arith,
      offsets.wide_offset r.lo r.hi c.offset_of.result
          (offsets.offset_bits r.hi r.lo (record { sfits = c.struct_told-1.given.1.0.1 })
          (record { sfits = c.struct_told-1.given.0.1 }) c.offset_of.result c.offset_of.ensures),
    )
