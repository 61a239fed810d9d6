-- `offset_of` meets its contract: the difference fits 64 bits; it is the offset unless it is negative.
use mir.Facts.{to_z-of_z}
use Rattle.constants.proofs.Offsets as offsets
use Rattle.constants.proofs.offset_of.Goals as goal

pub overflow_cast-d : goal.overflow_cast-d
overflow_cast-d c = rw (to_z-of_z c.ranges.c) (offsets.fits_wider _ c.ranges.c)

pub overflow_cast-d-2 : goal.overflow_cast-d-2
overflow_cast-d-2 c = rw (to_z-of_z c.ranges.lo) (offsets.fits_wider _ c.ranges.lo)

pub overflow_sub-d : goal.overflow_sub-d
overflow_sub-d c = rw (offsets.gap_sides _ _ c.ranges.c c.ranges.lo) (offsets.gap_fits _ _ c.ranges.c c.ranges.lo)

pub returns-then-d-lt0 : goal.returns-then-d-lt0
returns-then-d-lt0 c = offsets.gap_nothing _ _ c.ranges.c c.ranges.lo c.if-d-lt0.true

pub overflow_cast-result : goal.overflow_cast-result
overflow_cast-result c = offsets.gap_cast _ _ c.ranges.c c.ranges.lo c.if-d-lt0.false

pub returns-else-d-lt0 : goal.returns-else-d-lt0
returns-else-d-lt0 c = offsets.gap_offset _ _ c.ranges.c c.ranges.lo c.if-d-lt0.false
