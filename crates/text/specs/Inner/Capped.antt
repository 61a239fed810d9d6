-- The number reader's answer: numbers are of any size, code holds 64 bits, so the
-- reader gives each size above a cap as the cap. The cap lies above every range, that of 32-bit records too, so no test of
-- a number against a range tells the two apart (proofs/Cap.antt).
use Rattle.std.specs.Prelude.{ℕ, ◌-◌, min, ℤ, pos, negsuc}

abbrev pub cap : ℕ
cap = 10000000000

-- a size above the cap is given as the cap, with its sign
unfoldable pub capped : ℤ → ℤ
capped (pos n) = pos (min n cap)
capped (negsuc n) = negsuc (min n (cap - 1))
