-- The position of a value.
use Rattle.model.specs.Pattern.{Mark, above, inside, below}
use Rattle.pattern_word.specs.declared.Position.{Position}
use Rattle.pattern_word.specs.declared.Position.TheVariants.{Below, Inside, Above}

-- below C1, from C1 to C2, above C2
unfoldable pub position_of : Mark → Position
position_of (below k) = Below
position_of (inside z) = Inside
position_of (above k) = Above
