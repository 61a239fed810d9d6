-- `exits` meets its contract: both columns list what the entries before k take (proofs/Filling.antt).
use mathlib.Core.List.{List}
use Prim.Native.Nat.{ℕ}
use Rattle.model.specs.Machine.{Exit, p_exit, m_exit}
use Rattle.configuration.specs.declared.Op.{Op}
use Rattle.cells.specs.Inner.Columns.{place_field, pattern_field, distance_field, column, word_column}
use Rattle.search_table.proofs.Filling.{Filling}
use Rattle.search_table.proofs.exits.Given as goal

abbrev pub Listing : (cells : List (List ℕ)) (w : ℕ) (ops : List Op) → Exit → (k : ℕ) → List ℕ → Type 0
Listing cells w = Filling w (word_column place_field cells) (word_column pattern_field cells) (column distance_field cells)

abbrev pub invariant-loop-k : goal.invariant-loop-k
invariant-loop-k l = Listing l.cells l.coding.w l.ops p_exit l.k l.p × Listing l.cells l.coding.w l.ops m_exit l.k l.m
