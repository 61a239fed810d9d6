-- What is kept when one more is visited, and what it means that no cell is left.
use mathlib.Core.Path.{◌≡◌, sym, ◌∙◌, subst}
use mathlib.Core.List.{List}
use mathlib.Core.Logic.{◌⊎◌, inl, inr}
use Prim.Native.Nat.{ℕ, ◌≤◌}
use Rattle.graph.proofs.Table.{held_kept, grows_extends, grows_then, grows-wider}
use Rattle.graph.specs.Inner.Table.{Table, Held, Grows, none}
use Rattle.configuration.specs.declared.Words.{Words}
use Rattle.cells.specs.Inner.Entries.{Entries, Filled}
use Rattle.search_table.specs.Inner.Table.{table_of}
use Rattle.search_visit.specs.Inner.Visit.{Outgrown, Met, Kept}

-- ---- no cell left, after a growth, and for a wider set
module _ {S : Words → Type 0} {d k : ℕ} where
  pub outgrown_then : {t t' : Table Words} {cells : ℕ} → Grows S d k t t' → Outgrown S d k t' cells → Outgrown S d k t cells
  outgrown_then g o =
      record {
        table = o.table;
        grows = grows_then g o.grows;
        words = o.words;
        wanted = o.wanted;
        fresh = o.fresh;
        full = o.full;
      }

  pub outgrown_wider : {S' : Words → Type 0} → ((y : Words) → S y → S' y) → {t : Table Words} {cells : ℕ} → Outgrown S d k t cells → Outgrown S' d k t cells
  outgrown_wider wider o =
      record {
        table = o.table;
        grows = grows-wider wider o.grows;
        words = o.words;
        wanted = wider o.words o.wanted;
        fresh = o.fresh;
        full = o.full;
      }

-- ---- what visits keep
module _ {S All : Words → Type 0} {e₀ e : Entries} {heads nexts : List ℕ} {count cells d k n : ℕ}
    (kept : Kept S All e₀ e heads nexts count cells d k n) (y : Words) (wanted : S y) where
  equal : (z : Words) → z ≡ y → S z
  equal z q = subst S (sym q) wanted

  -- one visit more
  pub kept_visit : {e' : Entries} {heads' nexts' : List ℕ} {i m : ℕ} → Met e e' heads' nexts' n cells d k y i m → (All' : Words → Type 0)
      → ((z : Words) → All' z → All z ⊎ (z ≡ y)) → Kept S All' e₀ e' heads' nexts' count cells d k m
  unfolding table_of
  kept_visit {e'} {i = i} {m = m} met All' either =
      record {
        filled = met.filled;
        grows = grows_then kept.grows (grows-wider equal met.grows);
        all = λ z a. held z (either z a);
      }
    where
      held : (z : Words) → All z ⊎ (z ≡ y) → Held (table_of e' m) z
      held z (inl a) = held_kept (grows_extends met.grows) (kept.all z a)
      held z (inr q) = record { at = i; below = met.below; is = met.is ∙ sym q }

  -- and no cell left for it
  pub outgrown_visit : Outgrown (λ z. z ≡ y) d k (table_of e n) cells → Outgrown S d k (table_of e₀ count) cells
  outgrown_visit o = outgrown_then kept.grows (outgrown_wider equal o)

-- entries are never dropped
pub met-count : {e e' : Entries} {heads nexts : List ℕ} {count cells d k i n : ℕ} {y : Words} → Met e e' heads nexts count cells d k y i n
    → count ≤ n
unfolding table_of
met-count met = (grows_extends met.grows).more

pub kept-count : {S All : Words → Type 0} {e₀ e : Entries} {heads nexts : List ℕ} {count cells d k n : ℕ}
    → Kept S All e₀ e heads nexts count cells d k n → count ≤ n
unfolding table_of
kept-count kept = (grows_extends kept.grows).more

-- before the first visit
pub kept-none : {S All : Words → Type 0} {e : Entries} {heads nexts : List ℕ} {count cells d k : ℕ} → Filled e heads nexts count cells
    → ((z : Words) → All z → ⊥) → Kept S All e e heads nexts count cells d k count
kept-none f nothing = record { filled = f; grows = none; all = λ z a. absurd (nothing z a) }
