-- The census of flow A of document 01 and the distances of eight small flows, computed: what the definitions say of them.
use mathlib.Core.Path.{◌≡◌, refl}
use mathlib.Core.Bool.{cond}
use mathlib.Core.List.{List, [], ◌∷◌}
use Prim.Native.Nat.{ℕ, suc}
use lib.IntN.{pos, negsuc}
use lib.ListN.{length}
use lib.Dec.{eqb}
use Rattle.model.specs.Language.{read, copy, less, over, under, nop, stop, Instruction, Flow, constants, all_constants, least, greatest, C1, C2}
use Rattle.model.specs.Machine.{p_exit, m_exit}
use Rattle.model.specs.Pattern.{above, below, among, different, mark, pattern}
use Rattle.model.specs.Distance.{Distance, NoDistance}
use Rattle.model.specs.Configuration.{Configuration, Reachable}
use Rattle.model.proofs.Side.{place, spread}
use Rattle.model.proofs.Computed.{ball, legal_tested, computed_census, computed_distance, computed_none}
use Rattle.graph.specs.Lists.{Census}

-- ranks count from the nearest, and equal values share one
ranks : pattern (pos 0) (pos 5) (pos 9 ∷ pos 7 ∷ negsuc 8 ∷ pos 9 ∷ []) ≡ above 2 ∷ above 1 ∷ below 1 ∷ above 2 ∷ []
unfolding pattern mark different among
ranks = refl

abbrev flow : (variables : ℕ) → List Instruction → Flow
flow variables instructions = record { tapes = 1; outputs = 0; variables = variables; instructions = instructions }

abbrev reached : Flow → ℕ → List Configuration
reached f n = ball (C1 f) (C2 f) f n

-- how many of the configurations stand at instruction i
abbrev standing : ℕ → List Configuration → ℕ
standing i [] = 0
standing i (c ∷ l) = cond (eqb c.next i) (suc (standing i l)) (standing i l)

-- flow A: 19 configurations, two at 1, eight at 2, nine at 3
abbrev A : Flow
A = flow 1 (read 1 1 2 3 ∷ over (pos 5) 1 1 3 ∷ stop ∷ [])

census_A : Census (Reachable (C1 A) (C2 A) A) (reached A 4)
unfolding C1 C2 least greatest all_constants constants pattern mark different among spread place
census_A = computed_census (C1 A) (C2 A) A (legal_tested A tt) 4 tt

count_A : (length (reached A 4) ≡ 19) × (standing 1 (reached A 4) ≡ 2) × (standing 2 (reached A 4) ≡ 8) × (standing 3 (reached A 4) ≡ 9)
unfolding C1 C2 least greatest all_constants constants pattern mark different among spread place
count_A = (refl, refl, refl, refl)

report_A : Distance A 1 p_exit 1 × Distance A 1 m_exit 1 × Distance A 2 p_exit 2 × Distance A 2 m_exit 2
unfolding C1 C2 least greatest all_constants constants pattern mark different among spread place
report_A =
    let by = computed_distance (C1 A) (C2 A) A (legal_tested A tt) in
    (by 1 p_exit 0 tt tt tt, by 1 m_exit 0 tt tt tt, by 2 p_exit 1 tt tt tt, by 2 m_exit 1 tt tt tt)

-- a second read of a tape whose end was met: its p is none
abbrev Twice : Flow
Twice = flow 1 (read 1 1 3 2 ∷ read 1 1 3 3 ∷ stop ∷ [])

report_Twice : NoDistance Twice 2 p_exit × Distance Twice 2 m_exit 2
unfolding C1 C2 least greatest all_constants constants pattern mark different among spread place
report_Twice =
    let l = legal_tested Twice tt in
    (computed_none (C1 Twice) (C2 Twice) Twice l 2 p_exit 3 tt tt, computed_distance (C1 Twice) (C2 Twice) Twice l 2 m_exit 1 tt tt tt)

-- a comparison that is run once, on the 0 of the start
abbrev Under : Flow
Under = flow 1 (under 1 (pos 5) 2 2 ∷ stop ∷ [])

report_Under : Distance Under 1 p_exit 1 × NoDistance Under 1 m_exit
unfolding C1 C2 least greatest all_constants constants pattern mark different among spread place
report_Under =
    let l = legal_tested Under tt in
    (computed_distance (C1 Under) (C2 Under) Under l 1 p_exit 0 tt tt tt, computed_none (C1 Under) (C2 Under) Under l 1 m_exit 2 tt tt)

-- no value is less than itself
abbrev Self : Flow
Self = flow 1 (read 1 1 2 3 ∷ less 1 1 3 1 ∷ stop ∷ [])

report_Self : NoDistance Self 2 p_exit × Distance Self 2 m_exit 2
unfolding C1 C2 least greatest all_constants constants pattern mark different among spread place
report_Self =
    let l = legal_tested Self tt in
    (computed_none (C1 Self) (C2 Self) Self l 2 p_exit 4 tt tt, computed_distance (C1 Self) (C2 Self) Self l 2 m_exit 1 tt tt tt)

-- equal values share a rank: after the copy the two are always equal, three configurations stand at 3
abbrev Equal : Flow
Equal = flow 2 (read 1 1 2 4 ∷ copy 1 2 3 ∷ less 1 2 4 4 ∷ stop ∷ [])

report_Equal : NoDistance Equal 3 p_exit × Distance Equal 3 m_exit 2 × (standing 3 (reached Equal 4) ≡ 3)
unfolding C1 C2 least greatest all_constants constants pattern mark different among spread place
report_Equal =
    let l = legal_tested Equal tt in
    (computed_none (C1 Equal) (C2 Equal) Equal l 3 p_exit 4 tt tt, computed_distance (C1 Equal) (C2 Equal) Equal l 3 m_exit 1 tt tt tt, refl)

-- whole numbers are no fractions: 0 < t and t < u leave no u under 2 (document 01 has this chain with 3 and 5)
abbrev Chain : Flow
Chain = flow 2 (read 1 1 2 6 ∷ read 1 2 3 6 ∷ over (pos 0) 1 4 6 ∷ less 1 2 5 6 ∷ under 2 (pos 2) 6 6 ∷ stop ∷ [])

report_Chain : NoDistance Chain 5 p_exit × Distance Chain 5 m_exit 5
unfolding C1 C2 least greatest all_constants constants pattern mark different among spread place
report_Chain =
    let l = legal_tested Chain tt in
    (computed_none (C1 Chain) (C2 Chain) Chain l 5 p_exit 6 tt tt, computed_distance (C1 Chain) (C2 Chain) Chain l 5 m_exit 4 tt tt tt)

-- a `nop` before the first read changes nothing (document 02, T-04)
abbrev Late : Flow
Late = flow 1 (nop 2 ∷ read 1 1 3 3 ∷ stop ∷ [])

report_Late : Distance Late 2 p_exit 1 × Distance Late 2 m_exit 1
unfolding C1 C2 least greatest all_constants constants pattern mark different among spread place
report_Late =
    let by = computed_distance (C1 Late) (C2 Late) Late (legal_tested Late tt) in
    (by 2 p_exit 0 tt tt tt, by 2 m_exit 0 tt tt tt)

-- the way with fewest steps, over instruction 5, takes one exit more than that over 2, 3 and 4; and a `nop` to itself is never left
abbrev Around : Flow
Around = flow 1 (read 1 1 2 5 ∷ nop 3 ∷ copy 1 1 4 ∷ nop 6 ∷ read 1 1 6 6 ∷ under 1 (pos 1) 7 7 ∷ nop 7 ∷ [])

report_Around : Distance Around 5 m_exit 2 × Distance Around 6 p_exit 2
unfolding C1 C2 least greatest all_constants constants pattern mark different among spread place
report_Around =
    let by = computed_distance (C1 Around) (C2 Around) Around (legal_tested Around tt) in
    (by 5 m_exit 1 tt tt tt, by 6 p_exit 1 tt tt tt)
