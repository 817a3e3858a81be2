-- The patterns that are marked to be proved (01, "Patterns to weave by"): one table, and one statement. Its rows are held to document 01 by
-- a second form; and what P10's matrix shows of gaps. Assumes nothing.
use Rattle.std.specs.Prelude.{◌≡◌, List, [], ◌∷◌, ◌++◌, ℕ, ◌+◌, ◌*◌, ◌≤◌}
use Rattle.model.specs.Matrix.{cell}
use Rattle.model.specs.Policy.{Policy, policy, Together}
use Rattle.model.specs.Refusal.{values, refused}
use Rattle.build.specs.Build.{built_from, build_told}
use Rattle.judge.specs.Judge.{judge_told}

-- what is asked of a matrix, and what is to be told: a refusal by its number and its cell
pub data Expected : Type 0 where
  builds : Policy → Expected
  refuses : ℕ → ℕ → Expected
  enforces : Policy → ℕ → Expected
  conflicts : Policy → ℕ → ℕ → Expected

pub record Pattern : Type 0 where
  pub n : ℕ
  pub k : ℕ
  pub cells : List ℕ
  pub expected : Expected

abbrev pattern : ℕ → ℕ → List ℕ → Expected → Pattern
pattern n k m e = record { n = n; k = k; cells = m; expected = e }

-- the matrix of P10
abbrev pub gaps : List ℕ
gaps = 1 ∷ 2 ∷ 2 ∷ 2 ∷ 2 ∷ 2 ∷ 2 ∷ 2 ∷ 0 ∷ []

-- P1 to P11, and P13
unfoldable pub patterns : List Pattern
patterns =
    pattern 0 1 [] (builds (policy 0 [] []))
    ∷ pattern 1 1 (1 ∷ []) (builds (policy 1 (0 ∷ []) (1 ∷ [])))
    ∷ pattern 2 1 (0 ∷ 1 ∷ 1 ∷ 0 ∷ []) (builds (policy 2 (0 ∷ 1 ∷ []) (0 ∷ 1 ∷ 1 ∷ 0 ∷ [])))
    ∷ pattern 2 1 (1 ∷ 1 ∷ 1 ∷ 1 ∷ []) (builds (policy 1 (0 ∷ 0 ∷ []) (1 ∷ [])))
    ∷ pattern 2 1 (0 ∷ 0 ∷ 0 ∷ 0 ∷ []) (builds (policy 1 (0 ∷ 0 ∷ []) (0 ∷ [])))
    ∷ pattern 3 1 (0 ∷ 0 ∷ 1 ∷ 0 ∷ 0 ∷ 1 ∷ 0 ∷ 0 ∷ 0 ∷ []) (builds (policy 2 (0 ∷ 0 ∷ 1 ∷ []) (0 ∷ 1 ∷ 0 ∷ 0 ∷ [])))
    ∷ pattern 3 1 (0 ∷ 0 ∷ 0 ∷ 0 ∷ 0 ∷ 0 ∷ 0 ∷ 1 ∷ 0 ∷ []) (builds (policy 3 (0 ∷ 1 ∷ 2 ∷ []) (0 ∷ 0 ∷ 0 ∷ 0 ∷ 0 ∷ 0 ∷ 0 ∷ 1 ∷ 0 ∷ [])))
    ∷ pattern 3 1 (0 ∷ 1 ∷ 0 ∷ 0 ∷ 0 ∷ 0 ∷ 0 ∷ 1 ∷ 0 ∷ []) (builds (policy 2 (0 ∷ 1 ∷ 0 ∷ []) (0 ∷ 1 ∷ 0 ∷ 0 ∷ [])))
    ∷ pattern 2 2 (1 ∷ 1 ∷ 0 ∷ 1 ∷ 1 ∷ 1 ∷ 0 ∷ 0 ∷ []) (builds (policy 2 (0 ∷ 1 ∷ []) (1 ∷ 1 ∷ 0 ∷ 1 ∷ 1 ∷ 1 ∷ 0 ∷ 0 ∷ [])))
    ∷ pattern 3 1 gaps (refuses 4 1)
    ∷ pattern 3 1 gaps (enforces (policy 2 (0 ∷ 0 ∷ 1 ∷ []) (1 ∷ 0 ∷ 0 ∷ 0 ∷ [])) 2)
    ∷ pattern 3 1 gaps (conflicts (policy 2 (0 ∷ 1 ∷ 0 ∷ []) (1 ∷ 0 ∷ 0 ∷ 0 ∷ [])) 8 0)
    ∷ []

-- what the calls tell, over buffers of n and n·k·n bytes, and what they write. A refusal of the matrix comes before the rooms are looked at
abbrev pub Meets : ℕ → ℕ → List ℕ → Expected → Type 0
Meets n k m (builds P) = (build_told n k m n (n * k * n) ≡ values (P.domains ∷ [])) × (built_from n k m ≡ P)
Meets n k m (refuses number i) = build_told n k m 0 0 ≡ refused number i
Meets n k m (enforces P d) = judge_told n k m P ≡ values (0 ∷ d ∷ [])
Meets n k m (conflicts P i x) = judge_told n k m P ≡ values (1 ∷ i ∷ x ∷ [])

abbrev pub All : List Pattern → Type 0
All [] = Unit {0}
All (p ∷ ps) = Meets p.n p.k p.cells p.expected × All ps

-- every pattern of the table is met
abbrev pub PatternsMet : Type 0
PatternsMet = All patterns

-- ---- the rows once more, as document 01 prints them: n, k, the cells, and what is expected

-- digits as one number, behind a 1 that keeps leading zeros: 0 0 1 is 1001. An unlogged cell is a 2
abbrev pub digits : ℕ → List ℕ → ℕ
digits x [] = x
digits x (c ∷ cs) = digits (10 * x + c) cs

abbrev pub policy_printed : Policy → List ℕ
policy_printed P = P.domains ∷ digits 1 P.assignment ∷ digits 1 P.table ∷ []

abbrev pub expected_printed : Expected → List ℕ
expected_printed (builds P) = policy_printed P
expected_printed (refuses number i) = number ∷ i ∷ []
expected_printed (enforces P d) = policy_printed P ++ (d ∷ [])
expected_printed (conflicts P i x) = policy_printed P ++ (i ∷ x ∷ [])

abbrev pub printed : List Pattern → List (List ℕ)
printed [] = []
printed (p ∷ ps) = (p.n ∷ p.k ∷ digits 1 p.cells ∷ expected_printed p.expected) ∷ printed ps

-- so a row that was mistyped is noticed, where what it says is true too
abbrev pub PatternsPrinted : Type 0
PatternsPrinted = printed patterns
    ≡ (0 ∷ 1 ∷ 1 ∷ 0 ∷ 1 ∷ 1 ∷ [])
    ∷ (1 ∷ 1 ∷ 11 ∷ 1 ∷ 10 ∷ 11 ∷ [])
    ∷ (2 ∷ 1 ∷ 10110 ∷ 2 ∷ 101 ∷ 10110 ∷ [])
    ∷ (2 ∷ 1 ∷ 11111 ∷ 1 ∷ 100 ∷ 11 ∷ [])
    ∷ (2 ∷ 1 ∷ 10000 ∷ 1 ∷ 100 ∷ 10 ∷ [])
    ∷ (3 ∷ 1 ∷ 1001001000 ∷ 2 ∷ 1001 ∷ 10100 ∷ [])
    ∷ (3 ∷ 1 ∷ 1000000010 ∷ 3 ∷ 1012 ∷ 1000000010 ∷ [])
    ∷ (3 ∷ 1 ∷ 1010000010 ∷ 2 ∷ 1010 ∷ 10100 ∷ [])
    ∷ (2 ∷ 2 ∷ 111011100 ∷ 2 ∷ 101 ∷ 111011100 ∷ [])
    ∷ (3 ∷ 1 ∷ 1122222220 ∷ 4 ∷ 1 ∷ [])
    ∷ (3 ∷ 1 ∷ 1122222220 ∷ 2 ∷ 1001 ∷ 11000 ∷ 2 ∷ [])
    ∷ (3 ∷ 1 ∷ 1122222220 ∷ 2 ∷ 1010 ∷ 11000 ∷ 8 ∷ 0 ∷ [])
    ∷ []

-- ---- gaps

-- "could be merged" is no equivalence on a matrix with gaps: in P10's 0 and 1 can share a domain, 1 and 2 can, 0 and 2 cannot
abbrev pub GapsMerged : Type 0
GapsMerged = (limit : ℕ) → 2 ≤ limit
    → Together limit 3 1 (cell 1 3 gaps) 0 1 × Together limit 3 1 (cell 1 3 gaps) 1 2 × ¬ Together limit 3 1 (cell 1 3 gaps) 0 2
