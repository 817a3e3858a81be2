-- What is claimed of the build, over any answer and buffers that meet its promise (01, "The calls"). Assumes nothing.
use Rattle.std.specs.Prelude.{Err, Ok, ◌≡◌, List, ℕ, ◌*◌, ◌≤◌, length, drop}
use Rattle.model.specs.declared.Refusal.{Refusal}
use Rattle.model.specs.Matrix.{Holds}
use Rattle.model.specs.Policy.{written}
use Rattle.build.specs.Build.{Built, built_from, table_size, Builds}

-- demand 2: what is written is the built policy, and later bytes stay
abbrev pub BuildWrites : Type 0
BuildWrites = (n k d : ℕ) (m s t s' t' : List ℕ) → Builds n k m s t (Ok d) s' t'
    → (written n k d s' t' ≡ built_from n k m) × (drop n s' ≡ drop n s) × (drop (d * k * d) t' ≡ drop (d * k * d) t)

-- demand 1: where it refuses, both buffers hold what they held
abbrev pub BuildKeeps : Type 0
BuildKeeps = (n k : ℕ) (m s t s' t' : List ℕ) (r : Refusal) → Builds n k m s t (Err r) s' t' → (s' ≡ s) × (t' ≡ t)

-- demand 2: and it refuses no full matrix for which there is room
abbrev pub BuildServes : Type 0
BuildServes = (n k : ℕ) (m s t s' t' : List ℕ) (r : Built) → Holds n k 2 m → n ≤ length s → table_size n k m ≤ length t
    → Builds n k m s t r s' t' → r ≡ Ok (built_from n k m).domains

-- two answers that meet the promise are equal, and so are the buffers
abbrev pub BuildUnique : Type 0
BuildUnique = (n k : ℕ) (m s t s' t' s'' t'' : List ℕ) (r q : Built) → Builds n k m s t r s' t' → Builds n k m s t q s'' t''
    → (r ≡ q) × (s' ≡ s'') × (t' ≡ t'')
