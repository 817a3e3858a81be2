-- What the scan answers. Assumes nothing.
use Rattle.std.specs.Prelude.{◌≡◌, ◌<◌, Bool, List, ℕ, Option, Some, None, length}
use Rattle.model.specs.Rules.{lowest}

-- the lowest place whose element passes, or none where no element does
abbrev pub IsLowest : (ℕ → Bool) → List ℕ → Option ℕ → Type 0
IsLowest p l None = lowest p l ≡ length l
IsLowest p l (Some i) = (i ≡ lowest p l) × (i < length l)
