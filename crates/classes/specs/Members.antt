-- The smallest members of the domains, for the functions below the build. Assumes nothing.
use Rattle.std.specs.Prelude.{List, ℕ, ◌≤◌, ◌<◌, length, get_or}

-- the number that stands at i
abbrev pub nth : List ℕ → ℕ → ℕ
nth l i = get_or l i 0

-- the first d of these are entities
pub record Members (n d : ℕ) (low : List ℕ) : Type 0 where
  pub few : d ≤ n
  pub long : d ≤ length low
  pub each : (p : ℕ) → p < d → nth low p < n
