-- What is claimed of the alike call, over any answer r that meets its promise (01, "The calls"). Assumes nothing.
use Rattle.std.specs.Prelude.{false, true, Ok, ◌≡◌, ◌↔◌, List, ℕ, ◌<◌}
use Rattle.model.specs.Matrix.{cell, Holds}
use Rattle.model.specs.Alike.{Alike}
use Rattle.model.specs.Refusal.{Unrefused}
use Rattle.alike.specs.Compare.{Compared, alike_rules, Compares}

-- yes exactly if Definition 2.11 holds, no exactly if it does not, where no refusal applies
abbrev pub AlikeAnswers : Type 0
AlikeAnswers = (n k u v : ℕ) (m : List ℕ) (r : Compared) → Compares n k u v m r
    → ((r ≡ Ok true) ↔ (Unrefused (alike_rules n k u v m) × Alike n k (cell k n m) u v))
    × ((r ≡ Ok false) ↔ (Unrefused (alike_rules n k u v m) × ¬ Alike n k (cell k n m) u v))

-- and none does for two entities of a full matrix
abbrev pub AlikeServes : Type 0
AlikeServes = (n k u v : ℕ) (m : List ℕ) → Holds n k 2 m → u < n → v < n → Unrefused (alike_rules n k u v m)

-- two answers that meet the promise are equal
abbrev pub AlikeUnique : Type 0
AlikeUnique = (n k u v : ℕ) (m : List ℕ) (r q : Compared) → Compares n k u v m r → Compares n k u v m q → r ≡ q
