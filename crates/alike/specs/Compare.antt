-- What the alike call answers (01, "The calls" and "Numbers of refusal"). Assumes nothing.
use Rattle.std.specs.Prelude.{◌≡◌, Bool, List, ◌++◌, ℕ, Result}
use Rattle.model.specs.declared.Refusal.{Refusal}
use Rattle.model.specs.Matrix.{cell}
use Rattle.model.specs.Alike.{alike_test}
use Rattle.model.specs.Refusal.{Rule, checked, Told, tell, told, flag}
use Rattle.model.specs.Rules.{whole_rules, pair_rules}

-- 1, 2, 3, 4, 9
unfoldable pub alike_rules : ℕ → ℕ → ℕ → ℕ → List ℕ → List Rule
alike_rules n k u v m = whole_rules n k m ++ pair_rules n u v

-- what is told: the first of the rules that applies, or 1 where the two are alike and 0 where they are not
unfoldable pub alike_told : ℕ → ℕ → ℕ → ℕ → List ℕ → Told
alike_told n k u v m = tell (checked (alike_rules n k u v m)) (flag (alike_test n k (cell k n m) u v))

-- what the call answers: whether the two are alike, or a refusal
abbrev pub Compared : Type 0
Compared = Result Bool Refusal

-- the answer's number and values, case by case
abbrev pub compared_told : Compared → Told
compared_told r = told flag r

-- the promise: r says whether u and v are alike in m
abbrev pub Compares : ℕ → ℕ → ℕ → ℕ → List ℕ → Compared → Type 0
Compares n k u v m r = compared_told r ≡ alike_told n k u v m
