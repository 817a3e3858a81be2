-- What is claimed across the calls: demands 2 and 3 over what they answer and write. Assumes nothing.
use Rattle.std.specs.Prelude.{false, true, Ok, ◌≡◌, ◌↔◌, List, ℕ, ◌≤◌, ◌<◌, get_or}
use Rattle.model.specs.Matrix.{cell}
use Rattle.model.specs.Policy.{Policy, written, used, Together}
use Rattle.ask.specs.Ask.{Asked, Answers}
use Rattle.alike.specs.Compare.{Compared, Compares}
use Rattle.build.specs.Build.{Builds}
use Rattle.judge.specs.declared.Verdict.TheVariants.{Enforces}
use Rattle.judge.specs.Judge.{Judged, Judges}

-- demand 2: what build wrote, judge accepts
abbrev pub BuiltAccepted : Type 0
BuiltAccepted = (n k d : ℕ) (m s t s' t' : List ℕ) → Builds n k m s t (Ok d) s' t'
    → (j : Judged) → Judges n k m (written n k d s' t') j → j ≡ Ok (Enforces d)

-- demand 2: and ask answers from it as the matrix says, cell by cell
abbrev pub BuiltAnswers : Type 0
BuiltAnswers = (n k d : ℕ) (m s t s' t' : List ℕ) → Builds n k m s t (Ok d) s' t'
    → (u a v : ℕ) → u < n → a < k → v < n → (r : Asked) → Answers n k u a v (written n k d s' t') r
    → ((r ≡ Ok true) ↔ (cell k n m u a v ≡ 1)) × ((r ≡ Ok false) ↔ (cell k n m u a v ≡ 0))

-- demand 3: two entities share a domain in what build wrote exactly when some enforcing policy puts them together. The limit on
-- that policy's domains may be 64, as in document 01, or any other number from n on
abbrev pub BuiltShares : Type 0
BuiltShares = (n k d : ℕ) (m s t s' t' : List ℕ) → Builds n k m s t (Ok d) s' t' → (limit : ℕ) → n ≤ limit
    → (u v : ℕ) → u < n → v < n → (get_or s' u 0 ≡ get_or s' v 0) ↔ Together limit n k (cell k n m) u v

-- and alike says yes exactly then
abbrev pub AlikeShares : Type 0
AlikeShares = (n k d : ℕ) (m s t s' t' : List ℕ) → Builds n k m s t (Ok d) s' t'
    → (u v : ℕ) → u < n → v < n → (r : Compared) → Compares n k u v m r → (r ≡ Ok true) ↔ (get_or s' u 0 ≡ get_or s' v 0)

-- so every policy that judge accepts over a full matrix has at least build's number of domains with a member: a number e is no greater
-- than any of theirs exactly if it is no greater than build's
abbrev pub AcceptedFewest : Type 0
AcceptedFewest = (n k d : ℕ) (m s t s' t' : List ℕ) → Builds n k m s t (Ok d) s' t'
    → (e : ℕ) → ((P : Policy) (x : ℕ) → Judges n k m P (Ok (Enforces x)) → e ≤ used n P) ↔ (e ≤ d)
