-- What a reader of a piece promises, whatever layout is to follow: the piece is there, or the file does not fit it. Assumes nothing.
use Rattle.std.specs.Prelude.{◌≡◌, List, ℕ, ◌+◌, ◌≤◌, ◌<◌, length, drop, Result, Ok, Err, MatchResult}
use Rattle.layout.specs.Layout.{Layout, reach}
use Rattle.readers.specs.declared.Reader.{Reader}

-- the place up to which the file fits, where the layout A is to stand from `at` on
abbrev pub place : List ℕ → ℕ → Layout → ℕ
place s at A = at + reach A (drop at s)

-- the same, where it is to stand from the reader on
abbrev pub ahead : Reader → Layout → ℕ
ahead r A = place r.file.now r.at A

-- a reader r became q behind a piece of w bytes: what was to be A is to be B from there on
pub record Whole {K : Type 0} (r q : Reader) (w : ℕ) (A B : K → Layout) : Type 0 where
  pub stands : q.at ≡ r.at + w
  pub goes : (k : K) → ahead r (A k) ≡ ahead q (B k)

-- of the w bytes of the piece the one at p does not fit, or the file ends there
pub record Misfit {K : Type 0} (r : Reader) (w p : ℕ) (A : K → Layout) : Type 0 where
  pub short : p < r.at + w
  pub inside : p ≤ length r.file.now
  pub stops : (k : K) → ahead r (A k) ≡ p

-- a piece of w bytes, and what it answers
abbrev pub Reads : {X K : Type 0} → Reader → Reader → ℕ → (K → Layout) → (X → K → Layout) → Result X ℕ → Type 0
Reads r q w A B x = MatchResult x (λ v. Whole r q w A (B v)) (λ p. Misfit r w p A)

-- where the file stopped fitting: past its n bytes, where it fits to its end
abbrev pub stopped : {X : Type 0} → ℕ → Result X ℕ → ℕ
stopped n (Ok v) = n + 1
stopped n (Err p) = p
