-- How far a file fits: at one byte, at pieces in a row, and what a reader of a row of pieces promises at each of them. Assumes nothing.
use mathlib.Core.Path.{◌≡◌, refl, ◌∙◌}
use mathlib.Core.Logic.{◌⊎◌, inl, inr}
use mathlib.Core.Bool.{Bool, true, false}
use mathlib.Core.List.{List}
use Prim.Native.Nat.{ℕ, zero, suc, ◌+◌, ◌*◌, ◌≤◌, ◌<◌}
use native.Mathlib.Nat.{le_refl, suc-mul, mul-le-mul}
use native.Mathlib.Numerals.{add-one}
use native.Mathlib.Omega.{arith}
use lib.ListN.{length, get_or, drop_of_length-le}
use lib.Seq.{drop-cons}
use Rattle.std.specs.Prelude.{Result, MatchResult, IsErrAnd}
use Rattle.std.proofs.lemmas.Result.{err_from_is_err_and}
use Rattle.model.proofs.Below.{below_suc}
use Rattle.layout.specs.Layout.{Layout, byte, reach, times}
use Rattle.readers.specs.declared.Reader.{Reader}
use Rattle.readers.specs.Pieces.{place, ahead, Whole, Misfit, stopped}

-- ---- one byte: the file ends before it, it does not pass, it passes

module _ (P : ℕ → Bool) (F : ℕ → Layout) (s : List ℕ) (at : ℕ) where
  pub byte_out : length s ≤ at → place s at (byte P F) ≡ at
  unfolding reach
  byte_out h = rw (drop_of_length-le s {i = at} h) (omega arith)

  pub byte_off : at < length s → P (get_or s at 0) ≡ false → place s at (byte P F) ≡ at
  unfolding reach
  byte_off h e = rw (drop-cons s at 0 h, e) (omega arith)

  pub byte_on : at < length s → P (get_or s at 0) ≡ true → place s at (byte P F) ≡ place s (at + 1) (F (get_or s at 0))
  unfolding reach
  byte_on h e = rw (drop-cons s at 0 h, e, add-one at) (omega arith)

-- ---- pieces in a row: the first u are there, up to p

-- c pieces are the first u, and some layout behind them
times_more : (c u : ℕ) → u ≤ c → (A : ℕ → Layout → Layout) (F : Layout) → (R : Layout) × (times c A F ≡ times u A R)
unfolding times
times_more zero u h A F = (F, let z : u ≡ 0 = omega arith in rw z)
times_more (suc c) u h A F = go (below_suc (suc c) u (omega arith)) (λ l. times_more c u l A (A c F))
  where
    go : (u ≡ suc c) ⊎ (u < suc c) → (u ≤ c → (R : Layout) × (times c A (A c F) ≡ times u A R))
        → (R : Layout) × (times (suc c) A F ≡ times u A R)
    go (inl e) f = (F, rw e)
    go (inr l) f = f (omega arith)

-- A stands from `at` up to p, whatever is to follow
abbrev pub Goes : List ℕ → ℕ → List ℕ → ℕ → (Layout → Layout) → Type 0
Goes s at t p A = (F : Layout) → place s at (A F) ≡ place t p F

module _ (A : ℕ → Layout → Layout) (s : List ℕ) (at : ℕ) where
  pub times_none : Goes s at s at (times 0 A)
  unfolding times
  times_none F = refl

  module _ (t : List ℕ) (p u : ℕ) (g : Goes s at t p (times u A)) where
    pub times_on : (t' : List ℕ) (p' : ℕ) → Goes t p t' p' (A u) → Goes s at t' p' (times (u + 1) A)
    unfolding times
    times_on t' p' h = rw (add-one u) (λ F. g (A u F) ∙ h F)

    -- and there the file stops fitting
    pub times_off : (c p' : ℕ) → ((F : Layout) → place t p (A u F) ≡ p') → u < c → (F : Layout) → place s at (times c A F) ≡ p'
    unfolding times
    times_off c p' h l F = let m = times_more c (suc u) l A F in rw m.1 (g (A u m.0) ∙ h m.0)

-- ---- a reader of pieces of w bytes each: it has read u of them

pub read_none : (r : Reader) (w : ℕ) (A : ℕ → Layout → Layout) → Whole r r (0 * w) (times 0 A) (λ F. F)
read_none r w A = record { stands = omega arith; goes = times_none A _ _ }

module _ (A : ℕ → Layout → Layout) {r q : Reader} {w u : ℕ} (g : Whole r q (u * w) (times u A) (λ F. F)) where
  pub read_on : {q' : Reader} → Whole q q' w (A u) (λ F. F) → Whole r q' ((u + 1) * w) (times (u + 1) A) (λ F. F)
  read_on h = record {
    stands = omega (arith, g.stands, h.stands);
    goes = times_on A _ _ _ _ u g.goes _ _ h.goes;
  }

  pub read_off : {p : ℕ} (c : ℕ) → q.file.now ≡ r.file.now → u < c → Misfit q w p (A u) → Misfit r (c * w) p (times c A)
  read_off c e l f = record {
    short = let room = mul-le-mul l (le_refl w) in omega (arith, f.short, g.stands, suc-mul u w);
    inside = rw (← e) f.inside;
    stops = times_off A _ _ _ _ u g.goes c _ f.stops l;
  }

-- ---- pieces one behind the other: nothing is read, and what comes to its end goes on from there

pub stay : {K : Type 0} (r : Reader) (A : K → Layout) → Whole r r 0 A A
stay r A = record { stands = omega arith; goes = λ k. refl }

pub on : {K : Type 0} {r q t : Reader} {v w : ℕ} {A B C : K → Layout} → Whole r q v A B → Whole q t w B C → Whole r t (v + w) A C
on g h = record { stands = omega (arith, g.stands, h.stands); goes = λ k. g.goes k ∙ h.goes k }

-- ---- the same, a fault: what faults behind others, at q, is a fault of the whole piece

pub behind : {K J : Type 0} {r q : Reader} {v w p : ℕ} {A : K → Layout} {B : J → Layout} (f : K → J) → q.file.now ≡ r.file.now → Misfit q v p B
    → q.at + v ≤ r.at + w → ((k : K) → ahead r (A k) ≡ ahead q (B (f k))) → Misfit r w p A
behind f e g h to = record { short = omega (arith, g.short); inside = rw (← e) g.inside; stops = λ k. to k ∙ g.stops (f k) }

-- ---- the exit of a `?`

pub gives_up : {X : Type 0} (x : Result X ℕ) (P : X → Type 0) (Q : ℕ → Type 0) {p : ℕ} → IsErrAnd x (λ y. y ≡ p) → Q p → MatchResult x P Q
gives_up x P Q h q = let f = err_from_is_err_and x h in rw (f.1, f.2) q

pub stopped_at : {X : Type 0} (x : Result X ℕ) (n : ℕ) {p q : ℕ} → IsErrAnd x (λ y. y ≡ p) → p ≡ q → stopped n x ≡ q
stopped_at x n h e = let f = err_from_is_err_and x h in rw (f.1, f.2) e
