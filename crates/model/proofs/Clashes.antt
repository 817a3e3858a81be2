-- There is a first clash exactly where the answers do not agree with the matrix, since every place is one cell's. Assumes nothing.
use mathlib.Core.Path.{◌≡◌}
use mathlib.Core.Logic.{◌↔◌, ◌⊎◌, inl, inr}
use mathlib.Core.Bool.{Bool, not, ◌&&◌}
use Prim.Native.Nat.{ℕ, ◌*◌, ◌/◌, ◌%◌, ◌<◌}
use native.Mathlib.Decide.{ℕ_discrete}
use lib.Dec.{T, eqb, eqb→eq, T_not, not_T}
use Rattle.model.specs.Below.{first}
use Rattle.model.specs.Matrix.{Cells, cell_at}
use Rattle.model.specs.Policy.{Agrees}
use Rattle.model.specs.Clash.{clash_test, first_clash}
use Rattle.model.proofs.Tests.{and_left, and_right, and_both, or_cases, or_left, or_right, eqb_of}
use Rattle.model.proofs.Below.{first_none, first_before}
use Rattle.model.proofs.Places.{cell_inside, place, parts}

module _ (x g : ℕ) where
  pub clash_grant : x ≡ 1 → ¬ (g ≡ 1) → T (clash_test x g)
  unfolding clash_test
  clash_grant e f = or_left (eqb x 1 && not (eqb g 1)) (eqb x 0 && eqb g 1)
      (and_both (eqb x 1) (not (eqb g 1)) (eqb_of x 1 e) (not_T (eqb g 1) (λ t. f (eqb→eq g 1 t))))

  pub clash_deny : x ≡ 0 → g ≡ 1 → T (clash_test x g)
  unfolding clash_test
  clash_deny e f = or_right (eqb x 1 && not (eqb g 1)) (eqb x 0 && eqb g 1) (and_both (eqb x 0) (eqb g 1) (eqb_of x 0 e) (eqb_of g 1 f))

  pub clash_shows : T (clash_test x g) → ((x ≡ 1) × ¬ (g ≡ 1)) ⊎ ((x ≡ 0) × (g ≡ 1))
  unfolding clash_test
  clash_shows t = go (or_cases (eqb x 1 && not (eqb g 1)) (eqb x 0 && eqb g 1) t)
    where
      go : T (eqb x 1 && not (eqb g 1)) ⊎ T (eqb x 0 && eqb g 1) → ((x ≡ 1) × ¬ (g ≡ 1)) ⊎ ((x ≡ 0) × (g ≡ 1))
      go (inl s) = inl (eqb→eq x 1 (and_left (eqb x 1) (not (eqb g 1)) s), λ q. T_not (eqb g 1) (and_right (eqb x 1) (not (eqb g 1)) s) (eqb_of g 1 q))
      go (inr s) = inr (eqb→eq x 0 (and_left (eqb x 0) (eqb g 1) s), eqb→eq g 1 (and_right (eqb x 0) (eqb g 1) s))

  clash_none : (x ≡ 1 → g ≡ 1) → (x ≡ 0 → ¬ (g ≡ 1)) → ¬ T (clash_test x g)
  clash_none one nought t = go (clash_shows t)
    where
      go : ((x ≡ 1) × ¬ (g ≡ 1)) ⊎ ((x ≡ 0) × (g ≡ 1)) → ⊥
      go (inl w) = w.1 (one w.0)
      go (inr w) = nought w.0 w.1

module _ (n k : ℕ) (M G : Cells) where
  -- the test at place i
  abbrev pub clash_at : ℕ → Bool
  clash_at i = clash_test (M (i / n / k) (i / n % k) (i % n)) (G (i / n / k) (i / n % k) (i % n))

  pub clash_cell : (u a v : ℕ) → a < k → v < n → clash_at (cell_at k n u a v) ≡ clash_test (M u a v) (G u a v)
  clash_cell u a v b l = let w = parts b l in λ i. clash_test (M (w.sender i) (w.right i) (w.receiver i)) (G (w.sender i) (w.right i) (w.receiver i))

  pub agrees_iff : Agrees n k M G ↔ (first_clash n k M G ≡ n * k * n)
  unfolding first_clash
  agrees_iff = (
    λ A. first_none (n * k * n) clash_at (λ i h.
        let p = place n k n i h in
        clash_none (M (i / n / k) (i / n % k) (i % n)) (G (i / n / k) (i / n % k) (i % n))
        (A.grants (i / n / k) (i / n % k) (i % n) p.sender p.right p.receiver)
        (A.denies (i / n / k) (i / n % k) (i % n) p.sender p.right p.receiver)),
    λ e. record {
      grants = λ u a v h b l m. one u a v (ℕ_discrete (G u a v) 1) (λ f. at e u a v h b l (clash_grant (M u a v) (G u a v) m f));
      denies = λ u a v h b l m g. at e u a v h b l (clash_deny (M u a v) (G u a v) m g);
    },
  )
    where
      one : (u a v : ℕ) → Dec (G u a v ≡ 1) → ¬ ¬ (G u a v ≡ 1) → G u a v ≡ 1
      one u a v (yes p) f = p
      one u a v (no p) f = absurd (f p)

      at : first (n * k * n) clash_at ≡ n * k * n → (u a v : ℕ) → u < n → a < k → v < n → ¬ T (clash_test (M u a v) (G u a v))
      at e u a v h b l = rw (clash_cell u a v b l) at (first_before (n * k * n) clash_at (cell_at k n u a v) (rw e (cell_inside h b l)))
