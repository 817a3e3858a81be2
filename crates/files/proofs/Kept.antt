-- A file that fits has a first line, and what the test of a place against a file's length shows. No function's proof cites it. Assumes nothing.
use mathlib.Core.Path.{◌≡◌, refl}
use mathlib.Core.Bool.{Bool, true, false, cond}
use mathlib.Core.List.{List}
use Prim.Native.Nat.{ℕ, ◌≤◌, ◌<◌}
use native.Mathlib.Omega.{arith}
use borrow.Author.Tests.{leb-true, leb-false}
use lib.Dec.{leb}
use lib.ListN.{length}
use Rattle.std.specs.Prelude.{Ok, Err}
use Rattle.model.specs.declared.Fault.{Fault}
use Rattle.model.specs.declared.Refusal.{Refusal}
use Rattle.model.specs.Refusal.{Checked, refusal}
use Rattle.model.proofs.Groups.{fine_not_bad, checked_fine}
use Rattle.layout.specs.Layout.{reach, matrix_layout, policy_layout}
use Rattle.layout.proofs.Files.{matrix_formed, policy_formed}
use Rattle.layout.proofs.Contents.{matrix_says, policy_says}

module _ (fault : Fault) (place size : ℕ) where
  -- a refusal where the test says that the place is inside the file
  abbrev tested : Bool → Checked
  tested b = cond b (Err (refusal fault place)) (Ok tt)

  pub placed_bad : (r : Refusal) → tested (leb place size) ≡ Err r → (place ≤ size) × (r ≡ refusal fault place)
  placed_bad r e = go (leb place size) refl e
    where
      go : (b : Bool) → leb place size ≡ b → tested b ≡ Err r → (place ≤ size) × (r ≡ refusal fault place)
      go true q f = (leb-true place size q, cc)
      go false q f = absurd (fine_not_bad (Ok tt) r refl f)

  pub placed_fine : tested (leb place size) ≡ Ok tt → size < place
  placed_fine e = leb-false place size (checked_fine (leb place size) (refusal fault place) (Ok tt) e).0

pub matrix_least : (s : List ℕ) (place : ℕ) → place ≡ reach matrix_layout s → length s < place → 9 ≤ length s
matrix_least s place e h = let (n, k, m, f) = matrix_formed s place e h in omega (arith, (matrix_says f).long)

pub policy_least : (s : List ℕ) (place : ℕ) → place ≡ reach policy_layout s → length s < place → 14 ≤ length s
policy_least s place e h = let (n, k, P, f) = policy_formed s place e h in omega (arith, (policy_says f).long)
