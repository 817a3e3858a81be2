-- The longest files: no file is longer (`matrix_short`, `policy_short`), and those of 64 entities, 8 rights and 64 domains without a grant are
-- as long. Assumes nothing.
use mathlib.Core.Path.{refl}
use mathlib.Core.List.{List}
use Prim.Native.Nat.{ℕ, ◌<◌}
use native.Mathlib.Nat.{le_trans}
use native.Mathlib.Omega.{arith}
use lib.ListN.{length, get_or}
use Rattle.model.specs.Below.{tab}
use Rattle.model.specs.Policy.{Policy, policy, domain_of}
use Rattle.model.proofs.Below.{length_tab, get_or_tab}
use Rattle.layout.specs.Text.{matrix_text, policy_text}
use Rattle.layout.specs.Files.{MatrixFile, PolicyFile}
use Rattle.layout.proofs.Contents.{matrix_length, policy_length, matrix_short, policy_short}
use Rattle.filed.specs.Files.{LongestMatrix, LongestPolicy}

-- so many zeros
abbrev none : ℕ → List ℕ
none n = tab n (λ _. 0)

none_low : (n b i : ℕ) → 0 < b → i < length (none n) → get_or (none n) i 0 < b
none_low n b i h l = rw (get_or_tab n (λ _. 0) i (rw (length_tab n (λ _. 0)) at l)) h

widest : MatrixFile 64 8 (none 32768) (matrix_text 64 8 (none 32768))
widest = record {
  matrix = record {
    laid = record { entities = omega arith; right = omega arith; rights = omega arith; size = length_tab 32768 (λ _. 0) };
    below = λ i l. none_low 32768 3 i (omega arith) l;
  };
  text = refl;
}

abbrev grantless : Policy
grantless = policy 64 (none 64) (none 32768)

largest : PolicyFile 64 8 grantless (policy_text 64 8 grantless)
unfolding domain_of
largest = record {
  within = record {
    entities = omega arith;
    right = omega arith;
    rights = omega arith;
    few = omega arith;
    valid = record {
      entities = length_tab 64 (λ _. 0);
      below = λ u h. none_low 64 64 u (omega arith) (rw (length_tab 64 (λ _. 0)) h);
      size = length_tab 32768 (λ _. 0);
      cells = λ i l. none_low 32768 2 i (omega arith) l;
    };
  };
  text = refl;
}

pub longest_matrix : LongestMatrix
longest_matrix e = (
  λ f. omega (arith, f _ (64, 8, none 32768, widest), matrix_length 64 8 (none 32768)),
  λ h s w. le_trans (matrix_short w.3) h,
)

pub longest_policy : LongestPolicy
longest_policy e = (
  λ f. omega (arith, f _ (64, 8, grantless, largest), policy_length 64 8 grantless),
  λ h s w. le_trans (policy_short w.3) h,
)
