-- What a read tells determines its answer. Assumes nothing.
use mathlib.Core.Path.{◌≡◌}
use Rattle.places.specs.declared.MatrixSizes.{MatrixSizes}
use Rattle.places.specs.declared.PolicySizes.{PolicySizes}
use Rattle.model.proofs.Groups.{told_apart}
use Rattle.files.specs.Read.{ReadMatrix, ReadPolicy, matrix_values, policy_values, read_matrix_told, read_policy_told}

same_matrix : (y z : MatrixSizes) → matrix_values y ≡ matrix_values z → y ≡ z
same_matrix y z e = let p : y.n ≡ z.n = cc in let o : y.k ≡ z.k = cc in λ i. record { n = p i; k = o i }

same_policy : (y z : PolicySizes) → policy_values y ≡ policy_values z → y ≡ z
same_policy y z e =
    let p : y.n ≡ z.n = cc in
    let o : y.k ≡ z.k = cc in
    let w : y.d ≡ z.d = cc in
    λ i. record { n = p i; k = o i; d = w i }

pub matrix_apart : (r q : ReadMatrix) → read_matrix_told r ≡ read_matrix_told q → r ≡ q
matrix_apart r q e = told_apart matrix_values same_matrix r q e

pub policy_apart : (r q : ReadPolicy) → read_policy_told r ≡ read_policy_told q → r ≡ q
policy_apart r q e = told_apart policy_values same_policy r q e
