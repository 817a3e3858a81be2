-- `files::write_matrix` meets its contract: a refusal comes before anything is written, and where there is none the file is put.
-- Assumes nothing.
use mathlib.Core.Path.{◌≡◌, sym, ◌∙◌}
use lib.ListN.{length}
use Rattle.std.specs.Prelude.{Ok}
use Rattle.model.specs.Refusal.{checked}
use Rattle.writable.specs.Rules.{matrix_write_rules}
use Rattle.writable.proofs.Rules.{matrix_writable, matrix_enough}
use Rattle.files.proofs.write_matrix.Goals as goal
use Rattle.files.proofs.write_matrix.Goals.{In_ok-matrix_fits}

-- no rule applies
fine : (c : In_ok-matrix_fits) → checked (let a = c.args in matrix_write_rules a.n a.k a.matrix.now (length a.file.now)) ≡ Ok tt
fine c = sym c.matrix_fits.ensures ∙ c.in_ok-matrix_fits.was

pub put_matrix-requires-clause-holds : goal.put_matrix-requires-clause-holds
put_matrix-requires-clause-holds c =
    let a = c.args in
    let room = length a.file.now in
    matrix_writable a.n a.k a.matrix.now room (fine (goal.at.put_matrix-requires-clause-holds c).In_ok-matrix_fits)

pub put_matrix-requires-clause-file_has_room : goal.put_matrix-requires-clause-file_has_room
put_matrix-requires-clause-file_has_room c =
    let a = c.args in
    let room = length a.file.now in
    matrix_enough a.n a.k a.matrix.now room (fine (goal.at.put_matrix-requires-clause-file_has_room c).In_ok-matrix_fits)
