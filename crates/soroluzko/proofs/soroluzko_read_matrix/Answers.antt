-- `soroluzko::soroluzko_read_matrix` meets its contract: what the call tells has room in its word (`Files`). Assumes nothing.
use Rattle.filewords.proofs.Files.{matrix_read_held}
use Rattle.soroluzko.proofs.soroluzko_read_matrix.Goals as goal

pub read_matrix_word-requires : goal.read_matrix_word-requires
read_matrix_word-requires c = matrix_read_held _ _ _ _ c.read_matrix.ensures
