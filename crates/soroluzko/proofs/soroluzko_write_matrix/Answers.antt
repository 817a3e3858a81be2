-- `soroluzko::soroluzko_write_matrix` meets its contract: what the call tells has room in its word (`Files`). Assumes nothing.
use Rattle.files.specs.Write.{wrote_told}
use Rattle.filewords.proofs.Files.{matrix_written_held}
use Rattle.soroluzko.proofs.soroluzko_write_matrix.Goals as goal

pub size_word-requires : goal.size_word-requires
size_word-requires c = matrix_written_held _ _ _ _ _ _ c.write_matrix.ensures

pub returns : goal.returns
returns c = (wrote_told c.write_matrix.result, c.size_word.ensures 24, c.write_matrix.ensures)
