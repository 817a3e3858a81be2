-- `soroluzko::soroluzko_write_policy` meets its contract: what the call tells has room in its word (`Files`). Assumes nothing.
use Rattle.files.specs.Write.{wrote_told}
use Rattle.filewords.proofs.Files.{policy_written_held}
use Rattle.soroluzko.proofs.soroluzko_write_policy.Goals as goal

pub size_word-requires : goal.size_word-requires
size_word-requires c = policy_written_held _ _ _ _ _ _ c.write_policy.ensures

pub returns : goal.returns
returns c = (wrote_told c.write_policy.result, c.size_word.ensures 24, c.write_policy.ensures)
