-- `soroluzko::soroluzko_read_policy` meets its contract: what the call tells has room in its word (`Files`). Assumes nothing.
use Rattle.filewords.proofs.Files.{policy_read_held}
use Rattle.soroluzko.proofs.soroluzko_read_policy.Goals as goal

pub read_policy_word-requires : goal.read_policy_word-requires
read_policy_word-requires c = policy_read_held _ _ _ _ _ _ c.read_policy.ensures
