-- `soroluzko::soroluzko_weave` meets its contract: what the call tells has room in its word (`Weave`). Assumes nothing.
use Rattle.files.specs.Write.{wrote_told}
use Rattle.filewords.proofs.Weave.{woven_held}
use Rattle.soroluzko.proofs.soroluzko_weave.Goals as goal

pub size_word-requires : goal.size_word-requires
size_word-requires c = let (t, w, z) = c.weave_bytes.ensures in woven_held _ t _ _ _ w z

pub returns : goal.returns
returns c = let (t, w, z) = c.weave_bytes.ensures in (t, w, (wrote_told c.weave_bytes.result, c.size_word.ensures 24, z))
