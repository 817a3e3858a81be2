-- `writers::Writer::put` meets its contract: the text is copied over its part of the buffer. Assumes nothing.
use mathlib.Core.Path.{refl}
use native.Mathlib.Omega.{arith}
use Rattle.writers.proofs.Writes.{copied, wrote}
use Rattle.writers.proofs.Writer.put.Goals as goal

pub returns : goal.returns
returns c =
    let out = c.args.self.now in
    let text = c.args.text.now in
    wrote text refl (rw c.copy_from_slice.ensures.after (copied out.buffer.now text out.at (omega arith))) refl
