-- `rows::put_sizes` meets its contract: the mark and the two numbers stand one behind the other. Assumes nothing.
use Rattle.layout.specs.Text.{one, two}
use mathlib.Core.List.{◌++◌}
use Rattle.writers.proofs.Writes.{behind}
use Rattle.rows.proofs.put_sizes.Goals as goal

pub returns : goal.returns
returns c =
    let a = c.args in
    let numbers = behind (two a.n) (one a.k) c.put_number.ensures c.put_digit.ensures in
    behind a.mark.now (two a.n ++ one a.k) c.put.ensures numbers
