-- `readers::Reader::cells` meets its contract: each exit is one of `Exits`. Assumes nothing.
use mathlib.Core.Path.{refl}
use Rattle.readers.proofs.Exits.{cells_all, cells_out, cells_off}
use Rattle.readers.proofs.Reader.cells.Goals as goal

pub returns-in-Some-clause-read : goal.returns-in-Some-clause-read
returns-in-Some-clause-read c =
    let a = c.args in
    let found = c.in-Some.ensures in
    cells_off a.lim a.w a.self.now _ c.min.ensures _ found.0 found.1 found.2

pub returns-then-row-w-clause-read : goal.returns-then-row-w-clause-read
returns-then-row-w-clause-read c =
    let a = c.args in
    cells_out a.lim a.w a.self.now _ c.min.ensures c.in_default.ensures c.if-row-w.true

pub returns-clause-read : goal.returns-clause-read
returns-clause-read c =
    let a = c.args in
    cells_all a.lim a.w a.self.now _ c.min.ensures c.in_default.ensures c.if-row-w.false refl refl
