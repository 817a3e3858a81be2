-- `fills::fill_cells` meets its contract: the row is a part of the file, and goes to a part of the buffer. Assumes nothing.
use mathlib.Core.Path.{ap, ◌∙◌}
use lib.ListN.{length}
use lib.Seq.{sets}
use Rattle.model.proofs.Below.{length_tab}
use Rattle.fills.proofs.Rows.{part_cells, part_sets}
use Rattle.fills.proofs.fill_cells.Goals as goal

pub returns : goal.returns
returns c =
    let a = c.args in
    let cells = c.fill_row.ensures ∙ part_cells a.s.now a.at a.w c.requires.0 in
    let size = ap length cells ∙ length_tab a.w _ in
    part_sets a.out.now c.fill_row.new.out a.to a.w size c.requires.1 ∙ ap (sets a.out.now a.to) cells
