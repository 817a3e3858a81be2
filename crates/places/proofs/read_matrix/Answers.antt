-- `places::read_matrix` meets its contract: each exit is one of `Exits`. Assumes nothing.
use mathlib.Core.Path.{sym, ap, ◌∙◌}
use mathlib.Core.List.{List}
use Prim.Native.Nat.{ℕ, ◌+◌}
use lib.ListN.{length}
use Rattle.readers.proofs.Steps.{stopped_at}
use Rattle.places.proofs.Exits.{matrix_unsized, matrix_unheaded, matrix_unfilled, matrix_filled}
use Rattle.places.proofs.read_matrix.Goals as goal

pub returns-in_err-n-clause-place : goal.returns-in_err-n-clause-place
returns-in_err-n-clause-place c =
    let s = c.new-reader.ensures in
    stopped_at c.from_residual.result _ c.from_residual.ensures.1 (matrix_unsized s.file s.at c.in_err-n.ensures.read)

pub returns-in_err-text-clause-place : goal.returns-in_err-text-clause-place
returns-in_err-text-clause-place c =
    let s = c.new-reader.ensures in
    let z = c.in_ok-n.ensures in
    stopped_at c.from_residual-in_err-text.result _ c.from_residual-in_err-text.ensures.1 (matrix_unheaded s.file s.at z.read c.in_err-text.ensures.read)

pub returns-in_err-read_records-clause-place : goal.returns-in_err-read_records-clause-place
returns-in_err-read_records-clause-place c =
    let s = c.new-reader.ensures in
    let z = c.in_ok-n.ensures in
    let f = c.in_ok-text.ensures in
    stopped_at c.from_residual-in_err-read_records.result _ c.from_residual-in_err-read_records.ensures.1
    (matrix_unfilled s.file s.at z.read f.read c.in_err-read_records.ensures.read)

pub returns-in_err-read_close-clause-place : goal.returns-in_err-read_close-clause-place
returns-in_err-read_close-clause-place c =
    let s = c.new-reader.ensures in
    let z = c.in_ok-n.ensures in
    let f = c.in_ok-text.ensures in
    let all = matrix_filled s.file s.at z.read f.read c.in_ok-read_records.ensures.read in
    stopped_at c.from_residual-in_err-read_close.result _ c.from_residual-in_err-read_close.ensures.1 (c.in_err-read_close.ensures.place ∙ all)

pub returns-clause-place : goal.returns-clause-place
returns-clause-place c =
    let s = c.new-reader.ensures in
    let z = c.in_ok-n.ensures in
    let f = c.in_ok-text.ensures in
    let all = matrix_filled s.file s.at z.read f.read c.in_ok-read_records.ensures.read in
    let same = c.in_ok-read_records.ensures.file ∙ f.file ∙ z.file ∙ s.file in
    ap (λ (l : List ℕ). length l + 1) (sym same) ∙ c.in_ok-read_close.ensures.place ∙ all
