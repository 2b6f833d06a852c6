-- `gridfile::write::extent_of` meets its contract: each return has the tests before it passed.
use borrow.Author.Tests.{le-leb, lt-leb}
use Rattle.std.proofs.Common.{sym, arith}
use Rattle.grid.specs.Grid.{cells}
use Rattle.refusal.specs.Refusals.{refuse, ◌then◌}
use Rattle.refusal.proofs.RefusalLaws.{side_of}
use Rattle.gridfile.specs.Writing.{write_refusal}
use Rattle.gridfile.proofs.write.extent_of.Goals.{then-not-side_ok-via-then-not-side_ok, then-not-side_ok-via-else-not-side_ok+then-not-side_ok-2, After-grid_ok}
use Rattle.gridfile.proofs.write.extent_of.Goals as goal

pub returns-then-not-side_ok-clause-number : goal.returns-then-not-side_ok-clause-number
unfolding write_refusal refuse ◌then◌
returns-then-not-side_ok-clause-number c =
    elim c.then-not-side_ok.branch [
      | then-not-side_ok-via-then-not-side_ok w ↦ rw (← w.if-not-side_ok.ensures)
      | then-not-side_ok-via-else-not-side_ok+then-not-side_ok-2 w ↦ rw (← w.if-not-side_ok.ensures, ← w.if-not-side_ok-2.ensures)
    ]

pub grid_ok-requires : goal.grid_ok-requires
grid_ok-requires c = (
  (side_of c.args.width (sym c.if-not-side_ok.ensures)).most,
  (side_of c.args.height (sym c.if-not-side_ok-2.ensures)).most,
)

pub returns-then-not-grid_ok-clause-number : goal.returns-then-not-grid_ok-clause-number
unfolding write_refusal refuse ◌then◌
returns-then-not-grid_ok-clause-number c = rw (← c.if-not-side_ok.ensures, ← c.if-not-side_ok-2.ensures, ← c.if-not-grid_ok.ensures)

pub invariant_of-extent : goal.invariant_of-extent
invariant_of-extent c =
    let wide = side_of c.args.width (sym c.if-not-side_ok.ensures) in
    let high = side_of c.args.height (sym c.if-not-side_ok-2.ensures) in
    record { wide = (omega (arith, wide), omega (arith, wide)); high = (omega (arith, high), omega (arith, high)) }

pub returns-then-bytes-file_bytes-clause-number : goal.returns-then-bytes-file_bytes-clause-number
unfolding write_refusal refuse ◌then◌ cells
returns-then-bytes-file_bytes-clause-number c =
    rw (← c.if-not-side_ok.ensures, ← c.if-not-side_ok-2.ensures, ← c.if-not-grid_ok.ensures, ← c.file_bytes.ensures, lt-leb _ _ c.if-bytes-file_bytes.true)

pub returns-clause-number : goal.returns-clause-number
unfolding write_refusal refuse ◌then◌ cells
returns-clause-number c =
    rw (← c.if-not-side_ok.ensures, ← c.if-not-side_ok-2.ensures, ← c.if-not-grid_ok.ensures, ← c.file_bytes.ensures, le-leb _ _ c.if-bytes-file_bytes.false)
