use Rattle.std.proofs.Common.{◌≡◌, ◌*◌, true}
use Rattle.ground.specs.Every.{all_below}
use Rattle.records.specs.Forms.{cell_bytes}
use Rattle.gridfile.proofs.MarkLaws.{marked_at}
use Rattle.gridfile.proofs.read.marks_hold.Given as goal

-- the first i marks hold
abbrev pub invariant-loop-i : goal.invariant-loop-i
invariant-loop-i l = all_below l.i (λ i. marked_at l.records (cell_bytes * i)) ≡ true
