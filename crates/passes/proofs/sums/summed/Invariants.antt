use Rattle.std.proofs.Common.{◌≡◌, take}
use Rattle.passes.specs.Sums.{sum_over}
use Rattle.passes.proofs.sums.summed.Given as goal

-- the bytes that went by are in the sum
abbrev pub invariant-loop-byte : goal.invariant-loop-byte
invariant-loop-byte l = l.next ≡ sum_over l.sum (take l.byte-index l.bytes)
