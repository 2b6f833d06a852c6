-- After i turns the first i bytes are in the sum.
use mathlib.Core.Path.{◌≡◌, refl, sym, ap, ap₂, ◌∙◌}
use mathlib.Core.List.{List, [], ◌∷◌, ◌++◌}
use Prim.Native.Nat.{ℕ, ◌+◌, ◌<◌}
use native.Mathlib.Numerals.{add-one}
use lib.ListN.{length, get_or, take}
use lib.Seq.{take-suc}
use Rattle.passes.specs.Sums.{sum_with, sum_over}
use Rattle.passes.proofs.sums.summed.Goals as goal

-- a byte at the end
over_last : (bytes : List ℕ) (sum byte : ℕ) → sum_over sum (bytes ++ byte ∷ []) ≡ sum_with (sum_over sum bytes) byte
unfolding sum_over
over_last [] sum byte = refl
over_last (b ∷ bytes) sum byte = over_last bytes (sum_with sum b) byte

-- the byte at place i
over_more : (bytes : List ℕ) (sum i : ℕ) → i < length bytes → sum_over sum (take (i + 1) bytes) ≡ sum_with (sum_over sum (take i bytes)) (get_or bytes i 0)
over_more bytes sum i more =
    ap (λ (n : ℕ). sum_over sum (take n bytes)) (add-one i) ∙ ap (sum_over sum) (take-suc bytes i 0 more) ∙ over_last (take i bytes) sum (get_or bytes i 0)

pub loop-byte-init : goal.loop-byte-init
unfolding sum_over
loop-byte-init c = refl

pub loop-byte-preserved : goal.loop-byte-preserved
unfolding sum_with
loop-byte-preserved c =
    ap₂ sum_with c.loop-byte.invariant c.from.ensures
    ∙ sym (over_more c.args.bytes.now c.args.sum c.loop-byte.byte-index c.loop-byte-test.true)
