-- `records::parts::get_cell` meets its contract: each number is that of its part of the record.
use Rattle.std.proofs.Common.{◌≡◌, ℕ, ◌+◌, ◌≤◌, List, ap, ◌∙◌, to_z, arith}
use Rattle.std.proofs.Math.Seq.{slice}
use Rattle.std.specs.Int.{w16}
use Rattle.ground.proofs.Words.{back}
use Rattle.ground.proofs.ListLaws.{slice_slice}
use Rattle.records.specs.Numbers.{number_of}
use Rattle.records.specs.Forms.{cell_bytes}
use Rattle.records.specs.Records.{cell_of}
use Rattle.records.proofs.parts.get_cell.Goals as goal

-- a number of a record, which starts at `at`
number_in : (l : List ℕ) (at f n : ℕ) → f + n ≤ cell_bytes → number_of (slice (at + f) (at + f + n) l) ≡ number_of (slice f (f + n) (slice at (at + cell_bytes) l))
number_in l at f n h = ap number_of (slice_slice l at (at + cell_bytes) f n (omega arith))

pub returns : goal.returns
unfolding cell_of
returns c =
    let part = number_in c.args.file.now c.args.at in
    let row = back w16 c.get_i16.result c.get_i16.type_inv ∙ c.get_i16.ensures ∙ ap (to_z w16) (part 2 2 (omega arith)) in
    let col = back w16 c.get_i16-2.result c.get_i16-2.type_inv ∙ c.get_i16-2.ensures ∙ ap (to_z w16) (part 4 2 (omega arith)) in
    let sad = c.get_u32.ensures ∙ part 6 4 (omega arith) in
    λ i. record { mv = record { row = row i; col = col i }; normalized_sad = sad i }
