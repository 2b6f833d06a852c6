-- `held::bytes::header_end` meets its contract. Assumes nothing.
use mathlib.Core.Path.{ap, ◌∙◌}
use Prim.Native.Nat.{ℕ}
use Rattle.gridfile.specs.Reading.{header_end}
use Rattle.held.specs.Held.{plain, reader_of}
use Rattle.held.proofs.bytes.header_end.Goals as goal

pub returns : goal.returns
unfolding header_end
returns c =
    let a = c.args in
    c.between.ensures ∙ ap (λ (n : ℕ). reader_of (plain n a.columns a.rows 0)) (c.code_of.ensures ∙ c.end_refusal-end.ensures)
