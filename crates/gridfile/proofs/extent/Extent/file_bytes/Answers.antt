-- `gridfile::extent::Extent::file_bytes` meets its contract: the header, and ten bytes for each cell.
use Rattle.std.proofs.Common.{ap, ◌+◌, ◌*◌, ℕ}
use Rattle.records.specs.Records.{file_bytes}
use Rattle.gridfile.proofs.extent.Extent.file_bytes.Goals as goal

pub returns : goal.returns
unfolding file_bytes
returns c = ap (λ (n : ℕ). 4 + 10 * n) c.cells.ensures
