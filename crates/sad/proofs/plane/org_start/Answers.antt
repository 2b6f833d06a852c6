-- `sad::plane::org_start` meets its contract.
use mathlib.Core.Path.{refl, sym}
use lib.IntN.{pos}
use Rattle.sad.specs.Plane.{org_start}
use Rattle.sad.proofs.Places.{sample_is}
use Rattle.sad.proofs.plane.org_start.Goals as goal

pub returns : goal.returns
unfolding org_start
returns c =
    let b = c.args.b in
    sym (sample_is b.stride b.pad (pos b.po_x) (pos b.po_y) refl refl)
