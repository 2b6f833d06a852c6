-- What is lent to a level of a run, and the planes of a frame.
use Rattle.estimate.specs.declared.inputs.LevelInputs.{LevelInputs}
use Rattle.estimate.specs.declared.planes.FramePlanes.{FramePlanes}
use Rattle.estimate.specs.Inputs.{Inputs, inputs_of, Planes, planes_of}

abbrev pub inputs_lent : LevelInputs → Inputs
inputs_lent i = inputs_of i.width i.height i.level i.cur.now i.reference.now i.weight

abbrev pub planes_lent : FramePlanes → Planes
planes_lent p = planes_of p.full.now p.half.now p.quarter.now
