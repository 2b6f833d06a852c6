-- What a vector costs a block of lent planes.
use Rattle.motion.specs.declared.vector.MotionVector.{MotionVector}
use Rattle.sad.specs.declared.rd.MVCandidateRD.{MVCandidateRD}
use Rattle.sad.specs.declared.planes.BlockPlanes.{BlockPlanes}
use Rattle.sad.specs.Cost.{rd_at}

-- in the planes that are lent with the block
abbrev pub rd_in : BlockPlanes → MotionVector → MVCandidateRD
rd_in p v = rd_at p.block p.cur.now p.reference.now v
