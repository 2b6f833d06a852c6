-- What an entry point gives back.
use Rattle.std.specs.Prelude.{ℕ, cond, eqb, pos, Result, Ok, Err}
use Rattle.motion.specs.declared.vector.MotionVector.{MotionVector}
use Rattle.sad.specs.declared.rd.MVCandidateRD.{MVCandidateRD}
use Rattle.search.specs.declared.result.MotionSearchResult.{MotionSearchResult}
use Rattle.refusal.specs.declared.kinds.Refusal.{Refusal}
use Rattle.refusal.specs.Kinds.{number_of}
use Rattle.single.specs.declared.found.Found.{Found}

-- a refusal carries no vector: a record that must have fields holds 0 in each
unfoldable pub refused : ℕ → Found
refused number = record { code = number; row = pos 0; col = pos 0; sad = 0; cost = 0 }

-- done: vector, SAD and cost
unfoldable pub found_of : MotionVector → MVCandidateRD → Found
found_of v rd = record { code = 0; row = v.row; col = v.col; sad = rd.sad; cost = rd.cost }

-- the refusal where there is one, else what was found
unfoldable pub answer : ℕ → Found → Found
answer number found = cond (eqb number 0) found (refused number)

-- a result that may be a refusal, as C gets it
unfoldable pub found_from : Result MotionSearchResult Refusal → Found
found_from (Ok best) = found_of best.mv best.rd
found_from (Err refusal) = refused (number_of refusal)
