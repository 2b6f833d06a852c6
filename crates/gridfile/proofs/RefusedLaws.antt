-- Laws of a refusal and what a call answers with it. Assumes nothing.
use borrow.Author.Tests.{ne_eqb}
use Rattle.std.proofs.Common.{arith, ◌≡◌, ℕ, ◌+◌, ◌≤◌, List, length, get_or, Result, Ok, Err, IfOk}
use Rattle.records.specs.Forms.{header_bytes}
use Rattle.refusal.specs.declared.kinds.Refusal.{Refusal}
use Rattle.refusal.specs.Kinds.{number_of, code_of}
use Rattle.refusal.proofs.KindsLaws.{number-some}
use Rattle.gridfile.specs.declared.extent.Extent.{Extent}
use Rattle.gridfile.specs.Peek.{peek_refusal, peek_of, peek_answer, peek_for}

-- no refusal has the number 0
pub numbered : (refusal : Refusal) → number_of refusal ≡ 0 → ⊥
numbered refusal e = omega (arith, number-some refusal)

-- what a header says, as its bytes say it
abbrev pub Said : List ℕ → Extent → Type 0
Said file said = (header_bytes ≤ length file) × (said.columns ≡ get_or file 2 0 + 1) × (said.rows ≡ get_or file 3 0 + 1)

pub peek_answers : (answer : Result Extent Refusal) (file : List ℕ) → code_of answer ≡ peek_refusal file → IfOk answer (Said file) → peek_for answer ≡ peek_answer file
unfolding peek_answer peek_of
peek_answers (Ok extent) file e said = rw (← e, said.1, said.2)
peek_answers (Err refusal) file e said = rw (← e, ne_eqb (number_of refusal) 0 (numbered refusal))
