-- What is answered to writing: the log written back, or why it is not, by the definitions of document 01.
-- Assumes nothing.
use Rattle.std.specs.Prelude.{ℕ, List, length, Result, Ok, Err}
use Rattle.rules.specs.Answers.{Writing, written, unwritten, write, bytes_of_writing, over}
use Rattle.rules.specs.Rules.{Rules}
use Rattle.rules.specs.Text.{Text}
use Rattle.rules.specs.declared.Refusal.{Refusal}

-- How long the result is, or the refusal.
unfoldable pub wrote_by : Writing → Result ℕ Refusal
wrote_by (written t) = Ok (length t)
wrote_by (unwritten r) = Err r

unfoldable pub wrote_of : Rules → ℕ → Text → Result ℕ Refusal
unfolding wrote_by write
wrote_of R room s = wrote_by (write R room s)

-- What the output slice holds afterwards: on a refusal, what it held.
abbrev pub written_afterwards : Rules → Text → List ℕ → List ℕ
written_afterwards R s slice = over (bytes_of_writing (write R (length slice) s)) slice
