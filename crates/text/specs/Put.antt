-- A text put into bytes, from a place on.
use Rattle.std.specs.Prelude.{◌≡◌, List, ℕ, ◌+◌, length}
use Rattle.std.proofs.lemmas.List.Edits.{sets}
use Rattle.text.specs.declared.writer.Writer.{Writer}

-- the next place, r, is behind the text, and the bytes after are those before with the text in them
pub record Put (text : List ℕ) (at : ℕ) (before : List ℕ) (r : ℕ) (after : List ℕ) : Type 0 where
  pub next : r ≡ at + length text
  pub bytes : after ≡ sets before at text

-- a writer's text goes behind what it has put, into the bytes that it was lent
pub record Puts (text : List ℕ) (old new : Writer) : Type 0 where
  pub put : Put text old.at old.out.now new.at new.out.now
  pub same : new.out.ghost_name ≡ old.out.ghost_name
  pub length : length new.out.now ≡ length old.out.now
