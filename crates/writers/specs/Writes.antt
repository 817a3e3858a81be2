-- What a writer asks for a piece of a file, and what the piece leaves. Assumes nothing.
use Rattle.std.specs.Prelude.{◌≡◌, ◌+◌, ◌≤◌, List, ℕ, length}
use Rattle.std.proofs.lemmas.List.Edits.{sets}
use Rattle.writers.specs.declared.Writer.{Writer}

-- n more bytes fit
abbrev pub HasRoom : Writer → ℕ → Type 0
HasRoom out n = out.at + n ≤ length out.buffer.now

-- the bytes from the writer's place on are the text, the other bytes stay, and its place is behind the text
pub record Writes (before after : Writer) (text : List ℕ) : Type 0 where
  pub same_buffer : after.buffer.ghost_name ≡ before.buffer.ghost_name
  pub written : after.buffer.now ≡ sets before.buffer.now before.at text
  pub moved : after.at ≡ before.at + length text
  pub long : length after.buffer.now ≡ length before.buffer.now
