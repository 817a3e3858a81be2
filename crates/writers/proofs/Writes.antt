-- Pieces written one behind the other are one piece. Assumes nothing.
use mathlib.Core.Path.{◌≡◌, refl, ap, ◌∙◌}
use mathlib.Core.List.{List, [], ◌++◌}
use Prim.Native.Nat.{ℕ, ◌+◌, ◌-◌, ◌≤◌}
use native.Mathlib.Omega.{arith}
use native.Mathlib.Numerals.{add-one}
use lib.ListN.{length, length-append}
use lib.Seq.{sets, sets-eq, length-sets}
use borrow.Rule.Slice.PartMut.{put_mid}
use Rattle.std.proofs.lemmas.Grind.{common_steps}
use Rattle.model.specs.Refusal.{over}
use Rattle.layout.specs.Text.{each}
use Rattle.layout.proofs.Puts.{put_next, put_whole}
use Rattle.writers.specs.declared.Writer.{Writer}
use Rattle.writers.specs.Writes.{Writes}

-- a text that is copied over a part
pub copied : (l t : List ℕ) (at : ℕ) → at + length t ≤ length l → put_mid at (at + length t - at) l t ≡ sets l at t
copied l t at h = grind (arith, common_steps, sets-eq)

-- the bytes keep their number
pub wrote : {a b : Writer} (t : List ℕ) → b.buffer.ghost_name ≡ a.buffer.ghost_name → b.buffer.now ≡ sets a.buffer.now a.at t
    → b.at ≡ a.at + length t → Writes a b t
wrote {a} t n w m = record { same_buffer = n; written = w; moved = m; long = ap length w ∙ length-sets a.buffer.now a.at t }

-- nothing written yet
nothing : (a : Writer) → Writes a a []
nothing a = record { same_buffer = refl; written = refl; moved = omega arith; long = refl }

-- one text behind another
pub behind : {a b c : Writer} (s t : List ℕ) → Writes a b s → Writes b c t → Writes a c (s ++ t)
behind {a} {b} s t x y = record {
  same_buffer = y.same_buffer ∙ x.same_buffer;
  written = put_next s t a.buffer.now a.at b.at x.written x.moved y.written;
  moved = omega (arith, length-append s t, x.moved, y.moved);
  long = y.long ∙ x.long;
}

-- piece by piece
pub no_piece : (f : ℕ → List ℕ) (a : Writer) → Writes a a (each 0 f)
unfolding each
no_piece f a = nothing a

pub one_piece_more : {a b c : Writer} (f : ℕ → List ℕ) (u : ℕ) → Writes a b (each u f) → Writes b c (f u) → Writes a c (each (u + 1) f)
unfolding each
one_piece_more f u x y = rw add-one (behind (each u f) (f u) x y)

-- a whole text, from the start of the buffer
pub whole : {a b : Writer} (t l : List ℕ) → a.buffer.now ≡ l → a.at ≡ 0 → length t ≤ length l → Writes a b t → b.buffer.now ≡ over t l
whole t l e z h w = w.written ∙ rw (e, z) (put_whole t l h)
