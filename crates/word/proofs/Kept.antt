-- What a word of the judge holds is small, case by case; and a word can carry every refusal with one of the twelve reasons and a small place.
-- No function's proof cites it. Assumes nothing.
use mathlib.Core.List.{[], ◌∷◌}
use Prim.Native.Nat.{ℕ, ◌^◌, ◌≤◌, ◌<◌}
use native.Mathlib.Omega.{arith}
use Rattle.model.specs.declared.Fault.{Fault}
use Rattle.model.specs.Refusal.{number_of, values, refused, refusal, cell_refusal}
use Rattle.model.specs.Rules.{room_rules}
use Rattle.model.proofs.Groups.{Gives}
use Rattle.model.proofs.Reasons.{Listed, listed_number}
use Rattle.word.specs.Word.{place_bits}
use Rattle.word.specs.Held.{Carried, JudgeHeld, enforcing, conflicting, refusing}
use Rattle.word.proofs.Word.{RefusalCarried}
use Rattle.word.proofs.Carried.{carried, cell_carried, room_carried}

pub domains_held : {d : ℕ} → JudgeHeld (values (0 ∷ d ∷ [])) → d < 2 ^ 16
domains_held (enforcing d h) = h

pub conflict_held : {i x : ℕ} → JudgeHeld (values (1 ∷ i ∷ x ∷ [])) → (i < 2 ^ 16) × (x < 2 ^ 8)
conflict_held (conflicting i x h l) = (h, l)

pub refusal_held : {number place : ℕ} → JudgeHeld (refused number place) → Carried number place
refusal_held (refusing number place h) = h

-- ---- refusals with one of the twelve reasons

listed_byte : (f : Fault) → Listed f → number_of f < 256
listed_byte f h = omega (arith, (listed_number f h).1)

pub listed_carried : (fault : Fault) (place : ℕ) → Listed fault → place < 2 ^ place_bits → RefusalCarried (refusal fault place)
listed_carried fault place h = carried fault place (listed_number fault h).0 (listed_byte fault h)

pub listed_cell_carried : (fault : Fault) (k y i : ℕ) → Listed fault → i < 2 ^ place_bits → RefusalCarried (cell_refusal fault k y i)
listed_cell_carried fault k y i h = cell_carried fault k y i (listed_number fault h).0 (listed_byte fault h)

pub listed_room_carried : (fault : Fault) (have need : ℕ) → Listed fault → need ≤ 33230 → Gives RefusalCarried (room_rules fault have need)
listed_room_carried fault have need h = room_carried fault have need (listed_number fault h).0 (listed_byte fault h)
