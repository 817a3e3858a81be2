-- What the weave tells has room in its word: no answer is longer than 33,230 bytes; and an input has one answer, so one word. Assumes nothing.
use mathlib.Core.Path.{sym, subst}
use mathlib.Core.List.{List, [], ◌∷◌}
use Prim.Native.Nat.{ℕ}
use native.Mathlib.Omega.{arith}
use lib.ListN.{length}
use Rattle.model.specs.declared.Fault.TheVariants.{Room}
use Rattle.model.specs.Refusal.{Told}
use Rattle.model.specs.Rules.{room_rules}
use Rattle.files.specs.Write.{Written}
use Rattle.woven.specs.Weave.{Woven, longest}
use Rattle.woven.proofs.Claims.{woven_short, woven_unique}
use Rattle.word.specs.Held.{none, more, Held}
use Rattle.filewords.specs.Weave.{WeaveKept, WeaveWordUnique}
use Rattle.filewords.specs.Files.{WrittenWord}
use Rattle.filewords.proofs.Files.{written_word_unique}
use Rattle.word.proofs.Word.{word_kept, word_low, told_held}
use Rattle.word.proofs.Carried.{room_carried}

pub woven_held : (s t x x' : List ℕ) (a : Told) → Woven s t → Written (room_rules Room (length x) longest) t x a x' → Held (24 ∷ []) a
woven_held s t x x' a w z =
    subst (Held (24 ∷ [])) (sym z.told) (told_held (24 ∷ []) (room_rules Room (length x) longest) (length t ∷ [])
    (room_carried Room (length x) longest (omega arith) (omega arith) (omega arith)) (λ _. more (omega (arith, woven_short w)) none))

pub weave_kept : WeaveKept
weave_kept s t x x' a w z = let h = woven_held s t x x' a w z in (word_kept (24 ∷ []) a h, word_low (24 ∷ []) (omega arith) a h)

pub weave_word_unique : WeaveWordUnique
weave_word_unique s x x' x'' w v (t, e, b) (a, q, c) =
    let rules = room_rules Room (length x) longest in
    written_word_unique rules t x x' x'' w v b (subst (λ (l : List ℕ). WrittenWord rules l x v x'') (woven_unique s a t q e) c)
