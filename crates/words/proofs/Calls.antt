-- What each call tells has room in its word, so the word loses nothing; and its upper bits are 0. Assumes nothing.
use mathlib.Core.Path.{◌≡◌, refl, sym, ◌∙◌}
use mathlib.Core.Bool.{Bool, true, false, cond}
use mathlib.Core.List.{List, [], ◌∷◌}
use Prim.Native.Nat.{ℕ, ◌+◌, ◌*◌, ◌/◌, ◌%◌, ◌^◌, ◌<◌}
use native.Mathlib.Decide.{ℕ_discrete}
use native.Mathlib.Omega.{arith}
use borrow.Author.Tests.{ltb-true, eq-eqb, ne_eqb}
use lib.Dec.{eqb, ltb}
use lib.ListN.{get_or}
use Rattle.model.specs.Refusal.{Checked, checked, Told, values, refused, tell}
use Rattle.std.specs.Prelude.{Ok, Err}
use Rattle.model.specs.Matrix.{cell}
use Rattle.model.specs.Alike.{alike_test}
use Rattle.model.specs.Policy.{Policy, answer}
use Rattle.model.specs.Rules.{whole_rules}
use Rattle.model.proofs.Built.{built_few}
use Rattle.model.proofs.Groups.{values_refused, gives_bad, groups_fine}
use Rattle.model.proofs.Places.{small}
use Rattle.model.proofs.Rules.{whole_fine}
use Rattle.ask.specs.Ask.{ask_rules, granted, ask_told}
use Rattle.alike.specs.Compare.{alike_rules, alike_told}
use Rattle.build.specs.Build.{built_from, build_rules, build_told}
use Rattle.conflicts.specs.Conflict.{conflict}
use Rattle.judge.specs.Judge.{judge_rules, verdict, judge_told}
use Rattle.judge.proofs.Exits.{judgeable}
use Rattle.word.specs.Word.{fields, unfields, word, unword}
use Rattle.word.specs.Held.{Carried, none, more, Held, JudgeHeld, enforcing, conflicting, refusing}
use Rattle.words.specs.Calls.{judge_fields, RefusalTold, RefusalKept, AskKept, AlikeKept, BuildKept, JudgeKept}
use Rattle.word.proofs.Word.{unword_values, unword_refused, word_kept, refused_low, word_low, told_held, RefusalCarried}
use Rattle.words.proofs.Carried.{ask_carried, alike_carried, build_carried, judge_carried}

bit : (b : Bool) → cond b 1 0 < 2 ^ 1
bit true = omega arith
bit false = omega arith

pub ask_held : (n k u a v : ℕ) (P : Policy) → Held (1 ∷ []) (ask_told n k u a v P)
unfolding ask_told
ask_held n k u a v P =
    told_held (1 ∷ []) (ask_rules n k u a v P) (granted k P u a v) (ask_carried n k u a v P)
    (λ _. more (bit (eqb (answer k P u a v) 1)) none)

pub alike_held : (n k u v : ℕ) (m : List ℕ) → Held (1 ∷ []) (alike_told n k u v m)
unfolding alike_told
alike_held n k u v m = told_held (1 ∷ []) (alike_rules n k u v m) _ (alike_carried n k u v m) (λ _. more (bit (alike_test n k (cell k n m) u v)) none)

pub build_held : (n k : ℕ) (m : List ℕ) (x y : ℕ) → Held (8 ∷ []) (build_told n k m x y)
unfolding build_told build_rules
build_held n k m x y = told_held (8 ∷ []) (build_rules n k m x y) ((built_from n k m).domains ∷ []) (build_carried n k m x y) (λ e.
    let s = (whole_fine n k m (groups_fine (whole_rules n k m) _ e).0).laid in
    more (omega (arith, built_few n k (cell k n m), s.entities)) none)

-- ---- a refusal

pub refusal_told : RefusalTold
refusal_told ws w = (λ h. unword_refused ws w (λ e. omega arith), λ e. go e (ℕ_discrete (w % 256) 0))
  where
    go : {number place : ℕ} → unword ws w ≡ refused number place → Dec (w % 256 ≡ 0) → 0 < w % 256
    go {number} {place} e (yes z) = absurd (values_refused (unfields ws (w / 256)) number place (sym (unword_values ws w z) ∙ e))
    go e (no f) = omega arith

pub refusal_kept : RefusalKept
refusal_kept ws number place h l b =
    let c : Carried number place = record { given = h; byte = l; bits = b } in
    (word_kept ws (refused number place) c, refused_low ws number place c)

-- ---- the calls

pub ask_kept : AskKept
ask_kept n k u a v P = let t = ask_told n k u a v P in let h = ask_held n k u a v P in (word_kept (1 ∷ []) t h, word_low (1 ∷ []) (omega arith) t h)

pub alike_kept : AlikeKept
alike_kept n k u v m = let t = alike_told n k u v m in let h = alike_held n k u v m in (word_kept (1 ∷ []) t h, word_low (1 ∷ []) (omega arith) t h)

pub build_kept : BuildKept
build_kept n k m x y = let t = build_told n k m x y in let h = build_held n k m x y in (word_kept (8 ∷ []) t h, word_low (8 ∷ []) (omega arith) t h)

-- ---- the judge: bits 8 to 15 tell whether two fields follow or three

abbrev wide : List ℕ
wide = 8 ∷ 16 ∷ 8 ∷ []

held_kept : {t : Told} → JudgeHeld t → unword (judge_fields (word wide t)) (word wide t) ≡ t
unfolding word fields judge_fields
held_kept (enforcing d h) =
    rw (eq-eqb (256 * (0 + 2 ^ 8 * (d + 2 ^ 16 * 0)) / 256 % 256) 0 (omega arith))
    (word_kept (8 ∷ 16 ∷ []) (values (0 ∷ d ∷ [])) (more (omega arith) (more h none)))
held_kept (conflicting i x h l) =
    rw (ne_eqb (256 * (1 + 2 ^ 8 * (i + 2 ^ 16 * (x + 2 ^ 8 * 0))) / 256 % 256) 0 (λ e. omega arith))
    (word_kept wide (values (1 ∷ i ∷ x ∷ [])) (more (omega arith) (more h (more l none))))
held_kept (refusing number place h) = word_kept (judge_fields (number + 256 * place)) (refused number place) h

held_low : {t : Told} → JudgeHeld t → word wide t < 2 ^ 40
unfolding word fields
held_low (enforcing d h) = omega arith
held_low (conflicting i x h l) = omega arith
held_low (refusing number place h) = omega (arith, h.byte, h.bits)

pub judge_held : (n k : ℕ) (m : List ℕ) (P : Policy) → JudgeHeld (judge_told n k m P)
unfolding judge_told verdict judge_rules
judge_held n k m P = go (checked (judge_rules n k m P)) refl (ltb i (n * k * n)) refl
  where
    i : ℕ
    i = conflict n k m P

    go : (c : Checked) → checked (judge_rules n k m P) ≡ c → (b : Bool) → ltb i (n * k * n) ≡ b
        → JudgeHeld (tell c (cond b (1 ∷ i ∷ get_or m i 0 ∷ []) (0 ∷ P.domains ∷ [])))
    go (Ok _) e true f =
        let J = judgeable n k m P e in
        let h = ltb-true i (n * k * n) f in
        let l = J.0.laid in
        conflicting i (get_or m i 0) (omega (arith, (small l.entities l.rights l.entities).cells)) (omega (arith, J.0.below i (omega (arith, l.size))))
    go (Ok _) e false f = enforcing P.domains (omega (arith, (judgeable n k m P e).1.few))
    go (Err r) e b f = refusing _ _ (gives_bad RefusalCarried (judge_rules n k m P) (judge_carried n k m P) r e)

pub judge_kept : JudgeKept
judge_kept n k m P = let h = judge_held n k m P in (held_kept h, held_low h)
