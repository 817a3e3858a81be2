-- The claims on the program's answers. A file is that of one matrix, or has one place, so an input has one answer; it has one, since the layout's
-- `reach` finds which; and no file is longer than 33,097 bytes, so that one byte more shows every fault. Assumes nothing.
use mathlib.Core.Path.{◌≡◌, refl, sym, ap, ◌∙◌, subst}
use mathlib.Core.Logic.{◌⊎◌, inl, inr}
use mathlib.Core.List.{List, [], ◌∷◌}
use Prim.Native.Nat.{ℕ, ◌≤◌, ◌<◌}
use native.Mathlib.Decide.{dec_lt}
use native.Mathlib.Omega.{arith}
use borrow.Author.Tests.{lt-ltb, eq-eqb, ne_eqb}
use lib.Dec.{T, eqb, ltb}
use lib.ListN.{length, get_or, take}
use Rattle.model.specs.declared.Fault.TheVariants.{Unlogged, Room, FileForm}
use Rattle.model.specs.Refusal.{Checked, number_of, checked, refusal, cell_refusal, single}
use Rattle.std.specs.Prelude.{Ok, Err}
use Rattle.model.specs.Below.{all, any, count, first, tab}
use Rattle.model.specs.Matrix.{cell}
use Rattle.model.specs.Alike.{rows_test, alike_test}
use Rattle.model.specs.Classes.{smallest, is_smallest, classes, class_of, member_of}
use Rattle.model.specs.Policy.{written, domain_of}
use Rattle.model.specs.Built.{table_of, built}
use Rattle.model.specs.Rules.{lowest, lowest_rule, matrix_rules, full_rules, room_rules}
use Rattle.model.proofs.Below.{first_is}
use Rattle.model.proofs.Places.{small}
use Rattle.model.proofs.Groups.{told_apart, single_one, checked_applies, told_fine, tell_fine, tell_bad, held_bad}
use Rattle.model.proofs.Rules.{lowest_bad, matrix_fine, room_pass, room_fine, whole_pass}
use Rattle.layout.specs.Text.{each, line, matrix_text, policy_text}
use Rattle.layout.specs.Files.{MatrixFile, PolicyFile, MatrixFormed, PolicyFormed}
use Rattle.layout.specs.Layout.{reach, matrix_layout}
use Rattle.layout.proofs.Places.{place_one}
use Rattle.layout.proofs.Files.{matrix_formed, matrix_malformed}
use Rattle.layout.proofs.Contents.{matrix_one, policy_short}
use Rattle.layout.proofs.Faults.{place_short, cut_malformed, uncut_malformed, cut_formed, uncut_formed}
use Rattle.build.specs.Build.{built_from}
use Rattle.files.specs.Write.{wrote_told, Written, Wrote}
use Rattle.filed.proofs.Read.{first_bytes, later_bytes, held_over}
use Rattle.filed.proofs.Write.{write_unique, file_written}
use Rattle.woven.specs.Weave.{five, refusal_text, answer_text, Woven, formed, malformed, longest, Weaves}
use Rattle.woven.specs.Claims.{WovenTotal, WovenUnique, WovenPolicy, WovenRefused, WovenOnly, WovenCalls, WovenCut, example, p10, WovenExample}
use Rattle.woven.specs.Claims.{WeaveWrites, WeaveKeeps, WeaveUnique, WeaveAlone}
use Rattle.woven.proofs.Answers.{formed-short, whole_four, built-within, answer-built, answer-refused, four_at}
use Rattle.woven.proofs.Answers.{built-stands, built-refused, read-file, read-refused}

-- ---- the answers

pub woven_total : WovenTotal
woven_total s = go (dec_lt (length s) (reach matrix_layout s))
  where
    go : Dec (length s < reach matrix_layout s) → (t : List ℕ) × Woven s t
    go (yes h) = let (n, k, m, f) = matrix_formed s (reach matrix_layout s) refl h in (answer_text n k m, formed n k m f refl)
    go (no h) = let p = reach matrix_layout s in (refusal_text (refusal FileForm p), malformed p (matrix_malformed s p refl (omega arith)) refl)

pub woven_unique : WovenUnique
woven_unique s t t' (formed n k m f e) (formed n' k' m' g q) =
    let (a, b, c) = matrix_one f g in
    e ∙ (λ i. answer_text (a i) (b i) (c i)) ∙ sym q
woven_unique s t t' (formed n k m f e) (malformed p w q) = absurd (w.not (n, k, m, f))
woven_unique s t t' (malformed p w e) (formed n k m f q) = absurd (w.not (n, k, m, f))
woven_unique s t t' (malformed p w e) (malformed o z q) = e ∙ ap (λ (i : ℕ). refusal_text (refusal FileForm i)) (place_one w.place z.place) ∙ sym q

-- the answer to the file of m
answered : {n k : ℕ} {m s t : List ℕ} → MatrixFile n k m s → Woven s t → t ≡ answer_text n k m
answered {n} {k} {m} {s} {t} f w = woven_unique s t (answer_text n k m) w (formed n k m f refl)

policy_answered : {n k : ℕ} {m s t : List ℕ} → MatrixFile n k m s → checked (full_rules n k m) ≡ Ok tt → t ≡ answer_text n k m
    → PolicyFile n k (built_from n k m) t
policy_answered {n} {k} {m} {s} {t} f fine e = record { within = built-within f.matrix fine; text = e ∙ answer-built f.matrix fine }

pub woven_policy : WovenPolicy
woven_policy n k m s t f g w = policy_answered f (sym (whole_four f.matrix) ∙ whole_pass n k m g) (answered f w)

-- 4 with the lowest unlogged cell
four_bad : (n k : ℕ) (m : List ℕ) (i : ℕ) → i < length m → get_or m i 0 ≡ 2 → ((j : ℕ) → j < i → get_or m j 0 < 2)
    → Err (cell_refusal Unlogged k n i) ≡ checked (full_rules n k m)
unfolding full_rules lowest
four_bad n k m i h e b = lowest_bad (eqb 2) m (cell_refusal Unlogged k n) i (sym lowest_is) h
  where
    lowest_is : first (length m) (λ j. eqb 2 (get_or m j 0)) ≡ i
    lowest_is = first_is (length m) (λ j. eqb 2 (get_or m j 0)) i h (subst T (sym (eq-eqb 2 (get_or m i 0) (sym e))) tt)
        (λ j l. let low = b j l in subst T (ne_eqb 2 (get_or m j 0) (λ q. omega arith)))

pub woven_refused : WovenRefused
woven_refused s t i w = (gap, λ z. woven_unique s t (refusal_text (refusal FileForm i)) w (malformed i z refl))
  where
    gap : (n k : ℕ) (m : List ℕ) → MatrixFile n k m s → i < length m → get_or m i 0 ≡ 2 → ((j : ℕ) → j < i → get_or m j 0 < 2)
        → t ≡ refusal_text (cell_refusal Unlogged k n i)
    gap n k m f h e b = answered f w ∙ answer-refused f.matrix (cell_refusal Unlogged k n i) (sym (four_bad n k m i h e b))

pub woven_only : WovenOnly
unfolding refusal_text refusal cell_refusal
woven_only s t (malformed p w e) = inr (p, omega (arith, place_short MatrixFormed 33097 formed-short w.place), inl e)
woven_only s t (formed n k m f e) = go (checked (full_rules n k m)) refl
  where
    go : (c : Checked) → checked (full_rules n k m) ≡ c
        → PolicyFormed t ⊎ ((p : ℕ) × (p < 100000) × ((t ≡ line (78 ∷ 79 ∷ 49 ∷ 50 ∷ five p)) ⊎ (t ≡ line (78 ∷ 79 ∷ 48 ∷ 52 ∷ five p))))
    go (Ok _) q = inl (n, k, built_from n k m, policy_answered f q e)
    go (Err r) q =
        let (i, h, z) = four_at f.matrix r q in
        let l = f.matrix.laid in
        inr (i, omega (arith, h, l.size, (small l.entities l.rights l.entities).cells), inr (e ∙ answer-refused f.matrix r q ∙ ap refusal_text z))

pub woven_calls : WovenCalls
woven_calls s x x' room = (
  λ r e. (read-refused s x x' r refl room e).1,
  λ n k e a b a' b' h l.
      let f = read-file s x x' n k refl e in (
        λ r w. formed n k _ f (built-refused f.matrix a b a' b' h l r refl w).1,
        λ d size g g' w z.
            let wrote = (file_written n k size g g').1 (written n k d a' b') z in
            formed n k _ f (wrote.0.text ∙ (built-stands f.matrix a b a' b' h l d refl w).answer),
      ),
)

pub woven_cut : WovenCut
woven_cut s t = (long, short)
  where
    long : Woven (take 33098 s) t → Woven s t
    long (formed n k m f e) = formed n k m (subst (MatrixFile n k m) (uncut_formed MatrixFormed 33097 formed-short s (n, k, m, f)) f) e
    long (malformed p w e) = malformed p (uncut_malformed MatrixFormed 33097 formed-short s p w) e

    short : Woven s t → Woven (take 33098 s) t
    short (formed n k m f e) = formed n k m (subst (MatrixFile n k m) (sym (cut_formed MatrixFormed 33097 formed-short s (n, k, m, f))) f) e
    short (malformed p w e) = malformed p (cut_malformed MatrixFormed 33097 formed-short s p w) e

-- the file of nine cells of three entities
nine : (m s : List ℕ) → length m ≡ 9 → checked (matrix_rules 3 1 m) ≡ Ok tt → s ≡ matrix_text 3 1 m → MatrixFile 3 1 m s
nine m s size fine text = record {
  matrix = record {
    laid = record { entities = omega arith; right = omega arith; rights = omega arith; size = size };
    below = (matrix_fine 3 1 m fine).below;
  };
  text = text;
}

pub woven_example : WovenExample
unfolding matrix_text policy_text each refusal_text answer_text matrix_rules full_rules lowest_rule lowest cell_refusal all any count first
    tab cell rows_test alike_test
    smallest is_smallest classes class_of member_of domain_of table_of built
woven_example t = (λ w. answered (nine full example refl refl refl) w, λ w. answered (nine part p10 refl refl refl) w)
  where
    full : List ℕ
    full = 0 ∷ 0 ∷ 1 ∷ 0 ∷ 0 ∷ 1 ∷ 0 ∷ 0 ∷ 0 ∷ []

    part : List ℕ
    part = 1 ∷ 2 ∷ 2 ∷ 2 ∷ 2 ∷ 2 ∷ 2 ∷ 2 ∷ 0 ∷ []

-- no answer is longer than its room
pub woven_short : {s t : List ℕ} → Woven s t → length t ≤ longest
unfolding refusal_text
woven_short {s} {t} (malformed p w e) = omega (arith, ap length e)
woven_short {s} {t} (formed n k m f e) = go (checked (full_rules n k m)) refl
  where
    go : (c : Checked) → checked (full_rules n k m) ≡ c → length t ≤ longest
    go (Ok _) q = policy_short (policy_answered f q e)
    go (Err r) q = omega (arith, ap length (e ∙ answer-refused f.matrix r q))

-- ---- the call

pub weave_writes : WeaveWrites
weave_writes s x x' r (t, w, z) h =
    let fine = room_pass Room (length x) longest h in
    let e = held_over (checked (room_rules Room (length x) longest)) t x x' fine z.left in (
      length t,
      told_apart single single_one r (Ok (length t)) (z.told ∙ sym (tell_fine (checked (room_rules Room (length x) longest)) fine (length t ∷ []))),
      subst (Woven s) (sym (first_bytes t x x' (length t) refl e)) w,
      later_bytes t x x' (length t) refl e,
    )

pub weave_keeps : WeaveKeeps
unfolding room_rules
weave_keeps s x x' r (t, w, z) h =
    let c = checked (room_rules Room (length x) longest) in
    let bad : c ≡ Err (refusal Room longest) = checked_applies (ltb (length x) longest) (refusal Room longest) (Ok tt) (lt-ltb (length x) longest h) in (
      told_apart single single_one r (Err (refusal Room longest)) (z.told ∙ sym (tell_bad c (refusal Room longest) bad (length t ∷ []))),
      z.left ∙ sym (held_bad c (refusal Room longest) bad t x),
    )

pub weave_unique : WeaveUnique
weave_unique s x x' x'' r q (t, w, z) (t', w', z') =
    let rules = room_rules Room (length x) longest in
    let same = woven_unique s t' t w' w in
    write_unique rules t x x' x'' r q z (subst (λ (l : List ℕ). Written rules l x (wrote_told q) x'') same z')

pub weave_alone : WeaveAlone
weave_alone s s' x x' x'' r q e (t, w, z) =
    weave_unique s' x x' x'' r q (t, (woven_cut s' t).0 (subst (λ (l : List ℕ). Woven l t) e ((woven_cut s t).1 w)), z)

-- the length that is told is that of bytes of the output
pub weave_size : {s x x' : List ℕ} {r : Wrote} (size : ℕ) → r ≡ Ok size → Weaves s x r x' → size ≤ length x
weave_size {s} {x} {x'} {r} size e (t, w, z) =
    let rules = room_rules Room (length x) longest in
    let (fine, q) = told_fine (checked rules) (size ∷ []) (length t ∷ []) (sym (ap wrote_told e) ∙ z.told) in
    let same : size ≡ length t = cc in
    omega (arith, same, woven_short w, room_fine Room (length x) longest fine)
