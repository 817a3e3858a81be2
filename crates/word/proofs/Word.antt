-- The word loses nothing: its remainder by 256 is the refusal's number, which is 0 only where nothing is refused; and values that have
-- room in their fields are the digits of what is above. Assumes nothing.
use mathlib.Core.Path.{◌≡◌, refl, ap, ap₂, ◌∙◌}
use mathlib.Core.List.{List, [], ◌∷◌}
use Prim.Native.Nat.{ℕ, ◌+◌, ◌*◌, ◌/◌, ◌%◌, ◌^◌, ◌≤◌, ◌<◌}
use native.Mathlib.Nat.{mul_comm, add_comm, mod-eq_of_lt}
use native.Mathlib.Omega.{arith}
use borrow.Author.Tests.{eq-eqb, ne_eqb}
use lib.Arith.{digits_lt, digits_div, digits_mod}
use Rattle.model.specs.declared.Refusal.{Refusal}
use Rattle.model.specs.Refusal.{Checked, Rule, number_of, checked, Told, values, refused, tell}
use Rattle.std.specs.Prelude.{Result, Ok, Err, MatchResult}
use Rattle.model.proofs.Groups.{Gives, gives_bad}
use Rattle.word.specs.Word.{fields, unfields, place_bits, word, unword}
use Rattle.word.specs.Held.{Carried, Fit, none, more, Held}

-- a sum's low digit, and what is above it
turned : (b x f : ℕ) → x + b * f ≡ f * b + x
turned b x f = add_comm x (b * f) ∙ ap (λ (y : ℕ). y + x) (mul_comm b f)

low : (b x f : ℕ) → x < b → (x + b * f) % b ≡ x
low b x f h = ap (λ (y : ℕ). y % b) (turned b x f) ∙ digits_mod f h

high : (b x f : ℕ) → x < b → (x + b * f) / b ≡ f
high b x f h = ap (λ (y : ℕ). y / b) (turned b x f) ∙ digits_div f h

pub fit_first : {w x : ℕ} {ws vs : List ℕ} → Fit (w ∷ ws) (x ∷ vs) → x < 2 ^ w
fit_first (more h f) = h

pub fit_rest : {w x : ℕ} {ws vs : List ℕ} → Fit (w ∷ ws) (x ∷ vs) → Fit ws vs
fit_rest (more h f) = f

fields_kept : (ws vs : List ℕ) → Fit ws vs → unfields ws (fields ws vs) ≡ vs
unfolding fields unfields
fields_kept [] [] none = refl
fields_kept [] (x ∷ vs) h = elim h [ ]
fields_kept (w ∷ ws) [] h = elim h [ ]
fields_kept (w ∷ ws) (x ∷ vs) (more h f) =
    ap₂ (λ (y : ℕ) (ys : List ℕ). y ∷ ys) (low (2 ^ w) x (fields ws vs) h)
    (ap (unfields ws) (high (2 ^ w) x (fields ws vs) h) ∙ fields_kept ws vs f)

module _ (ws : List ℕ) (y : ℕ) where
  pub unword_values : y % 256 ≡ 0 → unword ws y ≡ values (unfields ws (y / 256))
  unfolding unword
  unword_values e = rw (eq-eqb (y % 256) 0 e)

  pub unword_refused : ¬ (y % 256 ≡ 0) → unword ws y ≡ refused (y % 256) (y / 256 % 2 ^ place_bits)
  unfolding unword
  unword_refused f = rw (ne_eqb (y % 256) 0 f)

pub word_kept : (ws : List ℕ) (t : Told) → Held ws t → unword ws (word ws t) ≡ t
unfolding word
word_kept ws (values vs) h =
    unword_values ws (256 * fields ws vs) (omega arith)
    ∙ ap (λ (y : ℕ). values (unfields ws y)) (above (fields ws vs)) ∙ ap values (fields_kept ws vs h)
  where
    above : (f : ℕ) → 256 * f / 256 ≡ f
    above f = omega arith
word_kept ws (refused number place) h =
    unword_refused ws (number + 256 * place) (λ e. omega (arith, h.given, p))
    ∙ (λ i. refused (p i) (q i))
  where
    p : (number + 256 * place) % 256 ≡ number
    p = low 256 number place h.byte

    q : (number + 256 * place) / 256 % 2 ^ place_bits ≡ place
    q = ap (λ (z : ℕ). z % 2 ^ place_bits) (high 256 number place h.byte) ∙ mod-eq_of_lt h.bits

-- ---- the upper bits are 0

-- how many values the fields have together
abbrev pub room : List ℕ → ℕ
room [] = 1
room (w ∷ ws) = room ws * 2 ^ w

fields_low : (ws vs : List ℕ) → Fit ws vs → fields ws vs < room ws
unfolding fields
fields_low [] [] none = omega arith
fields_low [] (x ∷ vs) h = elim h [ ]
fields_low (w ∷ ws) [] h = elim h [ ]
fields_low (w ∷ ws) (x ∷ vs) (more h f) = rw (turned (2 ^ w) x (fields ws vs)) (digits_lt (fields_low ws vs f) h)

-- a refusal leaves the upper half 0, and so do fields of at most 24 bits together
pub refused_low : (ws : List ℕ) (number place : ℕ) → Carried number place → word ws (refused number place) < 2 ^ 32
unfolding word
refused_low ws number place h = omega (arith, h.byte, h.bits)

pub word_low : (ws : List ℕ) → room ws ≤ 2 ^ 24 → (t : Told) → Held ws t → word ws t < 2 ^ 32
unfolding word
word_low ws b (values vs) h = omega (arith, fields_low ws vs h)
word_low ws b (refused number place) h = refused_low ws number place h

-- ---- what has room

-- one value that has room in 8 bits has room in 24
pub held_wider : (t : Told) → Held (8 ∷ []) t → Held (24 ∷ []) t
held_wider (values []) h = elim h [ ]
held_wider (values (x ∷ [])) h = more (omega (arith, fit_first h)) none
held_wider (values (x ∷ y ∷ vs)) h = let g = fit_rest h in elim g [ ]
held_wider (refused number place) h = h

-- a refusal that a word can carry
abbrev pub RefusalCarried : Refusal → Type 0
RefusalCarried r = Carried (number_of r.fault) r.place

-- what is told has room where the values have, and where each refusal has
pub told_held : (ws : List ℕ) (rs : List Rule) (vs : List ℕ) → Gives RefusalCarried rs → (checked rs ≡ Ok tt → Fit ws vs) → Held ws (tell (checked rs) vs)
told_held ws rs vs g f = go (checked rs) refl
  where
    go : (c : Checked) → checked rs ≡ c → Held ws (tell c vs)
    go (Ok _) e = f e
    go (Err r) e = gives_bad RefusalCarried rs g r e

-- ---- the word of an answer

-- what `answer_word` asks, case by case
pub asked : {A : Type 0} (answer : Result A Refusal) {P : A → Type 0} {Q : Refusal → Type 0}
    → ((x : A) → answer ≡ Ok x → P x) → ((r : Refusal) → answer ≡ Err r → Q r) → MatchResult answer P Q
asked (Ok x) f g = f x refl
asked (Err r) f g = g r refl
