-- The words of the calls, and that they lose nothing (include/soroluzko.h). Assumes nothing.
use Rattle.std.specs.Prelude.{◌≡◌, ◌↔◌, cond, List, [], ◌∷◌, ℕ, ◌/◌, ◌%◌, ◌^◌, ◌<◌, eqb}
use Rattle.model.specs.Policy.{Policy}
use Rattle.model.specs.Refusal.{refused}
use Rattle.ask.specs.Ask.{ask_told}
use Rattle.alike.specs.Compare.{alike_told}
use Rattle.build.specs.Build.{build_told}
use Rattle.judge.specs.Judge.{judge_told}
use Rattle.word.specs.Word.{word, unword, Kept}

-- ask: bit 8 is the grant
abbrev pub ask_word : ℕ → ℕ → ℕ → ℕ → ℕ → Policy → ℕ
ask_word n k u a v P = word (1 ∷ []) (ask_told n k u a v P)

-- alike: bit 8 is the answer
abbrev pub alike_word : ℕ → ℕ → ℕ → ℕ → List ℕ → ℕ
alike_word n k u v m = word (1 ∷ []) (alike_told n k u v m)

-- build, over buffers of x and y bytes: bits 8 to 15 are the number of domains
abbrev pub build_word : ℕ → ℕ → List ℕ → ℕ → ℕ → ℕ
build_word n k m x y = word (8 ∷ []) (build_told n k m x y)

-- judge: bits 8 to 15 are 0 and the next 16 the number of domains; or 1, the next 16 the cell and the 8 above the logged value
abbrev pub judge_word : ℕ → ℕ → List ℕ → Policy → ℕ
judge_word n k m P = word (8 ∷ 16 ∷ 8 ∷ []) (judge_told n k m P)

-- what fields a word of the judge has, by its bits 8 to 15
unfoldable pub judge_fields : ℕ → List ℕ
judge_fields w = cond (eqb (w / 256 % 256) 0) (8 ∷ 16 ∷ []) (8 ∷ 16 ∷ 8 ∷ [])

-- a word tells of a refusal exactly if its low byte is not 0, whatever its fields are: that is the number, the 24 bits above it the place
abbrev pub RefusalTold : Type 0
RefusalTold = (ws : List ℕ) (w : ℕ) → (0 < w % 256) ↔ (unword ws w ≡ refused (w % 256) (w / 256 % 16777216))

-- so every number of a byte but 0, with every place of 24 bits, is kept
abbrev pub RefusalKept : Type 0
RefusalKept = (ws : List ℕ) (number place : ℕ) → 0 < number → number < 256 → place < 16777216 → Kept ws 32 (refused number place)

-- nothing is lost, and the upper bits are 0
abbrev pub AskKept : Type 0
AskKept = (n k u a v : ℕ) (P : Policy) → Kept (1 ∷ []) 32 (ask_told n k u a v P)

abbrev pub AlikeKept : Type 0
AlikeKept = (n k u v : ℕ) (m : List ℕ) → Kept (1 ∷ []) 32 (alike_told n k u v m)

abbrev pub BuildKept : Type 0
BuildKept = (n k : ℕ) (m : List ℕ) (x y : ℕ) → Kept (8 ∷ []) 32 (build_told n k m x y)

abbrev pub JudgeKept : Type 0
JudgeKept = (n k : ℕ) (m : List ℕ) (P : Policy)
    → (unword (judge_fields (judge_word n k m P)) (judge_word n k m P) ≡ judge_told n k m P) × (judge_word n k m P < 2 ^ 40)
