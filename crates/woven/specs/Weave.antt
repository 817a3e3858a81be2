-- What the program answers to an input: the built policy's file, or the line of a refusal (01, "The two files"). Assumes nothing.
use Rattle.std.specs.Prelude.{◌≡◌, List, [], ◌∷◌, ◌++◌, ℕ, ◌/◌, ◌%◌, length, Ok, Err}
use Rattle.model.specs.declared.Fault.TheVariants.{Room, FileForm}
use Rattle.model.specs.declared.Refusal.{Refusal}
use Rattle.model.specs.Refusal.{number_of, Checked, checked, refusal, over}
use Rattle.model.specs.Rules.{full_rules, room_rules}
use Rattle.layout.specs.Text.{one, two, line, policy_text}
use Rattle.layout.specs.Files.{MatrixFile, MatrixFormed, Malformed}
use Rattle.build.specs.Build.{built_from}
use Rattle.files.specs.Write.{wrote_told, Written, Wrote}

-- the mark of a refusal's line
abbrev pub NO : List ℕ
NO = 78 ∷ 79 ∷ []

-- a number below 100,000, with its leading zeros
abbrev pub five : ℕ → List ℕ
five x = one (x / 10000) ++ (two (x / 100 % 100) ++ two (x % 100))

-- the line of a refusal: its number in two digits, its place in five
unfoldable pub refusal_text : Refusal → List ℕ
refusal_text r = line (NO ++ (two (number_of r.fault) ++ five r.place))

-- the line of the refusal where there is one, and the text otherwise
abbrev pub line_or : Checked → List ℕ → List ℕ
line_or (Ok _) t = t
line_or (Err r) t = refusal_text r

-- the answer to the matrix m: 4 where a cell is unlogged, and the file of the built policy otherwise
unfoldable pub answer_text : ℕ → ℕ → List ℕ → List ℕ
answer_text n k m = line_or (checked (full_rules n k m)) (policy_text n k (built_from n k m))

-- the answer to the input s is t. The input is the file of a matrix; or 12 applies
pub data Woven (s t : List ℕ) : Type 0 where
  formed : (n k : ℕ) (m : List ℕ) → MatrixFile n k m s → t ≡ answer_text n k m → Woven s t
  malformed : (p : ℕ) → Malformed MatrixFormed s p → t ≡ refusal_text (refusal FileForm p) → Woven s t

-- the bytes of the longest answer
abbrev pub longest : ℕ
longest = 33230

-- the answer to s was put at the start of x, and its length told
pub record Wove (s x : List ℕ) (size : ℕ) (x' : List ℕ) : Type 0 where
  pub answer : List ℕ
  pub woven : Woven s answer
  pub told : size ≡ length answer
  pub left : x' ≡ over answer x

-- the promise: the answer to s is written to the output x, which becomes x'; or 11 applies, whatever s is
abbrev pub Weaves : List ℕ → List ℕ → Wrote → List ℕ → Type 0
Weaves s x r x' = (t : List ℕ) × Woven s t × Written (room_rules Room (length x) longest) t x (wrote_told r) x'
