-- What is claimed of the program's answers, and of any result that meets the promise of `weave_bytes` (01, "The two files"). Assumes nothing.
use Rattle.files.specs.Write.{Wrote}
use Rattle.files.specs.Read.{of_matrix}
use Rattle.std.specs.Prelude.{◌≡◌, ◌↔◌, ◌⊎◌, List, [], ◌∷◌, ◌++◌, ℕ, ◌*◌, ◌≤◌, ◌<◌, length, get_or, take, drop, Ok, Err}
use Rattle.model.specs.declared.Fault.TheVariants.{Unlogged, Room, FileForm}
use Rattle.model.specs.declared.Refusal.{Refusal}
use Rattle.model.specs.Matrix.{Holds}
use Rattle.model.specs.Policy.{written}
use Rattle.model.specs.Refusal.{refusal, cell_refusal}
use Rattle.layout.specs.Text.{line}
use Rattle.layout.specs.Files.{MatrixFile, PolicyFile, MatrixFormed, PolicyFormed, Malformed}
use Rattle.build.specs.Build.{built_from, Builds}
use Rattle.filed.specs.Files.{ReadsMatrix, WritesPolicy}
use Rattle.woven.specs.Weave.{five, refusal_text, Woven, longest, Weaves}

-- ---- the answers

-- every input has an answer, and one only
abbrev pub WovenTotal : Type 0
WovenTotal = (s : List ℕ) → (t : List ℕ) × Woven s t

abbrev pub WovenUnique : Type 0
WovenUnique = (s t t' : List ℕ) → Woven s t → Woven s t' → t ≡ t'

-- demand 2: the file of a full matrix is answered by the file of its built policy
abbrev pub WovenPolicy : Type 0
WovenPolicy = (n k : ℕ) (m s t : List ℕ) → MatrixFile n k m s → Holds n k 2 m → Woven s t → PolicyFile n k (built_from n k m) t

-- that of a matrix with gaps by the line of 4 with the lowest unlogged cell, and an input that is no file by that of 12 with its place
abbrev pub WovenRefused : Type 0
WovenRefused = (s t : List ℕ) (i : ℕ) → Woven s t
    → ((n k : ℕ) (m : List ℕ) → MatrixFile n k m s → i < length m → get_or m i 0 ≡ 2 → ((j : ℕ) → j < i → get_or m j 0 < 2)
    → t ≡ refusal_text (cell_refusal Unlogged k n i))
    × (Malformed MatrixFormed s i → t ≡ refusal_text (refusal FileForm i))

-- and there are no others: an answer is a policy's file, or begins with NO12 or NO04, and a place of five digits follows
abbrev pub WovenOnly : Type 0
WovenOnly = (s t : List ℕ) → Woven s t
    → PolicyFormed t ⊎ ((p : ℕ) × (p < 100000) × ((t ≡ line (78 ∷ 79 ∷ 49 ∷ 50 ∷ five p)) ⊎ (t ≡ line (78 ∷ 79 ∷ 48 ∷ 52 ∷ five p))))

-- through the calls: the read, the build and the write, over buffers with room for every matrix and policy, give the answer, and where
-- one of them refuses, the answer is the line of its refusal
abbrev pub WovenCalls : Type 0
WovenCalls = (s x x' : List ℕ) → 32768 ≤ length x
    → ((r : Refusal) → ReadsMatrix s x (Err r) x' → Woven s (refusal_text r))
    × ((n k : ℕ) → ReadsMatrix s x (Ok (of_matrix n k)) x' → (a b a' b' : List ℕ) → 64 ≤ length a → 32768 ≤ length b
    → ((r : Refusal) → Builds n k (take (n * k * n) x') a b (Err r) a' b' → Woven s (refusal_text r))
    × ((d size : ℕ) (f f' : List ℕ) → Builds n k (take (n * k * n) x') a b (Ok d) a' b'
    → WritesPolicy n k (written n k d a' b') f (Ok size) f' → Woven s (take size f')))

-- no more than 33,098 bytes are taken into account: the answer to these is the answer to all
abbrev pub WovenCut : Type 0
WovenCut = (s t : List ℕ) → Woven (take 33098 s) t ↔ Woven s t

-- document 01's whole example, and the file of its P10
abbrev pub example : List ℕ
example =
    line (77 ∷ 88 ∷ 48 ∷ 51 ∷ 49 ∷ [])
    ++ (line (82 ∷ 87 ∷ 48 ∷ 48 ∷ 48 ∷ 48 ∷ 49 ∷ [])
    ++ (line (82 ∷ 87 ∷ 48 ∷ 49 ∷ 48 ∷ 48 ∷ 49 ∷ []) ++ (line (82 ∷ 87 ∷ 48 ∷ 50 ∷ 48 ∷ 48 ∷ 48 ∷ []) ++ line (90 ∷ 90 ∷ []))))

abbrev pub p10 : List ℕ
p10 =
    line (77 ∷ 88 ∷ 48 ∷ 51 ∷ 49 ∷ [])
    ++ (line (82 ∷ 87 ∷ 48 ∷ 48 ∷ 49 ∷ 42 ∷ 42 ∷ [])
    ++ (line (82 ∷ 87 ∷ 48 ∷ 49 ∷ 42 ∷ 42 ∷ 42 ∷ []) ++ (line (82 ∷ 87 ∷ 48 ∷ 50 ∷ 42 ∷ 42 ∷ 48 ∷ []) ++ line (90 ∷ 90 ∷ []))))

-- they are answered by PD03102 and its lines, and by NO0400001
abbrev pub WovenExample : Type 0
WovenExample = (t : List ℕ)
    → (Woven example t → t ≡ line (80 ∷ 68 ∷ 48 ∷ 51 ∷ 49 ∷ 48 ∷ 50 ∷ [])
    ++ (line (65 ∷ 83 ∷ 48 ∷ 48 ∷ 48 ∷ 48 ∷ 48 ∷ 49 ∷ [])
    ++ (line (84 ∷ 66 ∷ 48 ∷ 48 ∷ 48 ∷ 49 ∷ []) ++ (line (84 ∷ 66 ∷ 48 ∷ 49 ∷ 48 ∷ 48 ∷ []) ++ line (90 ∷ 90 ∷ [])))))
    × (Woven p10 t → t ≡ line (78 ∷ 79 ∷ 48 ∷ 52 ∷ 48 ∷ 48 ∷ 48 ∷ 48 ∷ 49 ∷ []))

-- ---- the call

-- demand 2: over an output with room for every answer it writes the answer, tells its length, and later bytes stay
abbrev pub WeaveWrites : Type 0
WeaveWrites = (s x x' : List ℕ) (r : Wrote) → Weaves s x r x' → longest ≤ length x
    → (size : ℕ) × (r ≡ Ok size) × Woven s (take size x') × (drop size x' ≡ drop size x)

-- demand 1: over any other it refuses with 11, and the output holds what it held
abbrev pub WeaveKeeps : Type 0
WeaveKeeps = (s x x' : List ℕ) (r : Wrote) → Weaves s x r x' → length x < longest → (r ≡ Err (refusal Room longest)) × (x' ≡ x)

-- two results that meet the promise are equal, and so are the outputs; for two inputs too that begin with the same 33,098 bytes
abbrev pub WeaveUnique : Type 0
WeaveUnique = (s x x' x'' : List ℕ) (r q : Wrote) → Weaves s x r x' → Weaves s x q x'' → (r ≡ q) × (x' ≡ x'')

abbrev pub WeaveAlone : Type 0
WeaveAlone = (s s' x x' x'' : List ℕ) (r q : Wrote) → take 33098 s ≡ take 33098 s' → Weaves s x r x' → Weaves s' x q x'' → (r ≡ q) × (x' ≡ x'')
