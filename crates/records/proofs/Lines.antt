-- Where a reader of a record, of the sizes and of the last line stops: pieces one behind the other, each with the exit where the file does
-- not fit. Assumes nothing.
use mathlib.Core.Path.{◌≡◌, refl, sym, ◌∙◌}
use mathlib.Core.List.{List, [], ◌∷◌}
use Prim.Native.Nat.{ℕ, suc, ◌+◌, ◌≤◌, ◌<◌}
use native.Mathlib.Numerals.{add-one}
use native.Mathlib.Omega.{arith}
use lib.ListN.{length, drop_of_length-le}
use lib.Seq.{drop-cons}
use Rattle.layout.specs.Text.{ZZ}
use Rattle.layout.specs.Layout.{Layout, end, reach, text, cells, digit, number, record_of, sizes, close}
use Rattle.readers.specs.declared.Reader.{Reader}
use Rattle.readers.specs.Pieces.{ahead, Whole, Misfit}
use Rattle.readers.proofs.Steps.{behind}

-- the line feed
abbrev feed : Layout → Layout
feed F = text (10 ∷ []) F

-- ---- a record: its mark, its number, its cells, the line feed

module _ (mark : List ℕ) (lim w u : ℕ) (m : length mark ≡ 2) where
  -- what is to follow the mark
  abbrev numbered : Layout → Layout
  numbered F = number u (suc u) (λ _. cells lim w (feed F))

  pub record_unnamed : {r : Reader} {p : ℕ} → Misfit r (length mark) p (text mark) → Misfit r (w + 5) p (record_of mark lim w u)
  unfolding record_of
  record_unnamed f = behind numbered refl f (omega arith) (λ F. refl)

  module _ {r r₁ : Reader} (e₁ : r₁.file.now ≡ r.file.now) (p₁ : Whole r r₁ (length mark) (text mark) (λ F. F)) where
    pub record_unnumbered : {p : ℕ} → Misfit r₁ 2 p (number u (u + 1)) → Misfit r (w + 5) p (record_of mark lim w u)
    unfolding record_of
    record_unnumbered f = behind (λ F _. cells lim w (feed F)) e₁ f (omega (arith, p₁.stands)) (λ F. rw (add-one u) (p₁.goes (numbered F)))

    module _ {r₂ : Reader} {x : ℕ} (e₂ : r₂.file.now ≡ r₁.file.now) (p₂ : Whole r₁ r₂ 2 (number u (u + 1)) (λ F. F x)) where
      to_cells : (F : Layout) → ahead r (record_of mark lim w u F) ≡ ahead r₂ (cells lim w (feed F))
      unfolding record_of
      to_cells F = p₁.goes (numbered F) ∙ rw (add-one u) at (p₂.goes (λ _. cells lim w (feed F)))

      pub record_unfilled : {p : ℕ} → Misfit r₂ w p (cells lim w) → Misfit r (w + 5) p (record_of mark lim w u)
      record_unfilled f = behind feed (e₂ ∙ e₁) f (omega (arith, p₁.stands, p₂.stands)) to_cells

      module _ {r₃ : Reader} (e₃ : r₃.file.now ≡ r₂.file.now) (p₃ : Whole r₂ r₃ w (cells lim w) (λ F. F)) where
        pub record_unended : {p : ℕ} → Misfit r₃ 1 p (text (10 ∷ [])) → Misfit r (w + 5) p (record_of mark lim w u)
        record_unended f =
            behind (λ F. F) (e₃ ∙ e₂ ∙ e₁) f (omega (arith, p₁.stands, p₂.stands, p₃.stands)) (λ F. to_cells F ∙ p₃.goes (feed F))

        pub record_whole : {r₄ : Reader} → Whole r₃ r₄ 1 (text (10 ∷ [])) (λ F. F) → Whole r r₄ (w + 5) (record_of mark lim w u) (λ F. F)
        record_whole p₄ = record {
          stands = omega (arith, p₁.stands, p₂.stands, p₃.stands, p₄.stands);
          goes = λ F. to_cells F ∙ p₃.goes (feed F) ∙ p₄.goes F;
        }

-- ---- the sizes: the mark, the number of entities, that of rights

module _ (mark : List ℕ) (m : length mark ≡ 2) where
  -- what is to follow the mark
  abbrev counted : (ℕ → ℕ → Layout) → Layout
  counted F = number 0 65 (λ n. digit 1 9 (λ k. F n k))

  pub sizes_unnamed : {r : Reader} {p : ℕ} → Misfit r (length mark) p (text mark) → Misfit r 5 p (sizes mark)
  unfolding sizes
  sizes_unnamed f = behind counted refl f (omega arith) (λ F. refl)

  module _ {r r₁ : Reader} (e₁ : r₁.file.now ≡ r.file.now) (p₁ : Whole r r₁ (length mark) (text mark) (λ F. F)) where
    pub sizes_uncounted : {p : ℕ} → Misfit r₁ 2 p (number 0 65) → Misfit r 5 p (sizes mark)
    unfolding sizes
    sizes_uncounted f = behind (λ F n. digit 1 9 (F n)) e₁ f (omega (arith, p₁.stands)) (λ F. p₁.goes (counted F))

    module _ {r₂ : Reader} {n : ℕ} (e₂ : r₂.file.now ≡ r₁.file.now) (p₂ : Whole r₁ r₂ 2 (number 0 65) (λ F. F n)) where
      to_rights : (F : ℕ → ℕ → Layout) → ahead r (sizes mark F) ≡ ahead r₂ (digit 1 9 (F n))
      unfolding sizes
      to_rights F = p₁.goes (counted F) ∙ p₂.goes (λ n. digit 1 9 (F n))

      pub sizes_unright : {p : ℕ} → Misfit r₂ 1 p (digit 1 9) → Misfit r 5 p (sizes mark)
      sizes_unright f = behind (λ F. F n) (e₂ ∙ e₁) f (omega (arith, p₁.stands, p₂.stands)) to_rights

      pub sizes_whole : {r₃ : Reader} {k : ℕ} → Whole r₂ r₃ 1 (digit 1 9) (λ F. F k) → Whole r r₃ 5 (sizes mark) (λ F. F n k)
      sizes_whole p₃ = record {
        stands = omega (arith, p₁.stands, p₂.stands, p₃.stands);
        goes = λ F. to_rights F ∙ p₃.goes (F n);
      }

-- ---- the last line: the mark, the line feed, the end

module _ {r : Reader} where
  pub close_unmarked : {p : ℕ} → Misfit r 2 p (text ZZ) → p ≡ ahead r close
  unfolding close
  close_unmarked f = sym (f.stops (feed end))

  module _ {r₁ : Reader} (p₁ : Whole r r₁ 2 (text ZZ) (λ F. F)) where
    pub close_unended : {p : ℕ} → Misfit r₁ 1 p (text (10 ∷ [])) → p ≡ ahead r close
    unfolding close
    close_unended f = sym (p₁.goes (feed end) ∙ f.stops end)

    module _ {r₂ : Reader} (p₂ : Whole r₁ r₂ 1 (text (10 ∷ [])) (λ F. F)) where
      to_end : ahead r close ≡ ahead r₂ end
      unfolding close
      to_end = p₁.goes (feed end) ∙ p₂.goes end

      pub close_more : r₂.at < length r₂.file.now → r₂.at ≡ ahead r close
      unfolding reach
      close_more b = rw (drop-cons r₂.file.now r₂.at 0 b) (omega arith) ∙ sym to_end

      pub close_whole : r₂.file.now ≡ r.file.now → length r₂.file.now ≤ r₂.at → length r.file.now + 1 ≡ ahead r close
      unfolding reach
      close_whole e b = rw (← e, drop_of_length-le r₂.file.now {i = r₂.at} b) (omega (arith, r₂.inside)) ∙ sym to_end
