-- Where no well-formed file has more than L bytes, no place is above L, and the first L + 1 bytes of an input show every fault: an input that
-- is longer is malformed, and so are these bytes, at the same place. Assumes nothing.
use mathlib.Core.Path.{◌≡◌, sym, subst}
use mathlib.Core.List.{List}
use Prim.Native.Nat.{ℕ, ◌+◌, ◌≤◌, ◌<◌}
use native.Mathlib.Decide.{dec_lt}
use native.Mathlib.Omega.{arith}
use lib.ListN.{length, take, length-append}
use lib.Seq.{take_all, take-take, length-take-le}
use Rattle.layout.specs.Files.{Begins, Place, Malformed}

module _ (Formed : List ℕ → Type 0) (L : ℕ) (short : (s : List ℕ) → Formed s → length s ≤ L) where
  begun : (s : List ℕ) (q : ℕ) → q ≤ length s → Begins Formed (take q s) → q ≤ L
  begun s q h (rest, f) = omega (arith, short _ f, length-append (take q s) rest, length-take-le q s h)

  pub place_short : {s : List ℕ} {p : ℕ} → Place Formed s p → p ≤ L
  place_short {s} {p} w = begun s p w.within w.common

  -- of an input that is longer
  module _ (s : List ℕ) (long : L + 1 < length s) where
    size : length (take (L + 1) s) ≡ L + 1
    size = length-take-le (L + 1) s (omega arith)

    same : (q : ℕ) → q ≤ L + 1 → take q (take (L + 1) s) ≡ take q s
    same q h = take-take q (L + 1) s h

    cut_long : (p : ℕ) → Malformed Formed s p → Malformed Formed (take (L + 1) s) p
    cut_long p w =
        let low = place_short w.place in
        record {
          not = λ f. omega (arith, short _ f, size);
          place = record {
            within = omega (arith, size);
            common = subst (Begins Formed) (sym (same p (omega arith))) w.place.common;
            most = λ q h b. w.place.most q (omega (arith, size)) (subst (Begins Formed) (same q (omega (arith, size))) b);
          };
        }

    uncut_long : (p : ℕ) → Malformed Formed (take (L + 1) s) p → Malformed Formed s p
    uncut_long p w =
        let low = place_short w.place in
        record {
          not = λ f. omega (arith, short s f);
          place = record {
            within = omega arith;
            common = subst (Begins Formed) (same p (omega arith)) w.place.common;
            most = λ q h b.
                let l = begun s q h b in
                w.place.most q (omega (arith, size)) (subst (Begins Formed) (sym (same q (omega arith))) b);
          };
        }

  -- of any
  module _ (s : List ℕ) where
    pub cut_malformed : (p : ℕ) → Malformed Formed s p → Malformed Formed (take (L + 1) s) p
    cut_malformed p w = go (dec_lt (L + 1) (length s))
      where
        go : Dec (L + 1 < length s) → Malformed Formed (take (L + 1) s) p
        go (yes h) = cut_long s h p w
        go (no h) = subst (λ (l : List ℕ). Malformed Formed l p) (sym (take_all (L + 1) s (omega arith))) w

    pub uncut_malformed : (p : ℕ) → Malformed Formed (take (L + 1) s) p → Malformed Formed s p
    uncut_malformed p w = go (dec_lt (L + 1) (length s))
      where
        go : Dec (L + 1 < length s) → Malformed Formed s p
        go (yes h) = uncut_long s h p w
        go (no h) = subst (λ (l : List ℕ). Malformed Formed l p) (take_all (L + 1) s (omega arith)) w

    -- what is well formed is not cut
    pub cut_formed : Formed s → take (L + 1) s ≡ s
    cut_formed f = take_all (L + 1) s (omega (arith, short s f))

    pub uncut_formed : Formed (take (L + 1) s) → take (L + 1) s ≡ s
    uncut_formed f = go (dec_lt (L + 1) (length s))
      where
        go : Dec (L + 1 < length s) → take (L + 1) s ≡ s
        go (yes h) = absurd (omega (arith, short _ f, size s h))
        go (no h) = take_all (L + 1) s (omega arith)
