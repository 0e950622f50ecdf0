-- Laws of a stack in an array from which points are popped before one is pushed. Assumes nothing.
use mathlib.Core.Path.{◌≡◌, sym, ◌∙◌, ap, subst}
use mathlib.Core.List.{List}
use Prim.Native.Nat.{ℕ, suc, ◌+◌, ◌-◌, ◌≤◌, ◌<◌}
use native.Mathlib.Omega.{arith}
use lib.ListN.{length, get_or, set}
use lib.Seq.{get_or-set_same, get_or-set_other}
use lib.IntN.{pos}
use lib.Signed.{◌≤ℤ◌, ◌<ℤ◌}
use Rattle.lattice.specs.Hull.{turn}
use Rattle.lattice.proofs.Lists.{either}
use Rattle.lattice.proofs.Places.{lt_or_le}
use Rattle.packed.specs.Packed.{unpacked}
use Rattle.scan.specs.Scanning.{at, Pushable, Pushed}

-- all above `last` is popped so far, and nothing is written
pub record Popping (stack₀ : List ℕ) (base top k : ℕ) (stack : List ℕ) (last : ℕ) : Type 0 where
  pub from : base ≤ last
  pub under : last < top
  pub same : stack ≡ stack₀
  pub popped : (i : ℕ) → last ≤ i → suc i < top → turn (at stack₀ i) (at stack₀ (suc i)) (unpacked k) ≤ℤ pos 0

module _ (stack₀ : List ℕ) (base top k : ℕ) (stack : List ℕ) (last : ℕ) (h : Popping stack₀ base top k stack last) where
  pub popping_more : base < last → turn (at stack (last - 1)) (at stack last) (unpacked k) ≤ℤ pos 0 → Popping stack₀ base top k stack (last - 1)
  popping_more l t = record {
    from = omega arith;
    under = omega (arith, h.under);
    same = h.same;
    popped = λ i u v. either (lt_or_le i last)
        (λ w. let e : last - 1 ≡ i = omega arith in let f : last ≡ suc i = omega arith in
        subst (λ j. turn (at stack₀ i) (at stack₀ j) (unpacked k) ≤ℤ pos 0) f
        (subst (λ j. turn (at stack₀ j) (at stack₀ last) (unpacked k) ≤ℤ pos 0) e
        (subst (λ s. turn (at s (last - 1)) (at s last) (unpacked k) ≤ℤ pos 0) h.same t)))
        (λ w. h.popped i w v);
  }

  pub popping_ends : Pushable stack₀ base top k
      → ((i : ℕ) → base ≤ i → suc i ≡ last → pos 0 <ℤ turn (at stack i) (at stack last) (unpacked k))
      → (free : ℕ) → free ≡ suc last → Pushed stack₀ base top k (set stack free k) (free + 1)
  popping_ends p stops free e = record {
    last = last;
    result = omega (arith, e);
    from = h.from;
    under = h.under;
    popped = h.popped;
    stops = λ i b d. subst (λ s. pos 0 <ℤ turn (at s i) (at s last) (unpacked k)) h.same (stops i b d);
    kept = λ i l. get_or-set_other stack free i k 0 (λ q. omega (arith, e)) ∙ ap (λ s. get_or s i 0) h.same;
    here = ap (λ n. get_or (set stack free k) n 0) (sym e) ∙ get_or-set_same stack free k 0 (omega (arith, e, p.room, h.under, ap length h.same));
  }
