-- Each corner is looked for among the missing points. Assumes nothing.
use Rattle.std.proofs.Common.{rules, refl, pos, get_or, length, Bool, true, false, not, ◌≡◌, List, ℤ, ◌<◌, ℕ}
use Rattle.lattice.specs.Point.{points, In}
use Rattle.missing.proofs.Chunked.{apart_tells}
use Rattle.missing.proofs.all_apart.Goals as goal

pub returns-then-missing-ge-SHORT : goal.returns-then-missing-ge-SHORT
returns-then-missing-ge-SHORT c =
    let h : c.any.result ≡ false → (k : ℕ) (d : List ℤ) → k < length c.as_chunks.result.0.now
    → In (record { x = get_or (get_or c.as_chunks.result.0.now k d) 0 (pos 0); y = get_or (get_or c.as_chunks.result.0.now k d) 1 (pos 0) }) (points c.args.missing.now) → ⊥ = search rules in
    λ e. apart_tells c.args.corners.now c.args.missing.now c.as_chunks.result.0.now c.as_chunks.ensures.front (h (by_not c.any.result e))
  where
    by_not : (b : Bool) → not b ≡ true → b ≡ false
    by_not true e = cc
    by_not false e = refl
