-- Laws of white pixels that are passed, however they are fetched. Assumes nothing.
use mathlib.Core.Path.{◌≡◌, refl, ◌∙◌, ap}
use mathlib.Core.Bool.{Bool, false}
use mathlib.Core.List.{List, ◌∷◌}
use Prim.Native.Nat.{ℕ, zero, suc, ◌+◌, ◌-◌}
use native.Mathlib.Omega.{arith}
use Rattle.netpbm.specs.Raster.{Raster}
use Rattle.netpbm.specs.Steps.{whites, Passes}

pub passes_none : (raster : ℕ → ℕ → Raster) (at : ℕ) → Passes raster at 0 at
passes_none raster at n l e =
    let a : n - 0 ≡ n = omega arith in
    record { fits = omega arith; rest = l; behind = ap (λ k. raster k at) a ∙ e; same = refl }

whites_more : (m k : ℕ) (l : List Bool) → whites m (whites k l) ≡ whites (m + k) l
whites_more zero k l = let e : k ≡ 0 + k = omega arith in ap (λ j. whites j l) e
whites_more (suc m) k l = let e : suc (m + k) ≡ suc m + k = omega arith in ap (λ q. false ∷ q) (whites_more m k l) ∙ ap (λ j. whites j l) e

pub passes_then : (raster : ℕ → ℕ → Raster) (at m i : ℕ) → Passes raster at m i → (k to : ℕ) → Passes raster i k to → Passes raster at (m + k) to
passes_then raster at m i p k to q n l e =
    let v = p n l e in
    let w = q (n - m) v.rest v.behind in
    let a : n - (m + k) ≡ n - m - k = omega arith in
    record {
      fits = omega (arith, v.fits, w.fits);
      rest = w.rest;
      behind = ap (λ j. raster j to) a ∙ w.behind;
      same = v.same ∙ ap (whites m) w.same ∙ whites_more m k w.rest;
    }
