-- Laws of the loop that writes black pixels as points to the front of a list, however they are fetched. Assumes nothing.
use mathlib.Core.Path.{◌≡◌, refl, sym, ◌∙◌, ap}
use mathlib.Core.Bool.{Bool, true, false}
use mathlib.Core.List.{List, [], ◌∷◌, ◌++◌, append_assoc, append-nil}
use Prim.Native.Nat.{ℕ, zero, suc, ◌+◌, ◌*◌, ◌-◌, ◌/◌, ◌%◌, ◌≤◌, ◌<◌}
use native.Mathlib.Numerals.{add-one}
use native.Mathlib.Omega.{arith}
use lib.ListN.{length, set, length-append}
use lib.IntN.{ℤ, pos}
use Rattle.lattice.specs.Point.{Point, most}
use Rattle.refusal.specs.declared.Refusal.{Refusal}
use Rattle.lattice.specs.Room.{holding}
use Rattle.lattice.proofs.Rooms.{holding_length, holding_next}
use Rattle.netpbm.specs.Raster.{Raster, pixels, fault, onto, pixel_point, black, black_in}
use Rattle.netpbm.specs.Steps.{whites, Passes, Writable}

-- a pixel more: the pixels behind it
pub onto_pixels : (p : Bool) (r : Raster) (l : List Bool) → onto p r ≡ pixels l → (m : List Bool) × (r ≡ pixels m) × (l ≡ p ∷ m)
onto_pixels p (pixels m) l e = (m, refl, cc)
onto_pixels p (fault refusal) l e = absurd cc

-- k of all pixels are passed, n of them black and written, and place i is reached
pub record Writing (raster : ℕ → ℕ → Raster) (at all width : ℕ) (list₀ list : List ℤ) (n k i : ℕ) : Type 0 where
  pub written : List Point
  pub rest : List Bool
  pub left : raster (all - k) i ≡ pixels rest
  pub same : written ++ black width k rest ≡ black_in width (raster all at)
  pub count : length written ≡ n
  pub stand : list ≡ holding written list₀
  pub upto : k ≤ all

pub writing_none : (raster : ℕ → ℕ → Raster) (at all width : ℕ) (list : List ℤ) → Writable (raster all at) width all list
    → Writing raster at all width list list 0 0 at
writing_none raster at all width list w =
    let e : all - 0 ≡ all = omega arith in
    record {
      written = [];
      rest = w.sound.0;
      left = ap (λ n. raster n at) e ∙ w.sound.1;
      same = ap (black_in width) (sym w.sound.1);
      count = refl;
      stand = refl;
      upto = omega arith;
    }

module _ (raster : ℕ → ℕ → Raster) (at all width : ℕ) (list₀ list : List ℤ) (n k i : ℕ)
    (h : Writing raster at all width list₀ list n k i) (inside : k < all) where
  -- what is fetched next is no fault
  fetched : (r : Raster) → ((m : ℕ) → raster (suc m) i ≡ r) → r ≡ pixels h.rest
  fetched r f =
      let e : suc (all - (k + 1)) ≡ all - k = omega arith in
      sym (f (all - (k + 1))) ∙ ap (λ m. raster m i) e ∙ h.left

  pub writing_fault {ℓ} : {X : Type ℓ} (refusal : Refusal) → ((m : ℕ) → raster (suc m) i ≡ fault refusal) → X
  writing_fault refusal f = let e = fetched (fault refusal) f in absurd cc

  module _ (p : Bool) (next : ℕ) (f : (m : ℕ) → raster (suc m) i ≡ onto p (raster m next)) where
    behind : (m : List Bool) × (raster (all - (k + 1)) next ≡ pixels m) × (h.rest ≡ p ∷ m)
    behind =
        let e : suc (all - (k + 1)) ≡ all - k = omega arith in
        onto_pixels p (raster (all - (k + 1)) next) h.rest (sym (f (all - (k + 1))) ∙ ap (λ m. raster m i) e ∙ h.left)

    split : h.written ++ black width k (p ∷ behind.0) ≡ black_in width (raster all at)
    split = ap (λ l. h.written ++ black width k l) (sym behind.2) ∙ h.same

  module _ (next : ℕ) (f : (m : ℕ) → raster (suc m) i ≡ onto false (raster m next)) where
    pub writing_white : Writing raster at all width list₀ list n (k + 1) next
    writing_white = record {
      written = h.written;
      rest = (behind false next f).0;
      left = (behind false next f).1;
      same = rw add-one (split false next f);
      count = h.count;
      stand = h.stand;
      upto = omega arith;
    }

  module _ (next : ℕ) (f : (m : ℕ) → raster (suc m) i ≡ onto true (raster m next)) (few : length (black_in width (raster all at)) ≤ most) where
    pub room_left : n < most
    room_left =
        omega (arith, length-append h.written (black width k (true ∷ (behind true next f).0)), ap length (split true next f), h.count)

    pub writing_black : 2 * n + 1 < length list₀ → (x y : ℕ) → x ≡ k % width → y ≡ k / width
        → (after : List ℤ) → after ≡ set (set list (2 * n) (pos x)) (2 * n + 1) (pos y)
        → Writing raster at all width list₀ after (n + 1) (k + 1) next
    writing_black room x y e g after put =
        let p = pixel_point width k in
        let m = (behind true next f).0 in
        record {
          written = h.written ++ p ∷ [];
          rest = m;
          left = (behind true next f).1;
          same = rw add-one (append_assoc h.written (p ∷ []) (black width (suc k) m) ∙ split true next f);
          count = length-append h.written (p ∷ []) ∙ omega (arith, h.count);
          stand =
              put ∙ (λ j. set (set (h.stand j) (2 * n) (pos (e j))) (2 * n + 1) (pos (g j)))
              ∙ holding_next h.written n h.count p list₀ room;
          upto = omega arith;
        }

-- m white pixels more
black_whites : (width k m : ℕ) (l : List Bool) → black width k (whites m l) ≡ black width (k + m) l
black_whites width k zero l = let e : k ≡ k + 0 = omega arith in ap (λ j. black width j l) e
black_whites width k (suc m) l =
    let e : suc k + m ≡ k + suc m = omega arith in
    black_whites width (suc k) m l ∙ ap (λ j. black width j l) e

pub writing_passed : (raster : ℕ → ℕ → Raster) (at all width : ℕ) (list₀ list : List ℤ) (n k i : ℕ) → Writing raster at all width list₀ list n k i
    → (m next : ℕ) → Passes raster i m next → Writing raster at all width list₀ list n (k + m) next
writing_passed raster at all width list₀ list n k i h m next p =
    let w = p (all - k) h.rest h.left in
    let e : all - (k + m) ≡ all - k - m = omega arith in
    record {
      written = h.written;
      rest = w.rest;
      left = ap (λ j. raster j next) e ∙ w.behind;
      same = ap (λ l. h.written ++ l) (sym (black_whites width k m w.rest) ∙ ap (black width k) (sym w.same)) ∙ h.same;
      count = h.count;
      stand = h.stand;
      upto = omega (arith, w.fits, h.upto);
    }

pub writing_length : (raster : ℕ → ℕ → Raster) (at all width : ℕ) (list₀ list : List ℤ) (n k i : ℕ) → Writing raster at all width list₀ list n k i
    → length (black_in width (raster all at)) ≤ most → 2 * most ≤ length list₀ → length list ≡ length list₀
writing_length raster at all width list₀ list n k i h few room =
    ap length h.stand
    ∙ holding_length h.written list₀ (omega (arith, length-append h.written (black width k h.rest), ap length h.same))

-- no pixel is left behind the last
pub writing_ends : (raster : ℕ → ℕ → Raster) (at all width : ℕ) (list₀ list : List ℤ) (n k i : ℕ)
    → Writing raster at all width list₀ list n k i → all ≤ k → ((l : List Bool) → raster 0 i ≡ pixels l → l ≡ [])
    → list ≡ holding (black_in width (raster all at)) list₀
writing_ends raster at all width list₀ list n k i h l none =
    let z : 0 ≡ all - k = omega arith in
    let e = none h.rest (ap (λ m. raster m i) z ∙ h.left) in
    h.stand
    ∙ ap (λ m. holding m list₀) (sym (append-nil h.written) ∙ ap (λ m. h.written ++ black width k m) (sym e) ∙ h.same)
