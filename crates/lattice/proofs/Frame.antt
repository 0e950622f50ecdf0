-- Frames: the lattice points of a rectangle, row by row. A frame that holds S holds its hull, and going through it lists the points that
-- pass a test, in row order. Assumes nothing.
use mathlib.Core.Path.{◌≡◌, sym, ◌∙◌, ap, subst}
use mathlib.Core.Logic.{inl, inr}
use mathlib.Core.List.{List, [], ◌∷◌, ◌++◌}
use Prim.Native.Nat.{ℕ, zero, suc, ◌+◌}
use native.Mathlib.Omega.{arith}
use lib.IntN.{ℤ, pos, negsuc, neg_ℤ, ◌+ℤ◌, ◌-ℤ◌}
use Rattle.whole.proofs.Whole.{ring, quote, ◌≤ᶻ◌, ◌<ᶻ◌, natural, gap≤, gap<, ◌⊞◌, ◌⋆≡◌, linear≤, linear<, linear⊥, le_or_lt, antisymmetric}
use Rattle.lattice.specs.Point.{Point, least, InRange, In, Pairs, Before, row, column, Lists}
use Rattle.lattice.specs.Hull.{InHull}
use Rattle.lattice.proofs.Turn.{coordinates}
use Rattle.lattice.proofs.Lists.{either, in_all, in_left, in_right, in_cases, pairs_append}
use Rattle.lattice.proofs.HalfPlane.{point_equal, half_plane}
use Rattle.lattice.proofs.RowKey.{range_width}
use Rattle.lattice.proofs.Decide.{Decided, keep, keep_in, in_keep, pairs_keep}

-- w points from (x, y) on along the row; h such rows
abbrev pub line : ℤ → ℤ → ℕ → List Point
line x y zero = []
line x y (suc w) = record { x = x; y = y } ∷ line (x +ℤ pos 1) y w

abbrev pub frame : ℤ → ℤ → ℕ → ℕ → List Point
frame x y w zero = []
frame x y w (suc h) = line x y w ++ frame x (y +ℤ pos 1) w h

pub record Framed (x y : ℤ) (w h : ℕ) (p : Point) : Type 0 where
  pub left : x ≤ᶻ p.x
  pub right : p.x <ᶻ x +ℤ pos w
  pub low : y ≤ᶻ p.y
  pub high : p.y <ᶻ y +ℤ pos h

-- ---- which points a frame holds
next : (a : ℤ) (n : ℕ) → a +ℤ pos (suc n) ≡ a +ℤ pos 1 +ℤ pos n
next a n = ap (λ z. a +ℤ z) (one_more n) ∙ ring (a ∷ pos n ∷ []) (search quote depth 20) tt
  where
    one_more : (n : ℕ) → pos (suc n) ≡ pos 1 +ℤ pos n
    one_more n =
        let e : suc n ≡ 1 + n = omega arith in
        ap pos e

line_holds : (x y : ℤ) (w : ℕ) (q : Point) → q.y ≡ y → x ≤ᶻ q.x → q.x <ᶻ x +ℤ pos w → In q (line x y w)
line_holds x y zero q e h g = linear⊥ (x ∷ q.x ∷ []) (gap≤ h ⊞ gap< g) (search quote depth 20) tt
line_holds x y (suc w) q e h g =
    either (le_or_lt q.x x)
    (λ k. inl (point_equal (antisymmetric k h) e))
    (λ k. inr
    (line_holds (x +ℤ pos 1) y w q e
    (linear≤ (x ∷ q.x ∷ []) (gap< k) (search quote depth 20) tt)
    (subst (λ z. q.x <ᶻ z) (next x w) g)))

frame_holds : (x y : ℤ) (w h : ℕ) (q : Point) → Framed x y w h q → In q (frame x y w h)
frame_holds x y w zero q f = linear⊥ (y ∷ q.y ∷ []) (gap≤ f.low ⊞ gap< f.high) (search quote depth 20) tt
frame_holds x y w (suc h) q f =
    either (le_or_lt q.y y)
    (λ k. in_left q (line x y w) (frame x (y +ℤ pos 1) w h) (line_holds x y w q (antisymmetric k f.low) f.left f.right))
    (λ k. in_right q (line x y w) (frame x (y +ℤ pos 1) w h)
    (frame_holds x (y +ℤ pos 1) w h q record {
      left = f.left;
      right = f.right;
      low = linear≤ (y ∷ q.y ∷ []) (gap< k) (search quote depth 20) tt;
      high = subst (λ z. q.y <ᶻ z) (next y h) f.high;
    }))

-- ---- its order
line_from : (x y : ℤ) (w : ℕ) (q : Point) → In q (line x y w) → (q.y ≡ y) × (x ≤ᶻ q.x)
line_from x y zero q m = absurd m
line_from x y (suc w) q (inl e) =
    (ap (λ z. z.y) e, subst (λ z. x ≤ᶻ z.x) (sym e) (linear≤ (x ∷ []) (natural 0) (search quote depth 20) tt))
line_from x y (suc w) q (inr i) =
    let r = line_from (x +ℤ pos 1) y w q i in
    (r.0, linear≤ (x ∷ q.x ∷ []) (gap≤ r.1 ⊞ natural 1) (search quote depth 20) tt)

frame_from : (x y : ℤ) (w h : ℕ) (q : Point) → In q (frame x y w h) → y ≤ᶻ q.y
frame_from x y w zero q m = absurd m
frame_from x y w (suc h) q m =
    either (in_cases q (line x y w) (frame x (y +ℤ pos 1) w h) m)
    (λ i. linear≤ (y ∷ q.y ∷ []) (pos 1 ⋆≡ sym (line_from x y w q i).0) (search quote depth 20) tt)
    (λ i. linear≤ (y ∷ q.y ∷ []) (gap≤ (frame_from x (y +ℤ pos 1) w h q i) ⊞ natural 1) (search quote depth 20) tt)

line_order : (x y : ℤ) (w : ℕ) → Pairs Before (line x y w)
line_order x y zero = tt
line_order x y (suc w) = (
  in_all (Before (record { x = x; y = y })) (line (x +ℤ pos 1) y w)
      (λ q m. let r = line_from (x +ℤ pos 1) y w q m in
      column (sym r.0) (linear< (x ∷ q.x ∷ []) (gap≤ r.1) (search quote depth 20) tt)),
  line_order (x +ℤ pos 1) y w,
)

frame_order : (x y : ℤ) (w h : ℕ) → Pairs Before (frame x y w h)
frame_order x y w zero = tt
frame_order x y w (suc h) =
    pairs_append Before (line x y w) (frame x (y +ℤ pos 1) w h) (line_order x y w) (frame_order x (y +ℤ pos 1) w h)
    (λ a b i j. row
    (linear< (y ∷ a.y ∷ b.y ∷ []) (gap≤ (frame_from x (y +ℤ pos 1) w h b j) ⊞ pos 1 ⋆≡ (line_from x y w a i).0)
    (search quote depth 20) tt))

-- ---- a frame that holds S holds its hull
pub hull_framed : (x y : ℤ) (w h : ℕ) (S : Point → Type 0) → ((q : Point) → S q → Framed x y w h q)
    → (p : Point) → InHull S p → Framed x y w h p
hull_framed x y w h S f p i = record {
  left = linear≤ (x ∷ coordinates (p ∷ []))
      (half_plane (λ q. q.x -ℤ x) (pos 1) (pos 0) (neg_ℤ x) (λ q. ring (x ∷ coordinates (q ∷ [])) (search quote depth 20) tt)
      (λ q m. gap≤ (f q m).left) i)
      (search quote depth 20) tt;
  right = linear< (x ∷ pos w ∷ coordinates (p ∷ []))
      (half_plane (λ q. x +ℤ pos w -ℤ q.x -ℤ pos 1) (negsuc 0) (pos 0) (x +ℤ pos w -ℤ pos 1)
      (λ q. ring (x ∷ pos w ∷ coordinates (q ∷ [])) (search quote depth 20) tt) (λ q m. gap< (f q m).right) i)
      (search quote depth 20) tt;
  low = linear≤ (y ∷ coordinates (p ∷ []))
      (half_plane (λ q. q.y -ℤ y) (pos 0) (pos 1) (neg_ℤ y) (λ q. ring (y ∷ coordinates (q ∷ [])) (search quote depth 20) tt)
      (λ q m. gap≤ (f q m).low) i)
      (search quote depth 20) tt;
  high = linear< (y ∷ pos h ∷ coordinates (p ∷ []))
      (half_plane (λ q. y +ℤ pos h -ℤ q.y -ℤ pos 1) (pos 0) (negsuc 0) (y +ℤ pos h -ℤ pos 1)
      (λ q. ring (y ∷ pos h ∷ coordinates (q ∷ [])) (search quote depth 20) tt) (λ q m. gap< (f q m).high) i)
      (search quote depth 20) tt;
}

-- ---- going through a frame lists the points with P, where all of them are in the frame
pub listed_by_frame : (P : Point → Type 0) (d : (p : Point) → Decided (P p)) (x y : ℤ) (w h : ℕ)
    → ((p : Point) → P p → Framed x y w h p) → Lists P (keep P d (frame x y w h))
listed_by_frame P d x y w h f = record {
  every = λ p m. in_keep P d (frame x y w h) p (frame_holds x y w h p (f p m)) m;
  only = λ p m. (keep_in P d (frame x y w h) p m).1;
  order = pairs_keep P d Before (frame x y w h) (frame_order x y w h);
}

-- ---- the range is a frame, so the hull of points in range is in range
pub hull_in_range : (S : Point → Type 0) → ((q : Point) → S q → InRange q) → (p : Point) → InHull S p → InRange p
hull_in_range S f p i =
    let r = hull_framed least least range_width range_width S framed p i in
    record {
      x_from = r.left;
      x_to = linear≤ (p.x ∷ []) (gap< r.right) (search quote depth 20) tt;
      y_from = r.low;
      y_to = linear≤ (p.y ∷ []) (gap< r.high) (search quote depth 20) tt;
    }
  where
    framed : (q : Point) → S q → Framed least least range_width range_width q
    framed q m = record {
      left = (f q m).x_from;
      right = linear< (q.x ∷ []) (gap≤ (f q m).x_to) (search quote depth 20) tt;
      low = (f q m).y_from;
      high = linear< (q.y ∷ []) (gap≤ (f q m).y_to) (search quote depth 20) tt;
    }
