-- A room that begins with some points: these points, and one point more written behind them. Assumes nothing.
use mathlib.Core.Path.{◌≡◌, sym, ◌∙◌, ap}
use mathlib.Core.List.{List, [], ◌∷◌, ◌++◌, append_assoc}
use Prim.Native.Nat.{ℕ, suc, ◌+◌, ◌*◌, ◌≤◌, ◌<◌}
use native.Mathlib.Omega.{arith}
use lib.ListN.{length, get_or, take, drop, set, length-append, length-drop}
use lib.Seq.{drop-cons, drop-drop, set_at, take_at, drop_at}
use lib.IntN.{ℤ, pos}
use Rattle.lattice.specs.Point.{Point, points}
use Rattle.lattice.specs.Room.{numbers, holding}
use Rattle.lattice.proofs.Numbers.{numbers_length, numbers_append, points_numbers}

pub holding_length : (l : List Point) (room : List ℤ) → 2 * length l ≤ length room → length (holding l room) ≡ length room
holding_length l room h =
    length-append (numbers l) (drop (2 * length l) room) ∙ omega (arith, numbers_length l, length-drop (2 * length l) room)

-- the part at the front that holds the points
pub holding_points : (l : List Point) (room : List ℤ) (n : ℕ) → n ≡ length l → points (take (2 * n) (holding l room)) ≡ l
holding_points l room n e =
    ap points (take_at (numbers l) (drop (2 * length l) room) (2 * n) (omega (arith, numbers_length l, e))) ∙ points_numbers l

-- what stood at the next two places
module _ (room : List ℤ) (n : ℕ) (h : n + 1 < length room) where
  first : ℤ
  first = get_or room n (pos 0)

  second : ℤ
  second = get_or room (n + 1) (pos 0)

  next_two : drop n room ≡ first ∷ second ∷ drop (n + 2) room
  unfolding first second
  next_two =
      let e : suc n ≡ n + 1 = omega arith in
      let f : suc (n + 1) ≡ n + 2 = omega arith in
      drop-cons room n (pos 0) (omega arith)
      ∙ ap (λ l. get_or room n (pos 0) ∷ l)
      (ap (λ m. drop m room) e ∙ drop-cons room (n + 1) (pos 0) h
      ∙ ap (λ m. get_or room (n + 1) (pos 0) ∷ drop m room) f)

pub holding_more : (l : List Point) (p : Point) (room : List ℤ) → 2 * length l + 1 < length room
    → set (set (holding l room) (2 * length l) p.x) (2 * length l + 1) p.y ≡ holding (l ++ p ∷ []) room
holding_more l p room h =
    let a = numbers l in
    let n = 2 * length l in
    let u = first room n h in
    let v = second room n h in
    let rest = drop (n + 2) room in
    let e : length (a ++ p.x ∷ []) ≡ n + 1 = length-append a (p.x ∷ []) ∙ omega (arith, numbers_length l) in
    let f : n + 2 ≡ 2 * length (l ++ p ∷ []) = omega (arith, length-append l (p ∷ [])) in
    ap (λ m. set (set (a ++ m) n p.x) (n + 1) p.y) (next_two room n h)
    ∙ ap (λ m. set m (n + 1) p.y) (set_at a u (v ∷ rest) p.x n (numbers_length l) ∙ sym (append_assoc a (p.x ∷ []) (v ∷ rest)))
    ∙ set_at (a ++ p.x ∷ []) v rest p.y (n + 1) e
    ∙ append_assoc a (p.x ∷ []) (p.y ∷ rest)
    ∙ sym (append_assoc a (p.x ∷ p.y ∷ []) rest)
    ∙ ap (λ m. m ++ rest) (sym (numbers_append l (p ∷ [])))
    ∙ ap (λ m. numbers (l ++ p ∷ []) ++ drop m room) f

-- the same where the points are counted
pub holding_next : (l : List Point) (n : ℕ) → length l ≡ n → (p : Point) (room : List ℤ) → 2 * n + 1 < length room
    → set (set (holding l room) (2 * n) p.x) (2 * n + 1) p.y ≡ holding (l ++ p ∷ []) room
holding_next l n e p room h =
    ap (λ m. set (set (holding l room) (2 * m) p.x) (2 * m + 1) p.y) (sym e) ∙ holding_more l p room (omega arith)

-- the rest of a room lent on: points behind points
module _ (l : List Point) (n : ℕ) (e : length l ≡ n) (room : List ℤ) where
  long : length (numbers l) ≡ 2 * n
  long = omega (arith, numbers_length l, e)

  pub holding_rest : drop (2 * n) (holding l room) ≡ drop (2 * n) room
  holding_rest = drop_at (numbers l) (drop (2 * length l) room) (2 * n) long ∙ ap (λ k. drop (2 * k) room) e

  pub holding_then : (m : List Point) → take (2 * n) (holding l room) ++ holding m (drop (2 * n) (holding l room)) ≡ holding (l ++ m) room
  holding_then m =
      let f : 2 * n + 2 * length m ≡ 2 * length (l ++ m) = omega (arith, length-append l m, e) in
      (λ i. take_at (numbers l) (drop (2 * length l) room) (2 * n) long i ++ (numbers m ++ drop (2 * length m) (holding_rest i)))
      ∙ ap (λ r. numbers l ++ (numbers m ++ r)) (drop-drop (2 * length m) (2 * n) room ∙ ap (λ k. drop k room) f)
      ∙ sym (append_assoc (numbers l) (numbers m) (drop (2 * length (l ++ m)) room))
      ∙ ap (λ a. a ++ drop (2 * length (l ++ m)) room) (sym (numbers_append l m))
