-- The rest of a room, behind the points that stand at its front, lent on and given back. Assumes nothing.
use mathlib.Core.Path.{◌≡◌, sym, ◌∙◌, ap}
use mathlib.Core.List.{List, ◌++◌, append-nil}
use Prim.Native.Nat.{ℕ, ◌+◌, ◌-◌, ◌*◌, ◌≤◌}
use native.Mathlib.Omega.{arith}
use borrow.Rule.Slice.PartMut.{put_mid}
use lib.ListN.{length, take, drop, length-append, length-drop, drop_of_length-le}
use lib.Seq.{take_all}
use lib.IntN.{ℤ}
use Rattle.lattice.specs.Point.{Point, Lists}
use Rattle.lattice.specs.Room.{holding}
use Rattle.lattice.proofs.RowLists.{lists_fewer}
use Rattle.lattice.proofs.Rooms.{holding_length, holding_then}
use Rattle.walk.specs.Walk.{Takes, Puts}

-- what of a room is lent on from place n
abbrev pub rest : List ℤ → ℕ → List ℤ
rest room n = take (length room - n) (drop n room)

module _ (room : List ℤ) (n : ℕ) where
  rest_lent : rest room n ≡ drop n room
  rest_lent = take_all (length room - n) (drop n room) (omega (arith, length-drop n room))

  rest_back : (back : List ℤ) → put_mid n (length room - n) room back ≡ take n room ++ back
  rest_back back =
      ap (λ m. take n room ++ (back ++ m)) (drop_of_length-le (drop n room) {i = length room - n} (omega (arith, length-drop n room)))
      ∙ ap (λ m. take n room ++ m) (append-nil back)

-- the points that have P stand in a room with place for those that have T, and these are among them
module _ (P T : Point → Type 0) (sub : (q : Point) → P q → T q) (room₀ : List ℤ) (t : Takes T room₀) (used : ℕ) (room : List ℤ) (p : Puts P room₀ used room) where
  fewer : length p.0 ≤ length t.0
  fewer = lists_fewer P T sub p.0 t.0 p.1 t.1

  pub puts_length : length room ≡ length room₀
  puts_length = ap length p.3 ∙ holding_length p.0 room₀ (omega (arith, fewer, t.2))

  pub puts_used : 2 * used ≤ length room
  puts_used = omega (arith, fewer, t.2, p.2, puts_length)

  -- those that have Q are to stand behind them
  module _ (Q R : Point → Type 0) (join : (m : List Point) → Lists Q m → Lists R (p.0 ++ m)) where
    pub rest_takes : ((q : Point) → R q → T q) → (m : List Point) → Lists Q m → 2 * length m ≤ length (rest room (2 * used))
    rest_takes also m l = omega (
      arith,
      lists_fewer R T also (p.0 ++ m) t.0 (join m l) t.1,
      length-append p.0 m,
      t.2,
      p.2,
      length-drop (2 * used) room,
      ap length (rest_lent room (2 * used)),
      puts_length,
    )

    pub puts_then : (r : ℕ) (back : List ℤ) → Puts Q (rest room (2 * used)) r back
        → Puts R room₀ (used + r) (put_mid (2 * used) (length room - 2 * used) room back)
    puts_then r back q = (
      p.0 ++ q.0,
      join q.0 q.1,
      omega (arith, p.2, q.2, length-append p.0 q.0),
      rest_back room (2 * used) back
          ∙ ap (λ m. take (2 * used) room ++ m) (q.3 ∙ ap (holding q.0) (rest_lent room (2 * used)))
          ∙ ap (λ m. take (2 * used) m ++ holding q.0 (drop (2 * used) m)) p.3
          ∙ holding_then p.0 used (sym p.2) room₀ q.0,
    )
