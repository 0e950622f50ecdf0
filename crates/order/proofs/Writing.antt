-- Laws of packed points written to the front of a room, one after the other. Assumes nothing.
use mathlib.Core.Path.{◌≡◌, sym, ◌∙◌, ap}
use mathlib.Core.List.{List, [], ◌∷◌, ◌++◌, map, map-append}
use Prim.Native.Nat.{ℕ, ◌+◌, ◌*◌, ◌≤◌, ◌<◌}
use native.Mathlib.Numerals.{add-one}
use native.Mathlib.Omega.{arith}
use lib.ListN.{length, get_or, take, set, length-map}
use lib.Seq.{take-suc, take_all, length-take-le}
use lib.IntN.{ℤ}
use Rattle.lattice.specs.Room.{holding}
use Rattle.lattice.proofs.Rooms.{holding_length, holding_next}
use Rattle.packed.specs.Packed.{unpacked}

-- the first i points stand in the room
pub record Writing (keys : List ℕ) (room₀ room : List ℤ) (i : ℕ) : Type 0 where
  pub upto : i ≤ length keys
  pub stand : room ≡ holding (map unpacked (take i keys)) room₀

pub written_length : (keys : List ℕ) (i : ℕ) → i ≤ length keys → length (map unpacked (take i keys)) ≡ i
written_length keys i h = length-map (take i keys) unpacked ∙ length-take-le i keys h

-- the points of one key more
pub one_more : (keys : List ℕ) (i : ℕ) → i < length keys
    → map unpacked (take (i + 1) keys) ≡ map unpacked (take i keys) ++ unpacked (get_or keys i 0) ∷ []
one_more keys i h =
    ap (λ n. map unpacked (take n keys)) (add-one i)
    ∙ ap (map unpacked) (take-suc keys i 0 h)
    ∙ map-append unpacked (take i keys) (get_or keys i 0 ∷ [])

module _ (keys : List ℕ) (room₀ room : List ℤ) (i : ℕ) (fits : 2 * length keys ≤ length room₀) (h : Writing keys room₀ room i) where
  pub writing_length : length room ≡ length room₀
  writing_length =
      let e = written_length keys i h.upto in
      ap length h.stand ∙ holding_length (map unpacked (take i keys)) room₀ (omega (arith, e, h.upto))

  pub writing_more : i < length keys → (x y : ℤ) → x ≡ (unpacked (get_or keys i 0)).x → y ≡ (unpacked (get_or keys i 0)).y
      → Writing keys room₀ (set (set room (2 * i) x) (2 * i + 1) y) (i + 1)
  writing_more l x y e f = record {
    upto = omega arith;
    stand =
        (λ j. set (set (h.stand j) (2 * i) (e j)) (2 * i + 1) (f j))
        ∙ holding_next (map unpacked (take i keys)) i (written_length keys i h.upto) (unpacked (get_or keys i 0)) room₀ (omega arith)
        ∙ ap (λ m. holding m room₀) (sym (one_more keys i l));
  }

  pub writing_ends : length keys ≤ i → room ≡ holding (map unpacked keys) room₀
  writing_ends l = h.stand ∙ ap (λ m. holding (map unpacked m) room₀) (take_all i keys l)
