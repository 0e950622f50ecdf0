-- Laws of bytes put one after the other into a room that may be too small. Assumes nothing.
use Rattle.std.proofs.Common.{◌≡◌, refl, sym, ◌∙◌, ap, subst, List, [], ◌∷◌, ◌++◌, ℕ, suc, ◌+◌, ◌-◌, ◌≤◌, ◌<◌, length, get_or, take, drop, Result, Ok, Err, IsErr, arith, add-one, length-append}
use Rattle.std.proofs.lemmas.Bool.{false≢true}
use lib.ListN.{set, length-drop, take-append-drop}
use lib.Seq.{sets, length-sets, length-take-le, set_out, take-suc}
use Rattle.csv_text.specs.declared.text.Text.{Text}
use Rattle.csv_text.specs.declared.text.Full.{Full}
use Rattle.csv_text.specs.Written.{Whole, Cut, Puts}

-- ---- stores from a place on
pub sets_append : (l : List ℕ) (i : ℕ) (a b : List ℕ) → sets l i (a ++ b) ≡ sets (sets l i a) (i + length a) b
sets_append l i [] b = let e : i ≡ i + 0 = omega arith in ap (λ n. sets l n b) e
sets_append l i (v ∷ a) b =
    let e : suc i + length a ≡ i + suc (length a) = omega arith in
    sets_append (set l i v) (suc i) a b ∙ ap (λ n. sets (sets (set l i v) (suc i) a) n b) e

pub sets_out : (l : List ℕ) (i : ℕ) (a : List ℕ) → length l ≤ i → sets l i a ≡ l
sets_out l i [] h = refl
sets_out l i (v ∷ a) h = ap (λ m. sets m (suc i) a) (set_out l i v h) ∙ sets_out l (suc i) a (omega arith)

-- of bytes that reach beyond the end, those with a place
pub sets_cut : (l : List ℕ) (i : ℕ) (a : List ℕ) → i ≤ length l → length l ≤ i + length a → sets l i a ≡ sets l i (take (length l - i) a)
sets_cut l i a h g =
    let n = length l - i in
    let front = take n a in
    let k : length front ≡ n = length-take-le n a (omega arith) in
    ap (sets l i) (sym (take-append-drop n a))
    ∙ sets_append l i front (drop n a)
    ∙ sets_out (sets l i front) (i + length front) (drop n a) (omega (arith, length-sets l i front))

-- ---- one text behind another
module _ {t u : Text} {a : List ℕ} (h : Whole t a u) where
  length_kept : length u.room.now ≡ length t.room.now
  length_kept = ap length h.stands ∙ length-sets t.room.now t.at a

  stands_append : (b room : List ℕ) → room ≡ sets u.room.now u.at b → room ≡ sets t.room.now t.at (a ++ b)
  stands_append b room e = e ∙ (λ j. sets (h.stands j) (h.goes j) b) ∙ sym (sets_append t.room.now t.at a b)

  pub whole_append : {v : Text} {b : List ℕ} → Whole u b v → Whole t (a ++ b) v
  whole_append {v} {b} g = record {
    same = g.same ∙ h.same;
    stands = stands_append b v.room.now g.stands;
    goes = omega (arith, g.goes, h.goes, length-append a b);
  }

  pub whole_cut : {v : Text} {b : List ℕ} → Cut u b v → Cut t (a ++ b) v
  whole_cut {v} {b} g = record {
    same = g.same ∙ h.same;
    stands = stands_append b v.room.now g.stands;
    over = omega (arith, g.over, h.goes, length_kept, length-append a b);
  }

  pub puts_append : (v : Text) (b : List ℕ) (r : Result (Unit {0}) Full) → Puts u b r v → Puts t (a ++ b) r v
  puts_append v b (Ok _) g = whole_append g
  puts_append v b (Err _) g = whole_cut g

-- ---- one byte behind another
module _ {t u : Text} (bytes : List ℕ) (i : ℕ) (h : Whole t (take i bytes) u) (inside : i < length bytes) where
  pub whole_byte : {v : Text} → Whole u (get_or bytes i 0 ∷ []) v → Whole t (take (i + 1) bytes) v
  whole_byte {v} g =
      subst (λ text. Whole t text v) (sym (take-suc bytes i 0 inside) ∙ ap (λ n. take n bytes) (sym (add-one i))) (whole_append h g)

  -- the room is full, and a byte is left
  pub whole_full : length u.room.now ≤ u.at → Cut t bytes u
  whole_full full =
      subst (λ text. Cut t text u) (take-append-drop i bytes)
      (whole_cut h (record {
        same = refl;
        stands = sym (sets_out u.room.now u.at (drop i bytes) full);
        over = omega (arith, full, length-drop i bytes);
      }))

pub cut_append : {t u : Text} {a : List ℕ} (b : List ℕ) → Cut t a u → Cut t (a ++ b) u
cut_append {t} {u} {a} b h = record {
  same = h.same;
  stands =
      h.stands
      ∙ sym (sets_out (sets t.room.now t.at a) (t.at + length a) b (omega (arith, h.over, length-sets t.room.now t.at a)))
      ∙ sym (sets_append t.room.now t.at a b);
  over = omega (arith, h.over, length-append a b);
}

-- ---- what a `?` hands on
pub puts_failed : {t u : Text} {a : List ℕ} (r : Result (Unit {0}) Full) → IsErr r → Cut t a u → Puts t a r u
puts_failed (Ok _) f h = absurd (false≢true f)
puts_failed (Err _) f h = h
