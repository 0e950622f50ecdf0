-- From bytes put from the front of a room to what is promised of it. Assumes nothing.
use mathlib.Core.Path.{◌≡◌, sym, ◌∙◌, ap}
use mathlib.Core.Bool.{cond}
use mathlib.Core.List.{List, ◌++◌, append-nil}
use Prim.Native.Nat.{ℕ, ◌+◌, ◌-◌, ◌≤◌, ◌<◌}
use native.Mathlib.Omega.{arith}
use borrow.Author.Tests.{le-leb, lt-leb}
use lib.ListN.{length, take, drop, length-append, length-drop, drop_of_length-le}
use lib.Seq.{sets, sets-eq, length-sets, take_all, take-append-le, length-take-le}
use Rattle.lattice.proofs.Lists.{either}
use Rattle.lattice.proofs.Places.{lt_or_le}
use Rattle.csv_text.specs.declared.text.Text.{Text}
use Rattle.csv_text.specs.Written.{written, WritePromise, Whole, Cut}
use Rattle.csv_text.proofs.Putting.{sets_cut}

-- ---- a text that fits, and one that does not
sets_whole : (text out : List ℕ) → length text ≤ length out → sets out 0 text ≡ text ++ drop (length text) out
sets_whole text out h =
    let e : 0 + length text ≡ length text = omega arith in
    sets-eq text out 0 (omega arith) ∙ ap (λ n. text ++ drop n out) e

module _ (text out : List ℕ) where
  pub written_whole : length text ≤ length out → written text out ≡ text ++ drop (length text) out
  written_whole h =
      take_all (length out) (text ++ drop (length text) out)
      (omega (arith, length-append text (drop (length text) out), length-drop (length text) out))

  written_cut : length out < length text → written text out ≡ take (length out) text
  written_cut h = take-append-le (length out) text (drop (length text) out) (omega arith)

  cut_stands : length out < length text → sets out 0 (take (length out - 0) text) ≡ take (length out) text
  cut_stands h =
      let front = take (length out) text in
      let l : length front ≡ length out = length-take-le (length out) text (omega arith) in
      let e : length out - 0 ≡ length out = omega arith in
      ap (λ n. sets out 0 (take n text)) e
      ∙ sets_whole front out (omega (arith, l))
      ∙ ap (λ m. front ++ m) (drop_of_length-le out {i = length front} (omega (arith, l)))
      ∙ append-nil front

  sets_written : sets out 0 text ≡ written text out
  sets_written =
      either (lt_or_le (length out) (length text)) (λ h. sets_cut out 0 text (omega arith) (omega arith) ∙ cut_stands h ∙ sym (written_cut h)) (λ h. sets_whole text out h ∙ sym (written_whole h))

-- ---- what stands in the room at the end, and how long the text is
module _ (text : List ℕ) (before after : Text) (front : before.at ≡ 0) (room : List ℕ) (same : room ≡ after.room.now) where
  from_front : after.room.now ≡ sets before.room.now before.at text → room ≡ written text before.room.now
  from_front stands = same ∙ stands ∙ ap (λ n. sets before.room.now n text) front ∙ sets_written text before.room.now

  pub promised : Whole before text after → WritePromise text before.room.now after.at room
  promised h =
      let e : after.at ≡ length text = omega (arith, h.goes, front) in
      let fits : length text ≤ length before.room.now = omega (arith, e, after.within, ap length h.stands, length-sets before.room.now before.at text) in
      record { answers = e ∙ sym (ap (λ t. cond t (length text) 0) (le-leb (length text) (length before.room.now) fits)); stands = from_front h.stands }

  pub promised_cut : Cut before text after → WritePromise text before.room.now 0 room
  promised_cut h =
      let over : length before.room.now < length text = omega (arith, h.over, front) in
      record { answers = sym (ap (λ t. cond t (length text) 0) (lt-leb (length text) (length before.room.now) over)); stands = from_front h.stands }
