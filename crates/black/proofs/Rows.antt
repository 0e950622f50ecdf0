-- Laws of rows: where a pixel's row begins, and its column; and of the pixel that is found next. Assumes nothing.
use mathlib.Core.Path.{refl, ◌≡◌, sym, ◌∙◌, ap, subst}
use mathlib.Core.Bool.{Bool, false}
use mathlib.Core.List.{List}
use Prim.Native.Nat.{ℕ, suc, ◌+◌, ◌*◌, ◌-◌, ◌%◌, ◌≤◌, ◌<◌}
use native.Mathlib.Nat.{div-mul-le_self, mod-eq-sub-div-mul}
use native.Mathlib.Omega.{arith}
use Rattle.std.specs.Prelude.{Result, Ok, Err, ℤ, IsOk}
use Rattle.refusal.specs.declared.Refusal.{Refusal}
use Rattle.netpbm.specs.Raster.{onto}
use Rattle.netpbm.specs.Steps.{Passes}
use Rattle.netpbm.proofs.Writing.{Writing, writing_white, writing_passed, writing_fault}
use Rattle.plain.specs.Plain.{plain_at}
use Rattle.plain.specs.Steps.{Fetches}
use Rattle.black.specs.declared.Row.{Row}
use Rattle.black.specs.Row.{Begun, RowOf}

pub begun_later : (width k : ℕ) (row : Row) → Begun width k row → (j : ℕ) → k ≤ j → Begun width j row
begun_later width k row h j l = record { first = h.first; before = omega (arith, h.before) }

module _ (width k : ℕ) (row : Row) (h : RowOf width k row) where
  pub row_starts : row.first ≤ k
  row_starts = omega (arith, h.first, div-mul-le_self k width)

  pub begun_next : Begun width (k + 1) row
  begun_next = record { first = h.first ∙ ap (λ y. y * width) (sym h.y); before = omega (arith, row_starts) }

  pub column : k - row.first ≡ k % width
  column = ap (λ n. k - n) h.first ∙ sym (mod-eq-sub-div-mul k width)

-- ---- the pixel that is found, in the file whose bytes are read
pub fetched : (read bytes : List ℕ) → read ≡ bytes → (i next : ℕ) (r : Result Bool Refusal) (found colour : Bool) → r ≡ Ok found → found ≡ colour
    → Fetches (plain_at read) i r next → (m : ℕ) → plain_at bytes (suc m) i ≡ onto colour (plain_at bytes m next)
fetched read bytes s i next r found colour e g f =
    subst (λ t. (m : ℕ) → plain_at bytes (suc m) i ≡ onto t (plain_at bytes m next)) g
    (subst (λ q. Fetches (plain_at bytes) i q next) e (subst (λ l. Fetches (plain_at l) i r next) s f))

-- it is no fault
pub found_so : (read bytes : List ℕ) → read ≡ bytes → (at all width : ℕ) (before list : List ℤ) (n k i next : ℕ)
    → Writing (plain_at bytes) at all width before list n k i → k < all → (r : Result Bool Refusal) → Fetches (plain_at read) i r next → IsOk r
found_so read bytes s at all width before list n k i next w l (Ok found) f = refl
found_so read bytes s at all width before list n k i next w l (Err refusal) f =
    writing_fault _ _ _ _ _ _ _ _ _ w l refusal (subst (λ b. Fetches (plain_at b) i (Err refusal) next) s f)

-- a white pixel, and those that are passed behind it
pub passed : (later bytes : List ℕ) → later ≡ bytes → (at all width : ℕ) (before list : List ℤ) (n k i next m to : ℕ)
    → Writing (plain_at bytes) at all width before list n k i → k < all
    → ((m : ℕ) → plain_at bytes (suc m) i ≡ onto false (plain_at bytes m next)) → Passes (plain_at later) next m to
    → Writing (plain_at bytes) at all width before list n (k + 1 + m) to
passed later bytes t at all width before list n k i next m to w l f p =
    writing_passed _ _ _ _ _ _ _ _ _ (writing_white _ _ _ _ _ _ _ _ _ w l next f) m to (subst (λ b. Passes (plain_at b) next m to) t p)
