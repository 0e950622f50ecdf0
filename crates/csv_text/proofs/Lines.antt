-- Laws of the lines of points, one after the other. Assumes nothing.
use Rattle.std.proofs.Common.{◌≡◌, refl, sym, ◌∙◌, ap, subst, ℕ, suc, zero, ◌+◌, ◌/◌, ◌<◌, List, [], ◌∷◌, ◌++◌, length, get_or, take, drop, ℤ, pos, arith, add-one, append_assoc}
use Rattle.std.specs.Simd.{first_chunks}
use mathlib.Core.List.{append-nil}
use lib.ListN.{take-append-drop}
use lib.Seq.{take-suc}
use mir.Syntax.{w32}
use mir.Val.{SFits, to_z, of_z}
use Rattle.lattice.specs.Point.{Point, origin, points, point}
use Rattle.csv_text.specs.declared.text.Text.{Text}
use Rattle.csv_text.specs.Text.{whole, line, point_lines}
use Rattle.csv_text.specs.Written.{Whole, Cut}
use Rattle.lattice.proofs.Numbers.{points_length}
use Rattle.csv_text.proofs.Signs.{back}
use Rattle.csv_text.proofs.Putting.{whole_append, whole_cut, cut_append}

-- ---- the lines of the first i points
lines_append : (kind : List ℕ) (l m : List Point) → point_lines kind (l ++ m) ≡ point_lines kind l ++ point_lines kind m
lines_append kind [] m = refl
lines_append kind (p ∷ l) m =
    let first = line kind (whole p.x) (whole p.y) in
    ap (λ t. first ++ t) (lines_append kind l m) ∙ sym (append_assoc first (point_lines kind l) (point_lines kind m))

lines_more : (kind : List ℕ) (l : List Point) (i : ℕ) → i < length l
    → point_lines kind (take i l) ++ line kind (whole (point l i).x) (whole (point l i).y) ≡ point_lines kind (take (i + 1) l)
lines_more kind l i h =
    let p = point l i in
    ap (λ t. point_lines kind (take i l) ++ t) (sym (append-nil (line kind (whole p.x) (whole p.y))))
    ∙ sym (lines_append kind (take i l) (p ∷ []))
    ∙ ap (point_lines kind) (sym (take-suc l i origin h) ∙ ap (λ n. take n l) (sym (add-one i)))

-- ---- the numbers of a list, two by two
chunk_point : (list : List ℤ) (k i : ℕ) → i < length (points list) → i < k
    → (get_or (get_or (first_chunks 2 k list) i []) 0 (pos 0) ≡ (point (points list) i).x)
    × (get_or (get_or (first_chunks 2 k list) i []) 1 (pos 0) ≡ (point (points list) i).y)
chunk_point [] k i h g = absurd (omega arith)
chunk_point (x ∷ []) k i h g = absurd (omega arith)
chunk_point (x ∷ y ∷ list) zero i h g = absurd (omega arith)
chunk_point (x ∷ y ∷ list) (suc k) zero h g = (refl, refl)
chunk_point (x ∷ y ∷ list) (suc k) (suc i) h g = chunk_point list k i (omega arith) (omega arith)

-- ---- a turn of the loop over them
module _ (kind : List ℕ) (list : List ℤ) (pairs : List (List ℤ)) (cut : pairs ≡ first_chunks 2 (length list / 2) list)
    (i : ℕ) (h : i < length list / 2) (a : SFits w32 (get_or (get_or pairs i []) 0 (pos 0))) (b : SFits w32 (get_or (get_or pairs i []) 1 (pos 0))) where
  abbrev pub read : List ℕ
  read =
      line kind (whole (to_z w32 (of_z w32 (get_or (get_or pairs i []) 0 (pos 0))))) (whole (to_z w32 (of_z w32 (get_or (get_or pairs i []) 1 (pos 0)))))

  inside : i < length (points list)
  inside = omega (arith, points_length list)

  more : point_lines kind (take i (points list)) ++ read ≡ point_lines kind (take (i + 1) (points list))
  more =
      let p = chunk_point list (length list / 2) i inside h in
      let x = back _ a ∙ ap (λ m. get_or (get_or m i []) 0 (pos 0)) cut ∙ p.0 in
      let y = back _ b ∙ ap (λ m. get_or (get_or m i []) 1 (pos 0)) cut ∙ p.1 in
      (λ j. point_lines kind (take i (points list)) ++ line kind (whole (x j)) (whole (y j))) ∙ lines_more kind (points list) i inside

  module _ {t u : Text} (before : Whole t (point_lines kind (take i (points list))) u) where
    pub whole_point : {v : Text} → Whole u read v → Whole t (point_lines kind (take (i + 1) (points list))) v
    whole_point {v} g = subst (λ text. Whole t text v) more (whole_append before g)

    pub cut_point : {v : Text} → Cut u read v → Cut t (point_lines kind (points list)) v
    cut_point {v} g =
        let rest = drop (i + 1) (points list) in
        let all : point_lines kind (take (i + 1) (points list)) ++ point_lines kind rest ≡ point_lines kind (points list) =
        sym (lines_append kind (take (i + 1) (points list)) rest) ∙ ap (point_lines kind) (take-append-drop (i + 1) (points list)) in
        subst (λ text. Cut t text v) all (cut_append (point_lines kind rest) (subst (λ text. Cut t text v) more (whole_cut before g)))
