-- The definitions as tests that antt computes, each made together with the proof that it says the same. Assumes nothing.
use mathlib.Core.Path.{◌≡◌, refl, sym, ap, subst}
use mathlib.Core.Logic.{◌⊎◌, inl, inr}
use mathlib.Core.Bool.{Bool, true, false, not, cond, ◌&&◌, ◌||◌}
use mathlib.Core.List.{List, [], ◌∷◌}
use lib.Dec.{T, T_not, not_T}
use lib.IntN.{ℤ, pos}
use lib.Signed.{◌≤ℤ◌, ◌<ℤ◌, le_z, lt_z}
use Rattle.whole.proofs.Whole.{antisymmetric, le_of_equal}
use Rattle.lattice.specs.Point.{Point, In, All, Pairs, Triples, Before, row, column}
use Rattle.lattice.specs.Hull.{turn, Between, OnSegment, InTriangle, InHull, member, segment, triangle, Of, Rest, Corner, StartsFirst, CornerList, Missing, Kept}
use Rattle.lattice.proofs.Lists.{either, all_in, in_all}
use Rattle.lattice.proofs.HalfPlane.{point_equal}
use Rattle.lattice.proofs.HullLaws.{hull_larger}

-- a test, and that it passes exactly if P holds
pub record Decided (P : Type 0) : Type 0 where
  pub test : Bool
  pub sound : T test → P
  pub complete : P → T test

-- ---- connectives
module _ {P Q : Type 0} where
  pub and_sound : (a b : Bool) → (T a → P) → (T b → Q) → T (a && b) → P × Q
  and_sound true b f g t = (f tt, g t)
  and_sound false b f g t = absurd t

  pub and_complete : (a b : Bool) → (P → T a) → (Q → T b) → P × Q → T (a && b)
  and_complete true b f g h = g h.1
  and_complete false b f g h = f h.0

  abbrev pub both : Decided P → Decided Q → Decided (P × Q)
  both d e = record {
    test = d.test && e.test;
    sound = and_sound d.test e.test d.sound e.sound;
    complete = and_complete d.test e.test d.complete e.complete;
  }

  pub or_sound : (a b : Bool) → (T a → P) → (T b → Q) → T (a || b) → P ⊎ Q
  or_sound true b f g t = inl (f tt)
  or_sound false b f g t = inr (g t)

  pub or_complete : (a b : Bool) → (P → T a) → (Q → T b) → P ⊎ Q → T (a || b)
  or_complete true b f g h = tt
  or_complete false b f g h = either h (λ p. absurd (f p)) g

  abbrev pub one_of : Decided P → Decided Q → Decided (P ⊎ Q)
  one_of d e = record {
    test = d.test || e.test;
    sound = or_sound d.test e.test d.sound e.sound;
    complete = or_complete d.test e.test d.complete e.complete;
  }

  -- the same in other words
  abbrev pub in_words : (P → Q) → (Q → P) → Decided P → Decided Q
  in_words f g d = record { test = d.test; sound = λ t. f (d.sound t); complete = λ q. d.complete (g q) }

module _ {P : Type 0} where
  abbrev pub negated : Decided P → Decided (P → ⊥)
  negated d = record {
    test = not d.test;
    sound = λ t p. T_not d.test t (d.complete p);
    complete = λ n. not_T d.test (λ t. n (d.sound t));
  }

  abbrev pub by_test : (b : Bool) → (T b → P) → (P → T b) → P ⊎ (P → ⊥)
  by_test true f g = inl (f tt)
  by_test false f g = inr g

  abbrev pub yes_or_no : Decided P → P ⊎ (P → ⊥)
  yes_or_no d = by_test d.test d.sound d.complete

-- ---- numbers and points
abbrev pub le? : (a b : ℤ) → Decided (a ≤ℤ b)
le? a b = record { test = le_z a b; sound = λ t. record { le = t }; complete = λ h. h.le }

abbrev pub lt? : (a b : ℤ) → Decided (a <ℤ b)
lt? a b = record { test = lt_z a b; sound = λ t. record { lt = t }; complete = λ h. h.lt }

abbrev pub equal? : (a b : ℤ) → Decided (a ≡ b)
equal? a b =
    in_words (λ h. antisymmetric h.0 h.1) (λ e. (le_of_equal e, le_of_equal (sym e))) (both (le? a b) (le? b a))

abbrev pub same? : (p q : Point) → Decided (p ≡ q)
same? p q =
    in_words (λ h. point_equal h.0 h.1) (λ e. (ap (λ z. z.x) e, ap (λ z. z.y) e))
    (both (equal? p.x q.x) (equal? p.y q.y))

pub before_words : (a b : Point) → (a.y <ℤ b.y) ⊎ ((a.y ≡ b.y) × (a.x <ℤ b.x)) → Before a b
before_words a b (inl h) = row h
before_words a b (inr h) = column h.0 h.1

pub words_before : (a b : Point) → Before a b → (a.y <ℤ b.y) ⊎ ((a.y ≡ b.y) × (a.x <ℤ b.x))
words_before a b (row h) = inl h
words_before a b (column e h) = inr (e, h)

abbrev pub before? : (a b : Point) → Decided (Before a b)
before? a b =
    in_words (before_words a b) (words_before a b) (one_of (lt? a.y b.y) (both (equal? a.y b.y) (lt? a.x b.x)))

-- ---- lists
abbrev pub in? : (p : Point) (l : List Point) → Decided (In p l)
in? p [] = record { test = false; sound = λ t. t; complete = λ m. m }
in? p (a ∷ l) = one_of (same? p a) (in? p l)

abbrev pub all? : (P : Point → Type 0) → ((a : Point) → Decided (P a)) → (l : List Point) → Decided (All P l)
all? P d [] = record { test = true; sound = λ t. t; complete = λ t. t }
all? P d (a ∷ l) = both (d a) (all? P d l)

abbrev pub pairs? : (R : Point → Point → Type 0) → ((a b : Point) → Decided (R a b)) → (l : List Point) → Decided (Pairs R l)
pairs? R d [] = record { test = true; sound = λ t. t; complete = λ t. t }
pairs? R d (a ∷ l) = both (all? (R a) (d a) l) (pairs? R d l)

abbrev pub triples? : (R : Point → Point → Point → Type 0) → ((a b c : Point) → Decided (R a b c))
    → (l : List Point) → Decided (Triples R l)
triples? R d [] = record { test = true; sound = λ t. t; complete = λ t. t }
triples? R d (a ∷ l) = both (pairs? (R a) (d a) l) (triples? R d l)

-- some point of the list has P
abbrev pub Some : (Point → Type 0) → List Point → Type 0
Some P l = (a : Point) × In a l × P a

module _ (P : Point → Type 0) (a : Point) (l : List Point) where
  pub some_of : P a ⊎ Some P l → Some P (a ∷ l)
  some_of (inl h) = (a, inl refl, h)
  some_of (inr s) = (s.0, inr s.1, s.2)

  pub of_some : Some P (a ∷ l) → P a ⊎ Some P l
  of_some s = either s.1 (λ e. inl (subst P e s.2)) (λ i. inr (s.0, i, s.2))

abbrev pub some? : (P : Point → Type 0) → ((a : Point) → Decided (P a)) → (l : List Point) → Decided (Some P l)
some? P d [] = record { test = false; sound = λ t. absurd t; complete = λ s. s.1 }
some? P d (a ∷ l) = in_words (some_of P a l) (of_some P a l) (one_of (d a) (some? P d l))

-- the points of the list that pass the test
abbrev pub keep : (P : Point → Type 0) → ((a : Point) → Decided (P a)) → List Point → List Point
keep P d [] = []
keep P d (a ∷ l) = cond (d a).test (a ∷ keep P d l) (keep P d l)

module _ (P : Point → Type 0) (d : (a : Point) → Decided (P a)) where
  pub keep_in : (l : List Point) (q : Point) → In q (keep P d l) → In q l × P q
  keep_in [] q m = absurd m
  keep_in (a ∷ l) q m = by_test (d a).test (d a).sound (keep_in l q) m
    where
      by_test : (b : Bool) → (T b → P a) → (In q (keep P d l) → In q l × P q)
          → In q (cond b (a ∷ keep P d l) (keep P d l)) → ((q ≡ a) ⊎ In q l) × P q
      by_test true s r (inl e) = (inl e, subst P (sym e) (s tt))
      by_test true s r (inr i) = (inr (r i).0, (r i).1)
      by_test false s r i = (inr (r i).0, (r i).1)

  pub in_keep : (l : List Point) (q : Point) → In q l → P q → In q (keep P d l)
  in_keep [] q m p = absurd m
  in_keep (a ∷ l) q m p = by_test (d a).test (d a).complete m (λ i. in_keep l q i p)
    where
      by_test : (b : Bool) → (P a → T b) → (q ≡ a) ⊎ In q l → (In q l → In q (keep P d l))
          → In q (cond b (a ∷ keep P d l) (keep P d l))
      by_test true s (inl e) r = inl e
      by_test true s (inr i) r = inr (r i)
      by_test false s (inl e) r = absurd (s (subst P e p))
      by_test false s (inr i) r = r i

  pub pairs_keep : (R : Point → Point → Type 0) (l : List Point) → Pairs R l → Pairs R (keep P d l)
  pairs_keep R [] h = tt
  pairs_keep R (a ∷ l) h = by_test (d a).test (pairs_keep R l h.1)
    where
      by_test : (b : Bool) → Pairs R (keep P d l) → Pairs R (cond b (a ∷ keep P d l) (keep P d l))
      by_test true r = (in_all (R a) (keep P d l) (λ q m. all_in (R a) l h.0 q (keep_in l q m).0), r)
      by_test false r = r

-- ---- the hull
abbrev pub between? : (u v w : ℤ) → Decided (Between u v w)
between? u v w = one_of (both (le? u w) (le? w v)) (both (le? v w) (le? w u))

abbrev pub segment? : (a b p : Point) → Decided (OnSegment a b p)
segment? a b p =
    in_words (λ h. record { straight = h.0; x_between = h.1.0; y_between = h.1.1 })
    (λ h. (h.straight, (h.x_between, h.y_between)))
    (both (equal? (turn a b p) (pos 0)) (both (between? a.x b.x p.x) (between? a.y b.y p.y)))

abbrev pub triangle? : (a b c p : Point) → Decided (InTriangle a b c p)
triangle? a b c p =
    in_words (λ h. record { turned = h.0; left_ab = h.1.0; left_bc = h.1.1.0; left_ca = h.1.1.1 })
    (λ h. (h.turned, (h.left_ab, (h.left_bc, h.left_ca))))
    (both (lt? (pos 0) (turn a b c))
    (both (le? (pos 0) (turn a b p)) (both (le? (pos 0) (turn b c p)) (le? (pos 0) (turn c a p)))))

-- on a segment, in a triangle, of points of s
abbrev Segments : List Point → Point → Type 0
Segments s p = Some (λ a. Some (λ b. OnSegment a b p) s) s

abbrev Triangles : List Point → Point → Type 0
Triangles s p = Some (λ a. Some (λ b. Some (λ c. InTriangle a b c p) s) s) s

module _ (s : List Point) (p : Point) where
  pub hull_words : In p s ⊎ (Segments s p ⊎ Triangles s p) → InHull (Of s) p
  hull_words (inl m) = member m
  hull_words (inr (inl h)) = segment h.0 h.2.0 h.1 h.2.1 h.2.2
  hull_words (inr (inr h)) = triangle h.0 h.2.0 h.2.2.0 h.1 h.2.1 h.2.2.1 h.2.2.2

  pub words_hull : InHull (Of s) p → In p s ⊎ (Segments s p ⊎ Triangles s p)
  words_hull (member m) = inl m
  words_hull (segment a b u v i) = inr (inl (a, u, (b, v, i)))
  words_hull (triangle a b c u v w i) = inr (inr (a, u, (b, v, (c, w, i))))

  abbrev pub segments? : Decided (Segments s p)
  segments? = some? (λ a. Some (λ b. OnSegment a b p) s) (λ a. some? (λ b. OnSegment a b p) (λ b. segment? a b p) s) s

  abbrev pub triangles? : Decided (Triangles s p)
  triangles? =
      some? (λ a. Some (λ b. Some (λ c. InTriangle a b c p) s) s)
      (λ a. some? (λ b. Some (λ c. InTriangle a b c p) s) (λ b. some? (λ c. InTriangle a b c p) (λ c. triangle? a b c p) s) s)
      s

  abbrev pub hull? : Decided (InHull (Of s) p)
  hull? = in_words hull_words words_hull (one_of (in? p s) (one_of segments? triangles?))

-- ---- corners and missing points
module _ (s : List Point) (p : Point) where
  abbrev Other : Point → Type 0
  Other q = q ≡ p → ⊥

  abbrev other? : (q : Point) → Decided (Other q)
  other? q = negated (same? q p)

  abbrev rest : List Point
  rest = keep Other other? s

  pub corner_words : In p s × (InHull (Of rest) p → ⊥) → Corner s p
  corner_words h = record {
    held = h.0;
    outside = λ i. h.1 (hull_larger (Rest s p) (Of rest) (λ q m. in_keep Other other? s q m.0 m.1) p i);
  }

  pub words_corner : Corner s p → In p s × (InHull (Of rest) p → ⊥)
  words_corner h =
      (h.held, λ i. h.outside (hull_larger (Of rest) (Rest s p) (λ q m. keep_in Other other? s q m) p i))

  abbrev pub corner? : Decided (Corner s p)
  corner? = in_words corner_words words_corner (both (in? p s) (negated (hull? rest p)))

  abbrev pub missing? : Decided (Missing s p)
  missing? =
      in_words (λ h. record { within = h.0; lacks = h.1 }) (λ h. (h.within, h.lacks)) (both (hull? s p) (negated (in? p s)))

abbrev pub kept? : (c m : List Point) (p : Point) → Decided (Kept c m p)
kept? c m p =
    in_words (λ h. record { within = h.0; kept = h.1 }) (λ h. (h.within, h.kept)) (both (hull? c p) (negated (in? p m)))

abbrev pub starts_first? : (l : List Point) → Decided (StartsFirst l)
starts_first? [] = record { test = true; sound = λ t. t; complete = λ t. t }
starts_first? (a ∷ l) = all? (Before a) (before? a) l

module _ (s c : List Point) where
  -- a point of s that is a corner is in c
  abbrev Found : Point → Type 0
  Found p = (Corner s p → ⊥) ⊎ In p c

  abbrev found? : (p : Point) → Decided (Found p)
  found? p = one_of (negated (corner? s p)) (in? p c)

  abbrev Left : Point → Point → Point → Type 0
  Left a b d = pos 0 <ℤ turn a b d

  abbrev Words : Type 0
  Words = All Found s × (All (Corner s) c × (Pairs (λ a b. a ≡ b → ⊥) c × (StartsFirst c × Triples Left c)))

  pub list_words : Words → CornerList s c
  list_words h = record {
    every = λ p k. either (all_in Found s h.0 p k.held) (λ n. absurd (n k)) (λ i. i);
    only = all_in (Corner s) c h.1.0;
    once = h.1.1.0;
    start = h.1.1.1.0;
    three = h.1.1.1.1;
  }

  pub words_list : CornerList s c → Words
  words_list h = (
    in_all Found s (λ p m. either (yes_or_no (corner? s p)) (λ k. inr (h.every p k)) (λ n. inl n)),
    (in_all (Corner s) c h.only, (h.once, (h.start, h.three))),
  )

  abbrev pub corner_list? : Decided (CornerList s c)
  corner_list? =
      in_words list_words words_list
      (both (all? Found found? s)
      (both (all? (Corner s) (corner? s) c)
      (both (pairs? (λ a b. a ≡ b → ⊥) (λ a b. negated (same? a b)) c)
      (both (starts_first? c) (triples? Left (λ a b d. lt? (pos 0) (turn a b d)) c)))))
