-- What `find` tells of an accepted list, and that the promise of Order pins the outcome. Assumes nothing.
use mathlib.Core.Path.{◌≡◌, sym, ◌∙◌, ap, subst}
use mathlib.Core.List.{List}
use Prim.Native.Nat.{ℕ, zero, suc, ◌≤◌}
use lib.ListN.{length, take}
use lib.Seq.{length-take-le}
use lib.IntN.{ℤ}
use Rattle.lattice.specs.Point.{points}
use Rattle.lattice.specs.Hull.{Of}
use Rattle.lattice.specs.Refusal.{accepted, Gives, list_rows}
use Rattle.lattice.specs.Room.{holding}
use Rattle.lattice.proofs.Refusals.{gives_unique}
use Rattle.lattice.proofs.SameMembers.{lists_unique}
use Rattle.lattice.proofs.Tables.{list_passes}
use Rattle.packed.specs.Keys.{KeysOf}
use Rattle.arrange.specs.Space.{Measured}
use Rattle.order.specs.declared.Ordered.{Ordered}
use Rattle.order.specs.Order.{order_rows, OrderResult, OrderPromise}
use Rattle.order.specs.Found.{FindResult, Finds}

-- what `find` tells of an accepted list: its points stand packed, in row order, at the front of keys
pub record FoundKeys (list : List ℤ) (answer : Ordered) (keys : List ℕ) : Type 0 where
  pub passed : Gives (list_rows list accepted) 0 answer.place
  pub measured : Measured list
  pub all : answer.points ≡ length (points list)
  pub inside : answer.points ≤ length keys
  pub long : length (take answer.points keys) ≡ answer.points
  pub keys_are : KeysOf (points list) (take answer.points keys)

pub found_keys : {list : List ℤ} {answer : Ordered} {keys : List ℕ} → answer.number ≡ 0 → Finds list answer keys → FoundKeys list answer keys
found_keys {list} {answer} {keys} e f =
    let g = subst (λ n. Gives (list_rows list accepted) n answer.place) e f.gives in
    let r = subst (λ n. FindResult list n answer.points keys) e f.result in
    record {
      passed = g;
      measured = let p = list_passes list accepted answer.place g in (p.even, p.few);
      all = r.0;
      inside = r.1;
      long = length-take-le answer.points keys r.1;
      keys_are = r.2;
    }

-- ---- any two outcomes coincide
results_equal : (list room : List ℤ) (number count other : ℕ) (after later : List ℤ)
    → OrderResult list room number count after → OrderResult list room number other later → (count ≡ other) × (after ≡ later)
results_equal list room zero count other after later (o, h, n, s) (p, g, m, t) =
    let e = lists_unique (Of (points list)) o p h g in
    (n ∙ ap length e ∙ sym m, s ∙ ap (λ l. holding l room) e ∙ sym t)
results_equal list room (suc number) count other after later h g = (h.0 ∙ sym g.0, h.1 ∙ sym g.1)

pub order_pinned : (list room : List ℤ) (a b : Ordered) (after later : List ℤ)
    → OrderPromise list room a after → OrderPromise list room b later → (a ≡ b) × (after ≡ later)
order_pinned list room a b after later h g =
    let e = gives_unique (order_rows list room accepted) a.number b.number a.place b.place h.gives g.gives in
    let r = results_equal list room b.number a.points b.points after later
    (subst (λ n. OrderResult list room n a.points after) e.0 h.result) g.result in
    ((λ i. record { number = e.0 i; place = e.1 i; points = r.0 i }), r.1)
