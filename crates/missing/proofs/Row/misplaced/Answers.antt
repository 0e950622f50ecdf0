-- Where the first or the last is misplaced, the search finds one. Assumes nothing.
use Rattle.std.proofs.Common.{rules, subst, sym, ℕ, List, ℤ, Bool, true, false, ◌≡◌}
use Rattle.std.proofs.lemmas.Iterator.{first_from_Range}
use Rattle.packed.specs.Packed.{Tells}
use Rattle.missing.specs.Missing.{MisplacedAt}
use Rattle.missing.proofs.Going.{told_yes, told_no, end_found}
use Rattle.missing.proofs.Row.misplaced.Goals as goal

yes : (corners missing : List ℤ) (i : ℕ) (b : Bool) → Tells b (MisplacedAt corners missing i) → true ≡ b → MisplacedAt corners missing i
yes corners missing i b h e = told_yes (MisplacedAt corners missing i) b h e

no : (corners missing : List ℤ) (i : ℕ) (b : Bool) → Tells b (MisplacedAt corners missing i) → false ≡ b → MisplacedAt corners missing i → ⊥
no corners missing i b h e = told_no (MisplacedAt corners missing i) b h e

pub returns-then-ends_misplaced : goal.returns-then-ends_misplaced
returns-then-ends_misplaced c =
    let r = c.args.self.now in
    let Fault : ℕ → Type 0 = MisplacedAt r.corners.now r.missing.now in
    end_found r.corners.now r.missing.now r.begin r.end c.if-ends_misplaced.ensures c.find.result
    (first_from_Range _ _ _ c.find.result Fault (λ i. Fault i → ⊥) c.find.ensures.ran
    (λ i q k. let m : Fault k.shown.now = search (rules, yes) in subst Fault k.shows m)
    (λ i q k. (search rules, let n : Fault k.shown.now → ⊥ = search (rules, no) in λ m. n (subst Fault (sym k.shows) m))))
