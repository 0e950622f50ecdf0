-- Any two outcomes that `grain_figures` allows coincide, struct and rooms. Assumes nothing.
use mathlib.Core.Path.{◌≡◌, sym, ◌∙◌, ap}
use mathlib.Core.List.{List}
use lib.IntN.{ℤ}
use Rattle.figures.specs.declared.Figured.{Figured}
use Rattle.figures.specs.Figures.{FiguresPromise}
use Rattle.figures.proofs.Promised.{figures_pinned}
use Rattle.grain_c.specs.declared.Figures.{Figures}
use Rattle.grain_c.specs.Block.{block_of, FiguresBlockPromise}

-- the struct of an answer is one that Figures may have for other languages
pub block_told : (list ordered corners ordered' corners' : List ℤ) (answer told : Figured) → answer ≡ told
    → FiguresPromise list ordered corners answer ordered' corners' → FiguresBlockPromise list ordered corners (block_of told) ordered' corners'
block_told list ordered corners ordered' corners' answer told e h = record { answer = answer; promised = h; block_is = sym (ap block_of e) }

pub figures_block_pinned : (list ordered corners : List ℤ) (a b : Figures) (ordered' ordered'' corners' corners'' : List ℤ)
    → FiguresBlockPromise list ordered corners a ordered' corners' → FiguresBlockPromise list ordered corners b ordered'' corners''
    → (a ≡ b) × (ordered' ≡ ordered'') × (corners' ≡ corners'')
figures_block_pinned list ordered corners a b ordered' ordered'' corners' corners'' h g =
    let p = figures_pinned list ordered corners h.answer g.answer ordered' ordered'' corners' corners'' h.promised g.promised in
    (h.block_is ∙ ap block_of p.0 ∙ sym g.block_is, p.1, p.2)
