-- The example of document 01, byte for byte: the ring of three by three pixels; and a declined picture. Assumes nothing.
use mathlib.Core.Path.{◌≡◌, refl}
use mathlib.Core.List.{[], ◌∷◌}
use Rattle.lattice.specs.Grains.{at}
use Rattle.csv_text.specs.Text.{text_of, refused_text}

pub ring_text : text_of (at 0 0 ∷ at 2 0 ∷ at 2 2 ∷ at 0 2 ∷ []) (at 1 1 ∷ []) 8
    ≡
    -- kind,x,y
    107 ∷ 105 ∷ 110 ∷ 100 ∷ 44 ∷ 120 ∷ 44 ∷ 121 ∷ 13 ∷ 10
    -- corner,0,0
    ∷ 99 ∷ 111 ∷ 114 ∷ 110 ∷ 101 ∷ 114 ∷ 44 ∷ 48 ∷ 44 ∷ 48 ∷ 13 ∷ 10
    -- corner,2,0
    ∷ 99 ∷ 111 ∷ 114 ∷ 110 ∷ 101 ∷ 114 ∷ 44 ∷ 50 ∷ 44 ∷ 48 ∷ 13 ∷ 10
    -- corner,2,2
    ∷ 99 ∷ 111 ∷ 114 ∷ 110 ∷ 101 ∷ 114 ∷ 44 ∷ 50 ∷ 44 ∷ 50 ∷ 13 ∷ 10
    -- corner,0,2
    ∷ 99 ∷ 111 ∷ 114 ∷ 110 ∷ 101 ∷ 114 ∷ 44 ∷ 48 ∷ 44 ∷ 50 ∷ 13 ∷ 10
    -- missing,1,1
    ∷ 109 ∷ 105 ∷ 115 ∷ 115 ∷ 105 ∷ 110 ∷ 103 ∷ 44 ∷ 49 ∷ 44 ∷ 49 ∷ 13 ∷ 10
    -- total,8,1
    ∷ 116 ∷ 111 ∷ 116 ∷ 97 ∷ 108 ∷ 44 ∷ 56 ∷ 44 ∷ 49 ∷ 13 ∷ 10
    ∷ []
ring_text = refl

-- refused,22,65536
pub refused_text_lem : refused_text 22 65536
    ≡ 114 ∷ 101 ∷ 102 ∷ 117 ∷ 115 ∷ 101 ∷ 100 ∷ 44 ∷ 50 ∷ 50 ∷ 44 ∷ 54 ∷ 53 ∷ 53 ∷ 51 ∷ 54 ∷ 13 ∷ 10 ∷ []
refused_text_lem = refl
