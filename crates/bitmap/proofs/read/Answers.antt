-- Each answer is that of the reading by the parts found so far. Assumes nothing.
use Rattle.std.proofs.Common.{◌≡◌, refl, sym, ◌∙◌, true, arith}
use Rattle.bitmap.specs.Picture.{begins_p1}
use Rattle.bitmap.proofs.Pictures.{begins_so, pixel_count, to_raster, too_many, a_picture, an_answer, writable, promised}
use Rattle.bitmap.proofs.read.Goals as goal

pub overflow_mul-pixels : goal.overflow_mul-pixels
overflow_mul-pixels c = record { fits = omega (arith, pixel_count c.args.bytes.now c.in_ok-width.field-0 (sym c.in_ok-width.ensures)) }

pub returns-then-points-gt-MOST : goal.returns-then-points-gt-MOST
returns-then-points-gt-MOST c =
    let bytes = c.args.bytes.now in
    let h = c.in_ok-width.field-0 in
    let begins : begins_p1 bytes ≡ true = begins_so bytes (sym c.starts_with.ensures.value ∙ c.if-not-starts_with.false) in
    let reading = to_raster bytes c.if-bytes-gt-LONGEST.false begins h (sym c.in_ok-width.ensures) in
    promised bytes _ (reading ∙ too_many h.width h.height _ _ c.in_ok-points.ensures c.if-points-gt-MOST.true) _ _ _ refl refl

pub write-requires : goal.write-requires
write-requires c = writable c.args.bytes.now c.in_ok-width.field-0 (sym c.in_ok-width.ensures) _ c.in_ok-points.ensures c.if-points-gt-MOST.false c.args.list.now (omega arith)

pub returns : goal.returns
returns c =
    let bytes = c.args.bytes.now in
    let h = c.in_ok-width.field-0 in
    let begins : begins_p1 bytes ≡ true = begins_so bytes (sym c.starts_with.ensures.value ∙ c.if-not-starts_with.false) in
    let reading = to_raster bytes c.if-bytes-gt-LONGEST.false begins h (sym c.in_ok-width.ensures) in
    promised bytes _ (reading ∙ a_picture h.width h.height _ _ c.in_ok-points.ensures c.if-points-gt-MOST.false) _ _ _
    (an_answer h.width h.height _ _ c.in_ok-points.ensures) c.write.ensures
