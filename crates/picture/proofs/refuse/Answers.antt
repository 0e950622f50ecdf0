-- `picture::refuse` meets its contract: the room suffices for the line of any refusal. Assumes nothing.
use Rattle.std.proofs.Common.{arith}
use Rattle.csv_text.specs.Text.{refused_text}
use Rattle.csv_text.proofs.Sufficing.{room_suffices_refused}
use Rattle.picture.specs.Response.{Refuses}
use Rattle.picture.proofs.Reporting.{writes}
use Rattle.picture.proofs.refuse.Goals as goal

pub returns : goal.returns
returns c =
    writes (Refuses c.args.refusal) _ _ _ _ (λ i. refused_text (c.number.ensures i) (c.place.ensures i))
    (room_suffices_refused c.number.result c.place.result (omega arith) (omega arith)) (omega arith) c.refused.ensures
