use Rattle.model.proofs.PlainLaws.{plain_lawful}
use Rattle.model.proofs.plain.PlainModelSteppedModel.names.Goals as goal

pub returns-clause-lawful : goal.returns-clause-lawful
returns-clause-lawful g c = plain_lawful _ (g.S.Store.sound _)
